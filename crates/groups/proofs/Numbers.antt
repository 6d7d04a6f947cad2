-- What C gets of a verdict, case by case: no row of a file has the number 0. Assumes nothing.
use mathlib.Core.Path.{◌≡◌, refl, sym, ap, ◌∙◌, subst}
use mathlib.Core.List.{List}
use mathlib.Core.Bool.{Bool, true, false, cond}
use Prim.Native.Nat.{ℕ}
use native.Mathlib.Omega.{arith}
use lib.Dec.{eqb}
use Rattle.options.specs.Refusals.{When}
use Rattle.options.specs.GroupedFile.{FileRow}
use Rattle.options.specs.GroupedClaims.{CorrectCheck}
use Rattle.grouped_theorems.proofs.Rows.{row_number, check_says}
use Rattle.std.specs.Prelude.{Result, Ok, Err}
use Rattle.options.specs.Answers.{Verdict, passed, refused_with}
use Rattle.options.specs.Grouped.{check}
use Rattle.options.specs.KindClaims.{AllBytes}
use Rattle.refusal.specs.declared.Refusal.{Refusal}
use Rattle.refusal.specs.declared.Rule.{Rule}
use Rattle.refusal.specs.declared.Rule.TheVariants.{SheetTooLong, BadGroup, BadCode, TooDeep}
use Rattle.refusal.specs.Refused.{number_of}
use Rattle.groups.specs.Check.{verdict_by, CheckKept, CheckedByCase, AnswersByCase, AnswersComeBack}
use Rattle.groups.proofs.Laws.{answer_back}

some_number : (a b c d : Bool) → ◌≡◌ {A = ℕ} (cond a 16 (cond b (cond c 20 (cond d 10 21)) 20)) 0 → ⊥
some_number true b c d e = omega arith
some_number false true true d e = omega arith
some_number false true false true e = omega arith
some_number false true false false e = omega arith
some_number false false c d e = omega arith

pub file_numbered : {f : List ℕ} {n p : ℕ} {w : When} → FileRow f n p w → n ≡ 0 → ⊥
file_numbered {w = w} x e = some_number (eqb w.part 1) (eqb w.part 2) (eqb w.number 0) (eqb w.number 1) (sym (row_number x).0 ∙ e)

pub check_kept : CheckKept
check_kept f n p a e z = file_numbered (subst (CorrectCheck f) e (check_says f a)).applies z

pub checked_by_case : CheckedByCase
checked_by_case = (refl, refl, λ n p. (refl, refl))

pub answers_by_case : AnswersByCase
answers_by_case = (λ x. (refl, refl), λ r. (refl, refl))

-- ---- Each verdict is one of the code's

by_rule : (k : Rule) (n p : ℕ) → n ≡ number_of k → (c : Result (Unit {0}) Refusal) × (verdict_by c ≡ refused_with n p)
by_rule k n p e = (Err (record { rule = k; place = p }), ap (λ (i : ℕ). refused_with i p) (sym e))

by_number : (a b c d : Bool) (n p : ℕ) → n ≡ cond a 16 (cond b (cond c 20 (cond d 10 21)) 20) → (x : Result (Unit {0}) Refusal) × (verdict_by x ≡ refused_with n p)
by_number true b c d n p e = by_rule SheetTooLong n p e
by_number false true true d n p e = by_rule BadGroup n p e
by_number false true false true n p e = by_rule BadCode n p e
by_number false true false false n p e = by_rule TooDeep n p e
by_number false false c d n p e = by_rule BadGroup n p e

by_row : {f : List ℕ} {n p : ℕ} {w : When} → FileRow f n p w → (c : Result (Unit {0}) Refusal) × (verdict_by c ≡ refused_with n p)
by_row {n = n} {p = p} {w = w} x = by_number (eqb w.part 1) (eqb w.part 2) (eqb w.number 0) (eqb w.number 1) n p (row_number x).0

answer_told : (f : List ℕ) → AllBytes f → (c : Result (Unit {0}) Refusal) × (verdict_by c ≡ check f)
answer_told f a = go (check f) refl
  where
    go : (v : Verdict) → check f ≡ v → (c : Result (Unit {0}) Refusal) × (verdict_by c ≡ v)
    go passed e = (Ok tt, refl)
    go (refused_with n p) e = by_row (subst (CorrectCheck f) e (check_says f a)).applies

pub answers_come_back : AnswersComeBack
answers_come_back = (answer_back, answer_told)
