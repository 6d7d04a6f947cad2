-- The answer case by case; no refusal has number 0. Assumes nothing.
use mathlib.Core.Path.{◌≡◌, refl, sym, ap, ap₂, ◌∙◌}
use mathlib.Core.List.{List, [], ◌∷◌}
use mathlib.Core.Bool.{Bool, true, false, cond}
use Prim.Native.Nat.{ℕ, ◌-◌}
use native.Mathlib.Omega.{arith}
use lib.ListN.{length}
use lib.Dec.{eqb, ltb}
use borrow.Author.Tests.{eqb-false}
use Rattle.options.specs.Message.{Rec}
use Rattle.options.specs.Kinds.{kinds}
use Rattle.options.specs.SheetWalk.{records_left}
use Rattle.options.specs.Writing.{split_all, Wrote, wrote, declined, plan_fits, written, plans, try_plans, sheet, in_plan_order, after_sheet, writer}
use Rattle.theorems.proofs.View.{clash}
use Rattle.sheet.specs.Judge.{judge_of}
use Rattle.sheet.proofs.Verdicts.{verdict_settles}
use Rattle.std.specs.Prelude.{Result, Ok, Err}
use Rattle.refusal.specs.declared.Refusal.{Refusal}
use Rattle.refusal.specs.Refused.{number_of}
use Rattle.refusal.proofs.Rules.{same_refusal}
use Rattle.plan.specs.declared.Choice as code
use Rattle.plan.specs.Answer.{chosen_by, ChoiceByCase, ChosenByCase, RefusalsAreNumbered}

same : (c d : Result code.Choice Refusal) → chosen_by c ≡ chosen_by d → c ≡ d
same (Ok c) (Ok d) e =
    let p : c.plan ≡ d.plan = cc in
    let n : c.single ≡ d.single = cc in
    ap₂ (λ (x y : ℕ). Ok (record { plan = x; single = y })) p n
same (Ok c) (Err s) e = clash (cc)
same (Err r) (Ok d) e = clash (cc)
same (Err r) (Err s) e =
    let n : number_of r.rule ≡ number_of s.rule = cc in
    let p : r.place ≡ s.place = cc in
    ap Err (same_refusal r s n p)

pub choice_by_case : ChoiceByCase
choice_by_case single plan n p w = (refl, refl)

pub chosen_by_case : ChosenByCase
chosen_by_case = (λ c. refl, λ r. refl, same)

-- what declines does so by a number other than 0
abbrev Numbered : Wrote → Type 0
Numbered w = (n p : ℕ) → w ≡ declined n p → n ≡ 0 → ⊥

by_number : (k i : ℕ) → (k ≡ 0 → ⊥) → Numbered (declined k i)
by_number k i z n p e y = let j : k ≡ n = cc in z (j ∙ y)

or : (b : Bool) (k i : ℕ) (w : Wrote) → (b ≡ true → k ≡ 0 → ⊥) → (b ≡ false → Numbered w) → Numbered (cond b (declined k i) w)
or true k i w z h = by_number k i (z refl)
or false k i w z h = h refl

tried : (ps m : List ℕ) (rs : List Rec) → Numbered (try_plans ps m rs)
unfolding try_plans
tried [] m rs = by_number 11 (length m) (λ z. omega arith)
tried (p ∷ ps) m rs = go (plan_fits p (length m - 240) rs) (tried ps m rs)
  where
    go : (b : Bool) → Numbered (try_plans ps m rs) → Numbered (cond b (wrote p (written p m rs)) (try_plans ps m rs))
    go true ih = λ n i e. clash (cc)
    go false ih = ih

judged : (s m : List ℕ) (permission : ℕ) → Numbered (after_sheet m (plans permission) (in_plan_order (sheet kinds s)))
judged s m permission n p e = go (eqb (judge_of s).number 0) refl n p (sym (verdict_settles s m (plans permission)) ∙ e)
  where
    go : (b : Bool) → eqb (judge_of s).number 0 ≡ b → Numbered (cond b (try_plans (plans permission) m (split_all (records_left s 0))) (declined (judge_of s).number (judge_of s).place))
    go true q = tried (plans permission) m (split_all (records_left s 0))
    go false q = by_number (judge_of s).number (judge_of s).place (eqb-false _ _ q)

pub refusals_are_numbered : RefusalsAreNumbered
unfolding writer
refusals_are_numbered s m permission =
    or (ltb (length m) 240) 1 (length m) _ (λ b z. omega arith) (λ b.
    or (ltb 1472 (length m)) 2 (length m) _ (λ b z. omega arith) (λ b.
    or (ltb 3 permission) 15 0 _ (λ b z. omega arith) (λ b.
    or (ltb 4096 (length s)) 16 (length s) _ (λ b z. omega arith) (λ b.
    judged s m permission))))
