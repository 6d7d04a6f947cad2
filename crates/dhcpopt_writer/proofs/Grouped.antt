-- No refusal of the calls on grouped sheets has the number 0, and none changes a byte. Assumes nothing.
use mathlib.Core.Path.{◌≡◌, refl, subst}
use mathlib.Core.List.{List}
use Prim.Native.Nat.{ℕ, ◌≤◌}
use native.Mathlib.Omega.{arith}
use Rattle.options.specs.Refusals.{When}
use Rattle.options.specs.Kinds.{kinds}
use Rattle.options.specs.Answers.{Given, Filled}
use Rattle.options.specs.SheetRefusals.{SheetRow, row_12, row_10, row_13, row_7, row_8_9}
use Rattle.options.specs.Grouped.{choice, move, go_back}
use Rattle.options.specs.GroupedClaims.{CorrectFillBy, ChosenSheet, ChoiceRow, MoveRow, BackRow}
use Rattle.options.specs.GroupedClaims as claims
use Rattle.filled.specs.Plain.{Kept}
use Rattle.grouped_theorems.proofs.Calls.{choice_is_correct, back_is_correct}
use Rattle.grouped_theorems.proofs.Moving.{move_is_correct}
use Rattle.groups.proofs.Numbers.{file_numbered}
use Rattle.dhcpopt_writer.specs.Grouped.{ChoiceKept, MoveKept, BackKept}

-- ---- No row has the number 0

choice_numbered : {f class old : List ℕ} {n p : ℕ} {w : When} → ChoiceRow f class old n p w → n ≡ 0 → ⊥
choice_numbered (claims.ChoiceRow.of_file x) e = file_numbered x e
choice_numbered (claims.ChoiceRow.row_11 s l) e = omega arith

back_numbered : {f old : List ℕ} {n p : ℕ} {w : When} → BackRow f old n p w → n ≡ 0 → ⊥
back_numbered (claims.BackRow.of_file x) e = file_numbered x e
back_numbered (claims.BackRow.row_22 h) e = omega arith
back_numbered (claims.BackRow.row_11 s l) e = omega arith

writer_numbered : {s : List ℕ} {n i rank : ℕ} → SheetRow kinds s n i rank → rank ≤ 1 → n ≡ 0 → ⊥
writer_numbered (row_12 b x) l e = omega arith
writer_numbered (row_10 b x t) l e = omega arith
writer_numbered (row_13 b x) l e = omega arith
writer_numbered (row_7 b x y) l e = omega arith
writer_numbered (row_8_9 b x y) l e = omega arith

move_numbered : {s old : List ℕ} {n p : ℕ} {w : When} → MoveRow s old n p w → n ≡ 0 → ⊥
move_numbered (claims.MoveRow.row_16 h) e = omega arith
move_numbered (claims.MoveRow.when_of_writer x l) e = writer_numbered x l e
move_numbered (claims.MoveRow.row_11 g l) e = omega arith

-- ---- So refusal 0 stands for none; and a refusal leaves the buffer as it was

module _ (R : ℕ → ℕ → When → Type 0) (B : List ℕ → Type 0) (old : List ℕ) (numbered : (n p : ℕ) (w : When) → R n p w → n ≡ 0 → ⊥) where
  kept : (w : Filled) → CorrectFillBy R B old w.answer w.buffer → Kept w old
  kept w c k q e =
      let d = subst (λ (g : Given). CorrectFillBy R B old g w.buffer) e c in
      (numbered k q d.0.when d.0.applies, d.1)

pub choice_kept : ChoiceKept
choice_kept f class old a =
    kept (ChoiceRow f class old) (ChosenSheet f class) old (λ n p w x. choice_numbered x) (choice f class old) ((choice_is_correct f class old (choice f class old) a).0 refl)

pub move_kept : MoveKept
move_kept s old a = kept (MoveRow s old) _ old (λ n p w x. move_numbered x) (move s old) ((move_is_correct s old (move s old) a).0 refl)

pub back_kept : BackKept
back_kept f old a = kept (BackRow f old) _ old (λ n p w x. back_numbered x) (go_back f old) ((back_is_correct f old (go_back f old) a).0 refl)
