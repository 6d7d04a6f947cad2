-- One step of the walk over a sheet: the walk can be had back from it, and a record that it gives lies within the sheet. Assumes nothing.
use mathlib.Core.Path.{◌≡◌, refl, sym, ap, ◌∙◌, subst}
use mathlib.Core.List.{List}
use Prim.Native.Nat.{ℕ, ◌+◌, ◌≤◌, ◌<◌}
use lib.ListN.{length, get_or, take, drop}
use Rattle.options.specs.SheetWalk.{Walk, read_at, records_from}
use Rattle.writing_theorems.proofs.SheetView.{rec}
use Rattle.writing_theorems.proofs.SheetSteps.{At, at_end_lem, at_cut, at_record, at_place}
use Rattle.sheet.specs.Steps.{step_of, walk_by, StepIsTheWalk}
use Rattle.sheet.specs.declared.Step.{Step}
use Rattle.sheet.specs.declared.Step.TheVariants.{Record, Cut, End}

back : {s : List ℕ} {at : ℕ} {w : Walk} → At s at w → walk_by s at (step_of w) ≡ w
back (at_end_lem h) = refl
back (at_cut h) = refl
back {s} {at} (at_record h l) = ap (λ (k : ℕ). read_at at (rec (get_or s at 0) (take k (drop (at + 3) s))) (records_from (at + 3 + k) 0 (drop (at + 3 + k) s))) l

pub step_is_the_walk : StepIsTheWalk
step_is_the_walk s at = back (at_place s at)

-- where the step is, and where its record ends
abbrev pub StepWithin : List ℕ → ℕ → Step → Type 0
StepWithin s at End = length s ≤ at
StepWithin s at Cut = at < length s
StepWithin s at (Record c n) = (at + 3 + n ≤ length s) × (length (take n (drop (at + 3) s)) ≡ n)

within : {s : List ℕ} {at : ℕ} {w : Walk} → At s at w → StepWithin s at (step_of w)
within (at_end_lem h) = h
within (at_cut h) = h
within {s} {at} (at_record h l) = subst (λ (k : ℕ). (at + 3 + k ≤ length s) × (length (take k (drop (at + 3) s)) ≡ k)) (sym l) (h, l)

-- what a caller knows of a step that was taken
pub stepped : (s : List ℕ) (at : ℕ) (x : Step) → x ≡ step_of (records_from at 0 (drop at s)) → (records_from at 0 (drop at s) ≡ walk_by s at x) × StepWithin s at x
stepped s at x e = (sym (step_is_the_walk s at) ∙ ap (walk_by s at) (sym e), subst (StepWithin s at) (sym e) (within (at_place s at)))
