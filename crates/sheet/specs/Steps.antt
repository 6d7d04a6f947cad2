-- THE RECORD AT A PLACE OF A SHEET, as one step of the walk gives it. Assumes nothing.
use Rattle.std.specs.Prelude.{◌≡◌, List, ℕ, ◌+◌, length, take, drop}
use Rattle.options.specs.SheetWalk.{Walk, all_read, cut_at, read_at, records_from}
use Rattle.sheet.specs.declared.Step.{Step}
use Rattle.sheet.specs.declared.Step.TheVariants.{Record, Cut, End}

-- what a walk begins with
abbrev pub step_of : Walk → Step
step_of all_read = End
step_of (cut_at i) = Cut
step_of (read_at i r rest) = Record r.tag (length r.body)

-- nothing is lost: the walk from a place on can be had back from its step there
abbrev pub walk_by : List ℕ → ℕ → Step → Walk
walk_by s at End = all_read
walk_by s at Cut = cut_at at
walk_by s at (Record c n) = read_at at (record { tag = c; body = take n (drop (at + 3) s) }) (records_from (at + 3 + n) 0 (drop (at + 3 + n) s))

abbrev pub StepIsTheWalk : Type 0
StepIsTheWalk = (s : List ℕ) (at : ℕ) → walk_by s at (step_of (records_from at 0 (drop at s))) ≡ records_from at 0 (drop at s)
