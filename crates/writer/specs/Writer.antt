-- WHAT THE WRITER ANSWERS, and what it leaves in the buffer. Assumes nothing.
use Rattle.std.specs.Prelude.{◌≡◌, List, ◌↔◌, ℕ, Ok, Err}
use Rattle.options.specs.Writing as options
use Rattle.refusal.specs.declared.Refusal.{Refusal}
use Rattle.refusal.specs.Refused.{number_of}
use Rattle.plan.specs.Answer.{Choice, Plan, Refused, chosen_by, answer_of, single_of}
use Rattle.plan.specs.declared.Choice as code

-- what a call answers for the sheet s, and what it leaves in the buffer m
pub record Gives (s : List ℕ) (w : options.Wrote) (m : List ℕ) (r : Choice) (m' : List ℕ) : Type 0 where
  pub answer : r ≡ answer_of (single_of s) w
  pub buffer : m' ≡ options.buffer_after m w

-- case by case: a plan is the one used, and the buffer is what was written; number and place are those of the refusal, and the buffer is as it was
abbrev pub GivesByCase : Type 0
GivesByCase =
    (s : List ℕ) (w : options.Wrote) (m after : List ℕ)
    → ((plan single : ℕ) → Gives s w m (Plan plan single) after ↔ ((w ≡ options.wrote plan after) × (single ≡ single_of s)))
    × ((n p : ℕ) → Gives s w m (Refused n p) after ↔ ((w ≡ options.declined n p) × (after ≡ m)))

-- the same of what the code gives
abbrev pub WritesByCase : Type 0
WritesByCase =
    (s : List ℕ) (w : options.Wrote) (m after : List ℕ)
    → ((c : code.Choice) → Gives s w m (chosen_by (Ok c)) after ↔ ((w ≡ options.wrote c.plan after) × (c.single ≡ single_of s)))
    × ((r : Refusal) → Gives s w m (chosen_by (Err r)) after ↔ ((w ≡ options.declined (number_of r.rule) r.place) × (after ≡ m)))
