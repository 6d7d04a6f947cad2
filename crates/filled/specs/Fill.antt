-- WHAT IS GIVEN IN A LENT BUFFER: the contract of every call that fills one. Assumes nothing.
use Rattle.std.specs.Prelude.{◌≡◌, List, ◌↔◌, ℕ, Result, Ok, Err}
use Rattle.options.specs.Answers.{given, declined, Filled}
use Rattle.options.specs.Answers as answers
use Rattle.refusal.specs.declared.Refusal.{Refusal}
use Rattle.refusal.specs.Refused.{number_of}

-- the answer, case by case: "how many bytes it gave", or "number and place"
abbrev pub given_of : Result ℕ Refusal → answers.Given
given_of (Ok n) = given n
given_of (Err r) = declined (number_of r.rule) r.place

-- the answer r, and the buffer afterwards, are what the definition gives
pub record Fills (w : Filled) (r : Result ℕ Refusal) (after : List ℕ) : Type 0 where
  pub answer : given_of r ≡ w.answer
  pub buffer : after ≡ w.buffer

-- case by case: so many bytes are given, or number and place are those of the definition's refusal
abbrev pub FillsByCase : Type 0
FillsByCase =
    (w : Filled) (after : List ℕ) → ((n : ℕ) → Fills w (Ok n) after ↔ (w ≡ record { answer = given n; buffer = after }))
    × ((r : Refusal) → Fills w (Err r) after ↔ (w ≡ record { answer = declined (number_of r.rule) r.place; buffer = after }))
