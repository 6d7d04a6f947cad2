-- THE ANSWER OF THE WRITER, which depends on the sheet, on the permission and on how long the buffer is. Assumes nothing.
use Rattle.std.specs.Prelude.{◌≡◌, List, ℕ, length, Result, Ok, Err}
use Rattle.options.specs.Kinds.{kinds}
use Rattle.options.specs.SheetWalk.{records_left}
use Rattle.options.specs.Writing as options
use Rattle.sheet.specs.Judge.{single_to}
use Rattle.refusal.specs.declared.Refusal.{Refusal}
use Rattle.refusal.specs.Refused.{number_of}
use Rattle.plan.specs.declared.Choice as code

-- the plan, or number and place of the refusal; and up to which place of the sheet each record is one piece
pub data Choice : Type 0 where
  Plan : (plan single : ℕ) → Choice
  Refused : (number place : ℕ) → Choice

-- the same as the code gives it
abbrev pub chosen_by : Result code.Choice Refusal → Choice
chosen_by (Ok c) = Plan c.plan c.single
chosen_by (Err r) = Refused (number_of r.rule) r.place

-- "The first that fits is used, and its number is the answer"; else number and place of the refusal. `single` is as in the verdict on the sheet
abbrev pub answer_of : (single : ℕ) → options.Wrote → Choice
answer_of single (options.wrote p w) = Plan p single
answer_of single (options.declined n p) = Refused n p

abbrev pub single_of : List ℕ → ℕ
single_of s = single_to 0 (records_left s 0)

-- what the writer answers for every buffer of n bytes
abbrev pub Answers : List ℕ → ℕ → ℕ → Choice → Type 0
Answers s n permission r = (m : List ℕ) → length m ≡ n → r ≡ answer_of (single_of s) (options.writer kinds s m permission)

-- each case with its own numbers: the plan used, or number and place
abbrev pub ChoiceByCase : Type 0
ChoiceByCase = (single plan n p : ℕ) (w : List ℕ) → (answer_of single (options.wrote plan w) ≡ Plan plan single) × (answer_of single (options.declined n p) ≡ Refused n p)

-- each case of what the code gives, of which nothing is lost
abbrev pub ChosenByCase : Type 0
ChosenByCase =
    ((c : code.Choice) → chosen_by (Ok c) ≡ Plan c.plan c.single)
    × ((r : Refusal) → chosen_by (Err r) ≡ Refused (number_of r.rule) r.place)
    × ((c d : Result code.Choice Refusal) → chosen_by c ≡ chosen_by d → c ≡ d)

-- no refusal has number 0
abbrev pub RefusalsAreNumbered : Type 0
RefusalsAreNumbered = (s m : List ℕ) (permission n p : ℕ) → options.writer kinds s m permission ≡ options.declined n p → n ≡ 0 → ⊥
