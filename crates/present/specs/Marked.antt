-- THE CODES PRESENT, AS PLAIN NUMBERS: document 01's answer with its values. The public contract rests on this file. Assumes nothing.
use Rattle.std.specs.Prelude.{◌≡◌, List, ℕ, ◌≤◌, Result, Ok, Err}
use Rattle.options.specs.Reading.{read_message, refused}
use Rattle.options.specs.Answers.{Verdict, passed, refused_with, Present}
use Rattle.options.specs.CodeSet.{no_codes}
use Rattle.refusal.specs.declared.Refusal.{Refusal}
use Rattle.refusal.specs.Refused as rules
use Rattle.present.specs.declared.Codes.{Codes}

-- the set of the codes, how many they are, the lowest of them (0 if none), and number and place of a refusal: then the others are 0
pub record Shown : Type 0 where
  pub words : List ℕ
  pub count : ℕ
  pub lowest : ℕ
  pub number : ℕ
  pub place : ℕ

-- number and place of a refusal, 0 and 0 where there is none
abbrev pub number_of : Verdict → ℕ
number_of passed = 0
number_of (refused_with n p) = n

abbrev pub place_of : Verdict → ℕ
place_of passed = 0
place_of (refused_with n p) = p

abbrev pub codes_of : Present → Shown
codes_of r = record { words = r.words; count = r.count; lowest = r.lowest; number = number_of r.verdict; place = place_of r.verdict }

-- what the code gives, case by case
abbrev pub shown_by : Result Codes Refusal → Shown
shown_by (Ok c) = record { words = c.words; count = c.count; lowest = c.lowest; number = 0; place = 0 }
shown_by (Err r) = record { words = no_codes; count = 0; lowest = 0; number = rules.number_of r.rule; place = r.place }

-- each case with its own numbers: number and place are 0 and 0 where the message passed
abbrev pub CodesByCase : Type 0
CodesByCase =
    (words : List ℕ) (count lowest n p : ℕ)
    → (codes_of (record { verdict = passed; words = words; count = count; lowest = lowest }) ≡ record { words = words; count = count; lowest = lowest; number = 0; place = 0 })
    × (codes_of (record { verdict = refused_with n p; words = words; count = count; lowest = lowest }) ≡ record { words = words; count = count; lowest = lowest; number = n; place = p })

-- the same of what the code gives: codes are those of a message that passed, and a refusal has the number and the place that the rules give it
abbrev pub ShownByCase : Type 0
ShownByCase =
    ((c : Codes) → shown_by (Ok c) ≡ codes_of (record { verdict = passed; words = c.words; count = c.count; lowest = c.lowest }))
    × ((r : Refusal) → shown_by (Err r) ≡ codes_of (record { verdict = refused_with (rules.number_of r.rule) r.place; words = no_codes; count = 0; lowest = 0 }))

-- no refusal of a message has the number 0, so 0 can stand for none
abbrev pub RefusedByANumber : Type 0
RefusedByANumber = (m : List ℕ) (n p : ℕ) → read_message m ≡ refused n p → 1 ≤ n
