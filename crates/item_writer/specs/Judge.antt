-- The verdict on a sheet of items or of sub-options, as a number and a place: no public contract but that of `proved` rests on this. Assumes nothing.
use Rattle.std.specs.Prelude.{◌≡◌, List, [], ◌∷◌, Bool, true, false, cond, ℕ, ◌≤◌, length, ltb, Result, Ok, Err}
use Rattle.options.specs.Message.{Rec}
use Rattle.options.specs.Reading.{among}
use Rattle.options.specs.SheetWalk.{Sheet, sound, faulty}
use Rattle.options.specs.Answers.{Filled, unfilled}
use Rattle.options.specs.Writing.{option_bytes, longest_sheet}
use Rattle.options.specs.Vendor.{vendor_sheet, sheet_given}
use Rattle.options.specs.Relay.{relay_sheet}
use Rattle.refusal.specs.declared.Refusal.{Refusal}
use Rattle.refusal.specs.Refused.{number_of}

-- number and place of the first faulty record, or 0 and 0, and then the bytes that the items take
pub record Judged : Type 0 where
  pub number : ℕ
  pub place : ℕ
  pub total : ℕ

-- a sheet of items, which pads and END mark, or of sub-options
abbrev pub sheet_of : Bool → List ℕ → Sheet
sheet_of true s = vendor_sheet s
sheet_of false s = relay_sheet s

-- "10 (tag 0 or 255)"; of sub-options "no tag is a 10"
abbrev pub wrong_tag_of : Bool → ℕ → Bool
wrong_tag_of true tag = among tag (0 ∷ 255 ∷ [])
wrong_tag_of false tag = false

-- then "13 (over 255)", or 0
abbrev pub broken_rule_value : Bool → ℕ → ℕ → ℕ
broken_rule_value b tag size = cond (wrong_tag_of b tag) 10 (cond (ltb 255 size) 13 0)

abbrev pub faulty_at : ℕ → ℕ → Judged
faulty_at n p = record { number = n; place = p; total = 0 }

-- where there is no refusal, 0 and 0, and the bytes that the items take
abbrev pub judge_of : Sheet → Judged
judge_of (faulty n p) = faulty_at n p
judge_of (sound rs) = record { number = 0; place = 0; total = length (option_bytes rs) }

-- the same as the code gives it
abbrev pub judged_by : Result ℕ Refusal → Judged
judged_by (Ok n) = record { number = 0; place = 0; total = n }
judged_by (Err r) = faulty_at (number_of r.rule) r.place

-- each case, member by member; nothing is lost
abbrev pub JudgedByCase : Type 0
JudgedByCase =
    ((n : ℕ) → judged_by (Ok n) ≡ record { number = 0; place = 0; total = n })
    × ((r : Refusal) → judged_by (Err r) ≡ record { number = number_of r.rule; place = r.place; total = 0 })
    × ((a b : Result ℕ Refusal) → judged_by a ≡ judged_by b → a ≡ b)

-- what is given for such a sheet
abbrev pub write_value : Bool → List ℕ → List ℕ → Filled
write_value b s out = cond (ltb longest_sheet (length s)) (unfilled 16 (length s) out) (sheet_given (sheet_of b s) out)

-- each record's length goes into one byte
abbrev pub AllBrief : List Rec → Type 0
AllBrief [] = Unit {0}
AllBrief (r ∷ rs) = (length r.body ≤ 255) × AllBrief rs
