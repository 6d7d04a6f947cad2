-- WHAT A WALK OVER THE ITEMS OF VENDOR INFORMATION TELLS: the contract of `items`. Assumes nothing.
use Rattle.std.specs.Prelude.{◌≡◌, IfErr, Bool, true, false, ℕ, length, Result, Ok, Err}
use Rattle.options.specs.Answers.{record_bytes}
use Rattle.options.specs.Vendor.{Items, listed, past, item_records}
use Rattle.refusal.specs.declared.Refusal.{Refusal}
use Rattle.refusal.specs.declared.Rule.TheVariants.{ItemTruncated}

-- whether an item runs past, and where; else the bytes that all take as records
pub record Measured : Type 0 where
  pub past : Bool
  pub place : ℕ
  pub size : ℕ

-- the offset of an item that runs past; else what all items take as records
abbrev pub measure_of : Items → Measured
measure_of (past i) = record { past = true; place = i; size = 0 }
measure_of (listed xs) = record { past = false; place = 0; size = length (record_bytes (item_records xs)) }

-- the same as the code gives it
abbrev pub measured_by : Result ℕ Refusal → Measured
measured_by (Ok n) = record { past = false; place = 0; size = n }
measured_by (Err r) = record { past = true; place = r.place; size = 0 }

-- each case, member by member; of refusals by the rule that items are refused by nothing is lost
abbrev pub MeasuredByCase : Type 0
MeasuredByCase =
    ((n : ℕ) → measured_by (Ok n) ≡ record { past = false; place = 0; size = n })
    × ((r : Refusal) → measured_by (Err r) ≡ record { past = true; place = r.place; size = 0 })
    × ((a b : Result ℕ Refusal) → IfErr a (λ r. r.rule ≡ ItemTruncated) → IfErr b (λ r. r.rule ≡ ItemTruncated) → measured_by a ≡ measured_by b → a ≡ b)
