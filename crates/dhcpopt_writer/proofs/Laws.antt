-- What C gets of the writer, case by case; and what a refusal leaves. Assumes nothing.
use mathlib.Core.Bool.{true, false}
use mathlib.Core.Path.{◌≡◌, refl}
use mathlib.Core.List.{List, [], ◌∷◌}
use Prim.Native.Nat.{ℕ}
use native.Mathlib.Omega.{arith}
use lib.Dec.{ltb}
use lib.ListN.{length}
use Rattle.options.specs.Writing as options
use Rattle.options.specs.Writing.{option_bytes}
use Rattle.options.specs.SheetWalk.{Sheet, sound, faulty}
use Rattle.options.specs.Answers.{unfilled, filled_with}
use Rattle.options.specs.Vendor.{longest_vendor, sheet_given, vendor_sheet, vendor_write_value}
use Rattle.options.specs.Relay.{relay_given, relay_sheet, relay_write_value}
use Rattle.filled.specs.Plain.{Kept}
use Rattle.filled.proofs.Kept.{declined_kept, either_kept, given_kept}
use Rattle.item_writer.proofs.Ruled.{sheet_number}
use Rattle.plan.specs.Answer.{answer_of}
use Rattle.dhcpopt_writer.specs.Plain.{plain_wrote, plain_of, WroteByCase, VendorKept, RelayKept}

-- the answer inside says the same
pub plain_answer_lem : (single : ℕ) (w : options.Wrote) → plain_of (answer_of single w) ≡ plain_wrote w
plain_answer_lem single (options.wrote p b) = refl
plain_answer_lem single (options.declined n p) = refl

pub wrote_by_case : WroteByCase
wrote_by_case plan n p w = (refl, refl)

sheet_kept : (s out : List ℕ) (x : Sheet) → vendor_sheet s ≡ x → Kept (sheet_given x out) out
sheet_kept s out (faulty n p) e = declined_kept n p out (sheet_number true s n p e)
sheet_kept s out (sound rs) e =
    either_kept (ltb longest_vendor (length (option_bytes rs))) (unfilled 11 (length out) out) (filled_with (option_bytes rs) out) out (declined_kept 11 (length out) out (λ z. omega arith)) (given_kept (option_bytes rs) out)

pub vendor_kept : VendorKept
unfolding vendor_write_value
vendor_kept s out =
    either_kept (ltb options.longest_sheet (length s)) (unfilled 16 (length s) out) (sheet_given (vendor_sheet s) out) out (declined_kept 16 (length s) out (λ z. omega arith)) (sheet_kept s out (vendor_sheet s) refl)

relay_sheet_kept : (s out : List ℕ) (x : Sheet) → relay_sheet s ≡ x → Kept (relay_given x out) out
relay_sheet_kept s out (faulty n p) e = declined_kept n p out (sheet_number false s n p e)
relay_sheet_kept s out (sound []) e = declined_kept 8 0 out (λ z. omega arith)
relay_sheet_kept s out (sound (r ∷ rs)) e =
    either_kept (ltb longest_vendor (length (option_bytes (r ∷ rs)))) (unfilled 11 (length out) out) (filled_with (option_bytes (r ∷ rs)) out) out (declined_kept 11 (length out) out (λ z. omega arith)) (given_kept (option_bytes (r ∷ rs)) out)

pub relay_kept : RelayKept
unfolding relay_write_value
relay_kept s out =
    either_kept (ltb options.longest_sheet (length s)) (unfilled 16 (length s) out) (relay_given (relay_sheet s) out) out (declined_kept 16 (length s) out (λ z. omega arith)) (relay_sheet_kept s out (relay_sheet s) refl)
