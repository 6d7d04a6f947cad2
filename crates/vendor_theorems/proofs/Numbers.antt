-- Room enough for the writer, and which numbers the two calls give: VendorWriteRoomIsEnough and VendorNumbers, proved. Assumes nothing.
use mathlib.Core.Path.{◌≡◌, refl, subst}
use mathlib.Core.List.{List, [], ◌∷◌}
use mathlib.Core.Logic.{◌⊎◌, inl, inr}
use Prim.Native.Nat.{ℕ}
use native.Mathlib.Omega.{arith}
use Rattle.options.specs.KindClaims.{OneOf, FromTo}
use Rattle.options.specs.Answers.{declined, Filled}
use Rattle.options.specs.Writing.{option_bytes}
use Rattle.options.specs.Vendor.{vendor_records_value, vendor_write_value}
use Rattle.options.specs.VendorClaims.{filled, ReadsItems, read_17, read_11, reads, VendorRow, row_12, row_10, row_13, WritesItems, write_16, write_record, write_11, writes, VendorWriteRoomIsEnough, VendorNumbers}
use Rattle.theorems.proofs.View.{clash}
use Rattle.vendor_theorems.proofs.Items.{vendor_reader_is_correct}
use Rattle.vendor_theorems.proofs.Writing.{vendor_writer_is_correct}

pub vendor_write_room_is_enough : VendorWriteRoomIsEnough
vendor_write_room_is_enough s out rs all short right fits room = (vendor_writer_is_correct s out (filled (option_bytes rs) out) all).1 (writes rs short right (omega arith) fits)

of_reader : {f old : List ℕ} {w : Filled} (n p : ℕ) → ReadsItems f old w → w.answer ≡ declined n p → OneOf n (11 ∷ 17 ∷ [])
of_reader n p (read_17 x) e = inr (inl (cc))
of_reader n p (read_11 xs b x y l) e = inl (cc)
of_reader n p (reads xs b x y l) e = clash (cc)

of_record : {s : List ℕ} {n i q : ℕ} → VendorRow s n i q → FromTo 10 13 n
of_record (row_12 b x) = (omega arith, omega arith)
of_record (row_10 b x) = (omega arith, omega arith)
of_record (row_13 b x) = (omega arith, omega arith)

when_of_writer : {s out : List ℕ} {w : Filled} (n p : ℕ) → WritesItems s out w → w.answer ≡ declined n p → FromTo 10 13 n ⊎ (n ≡ 16)
when_of_writer n p (write_16 l) e = inr (cc)
when_of_writer n p (write_record {n = k} l r) e = let z : k ≡ n = cc in inl (subst (FromTo 10 13) z (of_record r.applies))
when_of_writer n p (write_11 rs l r x) e = let z : 11 ≡ n = cc in inl (omega arith, omega arith)
when_of_writer n p (writes rs l r x y) e = clash (cc)

pub vendor_numbers : VendorNumbers
vendor_numbers = (
  (λ f old n p e. of_reader n p ((vendor_reader_is_correct f old (vendor_records_value f old)).0 refl) e),
  (λ s out n p all e. when_of_writer n p ((vendor_writer_is_correct s out (vendor_write_value s out) all).0 refl) e),
)
