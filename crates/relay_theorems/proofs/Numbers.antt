-- Room enough for both calls, and which numbers they give: RelayRoomIsEnough, RelayWriteRoomIsEnough and RelayNumbers, proved. Assumes nothing.
use mathlib.Core.Path.{◌≡◌, refl, ap, subst}
use mathlib.Core.List.{List, [], ◌∷◌}
use mathlib.Core.Logic.{◌⊎◌, inl, inr}
use Prim.Native.Nat.{ℕ, ◌*◌, ◌≤◌}
use native.Mathlib.Omega.{arith}
use lib.ListN.{length, length-append}
use Rattle.options.specs.Message.{Rec}
use Rattle.options.specs.KindClaims.{OneOf, FromTo}
use Rattle.options.specs.Answers.{record_bytes, declined, Filled}
use Rattle.options.specs.Writing.{option_bytes}
use Rattle.options.specs.VendorClaims.{filled}
use Rattle.options.specs.Relay.{RelayRead, id_in, relay_records_value, relay_write_value}
use Rattle.options.specs.RelayClaims.{ReadsRelay, read_none, read_8, read_11, reads, RelayRow, row_12, row_13, WritesRelay, write_16, write_record, write_8, write_11, writes, RelayRoomIsEnough, RelayWriteRoomIsEnough, RelayNumbers}
use Rattle.theorems.proofs.View.{clash}
use Rattle.theorems.proofs.SubOptionRow.{the_bytes}
use Rattle.vendor_theorems.proofs.Writing.{placed}
use Rattle.relay_theorems.proofs.Bytes.{the_records}
use Rattle.relay_theorems.proofs.Ids.{id_right}
use Rattle.relay_theorems.proofs.Reading.{relay_reader_is_correct}
use Rattle.relay_theorems.proofs.Writing.{relay_writer_is_correct}

room : (rs : List Rec) → length (record_bytes rs) ≤ 2 * length (option_bytes rs)
unfolding record_bytes option_bytes
room [] = omega arith
room (r ∷ rs) = omega (arith, room rs, length-append r.body (record_bytes rs), length-append r.body (option_bytes rs))

pub relay_room_is_enough : RelayRoomIsEnough
relay_room_is_enough f old r rs b e q l =
    let h : length b ≤ length old = omega (arith, room (r ∷ rs), ap length (the_bytes e), ap length (the_records q)) in
    let w : RelayRead = record { filled = filled b old; circuit = id_in 1 (placed 0 (r ∷ rs)); remote = id_in 2 (placed 0 (r ∷ rs)) } in
    ap (λ (x : RelayRead). x.filled) ((relay_reader_is_correct f old w).1 (reads r rs b e q h (id_right 1 (r ∷ rs)) (id_right 2 (r ∷ rs))))

pub relay_write_room_is_enough : RelayWriteRoomIsEnough
relay_write_room_is_enough s out r rs b all short right e fits room = (relay_writer_is_correct s out (filled b out) all).1 (writes r rs b short right e (omega arith) fits)

of_reader : {f old : List ℕ} {w : RelayRead} (n p : ℕ) → ReadsRelay f old w → w.filled.answer ≡ declined n p → OneOf n (8 ∷ 11 ∷ [])
of_reader n p (read_none x) e = inl (cc)
of_reader n p (read_8 x) e = inl (cc)
of_reader n p (read_11 r rs b x y l) e = inr (inl (cc))
of_reader n p (reads r rs b x y l i j) e = clash (cc)

of_record : {s : List ℕ} {n i q : ℕ} → RelayRow s n i q → FromTo 11 13 n
of_record (row_12 b x) = (omega arith, omega arith)
of_record (row_13 b x) = (omega arith, omega arith)

when_of_writer : {s out : List ℕ} {w : Filled} (n p : ℕ) → WritesRelay s out w → w.answer ≡ declined n p → OneOf n (8 ∷ 16 ∷ []) ⊎ FromTo 11 13 n
when_of_writer n p (write_16 l) e = inl (inr (inl (cc)))
when_of_writer n p (write_record {n = k} l r) e = let z : k ≡ n = cc in inr (subst (FromTo 11 13) z (of_record r.applies))
when_of_writer n p (write_8 z) e = inl (inl (cc))
when_of_writer n p (write_11 r rs b l x y o) e = let z : 11 ≡ n = cc in inr (omega arith, omega arith)
when_of_writer n p (writes r rs b l x y o i) e = clash (cc)

pub relay_numbers : RelayNumbers
relay_numbers = (
  (λ f old n p e. of_reader n p ((relay_reader_is_correct f old (relay_records_value f old)).0 refl) e),
  (λ s out n p all e. when_of_writer n p ((relay_writer_is_correct s out (relay_write_value s out) all).0 refl) e),
)
