-- What C gets of relay information, by case. Assumes nothing.
use mathlib.Core.Path.{◌≡◌, refl, sym, ap, ap₂, ◌∙◌}
use mathlib.Core.List.{List, [], ◌∷◌}
use mathlib.Core.Bool.{Bool, true, false, cond}
use mathlib.Core.Logic.{◌↔◌}
use Prim.Native.Nat.{ℕ, ◌+◌, ◌≤◌}
use native.Mathlib.Omega.{arith}
use lib.Dec.{eqb, ltb}
use lib.ListN.{length}
use Rattle.options.specs.Answers.{record_bytes, filled_with}
use Rattle.options.specs.SubOptions.{sub_options}
use Rattle.options.specs.Vendor.{Item, Items, listed, past, items_in, item_records}
use Rattle.options.specs.Relay as asked
use Rattle.std.specs.Prelude.{Result}
use Rattle.refusal.specs.declared.Refusal.{Refusal}
use Rattle.filled.specs.Plain.{Kept}
use Rattle.filled.proofs.Kept.{declined_kept, given_kept}
use Rattle.theorems.proofs.View.{clash}
use Rattle.filled.specs.Fill.{given_of}
use Rattle.item_reader.specs.declared.Read.{Read}
use Rattle.item_reader.specs.Reads.{ReadAs, given_in, circuit_in, remote_in}
use Rattle.item_reader.specs.Walked.{id_of}
use Rattle.dhcpopt_reader.specs.Relay.{plain_id, plain_relay, read_as, RelayIsByCase, AbsentIffNoStart, RelayKept}

pub relay_is_by_case : RelayIsByCase
relay_is_by_case b n p s l t m = record { both_named = refl; no_remote = refl; no_circuit = refl; neither = refl; refused = refl }

-- from the answer that the code holds
pub plain_read : (x : asked.RelayRead) (y : Result Read Refusal) (after : List ℕ) → ReadAs x y after → plain_relay (read_as (given_of (given_in y)) [] (id_of (circuit_in y)) (id_of (remote_in y))) ≡ plain_relay x
plain_read x y after r = rw (r.fills.answer, r.circuit_is, r.remote_is) refl

-- ---- what a refusal leaves

read_in : (w : Items) (old : List ℕ) → Kept (asked.relay_in w old).filled old
read_in (past i) old = declined_kept 8 i old (λ z. omega arith)
read_in (listed xs) old = go (ltb (length old) (length (record_bytes (item_records xs))))
  where
    go : (b : Bool) → Kept (cond b (asked.no_relay 11 (length old) old) (record { filled = filled_with (record_bytes (item_records xs)) old; circuit = asked.id_in 1 xs; remote = asked.id_in 2 xs })).filled old
    go true = declined_kept 11 (length old) old (λ z. omega arith)
    go false = given_kept (record_bytes (item_records xs)) old

pub relay_kept : RelayKept
unfolding asked.relay_records_value
relay_kept [] old = declined_kept 8 0 old (λ z. omega arith)
relay_kept (b ∷ bs) old = read_in (items_in (sub_options 0 0 (b ∷ bs))) old

-- ---- data never start before 2

abbrev FromTwo : asked.Id → Type 0
FromTwo asked.absent = Unit {0}
FromTwo (asked.named s n) = 2 ≤ s

first_from_two : (c : ℕ) (xs : List Item) → FromTwo (asked.id_in c xs)
first_from_two c [] = tt
first_from_two c (x ∷ xs) = go (eqb x.item.tag c) (first_from_two c xs)
  where
    go : (b : Bool) → FromTwo (asked.id_in c xs) → FromTwo (cond b (asked.named (x.offset + 2) (length x.item.body)) (asked.id_in c xs))
    go true h = omega arith
    go false h = h

abbrev read_or : Bool → List Item → List ℕ → asked.RelayRead
read_or b xs old = cond b (asked.no_relay 11 (length old) old) (record { filled = filled_with (record_bytes (item_records xs)) old; circuit = asked.id_in 1 xs; remote = asked.id_in 2 xs })

ids_in : (w : Items) (old : List ℕ) → FromTwo (asked.relay_in w old).circuit × FromTwo (asked.relay_in w old).remote
ids_in (past i) old = (tt, tt)
ids_in (listed xs) old = go (ltb (length old) (length (record_bytes (item_records xs))))
  where
    go : (b : Bool) → FromTwo (read_or b xs old).circuit × FromTwo (read_or b xs old).remote
    go true = (tt, tt)
    go false = (first_from_two 1 xs, first_from_two 2 xs)

ids_from_two : (f old : List ℕ) → FromTwo (asked.relay_records_value f old).circuit × FromTwo (asked.relay_records_value f old).remote
unfolding asked.relay_records_value
ids_from_two [] old = (tt, tt)
ids_from_two (b ∷ bs) old = ids_in (items_in (sub_options 0 0 (b ∷ bs))) old

no_start : (x : asked.Id) → FromTwo x → ((plain_id x).start ≡ 0 ↔ (x ≡ asked.absent))
no_start asked.absent h = (λ e. refl, λ e. refl)
no_start (asked.named s n) h = (λ e. absurd (omega (arith, e, h)), λ e. clash (cc))

pub absent_iff_no_start : AbsentIffNoStart
absent_iff_no_start f old =
    let h = ids_from_two f old in
    (no_start (asked.relay_records_value f old).circuit h.0, no_start (asked.relay_records_value f old).remote h.1)
