-- Demand 1 of the calls on relay information. Assumes nothing.
use mathlib.Core.Path.{◌≡◌, refl, sym, ap, ap₂, ◌∙◌}
use mathlib.Core.Bool.{Bool, true, false, cond}
use mathlib.Core.List.{List, [], ◌∷◌, ◌++◌}
use mathlib.Core.Logic.{◌↔◌}
use Prim.Native.Nat.{ℕ}
use lib.Dec.{ltb}
use lib.ListN.{length, drop}
use Rattle.options.specs.Answers.{Given, given, declined, Filled, unfilled, filled_with, record_bytes}
use Rattle.options.specs.SubOptions.{sub_options}
use Rattle.options.specs.Vendor.{Item, Items, listed, past, items_in, item_records}
use Rattle.options.specs.Relay.{RelayRead, no_relay, id_in, relay_in, relay_records_value, relay_write_value}
use Rattle.options.specs.RelayClaims.{refused_read, refused_write}
use Rattle.theorems.proofs.View.{clash}
use Rattle.relay_theorems.proofs.Reading.{relay_reader_is_correct}
use Rattle.relay_theorems.proofs.Writing.{relay_writer_is_correct}
use Rattle.filled.specs.Plain.{plain_filled}
use Rattle.dhcpopt_reader.specs.Relay.{plain_id, plain_relay}
use Rattle.dhcpopt_reader.proofs.Relay.{relay_kept}
use Rattle.dhcpopt_writer.proofs.Laws as writes
use Rattle.c_theorems.specs.Refusals.{FillRefused}
use Rattle.c_theorems.specs.RelayRefusals.{RelayReadRow, RelayRefusedBy, RelayRecordsRefusedForC, RelayWriteRow, RelayWriteRefusedForC}
use Rattle.c_theorems.proofs.Fills.{refused_only_by}

-- ---- Reading: a refusal names no id

in_whole : (w : Items) (old : List ℕ) (n p : ℕ) → (relay_in w old).filled.answer ≡ declined n p → relay_in w old ≡ refused_read n p old
in_whole (past i) old n p e =
    let a : 8 ≡ n = cc in
    let b : i ≡ p = cc in
    ap₂ (λ (x y : ℕ). refused_read x y old) a b
in_whole (listed xs) old n p e = go (ltb (length old) (length (record_bytes (item_records xs)))) e
  where
    go : (t : Bool)
        → (cond t (no_relay 11 (length old) old) (record { filled = cond t (unfilled 11 (length old) old) (record { answer = given (length (record_bytes (item_records xs))); buffer = record_bytes (item_records xs) ++ drop (length (record_bytes (item_records xs))) old }); circuit = id_in 1 xs; remote = id_in 2 xs })).filled.answer ≡ declined n p
        → cond t (no_relay 11 (length old) old) (record { filled = cond t (unfilled 11 (length old) old) (record { answer = given (length (record_bytes (item_records xs))); buffer = record_bytes (item_records xs) ++ drop (length (record_bytes (item_records xs))) old }); circuit = id_in 1 xs; remote = id_in 2 xs }) ≡ refused_read n p old
    go true z =
        let a : 11 ≡ n = cc in
        let b : length old ≡ p = cc in
        ap₂ (λ (x y : ℕ). refused_read x y old) a b
    go false z = clash (cc)

whole : (f old : List ℕ) (n p : ℕ) → (relay_records_value f old).filled.answer ≡ declined n p → relay_records_value f old ≡ refused_read n p old
unfolding relay_records_value
whole [] old n p e =
    let a : 8 ≡ n = cc in
    let b : 0 ≡ p = cc in
    ap₂ (λ (x y : ℕ). refused_read x y old) a b
whole (x ∷ xs) old n p e = in_whole (items_in (sub_options 0 0 (x ∷ xs))) old n p e

rows : (f old : List ℕ) (n p : ℕ) → ((relay_records_value f old).filled ≡ record { answer = declined n p; buffer = old }) ↔ RelayReadRow f old n p
rows f old n p =
    let right = relay_reader_is_correct f old (refused_read n p old) in
    ((λ e. right.0 (whole f old n p (ap (λ (y : Filled). y.answer) e))), (λ x. ap (λ (y : RelayRead). y.filled) (right.1 x)))

module _ (f old : List ℕ) where
  filled_refused : FillRefused (RelayReadRow f old) old (plain_filled (relay_records_value f old).filled.answer) (relay_records_value f old).filled.buffer
  filled_refused = refused_only_by (RelayReadRow f old) old (relay_records_value f old).filled (rows f old) (relay_kept f old) (plain_filled (relay_records_value f old).filled.answer) (relay_records_value f old).filled.buffer (refl, refl)

  unnamed : ((plain_filled (relay_records_value f old).filled.answer).refusal ≡ 0 → ⊥)
      → (plain_id (relay_records_value f old).circuit ≡ record { start = 0; length = 0 }) × (plain_id (relay_records_value f old).remote ≡ record { start = 0; length = 0 })
  unnamed h = go (relay_records_value f old).filled.answer refl
    where
      go : (g : Given) → (relay_records_value f old).filled.answer ≡ g
          → (plain_id (relay_records_value f old).circuit ≡ record { start = 0; length = 0 }) × (plain_id (relay_records_value f old).remote ≡ record { start = 0; length = 0 })
      go (given k) e = absurd (h (ap (λ (g : Given). (plain_filled g).refusal) e))
      go (declined k q) e =
          let w = whole f old k q e in
          (ap (λ (y : RelayRead). plain_id y.circuit) w, ap (λ (y : RelayRead). plain_id y.remote) w)

pub relay_records_refused : RelayRecordsRefusedForC
relay_records_refused f old r after c =
    let x = filled_refused f old in
    rw (c.0, c.1)
    (record {
      by_rows = x.by_rows;
      as_it_was = x.as_it_was;
      no_circuit = λ h. let u = unnamed f old h in rw u.0 (refl, refl);
      no_remote = λ h. let u = unnamed f old h in rw u.1 (refl, refl);
      else_no_place = x.else_no_place;
    })

-- ---- Writing

pub relay_write_refused : RelayWriteRefusedForC
relay_write_refused s out all = refused_only_by (RelayWriteRow s out) out (relay_write_value s out) (λ n p. relay_writer_is_correct s out (refused_write n p out) all) (writes.relay_kept s out)
