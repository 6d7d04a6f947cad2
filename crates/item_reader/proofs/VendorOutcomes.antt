-- What the reader of vendor information gives, by what the walk told. Assumes nothing.
use mathlib.Core.Path.{◌≡◌, refl, sym, ap, ap₂, ◌∙◌}
use mathlib.Core.Bool.{true, false}
use mathlib.Core.List.{List}
use Prim.Native.Nat.{ℕ, ◌≤◌, ◌<◌}
use native.Mathlib.Omega.{arith}
use lib.ListN.{length}
use Rattle.options.specs.Reading.{parse}
use Rattle.options.specs.Answers.{record_bytes, declined, filled_with}
use Rattle.options.specs.Vendor.{Item, Items, listed, past, items_in, item_records, vendor_records_value}
use Rattle.theorems.proofs.View.{clash}
use Rattle.message.specs.Items.{Measured, measure_of, measured_by}
use Rattle.buffer.specs.Written.{Written}
use Rattle.buffer.proofs.Writing.{written_front}
use Rattle.filled.specs.Fill.{Fills}
use Rattle.std.specs.Prelude.{Ok, Err}
use Rattle.refusal.specs.declared.Refusal.{Refusal}
use Rattle.refusal.specs.declared.Rule.TheVariants.{NoRoom, ItemTruncated}
use Rattle.refusal.specs.Refused.{number_of}
use Rattle.filled.proofs.Answers.{fills_small, fills_enough}
use Rattle.item_reader.specs.Laid.{item_bytes, NonePast}
use Rattle.item_reader.proofs.Listed.{listed_bytes, listed_whole}

-- no item runs past
record Lists (f : List ℕ) (n : ℕ) : Type 0 where
  items : List Item
  reads : items_in (parse 0 0 f) ≡ listed items
  size_is : n ≡ length (record_bytes (item_records items))
  bytes_are : item_bytes (parse 0 0 f) ≡ record_bytes (item_records items)
  none_past : NonePast (parse 0 0 f)

module _ (f old : List ℕ) where
  pub fills_past : (e : Refusal) → e.rule ≡ ItemTruncated → measured_by (Err e) ≡ measure_of (items_in (parse 0 0 f)) → Fills (vendor_records_value f old) (Err e) old
  unfolding vendor_records_value
  fills_past e k h = go (items_in (parse 0 0 f)) refl
    where
      go : (w : Items) → items_in (parse 0 0 f) ≡ w → Fills (vendor_records_value f old) (Err e) old
      go (past i) q = let p : e.place ≡ i = ap (λ (x : Measured). x.place) (h ∙ ap measure_of q) in rw q (record { answer = ap₂ declined (ap number_of k) p; buffer = refl })
      go (listed xs) q = let z : true ≡ false = ap (λ (x : Measured). x.past) (h ∙ ap measure_of q) in clash (cc)

  module _ (n : ℕ) (e : measured_by (Ok n) ≡ measure_of (items_in (parse 0 0 f))) where
    lists : Lists f n
    lists = go (items_in (parse 0 0 f)) refl
      where
        go : (w : Items) → items_in (parse 0 0 f) ≡ w → Lists f n
        go (past i) q = let z : true ≡ false = sym (ap (λ (x : Measured). x.past) (e ∙ ap measure_of q)) in clash (cc)
        go (listed xs) q = record { items = xs; reads = q; size_is = ap (λ (x : Measured). x.size) (e ∙ ap measure_of q); bytes_are = listed_bytes (parse 0 0 f) xs q; none_past = listed_whole (parse 0 0 f) xs q }

    -- what is laid takes that much
    pub laid_size : length (item_bytes (parse 0 0 f)) ≡ n
    laid_size = ap length lists.bytes_are ∙ sym lists.size_is

    pub no_past : NonePast (parse 0 0 f)
    no_past = lists.none_past

    is_filled : vendor_records_value f old ≡ filled_with (record_bytes (item_records lists.items)) old
    unfolding vendor_records_value
    is_filled = rw lists.reads refl

    pub fills_short : (r : Refusal) → r ≡ record { rule = NoRoom; place = length old } → length old < n → Fills (vendor_records_value f old) (Err r) old
    fills_short r q l = fills_small (vendor_records_value f old) (record_bytes (item_records lists.items)) old is_filled r q (omega (arith, l, lists.size_is))

    pub fills_given : n ≤ length old → (r : ℕ) (after : List ℕ) → Written old 0 (item_bytes (parse 0 0 f)) r after → Fills (vendor_records_value f old) (Ok r) after
    fills_given l r after p =
        let q = written_front (rw lists.bytes_are at p) in
        fills_enough (vendor_records_value f old) (record_bytes (item_records lists.items)) old is_filled r after (omega (arith, l, lists.size_is)) q.0 q.1
