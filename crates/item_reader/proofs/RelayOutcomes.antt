-- What the reader of relay information gives, by what the walk told. Assumes nothing.
use mathlib.Core.Path.{◌≡◌, refl, sym, ap, ap₂, ◌∙◌}
use mathlib.Core.Bool.{true, false}
use mathlib.Core.List.{List, [], ◌∷◌}
use Prim.Native.Nat.{ℕ, ◌≤◌, ◌<◌}
use native.Mathlib.Omega.{arith}
use lib.ListN.{length}
use borrow.Author.Tests.{lt-ltb, le-ltb}
use Rattle.options.specs.SubOptions.{sub_options}
use Rattle.options.specs.Answers.{record_bytes, declined}
use Rattle.options.specs.Vendor.{Item, Items, listed, past, items_in, item_records}
use Rattle.options.specs.Relay as asked
use Rattle.theorems.proofs.View.{clash}
use Rattle.buffer.specs.Written.{Written}
use Rattle.buffer.proofs.Writing.{written_front}
use Rattle.std.specs.Prelude.{Ok, Err}
use Rattle.refusal.specs.declared.Refusal.{Refusal}
use Rattle.refusal.specs.declared.Rule.TheVariants.{NoRoom, BadLength}
use Rattle.refusal.specs.Refused.{number_of}
use Rattle.item_reader.specs.declared.Read.{Read}
use Rattle.item_reader.specs.Walked.{Walked, id_of, walked_of, walked_by}
use Rattle.item_reader.specs.Reads.{ReadAs}
use Rattle.item_reader.specs.Laid.{item_bytes, NonePast}
use Rattle.item_reader.proofs.Listed.{listed_bytes, listed_whole}

pub none_at_all : (f old : List ℕ) (e : Refusal) → e ≡ record { rule = BadLength; place = 0 } → length f ≡ 0 → ReadAs (asked.relay_records_value f old) (Err e) old
unfolding asked.relay_records_value
none_at_all [] old e q h = record { fills = record { answer = ap₂ declined (ap (λ (x : Refusal). number_of x.rule) q) (ap (λ (x : Refusal). x.place) q); buffer = refl }; circuit_is = refl; remote_is = refl }
none_at_all (b ∷ bs) old e q h = absurd (omega arith)

walked : (f old : List ℕ) → (length f ≡ 0 → ⊥) → asked.relay_records_value f old ≡ asked.relay_in (items_in (sub_options 0 0 f)) old
unfolding asked.relay_records_value
walked [] old h = absurd (h refl)
walked (b ∷ bs) old h = refl

-- none runs past
record Lists (f : List ℕ) (t : Read) : Type 0 where
  items : List Item
  reads : items_in (sub_options 0 0 f) ≡ listed items
  size_is : t.size ≡ length (record_bytes (item_records items))
  circuit_is : id_of t.circuit ≡ asked.id_in 1 items
  remote_is : id_of t.remote ≡ asked.id_in 2 items
  bytes_are : item_bytes (sub_options 0 0 f) ≡ record_bytes (item_records items)
  none_past : NonePast (sub_options 0 0 f)

module _ (f old : List ℕ) (some : length f ≡ 0 → ⊥) where
  pub reads_past : (e : Refusal) → e.rule ≡ BadLength → walked_by (Err e) ≡ walked_of (items_in (sub_options 0 0 f)) → ReadAs (asked.relay_records_value f old) (Err e) old
  reads_past e k h = go (items_in (sub_options 0 0 f)) refl
    where
      go : (w : Items) → items_in (sub_options 0 0 f) ≡ w → ReadAs (asked.relay_records_value f old) (Err e) old
      go (past i) q =
          let p : e.place ≡ i = ap (λ (x : Walked). x.place) (h ∙ ap walked_of q) in
          rw (walked f old some, q) (record { fills = record { answer = ap₂ declined (ap number_of k) p; buffer = refl }; circuit_is = refl; remote_is = refl })
      go (listed xs) q = let z : true ≡ false = ap (λ (x : Walked). x.past) (h ∙ ap walked_of q) in clash (cc)

  module _ (t : Read) (e : walked_by (Ok t) ≡ walked_of (items_in (sub_options 0 0 f))) where
    lists : Lists f t
    lists = go (items_in (sub_options 0 0 f)) refl
      where
        go : (w : Items) → items_in (sub_options 0 0 f) ≡ w → Lists f t
        go (past i) q = let z : true ≡ false = sym (ap (λ (x : Walked). x.past) (e ∙ ap walked_of q)) in clash (cc)
        go (listed xs) q =
            let w : walked_by (Ok t) ≡ walked_of (listed xs) = e ∙ ap walked_of q in
            record {
              items = xs;
              reads = q;
              size_is = ap (λ (x : Walked). x.size) w;
              circuit_is = ap (λ (x : Walked). x.circuit) w;
              remote_is = ap (λ (x : Walked). x.remote) w;
              bytes_are = listed_bytes (sub_options 0 0 f) xs q;
              none_past = listed_whole (sub_options 0 0 f) xs q;
            }

    pub laid_size : length (item_bytes (sub_options 0 0 f)) ≡ t.size
    laid_size = ap length lists.bytes_are ∙ sym lists.size_is

    pub no_past : NonePast (sub_options 0 0 f)
    no_past = lists.none_past

    pub reads_short : (r : Refusal) → r ≡ record { rule = NoRoom; place = length old } → length old < t.size → ReadAs (asked.relay_records_value f old) (Err r) old
    reads_short r q l =
        rw (walked f old some, lists.reads, lt-ltb (length old) (length (record_bytes (item_records lists.items))) (omega (arith, l, lists.size_is)))
        (record { fills = record { answer = ap₂ declined (ap (λ (x : Refusal). number_of x.rule) q) (ap (λ (x : Refusal). x.place) q); buffer = refl }; circuit_is = refl; remote_is = refl })

    pub reads_given : t.size ≤ length old → (n : ℕ) (after : List ℕ) → Written old 0 (item_bytes (sub_options 0 0 f)) n after
        → ReadAs (asked.relay_records_value f old) (Ok (record { size = n; circuit = t.circuit; remote = t.remote })) after
    reads_given l n after p =
        let q = written_front (rw lists.bytes_are at p) in
        rw (walked f old some, lists.reads, le-ltb (length old) (length (record_bytes (item_records lists.items))) (omega (arith, l, lists.size_is)), q.0, q.1)
        (record { fills = record { answer = refl; buffer = refl }; circuit_is = lists.circuit_is; remote_is = lists.remote_is })
