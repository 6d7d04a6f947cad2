-- The loop over sub-options: what is left of the bytes, with what was met, tells of the whole. Assumes nothing.
use mathlib.Core.Path.{◌≡◌, refl, sym, ap, ap₂, ◌∙◌}
use mathlib.Core.List.{List, [], ◌∷◌}
use mathlib.Core.Bool.{Bool, true, false, cond}
use Prim.Native.Nat.{ℕ, suc, ◌+◌, ◌≤◌, ◌<◌}
use native.Mathlib.Omega.{arith}
use lib.ListN.{length, get_or, take, drop, length-drop, length-append, drop_of_length-le}
use lib.Seq.{drop-cons, drop-drop, length-take-le}
use lib.Dec.{eqb}
use Rattle.options.specs.Message.{Rec}
use Rattle.options.specs.SubOptions.{sub_options}
use Rattle.options.specs.Answers.{record_bytes}
use Rattle.options.specs.Vendor.{Items, listed, past, also, items_in, item_records}
use Rattle.options.specs.Relay as asked
use Rattle.theorems.proofs.SubOptionRow.{past_head, past_data, stands_in}
use Rattle.item_reader.specs.Walked.{Walked, first_id, id_after, past_at, walked_with, walked_of}
use Rattle.item_reader.proofs.Rests.{heads}

-- with what was met before
abbrev walked_from : ℕ → asked.Id → asked.Id → Items → Walked
walked_from n c r (past i) = past_at i
walked_from n c r (listed xs) = walked_with (n + length (record_bytes (item_records xs))) (first_id c (asked.id_in 1 xs)) (first_id r (asked.id_in 2 xs))

abbrev left : List ℕ → ℕ → Items
left f at = items_in (sub_options at 0 (drop at f))

-- k sub-options were met, and their records take k bytes more than they
pub record Walking (f : List ℕ) (k : ℕ) (c r : asked.Id) (at : ℕ) : Type 0 where
  pub at_in : at ≤ length f
  pub few : k ≤ at
  pub same : walked_from (k + at) c r (left f at) ≡ walked_of (items_in (sub_options 0 0 f))

none_before : (x : Items) → walked_from 0 asked.absent asked.absent x ≡ walked_of x
none_before (past i) = refl
none_before (listed xs) = let z : 0 + length (record_bytes (item_records xs)) ≡ length (record_bytes (item_records xs)) = omega arith in rw z refl

pub begins : (f : List ℕ) → Walking f 0 asked.absent asked.absent 0
begins f = record { at_in = omega arith; few = omega arith; same = none_before (items_in (sub_options 0 0 f)) }

-- ---- an id, after a sub-option; `met`: this one has its code

id_more : (x : asked.Id) (met : Bool) (i n : ℕ) (y : asked.Id) → first_id x (cond met (asked.named i n) y) ≡ first_id (id_after x met i n) y
id_more x false i n y = refl
id_more asked.absent true i n y = refl
id_more (asked.named s l) true i n y = refl

module _ {f : List ℕ} {k at : ℕ} {c r : asked.Id} (w : Walking f k c r at) where
  abbrev n : ℕ
  n = k + at

  -- no byte is left
  pub ends : length f ≤ at → walked_with (length f + k) c r ≡ walked_of (items_in (sub_options 0 0 f))
  unfolding sub_options items_in item_records record_bytes
  ends h =
      let z : k + at + 0 ≡ length f + k = omega (arith, w.at_in) in
      let e : left f at ≡ listed [] = rw (drop_of_length-le f {i = at} h) refl in
      sym (ap₂ (λ (a b : asked.Id). walked_with (length f + k) a b) (none c) (none r)) ∙ sym (ap (λ (q : ℕ). walked_with q (first_id c asked.absent) (first_id r asked.absent)) z)
      ∙ sym (ap (walked_from n c r) e) ∙ w.same
    where
      none : (x : asked.Id) → first_id x asked.absent ≡ x
      none asked.absent = refl
      none (asked.named s l) = refl

  pub cut : at < length f → length f < at + 2 → past_at at ≡ walked_of (items_in (sub_options 0 0 f))
  unfolding items_in
  cut h l =
      let e : left f at ≡ past at = rw (drop-cons f at 0 h, drop_of_length-le f {i = suc at} (omega arith), past_head at (get_or f at 0)) refl in
      sym (ap (walked_from n c r) e) ∙ w.same

  module _ (h : at + 1 < length f) where
    abbrev size : ℕ
    size = get_or f (at + 1) 0

    pub runs_past : length f < at + 2 + size → past_at at ≡ walked_of (items_in (sub_options 0 0 f))
    unfolding items_in
    runs_past l =
        let e : left f at ≡ past at = rw (heads f at h, past_data at (get_or f at 0) size (drop (at + 2) f) (omega (arith, length-drop (at + 2) f))) refl in
        sym (ap (walked_from n c r) e) ∙ w.same

    module _ (l : at + 2 + size ≤ length f) where
      abbrev here : Rec
      here = record { tag = get_or f at 0; body = take size (drop (at + 2) f) }

      long : length here.body ≡ size
      long = length-take-le size (drop (at + 2) f) (omega (arith, length-drop (at + 2) f))

      step : left f at ≡ also (record { offset = at; item = here }) (left f (at + 2 + size))
      unfolding items_in
      step =
          let e : at + (2 + size) ≡ at + 2 + size = omega arith in
          ap (λ (xs : List ℕ). items_in (sub_options at 0 xs)) (heads f at h)
          ∙ ap items_in (stands_in at (get_or f at 0) size (drop (at + 2) f) (omega (arith, length-drop (at + 2) f)))
          ∙ ap₂ (λ (i : ℕ) (xs : List ℕ). also (record { offset = at; item = here }) (items_in (sub_options i 0 xs))) e (drop-drop size (at + 2) f)

      abbrev circuit : asked.Id
      circuit = id_after c (eqb (get_or f at 0) 1) (at + 2) size

      abbrev remote : asked.Id
      remote = id_after r (eqb (get_or f at 0) 2) (at + 2) size

      more : (x : Items) → walked_from n c r (also (record { offset = at; item = here }) x) ≡ walked_from (n + 3 + size) circuit remote x
      unfolding item_records record_bytes
      more (past i) = refl
      more (listed xs) =
          let u : n + length (record_bytes (item_records (record { offset = at; item = here } ∷ xs))) ≡ n + 3 + size + length (record_bytes (item_records xs)) = omega (arith, long, length-append here.body (record_bytes (item_records xs))) in
          ap (λ (q : ℕ). walked_with q (first_id c (asked.id_in 1 (record { offset = at; item = here } ∷ xs))) (first_id r (asked.id_in 2 (record { offset = at; item = here } ∷ xs)))) u
          ∙ ap₂ (λ (a b : asked.Id). walked_with (n + 3 + size + length (record_bytes (item_records xs))) a b)
          (ap (λ (q : ℕ). first_id c (cond (eqb (get_or f at 0) 1) (asked.named (at + 2) q) (asked.id_in 1 xs))) long ∙ id_more c (eqb (get_or f at 0) 1) (at + 2) size (asked.id_in 1 xs))
          (ap (λ (q : ℕ). first_id r (cond (eqb (get_or f at 0) 2) (asked.named (at + 2) q) (asked.id_in 2 xs))) long ∙ id_more r (eqb (get_or f at 0) 2) (at + 2) size (asked.id_in 2 xs))

      -- with the ids as the code makes them
      pub moves : {x y : asked.Id} → x ≡ circuit → y ≡ remote → Walking f (k + 1) x y (at + 2 + size)
      moves a b =
          let q : k + 1 + (at + 2 + size) ≡ n + 3 + size = omega arith in
          rw (a, b)
          (record {
            at_in = l;
            few = omega (arith, w.few);
            same = ap (λ (i : ℕ). walked_from i circuit remote (left f (at + 2 + size))) q ∙ sym (ap (walked_from n c r) step ∙ more (left f (at + 2 + size))) ∙ w.same;
          })
