-- The records of items as they are laid, an item at a time. Assumes nothing.
use mathlib.Core.Path.{◌≡◌, refl, ap, ◌∙◌, subst}
use mathlib.Core.Bool.{Bool, true, false}
use mathlib.Core.List.{List, ◌++◌}
use Prim.Native.Nat.{ℕ, ◌+◌, ◌-◌, ◌≤◌, ◌<◌}
use native.Mathlib.Omega.{arith}
use native.Mathlib.Decide.{dec_lt}
use lib.ListN.{length, get_or, take, drop, length-append, length-drop}
use lib.Seq.{length-take-le}
use Rattle.options.specs.Reading.{found}
use Rattle.options.specs.Answers.{record_bytes}
use Rattle.buffer.specs.Written.{laid, Written}
use Rattle.buffer.proofs.Writing.{written_none, written_more, laid_length}
use Rattle.record_writer.specs.Room.{record_of}
use Rattle.item_reader.specs.Laid.{walk_of, pad_or_end_value, found_in, item_bytes, NonePast}
use Rattle.item_reader.proofs.Rests.{rest_none, rest_end, rest_pad, rest_last, rest_long, rest_found, rec_at}

-- from offset i on no item runs past; and with the records from there on written at o in the buffer `now`, all are written at the start of `old`
pub record Laying (b : Bool) (f old now : List ℕ) (o i : ℕ) : Type 0 where
  pub none_past : NonePast (walk_of b f i)
  pub room : o + length (item_bytes (walk_of b f i)) ≤ length now
  pub same : length now ≡ length old
  pub whole : (r : ℕ) (last : List ℕ) → Written now o (item_bytes (walk_of b f i)) r last → Written old 0 (item_bytes (walk_of b f 0)) r last

pub laying_begins : (b : Bool) (f old : List ℕ) → NonePast (walk_of b f 0) → length (item_bytes (walk_of b f 0)) ≤ length old → Laying b f old old 0 0
laying_begins b f old p h = record { none_past = p; room = omega arith; same = refl; whole = λ r last q. q }

module _ {b : Bool} {f old now : List ℕ} {o i : ℕ} (y : Laying b f old now o i) where
  -- no byte is left
  pub laying_ends : length f ≤ i → Written old 0 (item_bytes (walk_of b f 0)) o now
  unfolding item_bytes found_in record_bytes
  laying_ends h = y.whole o now (rw (rest_none b f i h) (written_none now o))

  module _ (h : i < length f) where
    pub laying_end : pad_or_end_value b (get_or f i 0) ≡ true → get_or f i 0 ≡ 255 → Written old 0 (item_bytes (walk_of b f 0)) o now
    unfolding item_bytes found_in record_bytes
    laying_end m e = y.whole o now (rw (rest_end b f i h m e) (written_none now o))

    pub laying_pad : pad_or_end_value b (get_or f i 0) ≡ true → (get_or f i 0 ≡ 255 → ⊥) → Laying b f old now o (i + 1)
    laying_pad m z =
        let e = rest_pad b f i h m z in
        record { none_past = rw e at y.none_past; room = rw e at y.room; same = y.same; whole = rw e at y.whole }

    -- at an item
    module _ (m : pad_or_end_value b (get_or f i 0) ≡ false) where
      pub head_in : i + 1 < length f
      head_in = go (dec_lt (i + 1) (length f))
        where
          go : Dec (i + 1 < length f) → i + 1 < length f
          go (yes l) = l
          go (no l) = absurd (subst NonePast (rest_last b f i h m (omega arith)) y.none_past)

      pub item_in : i + 2 + get_or f (i + 1) 0 ≤ length f
      item_in = go (dec_lt (length f) (i + 2 + get_or f (i + 1) 0))
        where
          go : Dec (length f < i + 2 + get_or f (i + 1) 0) → i + 2 + get_or f (i + 1) 0 ≤ length f
          go (yes l) = absurd (subst NonePast (rest_long b f i head_in m l) y.none_past)
          go (no l) = omega arith

      -- with n data bytes
      module _ (n : ℕ) (q : n ≡ get_or f (i + 1) 0) where
        pub within : i + 2 + n ≤ length f
        within = omega (arith, item_in, q)

        is : walk_of b f i ≡ found i (rec_at f i n) (walk_of b f (i + 2 + n))
        is = rest_found b f i n head_in m q within

        from_here : item_bytes (walk_of b f i) ≡ record_of (get_or f i 0) (take n (drop (i + 2) f)) ++ item_bytes (walk_of b f (i + 2 + n))
        unfolding item_bytes found_in record_bytes
        from_here = rw is refl

        pub body_length : length (take n (drop (i + 2) f)) ≡ n
        body_length = length-take-le n (drop (i + 2) f) (omega (arith, within, length-drop (i + 2) f))

        pub item_room : o + 3 + n + length (item_bytes (walk_of b f (i + 2 + n))) ≤ length now
        item_room = omega (arith, y.room, body_length, ap length from_here, length-append (record_of (get_or f i 0) (take n (drop (i + 2) f))) (item_bytes (walk_of b f (i + 2 + n))))

        -- e and next: the places after the item and after its record
        pub laying_on : {later : List ℕ} (e next : ℕ) → e ≡ i + 2 + n → next ≡ o + 3 + n → later ≡ laid now o (record_of (get_or f i 0) (take n (drop (i + 2) f))) → Laying b f old later next e
        laying_on {later} e next u v w =
            let p : Written now o (record_of (get_or f i 0) (take n (drop (i + 2) f))) (o + 3 + n) later = record { next = omega (arith, body_length); buffer = w } in
            let l : length later ≡ length now = ap length w ∙ laid_length now o (record_of (get_or f i 0) (take n (drop (i + 2) f))) (omega (arith, item_room, body_length)) in
            rw (u, v)
            (record {
              none_past = subst NonePast is y.none_past;
              room = omega (arith, item_room, l);
              same = l ∙ y.same;
              whole = λ r last x. y.whole r last (rw from_here (written_more p x));
            })

-- the data of an item, as the part of the bytes that is lent
pub part_is : (f : List ℕ) (i n : ℕ) → take (i + (n + 2) - (i + 2)) (drop (i + 2) f) ≡ take n (drop (i + 2) f)
part_is f i n = let k : i + (n + 2) - (i + 2) ≡ n = omega arith in rw k refl
