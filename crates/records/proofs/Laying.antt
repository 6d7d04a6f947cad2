-- A field's records as they are laid, an item at a time. Assumes nothing.
use mathlib.Core.Path.{◌≡◌, refl, ap, ◌∙◌}
use mathlib.Core.Bool.{Bool, true, false}
use mathlib.Core.List.{List, ◌++◌}
use Prim.Native.Nat.{ℕ, ◌+◌, ◌-◌, ◌≤◌, ◌<◌}
use native.Mathlib.Omega.{arith}
use lib.ListN.{length, get_or, take, drop, length-append}
use Rattle.wire.specs.Walk.{item_at}
use Rattle.wire.proofs.Laws.{rest, rest_pad, rest_end, body_length}
use Rattle.records.specs.FieldRecords.{option_record, has_end, field_ends, items_in, bytes_in, field_records}
use Rattle.buffer.specs.Written.{Written}
use Rattle.buffer.proofs.Writing.{written_none, written_more}
use Rattle.records.proofs.Rooms.{option_record_lem}
use Rattle.records.proofs.Within.{inside, pad_ends, option_within, option_found, option_ends}

-- ---- one field

-- From offset i on the field has its END. With the records from there on written at o in the buffer `now`, all of the field's are written at `at` in `old`.
pub record Laying (f old : List ℕ) (at : ℕ) (now : List ℕ) (o i : ℕ) : Type 0 where
  pub ends : has_end (rest f i) ≡ true
  pub room : o + length (bytes_in (rest f i)) ≤ length now
  pub same : length now ≡ length old
  pub whole : (r : ℕ) (last : List ℕ) → Written now o (bytes_in (rest f i)) r last → Written old at (field_records true f) r last

pub laying_begins : (f old : List ℕ) (at : ℕ) → field_ends true f ≡ true → at + length (field_records true f) ≤ length old → Laying f old at old at 0
unfolding field_ends field_records
laying_begins f old at e h = record { ends = e; room = h; same = refl; whole = λ r last p. p }

module _ {f old : List ℕ} {at : ℕ} {now : List ℕ} {o i : ℕ} (y : Laying f old at now o i) where
  pub laying_in : i < length f
  laying_in = inside f i y.ends

  pub laying_ends : get_or f i 0 ≡ 255 → Written old at (field_records true f) o now
  unfolding bytes_in items_in
  laying_ends e = y.whole o now (rw (rest_end f i laying_in e) (written_none now o))

  pub laying_pad : get_or f i 0 ≡ 0 → Laying f old at now o (i + 1)
  laying_pad z =
      let e = rest_pad f i laying_in z in
      record { ends = pad_ends f i y.ends z; room = rw e at y.room; same = y.same; whole = rw e at y.whole }

  -- at an option
  module _ (z : get_or f i 0 ≡ 0 → ⊥) (e : get_or f i 0 ≡ 255 → ⊥) where
    pub laying_within : i + 2 + get_or f (i + 1) 0 ≤ length f
    laying_within = option_within f i y.ends z e

    -- with n data bytes
    module _ (n : ℕ) (q : n ≡ get_or f (i + 1) 0) (b : n < 256) where
      -- the data, as the part from i + 2 up to i + 2 + n
      abbrev part : List ℕ
      part = take (i + 2 + n - (i + 2)) (drop (i + 2) f)

      part_is : part ≡ take n (drop (i + 2) f)
      part_is = let k : i + 2 + n - (i + 2) ≡ n = omega arith in rw k

      pub part_length : length part ≡ n
      part_length = rw part_is (body_length f i n (omega (arith, laying_within)))

      from_here : bytes_in (rest f i) ≡ option_record (get_or f i 0) part ++ bytes_in (rest f (i + 2 + n))
      from_here =
          let k : ℕ = get_or f (i + 1) 0 in
          rw (option_found f i y.ends z e, part_is, q) (option_record_lem i (item_at (get_or f i 0) k f i) (rest f (i + 2 + k)) (omega (arith, body_length f i k laying_within)))

      pub option_room : o + length (option_record (get_or f i 0) part) + length (bytes_in (rest f (i + 2 + n))) ≤ length now
      option_room = omega (arith, y.room, ap length from_here, length-append (option_record (get_or f i 0) part) (bytes_in (rest f (i + 2 + n))))

      pub laying_on : {k : ℕ} {later : List ℕ} → length later ≡ length now → Written now o (option_record (get_or f i 0) part) k later → Laying f old at later k (i + 2 + n)
      laying_on {k} {later} s p =
          record {
            ends = rw q (option_ends f i y.ends z e);
            room = omega (arith, option_room, p.next);
            same = s ∙ y.same;
            whole = λ r last x. y.whole r last (rw from_here (written_more p x));
          }

-- ---- fields one after another

pub written_inactive : (on : Bool) (f old : List ℕ) (at : ℕ) → on ≡ false → Written old at (field_records on f) at old
unfolding field_records
written_inactive on f old at e = rw e (written_none old at)

-- three parts, from the start of the buffer on
pub parts_length : (us vs ws : List ℕ) → length (us ++ (vs ++ ws)) ≡ length us + length vs + length ws
parts_length us vs ws = omega (arith, length-append us (vs ++ ws), length-append vs ws)
