-- The walk over a message field after field, as the code goes: no public contract rests on this. Assumes nothing.
use Rattle.std.specs.Prelude.{◌≡◌, Bool, true, false, cond, List, [], ◌∷◌, ℕ, ◌+◌, ◌≤◌, ◌<◌, length, drop, eqb}
use Rattle.options.specs.Message.{Opt, Field, options, file, sname, start, bytes}
use Rattle.options.specs.Reading.{parse, is_options_value, read_message, accepted}
use Rattle.options.specs.CodeSet.{marked, with_mark}
use Rattle.options.specs.Vendor.{Item, Items, listed, past, items_in}
use Rattle.message.specs.Active.{active_in}
pub use Rattle.message.specs.Judging.{unfit_of, number_of}
use Rattle.message.specs.Scan.{Scan, refused_at, scan_in}
use Rattle.message.specs.Walk.{Ending, Run, Walk, begun, walk_of, walked_of}

-- what the walk of all fields tells
abbrev pub scanned_of : Bool → Ending → Scan
scanned_of marks s =
    cond (eqb s.end 0)
    (record {
      start = s.kept.start;
      last = s.kept.last;
      whole = s.kept.whole;
      used = cond marks s.used 0;
      count = cond marks s.count 0;
      place = 0;
      over = s.kept.over;
      number = 0;
    })
    (refused_at s.end s.place)

-- ---- field after field

-- options begins at `first`: at 240 in a message, at 0 in bytes that are none's
abbrev pub start_from : ℕ → Field → ℕ
start_from first options = first
start_from first file = start file
start_from first sname = start sname

abbrev pub end_place : ℕ → Field → ℕ
end_place len options = len
end_place len file = 236
end_place len sname = 108

abbrev pub bytes_from : ℕ → Field → List ℕ → List ℕ
bytes_from first options m = drop first m
bytes_from first file m = bytes file m
bytes_from first sname m = bytes sname m

module _ (w : List ℕ) (marks : Bool) (want first : ℕ) (m : List ℕ) where
  -- the walk of a field on top of what was met before
  unfoldable pub walk_field : Field → Run → Walk
  unfolding walk_of parse
  walk_field fd s = walk_of w marks (is_options_value fd) want (start_from first fd) s (parse 0 0 (bytes_from first fd m))

  -- one more field, where nothing was refused and the field is active
  abbrev pub step : Field → Walk → Walk
  step fd k = cond (eqb k.end 0) (cond (active_in k.run.kept.over fd) (walk_field fd k.run) k) k

  unfoldable pub all_walked : List ℕ → Walk
  unfolding walk_field
  all_walked set = step sname (step file (walk_field options (begun set)))

-- the codes of options but 52, put into a set
unfoldable pub others_in : List ℕ → List Opt → List ℕ
others_in set [] = set
others_in set (o ∷ os) = others_in (cond (eqb o.item.tag 52) set (with_mark set o.item.tag)) os

-- r is the walk of all fields, which leaves the set w'
pub record Gives (w : List ℕ) (marks : Bool) (want first : ℕ) (m : List ℕ) (set : List ℕ) (r : Ending) (set' : List ℕ) : Type 0 where
  pub is : r ≡ walked_of (all_walked w marks want first m set)
  pub codes : set' ≡ (all_walked w marks want first m set).run.set

-- options begins where it does in a message, which has its other fields; or 52 is not watched, and there are none
pub data Laid (w : List ℕ) (first : ℕ) (m : List ℕ) : Type 0 where
  in_message : first ≡ 240 → length m ≤ 1472 → Laid w first m
  in_none : first ≡ 0 → marked w 52 ≡ false → Laid w first m

-- r is what is told of m; where options are marked, and 52 is the wanted code, the set gets the codes of all others
pub record Scans (marks : Bool) (want : ℕ) (m : List ℕ) (set : List ℕ) (r : Scan) (set' : List ℕ) : Type 0 where
  pub is : r ≡ scan_in marks want (read_message m)
  pub codes : marks ≡ true → want ≡ 52 → (os : List Opt) → read_message m ≡ accepted os → set' ≡ others_in set os

-- ---- bytes that are no message's

-- what items take in the bytes
unfoldable pub used_by_items : List Item → ℕ
used_by_items [] = 0
used_by_items (x ∷ xs) = 2 + length x.item.body + used_by_items xs

-- what is told of them: an item that runs past has the number that an option has
abbrev pub told_items : Items → Scan
told_items (past i) = refused_at 4 i
told_items (listed xs) = record { start = 0; whole = 0; last = 0; used = used_by_items xs; count = length xs; place = 0; over = 0; number = 0 }

-- the watched codes below 64: pads, and option 52 in a message
abbrev pub low_watched : Bool → ℕ
low_watched bare = cond bare 1 4503599627370497

-- what the walk of bytes that are none's is asked for: all their items, and there is a byte
abbrev pub Bare : Bool → Bool → ℕ → List ℕ → Type 0
Bare bare marks want m = bare ≡ true → (0 < length m) × (want ≡ 0) × (marks ≡ true)

-- r is what is told of a message, or of bytes that are none's
abbrev pub Tells : Bool → Bool → ℕ → List ℕ → List ℕ → Scan → List ℕ → Type 0
Tells false marks want m set r set' = Scans marks want m set r set'
Tells true marks want m set r set' = r ≡ told_items (items_in (parse 0 0 m))
