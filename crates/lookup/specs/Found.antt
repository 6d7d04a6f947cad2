-- What the code's own functions are held to: no public contract rests on this. Assumes nothing.
use Rattle.std.specs.Prelude.{◌≡◌, cond, List, ◌++◌, ℕ, ◌+◌, ◌-◌, ◌≤◌, eqb, leb, pos, length, get_or, take, drop, Option, Some, None, Result, Ok, Err}
use Rattle.options.specs.Message.{Field, options, file, sname, start}
use Rattle.options.specs.Kinds.{Kind, address, addresses, pairs, flag, octet, number16, numbers16, unsigned32, signed32, text, opaque, relay, routes, Value, broken, number, part, unless, first16, first32, twos_complement, trimmed, meaning, judged, judged_by}
use Rattle.options.specs.Answers as asked
use Rattle.kinds.specs.Numbers.{kind_at, row_at, kind_numbered, length_fits_value}
use Rattle.refusal.specs.declared.Rule.TheVariants.{BadCode}
use Rattle.refusal.specs.declared.Refusal.{Refusal}
use Rattle.message.specs.Scan.{Scan, scan_of}
use Rattle.lookup.specs.declared.Extent.{Extent}
use Rattle.cursor.specs.Cursor.{first_position}
use Rattle.gather.specs.Joined.{joined_from}
pub use Rattle.lookup.specs.Known.{known_row_value}

-- a code that none may ask for is refused by 10, at 0
abbrev pub code_checked : ℕ → Result Unit Refusal
code_checked c = cond (asked.no_code c) (Err (record { rule = BadCode; place = 0 })) (Ok tt)

-- the field of the place p: the last that begins there or before
abbrev pub field_at_value : ℕ → Field
field_at_value p = cond (leb (start options) p) options (cond (leb (start file) p) file sname)

-- an option whose code byte stands at the place p: the last field that begins there or before
abbrev pub origin_at_value : ℕ → asked.Wholeness → asked.Origin
origin_at_value p x =
    cond (leb (start options) p) (record { field = options; offset = p - start options; wholeness = x })
    (cond (leb (start file) p) (record { field = file; offset = p - start file; wholeness = x })
    (record { field = sname; offset = p - start sname; wholeness = x }))

-- what the data d of the kind numbered k mean
unfoldable pub value_of : ℕ → List ℕ → asked.Content
unfolding meaning
value_of k d = asked.known (meaning (kind_at k) d)

-- a row, by its number: 0 is none
abbrev pub some_row : ℕ → Option ℕ
some_row n = cond (eqb n 0) None (Some n)

-- what is answered of a code whose row has the number n, 0 for none, with the data d
unfoldable pub content_by : ℕ → List ℕ → asked.Content
unfolding row_at judged
content_by n d = cond (eqb n 0) (asked.unknown (length d)) (asked.known (judged_by (row_at n) d))

-- the same of a row that is there or not
abbrev pub content_in : Option ℕ → List ℕ → asked.Content
content_in None d = asked.unknown (length d)
content_in (Some n) d = asked.known (judged_by (row_at n) d)

-- what n bytes of data of a kind mean, where d has as many of them as are looked at
unfoldable pub meaning_of : Kind → ℕ → List ℕ → Value
unfolding trimmed
meaning_of address n d = number address (pos (first32 d))
meaning_of addresses n d = part addresses n
meaning_of pairs n d = part pairs n
meaning_of flag n d = number flag (pos (get_or d 0 0))
meaning_of octet n d = number octet (pos (get_or d 0 0))
meaning_of number16 n d = number number16 (pos (first16 d))
meaning_of numbers16 n d = part numbers16 n
meaning_of unsigned32 n d = number unsigned32 (pos (first32 d))
meaning_of signed32 n d = number signed32 (twos_complement (first32 d))
meaning_of text n d = part text (trimmed d)
meaning_of opaque n d = part opaque n
meaning_of relay n d = part relay n
meaning_of routes n d = part routes n

-- the verdict on them of the row with a number, by its rule of length and by what its rule of value says, a fault's number or 0
unfoldable pub judged_of : ℕ → ℕ → ℕ → List ℕ → Value
unfolding row_at meaning_of
judged_of row n fault d = cond (length_fits_value (row_at row) n) (unless fault (meaning_of (kind_at (kind_numbered row)) n d)) (broken 8)

-- the answer for several pieces with the bytes d together, of which the first has its data at s
abbrev pub several_at : Option ℕ → ℕ → List ℕ → asked.Answer
several_at row s d = asked.Found (origin_at_value (s - 2) (asked.in_pieces (length d))) (content_in row d)

-- the data of the option whose code byte stands at the place p: the byte behind it has their length
abbrev pub size_at : List ℕ → ℕ → ℕ
size_at m p = get_or m (p + 1) 0

abbrev pub data_at : List ℕ → ℕ → List ℕ
data_at m p = take (size_at m p) (drop (p + 2) m)

-- what the walk tells of the code c, of which there are several pieces: the first and the last are in the message, and where these two have as many bytes as
-- all, they are all
pub record InPieces (m : List ℕ) (c : ℕ) (w : Scan) : Type 0 where
  pub whole : w.whole ≡ length (joined_from w.over m first_position c)
  pub short : w.whole ≤ 1472
  pub least : 46 ≤ w.start
  pub first_in : w.start - 2 + 2 + size_at m (w.start - 2) ≤ length m
  pub last_in : w.last + 2 + size_at m w.last ≤ length m
  pub both : length (data_at m (w.start - 2)) + length (data_at m w.last) ≡ w.whole → data_at m (w.start - 2) ++ data_at m w.last ≡ joined_from w.over m first_position c

abbrev pub clipped : ℕ → ℕ → asked.Extent
clipped s n = cond (eqb n 0) asked.no_extent (record { start = s; size = n })

-- a part where there is one
abbrev pub part_given : Option Extent → asked.Extent
part_given None = asked.no_extent
part_given (Some e) = clipped e.start e.len

-- where the data of the code c stand, where it has one piece: by what the walk tells
abbrev pub one_told : Scan → Option Extent
one_told w = cond (eqb (w.last + 2) w.start) (Some (record { start = w.start; len = w.whole })) None

abbrev pub one_in : ℕ → List ℕ → Option Extent
one_in c m = cond (asked.no_code c) None (one_told (scan_of c m))
