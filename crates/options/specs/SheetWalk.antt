-- THE RECORDS OF A SHEET, walked one after the other (document 01: "records end to end: one-byte tag (the code), two-byte length, data"), and rules over them.
-- The walk knows no rule: each call that takes a sheet lists its own. Assumes nothing.
use Rattle.std.specs.Prelude.{◌≡◌, List, [], ◌∷◌, Bool, true, false, cond, ℕ, zero, suc, ◌+◌, ◌*◌, ◌≤◌, length, get_or, take, drop, ltb}
use Rattle.options.specs.Message.{Rec}
use Rattle.options.specs.Reading.{among}
use Rattle.options.specs.Kinds.{Value, broken, number, part, Table}
use Rattle.options.specs.Answers.{record_bytes}

-- ---- The walk

-- the records with the places of their tags, and how the sheet ends: with its last record, or with one that runs past it
pub data Walk : Type 0 where
  all_read : Walk
  cut_at : (place : ℕ) → Walk
  read_at : (place : ℕ) → Rec → Walk → Walk

-- how many bytes after its tag belong to a record: the two of its length, and the data
abbrev pub record_span : List ℕ → ℕ
record_span bs = suc (suc (256 * get_or bs 0 0 + get_or bs 1 0))

-- the record whose tag b is at the place `at`; bs are the bytes after b, and `rest` is what is read after the record.
-- "record head or data beyond the sheet": it is cut
abbrev pub record_or : ℕ → ℕ → List ℕ → Walk → Walk
record_or at b [] rest = cut_at at
record_or at b (h ∷ []) rest = cut_at at
record_or at b (h ∷ l ∷ ds) rest = cond (ltb (length ds) (256 * h + l)) (cut_at at) (read_at at (record { tag = b; body = take (256 * h + l) ds }) rest)

-- the bytes from place `at` on, of which the next `skip` belong to the record before
unfoldable pub records_from : ℕ → ℕ → List ℕ → Walk
records_from at zero [] = all_read
records_from at zero (b ∷ bs) = record_or at b bs (records_from (at + 1) (record_span bs) bs)
records_from at (suc skip) [] = all_read
records_from at (suc skip) (b ∷ bs) = records_from (at + 1) skip bs

-- the records that were read, those before a cut
unfoldable pub records_of : Walk → List Rec
records_of all_read = []
records_of (cut_at i) = []
records_of (read_at i r rest) = r ∷ records_of rest

-- the records of a sheet from a place on
unfoldable pub records_left : List ℕ → ℕ → List Rec
unfolding records_from records_of
records_left s at = records_of (records_from at 0 (drop at s))

-- no record has more than 1,024 bytes of data
abbrev pub AllShort : List Rec → Type 0
AllShort [] = Unit {0}
AllShort (r ∷ rs) = (length r.body ≤ 1024) × AllShort rs

-- from a place on the sheet is records that can be written, to its end: so it is in an accepted one, at the place of a record
pub record Whole (s : List ℕ) (at : ℕ) : Type 0 where
  pub to_end : at + length (record_bytes (records_left s at)) ≡ length s
  pub short : AllShort (records_left s at)

-- ---- Rules over it

-- a sheet's records, or the number and place of its refusal
pub data Sheet : Type 0 where
  sound : List Rec → Sheet
  faulty : (number place : ℕ) → Sheet

abbrev pub keep : Rec → Sheet → Sheet
keep r (sound rs) = sound (r ∷ rs)
keep r (faulty n p) = faulty n p

-- a rule: which record breaks it, after the tags met before, and the number given
pub record Rule : Type 0 where
  pub breaks : (seen : List ℕ) → Rec → Bool
  pub gives : Rec → ℕ

-- the first rule that the record at a place breaks
abbrev pub tested : List Rule → List ℕ → ℕ → Rec → Sheet → Sheet
tested [] seen at r w = w
tested (x ∷ xs) seen at r w = cond (x.breaks seen r) (faulty (x.gives r) at) (tested xs seen at r w)

-- "the first faulty record": 12 for one that is cut, or by the rules, in their order; `seen` are the tags met before
unfoldable pub ruled : List Rule → List ℕ → Walk → Sheet
ruled rules seen all_read = sound []
ruled rules seen (cut_at i) = faulty 12 i
ruled rules seen (read_at i r rest) = tested rules seen i r (keep r (ruled rules (r.tag ∷ seen) rest))

-- [R10] 10: a tag that may not stand
abbrev pub wrong_tag_value : List ℕ → Rule
wrong_tag_value cs = record { breaks = λ seen r. among r.tag cs; gives = λ r. 10 }

-- 13: more data than n bytes
abbrev pub longer_than : ℕ → Rule
longer_than n = record { breaks = λ seen r. ltb n (length r.body); gives = λ r. 13 }

-- 7: "tag met again"
abbrev pub met_again : Rule
met_again = record { breaks = λ seen r. among r.tag seen; gives = λ r. 7 }

abbrev pub is_broken : Value → Bool
is_broken (broken n) = true
is_broken (number k n) = false
is_broken (part k n) = false

abbrev pub broken_by : Value → ℕ
broken_by (broken n) = n
broken_by (number k n) = 0
broken_by (part k n) = 0

-- [R8, R9] 8 and 9, of a tag that has a row
abbrev pub breaks_kind : Table → ℕ → List ℕ → Bool
breaks_kind t b d = cond (t.row b) (is_broken (t.value b d)) false

abbrev pub against_kind : Table → Rule
against_kind t = record { breaks = λ seen r. breaks_kind t r.tag r.body; gives = λ r. broken_by (t.value r.tag r.body) }
