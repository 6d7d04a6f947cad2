-- The options of an accepted message from a place on, as the loops over it go: no public contract rests on this. Assumes nothing.
use Rattle.std.specs.Prelude.{◌≡◌, true, cond, List, [], ℕ, ◌+◌, ◌-◌, ◌<◌, ◌≤◌, eqb, leb, length, drop, get_or, Option, Some, None}
use Rattle.options.specs.Message.{Field, options, file, sname, start, bytes, Opt, end_to_end}
use Rattle.options.specs.Reading.{parse, file_in, sname_in, pieces}
use Rattle.message.specs.Active.{active_in, options_from}
use Rattle.records.specs.FieldRecords.{has_end}

-- the field that a place is in
unfoldable pub field_at : ℕ → Field
field_at i = cond (leb 240 i) options (cond (leb 108 i) file sname)

-- where the field starts that is read after another, or 0 where none is; v is the value of option 52
abbrev pub sname_place_value : ℕ → ℕ
sname_place_value v = cond (sname_in v) 44 0

abbrev pub next_place_value : ℕ → Field → ℕ
next_place_value v options = cond (file_in v) 108 (sname_place_value v)
next_place_value v file = sname_place_value v
next_place_value v sname = 0

-- such a place where there is one: none starts at 0
abbrev pub some_place : ℕ → Option ℕ
some_place p = cond (eqb p 0) None (Some p)

-- the place i is in an active field, which has its END from there on
pub record Stands (v : ℕ) (m : List ℕ) (i : ℕ) : Type 0 where
  pub field : Field
  pub offset : ℕ
  pub place : i ≡ start field + offset
  pub active : active_in v field ≡ true
  pub ends : has_end (parse offset 0 (drop offset (bytes field m))) ≡ true

-- the options from such a place on
unfoldable pub left_at : ℕ → List ℕ → ℕ → List Opt
unfolding options_from
left_at v m i = options_from v m (field_at i) (i - start (field_at i))

-- the data of those with the code c, end to end
abbrev pub joined_at : ℕ → List ℕ → ℕ → ℕ → List ℕ
joined_at v m i c = end_to_end (pieces c (left_at v m i))

-- what is left of the walk, in bytes: it falls from one field to the next, too
abbrev pub to_go : List ℕ → Field → ℕ → ℕ
to_go m options i = 192 + (length m - i)
to_go m file i = 64 + (236 - i)
to_go m sname i = 108 - i

abbrev pub bytes_left : List ℕ → ℕ → ℕ
bytes_left m i = to_go m (field_at i) i

-- the walk comes from the place i to j, and passes no option between
pub record Goes (v : ℕ) (m : List ℕ) (i j : ℕ) : Type 0 where
  pub stands : Stands v m j
  pub same : left_at v m i ≡ left_at v m j
  pub less : bytes_left m j < bytes_left m i

-- the first option from the place i on stands at j
pub record MeetsAt (v : ℕ) (m : List ℕ) (i j : ℕ) : Type 0 where
  pub stands : Stands v m j
  pub same : left_at v m i ≡ left_at v m j
  pub no_later : bytes_left m j ≤ bytes_left m i
  pub no_pad : get_or m j 0 ≡ 0 → ⊥
  pub no_end : get_or m j 0 ≡ 255 → ⊥

-- it is that at a place, or there is none
abbrev pub Meets : ℕ → List ℕ → ℕ → Option ℕ → Type 0
Meets v m i None = left_at v m i ≡ []
Meets v m i (Some j) = MeetsAt v m i j
