-- What each function writes of the records: no public contract rests on this. Assumes nothing.
use Rattle.std.specs.Prelude.{◌≡◌, Bool, true, false, cond, List, [], ◌∷◌, ◌++◌, ℕ, eqb, length}
use Rattle.options.specs.Message.{options, file, sname, bytes, Rec}
use Rattle.options.specs.Reading.{Parse, ended, ran_out_value, beyond, found, parse, file_in, sname_in}
use Rattle.options.specs.Answers.{record_bytes, but52}

-- a record whose data has fewer than 256 bytes: the length's high byte is 0
abbrev pub short_record : ℕ → List ℕ → List ℕ
short_record c d = c ∷ 0 ∷ length d ∷ d

-- what is laid of such an option: 52 is no record
abbrev pub option_record : ℕ → List ℕ → List ℕ
option_record c d = cond (eqb c 52) [] (short_record c d)

-- the walk of a field comes to END
unfoldable pub has_end : Parse → Bool
has_end ended = true
has_end (ran_out_value i) = false
has_end (beyond i) = false
has_end (found i x rest) = has_end rest

-- a field has its END, where it is active
unfoldable pub field_ends : Bool → List ℕ → Bool
unfolding has_end parse
field_ends on f = cond on (has_end (parse 0 0 f)) true

-- so has every active field of a message, by the value v of its option 52
pub record ActiveEnds (v : ℕ) (m : List ℕ) : Type 0 where
  pub of_options : field_ends true (bytes options m) ≡ true
  pub of_file : field_ends (file_in v) (bytes file m) ≡ true
  pub of_sname : field_ends (sname_in v) (bytes sname m) ≡ true

-- the options that are found in a field, wherever its walk ends
unfoldable pub items_in : Parse → List Rec
items_in ended = []
items_in (ran_out_value i) = []
items_in (beyond i) = []
items_in (found i x rest) = x ∷ items_in rest

-- what they are as records, but 52
unfoldable pub bytes_in : Parse → List ℕ
unfolding items_in but52 record_bytes
bytes_in p = record_bytes (but52 (items_in p))

unfoldable pub field_records : Bool → List ℕ → List ℕ
unfolding bytes_in parse
field_records on f = cond on (bytes_in (parse 0 0 f)) []

-- the records of a message whose option 52 is v, or 0 where it has none
abbrev pub active_records : ℕ → List ℕ → List ℕ
active_records v m = field_records true (bytes options m) ++ (field_records (file_in v) (bytes file m) ++ field_records (sname_in v) (bytes sname m))
