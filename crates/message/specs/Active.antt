-- The options of a message from an offset of a field on, in reading order, by the value of its option 52. Assumes nothing.
use Rattle.std.specs.Prelude.{Bool, true, cond, List, [], ◌∷◌, ◌++◌, ℕ, drop}
use Rattle.options.specs.Message.{Field, options, file, sname, bytes, Opt}
use Rattle.options.specs.Reading.{Parse, ended, ran_out_value, beyond, found, parse, file_in, sname_in}

-- "The options field is always active; file is active when option 52 there is 1 or 3, sname when it is 2 or 3"; v is its value, or 0 where there is none
abbrev pub active_in : ℕ → Field → Bool
active_in v options = true
active_in v file = file_in v
active_in v sname = sname_in v

-- every option that is found, wherever the parse ends
unfoldable pub options_in : Field → Parse → List Opt
options_in fd ended = []
options_in fd (ran_out_value i) = []
options_in fd (beyond i) = []
options_in fd (found i x rest) = record { field = fd; offset = i; item = x } ∷ options_in fd rest

-- the options of a field from the offset i on; "An inactive field is not looked at"
unfoldable pub field_from : ℕ → List ℕ → Field → ℕ → List Opt
unfolding options_in parse
field_from v m fd i = cond (active_in v fd) (options_in fd (parse i 0 (drop i (bytes fd m)))) []

-- the options of the fields that are read after a field: "Reading order: options, file, sname"
abbrev pub later_fields : ℕ → List ℕ → Field → List Opt
later_fields v m options = field_from v m file 0 ++ field_from v m sname 0
later_fields v m file = field_from v m sname 0
later_fields v m sname = []

-- the options from the offset i of a field on
unfoldable pub options_from : ℕ → List ℕ → Field → ℕ → List Opt
unfolding field_from
options_from v m fd i = field_from v m fd i ++ later_fields v m fd

-- all of them
abbrev pub active_options : ℕ → List ℕ → List Opt
active_options v m = options_from v m options 0
