-- What is laid of the items: no public contract rests on this. Assumes nothing.
use Rattle.std.specs.Prelude.{Bool, true, false, List, [], ◌∷◌, ℕ, drop, eqb}
use Rattle.options.specs.Message.{Rec}
use Rattle.options.specs.Reading.{Parse, ended, ran_out_value, beyond, found, either, parse}
use Rattle.options.specs.SubOptions.{sub_options}
use Rattle.options.specs.Answers.{record_bytes}

-- what is found from offset i on: with pads and END, as vendor information is walked, or without, as relay information is
abbrev pub walk_of : Bool → List ℕ → ℕ → Parse
walk_of true f i = parse i 0 (drop i f)
walk_of false f i = sub_options i 0 (drop i f)

-- a code that is no item's
abbrev pub pad_or_end_value : Bool → ℕ → Bool
pad_or_end_value true c = either (eqb c 0) (eqb c 255)
pad_or_end_value false c = false

-- the items that are found, wherever the walk ends
unfoldable pub found_in : Parse → List Rec
found_in ended = []
found_in (ran_out_value i) = []
found_in (beyond i) = []
found_in (found i x rest) = x ∷ found_in rest

unfoldable pub item_bytes : Parse → List ℕ
unfolding found_in record_bytes
item_bytes p = record_bytes (found_in p)

-- no item runs past
abbrev pub NonePast : Parse → Type 0
NonePast ended = Unit {0}
NonePast (ran_out_value i) = Unit {0}
NonePast (beyond i) = ⊥
NonePast (found i x rest) = NonePast rest
