-- WHAT THE FIRST 8 BYTES OF A CASE SAY: the contract of `head_of`. Assumes nothing.
use Rattle.std.specs.Prelude.{ℕ, ◌+◌, ◌*◌, List, slice_index}
use Rattle.console.specs.declared.Head.{Head}

-- byte i, and the number of bytes i and i + 1, the high one first
abbrev pub byte_of : List ℕ → ℕ → ℕ
byte_of h i = slice_index h i

abbrev pub pair_of : List ℕ → ℕ → ℕ
pair_of h i = 256 * slice_index h i + slice_index h (i + 1)

abbrev pub head_of : List ℕ → Head
head_of h = record { call = byte_of h 0; room = pair_of h 1; first = byte_of h 3; letters = pair_of h 4; size = pair_of h 6 }
