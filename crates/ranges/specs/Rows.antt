-- THE ROWS AS NUMBERS: that of the row's kind, 1 to 11 in the order of document 01's table, 12 for relay information and 13 for classless routes, and 16 for each row of that kind before it; 0 for a code
-- without a row. Assumes nothing.
use Rattle.std.specs.Prelude.{◌≡◌, List, [], ◌∷◌, cond, ℕ, suc, ◌+◌, ◌*◌, eqb}
use Rattle.std.proofs.Math.Option.{Option, none, some}
use Rattle.options.specs.Reading.{among}
use Rattle.options.specs.Kinds.{Kind, address, addresses, pairs, flag, octet, number16, numbers16, unsigned32, signed32, text, opaque, relay, routes, Row, rows, row_of}

abbrev pub number_of : Kind → ℕ
number_of address = 1
number_of addresses = 2
number_of pairs = 3
number_of flag = 4
number_of octet = 5
number_of number16 = 6
number_of numbers16 = 7
number_of unsigned32 = 8
number_of signed32 = 9
number_of text = 10
number_of opaque = 11
number_of relay = 12
number_of routes = 13

-- how many rows have the kind numbered k
abbrev pub of_kind : ℕ → List Row → ℕ
of_kind k [] = 0
of_kind k (r ∷ rs) = cond (eqb (number_of r.kind) k) (suc (of_kind k rs)) (of_kind k rs)

-- the number of a row behind others
abbrev pub number : Row → List Row → ℕ
number r before = number_of r.kind + 16 * of_kind (number_of r.kind) before

abbrev pub number_in : List Row → List Row → ℕ → ℕ
number_in before [] c = 0
number_in before (r ∷ rs) c = cond (among c r.codes) (number r before) (number_in (r ∷ before) rs c)

unfoldable pub row_number : ℕ → ℕ
row_number c = number_in [] rows c

-- the row with a number; none for a number that no row has
abbrev pub row_from : List Row → List Row → ℕ → Option Row
row_from before [] n = none
row_from before (r ∷ rs) n = cond (eqb n (number r before)) (some r) (row_from (r ∷ before) rs n)

-- "kind and rule, or no row, are exactly those of 01's table": from the number the row can be had back
abbrev pub NumbersKeepTheRow : Type 0
NumbersKeepTheRow = (c : ℕ) → row_from [] rows (row_number c) ≡ row_of c
