-- THE ROUTE AT A PLACE of the data of option 121 (document 02, request 14): `route_fault` rests on this. Assumes nothing.
use Rattle.std.specs.Prelude.{List, [], ◌∷◌, ℕ}
use Rattle.options.specs.Kinds.{route_fault_value}

-- what is at fault with the route that a list begins with: 9 for a wide width, 8 where it is cut short or there is none; 0 where it is right
abbrev pub fault_here : List ℕ → ℕ
fault_here [] = 8
fault_here (w ∷ xs) = route_fault_value w xs
