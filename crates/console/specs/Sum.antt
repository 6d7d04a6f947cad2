-- The number that stands for a run of bytes in what the programs print. Assumes nothing.
use Rattle.std.specs.Prelude.{ℕ, ◌+◌, ◌*◌, ◌%◌, List, [], ◌∷◌}

unfoldable pub sum_of : ℕ → List ℕ → ℕ
sum_of t [] = t
sum_of t (x ∷ xs) = sum_of ((t * 31 + x) % 1000003) xs
