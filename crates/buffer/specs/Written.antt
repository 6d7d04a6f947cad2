-- Bytes written into a lent buffer, from an index on. Assumes nothing.
use Rattle.std.specs.Prelude.{◌≡◌, List, ◌++◌, ℕ, ◌+◌, length, take, drop}

-- `old` with xs from the index `at` on
abbrev pub laid : List ℕ → ℕ → List ℕ → List ℕ
laid old at xs = take at old ++ (xs ++ drop (at + length xs) old)

-- xs is written over `old` from `at` on, and nothing else is: `after` is what is left of it, and r the index after xs
pub record Written (old : List ℕ) (at : ℕ) (xs : List ℕ) (r : ℕ) (after : List ℕ) : Type 0 where
  pub next : r ≡ at + length xs
  pub buffer : after ≡ laid old at xs
