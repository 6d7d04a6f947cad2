-- Text put into a lent buffer. Assumes nothing.
use Rattle.std.specs.Prelude.{List, ℕ, ◌-◌, length, take}
use Rattle.buffer.specs.Written.{Written}

-- as much of a text as there is room for from the index `at` on
abbrev pub fitting : List ℕ → ℕ → List ℕ → List ℕ
fitting old at xs = take (length old - at) xs

-- that much of xs is written over `old` from `at` on, and nothing else is; r is the index after it
pub record Puts (old : List ℕ) (at : ℕ) (xs : List ℕ) (r : ℕ) (after : List ℕ) : Type 0 where
  pub written : Written old at (fitting old at xs) r after
