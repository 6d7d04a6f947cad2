-- A copy from one buffer to another. Assumes nothing.
use Rattle.std.specs.Prelude.{cond, List, ◌++◌, ℕ, leb, length, drop}

-- dst with all of src at its start
abbrev pub whole : List ℕ → List ℕ → List ℕ
whole dst src = src ++ drop (length src) dst

-- what a copy leaves of dst: where src does not fit, dst as it was
unfoldable pub copied : List ℕ → List ℕ → List ℕ
copied dst src = cond (leb (length src) (length dst)) (whole dst src) dst
