-- A list of codes, and the words that mark it. Assumes nothing.
use Rattle.std.specs.Prelude.{◌≡◌, List, ℕ, ◌<◌, length}
use Rattle.options.specs.Reading.{among}
use Rattle.options.specs.CodeSet.{marked, count_of}

-- the words w mark the codes cs, each once
pub record Marks (w cs : List ℕ) : Type 0 where
  pub four : length w ≡ 4
  pub bits : (c : ℕ) → c < 256 → marked w c ≡ among c cs
  pub count : count_of w ≡ length cs
