-- A BUFFER FILLED WITH RISING BYTES: the contract of `fill`. Assumes nothing.
use Rattle.std.specs.Prelude.{◌≡◌, ℕ, ◌+◌, ◌%◌, ◌<◌, List, length, slice_index}

-- byte k is first + k, modulo 256; the length stays
pub record Rises (first : ℕ) (old new : List ℕ) : Type 0 where
  pub size : length new ≡ length old
  pub bytes : (k : ℕ) → k < length old → slice_index new k ≡ (first + k) % 256
