-- A part of a message, as a slice of it. Assumes nothing.
use Rattle.std.specs.Prelude.{cond, ℕ, ltb}

-- the offset of a part that is to begin at `start`, in n bytes; past their end it is empty, and stands at the first byte
abbrev pub part_at : ℕ → ℕ → ℕ
part_at n start = cond (ltb start n) start 0
