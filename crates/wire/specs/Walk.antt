-- An option at an offset of a field. Assumes nothing.
use Rattle.std.specs.Prelude.{List, ℕ, ◌+◌, take, drop}
use Rattle.options.specs.Message.{Rec}

-- the option with code c and n data bytes, at offset i
abbrev pub item_at : ℕ → ℕ → List ℕ → ℕ → Rec
item_at c n f i = record { tag = c; body = take n (drop (i + 2) f) }
