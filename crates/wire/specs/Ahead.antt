-- The next option of a field. Assumes nothing.
use Rattle.std.specs.Prelude.{◌≡◌, List, ℕ, ◌+◌, length, take, drop, Option, Some, None, option_map, position, not, eqb}
use Rattle.options.specs.Message.{Rec}
use Rattle.options.specs.Reading.{Parse, ended, ran_out_value, beyond, found, parse}
use Rattle.wire.specs.declared.Item.{Item}

-- how many pads come before another byte
abbrev pub pads_in : List ℕ → Option ℕ
pads_in xs = position (λ x. not (eqb x 0)) xs

-- the first offset where no pad stands, in bytes that begin at the offset i
abbrev pub code_from : ℕ → List ℕ → Option ℕ
code_from i xs = option_map (λ n. i + n) (pads_in xs)

-- what a field begins with: an option, or nothing more
abbrev pub next_of : Parse → Option Item
next_of ended = None
next_of (ran_out_value i) = None
next_of (beyond i) = None
next_of (found i x rest) = Some (record { offset = i; code = x.tag; len = length x.body })

-- the option that a parse begins with, and its offset
abbrev pub first_option : Parse → Option (ℕ × Rec)
first_option ended = None
first_option (ran_out_value i) = None
first_option (beyond i) = None
first_option (found i x rest) = Some (i, x)

-- the option of the field f that an item tells of, with its data
abbrev pub item_option : List ℕ → Option Item → Option (ℕ × Rec)
item_option f None = None
item_option f (Some x) = Some (x.offset, record { tag = x.code; body = take x.len (drop (x.offset + 2) f) })

-- an item loses nothing of the option: offset, code and every data byte
abbrev pub ItemKeepsTheOption : Type 0
ItemKeepsTheOption = (f : List ℕ) (from : ℕ) → item_option f (next_of (parse from 0 (drop from f))) ≡ first_option (parse from 0 (drop from f))
