-- THE OPTIONS OF A MESSAGE, STEP BY STEP: the next option from a position on, and what the steps give of an accepted message. Assumes nothing.
use Rattle.std.specs.Prelude.{◌≡◌, List, [], ◌∷◌, ℕ, ◌+◌, length, Option, Some, None}
use Rattle.options.specs.Message.{Opt, opt}
use Rattle.options.specs.Reading.{items, overload}
use Rattle.options.specs.ReadingClaims.{IsAccepted}
use Rattle.options.specs.KindClaims.{AllBytes}
use Rattle.message.specs.declared.Field as coded
use Rattle.message.specs.declared.Field.TheVariants.{Options}
use Rattle.message.specs.Fields.{field_of, coded_field}
use Rattle.message.specs.Active.{options_from}
use Rattle.cursor.specs.declared.Position.{Position}
use Rattle.cursor.specs.declared.Item.{Item}
use Rattle.cursor.specs.declared.Options as iterator

abbrev pub first_position : Position
first_position = record { field = Options; offset = 0 }

-- the position after an option of n data bytes, whose code byte is at the offset j of its field
abbrev pub after : coded.Field → ℕ → ℕ → Position
after fd j n = record { field = fd; offset = j + 2 + n }

-- the options that are left from a position on, in a message whose option 52 has the value v (0: it has none)
abbrev pub left : ℕ → List ℕ → Position → List Opt
left v m p = options_from v m (field_of p.field) p.offset

-- the first of them
abbrev pub step_of : List Opt → Option Item
step_of [] = None
step_of (o ∷ os) = Some (record { field = coded_field o.field; offset = o.offset; code = o.item.tag; len = length o.item.body })

-- the position after a step from a position; where no option is left it stays
abbrev pub passed : Position → Option Item → Position
passed p None = p
passed p (Some x) = after x.field x.offset x.len

-- a step of the iterator: it gives the first of the options that are left, and is behind it then, in the same message
pub record Step (s : iterator.Options) (r : Option Item) (t : iterator.Options) : Type 0 where
  pub gives : r ≡ step_of (left s.over s.m.now s.at)
  pub then : t ≡ record { m = s.m; over = s.over; at = passed s.at r }

-- ---- What the steps give: proved in proofs/Steps

-- the steps from a position on give just these options, one after another, and then are done
pub data Steps (v : ℕ) (m : List ℕ) : Position → List Opt → Type 0 where
  no_more : {p : Position} → step_of (left v m p) ≡ None → Steps v m p []
  one_more : {p : Position} {fd : coded.Field} {j c n : ℕ} {d : List ℕ} {os : List Opt} → step_of (left v m p) ≡ Some (record { field = fd; offset = j; code = c; len = n }) → length d ≡ n → Steps v m (after fd j n) os
      → Steps v m p (opt (field_of fd) j c d ∷ os)

-- of an accepted message: all its options, in reading order
abbrev pub StepsGiveTheOptions : Type 0
StepsGiveTheOptions = (m : List ℕ) → AllBytes m → (a : IsAccepted m) → Steps (overload (items a.options)) m first_position a.options
