-- `cursor::next_option` meets its contract: what is left is of the position's field, then of those after it. Assumes nothing.
use mathlib.Core.Path.{◌≡◌, refl}
use mathlib.Core.List.{List, ◌++◌}
use Prim.Native.Nat.{ℕ}
use Rattle.std.proofs.Common.{rules}
use Rattle.message.specs.Fields.{field_of}
use Rattle.message.specs.Active.{field_from, later_fields, options_from}
use Rattle.cursor.specs.declared.Position.{Position}
use Rattle.cursor.specs.Cursor.{left}
use Rattle.cursor.proofs.next_option.Goals as goal

left_is : (v : ℕ) (m : List ℕ) (p : Position) → left v m p ≡ field_from v m (field_of p.field) p.offset ++ later_fields v m (field_of p.field)
unfolding options_from
left_is v m p = refl

pub returns : goal.returns
returns c = rw (left_is c.args.over c.args.m.now c.args.from) (search rules)
