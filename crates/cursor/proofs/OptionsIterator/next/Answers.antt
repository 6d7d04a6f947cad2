-- `cursor::Options::next` meets its contract. Assumes nothing.
use mathlib.Core.Path.{◌≡◌, sym, ap, ◌∙◌}
use native.Mathlib.Omega.{arith}
use lib.ListN.{length}
use Rattle.std.specs.Prelude.{Option, Some}
use Rattle.cursor.specs.declared.Item.{Item}
use Rattle.cursor.specs.declared.Options.{Options}
use Rattle.cursor.specs.Cursor.{left, step_of}
use Rattle.cursor.proofs.Steps.{Next, next}
use Rattle.cursor.proofs.OptionsIterator.next.Goals as goal

turn : (s : Options) {r : Option Item} (x : Item) → r ≡ Some x → r ≡ step_of (left s.over s.m.now s.at) → Next s.over s.m.now s.at x
turn s x w e = next s.over s.m.now s.at x (sym w ∙ e)

pub overflow_add-self : goal.overflow_add-self
overflow_add-self c = omega (arith, (turn c.args.self.now c.in_ok-item.item c.in_ok-item.was c.next_option.ensures).within)

pub overflow_add-self-2 : goal.overflow_add-self-2
overflow_add-self-2 c = omega (arith, (turn c.args.self.now c.in_ok-item.item c.in_ok-item.was c.next_option.ensures).within)

pub returns-clause-goes : goal.returns-clause-goes
returns-clause-goes c = omega (arith, ap length (turn c.args.self.now c.in_ok-item.item c.in_ok-item.was c.next_option.ensures).is)
