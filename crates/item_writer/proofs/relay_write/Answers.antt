-- `item_writer::relay_write` meets its contract. Assumes nothing.
use borrow.Author.Tests.{eqb-true, eqb-false}
use mathlib.Core.Path.{sym}
use Rattle.item_writer.proofs.Outcomes.{relay_8, relay_is}
use Rattle.item_writer.proofs.relay_write.Goals as goal

pub returns-then-is_empty : goal.returns-then-is_empty
returns-then-is_empty c = relay_8 c.args.s.now c.args.out.now c.at.result c.at.ensures (eqb-true _ _ (sym c.if-is_empty.ensures))

pub returns : goal.returns
returns c = rw (relay_is c.args.s.now c.args.out.now (eqb-false _ _ (sym c.if-is_empty.ensures))) c.write.ensures
