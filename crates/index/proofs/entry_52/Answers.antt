-- `index::entry_52` meets its contract. Assumes nothing.
use borrow.Author.Tests.{eq-eqb, ne_eqb}
use Rattle.index.proofs.entry_52.Goals as goal

pub returns-then-entry-eq65535 : goal.returns-then-entry-eq65535
returns-then-entry-eq65535 c = rw (eq-eqb _ _ c.if-entry-eq65535.true)

pub returns-else-entry-eq65535 : goal.returns-else-entry-eq65535
returns-else-entry-eq65535 c = rw (ne_eqb _ _ c.if-entry-eq65535.false)
