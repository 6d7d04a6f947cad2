-- `index::entry_after` meets its contract. Assumes nothing.
use borrow.Author.Tests.{eq-eqb, ne_eqb}
use Rattle.index.proofs.entry_after.Goals as goal

pub returns-then-code-eq52 : goal.returns-then-code-eq52
returns-then-code-eq52 c = rw (eq-eqb _ _ c.if-code-eq52.true)

pub returns-then-entry-eq0 : goal.returns-then-entry-eq0
returns-then-entry-eq0 c = rw (ne_eqb _ _ c.if-code-eq52.false, eq-eqb _ _ c.if-entry-eq0.true)

pub returns : goal.returns
returns c = rw (ne_eqb _ _ c.if-code-eq52.false, ne_eqb _ _ c.if-entry-eq0.false)
