-- `kinds::list_fault` meets its contract. Assumes nothing.
use borrow.Author.Tests.{le-leb, lt-leb}
use Rattle.kinds.proofs.list_fault.Goals as goal

pub returns-then-row-ge-RELAY : goal.returns-then-row-ge-RELAY
returns-then-row-ge-RELAY c = rw (le-leb 12 _ c.if-row-ge-RELAY.true) at c.long_list_fault.ensures

pub returns : goal.returns
returns c = rw (lt-leb 12 _ c.if-row-ge-RELAY.false) at c.short_list_fault.ensures
