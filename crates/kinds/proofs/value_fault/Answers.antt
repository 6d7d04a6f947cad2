-- `kinds::value_fault` meets its contract: one of the parts of the rule. Assumes nothing.
use borrow.Author.Tests.{le-leb, lt-leb}
use mathlib.Core.Path.{sym, ◌∙◌}
use Rattle.kinds.proofs.value_fault.Goals as goal

pub returns-then-row-ge-RELAY : goal.returns-then-row-ge-RELAY
returns-then-row-ge-RELAY c = rw (le-leb 12 _ c.if-row-ge-RELAY.true, sym c.is_list.ensures ∙ c.if-is_list.true) at c.long_list_fault.ensures

pub returns-then-is_list : goal.returns-then-is_list
returns-then-is_list c = rw (lt-leb 12 _ c.if-row-ge-RELAY.false, sym c.is_list.ensures ∙ c.if-is_list.true) at c.short_list_fault.ensures

pub returns : goal.returns
returns c = rw (sym c.is_list.ensures ∙ c.if-is_list.false) at c.number_fault.ensures
