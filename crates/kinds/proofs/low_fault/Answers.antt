-- `kinds::low_fault` meets its contract: as `fault_in`, without the kinds from 12 on. Assumes nothing.
use borrow.Author.Tests.{lt-leb}
use mathlib.Core.Path.{sym, ◌∙◌}
use Rattle.kinds.specs.Numbers.{row_at, fault_numbered}
use Rattle.kinds.proofs.Numbering.{fault_rules}
use Rattle.kinds.proofs.low_fault.Goals as goal

pub returns-then-is_list : goal.returns-then-is_list
unfolding fault_numbered
returns-then-is_list c = rw (← fault_rules (row_at c.args.row) c.args.d.now, sym c.length_fits.ensures ∙ c.if-length_fits.true)
    (rw (lt-leb 12 _ c.requires, sym c.is_list.ensures ∙ c.if-is_list.true) at c.short_list_fault.ensures)

pub returns-then-length_fits : goal.returns-then-length_fits
unfolding fault_numbered
returns-then-length_fits c = rw (← fault_rules (row_at c.args.row) c.args.d.now, sym c.length_fits.ensures ∙ c.if-length_fits.true)
    (rw (sym c.is_list.ensures ∙ c.if-is_list.false) at c.number_fault.ensures)

pub returns : goal.returns
unfolding fault_numbered
returns c = rw (← fault_rules (row_at c.args.row) c.args.d.now, sym c.length_fits.ensures ∙ c.if-length_fits.false)
