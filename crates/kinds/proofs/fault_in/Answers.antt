-- `kinds::fault_in` meets its contract: by the two rules of the row. Assumes nothing.
use mathlib.Core.Path.{sym, ◌∙◌}
use Rattle.kinds.specs.Numbers.{row_at, fault_numbered}
use Rattle.kinds.proofs.Numbering.{fault_rules}
use Rattle.kinds.proofs.fault_in.Goals as goal

pub returns-else-length_fits : goal.returns-else-length_fits
unfolding fault_numbered
returns-else-length_fits c = rw (← fault_rules (row_at c.args.row) c.args.d.now, sym c.length_fits.ensures ∙ c.if-length_fits.false)

pub returns-then-length_fits : goal.returns-then-length_fits
unfolding fault_numbered
returns-then-length_fits c = rw (← fault_rules (row_at c.args.row) c.args.d.now, sym c.length_fits.ensures ∙ c.if-length_fits.true) c.value_fault.ensures
