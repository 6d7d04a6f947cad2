-- `dhcpopt_index::text_content` meets its contract. Assumes nothing.
use mathlib.Core.Path.{sym, ◌∙◌}
use Rattle.options.specs.Kinds.{value_fault_value, meaning}
use Rattle.dhcpopt_index.proofs.text_content.Goals as goal

pub returns-then-not-text_fits : goal.returns-then-not-text_fits
unfolding value_fault_value meaning
returns-then-not-text_fits c = rw (sym c.text_fits.ensures ∙ c.if-not-text_fits.true) c.broken.ensures

pub returns : goal.returns
unfolding value_fault_value meaning
returns c = rw (sym c.text_fits.ensures ∙ c.if-not-text_fits.false, ← c.text_len.ensures) c.of_part.ensures
