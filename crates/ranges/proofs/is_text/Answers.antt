-- `ranges::is_text` meets its contract: computed for the codes below 77, and no code from there on has a row. Assumes nothing.
use native.Mathlib.Omega.{arith}
use mathlib.Core.Path.{◌∙◌}
use Rattle.ranges.specs.Rows.{row_number}
use Rattle.ranges.specs.Words.{in_ranges_value}
use Rattle.ranges.proofs.Computed.{texts_right, no_text}
use Rattle.ranges.proofs.is_text.Goals as goal

pub returns-then-c-gt-LAST : goal.returns-then-c-gt-LAST
returns-then-c-gt-LAST c = no_text _ (omega arith) (omega arith)

pub returns : goal.returns
unfolding in_ranges_value row_number
returns c = c.in_ranges.ensures ∙ texts_right _ _ tt c.args.c (omega arith)
