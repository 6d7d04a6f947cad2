-- `ranges::row` meets its contract: by the ranges with the code, or as `above` says. Assumes nothing.
use mathlib.Core.Path.{◌∙◌}
use Rattle.ranges.proofs.row.Goals as goal

pub returns-then-c-gt-LAST : goal.returns-then-c-gt-LAST
returns-then-c-gt-LAST c = c.above.ensures

pub returns : goal.returns
returns c = c.row_in.ensures ∙ c.ranges_with-r.ensures.row
