-- `ranges::above` meets its contract: no code from 77 on has a row, but for 82 and 121. Assumes nothing.
use native.Mathlib.Omega.{arith}
use mathlib.Core.Path.{ap, ◌∙◌, sym}
use Rattle.ranges.specs.Rows.{row_number}
use Rattle.ranges.proofs.Computed.{row_82, row_121, no_row}
use Rattle.ranges.proofs.above.Goals as goal

pub returns-then-c-eq-RELAY : goal.returns-then-c-eq-RELAY
returns-then-c-eq-RELAY c = row_82 ∙ ap row_number (sym c.if-c-eq-RELAY.true)

pub returns-then-c-eq-ROUTES : goal.returns-then-c-eq-ROUTES
returns-then-c-eq-ROUTES c = row_121 ∙ ap row_number (sym c.if-c-eq-ROUTES.true)

pub returns : goal.returns
returns c = no_row _ (omega arith) (omega arith) c.if-c-eq-RELAY.false c.if-c-eq-ROUTES.false
