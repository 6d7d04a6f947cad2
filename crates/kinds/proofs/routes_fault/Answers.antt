-- `kinds::routes_fault` meets its contract: by the two rules of the row of 121. Assumes nothing.
use mathlib.Core.Path.{sym, ◌∙◌}
use Rattle.kinds.proofs.High.{routes_rules}
use Rattle.kinds.proofs.routes_fault.Goals as goal

pub returns-then-not-stepped : goal.returns-then-not-stepped
returns-then-not-stepped c = rw (← routes_rules c.args.d.now, sym c.stepped.ensures ∙ c.if-not-stepped.true)

pub returns : goal.returns
returns c = rw (← routes_rules c.args.d.now, sym c.stepped.ensures ∙ c.if-not-stepped.false) c.first_fault.ensures
