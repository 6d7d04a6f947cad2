-- `kinds::relay_fault` meets its contract: by the two rules of the row of 82. Assumes nothing.
use mathlib.Core.Path.{sym, ◌∙◌}
use Rattle.kinds.proofs.High.{relay_rules_lem}
use Rattle.kinds.proofs.relay_fault.Goals as goal

pub returns-then-not-stepped : goal.returns-then-not-stepped
returns-then-not-stepped c = rw (← relay_rules_lem c.args.d.now, sym c.stepped.ensures ∙ c.if-not-stepped.true)

pub returns : goal.returns
returns c = rw (← relay_rules_lem c.args.d.now, sym c.stepped.ensures ∙ c.if-not-stepped.false) c.suboptions_fault.ensures
