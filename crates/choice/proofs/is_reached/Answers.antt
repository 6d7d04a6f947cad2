-- `choice::is_reached` meets its contract. Assumes nothing.
use mathlib.Core.Path.{◌∙◌}
use Rattle.choice.proofs.Names.{reached_same}
use Rattle.choice.proofs.is_reached.Goals as goal

pub returns-else-is_empty : goal.returns-else-is_empty
returns-else-is_empty c = c.eq.ensures ∙ reached_same c.args.class.now c.args.name.now c.if-is_empty.ensures
