-- `lookup::judge` meets its contract. Assumes nothing.
use mathlib.Core.Path.{ap, ◌∙◌}
use Rattle.options.specs.Answers as asked
use Rattle.lookup.proofs.Rows.{judged_whole}
use Rattle.lookup.proofs.judge.Goals as goal

pub returns-in-Some : goal.returns-in-Some
returns-in-Some c = rw c.in-Some.is (c.judged.ensures ∙ ap asked.known (judged_whole _ c.args.d.now c.fault_in.ensures))
