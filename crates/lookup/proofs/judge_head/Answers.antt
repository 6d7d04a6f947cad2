-- `lookup::judge_head` meets its contract. Assumes nothing.
use mathlib.Core.Path.{sym, ap, ◌∙◌}
use Rattle.options.specs.Answers as asked
use Rattle.lookup.proofs.Verdicts.{length_broken, length_kept}
use Rattle.lookup.proofs.judge_head.Goals as goal

pub returns-then-not-length_fits : goal.returns-then-not-length_fits
returns-then-not-length_fits c = ap asked.known (length_broken _ _ _ _ (sym c.length_fits.ensures ∙ c.if-not-length_fits.true))

pub returns : goal.returns
returns c = rw c.number_fault.ensures at c.judged.ensures ∙ ap asked.known (length_kept _ _ _ _ (sym c.length_fits.ensures ∙ c.if-not-length_fits.false))
