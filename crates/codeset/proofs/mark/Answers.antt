-- `codeset::mark` meets its contract: a code that is there already changes nothing. Assumes nothing.
use Rattle.std.proofs.Common.{rules, sym, ◌∙◌}
use Rattle.codeset.proofs.Words.{mark_there}
use Rattle.codeset.proofs.mark.Goals as goal

pub returns-else-not-has : goal.returns-else-not-has
returns-else-not-has c = (sym (mark_there c.args.w.now c.args.c (sym c.has.ensures ∙ c.if-not-has.false)), search rules)
