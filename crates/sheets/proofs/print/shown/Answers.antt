-- `sheets::print::shown` is safe: what is left without its last zeros is no longer, by `trimmed_ends`. Assumes nothing.
use native.Mathlib.Omega.{arith}
use Rattle.theorems.proofs.TextEnds.{trimmed_ends}
use Rattle.sheets.proofs.print.shown.Goals as goal

pub overflow_sub-zeros : goal.overflow_sub-zeros
overflow_sub-zeros c = omega (arith, c.text_len-n.ensures, (trimmed_ends c.args.f.now).within)
