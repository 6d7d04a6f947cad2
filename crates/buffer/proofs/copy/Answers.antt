-- `buffer::copy` meets its contract. Assumes nothing.
use mathlib.Core.Path.{sym, ◌∙◌}
use native.Mathlib.Omega.{arith}
use Rattle.buffer.proofs.Copied.{copied_fits, copied_not}
use Rattle.buffer.proofs.copy.Goals as goal

pub returns-then-dst-src : goal.returns-then-dst-src
returns-then-dst-src c = sym (copied_not c.args.dst.now c.args.src.now (omega arith))

pub returns : goal.returns
returns c = c.copy_all.ensures ∙ sym (copied_fits c.args.dst.now c.args.src.now (omega arith))
