-- `text::put_byte` meets its contract. Assumes nothing.
use mathlib.Core.List.{[], ◌∷◌}
use native.Mathlib.Omega.{arith}
use Rattle.buffer.proofs.Writing.{written_byte}
use Rattle.text.proofs.Putting.{puts_nowhere, puts_all}
use Rattle.text.proofs.put_byte.Goals as goal

pub returns-then-out-at : goal.returns-then-out-at
returns-then-out-at c = puts_nowhere c.args.out.now c.args.at (c.args.x ∷ []) c.if-out-at.true

pub returns : goal.returns
returns c = puts_all (omega arith) (written_byte c.args.out.now c.args.at c.args.x c.if-out-at.false)
