-- `buffer::copy_bytes` meets its contract. Assumes nothing.
use mathlib.Core.Path.{refl, ◌∙◌}
use native.Mathlib.Omega.{arith}
use lib.ListN.{length-set}
use Rattle.buffer.proofs.Laws.{front_byte, front_all}
use Rattle.buffer.proofs.copy_bytes.Goals as goal

pub loop-i-init : goal.loop-i-init
loop-i-init c = (omega arith, refl, refl)

pub loop-i-preserved : goal.loop-i-preserved
loop-i-preserved c = (omega arith, front_byte c.args.dst.now c.args.src.now c.loop-i.dst c.loop-i.i c.loop-i.invariant.1 (omega arith) (omega arith), simp length-set (omega arith))

pub returns : goal.returns
returns c = c.loop-i.invariant.1 ∙ front_all c.args.dst.now c.args.src.now c.loop-i.i (omega arith)
