-- `trim::walk` meets its contract. Assumes nothing.
use mathlib.Core.Path.{refl}
use native.Mathlib.Omega.{arith}
use Rattle.trim.proofs.Steps.{walking_on, walking_none}
use Rattle.trim.proofs.walk.Goals as goal

pub loop-i-smaller : goal.loop-i-smaller
loop-i-smaller c = let x = rw c.in-Some.is at c.in_ok-next.ensures in omega (arith, x.onward, c.loop-i-test.true)

pub loop-i-preserved : goal.loop-i-preserved
loop-i-preserved c = walking_on c.loop-i.invariant c.in-Some.next.at c.in-Some.next.over (rw c.in-Some.is at c.in_ok-next.ensures)

pub returns : goal.returns
returns c = walking_none c.loop-i.invariant (omega (arith, c.loop-i-test.false)) c.at.result (rw c.at.ensures refl) (rw (c.at.ensures, c.base.ensures.0) refl)
