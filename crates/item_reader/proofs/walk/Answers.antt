-- `item_reader::walk` meets its contract: at each turn what is left of the bytes, with what was met, tells of the whole. Assumes nothing.
use native.Mathlib.Omega.{arith}
use mathlib.Core.Path.{refl}
use Rattle.item_reader.proofs.Walking.{begins, ends, cut, runs_past, moves}
use Rattle.item_reader.proofs.walk.Goals as goal

pub loop-at-init : goal.loop-at-init
loop-at-init c = begins c.args.f.now

pub returns-then-f-j : goal.returns-then-f-j
returns-then-f-j c = rw c.at.ensures (record { told = cut c.loop-at.invariant c.loop-at-test.true c.if-f-j.true; rule = refl })

pub returns-then-f-e : goal.returns-then-f-e
returns-then-f-e c = rw c.at-then-f-e.ensures (record { told = runs_past c.loop-at.invariant (omega (arith, c.if-f-j.false)) (omega (arith, c.if-f-e.true, c.wide-n.ensures.0)); rule = refl })

pub loop-at-preserved : goal.loop-at-preserved
loop-at-preserved c = let z = c.wide-n.ensures.0 in
    rw z (moves c.loop-at.invariant (omega (arith, c.if-f-j.false)) (omega (arith, c.if-f-e.false, z)) (rw z at c.after-ids.ensures.circuit) (rw z at c.after-ids.ensures.remote))

pub returns-clause-told : goal.returns-clause-told
returns-clause-told c = ends c.loop-at.invariant c.loop-at-test.false
