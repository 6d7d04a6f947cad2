-- `tally::past_pads` meets its contract. Assumes nothing.
use Rattle.std.proofs.Common.{arith}
use Rattle.records.proofs.Places.{stands_in, at_pad}
use Rattle.tally.proofs.Counting.{reaches_first, reaches_on}
use Rattle.tally.proofs.past_pads.Goals as goal

pub loop-i-init : goal.loop-i-init
loop-i-init c = reaches_first c.requires

pub bounds-m-i : goal.bounds-m-i
bounds-m-i c = stands_in c.args.over c.args.m.now c.loop-i.invariant.stands

pub overflow_add-i : goal.overflow_add-i
overflow_add-i c = omega (arith, stands_in c.args.over c.args.m.now c.loop-i.invariant.stands)

pub loop-i-smaller : goal.loop-i-smaller
loop-i-smaller c = (at_pad c.args.over c.args.m.now c.loop-i.invariant.stands c.loop-i-test.true).less

pub loop-i-preserved : goal.loop-i-preserved
loop-i-preserved c = reaches_on c.loop-i.invariant c.loop-i-test.true

pub returns : goal.returns
returns c = c.loop-i.invariant
