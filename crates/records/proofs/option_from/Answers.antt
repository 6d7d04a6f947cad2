-- `records::option_from` meets its contract: at each turn the options that are left are the same. Assumes nothing.
use native.Mathlib.Omega.{arith}
use mathlib.Core.Path.{sym, ◌∙◌}
use Rattle.records.proofs.Places.{stands_in, at_pad, nearing_begins, nearing_on, meets_here, nearing_field, nearing_ends}
use Rattle.records.proofs.option_from.Goals as goal

pub loop-i-init : goal.loop-i-init
loop-i-init c = nearing_begins c.requires.1

pub bounds-m-i : goal.bounds-m-i
bounds-m-i c = stands_in c.args.over c.args.m.now c.loop-i.invariant.stands

pub returns-in_err-i : goal.returns-in_err-i
returns-in_err-i c = rw c.from_residual.ensures (nearing_ends c.loop-i.invariant c.requires.0 c.if-c.true (sym c.in_err-i.was ∙ c.next_place.ensures))

pub loop-i-smaller-then-c : goal.loop-i-smaller-then-c
loop-i-smaller-then-c c = (nearing_field c.loop-i.invariant c.requires.0 c.if-c.true _ (sym c.in_ok-i.was ∙ c.next_place.ensures)).less

pub loop-i-preserved-then-c : goal.loop-i-preserved-then-c
loop-i-preserved-then-c c = nearing_on c.loop-i.invariant (nearing_field c.loop-i.invariant c.requires.0 c.if-c.true _ (sym c.in_ok-i.was ∙ c.next_place.ensures))

pub returns-then-c-ne0 : goal.returns-then-c-ne0
returns-then-c-ne0 c = meets_here c.loop-i.invariant c.if-c-ne0.true c.if-c.false

pub overflow_add-i : goal.overflow_add-i
overflow_add-i c = omega (arith, stands_in c.args.over c.args.m.now c.loop-i.invariant.stands)

pub loop-i-smaller : goal.loop-i-smaller
loop-i-smaller c = (at_pad c.args.over c.args.m.now c.loop-i.invariant.stands c.if-c-ne0.false).less

pub loop-i-preserved : goal.loop-i-preserved
loop-i-preserved c = nearing_on c.loop-i.invariant (at_pad c.args.over c.args.m.now c.loop-i.invariant.stands c.if-c-ne0.false)
