-- `tally::count_options` meets its contract. Assumes nothing.
use Rattle.std.proofs.Common.{sym, refl, ◌∙◌, arith}
use Rattle.records.proofs.Places.{stands_in, at_pad}
use Rattle.tally.proofs.Counting.{counting_begins, goes_reach, counting_goes, first_within, first_less, first_on, further_within, further_less, further_on, ends_here, next_field}
use Rattle.tally.proofs.count_options.Goals as goal

pub loop-n-init : goal.loop-n-init
loop-n-init c = rw c.end_marks-met.ensures (counting_begins c.args.over c.args.m.now _ _ c.requires)

pub bounds-m-i : goal.bounds-m-i
bounds-m-i c = stands_in c.args.over c.args.m.now c.loop-n.invariant.stands

pub bounds-m-i-then-not-has : goal.bounds-m-i-then-not-has
bounds-m-i-then-not-has c = omega (arith, first_within c.loop-n.invariant _ refl (sym c.has.ensures ∙ c.if-not-has.true))

pub overflow_add-i : goal.overflow_add-i
overflow_add-i c = omega (arith, first_within c.loop-n.invariant _ refl (sym c.has.ensures ∙ c.if-not-has.true))

pub overflow_add-i-then-not-has : goal.overflow_add-i-then-not-has
overflow_add-i-then-not-has c = omega (arith, first_within c.loop-n.invariant _ refl (sym c.has.ensures ∙ c.if-not-has.true))

pub overflow_add-i-then-not-has-2 : goal.overflow_add-i-then-not-has-2
overflow_add-i-then-not-has-2 c = omega (arith, first_within c.loop-n.invariant _ refl (sym c.has.ensures ∙ c.if-not-has.true), c.wide-n.ensures.0)

pub loop-n-smaller-then-not-has : goal.loop-n-smaller-then-not-has
loop-n-smaller-then-not-has c = first_less c.loop-n.invariant c.wide-n.result c.wide-n.ensures.0 (sym c.has.ensures ∙ c.if-not-has.true)

pub loop-n-preserved-then-not-has : goal.loop-n-preserved-then-not-has
loop-n-preserved-then-not-has c = let e = c.count_first.ensures in
    rw e.1 (first_on c.loop-n.invariant c.wide-n.result c.wide-n.ensures.0 (sym c.has.ensures ∙ c.if-not-has.true) e.0 _ _ e.2 e.3)

pub returns-in_default : goal.returns-in_default
returns-in_default c = ends_here c.loop-n.invariant c.if-c.true (sym c.next_place.ensures ∙ c.in_default.is)

pub loop-n-smaller-then-c : goal.loop-n-smaller-then-c
loop-n-smaller-then-c c = (next_field c.loop-n.invariant c.if-c.true c.in-Some.next (sym c.next_place.ensures ∙ c.in-Some.is) c.requires).less

pub loop-n-preserved-then-c : goal.loop-n-preserved-then-c
loop-n-preserved-then-c c = counting_goes c.loop-n.invariant (next_field c.loop-n.invariant c.if-c.true c.in-Some.next (sym c.next_place.ensures ∙ c.in-Some.is) c.requires)

pub overflow_add-i-then-c-eq0 : goal.overflow_add-i-then-c-eq0
overflow_add-i-then-c-eq0 c = omega (arith, stands_in c.args.over c.args.m.now c.loop-n.invariant.stands)

pub past_pads-i-requires : goal.past_pads-i-requires
past_pads-i-requires c = (at_pad c.args.over c.args.m.now c.loop-n.invariant.stands c.if-c-eq0.true).stands

pub loop-n-smaller-then-c-eq0 : goal.loop-n-smaller-then-c-eq0
loop-n-smaller-then-c-eq0 c = (goes_reach (at_pad c.args.over c.args.m.now c.loop-n.invariant.stands c.if-c-eq0.true) c.past_pads-i.ensures).less

pub loop-n-preserved-then-c-eq0 : goal.loop-n-preserved-then-c-eq0
loop-n-preserved-then-c-eq0 c = counting_goes c.loop-n.invariant (goes_reach (at_pad c.args.over c.args.m.now c.loop-n.invariant.stands c.if-c-eq0.true) c.past_pads-i.ensures)

pub bounds-m-i-else-c-eq0 : goal.bounds-m-i-else-c-eq0
bounds-m-i-else-c-eq0 c = omega (arith, further_within c.loop-n.invariant _ refl c.if-c-eq0.false c.if-c.false)

pub overflow_add-i-else-c-eq0 : goal.overflow_add-i-else-c-eq0
overflow_add-i-else-c-eq0 c = omega (arith, further_within c.loop-n.invariant _ refl c.if-c-eq0.false c.if-c.false)

pub overflow_add-i-else-c-eq0-2 : goal.overflow_add-i-else-c-eq0-2
overflow_add-i-else-c-eq0-2 c = omega (arith, further_within c.loop-n.invariant _ refl c.if-c-eq0.false c.if-c.false)

pub overflow_add-i-else-c-eq0-3 : goal.overflow_add-i-else-c-eq0-3
overflow_add-i-else-c-eq0-3 c = omega (arith, further_within c.loop-n.invariant _ refl c.if-c-eq0.false c.if-c.false, c.wide-n-else-c-eq0.ensures.0)

pub loop-n-smaller : goal.loop-n-smaller
loop-n-smaller c = further_less c.loop-n.invariant c.wide-n-else-c-eq0.result c.wide-n-else-c-eq0.ensures.0 c.if-c-eq0.false c.if-c.false

pub loop-n-preserved : goal.loop-n-preserved
loop-n-preserved c = let e = c.count_further.ensures in
    further_on c.loop-n.invariant c.wide-n-else-c-eq0.result c.wide-n-else-c-eq0.ensures.0 c.if-c-eq0.false c.if-c.false (sym c.has.ensures ∙ c.if-not-has.false) _ e.1
