-- `message::pass` meets its contract: at each turn what is left gives the same as the whole. Assumes nothing.
use native.Mathlib.Omega.{arith}
use mathlib.Core.Path.{sym, ap, ◌∙◌}
use Prim.Native.Nat.{ℕ, ◌+◌}
use Rattle.theorems.proofs.View.{clash}
use Rattle.message.proofs.Walks.{passing_begins, passing_on, passes_past, lasts_end, tally_one}
use denote.Param.{number}
use Rattle.message.specs.contracts.pass.{MARKED-type}
use Rattle.message.proofs.pass.Goals as goal

pub returns-then-end-i : goal.returns-then-end-i
returns-then-end-i g c = record {
  passing = passing_begins c.args.watched.now _ c.args.f.now c.args.from c.args.set.now c.requires.0;
  here = λ q. clash (cc);
  last = λ _. lasts_end c.args.f.now c.args.from (omega (arith, c.if-end-i.true, c.requires.2));
}

pub loop-end-init : goal.loop-end-init
loop-end-init g c = record { passing = passing_begins c.args.watched.now _ c.args.f.now c.args.from c.args.set.now c.requires.0; room = c.if-end-i.false }

pub returns-then-has : goal.returns-then-has
returns-then-has g c = record {
  passing = c.loop-end.invariant.passing;
  here = λ _. (omega (arith, c.loop-end.invariant.room, c.requires.2), sym c.has.ensures ∙ c.if-has.true);
  last = λ e. clash (cc);
}

pub past-requires : goal.past-requires
past-requires g c = omega (arith, c.loop-end.invariant.passing.few, c.loop-end.invariant.passing.at_in, c.requires.1)

pub returns-then-end-e : goal.returns-then-end-e
returns-then-end-e g c = passes_past c.loop-end.invariant.passing c.requires.3 c.requires.4 (omega (arith, c.loop-end.invariant.room, c.requires.2)) (sym c.has.ensures ∙ c.if-has.false)
    (ap (λ (n : ℕ). c.loop-end.i + 2 + n) c.from.ensures) (omega (arith, c.if-end-e.true, c.requires.2)) c.past.ensures.0 c.past.ensures.1

pub mark_if-count-requires : goal.mark_if-count-requires
mark_if-count-requires g c = omega (arith, c.loop-end.invariant.passing.few, c.loop-end.invariant.passing.at_in, c.requires.1)

pub loop-end-preserved : goal.loop-end-preserved
loop-end-preserved g c = record {
  passing = passing_on c.loop-end.invariant.passing c.requires.3 c.requires.4 (omega (arith, c.loop-end.invariant.room, c.requires.2)) (sym c.has.ensures ∙ c.if-has.false)
      (ap (λ (n : ℕ). c.loop-end.i + 2 + n) c.from.ensures) (omega (arith, c.if-end-e.false, c.requires.2)) c.mark_if-count.ensures.1 c.mark_if-count.ensures.0
      (omega (arith, c.mark_if-count.ensures.0, tally_one (MARKED-type (number g.row.MARKED))));
  room = c.if-end-e.false;
}
