-- `route_writer::measure` meets its contract. Assumes nothing.
use Rattle.std.proofs.Common.{◌≡◌, sym, ap, ◌∙◌, true, false, arith, drop}
use Rattle.std.proofs.lemmas.Bool.{eqb-true, eqb-false}
use Rattle.route_writer.specs.Measure.{faulty_at}
use Rattle.route_writer.proofs.One.{take_rest}
use Rattle.route_writer.proofs.Measuring.{measure_none, measure_begins, measure_ends, measure_faulty, measure_on}
use Rattle.route_writer.proofs.measure.Goals as goal

pub returns-then-is_empty : goal.returns-then-is_empty
returns-then-is_empty c = rw c.at.ensures (measure_none c.args.s.now (eqb-true _ 0 (sym c.if-is_empty.ensures)))

pub loop-at-init : goal.loop-at-init
loop-at-init c = measure_begins c.args.s.now (eqb-false _ 0 (sym c.if-is_empty.ensures))

pub returns-then-is_faulty : goal.returns-then-is_faulty
returns-then-is_faulty c =
    let s = c.args.s.now in
    let e : faulty_at (drop c.loop-at.at s) ≡ true = ap faulty_at (sym (take_rest s c.loop-at.at)) ∙ sym c.is_faulty.ensures ∙ c.if-is_faulty.true in
    rw c.at-then-is_faulty.ensures (measure_faulty c.loop-at.invariant c.loop-at-test.true e)

pub loop-at-preserved : goal.loop-at-preserved
loop-at-preserved c =
    let s = c.args.s.now in
    let e : faulty_at (drop c.loop-at.at s) ≡ false = ap faulty_at (sym (take_rest s c.loop-at.at)) ∙ sym c.is_faulty.ensures ∙ c.if-is_faulty.false in
    rw c.width_bytes.ensures (measure_on c.loop-at.invariant c.loop-at-test.true e)

pub returns : goal.returns
returns c = measure_ends c.loop-at.invariant (omega arith)
