-- `report::put_refusals` meets its contract. Assumes nothing.
use Rattle.std.proofs.Common.{rules, ◌≡◌, length, arith}
use Rattle.text.proofs.Putting.{puts_as, left_more, left_none}
use Rattle.report.proofs.Lines.{refusal_two, refusals_next, refusals_none}
use Rattle.report.proofs.put_refusals.Goals as goal

pub loop-number-preserved : goal.loop-number-preserved
loop-number-preserved c =
    let k = c.loop-number.number in
    let eight : length c.args.verdicts.now ≡ 8 = search rules in
    left_more c.loop-number.invariant _ _ (refusals_next k c.args.verdicts.now (omega (arith, c.loop-number-test.true, eight))) (puts_as (refusal_two k _) c.put_line-o.ensures)

pub returns : goal.returns
returns c =
    let eight : length c.args.verdicts.now ≡ 8 = search rules in
    left_none c.loop-number.invariant (refusals_none c.loop-number.number c.args.verdicts.now (omega (arith, c.loop-number-test.false, eight)))
