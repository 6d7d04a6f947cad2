-- `report::put_line` meets its contract. Assumes nothing.
use Rattle.std.proofs.Common.{arith}
use Rattle.text.proofs.Putting.{puts_as, puts_more, left_more}
use Rattle.report.proofs.Lines.{more_next, more_none, line_made}
use Rattle.report.proofs.put_line.Goals as goal

pub loop-n-preserved : goal.loop-n-preserved
loop-n-preserved c = left_more c.loop-n.invariant _ _ (more_next c.loop-n.n-index c.args.others.now (omega (arith, c.loop-n-test.true))) (puts_more c.put_byte-b.ensures c.put_decimal-o-in-loop-n.ensures)

pub returns : goal.returns
returns c = puts_as (line_made c.args.word.now c.args.first c.args.others.now)
    (puts_more (puts_more c.put_word-a.ensures c.put_decimal-o.ensures) (c.loop-n.invariant.whole _ _ (puts_as (more_none c.loop-n.n-index c.args.others.now c.loop-n-test.false) c.put_byte.ensures)))
