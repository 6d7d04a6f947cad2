-- `report::put_codes` meets its contract. Assumes nothing.
use Rattle.std.proofs.Common.{rules, ◌≡◌, length, arith}
use Rattle.text.proofs.Putting.{left_more, left_none}
use Rattle.report.proofs.Lines.{codes_next, codes_none}
use Rattle.report.proofs.put_codes.Goals as goal

pub loop-code-preserved : goal.loop-code-preserved
loop-code-preserved c =
    let all_held : length c.args.held.now ≡ 256 = search rules in
    let all_bytes : length c.args.bytes.now ≡ 256 = search rules in
    left_more c.loop-code.invariant _ _
    (codes_next c.loop-code.code c.args.held.now c.args.bytes.now (omega (arith, c.loop-code-test.true, all_held)) (omega (arith, c.loop-code-test.true, all_bytes, all_held)))
    c.put_held-o.ensures

pub returns : goal.returns
returns c =
    let all_held : length c.args.held.now ≡ 256 = search rules in
    left_none c.loop-code.invariant (codes_none c.loop-code.code c.args.held.now c.args.bytes.now (omega (arith, c.loop-code-test.false, all_held)))
