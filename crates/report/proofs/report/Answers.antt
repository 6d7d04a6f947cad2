-- `report::report` meets its contract. Assumes nothing.
use Rattle.std.proofs.Common.{rules, ◌≡◌, length, arith}
use Rattle.report.proofs.Whole.{reports, whole_text}
use Rattle.report.proofs.report.Goals as goal

pub returns-clause-text : goal.returns-clause-text
returns-clause-text c =
    let room : length c.args.out.now ≡ 16384 = search rules in
    reports c.args.p c.args.verdicts.now c.args.held.now c.args.bytes.now c.args.out.now _ _ (omega (arith, room))
    (whole_text c.args.p c.args.verdicts.now c.args.held.now c.args.bytes.now c.put_line-a.ensures c.put_line-b.ensures c.put_refusals-c.ensures c.put_codes-d.ensures c.put_lease-e.ensures c.put_last.ensures)
