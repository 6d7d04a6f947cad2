-- `records::put_if` meets its contract. Assumes nothing.
use Rattle.records.proofs.Laying.{written_inactive}
use Rattle.records.proofs.put_if.Goals as goal

pub returns-then-not-on : goal.returns-then-not-on
returns-then-not-on c = written_inactive c.args.on c.args.f.now c.args.out.now c.args.at c.if-not-on.true

pub put_field-requires : goal.put_field-requires
put_field-requires c = rw c.if-not-on.false at c.requires

pub returns : goal.returns
returns c = rw c.if-not-on.false c.put_field.ensures
