-- `record_writer::put_record` meets its contract. Assumes nothing.
use mathlib.Core.Path.{◌∙◌}
use Rattle.record_writer.proofs.Bytes.{too_long, record_copied}
use Rattle.record_writer.proofs.put_record.Goals as goal

pub returns-then-n-gt65535 : goal.returns-then-n-gt65535
returns-then-n-gt65535 c = too_long c.args.room.now c.args.body.now c.args.tag c.if-n-gt65535.true

pub returns : goal.returns
returns c = c.put.ensures ∙ record_copied c.args.room.now c.args.body.now c.args.tag c.if-n-gt65535.false
