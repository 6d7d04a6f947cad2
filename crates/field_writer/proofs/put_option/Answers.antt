-- `field_writer::put_option` meets its contract. Assumes nothing.
use mathlib.Core.Path.{◌∙◌}
use Rattle.field_writer.proofs.Bytes.{too_long, option_copied}
use Rattle.field_writer.proofs.put_option.Goals as goal

pub returns-then-n-gt255 : goal.returns-then-n-gt255
returns-then-n-gt255 c = too_long c.args.room.now c.args.body.now c.args.code c.if-n-gt255.true

pub returns : goal.returns
returns c = c.put.ensures ∙ option_copied c.args.room.now c.args.body.now c.args.code c.if-n-gt255.false
