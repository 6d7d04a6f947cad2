-- `message::field_bytes` meets its contract. Assumes nothing.
use mathlib.Core.Path.{◌∙◌}
use Rattle.message.proofs.Laws.{take_more}
use Rattle.message.proofs.field_bytes.Goals as goal

pub returns-in-Options : goal.returns-in-Options
returns-in-Options c = rw c.in-Options.is (c.part.ensures.0 ∙ take_more c.args.m.now 240)

pub returns-in-File : goal.returns-in-File
returns-in-File c = rw c.in-File.is c.part-in-File.ensures.0

pub returns-in-Sname : goal.returns-in-Sname
returns-in-Sname c = rw c.in-Sname.is c.part-in-Sname.ensures.0
