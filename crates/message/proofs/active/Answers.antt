-- `message::active` meets its contract. Assumes nothing.
use Rattle.message.proofs.active.Goals as goal

pub returns-in-File : goal.returns-in-File
returns-in-File c = rw c.in-File.is c.file_on.ensures

pub returns-in-Sname : goal.returns-in-Sname
returns-in-Sname c = rw c.in-Sname.is c.sname_on.ensures
