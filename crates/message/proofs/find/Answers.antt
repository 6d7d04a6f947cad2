-- `message::find` meets its contract. Assumes nothing.
use Rattle.message.specs.Scan.{scan_of}
use Rattle.message.proofs.find.Goals as goal

pub returns : goal.returns
unfolding scan_of
returns c = c.scan.ensures.is
