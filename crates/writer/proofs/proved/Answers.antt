-- `writer::proved` meets its contract. Assumes nothing.
use Rattle.writer.proofs.Cases.{gives_by_case, writes_by_case}
use Rattle.writer.proofs.proved.Goals as goal

pub returns : goal.returns
returns c = (gives_by_case, writes_by_case)
