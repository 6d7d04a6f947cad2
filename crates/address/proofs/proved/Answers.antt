-- `address::proved` meets its contract: each statement by its proof. Assumes nothing.
use Rattle.address.proofs.Reader.{reader_gives_the_addresses, entry_keeps_the_step, done_gives_nothing}
use Rattle.address.proofs.proved.Goals as goal

pub returns : goal.returns
returns c = (reader_gives_the_addresses, entry_keeps_the_step, done_gives_nothing)
