-- `routes::proved` meets its contract. Assumes nothing.
use Rattle.routes.proofs.Reader.{reader_gives_the_routes, entry_keeps_the_step, done_gives_nothing}
use Rattle.routes.proofs.proved.Goals as goal

pub returns : goal.returns
returns c = (reader_gives_the_routes, entry_keeps_the_step, done_gives_nothing)
