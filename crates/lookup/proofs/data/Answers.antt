-- `lookup::data` meets its contract. Assumes nothing.
use Rattle.lookup.proofs.data.Goals as goal

pub returns : goal.returns
returns c = rw (← c.data_extent-e.ensures) c.part.ensures
