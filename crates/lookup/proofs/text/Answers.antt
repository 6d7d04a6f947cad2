-- `lookup::text` meets its contract. Assumes nothing.
use Rattle.lookup.proofs.text.Goals as goal

pub returns : goal.returns
returns c = rw (← c.text_extent-e.ensures) c.part.ensures
