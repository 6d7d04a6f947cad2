-- `index_copy::proved` meets its contract. Assumes nothing.
use Rattle.index_copy.proofs.Copying.{copies_by_the_words, copies_as_plain}
use Rattle.index_copy.proofs.proved.Goals as goal

pub returns : goal.returns
returns c = (copies_by_the_words, copies_as_plain)
