-- `kinds::text_len` meets its contract: the last byte that is not zero ends the text. Assumes nothing.
use borrow.Author.Rules.{rules}
use Rattle.kinds.proofs.Walks.{trim_last, trim_none}
use Rattle.kinds.proofs.text_len.Goals as goal

pub returns-in-Some : goal.returns-in-Some
returns-in-Some c = trim_last c.args.t.now c.in-Some.last (search rules) (search rules) (search rules)

pub returns-in-None : goal.returns-in-None
returns-in-None c = trim_none c.args.t.now (search rules)
