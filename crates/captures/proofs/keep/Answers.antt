-- `captures::keep` meets its contract. Assumes nothing.
use Rattle.std.proofs.Common.{arith}
use Rattle.captures.proofs.Keeping.{keeps_none, keeps_all}
use Rattle.captures.proofs.keep.Goals as goal

pub returns-then-message-size : goal.returns-then-message-size
returns-then-message-size c = keeps_none c.args.size c.args.read c.args.run.now c.args.message.now c.if-message-size.true

pub returns : goal.returns
returns c = keeps_all c.args.size c.args.read c.args.run.now c.args.message.now _ _ (omega (arith, c.if-message-size.false)) c.requires c.put_word.ensures
