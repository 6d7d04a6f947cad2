-- `captures::take_message` meets its contract. Assumes nothing.
use Rattle.std.proofs.Common.{arith}
use Rattle.captures.specs.Standing.{told_by}
use Rattle.captures.proofs.Stages.{takes_some, takes_last}
use Rattle.captures.proofs.take_message.Goals as goal

pub returns-then-next-size-clause-takes : goal.returns-then-next-size-clause-takes
returns-then-next-size-clause-takes c = let r = c.requires in
    rw c.at.ensures (takes_some c.args.run.now (told_by c.args.p) _ _ _ _ _ c.args.size c.args.read r.0 r.1 r.2 c.keep.ensures c.if-next-size.true)

pub returns-clause-takes : goal.returns-clause-takes
returns-clause-takes c = let r = c.requires in
    takes_last c.args.run.now (told_by c.args.p) _ _ _ _ _ c.args.size c.args.read r.0 r.1 r.2 c.keep.ensures (omega (arith, c.if-next-size.false, r.3)) _ _ _ _ c.close.ensures.closes
