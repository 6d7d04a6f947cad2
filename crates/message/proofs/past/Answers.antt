-- `message::past` meets its contract. Assumes nothing.
use mathlib.Core.Path.{refl}
use lib.ListN.{length}
use borrow.Author.Tests.{lt-ltb, le-ltb}
use Rattle.message.proofs.past.Goals as goal

pub returns-then-f-next : goal.returns-then-f-next
returns-then-f-next g c = rw (lt-ltb (length c.args.f.now) c.args.next c.if-f-next.true) (refl, refl)

pub returns : goal.returns
returns g c = rw (le-ltb (length c.args.f.now) c.args.next c.if-f-next.false) (rw c.mark_if-n.ensures.0 refl, c.mark_if-n.ensures.1)
