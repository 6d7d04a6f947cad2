-- `captures::close` meets its contract. Assumes nothing.
use Rattle.captures.specs.Standing.{told_by}
use Rattle.captures.proofs.Closing.{closes}
use Rattle.captures.proofs.close.Goals as goal

pub returns-clause-closes : goal.returns-clause-closes
returns-clause-closes c = rw c.behind.ensures (closes c.args.size (told_by c.args.p) c.args.message.now _ _ _ _ _ _ _ c.note-time.ensures.notes)
