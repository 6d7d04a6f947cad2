-- `index::enter` meets its contract. Assumes nothing.
use Rattle.std.specs.Prelude.{Ok}
use Rattle.index.proofs.Built.{entered}
use Rattle.index.proofs.enter.Goals as goal

pub returns : goal.returns
returns c = rw c.entry_52-over.ensures (entered c.args.m.now c.requires.0 (Ok (tt {0})) c.fill.new.index (rw c.requires.1 at c.in_ok-fill.ensures))
