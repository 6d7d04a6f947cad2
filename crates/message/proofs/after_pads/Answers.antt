-- `message::after_pads` meets its contract. Assumes nothing.
use Rattle.wire.proofs.Skips.{passed}
use Rattle.message.proofs.after_pads.Goals as goal

pub returns : goal.returns
returns c = rw c.unwrap_or.ensures (passed c.args.f.now c.args.from c.requires c.code_at.result c.code_at.ensures)
