-- `codeset::count` meets its contract. Assumes nothing.
use Rattle.std.proofs.Common.{rules}
use Rattle.codeset.proofs.Words.{ones_four}
use Rattle.codeset.proofs.count.Goals as goal

pub returns : goal.returns
returns c = ones_four c.args.w (search rules)
