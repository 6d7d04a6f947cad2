-- `codeset::insert` meets its contract: the word is the same exactly where the digit was set. Assumes nothing.
use Rattle.std.proofs.Common.{◌/◌, ◌%◌, not, get_or, ap, arith}
use Rattle.codeset.proofs.Words.{one_shl, or_tells}
use Rattle.codeset.proofs.insert.Goals as goal

pub returns-clause-first : goal.returns-clause-first
returns-clause-first c =
    rw (c.word-k.ensures.0, one_shl (c.args.c % 64) (omega arith)) (ap not (or_tells (get_or c.args.w.now (c.args.c / 64) 0) (c.args.c % 64)))
