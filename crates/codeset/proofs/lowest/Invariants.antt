use Rattle.std.proofs.Common.{◌≡◌, drop}
use Rattle.options.specs.CodeSet.{lowest_of}
use Rattle.codeset.proofs.lowest.Given as goal

abbrev pub invariant-loop-k : goal.invariant-loop-k
invariant-loop-k l = lowest_of (drop l.k l.fn.w) l.k ≡ lowest_of l.fn.w 0
