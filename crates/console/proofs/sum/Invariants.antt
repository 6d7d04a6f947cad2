-- `console::sum`: what is kept and the bytes that are left give the number. Assumes nothing.
use Rattle.std.proofs.Common.{◌≡◌, ◌<◌, drop}
use Rattle.console.specs.Sum.{sum_of}
use Rattle.console.proofs.sum.Given as goal

abbrev pub invariant-loop-x : goal.invariant-loop-x
invariant-loop-x l = record {
  small : l.t < 1000003;
  same : sum_of l.t (drop l.x-index l.s) ≡ sum_of 0 l.s;
}
