-- `sheet::judge` meets its contract: at each turn what is left of the sheet gives the verdict on the whole. Assumes nothing.
use Prim.Native.Nat.{◌-◌}
use lib.ListN.{length}
use Rattle.sheet.specs.Parts.{counted}
use Rattle.sheet.proofs.Judging.{Judging}
use Rattle.sheet.proofs.ThreeOne.{sums}
use Rattle.sheet.proofs.judge.Given as goal

abbrev pub invariant-loop-tag : goal.invariant-loop-tag
invariant-loop-tag l = Judging l.s l.seen (counted l.tags.three) l.tags.one (sums l.total l.single (counted l.relay)) l.at

abbrev pub decreases-loop-tag : goal.decreases-loop-tag
decreases-loop-tag l = length l.s - l.at
