-- `records::count_pieces` meets its contract: at each turn the table, with the pieces that are left counted, is the whole. Assumes nothing.
use borrow.Author.Rules.{rules}
use native.Mathlib.Omega.{arith}
use mathlib.Core.Path.{◌≡◌, refl}
use Prim.Native.Nat.{◌+◌}
use lib.ListN.{get_or}
use Rattle.records.specs.Places.{MeetsAt}
use Rattle.records.specs.JoinedRecords.{one_more_value}
use Rattle.records.proofs.Places.{met_within, met, met_stands, met_left, met_less}
use Rattle.records.proofs.Joining.{counting_begins, counting_ends, counting_on}
use Rattle.records.proofs.count_pieces.Goals as goal

pub loop-i-init : goal.loop-i-init
loop-i-init c = counting_begins c.args.over c.args.m.now c.args.table.now c.requires.0 c.requires.1

pub bounds-m-i-in-Some : goal.bounds-m-i-in-Some
bounds-m-i-in-Some c = let k : MeetsAt c.args.over c.args.m.now c.loop-i.from c.in-Some.i = c.in-Some.ensures in omega (arith, met_within k (get_or c.args.m.now (c.in-Some.i + 1) 0) _ refl refl)

pub loop-i-smaller : goal.loop-i-smaller
loop-i-smaller c = let k : MeetsAt c.args.over c.args.m.now c.loop-i.from c.in-Some.i = c.in-Some.ensures in met_less k c.wide.result _ c.wide.ensures.0 refl

pub loop-i-preserved : goal.loop-i-preserved
loop-i-preserved c =
    let k : MeetsAt c.args.over c.args.m.now c.loop-i.from c.in-Some.i = c.in-Some.ensures in
    let n : c.min.result + 1 ≡ one_more_value (get_or c.loop-i.table c.wide-k.result 0) = search rules in
    rw (n, c.wide-k.ensures.0) (counting_on c.loop-i.invariant (met k c.wide.result _ c.wide.ensures.0 refl) (met_stands k c.wide.result _ c.wide.ensures.0 refl) (met_left k c.wide.result _ c.wide.ensures.0 refl))

pub returns : goal.returns
returns c = counting_ends c.loop-i.invariant c.in_default.ensures
