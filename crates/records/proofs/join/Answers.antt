-- `records::join` meets its contract: at each turn the data that are laid, with the pieces that are left, are the whole. Assumes nothing.
use native.Mathlib.Omega.{arith}
use mathlib.Core.Path.{refl}
use mathlib.Core.Bool.{cond}
use mathlib.Core.List.{[]}
use Prim.Native.Nat.{◌+◌}
use lib.Dec.{eqb}
use lib.ListN.{get_or, take, drop}
use Rattle.records.specs.Places.{MeetsAt, joined_at}
use Rattle.records.proofs.Places.{part_is, stands_in, at_pad, field_goes, field_none, nearing_begins, meets_here, met_within, met, met_stands, met_left, met_less}
use Rattle.records.proofs.Joining.{still_begins, still_ends, still_room, still_on, gathering_goes, joined_none, joined_more}
use Rattle.records.proofs.join.Goals as goal

pub loop-i-init : goal.loop-i-init
loop-i-init c = let all = joined_at c.args.over c.args.m.now c.args.from c.args.code in
    record { stands = c.requires.1; still = still_begins c.args.out.now c.args.at all all refl c.requires.2 }

pub bounds-m-i : goal.bounds-m-i
bounds-m-i c = stands_in c.args.over c.args.m.now c.loop-i.invariant.stands

pub returns-in_default : goal.returns-in_default
returns-in_default c = still_ends c.loop-i.invariant.still (joined_none c.args.over c.args.m.now c.loop-i.i c.args.code (field_none c.loop-i.invariant.stands c.if-c.true c.in_default.ensures))

pub loop-i-smaller-then-c : goal.loop-i-smaller-then-c
loop-i-smaller-then-c c = (field_goes c.loop-i.invariant.stands c.requires.0 c.if-c.true _ c.in-Some.ensures).less

pub loop-i-preserved-then-c : goal.loop-i-preserved-then-c
loop-i-preserved-then-c c = gathering_goes c.loop-i.invariant (field_goes c.loop-i.invariant.stands c.requires.0 c.if-c.true _ c.in-Some.ensures)

pub overflow_add-i : goal.overflow_add-i
overflow_add-i c = omega (arith, stands_in c.args.over c.args.m.now c.loop-i.invariant.stands)

pub loop-i-smaller-then-c-eq0 : goal.loop-i-smaller-then-c-eq0
loop-i-smaller-then-c-eq0 c = (at_pad c.args.over c.args.m.now c.loop-i.invariant.stands c.if-c-eq0.true).less

pub loop-i-preserved-then-c-eq0 : goal.loop-i-preserved-then-c-eq0
loop-i-preserved-then-c-eq0 c = gathering_goes c.loop-i.invariant (at_pad c.args.over c.args.m.now c.loop-i.invariant.stands c.if-c-eq0.true)

pub bounds-m-i-else-c-eq0 : goal.bounds-m-i-else-c-eq0
bounds-m-i-else-c-eq0 c = let k : MeetsAt c.args.over c.args.m.now c.loop-i.i c.loop-i.i = meets_here (nearing_begins c.loop-i.invariant.stands) c.if-c-eq0.false c.if-c.false in omega (arith, met_within k (get_or c.args.m.now (c.loop-i.i + 1) 0) _ refl refl)

pub slice_bounds-put_piece-end : goal.slice_bounds-put_piece-end
slice_bounds-put_piece-end c = let k : MeetsAt c.args.over c.args.m.now c.loop-i.i c.loop-i.i = meets_here (nearing_begins c.loop-i.invariant.stands) c.if-c-eq0.false c.if-c.false in omega (arith, met_within k c.wide.result _ c.wide.ensures.0 refl)

pub put_piece-o-requires : goal.put_piece-o-requires
put_piece-o-requires c = let k : MeetsAt c.args.over c.args.m.now c.loop-i.i c.loop-i.i = meets_here (nearing_begins c.loop-i.invariant.stands) c.if-c-eq0.false c.if-c.false in
    rw (part_is c.args.m.now c.loop-i.i c.wide.result) (omega (arith, still_room c.loop-i.invariant.still (cond (eqb c.args.code (get_or c.args.m.now c.loop-i.i 0)) (take c.wide.result (drop (c.loop-i.i + 2) c.args.m.now)) []) (joined_at c.args.over c.args.m.now (c.loop-i.i + 2 + c.wide.result) c.args.code) (joined_more c.args.over c.args.m.now c.loop-i.i (c.loop-i.i + 2 + c.wide.result) c.args.code (met k c.wide.result _ c.wide.ensures.0 refl) (met_left k c.wide.result _ c.wide.ensures.0 refl))))

pub loop-i-smaller : goal.loop-i-smaller
loop-i-smaller c = let k : MeetsAt c.args.over c.args.m.now c.loop-i.i c.loop-i.i = meets_here (nearing_begins c.loop-i.invariant.stands) c.if-c-eq0.false c.if-c.false in met_less k c.wide.result _ c.wide.ensures.0 refl

pub loop-i-preserved : goal.loop-i-preserved
loop-i-preserved c = let k : MeetsAt c.args.over c.args.m.now c.loop-i.i c.loop-i.i = meets_here (nearing_begins c.loop-i.invariant.stands) c.if-c-eq0.false c.if-c.false in
    record {
      stands = met_stands k c.wide.result _ c.wide.ensures.0 refl;
      still = still_on c.loop-i.invariant.still (cond (eqb c.args.code (get_or c.args.m.now c.loop-i.i 0)) (take c.wide.result (drop (c.loop-i.i + 2) c.args.m.now)) []) (joined_at c.args.over c.args.m.now (c.loop-i.i + 2 + c.wide.result) c.args.code) (joined_more c.args.over c.args.m.now c.loop-i.i (c.loop-i.i + 2 + c.wide.result) c.args.code (met k c.wide.result _ c.wide.ensures.0 refl) (met_left k c.wide.result _ c.wide.ensures.0 refl)) c.put_piece-o.auto.out (rw (part_is c.args.m.now c.loop-i.i c.wide.result) at c.put_piece-o.ensures);
    }
