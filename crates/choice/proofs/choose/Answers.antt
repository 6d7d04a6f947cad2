-- `choice::choose` meets its contract. Assumes nothing.
use mathlib.Core.Path.{refl, sym}
use Prim.Native.Nat.{ℕ, ◌≤◌}
use native.Mathlib.Omega.{arith}
use lib.ListN.{length, take, drop, replicate, length-replicate}
use lib.Seq.{length-take-le}
use Rattle.std.specs.Prelude.{Ok}
use Rattle.std.proofs.lemmas.Result.{err_from_is_err_and}
use Rattle.options.specs.Grouped.{none, group_of, body}
use Rattle.filled.proofs.Answers.{fills_refusal, fills_unfilled}
use Rattle.sheet.proofs.Places.{found, lost}
use Rattle.groups.proofs.Files.{outer}
use Rattle.choice.specs.Parts.{Chose}
use Rattle.choice.proofs.Files.{choice_long, choice_none, choice_bad, choice_behind, choice_given}
use Rattle.choice.proofs.choose.Goals as goal

pub returns-then-f-gt4100 : goal.returns-then-f-gt4100
returns-then-f-gt4100 c = fills_unfilled _ c.at.result _ _ _ c.at.ensures (choice_long c.args.f.now c.args.class.now c.args.out.now c.if-f-gt4100.true)

pub returns-in_default : goal.returns-in_default
returns-in_default c =
    fills_unfilled _ c.at-in_default.result _ _ _ c.at-in_default.ensures (choice_none c.args.f.now c.args.class.now c.args.out.now c.if-f-gt4100.false _ refl (lost _ c.in_default.ensures))

pub slice_bounds-choose_group-end : goal.slice_bounds-choose_group-end
slice_bounds-choose_group-end c = let n = c.in-Some.n in
    let h = found _ n c.in-Some.ensures in
    sym (length-take-le n c.args.f.now (outer c.args.f.now n h.0 h.1).within)

pub choose_group-requires : goal.choose_group-requires
choose_group-requires c = let n = c.in-Some.n in
    let h = found _ n c.in-Some.ensures in
    let within : n ≤ length c.args.f.now = (outer c.args.f.now n h.0 h.1).within in
    (omega arith, omega (arith, c.if-f-gt4100.false, within, length-take-le n c.args.f.now within, length-replicate {A = ℕ} 4100 0))

pub returns-in_err-end : goal.returns-in_err-end
returns-in_err-end c = let n = c.in-Some.n in
    let h = found _ n c.in-Some.ensures in
    let r = c.in_err-end.field-0.0 in
    let q = err_from_is_err_and c.from_residual.result c.from_residual.ensures.1 in
    rw (q.1, q.2) (fills_refusal _ r c.args.out.now (choice_bad c.args.f.now c.args.class.now c.args.out.now c.if-f-gt4100.false n h.0 h.1 (replicate 4100 0) (length (take n c.args.f.now)) c.choose_group.new.out r c.in_err-end.ensures))

pub returns-then-n-f : goal.returns-then-n-f
returns-then-n-f c = let n = c.in-Some.n in
    let h = found _ n c.in-Some.ensures in
    fills_unfilled _ c.at-then-n-f.result _ _ _ c.at-then-n-f.ensures
    (choice_behind c.args.f.now c.args.class.now c.args.out.now c.if-f-gt4100.false n h.0 h.1 (replicate 4100 0) (length (take n c.args.f.now)) c.choose_group.new.out c.in_ok-end.end c.in_ok-end.ensures c.if-n-f.true)

pub slice_bounds-give-end : goal.slice_bounds-give-end
slice_bounds-give-end c = let n = c.in-Some.n in
    let h = found _ n c.in-Some.ensures in
    let within : n ≤ length c.args.f.now = (outer c.args.f.now n h.0 h.1).within in
    let k : Chose (group_of (body 4) 0 (drop 3 (take n c.args.f.now)) none) c.args.class.now (replicate 4100 0) 0 (length (take n c.args.f.now)) (Ok c.in_ok-end.end) c.choose_group.new.out = c.in_ok-end.ensures in
    sym (length-take-le c.in_ok-end.end c.choose_group.new.out (omega (arith, c.if-f-gt4100.false, within, length-take-le n c.args.f.now within, k.2, c.choose_group.auto.out, length-replicate {A = ℕ} 4100 0)))

pub returns : goal.returns
returns c = let n = c.in-Some.n in
    let h = found _ n c.in-Some.ensures in
    rw (choice_given c.args.f.now c.args.class.now c.args.out.now c.if-f-gt4100.false n h.0 h.1 (replicate 4100 0) (length (take n c.args.f.now)) c.choose_group.new.out c.in_ok-end.end c.in_ok-end.ensures c.if-n-f.false) c.give.ensures
