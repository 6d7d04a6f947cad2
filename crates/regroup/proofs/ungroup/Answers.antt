-- `regroup::ungroup` meets its contract. Assumes nothing.
use mathlib.Core.Path.{◌≡◌, sym, ap, ◌∙◌}
use mathlib.Core.List.{List}
use Prim.Native.Nat.{ℕ, ◌-◌}
use native.Mathlib.Omega.{arith}
use lib.ListN.{length, take, drop, length-drop}
use lib.Seq.{take_all}
use Rattle.refusal.specs.Refused.{number_of}
use Rattle.std.proofs.lemmas.Result.{err_from_is_err_and}
use Rattle.options.specs.Answers.{filled_with}
use Rattle.filled.proofs.Answers.{fills_refusal, fills_unfilled}
use Rattle.regroup.proofs.Laws.{whole_file, back_refused, back_none, back_given}
use Rattle.regroup.proofs.ungroup.Goals as goal

pub returns-in_err-check : goal.returns-in_err-check
returns-in_err-check c = let r = c.in_err-check.field-0.0 in
    let q = err_from_is_err_and c.from_residual.result c.from_residual.ensures.1 in
    rw (q.1, q.2) (fills_refusal _ r c.args.out.now (back_refused c.args.f.now c.args.out.now (number_of r.rule) r.place (sym c.in_err-check.ensures)))

pub returns-then-not-is_plain : goal.returns-then-not-is_plain
returns-then-not-is_plain c = fills_unfilled _ c.at.result _ _ _ c.at.ensures (back_none c.args.f.now c.args.out.now (sym c.in_ok-check.ensures) (sym c.if-not-is_plain.ensures))

pub slice_bounds-give-count : goal.slice_bounds-give-count
slice_bounds-give-count c = omega (arith, (whole_file c.args.f.now (sym c.in_ok-check.ensures)).long)

pub slice_bounds-give-start : goal.slice_bounds-give-start
slice_bounds-give-start c = omega (arith, (whole_file c.args.f.now (sym c.in_ok-check.ensures)).long)

pub returns : goal.returns
returns c = let f = c.args.f.now in
    let part : take (length f - 4) (drop 4 f) ≡ drop 4 f = take_all (length f - 4) (drop 4 f) (omega (arith, length-drop 4 f)) in
    rw (back_given f c.args.out.now (sym c.in_ok-check.ensures) (sym c.if-not-is_plain.ensures) ∙ ap (λ (xs : List ℕ). filled_with xs c.args.out.now) (sym part)) c.give.ensures
