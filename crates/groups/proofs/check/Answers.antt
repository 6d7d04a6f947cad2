-- `groups::check` meets its contract. Assumes nothing.
use mathlib.Core.Path.{refl, sym, ap, ◌∙◌}
use lib.Seq.{length-take-le}
use Rattle.options.specs.Answers.{passed, refused_with}
use Rattle.options.specs.Grouped.{fault_of}
use Rattle.refusal.specs.Refused.{number_of}
use Rattle.std.proofs.lemmas.Result.{err_from_is_err_and}
use Rattle.sheet.proofs.Places.{found, lost}
use Rattle.groups.proofs.Laws.{refused_as}
use Rattle.groups.proofs.Files.{outer, behind_some, behind_none, check_long, check_none, check_after}
use Rattle.groups.proofs.check.Goals as goal

pub returns-then-f-gt4100 : goal.returns-then-f-gt4100
returns-then-f-gt4100 c = refused_as c.at.ensures ∙ sym (check_long c.args.f.now c.if-f-gt4100.true)

pub returns-in_default : goal.returns-in_default
returns-in_default c = refused_as c.at-in_default.ensures ∙ sym (check_none c.args.f.now c.if-f-gt4100.false _ refl (lost _ c.in_default.ensures))

pub slice_bounds-check_group-end : goal.slice_bounds-check_group-end
slice_bounds-check_group-end c = let f = c.args.f.now in
    let k = found _ c.in-Some.n c.in-Some.ensures in
    sym (length-take-le c.in-Some.n f (outer f c.in-Some.n k.0 k.1).within)

pub returns-in_err-check_group : goal.returns-in_err-check_group
returns-in_err-check_group c = let f = c.args.f.now in
    let k = found _ c.in-Some.n c.in-Some.ensures in
    let r = c.in_err-check_group.field-0.0 in
    let q = err_from_is_err_and c.from_residual.result c.from_residual.ensures.1 in
    rw (q.1, q.2) (sym (check_after f c.if-f-gt4100.false c.in-Some.n k.0 k.1 (refused_with (number_of r.rule) r.place) c.in_err-check_group.ensures))

pub returns-then-n-f : goal.returns-then-n-f
unfolding fault_of
returns-then-n-f c = let f = c.args.f.now in
    let k = found _ c.in-Some.n c.in-Some.ensures in
    refused_as c.at-then-n-f.ensures
    ∙ sym (check_after f c.if-f-gt4100.false c.in-Some.n k.0 k.1 passed c.in_ok-check_group.ensures ∙ ap fault_of (behind_some f c.in-Some.n c.if-n-f.true))

pub returns : goal.returns
unfolding fault_of
returns c = let f = c.args.f.now in
    let k = found _ c.in-Some.n c.in-Some.ensures in
    sym (check_after f c.if-f-gt4100.false c.in-Some.n k.0 k.1 passed c.in_ok-check_group.ensures ∙ ap fault_of (behind_none f c.in-Some.n c.if-n-f.false))
