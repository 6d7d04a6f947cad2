-- `plan::overload_plan` meets its contract: each answer, from what the fields leave over. Assumes nothing.
use mathlib.Core.Path.{◌≡◌, refl, sym, ap, ◌∙◌}
use mathlib.Core.List.{List}
use native.Mathlib.Omega.{arith}
use borrow.Author.Tests.{eq-eqb}
use lib.Dec.{ltb}
use Rattle.options.specs.Message.{Rec}
use Rattle.options.specs.Writing.{pieces_left}
use Rattle.sheet.specs.Places.{unless_0}
use Rattle.plan.specs.Steps.{sizes, left_over, first_fit}
use Rattle.plan.proofs.Trying.{plan_some, none_small, sname_only, with_file, file_only, with_both}
use Rattle.plan.proofs.overload_plan.Goals as goal

pub returns-then-permission-eq0 : goal.returns-then-permission-eq0
unfolding first_fit
returns-then-permission-eq0 c = rw (eq-eqb _ 0 c.if-permission-eq0.true)

pub returns-then-n-lt4 : goal.returns-then-n-lt4
returns-then-n-lt4 c = ap unless_0 (none_small _ (pieces_left c.args.s.now 0 0) c.args.permission c.if-permission-eq0.false c.if-n-lt4.true)

pub returns-then-permission-eq2 : goal.returns-then-permission-eq2
returns-then-permission-eq2 c =
    c.plan_if.ensures ∙ plan_some (ltb c.rest_after-options.result.total 64) 2 (λ z. omega arith)
    ∙ ap unless_0 (sname_only _ (pieces_left c.args.s.now 0 0) c.args.permission c.if-permission-eq0.false c.if-n-lt4.false _ c.rest_after-options.ensures.0.total _ c.if-permission-eq2.true refl)

pub returns-then-options-lt128 : goal.returns-then-options-lt128
returns-then-options-lt128 c =
    ap unless_0 (with_file _ (pieces_left c.args.s.now 0 0) c.args.permission c.if-permission-eq0.false c.if-n-lt4.false _ c.rest_after-options.ensures.0.total c.if-permission-eq2.false (omega (arith, c.if-options-lt128.true)))

pub returns-then-permission-eq1 : goal.returns-then-permission-eq1
returns-then-permission-eq1 c =
    ap unless_0 (file_only _ (pieces_left c.args.s.now 0 0) c.args.permission c.if-permission-eq0.false c.if-n-lt4.false _ c.rest_after-options.ensures.0.total c.if-permission-eq2.false c.if-options-lt128.false c.if-permission-eq1.true)

pub rest_after-file-requires : goal.rest_after-file-requires
rest_after-file-requires c = let o = c.rest_after-options.ensures in
    (o.0.from.between, o.1, o.0.total ∙ ap sizes (sym o.0.from.pieces))

pub returns : goal.returns
returns c = let file : c.rest_after-file.result.total ≡ _ =
    c.rest_after-file.ensures.0.total ∙ ap (λ (rs : List Rec). sizes (left_over 128 rs)) c.rest_after-options.ensures.0.from.pieces in
    c.plan_if-2.ensures ∙ plan_some (ltb c.rest_after-file.result.total 64) 3 (λ z. omega arith)
    ∙ ap unless_0 (with_both _ (pieces_left c.args.s.now 0 0) c.args.permission c.if-permission-eq0.false c.if-n-lt4.false _ c.rest_after-options.ensures.0.total c.if-permission-eq2.false c.if-options-lt128.false c.if-permission-eq1.false _ file _ refl)
