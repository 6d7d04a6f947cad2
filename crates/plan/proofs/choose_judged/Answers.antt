-- `plan::choose_judged` meets its contract: plan 0 where the options and END fit, and else the plans that overload. Assumes nothing.
use mathlib.Core.Path.{◌≡◌, refl, ◌∙◌}
use mathlib.Core.List.{List}
use Prim.Native.Nat.{ℕ, ◌-◌}
use native.Mathlib.Omega.{arith}
use lib.ListN.{length}
use borrow.Author.Tests.{lt-ltb}
use Rattle.options.specs.Writing.{pieces_left}
use Rattle.sheet.proofs.Places.{found, lost}
use Rattle.plan.specs.Steps.{sizes}
use Rattle.plan.proofs.Sizes.{fits_0, not_0}
use Rattle.plan.proofs.Trying.{by_plan_0, by_no_plan, by_plan, refused_as}
use Rattle.plan.proofs.choose_judged.Goals as goal

pub returns-then-judged-len : goal.returns-then-judged-len
returns-then-judged-len c = by_plan_0 _ c.args.len c.args.permission c.args.judged.single
    (fits_0 _ _ ∙ lt-ltb (sizes (pieces_left c.args.s.now 0 0)) (c.args.len - 240) (omega (arith, c.requires.3, c.if-judged-len.true)))

pub returns-in-None : goal.returns-in-None
returns-in-None c = λ (m : List ℕ) (e : length m ≡ c.args.len).
    refused_as c.at.ensures ∙ by_no_plan _ c.args.len c.args.permission c.args.judged.single (not_0 _ _ (omega (arith, c.requires.3, c.if-judged-len.false))) _ refl (lost _ c.in-None.ensures) m e

pub returns-in-Some : goal.returns-in-Some
returns-in-Some c = let k = found _ c.in-Some.plan c.in-Some.ensures in
    by_plan _ c.args.len c.args.permission c.args.judged.single (not_0 _ _ (omega (arith, c.requires.3, c.if-judged-len.false))) _ k.0 k.1
