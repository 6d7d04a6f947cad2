-- `groups::members_at` meets its contract. Assumes nothing.
use mathlib.Core.Path.{sym, ap, ◌∙◌}
use Prim.Native.Nat.{ℕ, ◌+◌}
use native.Mathlib.Omega.{arith}
use Rattle.sheet.specs.Places.{unless_0}
use Rattle.sheet.proofs.Places.{some_is}
use Rattle.groups.proofs.Laws.{no_members, some_members}
use Rattle.groups.proofs.members_at.Goals as goal

pub returns-then-s-lt4 : goal.returns-then-s-lt4
returns-then-s-lt4 c = sym (ap unless_0 (no_members c.args.s.now c.args.tag (omega arith)))

pub returns-then-s-tag : goal.returns-then-s-tag
returns-then-s-tag c = sym (ap unless_0 (no_members c.args.s.now c.args.tag (omega arith)))

pub returns-then-s-tag-2 : goal.returns-then-s-tag-2
returns-then-s-tag-2 c = sym (ap unless_0 (no_members c.args.s.now c.args.tag (omega (arith, c.wide-n.ensures.0))))

pub returns : goal.returns
returns c = let n = c.wide-n.ensures.0 in
    some_is _ _ (ap (λ (k : ℕ). c.args.tag + 4 + k) n ∙ sym (some_members c.args.s.now c.args.tag (omega (arith, n)))) (λ z. omega arith)
