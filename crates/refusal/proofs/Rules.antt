-- A rule and its number. Assumes nothing.
use mathlib.Core.Path.{◌≡◌, ap₂}
use Prim.Native.Nat.{ℕ, ◌≤◌}
use native.Mathlib.Omega.{arith}
use borrow.Author.Rules.{rules}
use Rattle.refusal.specs.declared.Refusal.{Refusal}
use Rattle.refusal.specs.declared.Rule.{Rule}
use Rattle.refusal.specs.Refused.{number_of, NumbersTellRules}

pub numbers_tell : NumbersTellRules
numbers_tell r s e = search rules

pub never_0 : (k : Rule) → number_of k ≡ 0 → ⊥
never_0 k e = let h : 1 ≤ number_of k = search rules in omega (arith, h, e)

-- number and place tell the refusal
pub same_refusal : (r s : Refusal) → number_of r.rule ≡ number_of s.rule → r.place ≡ s.place → r ≡ s
same_refusal r s n p = ap₂ (λ (k : Rule) (q : ℕ). record { rule = k; place = q }) (numbers_tell r.rule s.rule n) p
