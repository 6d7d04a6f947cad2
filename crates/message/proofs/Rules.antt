-- FOR CALLERS: the number of a rule is not 0, which stands for none. Assumes nothing.
use mathlib.Core.Path.{◌≡◌, refl, sym}
use Prim.Native.Nat.{ℕ}
use native.Mathlib.Omega.{arith}
use Rattle.refusal.specs.declared.Rule.{Rule}
use Rattle.std.specs.Prelude.{Result, Ok, Err}
use Rattle.refusal.specs.Refused.{number_of, rule_in}

pub has_number : (r : Rule) → number_of r ≡ 0 → ⊥
has_number r e = grind arith

-- what is no refusal has the number 0
pub no_rule : {A : Type 0} (r : Result A Rule) (n : ℕ) → rule_in r ≡ n → ((k : Rule) → r ≡ Err k → ⊥) → n ≡ 0
no_rule (Ok x) n e h = sym e
no_rule (Err k) n e h = absurd (h k refl)
