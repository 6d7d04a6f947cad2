-- Each case of what a call tells of a fault, a rule or a refusal, by its number. Assumes nothing.
use mathlib.Core.Path.{◌≡◌, refl, sym, ap}
use native.Mathlib.Omega.{arith}
use Rattle.std.specs.Prelude.{Option, Some, None, Result, Ok, Err}
use Rattle.refusal.specs.declared.Fault.{Fault}
use Rattle.refusal.specs.declared.Fault.TheVariants.{Length, Value}
use Rattle.refusal.specs.declared.Refusal.{Refusal}
use Rattle.refusal.specs.declared.Rule.{Rule}
use Rattle.refusal.specs.Refused.{fault_or_none, number_in, place_in, rule_in, NumbersByCase, FaultsByCase, RefusalsByCase, RulesByCase}
use Rattle.refusal.proofs.Rules.{numbers_tell, never_0, same_refusal}

pub numbers_by_case : NumbersByCase
numbers_by_case = (refl, refl, refl, refl, refl, refl, refl, refl, refl, refl, refl, refl, refl, refl, refl, refl, refl, refl, refl, refl, refl, refl, refl, refl, refl, refl)

same_fault : (a b : Option Fault) → fault_or_none a ≡ fault_or_none b → a ≡ b
same_fault None None e = refl
same_fault None (Some Length) e = absurd (omega arith)
same_fault None (Some Value) e = absurd (omega arith)
same_fault (Some Length) None e = absurd (omega arith)
same_fault (Some Length) (Some Length) e = refl
same_fault (Some Length) (Some Value) e = absurd (omega arith)
same_fault (Some Value) None e = absurd (omega arith)
same_fault (Some Value) (Some Length) e = absurd (omega arith)
same_fault (Some Value) (Some Value) e = refl

pub faults_by_case : FaultsByCase
faults_by_case = (refl, refl, refl, same_fault)

same_answer : (a b : Result (Unit {0}) Refusal) → number_in a ≡ number_in b → place_in a ≡ place_in b → a ≡ b
same_answer (Ok x) (Ok y) n p = refl
same_answer (Ok x) (Err s) n p = absurd (never_0 s.rule (sym n))
same_answer (Err r) (Ok y) n p = absurd (never_0 r.rule n)
same_answer (Err r) (Err s) n p = ap Err (same_refusal r s n p)

pub refusals_by_case : RefusalsByCase
refusals_by_case = (λ x. (refl, refl), λ r. (refl, refl), same_answer)

same_rule : (a b : Result (Unit {0}) Rule) → rule_in a ≡ rule_in b → a ≡ b
same_rule (Ok x) (Ok y) e = refl
same_rule (Ok x) (Err s) e = absurd (never_0 s (sym e))
same_rule (Err r) (Ok y) e = absurd (never_0 r e)
same_rule (Err r) (Err s) e = ap Err (numbers_tell r s e)

pub rules_by_case : RulesByCase
rules_by_case = (λ x. refl, λ r. refl, same_rule)
