-- The rows of 82 and 121, each by its two rules. Assumes nothing.
use mathlib.Core.Path.{◌≡◌, refl, ap, ◌∙◌}
use mathlib.Core.Bool.{cond}
use mathlib.Core.List.{List}
use Prim.Native.Nat.{ℕ}
use native.Mathlib.Omega.{arith}
use lib.ListN.{length}
use Rattle.options.specs.SubOptions.{sub_options, fill_fault}
use Rattle.options.specs.Kinds.{multiples, is_length, value_fault_value, routes_fault_value}
use Rattle.ranges.proofs.Computed.{row_82, row_121}
use Rattle.kinds.specs.Numbers.{row_at, fault_in_value, fault_numbered, fault_of, length_fits_value, value_fault_in}
use Rattle.kinds.proofs.ByKind.{length_12, length_13, value_12, value_13}
use Rattle.kinds.proofs.Numbering.{fault_rules, fault_numbered_lem}

numbered : (n : ℕ) (d : List ℕ) → fault_in_value (row_at n) d ≡ fault_numbered n d
unfolding fault_numbered
numbered n d = refl

pub relay_rules_lem : (d : List ℕ) → cond (is_length (multiples 2 1) (length d)) (fill_fault (sub_options 0 0 d)) 8 ≡ fault_of 82 d
unfolding value_fault_value
relay_rules_lem d =
    let z : cond (length_fits_value (row_at 12) (length d)) (value_fault_in (row_at 12) d) 8 ≡ fault_of 82 d =
    fault_rules (row_at 12) d ∙ numbered 12 d ∙ ap (λ (n : ℕ). fault_numbered n d) row_82 ∙ fault_numbered_lem 82 d in
    rw (length_12 12 (omega arith) refl, value_12 12 (omega arith) refl) at z

pub routes_rules : (d : List ℕ) → cond (is_length (multiples 5 1) (length d)) (routes_fault_value 0 d) 8 ≡ fault_of 121 d
unfolding value_fault_value
routes_rules d =
    let z : cond (length_fits_value (row_at 13) (length d)) (value_fault_in (row_at 13) d) 8 ≡ fault_of 121 d =
    fault_rules (row_at 13) d ∙ numbered 13 d ∙ ap (λ (n : ℕ). fault_numbered n d) row_121 ∙ fault_numbered_lem 121 d in
    rw (length_13 13 (omega arith) refl, value_13 13 (omega arith) refl) at z
