-- `kinds::above_fault` meets its contract: no code from 77 on has a row, but for 82 and 121. Assumes nothing.
use native.Mathlib.Omega.{arith}
use mathlib.Core.Path.{sym, ap, ◌∙◌}
use Prim.Native.Nat.{ℕ}
use Rattle.ranges.proofs.Computed.{no_row}
use Rattle.kinds.specs.Numbers.{fault_of}
use Rattle.kinds.proofs.Numbering.{fault_none, fault_numbered_lem}
use Rattle.kinds.proofs.above_fault.Goals as goal

pub returns-in-82 : goal.returns-in-82
returns-in-82 c = c.relay_fault.ensures ∙ ap (λ (n : ℕ). fault_of n c.args.d.now) (sym c.in-82.is)

pub returns-in-121 : goal.returns-in-121
returns-in-121 c = c.routes_fault.ensures ∙ ap (λ (n : ℕ). fault_of n c.args.d.now) (sym c.in-121.is)

pub returns-in_default : goal.returns-in_default
returns-in_default c = fault_none c.args.c c.args.d.now (sym (no_row c.args.c (omega arith) (omega arith) (λ e. omega (arith, e)) (λ e. omega (arith, e)))) ∙ fault_numbered_lem c.args.c c.args.d.now
