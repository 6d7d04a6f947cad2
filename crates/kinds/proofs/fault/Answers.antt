-- `kinds::fault` meets its contract: by the number of the code's row, or as `above_fault` says. Assumes nothing.
use mathlib.Core.Path.{ap, ◌∙◌}
use Prim.Native.Nat.{ℕ, ◌%◌}
use native.Mathlib.Omega.{arith}
use Rattle.ranges.proofs.Computed.{low_kind}
use Rattle.kinds.specs.Numbers.{fault_numbered}
use Rattle.kinds.proofs.Numbering.{fault_numbered_lem}
use Rattle.kinds.proofs.fault.Goals as goal

pub returns-then-c-gt-LAST : goal.returns-then-c-gt-LAST
returns-then-c-gt-LAST c = c.above_fault.ensures

pub low_fault-requires : goal.low_fault-requires
low_fault-requires c = omega (arith, ap (λ (n : ℕ). n % 16) c.row.ensures, low_kind c.args.c (omega arith))

pub returns : goal.returns
returns c = c.low_fault.ensures ∙ ap (λ (n : ℕ). fault_numbered n c.args.d.now) c.row.ensures ∙ fault_numbered_lem c.args.c c.args.d.now
