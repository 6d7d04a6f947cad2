-- `lookup::in_pieces` meets its contract. Assumes nothing.
use native.Mathlib.Omega.{arith}
use mathlib.Core.Path.{ap, ap₂, ◌∙◌}
use Prim.Native.Nat.{ℕ, ◌-◌}
use Rattle.options.specs.Answers as asked
use Rattle.lookup.specs.Found.{origin_at_value}
use Rattle.lookup.proofs.in_pieces.Goals as goal

pub overflow_sub-w : goal.overflow_sub-w
overflow_sub-w c = omega (arith, c.requires.least)

pub judge_pieces-content-requires : goal.judge_pieces-content-requires
judge_pieces-content-requires c = c.requires

pub returns : goal.returns
returns c = ap₂ asked.Found (c.origin_at-origin.ensures ∙ ap (λ (n : ℕ). origin_at_value (c.args.w.start - 2) (asked.in_pieces n)) c.requires.whole) c.judge_pieces-content.ensures
