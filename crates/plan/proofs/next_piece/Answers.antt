-- `plan::next_piece` meets its contract. Assumes nothing.
use mathlib.Core.Path.{refl, ap, ◌∙◌}
use Prim.Native.Nat.{ℕ}
use native.Mathlib.Omega.{arith}
use Rattle.plan.specs.Pieces.{piece_of}
use Rattle.plan.proofs.Counting.{of_last, of_more}
use Rattle.plan.proofs.next_piece.Goals as goal

pub returns-then-size-done : goal.returns-then-size-done
returns-then-size-done c = let done = c.args.done in
    of_last c.size_of-size.result done 0 (omega (arith, c.if-size-done.true)) (omega (arith, c.if-size-done.true)) ∙ ap (λ (n : ℕ). piece_of n done) c.size_of-size.ensures.0

pub returns-then-size-done-gt255 : goal.returns-then-size-done-gt255
returns-then-size-done-gt255 c = let done = c.args.done in
    of_more c.size_of-size.result done c.if-size-done-gt255.true ∙ ap (λ (n : ℕ). piece_of n done) c.size_of-size.ensures.0

pub returns : goal.returns
returns c = let done = c.args.done in
    of_last c.size_of-size.result done _ c.if-size-done-gt255.false refl ∙ ap (λ (n : ℕ). piece_of n done) c.size_of-size.ensures.0
