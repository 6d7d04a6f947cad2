-- `lookup::put_pieces` meets its contract. Assumes nothing.
use native.Mathlib.Omega.{arith}
use mathlib.Core.Path.{ap, ap₂, ◌∙◌}
use mathlib.Core.List.{List, ◌++◌}
use Prim.Native.Nat.{ℕ}
use lib.ListN.{length}
use Rattle.buffer.proofs.Writing.{written_as}
use Rattle.text.proofs.Putting.{puts_all}
use Rattle.lookup.proofs.put_pieces.Goals as goal

pub returns-then-first-last : goal.returns-then-first-last
returns-then-first-last c = let e = c.piece-first.ensures in
    let f = c.piece-last.ensures in
    puts_all (omega (arith, c.requires.0.whole, c.requires.1))
    (written_as (ap₂ (λ (x y : List ℕ). x ++ y) e f ∙ c.requires.0.both (omega (arith, ap length e, ap length f, c.if-first-last.true))) c.put_both.ensures)

pub returns : goal.returns
returns c = rw c.first.ensures at c.gather.ensures
