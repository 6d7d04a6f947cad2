-- `lookup::by_head` meets its contract. Assumes nothing.
use native.Mathlib.Omega.{arith}
use mathlib.Core.Path.{ap, ap₂, ◌∙◌}
use mathlib.Core.List.{List, ◌++◌}
use Prim.Native.Nat.{ℕ}
use lib.ListN.{length}
use Rattle.options.specs.Kinds.{judged_by}
use Rattle.options.specs.Answers as asked
use Rattle.kinds.specs.Numbers.{row_at}
use Rattle.lookup.proofs.by_head.Goals as goal

pub returns-then-first-last : goal.returns-then-first-last
returns-then-first-last c = let e = c.piece-first.ensures in
    let f = c.piece-last.ensures in
    c.judge_both.ensures
    ∙ ap (λ (l : List ℕ). asked.known (judged_by (row_at c.args.row) l))
    (ap₂ (λ (x y : List ℕ). x ++ y) e f ∙ c.requires.1.both (omega (arith, ap length e, ap length f, c.if-first-last.true)))

pub returns : goal.returns
returns c = c.by_first_four.ensures
