-- `lookup::by_first_four` meets its contract. Assumes nothing.
use mathlib.Core.Path.{sym, ap, ◌∙◌}
use mathlib.Core.List.{List}
use Prim.Native.Nat.{ℕ}
use lib.ListN.{take}
use lib.Seq.{length-take-le, get_or-take}
use Rattle.options.specs.Answers as asked
use Rattle.cursor.specs.Cursor.{first_position}
use Rattle.gather.specs.Joined.{joined_from}
use Rattle.lookup.proofs.Laws.{Front, gathered}
use Rattle.lookup.proofs.Verdicts.{by_first_four_lem}
use Rattle.lookup.proofs.by_first_four.Goals as goal

pub slice_bounds-head-end : goal.slice_bounds-head-end
slice_bounds-head-end c = (gathered 4 (rw c.first.ensures at c.gather-h.ensures)).room

pub slice_bounds-judge_head-end : goal.slice_bounds-judge_head-end
slice_bounds-judge_head-end c = sym (length-take-le _ _ (gathered 4 (rw c.first.ensures at c.gather-h.ensures)).room)

pub returns : goal.returns
returns c = let d : List ℕ = joined_from c.args.w.over c.args.m.now first_position c.args.code in
    let f : Front (take 4 d) c.gather-h.new.out c.gather-h.result = gathered 4 (rw c.first.ensures at c.gather-h.ensures) in
    rw (f.front, c.requires.1.whole) at c.judge_head.ensures
    ∙ ap asked.known (by_first_four_lem d (take 4 d) (λ i h. get_or-take 4 d i 0 h) c.args.row c.requires.0)
