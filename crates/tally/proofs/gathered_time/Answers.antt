-- `tally::gathered_time` meets its contract. Assumes nothing.
use Rattle.std.proofs.Common.{take, sym, ap, ◌∙◌, length-take-le}
use Rattle.options.specs.Kinds.{first32}
use Rattle.cursor.specs.Cursor.{first_position}
use Rattle.gather.specs.Joined.{joined_from}
use Rattle.lookup.proofs.Laws.{Front, gathered}
use Rattle.tally.proofs.gathered_time.Goals as goal

pub slice_bounds-head-end : goal.slice_bounds-head-end
slice_bounds-head-end c = ((let front₁ : Front (take 4 (joined_from c.args.over c.args.m.now first_position 51)) c.gather-h.new.out c.gather-h.result = gathered 4 (rw c.first.ensures at c.gather-h.ensures) in front₁)).room

pub slice_bounds-first32-end : goal.slice_bounds-first32-end
slice_bounds-first32-end c = sym (length-take-le _ _ ((let front₁ : Front (take 4 (joined_from c.args.over c.args.m.now first_position 51)) c.gather-h.new.out c.gather-h.result = gathered 4 (rw c.first.ensures at c.gather-h.ensures) in front₁)).room)

pub returns : goal.returns
returns c = c.first32.ensures ∙ ap first32 ((let front₁ : Front (take 4 (joined_from c.args.over c.args.m.now first_position 51)) c.gather-h.new.out c.gather-h.result = gathered 4 (rw c.first.ensures at c.gather-h.ensures) in front₁)).front
