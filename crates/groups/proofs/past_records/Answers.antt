-- `groups::past_records` meets its contract: at each turn what is left of the members gives the same place. Assumes nothing.
use mathlib.Core.Path.{◌≡◌, sym, ◌∙◌}
use mathlib.Core.Logic.{inl, inr}
use Prim.Native.Nat.{◌+◌}
use native.Mathlib.Omega.{arith}
use Rattle.writing_theorems.proofs.SheetRows.{Bad}
use Rattle.groups.proofs.Laws.{item_room, past_stop, past_on, past_ends}
use Rattle.groups.proofs.past_records.Goals as goal
use Rattle.groups.proofs.past_records.Goals.{then-tag-eq0-via-then-tag-eq0, then-tag-eq0-via-else-tag-eq0+then-tag-eq52, then-tag-eq0-via-else-tag-eq0+else-tag-eq52+then-tag}

pub returns-then-tag-eq0 : goal.returns-then-tag-eq0
returns-then-tag-eq0 c =
    let bad : Bad (c.in-Record.tag) = elim c.then-tag-eq0.branch [
      | then-tag-eq0-via-then-tag-eq0 w ↦ inl w.if-tag-eq0.true
      | then-tag-eq0-via-else-tag-eq0+then-tag-eq52 w ↦ inr (inl w.if-tag-eq52.true)
      | then-tag-eq0-via-else-tag-eq0+else-tag-eq52+then-tag w ↦ inr (inr w.if-tag.true)
    ] in
    sym (sym c.loop-tag.invariant ∙ past_stop c.args.s.now c.loop-tag.i c.in-Record.tag c.in-Record.size c.in-Record.ensures bad)

pub overflow_add-i : goal.overflow_add-i
overflow_add-i c = omega (arith, item_room c.args.s.now c.loop-tag.i 0 c.in-Record.tag c.in-Record.size c.in-Record.ensures)

pub overflow_add-i-in-Record : goal.overflow_add-i-in-Record
overflow_add-i-in-Record c = omega (arith, item_room c.args.s.now c.loop-tag.i 0 c.in-Record.tag c.in-Record.size c.in-Record.ensures)

pub loop-tag-smaller : goal.loop-tag-smaller
loop-tag-smaller c = omega (arith, item_room c.args.s.now c.loop-tag.i 0 c.in-Record.tag c.in-Record.size c.in-Record.ensures)

pub loop-tag-preserved : goal.loop-tag-preserved
loop-tag-preserved c = let i = c.loop-tag.i in
    let e : i + (3 + c.in-Record.size) ≡ i + 3 + c.in-Record.size = omega arith in
    rw e (sym (past_on c.args.s.now i c.in-Record.tag c.in-Record.size c.in-Record.ensures c.if-tag-eq0.false c.if-tag-eq52.false c.if-tag.false) ∙ c.loop-tag.invariant)

pub returns : goal.returns
returns c = let s = c.args.s.now in
    sym (sym c.loop-tag.invariant ∙ past_ends s c.loop-tag.i c.next_record.result c.next_record.ensures c.in_default.not-Record)
