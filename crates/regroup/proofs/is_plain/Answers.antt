-- `regroup::is_plain` meets its contract: at each turn what is left of the file gives the answer for the whole. Assumes nothing.
use mathlib.Core.Path.{◌≡◌, sym, ◌∙◌}
use Prim.Native.Nat.{◌+◌}
use native.Mathlib.Omega.{arith}
use Rattle.regroup.proofs.Laws.{none_ends, record_room, gone_group, gone_on, named, nameless}
use Rattle.regroup.proofs.is_plain.Goals as goal

pub returns-then-byte-ne0 : goal.returns-then-byte-ne0
returns-then-byte-ne0 c = let f = c.args.f.now in sym (named f (λ z. c.if-byte-ne0.true (c.byte.ensures ∙ z)))

pub loop-tag-init : goal.loop-tag-init
loop-tag-init c = let f = c.args.f.now in sym (nameless f (sym c.byte.ensures ∙ c.if-byte-ne0.false))

pub returns : goal.returns
returns c = let f = c.args.f.now in
    sym (sym c.loop-tag.invariant ∙ none_ends f c.loop-tag.at c.next_record.result c.next_record.ensures c.in_default.not-Record)

pub returns-then-tag-eq0 : goal.returns-then-tag-eq0
returns-then-tag-eq0 c = let f = c.args.f.now in
    let at = c.loop-tag.at in
    sym (sym c.loop-tag.invariant ∙ gone_group f at c.in-Record.tag c.in-Record.size c.in-Record.ensures c.if-tag-eq0.true)

pub overflow_add-at : goal.overflow_add-at
overflow_add-at c = let f = c.args.f.now in
    let at = c.loop-tag.at in
    omega (arith, record_room f at c.in-Record.tag c.in-Record.size c.in-Record.ensures)

pub overflow_add-at-in-Record : goal.overflow_add-at-in-Record
overflow_add-at-in-Record c = let f = c.args.f.now in
    let at = c.loop-tag.at in
    omega (arith, record_room f at c.in-Record.tag c.in-Record.size c.in-Record.ensures)

pub loop-tag-smaller : goal.loop-tag-smaller
loop-tag-smaller c = let f = c.args.f.now in
    let at = c.loop-tag.at in
    omega (arith, record_room f at c.in-Record.tag c.in-Record.size c.in-Record.ensures)

pub loop-tag-preserved : goal.loop-tag-preserved
loop-tag-preserved c = let f = c.args.f.now in
    let at = c.loop-tag.at in
    let e : at + (c.in-Record.size + 3) ≡ at + c.in-Record.size + 3 = omega arith in
    rw e (sym (gone_on f at c.in-Record.tag c.in-Record.size c.in-Record.ensures c.if-tag-eq0.false) ∙ c.loop-tag.invariant)
