-- `item_reader::put_items` meets its contract: at each turn what is laid, with what is left of the items, is the whole. Assumes nothing.
use borrow.Author.Rules.{rules}
use native.Mathlib.Omega.{arith}
use mathlib.Core.Path.{sym, ap, ◌∙◌}
use mathlib.Core.List.{List}
use Prim.Native.Nat.{ℕ, ◌+◌, ◌-◌, ◌<◌}
use lib.ListN.{length, get_or, take, drop}
use Rattle.buffer.specs.Written.{laid}
use Rattle.record_writer.specs.Room.{record_of}
use Rattle.record_writer.proofs.Bytes.{laid_record}
use Rattle.item_reader.proofs.Laying.{laying_begins, laying_ends, laying_end, laying_pad, head_in, within, body_length, item_room, laying_on, part_is}
use Rattle.item_reader.proofs.put_items.Goals as goal

pub loop-i-init : goal.loop-i-init
loop-i-init g c = laying_begins _ c.args.f.now c.args.out.now c.requires.0 c.requires.1

pub shape_of-out-then-c : goal.shape_of-out-then-c
shape_of-out-then-c g c = c.loop-i.invariant.same

pub returns-then-c : goal.returns-then-c
returns-then-c g c = laying_end c.loop-i.invariant c.loop-i-test.true (sym c.pad_or_end.ensures ∙ c.if-pad_or_end.true) c.if-c.true

pub loop-i-preserved-then-pad_or_end : goal.loop-i-preserved-then-pad_or_end
loop-i-preserved-then-pad_or_end g c = laying_pad c.loop-i.invariant c.loop-i-test.true (sym c.pad_or_end.ensures ∙ c.if-pad_or_end.true) c.if-c.false

pub overflow_add-j : goal.overflow_add-j
overflow_add-j g c = omega (arith, head_in c.loop-i.invariant c.loop-i-test.true (sym c.pad_or_end.ensures ∙ c.if-pad_or_end.false))

pub overflow_add-i-else-pad_or_end : goal.overflow_add-i-else-pad_or_end
overflow_add-i-else-pad_or_end g c = omega (arith, head_in c.loop-i.invariant c.loop-i-test.true (sym c.pad_or_end.ensures ∙ c.if-pad_or_end.false))

pub bounds-f-i-else-pad_or_end : goal.bounds-f-i-else-pad_or_end
bounds-f-i-else-pad_or_end g c = head_in c.loop-i.invariant c.loop-i-test.true (sym c.pad_or_end.ensures ∙ c.if-pad_or_end.false)

pub overflow_add-e : goal.overflow_add-e
overflow_add-e g c = omega (arith, within c.loop-i.invariant c.loop-i-test.true (sym c.pad_or_end.ensures ∙ c.if-pad_or_end.false) c.wide-k.result c.wide-k.ensures.0)

pub overflow_add-next : goal.overflow_add-next
overflow_add-next g c =
    let bound : length c.loop-i.out < 18446744073709551616 = search rules in
    omega (arith, item_room c.loop-i.invariant c.loop-i-test.true (sym c.pad_or_end.ensures ∙ c.if-pad_or_end.false) c.wide-k.result c.wide-k.ensures.0, bound)

pub overflow_add-next-else-pad_or_end : goal.overflow_add-next-else-pad_or_end
overflow_add-next-else-pad_or_end g c =
    let bound : length c.loop-i.out < 18446744073709551616 = search rules in
    omega (arith, item_room c.loop-i.invariant c.loop-i-test.true (sym c.pad_or_end.ensures ∙ c.if-pad_or_end.false) c.wide-k.result c.wide-k.ensures.0, bound)

pub slice_bounds-put_record-end : goal.slice_bounds-put_record-end
slice_bounds-put_record-end g c = omega (arith, item_room c.loop-i.invariant c.loop-i-test.true (sym c.pad_or_end.ensures ∙ c.if-pad_or_end.false) c.wide-k.result c.wide-k.ensures.0)

pub slice_bounds-put_record-end-else-pad_or_end : goal.slice_bounds-put_record-end-else-pad_or_end
slice_bounds-put_record-end-else-pad_or_end g c = omega (arith, within c.loop-i.invariant c.loop-i-test.true (sym c.pad_or_end.ensures ∙ c.if-pad_or_end.false) c.wide-k.result c.wide-k.ensures.0)

pub loop-i-smaller : goal.loop-i-smaller
loop-i-smaller g c = omega (arith, within c.loop-i.invariant c.loop-i-test.true (sym c.pad_or_end.ensures ∙ c.if-pad_or_end.false) c.wide-k.result c.wide-k.ensures.0)

pub loop-i-preserved : goal.loop-i-preserved
loop-i-preserved g c =
    let f = c.args.f.now in
    let n = c.wide-k.result in
    let q = c.wide-k.ensures.0 in
    let d = part_is f c.loop-i.i n in
    let z = ap length d ∙ body_length c.loop-i.invariant c.loop-i-test.true (sym c.pad_or_end.ensures ∙ c.if-pad_or_end.false) n q in
    laying_on c.loop-i.invariant c.loop-i-test.true (sym c.pad_or_end.ensures ∙ c.if-pad_or_end.false) n q (c.loop-i.i + (n + 2)) (c.loop-i.o + (n + 2) + 1) (omega arith) (omega arith)
    (laid_record c.loop-i.out c.loop-i.o (c.loop-i.o + (n + 2) + 1) (get_or f c.loop-i.i 0) (take (c.loop-i.i + (n + 2) - (c.loop-i.i + 2)) (drop (c.loop-i.i + 2) f)) c.put_record.new.room
    (omega (arith, z, c.wide-k.ensures.1)) (omega (arith, z)) (omega (arith, item_room c.loop-i.invariant c.loop-i-test.true (sym c.pad_or_end.ensures ∙ c.if-pad_or_end.false) n q)) c.put_record.ensures
    ∙ ap (λ (xs : List ℕ). laid c.loop-i.out c.loop-i.o (record_of (get_or f c.loop-i.i 0) xs)) d)

pub shape_of-out : goal.shape_of-out
shape_of-out g c = c.loop-i.invariant.same

pub returns : goal.returns
returns g c = laying_ends c.loop-i.invariant c.loop-i-test.false
