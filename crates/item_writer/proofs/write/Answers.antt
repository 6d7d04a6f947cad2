-- `item_writer::write` meets its contract. Assumes nothing.
use mathlib.Core.Path.{sym}
use Rattle.std.proofs.lemmas.Result.{err_from_is_err_and}
use Rattle.refusal.proofs.Rules.{never_0}
use Rattle.item_writer.proofs.Outcomes.{is_sound, fills_16, fills_record, fills_11, fills_given, room_in}
use Rattle.item_writer.proofs.write.Goals as goal

pub returns-then-s-gt4096 : goal.returns-then-s-gt4096
returns-then-s-gt4096 g c = fills_16 _ c.args.s.now c.args.out.now c.at.result c.at.ensures c.if-s-gt4096.true

pub returns-in_err-total : goal.returns-in_err-total
returns-in_err-total g c = let r = c.in_err-total.field-0.0 in
    let q = err_from_is_err_and c.from_residual.result c.from_residual.ensures.1 in
    rw (q.1, q.2) (fills_record _ c.args.s.now c.args.out.now c.if-s-gt4096.false r c.in_err-total.ensures (never_0 r.rule))

pub returns-then-too_small : goal.returns-then-too_small
returns-then-too_small g c =
    fills_11 _ c.args.s.now c.args.out.now c.if-s-gt4096.false c.in_ok-total.total (is_sound _ _ _ c.in_ok-total.ensures) c.at-then-too_small.result c.at-then-too_small.ensures (sym c.if-too_small.ensures)

pub put_items-requires : goal.put_items-requires
put_items-requires g c = let v = is_sound _ c.args.s.now _ c.in_ok-total.ensures in (
  room_in _ c.args.s.now c.args.out.now c.if-s-gt4096.false c.in_ok-total.total v (sym c.if-too_small.ensures),
  v.brief,
  v.left,
)

pub returns : goal.returns
returns g c =
    fills_given _ c.args.s.now c.args.out.now c.if-s-gt4096.false c.in_ok-total.total (is_sound _ _ _ c.in_ok-total.ensures) (sym c.if-too_small.ensures) c.put_items.result c.put_items.new.out c.put_items.ensures
