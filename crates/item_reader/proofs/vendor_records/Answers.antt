-- `item_reader::vendor_records` meets its contract. Assumes nothing.
use native.Mathlib.Omega.{arith}
use Rattle.std.proofs.lemmas.Result.{err_from_is_err_and}
use Rattle.item_reader.proofs.VendorOutcomes.{no_past, laid_size, fills_past, fills_short, fills_given}
use Rattle.item_reader.proofs.vendor_records.Goals as goal

pub returns-in_err-size : goal.returns-in_err-size
returns-in_err-size c =
    let p = err_from_is_err_and c.from_residual.result c.from_residual.ensures.1 in
    rw (p.1, p.2) (fills_past c.args.f.now c.args.out.now _ c.in_err-size.ensures.rule c.in_err-size.ensures.size)

pub returns-then-room-size : goal.returns-then-room-size
returns-then-room-size c = fills_short c.args.f.now c.args.out.now c.in_ok-size.size c.in_ok-size.ensures.size _ c.at.ensures c.if-room-size.true

pub put_items-requires : goal.put_items-requires
put_items-requires c = (no_past c.args.f.now c.args.out.now c.in_ok-size.size c.in_ok-size.ensures.size, omega (arith, c.if-room-size.false, laid_size c.args.f.now c.args.out.now c.in_ok-size.size c.in_ok-size.ensures.size))

pub returns : goal.returns
returns c = fills_given c.args.f.now c.args.out.now c.in_ok-size.size c.in_ok-size.ensures.size c.if-room-size.false c.put_items.result c.put_items.new.out c.put_items.ensures
