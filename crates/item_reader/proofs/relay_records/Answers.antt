-- `item_reader::relay_records` meets its contract. Assumes nothing.
use native.Mathlib.Omega.{arith}
use Rattle.std.proofs.lemmas.Result.{err_from_is_err_and}
use Rattle.item_reader.proofs.RelayOutcomes.{none_at_all, laid_size, no_past, reads_past, reads_short, reads_given}
use Rattle.item_reader.proofs.relay_records.Goals as goal

pub returns-then-f-eq0 : goal.returns-then-f-eq0
returns-then-f-eq0 c = none_at_all c.args.f.now c.args.out.now _ c.at.ensures c.if-f-eq0.true

pub returns-in_err-read : goal.returns-in_err-read
returns-in_err-read c =
    let p = err_from_is_err_and c.from_residual.result c.from_residual.ensures.1 in
    rw (p.1, p.2) (reads_past c.args.f.now c.args.out.now c.if-f-eq0.false _ c.in_err-read.ensures.rule c.in_err-read.ensures.told)

pub returns-then-room-read : goal.returns-then-room-read
returns-then-room-read c = reads_short c.args.f.now c.args.out.now c.if-f-eq0.false c.in_ok-read.read c.in_ok-read.ensures.told _ c.at-then-room-read.ensures c.if-room-read.true

pub put_items-size-requires : goal.put_items-size-requires
put_items-size-requires c = (no_past c.args.f.now c.args.out.now c.if-f-eq0.false c.in_ok-read.read c.in_ok-read.ensures.told, omega (arith, c.if-room-read.false, laid_size c.args.f.now c.args.out.now c.if-f-eq0.false c.in_ok-read.read c.in_ok-read.ensures.told))

pub returns : goal.returns
returns c = reads_given c.args.f.now c.args.out.now c.if-f-eq0.false c.in_ok-read.read c.in_ok-read.ensures.told c.if-room-read.false c.put_items-size.result c.put_items-size.new.out c.put_items-size.ensures
