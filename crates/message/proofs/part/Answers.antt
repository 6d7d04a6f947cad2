-- `message::part` meets its contract. Assumes nothing.
use mathlib.Core.Path.{refl, sym}
use borrow.Author.Tests.{lt-ltb, le-ltb}
use native.Mathlib.Nat.{add-sub_cancel_left, zero-add}
use lib.ListN.{drop_of_length-le}
use lib.Seq.{take-nil}
use Rattle.message.proofs.Laws.{take_past}
use Rattle.message.proofs.part.Goals as goal

pub returns-then-m-start : goal.returns-then-m-start
returns-then-m-start c = (sym (rw (drop_of_length-le _ c.if-m-start.true) (take-nil c.args.len)), refl, rw (le-ltb _ _ c.if-m-start.true) (sym (zero-add c.args.m.ref_ptr.1)))

pub returns-then-m-start-2 : goal.returns-then-m-start-2
returns-then-m-start-2 c = (take_past c.args.m.now c.args.start c.args.len c.if-m-start-2.true, refl, rw (lt-ltb _ _ c.if-m-start.false) refl)

pub returns : goal.returns
returns c = (rw add-sub_cancel_left, refl, rw (lt-ltb _ _ c.if-m-start.false) refl)
