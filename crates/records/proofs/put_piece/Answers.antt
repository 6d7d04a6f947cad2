-- `records::put_piece` meets its contract. Assumes nothing.
use mathlib.Core.Path.{refl}
use Prim.Native.Nat.{◌+◌, ◌≤◌}
use lib.ListN.{length}
use Rattle.buffer.proofs.Writing.{laid_copied, written_none}
use Rattle.records.proofs.put_piece.Goals as goal

pub returns-then-not-piece : goal.returns-then-not-piece
returns-then-not-piece c = rw c.if-not-piece.true (written_none c.args.out.now c.args.at)

pub slice_bounds-copy-end : goal.slice_bounds-copy-end
slice_bounds-copy-end c = (let room₁ : c.args.at + length c.args.body.now ≤ length c.args.out.now = rw c.if-not-piece.false at c.requires in room₁)

pub returns : goal.returns
returns c = rw c.if-not-piece.false
    (record { next = refl; buffer = laid_copied c.args.out.now c.args.at (c.args.at + length c.args.body.now) c.copy.new.dst c.args.body.now refl ((let room₁ : c.args.at + length c.args.body.now ≤ length c.args.out.now = rw c.if-not-piece.false at c.requires in room₁)) c.copy.ensures })
