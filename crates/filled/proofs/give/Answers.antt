-- `filled::give` meets its contract. Assumes nothing.
use mathlib.Core.Path.{refl, ◌∙◌}
use Prim.Native.Nat.{◌≤◌}
use lib.ListN.{length}
use Rattle.options.specs.Answers.{filled_with}
use Rattle.buffer.proofs.Copied.{copied_fits}
use Rattle.filled.proofs.Answers.{fills_small, fills_enough}
use Rattle.filled.proofs.give.Goals as goal

pub returns-then-room-xs : goal.returns-then-room-xs
returns-then-room-xs c = fills_small (filled_with c.args.xs.now c.args.out.now) c.args.xs.now c.args.out.now refl c.at.result c.at.ensures c.if-room-xs.true

pub returns : goal.returns
returns c = let room : length c.args.xs.now ≤ length c.args.out.now = c.if-room-xs.false in
    fills_enough (filled_with c.args.xs.now c.args.out.now) c.args.xs.now c.args.out.now refl (length c.args.xs.now) c.copy.new.dst room refl
    (c.copy.ensures ∙ copied_fits c.args.out.now c.args.xs.now room)
