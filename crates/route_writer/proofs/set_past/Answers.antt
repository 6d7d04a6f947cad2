-- `route_writer::set_past` meets its contract. Assumes nothing.
use borrow.Author.Rules.{rules}
use mathlib.Core.Path.{ap}
use mathlib.Core.Bool.{not}
use mir.Syntax.{w32}
use mir.Val.{Fits}
use Rattle.route_writer.proofs.Bits.{past_set_lem}
use Rattle.route_writer.proofs.set_past.Goals as goal

pub returns : goal.returns
returns c = let f : Fits w32 c.args.x = search rules in
    ap not (past_set_lem c.args.w c.args.x c.requires f.fits)
