-- `route_writer::is_faulty` meets its contract. Assumes nothing.
use mathlib.Core.Path.{sym}
use lib.ListN.{drop}
use Rattle.routes.proofs.Places.{first_four}
use Rattle.route_writer.proofs.One.{at_short, at_wide, at_bits}
use Rattle.route_writer.proofs.is_faulty.Goals as goal

pub returns-then-s-lt9 : goal.returns-then-s-lt9
returns-then-s-lt9 c = sym (at_short c.args.s.now c.if-s-lt9.true)

pub returns-then-w-gt32 : goal.returns-then-w-gt32
returns-then-w-gt32 c = sym (at_wide c.args.s.now c.if-s-lt9.false c.if-w-gt32.true)

pub returns : goal.returns
returns c = let s = c.args.s.now in
    rw (at_bits s c.if-s-lt9.false c.if-w-gt32.false, c.set_past.ensures, c.first32.ensures, first_four (drop 1 s))
