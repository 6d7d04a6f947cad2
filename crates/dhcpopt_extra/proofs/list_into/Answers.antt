-- `dhcpopt_extra::list_into` meets its contract. Assumes nothing.
use mathlib.Core.Path.{sym, ap}
use native.Mathlib.Omega.{arith}
use lib.ListN.{length, replicate, length-append}
use lib.Seq.{length-take-le}
use Rattle.options.specs.Answers.{listing}
use Rattle.dhcpopt_extra.proofs.Listing.{listed_as, text_of_lem}
use Rattle.dhcpopt_extra.proofs.list_into.Goals as goal

pub slice_bounds-text-end : goal.slice_bounds-text-end
slice_bounds-text-end c = omega (arith, c.list-n.ensures.size, simp length-append at (ap length c.list-n.ensures.text))

pub slice_bounds-give-end : goal.slice_bounds-give-end
slice_bounds-give-end c = sym (length-take-le c.list-n.result c.list-n.new.out (omega (arith, c.list-n.ensures.size, simp length-append at (ap length c.list-n.ensures.text))))

pub returns : goal.returns
returns c = let m = c.args.m.now in
    let t = text_of_lem (listing m) c.list-n.new.out (replicate 16384 0) c.list-n.result c.list-n.ensures.size c.list-n.ensures.text in
    rw (listed_as m c.args.out.now) (rw t at c.give.ensures)
