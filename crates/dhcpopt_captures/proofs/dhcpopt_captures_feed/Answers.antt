-- `dhcpopt_captures::dhcpopt_captures_feed` meets its contract. Assumes nothing.
use Rattle.std.proofs.Common.{rules, sym}
use Rattle.dhcpopt_captures.proofs.Kept.{feeds_plain}
use Rattle.dhcpopt_captures.proofs.dhcpopt_captures_feed.Goals as goal

pub returns : goal.returns
returns c =
    let k = feeds_plain c.args.part.now c.args.p c.into-2.result _ _ _ _ _ _ _ _ _ _ c.into.ensures c.into-2.ensures c.feed.ensures.feeds in
    let v = sym c.feed.ensures.same.verdicts_same in
    let h = sym c.feed.ensures.same.held_same in
    let b = sym c.feed.ensures.same.bytes_same in
    search (rules, k)
