-- `tally::joined_time` meets its contract. Assumes nothing.
use Rattle.std.proofs.Common.{◌≡◌, ℕ, ◌+◌, ◌-◌, List, ◌++◌, length, take, drop, sym, ap, ◌∙◌, ap₂, arith}
use Rattle.options.specs.Kinds.{first32}
use Rattle.cursor.specs.Cursor.{first_position}
use Rattle.gather.specs.Joined.{joined_from}
use Rattle.lookup.specs.Found.{data_at}
use Rattle.tally.proofs.Times.{first_four, piece_is}
use Rattle.tally.proofs.joined_time.Goals as goal

pub returns-then-first-last : goal.returns-then-first-last
returns-then-first-last c = let w = c.args.w in
    let m = c.args.m.now in
    let e : c.part-first.result.now ≡ data_at m (w.start - 2) =
    c.part-first.ensures.0 ∙ ap (λ (n : ℕ). take n (drop w.start m)) c.wide.ensures.0 ∙ sym (piece_is m w.start (omega (arith, c.requires.least))) in
    let f : c.part-last.result.now ≡ data_at m w.last = c.part-last.ensures.0 ∙ ap (λ (n : ℕ). take n (drop (w.last + 2) m)) c.wide-2.ensures.0 in
    c.both_time.ensures
    ∙ ap first32 (ap₂ (λ (x y : List ℕ). x ++ y) e f ∙ c.requires.both (omega (arith, ap length e, ap length f, c.if-first-last.true)))

pub returns : goal.returns
returns c = c.gathered_time.ensures ∙ first_four (joined_from c.args.w.over c.args.m.now first_position 51)
