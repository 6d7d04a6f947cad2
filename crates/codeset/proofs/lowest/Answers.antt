-- `codeset::lowest` meets its contract: no code is in the words before this one. Assumes nothing.
use Rattle.std.proofs.Common.{rules, ◌≡◌, ◌∙◌, sym, length, arith}
use Rattle.codeset.proofs.Words.{lowest_here, lowest_next, lowest_none}
use Rattle.codeset.proofs.lowest.Goals as goal

pub returns-then-x-ne0 : goal.returns-then-x-ne0
returns-then-x-ne0 c = let n : length c.args.w ≡ 4 = search rules in sym (lowest_here c.args.w c.loop-k.k (omega arith) c.if-x-ne0.true) ∙ c.loop-k.invariant

pub loop-k-preserved : goal.loop-k-preserved
loop-k-preserved c = let n : length c.args.w ≡ 4 = search rules in sym (lowest_next c.args.w c.loop-k.k (omega arith) c.if-x-ne0.false) ∙ c.loop-k.invariant

pub returns : goal.returns
returns c = let n : length c.args.w ≡ 4 = search rules in sym (lowest_none c.args.w c.loop-k.k (omega arith)) ∙ c.loop-k.invariant
