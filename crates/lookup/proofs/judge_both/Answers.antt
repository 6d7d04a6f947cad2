-- `lookup::judge_both` meets its contract. Assumes nothing.
use mathlib.Core.Path.{ap, ◌∙◌}
use mathlib.Core.List.{List, [], ◌∷◌, ◌++◌}
use Prim.Native.Nat.{ℕ}
use lib.ListN.{length-append}
use Rattle.options.specs.Answers as asked
use Rattle.lookup.proofs.Verdicts.{by_first_four_lem}
use Rattle.lookup.proofs.Halves.{four_bytes}
use Rattle.lookup.proofs.judge_both.Goals as goal

pub returns : goal.returns
returns c = let d : List ℕ = c.args.a.now ++ c.args.b.now in
    let h : List ℕ = c.byte_of_both.result ∷ c.byte_of_both-2.result ∷ c.byte_of_both-3.result ∷ c.byte_of_both-4.result ∷ [] in
    rw (← length-append c.args.a.now c.args.b.now) at c.judge_head.ensures
    ∙ ap asked.known (by_first_four_lem d h (four_bytes d c.byte_of_both.result c.byte_of_both-2.result c.byte_of_both-3.result c.byte_of_both-4.result c.byte_of_both.ensures c.byte_of_both-2.ensures c.byte_of_both-3.ensures c.byte_of_both-4.ensures) c.args.row c.requires)
