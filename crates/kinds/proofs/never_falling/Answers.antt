-- `kinds::never_falling` meets its contract: the numbers that are left, the first at least `least`, are judged as all are from 68. Assumes nothing.
use native.Mathlib.Omega.{arith}
use mathlib.Core.Path.{sym, ap, ◌∙◌}
use mathlib.Core.List.{List}
use Prim.Native.Nat.{ℕ}
use lib.ListN.{drop}
use Rattle.options.specs.Kinds.{rising, numbers_of}
use Rattle.kinds.proofs.Walks.{rise_end, rise_falls, rise_next, rest_is}
use Rattle.kinds.proofs.never_falling.Goals as goal

pub returns-then-v-least : goal.returns-then-v-least
returns-then-v-least c = sym (rise_falls c.loop-rest.rest.now 0 c.loop-rest.least (omega arith) (omega (arith, c.be16-v.ensures, c.if-v-least.true))) ∙ c.loop-rest.invariant

pub loop-rest-preserved : goal.loop-rest-preserved
loop-rest-preserved c =
    let f : List ℕ = c.loop-rest.rest.now in
    ap (λ (xs : List ℕ). rising c.be16-v.result (numbers_of xs)) (rest_is f 2 _ (omega arith))
    ∙ ap (λ (k : ℕ). rising k (numbers_of (drop 2 f))) c.be16-v.ensures
    ∙ sym (rise_next f 0 c.loop-rest.least (omega arith) (omega (arith, c.be16-v.ensures, c.if-v-least.false)))
    ∙ c.loop-rest.invariant

pub returns : goal.returns
returns c = sym (rise_end c.loop-rest.rest.now 0 c.loop-rest.least (omega arith)) ∙ c.loop-rest.invariant
