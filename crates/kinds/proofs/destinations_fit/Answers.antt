-- `kinds::destinations_fit` meets its contract: the pairs that are left are judged as all are. Assumes nothing.
use native.Mathlib.Omega.{arith}
use mathlib.Core.Path.{sym, ap, ◌∙◌}
use mathlib.Core.List.{List}
use Prim.Native.Nat.{ℕ}
use Rattle.options.specs.Kinds.{no_zero_first, addresses_of}
use Rattle.kinds.proofs.Walks.{first_end, first_zero, first_last, first_next, rest_twice}
use Rattle.kinds.proofs.destinations_fit.Goals as goal

pub returns-then-be32-eq0 : goal.returns-then-be32-eq0
returns-then-be32-eq0 c = sym (first_zero c.loop-rest.rest.now 0 (omega arith) (sym c.be32.ensures ∙ c.if-be32-eq0.true)) ∙ c.loop-rest.invariant

pub returns-then-more-lt4 : goal.returns-then-more-lt4
returns-then-more-lt4 c = sym (first_last c.loop-rest.rest.now 0 (omega arith) (omega arith) (λ z. c.if-be32-eq0.false (c.be32.ensures ∙ z))) ∙ c.loop-rest.invariant

pub loop-rest-preserved : goal.loop-rest-preserved
loop-rest-preserved c =
    let f : List ℕ = c.loop-rest.rest.now in
    ap (λ (xs : List ℕ). no_zero_first (addresses_of xs)) (rest_twice f _ _ (omega arith) (omega arith))
    ∙ sym (first_next f 0 (omega arith) (λ z. c.if-be32-eq0.false (c.be32.ensures ∙ z)))
    ∙ c.loop-rest.invariant

pub returns : goal.returns
returns c = sym (first_end c.loop-rest.rest.now 0 (omega arith)) ∙ c.loop-rest.invariant
