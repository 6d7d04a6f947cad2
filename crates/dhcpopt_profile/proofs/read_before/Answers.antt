use mathlib.Core.Path.{◌≡◌, refl, ap₂, ◌∙◌}
use mathlib.Core.Bool.{cond}
use Prim.Native.Nat.{ℕ}
use lib.Dec.{eqb, ltb}
use borrow.Author.Tests.{eq-eqb, ne_eqb}
use Rattle.dhcpopt_profile.proofs.read_before.Goals as goal

-- src/lib.rt:139:9
pub returns-then-x-y : goal.returns-then-x-y
returns-then-x-y c = let s = c.turn-x.result in
    let t = c.turn-y.result in
    let e : ltb s t ≡ cond (eqb s t) (ltb c.args.a c.args.b) (ltb s t) = rw (ne_eqb s t c.if-x-y.true) refl in
    e ∙ ap₂ (λ (p q : ℕ). cond (eqb p q) (ltb c.args.a c.args.b) (ltb p q)) c.turn-x.ensures c.turn-y.ensures

-- src/lib.rt:133:1
pub returns : goal.returns
returns c = let s = c.turn-x.result in
    let t = c.turn-y.result in
    let e : ltb c.args.a c.args.b ≡ cond (eqb s t) (ltb c.args.a c.args.b) (ltb s t) = rw (eq-eqb s t c.if-x-y.false) refl in
    e ∙ ap₂ (λ (p q : ℕ). cond (eqb p q) (ltb c.args.a c.args.b) (ltb p q)) c.turn-x.ensures c.turn-y.ensures
