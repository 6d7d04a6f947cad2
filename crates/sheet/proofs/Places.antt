-- A number, where 0 stands for none. Assumes nothing.
use mathlib.Core.Path.{◌≡◌, refl, sym, ap, ◌∙◌}
use mathlib.Core.Bool.{Bool, true, false, cond}
use Prim.Native.Nat.{ℕ}
use lib.Dec.{eqb}
use borrow.Author.Tests.{eqb-true, eqb-false, ne_eqb}
use Rattle.theorems.proofs.View.{clash}
use Rattle.std.specs.Prelude.{Some, None}
use Rattle.sheet.specs.Places.{unless_0}

pub found : (v n : ℕ) → Some n ≡ unless_0 v → (n ≡ v) × (n ≡ 0 → ⊥)
found v n e = go (eqb v 0) refl e
  where
    go : (b : Bool) → eqb v 0 ≡ b → Some n ≡ cond b None (Some v) → (n ≡ v) × (n ≡ 0 → ⊥)
    go true q z = clash (cc)
    go false q z = let w : n ≡ v = cc in (w, λ y. eqb-false v 0 q (sym w ∙ y))

pub lost : (v : ℕ) → None ≡ unless_0 v → v ≡ 0
lost v e = go (eqb v 0) refl e
  where
    go : (b : Bool) → eqb v 0 ≡ b → None ≡ cond b None (Some v) → v ≡ 0
    go true q z = eqb-true v 0 q
    go false q z = clash (cc)

pub some_is : (v n : ℕ) → n ≡ v → (n ≡ 0 → ⊥) → Some n ≡ unless_0 v
some_is v n e h = ap Some e ∙ sym (rw (ne_eqb v 0 (λ z. h (e ∙ z))) refl)
