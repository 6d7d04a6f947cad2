-- Where a code stands in the words of a set: MarkedRight, proved. Assumes nothing.
use mathlib.Core.Path.{◌≡◌, refl, sym, ap, ◌∙◌, subst}
use mathlib.Core.List.{[], ◌∷◌}
use mathlib.Core.Bool.{true}
use mathlib.Core.Logic.{◌↔◌}
use Prim.Native.Nat.{ℕ, zero, suc, ◌+◌, ◌*◌, ◌/◌, ◌%◌}
use native.Mathlib.Omega.{arith}
use lib.Dec.{eqb}
use borrow.Author.Tests.{eq-eqb, eqb-true}
use Rattle.options.specs.CodeSet.{bit, marked}
use Rattle.options.specs.KindClaims.{BitSet, lowest_bit, higher_bit, MarkedRight}
use Rattle.codeset.proofs.Words.{bit_suc}

bit_zero : (a : ℕ) → bit a 0 ≡ a % 2
bit_zero a = let e : a / 1 ≡ a = omega arith in ap (λ (x : ℕ). x % 2) e

is_set : (k x : ℕ) → bit x k ≡ 1 → BitSet x k
is_set zero x e =
    let z : x ≡ x / 2 * 2 + 1 = omega (arith, e, bit_zero x) in
    subst (λ (y : ℕ). BitSet y 0) (sym z) (lowest_bit (x / 2))
is_set (suc k) x e =
    let z : x ≡ x / 2 * 2 + x % 2 = omega arith in
    subst (λ (y : ℕ). BitSet y (suc k)) (sym z) (higher_bit (x / 2) (x % 2) (omega arith) (is_set k (x / 2) (sym (bit_suc x k) ∙ e)))

set_is : {k x : ℕ} → BitSet x k → bit x k ≡ 1
set_is (lowest_bit h) = let e : (h * 2 + 1) % 2 ≡ 1 = omega arith in bit_zero (h * 2 + 1) ∙ e
set_is (higher_bit h low {k} l b) = let e : (h * 2 + low) / 2 ≡ h = omega arith in bit_suc (h * 2 + low) k ∙ ap (λ (y : ℕ). bit y k) e ∙ set_is b

pub bit_set : (x k : ℕ) → bit x k ≡ 1 ↔ BitSet x k
bit_set x k = (is_set k x, set_is)

told : (x k : ℕ) → eqb (bit x k) 1 ≡ true ↔ BitSet x k
told x k = ((λ e. is_set k x (eqb-true (bit x k) 1 e)), (λ b. eq-eqb (bit x k) 1 (set_is b)))

pub marked_right : MarkedRight
marked_right w0 w1 w2 w3 k h =
    let q0 : k / 64 ≡ 0 = omega arith in
    let q1 : (64 + k) / 64 ≡ 1 = omega arith in
    let q2 : (128 + k) / 64 ≡ 2 = omega arith in
    let q3 : (192 + k) / 64 ≡ 3 = omega arith in
    let r0 : k % 64 ≡ k = omega arith in
    let r1 : (64 + k) % 64 ≡ k = omega arith in
    let r2 : (128 + k) % 64 ≡ k = omega arith in
    let r3 : (192 + k) % 64 ≡ k = omega arith in
    record { first = rw (q0, r0) (told w0 k); second = rw (q1, r1) (told w1 k); third = rw (q2, r2) (told w2 k); fourth = rw (q3, r3) (told w3 k) }
