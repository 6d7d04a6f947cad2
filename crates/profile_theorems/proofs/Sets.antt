-- The set of broken rules as bits: bit i is that of rule i, and no other number has these bits. Assumes nothing.
use mathlib.Core.Path.{◌≡◌, refl, sym, ap, ◌∙◌}
use mathlib.Core.List.{List, [], ◌∷◌}
use mathlib.Core.Bool.{Bool, true, false, cond}
use Prim.Native.Nat.{ℕ, zero, suc, ◌+◌, ◌*◌, ◌/◌, ◌%◌, ◌^◌, ◌<◌}
use native.Mathlib.Omega.{arith}
use native.Mathlib.Nat.{zero-div}
use lib.ListN.{length, drop}
use Rattle.options.specs.Message.{Opt}
use Rattle.options.specs.CodeSet.{bit}
use Rattle.options.specs.Profile.{ReplyRule, breaks_rule, broken_set}
use Rattle.codeset.proofs.Words.{bit_suc}
use Rattle.theorems.proofs.View.{clash}

bit_head : (b : Bool) (n : ℕ) → bit (cond b 1 0 + 2 * n) 0 ≡ cond b 1 0
bit_head true n = omega arith
bit_head false n = omega arith

bit_tail : (b : Bool) (n k : ℕ) → bit (cond b 1 0 + 2 * n) (suc k) ≡ bit n k
bit_tail b n k = bit_suc (cond b 1 0 + 2 * n) k ∙ ap (λ (x : ℕ). bit x k) (half b)
  where
    half : (b : Bool) → (cond b 1 0 + 2 * n) / 2 ≡ n
    half true = omega arith
    half false = omega arith

pub set_bit : (os : List Opt) (all : List ReplyRule) (i : ℕ) (r : ReplyRule) (rest : List ReplyRule) → drop i all ≡ r ∷ rest
    → bit (broken_set os all) i ≡ cond (breaks_rule os r) 1 0
unfolding broken_set
set_bit os [] zero r rest e = clash (cc)
set_bit os [] (suc i) r rest e = clash (cc)
set_bit os (x ∷ all) zero r rest e = bit_head (breaks_rule os x) (broken_set os all) ∙ ap (λ (y : ReplyRule). cond (breaks_rule os y) 1 0) (same e)
  where
    same : x ∷ all ≡ r ∷ rest → x ≡ r
    same e = cc
set_bit os (x ∷ all) (suc i) r rest e = bit_tail (breaks_rule os x) (broken_set os all) i ∙ set_bit os all i r rest e

pub set_below : (os : List Opt) (all : List ReplyRule) → broken_set os all < 2 ^ length all
unfolding broken_set
set_below os [] = omega arith
set_below os (x ∷ all) = go (breaks_rule os x) (set_below os all)
  where
    go : (b : Bool) → broken_set os all < 2 ^ length all → cond b 1 0 + 2 * broken_set os all < 2 ^ suc (length all)
    go true h = omega arith
    go false h = omega arith

pub no_bits : (i : ℕ) → bit 0 i ≡ 0
no_bits i = rw (zero-div (2 ^ i))

-- two numbers below 2 ^ k with the same bits
pub same_bits : (k x y : ℕ) → x < 2 ^ k → y < 2 ^ k → ((i : ℕ) → i < k → bit x i ≡ 1 → bit y i ≡ 1) → ((i : ℕ) → i < k → bit y i ≡ 1 → bit x i ≡ 1) → x ≡ y
same_bits zero x y h l f g = omega arith
same_bits (suc k) x y h l f g =
    let z : x / 2 ≡ y / 2 =
    same_bits k (x / 2) (y / 2) (omega arith) (omega arith)
    (λ i q e. sym (bit_suc y i) ∙ f (suc i) (omega arith) (bit_suc x i ∙ e))
    (λ i q e. sym (bit_suc x i) ∙ g (suc i) (omega arith) (bit_suc y i ∙ e)) in
    low (f 0 (omega arith)) (g 0 (omega arith)) z
  where
    bit_0 : (a : ℕ) → bit a 0 ≡ a % 2
    bit_0 a = omega arith

    low : (bit x 0 ≡ 1 → bit y 0 ≡ 1) → (bit y 0 ≡ 1 → bit x 0 ≡ 1) → x / 2 ≡ y / 2 → x ≡ y
    low p q z = go (x % 2) (y % 2) refl refl
      where
        go : (a b : ℕ) → x % 2 ≡ a → y % 2 ≡ b → x ≡ y
        go zero zero u v = omega arith
        go zero (suc b) u v = let w : y % 2 ≡ 1 = omega arith in let s : x % 2 ≡ 1 = sym (bit_0 x) ∙ q (bit_0 y ∙ w) in omega arith
        go (suc a) zero u v = let w : x % 2 ≡ 1 = omega arith in let s : y % 2 ≡ 1 = sym (bit_0 y) ∙ p (bit_0 x ∙ w) in omega arith
        go (suc a) (suc b) u v = omega arith
