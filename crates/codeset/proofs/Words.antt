-- Laws of one word and of the four words. Assumes nothing.
use mathlib.Core.Path.{◌≡◌, refl, sym, ap, ◌∙◌}
use mathlib.Core.Bool.{true, false}
use mathlib.Core.List.{List, [], ◌∷◌}
use Prim.Native.Nat.{ℕ, zero, suc, ◌+◌, ◌-◌, ◌*◌, ◌/◌, ◌%◌, ◌^◌, ◌≤◌, ◌<◌, suc-le-suc}
use native.Mathlib.Nat.{le_of_suc-le-suc, not-suc-le-zero, mod-eq_of_lt, one-mul, div-div-eq-div-mul, pow-suc, pow-succ', max-eq_right, max-zero}
use mathlib.Core.Logic.{◌⊎◌, inl, inr, ⊎_elim}
use native.Mathlib.Omega.{arith}
use lib.Dec.{eqb}
use native.Mathlib.Decide.{ℕ_discrete as dec_eq}
use lib.Pow.{pow-lt}
use lib.Bits.{bit_or, or_step, or_zero_r}
use lib.Count.{ones, ones_step, count_trailing_zeros}
use lib.ListN.{length, get_or, set, drop, drop_of_length-le}
use native.Mathlib.Numerals.{add-one}
use lib.Seq.{drop-cons, get_or-set_same, get_or-set_other, set-get_or, set-set, set_comm}
use borrow.Author.Tests.{eq-eqb, ne_eqb, eqb-true, eqb-false}
use Rattle.options.specs.CodeSet.{bit, marked, with_mark, count_of, lowest_of}

-- a one shifted left within a word
pub one_shl : (k : ℕ) → k < 64 → (1 * 2 ^ k) % 2 ^ 64 ≡ 2 ^ k
one_shl k h = rw one-mul (mod-eq_of_lt (pow-lt h))

-- digit k + 1 of a number is digit k of its half; digit 0 is its remainder
pub bit_suc : (a k : ℕ) → bit a (suc k) ≡ bit (a / 2) k
bit_suc a k = rw (pow-succ' 2 k, ← div-div-eq-div-mul a 2 (2 ^ k))

bit_zero : (a : ℕ) → bit a 0 ≡ a % 2
bit_zero a = omega arith

pow_half : (k : ℕ) → 2 ^ suc k / 2 ≡ 2 ^ k
pow_half k = rw pow-suc (omega arith)

pow_even : (k : ℕ) → 2 ^ suc k % 2 ≡ 0
pow_even k = rw pow-suc (omega arith)

-- the word with the digit k set, as its half and its lowest digit
or_zero : (a : ℕ) → bit_or a 1 ≡ a / 2 * 2 + 1
or_zero a =
    let h : a % 2 ≤ 1 = omega arith in
    or_step a 1 ∙ rw (or_zero_r, max-eq_right h)

or_suc : (a k : ℕ) → bit_or a (2 ^ suc k) ≡ bit_or (a / 2) (2 ^ k) * 2 + a % 2
or_suc a k = or_step a (2 ^ suc k) ∙ rw (pow_half, pow_even, max-zero)

half_zero : (a : ℕ) → bit_or a 1 / 2 ≡ a / 2
half_zero a = rw or_zero (omega arith)

half_suc : (a k : ℕ) → bit_or a (2 ^ suc k) / 2 ≡ bit_or (a / 2) (2 ^ k)
half_suc a k = rw or_suc (omega arith)

pub or_same : (a k : ℕ) → bit (bit_or a (2 ^ k)) k ≡ 1
or_same a zero = rw or_zero (omega arith)
or_same a (suc k) = bit_suc _ k ∙ rw half_suc (or_same (a / 2) k)

pub or_other : (a k j : ℕ) → (j ≡ k → ⊥) → bit (bit_or a (2 ^ k)) j ≡ bit a j
or_other a zero zero h = absurd (h refl)
or_other a zero (suc j) h = bit_suc _ j ∙ rw half_zero (sym (bit_suc a j))
or_other a (suc k) zero h = rw or_suc (omega arith)
or_other a (suc k) (suc j) h = bit_suc _ j ∙ rw half_suc (or_other (a / 2) k j (λ e. h (ap suc e)) ∙ sym (bit_suc a j))

pub or_ones : (a k : ℕ) → bit a k ≡ 0 → ones (bit_or a (2 ^ k)) ≡ suc (ones a)
or_ones a zero h =
    let low : bit_or a 1 % 2 ≡ 1 = rw or_zero (omega arith) in
    let e : ones (bit_or a 1) ≡ bit_or a 1 % 2 + ones (a / 2) = ones_step (bit_or a 1) ∙ rw half_zero in
    omega (arith, ones_step a)
or_ones a (suc k) h =
    let low : bit_or a (2 ^ suc k) % 2 ≡ a % 2 = rw or_suc (omega arith) in
    let e : ones (bit_or a (2 ^ suc k)) ≡ bit_or a (2 ^ suc k) % 2 + ones (bit_or (a / 2) (2 ^ k)) = ones_step (bit_or a (2 ^ suc k)) ∙ rw half_suc in
    omega (arith, ones_step a, or_ones (a / 2) k (sym (bit_suc a k) ∙ h))

-- a digit that was not set adds its weight
pub or_plus : (a k : ℕ) → bit a k ≡ 0 → bit_or a (2 ^ k) ≡ a + 2 ^ k
or_plus a zero h = rw or_zero (omega arith)
or_plus a (suc k) h = let e : bit_or (a / 2) (2 ^ k) ≡ a / 2 + 2 ^ k = or_plus (a / 2) k (sym (bit_suc a k) ∙ h) in rw (or_suc, e, pow-suc 2 k) (omega arith)

-- two digits may be set in either order
or_swap : (a j k : ℕ) → bit_or (bit_or a (2 ^ j)) (2 ^ k) ≡ bit_or (bit_or a (2 ^ k)) (2 ^ j)
or_swap a zero zero = refl
or_swap a zero (suc k) =
    let low : bit_or a 1 % 2 ≡ 1 = rw or_zero (omega arith) in
    or_suc (bit_or a 1) k ∙ rw (half_zero a, low) (sym (or_zero (bit_or a (2 ^ suc k)) ∙ rw (half_suc a k) refl))
or_swap a (suc j) zero =
    let low : bit_or a 1 % 2 ≡ 1 = rw or_zero (omega arith) in
    or_zero (bit_or a (2 ^ suc j)) ∙ rw (half_suc a j) (sym (or_suc (bit_or a 1) j ∙ rw (half_zero a, low) refl))
or_swap a (suc j) (suc k) =
    let low : (i : ℕ) → bit_or a (2 ^ suc i) % 2 ≡ a % 2 = λ i. rw or_suc (omega arith) in
    or_suc (bit_or a (2 ^ suc j)) k
    ∙ rw (half_suc a j, low j, or_swap (a / 2) j k) (sym (or_suc (bit_or a (2 ^ suc k)) j ∙ rw (half_suc a k, low k) refl))

-- a digit that is set already
pub or_already : (a k : ℕ) → bit a k ≡ 1 → bit_or a (2 ^ k) ≡ a
or_already a zero h = rw or_zero (omega arith)
or_already a (suc k) h = let e : bit_or (a / 2) (2 ^ k) ≡ a / 2 = or_already (a / 2) k (sym (bit_suc a k) ∙ h) in rw (or_suc, e) (omega arith)

-- setting a digit changes the word exactly where it was not set
pub or_marked : (a k : ℕ) → bit_or a (2 ^ k) ≡ a → eqb (bit a k) 1 ≡ true
or_marked a k h = eq-eqb (bit a k) 1 (ap (λ (x : ℕ). bit x k) (sym h) ∙ or_same a k)

pub or_unmarked : (a k : ℕ) → (bit_or a (2 ^ k) ≡ a → ⊥) → eqb (bit a k) 1 ≡ false
or_unmarked a k h = ne_eqb (bit a k) 1 (λ e. h (or_already a k e))

-- so the test whether the word is the same tells whether the digit was set
pub or_tells : (a k : ℕ) → eqb (bit_or a (2 ^ k)) a ≡ eqb (bit a k) 1
or_tells a k = by (dec_eq (bit_or a (2 ^ k)) a)
  where
    by : Dec (bit_or a (2 ^ k) ≡ a) → eqb (bit_or a (2 ^ k)) a ≡ eqb (bit a k) 1
    by (yes p) = eq-eqb (bit_or a (2 ^ k)) a p ∙ sym (or_marked a k p)
    by (no p) = ne_eqb (bit_or a (2 ^ k)) a p ∙ sym (or_unmarked a k p)

-- the zeros below the lowest digit
tz_zero : (k n : ℕ) → n % 2 ≡ 0 → count_trailing_zeros (suc k) n ≡ suc (count_trailing_zeros k (n / 2))
unfolding count_trailing_zeros
tz_zero k n h = rw h

tz_one : (k n : ℕ) → n % 2 ≡ 1 → count_trailing_zeros (suc k) n ≡ 0
unfolding count_trailing_zeros
tz_one k n h = rw h

-- a digit below 2 is 0 or 1
digit : (n : ℕ) → (n % 2 ≡ 0) ⊎ (n % 2 ≡ 1)
digit n = go (n % 2) refl
  where
    go : (d : ℕ) → n % 2 ≡ d → (n % 2 ≡ 0) ⊎ (n % 2 ≡ 1)
    go zero e = inl e
    go (suc zero) e = inr e
    go (suc (suc d)) e = absurd (omega arith)

no_less : (k n j : ℕ) → j < count_trailing_zeros (suc k) n → n % 2 ≡ 1 → ⊥
no_less k n j h e = not-suc-le-zero (rw (tz_one k n e) at h)

pub tz_below : (k n j : ℕ) → j < count_trailing_zeros k n → bit n j ≡ 0
unfolding count_trailing_zeros
tz_below zero n j h = absurd (not-suc-le-zero h)
tz_below (suc k) n zero h = ⊎_elim (λ e. omega arith) (λ e. absurd (no_less k n 0 h e)) (digit n)
tz_below (suc k) n (suc j) h =
    ⊎_elim (λ e. bit_suc n j ∙ tz_below k (n / 2) j (le_of_suc-le-suc (rw (tz_zero k n e) at h))) (λ e. absurd (no_less k n (suc j) h e)) (digit n)

pub tz_at : (k n : ℕ) → 0 < n → n < 2 ^ k → (count_trailing_zeros k n < k) × (bit n (count_trailing_zeros k n) ≡ 1)
tz_at zero n p h = absurd (omega arith)
tz_at (suc k) n p h = let q : n < 2 ^ k * 2 = rw (pow-suc 2 k) at h in ⊎_elim (even q (tz_at k (n / 2))) odd (digit n)
  where
    odd : n % 2 ≡ 1 → (count_trailing_zeros (suc k) n < suc k) × (bit n (count_trailing_zeros (suc k) n) ≡ 1)
    odd e = rw (tz_one k n e) (omega arith)

    even : n < 2 ^ k * 2 → (0 < n / 2 → n / 2 < 2 ^ k → (count_trailing_zeros k (n / 2) < k) × (bit (n / 2) (count_trailing_zeros k (n / 2)) ≡ 1)) → n % 2 ≡ 0 → (count_trailing_zeros (suc k) n < suc k) × (bit n (count_trailing_zeros (suc k) n) ≡ 1)
    even q t e = let r = t (omega arith) (omega arith) in rw (tz_zero k n e) (suc-le-suc r.0, bit_suc n _ ∙ r.1)

-- the four words
module _ (w : List ℕ) (c : ℕ) where
  pub mark_same : c / 64 < length w → marked (with_mark w c) c ≡ true
  mark_same h = rw (get_or-set_same w (c / 64) _ 0 h, or_same)

  pub mark_other : (d : ℕ) → c / 64 < length w → (d ≡ c → ⊥) → marked (with_mark w c) d ≡ marked w d
  mark_other d h n = by (dec_eq (d / 64) (c / 64))
    where
      by : Dec (d / 64 ≡ c / 64) → marked (with_mark w c) d ≡ marked w d
      by (yes e) = rw (e, get_or-set_same w (c / 64) _ 0 h, or_other (get_or w (c / 64) 0) (c % 64) (d % 64) (omega arith))
      by (no e) = rw (get_or-set_other w (c / 64) (d / 64) _ 0 e)

  pub mark_there : marked w c ≡ true → with_mark w c ≡ w
  mark_there e =
      let x : ℕ = get_or w (c / 64) 0 in
      ap (set w (c / 64)) (or_already x (c % 64) (eqb-true (bit x (c % 64)) 1 e)) ∙ set-get_or w (c / 64) 0

  -- taken out again
  pub mark_clear : c / 64 < length w → marked w c ≡ false → set (with_mark w c) (c / 64) (get_or (with_mark w c) (c / 64) 0 - 2 ^ (c % 64)) ≡ w
  mark_clear h e =
      let x : ℕ = get_or w (c / 64) 0 in
      let z : bit x (c % 64) ≡ 0 = omega (arith, eqb-false (bit x (c % 64)) 1 e) in
      let y : x + 2 ^ (c % 64) - 2 ^ (c % 64) ≡ x = omega arith in
      set-set w (c / 64) _ _ ∙ rw (get_or-set_same w (c / 64) (bit_or x (2 ^ (c % 64))) 0 h, or_plus x (c % 64) z, y) (set-get_or w (c / 64) 0)

  pub mark_least : c / 64 < length w → marked w c ≡ false → 2 ^ (c % 64) ≤ get_or (with_mark w c) (c / 64) 0
  mark_least h e =
      let x : ℕ = get_or w (c / 64) 0 in
      let z : bit x (c % 64) ≡ 0 = omega (arith, eqb-false (bit x (c % 64)) 1 e) in
      rw (get_or-set_same w (c / 64) (bit_or x (2 ^ (c % 64))) 0 h, or_plus x (c % 64) z) (omega arith)

  pub mark_swap : (d : ℕ) → c / 64 < length w → d / 64 < length w → with_mark (with_mark w c) d ≡ with_mark (with_mark w d) c
  mark_swap d h k = by (dec_eq (c / 64) (d / 64))
    where
      by : Dec (c / 64 ≡ d / 64) → with_mark (with_mark w c) d ≡ with_mark (with_mark w d) c
      by (yes e) =
          let x : ℕ = get_or w (d / 64) 0 in
          rw e
          (set-set w (d / 64) _ _ ∙ rw (get_or-set_same w (d / 64) (bit_or x (2 ^ (c % 64))) 0 k, or_swap x (c % 64) (d % 64))
          (sym (set-set w (d / 64) _ _ ∙ rw (get_or-set_same w (d / 64) (bit_or x (2 ^ (d % 64))) 0 k) refl)))
      by (no e) =
          rw (get_or-set_other w (c / 64) (d / 64) (bit_or (get_or w (c / 64) 0) (2 ^ (c % 64))) 0 (λ q. e (sym q)), get_or-set_other w (d / 64) (c / 64) (bit_or (get_or w (d / 64) 0) (2 ^ (d % 64))) 0 e)
          (set_comm w (c / 64) (d / 64) _ _ e)

ones_set : (w : List ℕ) (k v : ℕ) → k < length w → ones v ≡ suc (ones (get_or w k 0)) → count_of (set w k v) ≡ suc (count_of w)
unfolding count_of
ones_set [] k v h e = absurd (not-suc-le-zero h)
ones_set (x ∷ xs) zero v h e = omega arith
ones_set (x ∷ xs) (suc k) v h e = omega (arith, ones_set xs k v (le_of_suc-le-suc h) e)

bit_cases : (a k : ℕ) → eqb (bit a k) 1 ≡ false → bit a k ≡ 0
bit_cases a k e = omega (arith, eqb-false (bit a k) 1 e)

pub mark_ones : (w : List ℕ) (c : ℕ) → c / 64 < length w → marked w c ≡ false → count_of (with_mark w c) ≡ suc (count_of w)
mark_ones w c h e = ones_set w (c / 64) _ h (or_ones (get_or w (c / 64) 0) (c % 64) (bit_cases _ (c % 64) e))

pub ones_four : (w : List ℕ) → length w ≡ 4 → ones (get_or w 0 0) + ones (get_or w 1 0) + ones (get_or w 2 0) + ones (get_or w 3 0) ≡ count_of w
unfolding count_of
ones_four [] h = absurd (omega arith)
ones_four (a ∷ []) h = absurd (omega arith)
ones_four (a ∷ b ∷ []) h = absurd (omega arith)
ones_four (a ∷ b ∷ c ∷ []) h = absurd (omega arith)
ones_four (a ∷ b ∷ c ∷ d ∷ []) h = omega arith
ones_four (a ∷ b ∷ c ∷ d ∷ e ∷ l) h = absurd (omega arith)

-- the lowest code, at a word of the four
module _ (w : List ℕ) (k : ℕ) (h : k < length w) where
  pub lowest_here : (get_or w k 0 ≡ 0 → ⊥) → lowest_of (drop k w) k ≡ k * 64 + count_trailing_zeros 64 (get_or w k 0)
  unfolding lowest_of
  lowest_here z = rw (drop-cons w k 0 h, ne_eqb (get_or w k 0) 0 z)

  pub lowest_next : get_or w k 0 ≡ 0 → lowest_of (drop k w) k ≡ lowest_of (drop (k + 1) w) (k + 1)
  unfolding lowest_of
  lowest_next z = rw (drop-cons w k 0 h, eq-eqb (get_or w k 0) 0 z, add-one)

pub lowest_none : (w : List ℕ) (k : ℕ) → length w ≤ k → lowest_of (drop k w) k ≡ 0
unfolding lowest_of
lowest_none w k h = rw (drop_of_length-le w h)
