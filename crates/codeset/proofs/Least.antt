-- The lowest code marked in the words is the least of the codes. Assumes nothing.
use mathlib.Core.Path.{◌≡◌, refl}
use mathlib.Core.List.{List, [], ◌∷◌}
use Prim.Native.Nat.{ℕ, zero, suc, ◌+◌, ◌*◌, ◌/◌, ◌%◌, ◌^◌, ◌≤◌, ◌<◌}
use native.Mathlib.Nat.{zero-div}
use native.Mathlib.Omega.{arith}
use lib.ListN.{get_or}
use lib.Count.{count_trailing_zeros, trailing_le}
use borrow.Author.Tests.{eq-eqb, ne_eqb}
use native.Mathlib.Decide.{ℕ_discrete, dec_lt}
use Rattle.options.specs.CodeSet.{bit, lowest_of}
use Rattle.codeset.proofs.Words.{tz_below, tz_at}

-- a number with a set digit is not 0
not_zero : (x b : ℕ) → bit x b ≡ 1 → x ≡ 0 → ⊥
not_zero x b e z =
    let f : 0 / 2 ^ b ≡ 0 = zero-div (2 ^ b) in
    let g : 0 / 2 ^ b % 2 ≡ 1 = rw z at e in
    omega arith

tz_le : (x b : ℕ) → bit x b ≡ 1 → count_trailing_zeros 64 x ≤ b
tz_le x b e = by (dec_lt b (count_trailing_zeros 64 x))
  where
    by : Dec (b < count_trailing_zeros 64 x) → count_trailing_zeros 64 x ≤ b
    by (yes h) = absurd (let z : bit x b ≡ 0 = tz_below 64 x b h in omega arith)
    by (no h) = omega arith

head_set : (x : ℕ) (xs : List ℕ) (k : ℕ) → (x ≡ 0 → ⊥) → lowest_of (x ∷ xs) k ≡ k * 64 + count_trailing_zeros 64 x
unfolding lowest_of
head_set x xs k h = rw (ne_eqb x 0 h)

head_zero : (x : ℕ) (xs : List ℕ) (k : ℕ) → x ≡ 0 → lowest_of (x ∷ xs) k ≡ lowest_of xs (suc k)
unfolding lowest_of
head_zero x xs k h = rw (eq-eqb x 0 h)

pub low_le : (ws : List ℕ) (k j b : ℕ) → b < 64 → bit (get_or ws j 0) b ≡ 1 → lowest_of ws k ≤ (k + j) * 64 + b
low_le [] k j b h e = absurd (not_zero 0 b e refl)
low_le (x ∷ xs) k zero b h e = omega (arith, head_set x xs k (not_zero x b e), tz_le x b e)
low_le (x ∷ xs) k (suc j) b h e = by (ℕ_discrete x 0) (low_le xs (suc k) j b h e)
  where
    by : Dec (x ≡ 0) → lowest_of xs (suc k) ≤ (suc k + j) * 64 + b → lowest_of (x ∷ xs) k ≤ (k + suc j) * 64 + b
    by (yes z) r = omega (arith, head_zero x xs k z)
    by (no n) r = omega (arith, head_set x xs k n, trailing_le 64 x)

-- where some word is not 0, the lowest code is marked
pub low_in : (ws : List ℕ) (k j : ℕ) → ((i : ℕ) → get_or ws i 0 < 2 ^ 64) → 0 < get_or ws j 0
    → (i : ℕ) × (b : ℕ) × (b < 64) × (lowest_of ws k ≡ (k + i) * 64 + b) × (bit (get_or ws i 0) b ≡ 1)
low_in [] k j f h = absurd (omega arith)
low_in (x ∷ xs) k zero f h =
    let t = tz_at 64 x h (f 0) in
    (0, count_trailing_zeros 64 x, t.0, omega (arith, head_set x xs k (omega arith)), t.1)
low_in (x ∷ xs) k (suc j) f h = by (ℕ_discrete x 0) (low_in xs (suc k) j (λ i. f (suc i)) h)
  where
    by : Dec (x ≡ 0) → (i : ℕ) × (b : ℕ) × (b < 64) × (lowest_of xs (suc k) ≡ (suc k + i) * 64 + b) × (bit (get_or xs i 0) b ≡ 1)
        → (i : ℕ) × (b : ℕ) × (b < 64) × (lowest_of (x ∷ xs) k ≡ (k + i) * 64 + b) × (bit (get_or (x ∷ xs) i 0) b ≡ 1)
    by (yes z) r = (suc r.0, r.1, r.2, omega (arith, head_zero x xs k z, r.3), r.4)
    by (no n) r =
        let t = tz_at 64 x (omega arith) (f 0) in
        (0, count_trailing_zeros 64 x, t.0, omega (arith, head_set x xs k n), t.1)
