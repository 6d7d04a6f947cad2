-- Numbers raised in a list. Assumes nothing.
use Rattle.std.proofs.Common.{◌≡◌, ℕ, ◌+◌, ◌%◌, ◌^◌, ◌<◌, ◌≤◌, min, max, Bool, true, false, cond, not, List, length, get_or, set, refl, ap, ◌∙◌, arith, length-set, get_or-set_other, get_or-set_same, eq-eqb, ne_eqb}
use native.Mathlib.Decide.{ℕ_discrete}
use Rattle.tally.specs.Noted.{Raises, only_at}

-- one number raised
pub raises_one : (xs : List ℕ) (k n : ℕ) → k < length xs → Raises (only_at k n) xs (set xs k ((get_or xs k 0 + n) % 2 ^ 64))
raises_one xs k n h = record { same_length = length-set xs k ((get_or xs k 0 + n) % 2 ^ 64); each = λ i l. by i (ℕ_discrete i k) }
  where
    here : get_or (set xs k ((get_or xs k 0 + n) % 2 ^ 64)) k 0 ≡ (get_or xs k 0 + n) % 2 ^ 64
    here = get_or-set_same xs k ((get_or xs k 0 + n) % 2 ^ 64) 0 h

    by : (i : ℕ) → Dec (i ≡ k) → get_or xs i 0 < 2 ^ 64 → get_or (set xs k ((get_or xs k 0 + n) % 2 ^ 64)) i 0 ≡ (get_or xs i 0 + only_at k n i) % 2 ^ 64
    by i (yes e) b = rw (e, eq-eqb k k refl) here
    by i (no e) b = rw (ne_eqb i k e) (get_or-set_other xs k i ((get_or xs k 0 + n) % 2 ^ 64) 0 e ∙ (omega arith))

-- there is none at the place
pub raises_past : (xs : List ℕ) (k n : ℕ) → length xs ≤ k → Raises (only_at k n) xs xs
raises_past xs k n h = record { same_length = refl; each = λ i l b. past i l b }
  where
    past : (i : ℕ) → i < length xs → get_or xs i 0 < 2 ^ 64 → get_or xs i 0 ≡ (get_or xs i 0 + only_at k n i) % 2 ^ 64
    past i l b = rw (ne_eqb i k (λ e. omega arith)) (omega arith)

-- none raised
pub raises_none : (f : ℕ → ℕ) (xs : List ℕ) → ((i : ℕ) → f i ≡ 0) → Raises f xs xs
raises_none f xs h = record { same_length = refl; each = λ i l b. let y = h i in omega arith }

pub raises_same : (f g : ℕ → ℕ) (xs ys : List ℕ) → ((i : ℕ) → f i ≡ g i) → Raises f xs ys → Raises g xs ys
raises_same f g xs ys h r = record { same_length = r.same_length; each = λ i l b. r.each i l b ∙ ap (λ (n : ℕ). (get_or xs i 0 + n) % 2 ^ 64) (h i) }
