-- A test that is computed for every number of a range holds of each. Assumes nothing.
use mathlib.Core.Path.{◌≡◌, refl, subst}
use mathlib.Core.Logic.{inl, inr}
use mathlib.Core.Bool.{Bool, true, false, not, ◌&&◌, ◌||◌}
use Prim.Native.Nat.{ℕ, zero, suc, ◌+◌, ◌-◌, ◌%◌, ◌≤◌, ◌<◌}
use native.Mathlib.Omega.{arith}
use borrow.Author.Count.{below_more}
use lib.Bits.{bit_and}
use lib.Count.{count_leading_zeros}
use lib.Dec.{T, eqb, eqb→eq, ltb, ltb→lt}
use mir.Facts.{and_yes, or_yes}
use Rattle.ranges.specs.Rows.{row_number}
use Rattle.ranges.specs.Words.{range_row, in_ranges_value}

abbrev pub all_below : (ℕ → Bool) → ℕ → Bool
all_below test zero = true
all_below test (suc n) = test n && all_below test n

all_below_lem : (test : ℕ → Bool) (n : ℕ) → T (all_below test n) → (c : ℕ) → c < n → T (test c)
all_below_lem test zero t c h = absurd (omega arith)
all_below_lem test (suc n) t c h =
    let p : T (test n) × T (all_below test n) = and_yes (test n) (all_below test n) t in
    below_more (λ k. T (test k)) n (all_below_lem test n p.1) p.0 c (omega arith)

-- the n numbers from a on
all_from : (test : ℕ → Bool) (a n : ℕ) → T (all_below (λ i. test (a + i)) n) → (c : ℕ) → a ≤ c → c < a + n → T (test c)
all_from test a n t c l h =
    let e : a + (c - a) ≡ c = omega arith in
    subst (λ (i : ℕ). T (test i)) e (all_below_lem (λ i. test (a + i)) n t (c - a) (omega arith))

-- the ranges give the row of each of the n codes from a on
abbrev pub right : ℕ → ℕ → ℕ → Bool
right firsts rows c = eqb (range_row firsts rows c) (row_number c)

pub rows_right : (firsts rows a n : ℕ) → T (all_below (λ i. right firsts rows (a + i)) n) → (c : ℕ) → a ≤ c → c < a + n → range_row firsts rows c ≡ row_number c
rows_right firsts rows a n t c l h = eqb→eq _ _ (all_from (right firsts rows) a n t c l h)

-- no code from 77 on has a row, but for 82 and 121
pub row_82 : 12 ≡ row_number 82
unfolding row_number
row_82 = refl

pub row_121 : 13 ≡ row_number 121
unfolding row_number
row_121 = refl

pub no_row : (c : ℕ) → 77 ≤ c → c < 256 → (c ≡ 82 → ⊥) → (c ≡ 121 → ⊥) → 0 ≡ row_number c
unfolding row_number
no_row c l h n k = elim (or_yes (eqb c 82) (eqb c 121 || eqb 0 (row_number c)) (all_from (λ x. eqb x 82 || (eqb x 121 || eqb 0 (row_number x))) 77 179 tt c l (omega arith))) [
  | inl e ↦ absurd (n (eqb→eq _ _ e))
  | inr o ↦ elim (or_yes (eqb c 121) (eqb 0 (row_number c)) o) [
    | inl e ↦ absurd (k (eqb→eq _ _ e))
    | inr e ↦ eqb→eq _ _ e
  ]
]

-- no code below 77 is of relay information or of classless routes
pub low_kind : (c : ℕ) → c < 77 → row_number c % 16 < 12
unfolding row_number
low_kind c h = ltb→lt _ _ (all_below_lem (λ x. ltb (row_number x % 16) 12) 77 tt c h)

-- two tests that give the same
abbrev pub same : Bool → Bool → Bool
same true b = b
same false b = not b

same_is : (a b : Bool) → T (same a b) → a ≡ b
same_is true true t = refl
same_is false false t = refl
same_is true false t = absurd t
same_is false true t = absurd t

-- the ranges of the texts hold their codes
abbrev pub of_text : ℕ → Bool
of_text c = eqb (row_number c % 16) 10

pub texts_right : (firsts ends : ℕ) → T (all_below (λ c. same (in_ranges_value firsts ends c) (of_text c)) 77) → (c : ℕ) → c < 77 → in_ranges_value firsts ends c ≡ of_text c
texts_right firsts ends t c h = same_is _ _ (all_below_lem (λ x. same (in_ranges_value firsts ends x) (of_text x)) 77 t c h)

pub no_text : (c : ℕ) → 77 ≤ c → c < 256 → false ≡ of_text c
unfolding row_number
no_text c l h = same_is _ _ (all_from (λ x. same false (of_text x)) 77 179 tt c l (omega arith))

-- the texts have one row
one_row : (a b : Bool) → T (not a || b) → a ≡ true → b ≡ true
one_row true true t e = refl
one_row true false t e = absurd t
one_row false b t e = absurd (let z : ◌≡◌ {A = ℕ} 0 1 = cc in omega arith)

pub text_row : (c : ℕ) → c < 256 → of_text c ≡ true → eqb (row_number c) 10 ≡ true
unfolding row_number
text_row c h e = one_row _ _ (all_below_lem (λ x. not (of_text x) || eqb (row_number x) 10) 256 tt c h) e
