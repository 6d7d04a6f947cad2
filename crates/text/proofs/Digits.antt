-- The digits of a number: one more than those of its tenth, and how many there are. Assumes nothing.
use mathlib.Core.Path.{◌≡◌, ap, ◌∙◌}
use mathlib.Core.Bool.{Bool, true, false, cond}
use mathlib.Core.List.{List, [], ◌∷◌, ◌++◌}
use Prim.Native.Nat.{ℕ, zero, suc, ◌+◌, ◌/◌, ◌%◌, ◌^◌, ◌≤◌, ◌<◌}
use native.Mathlib.Omega.{arith}
use lib.Dec.{ltb}
use lib.ListN.{length, length-append}
use borrow.Author.Tests.{lt-ltb, le-ltb}
use Rattle.options.specs.Answers.{digit, decimal_in, decimal}

-- a place more than needed changes nothing
place_more : (p n : ℕ) → n < 10 ^ suc p → decimal_in (suc p) n ≡ decimal_in (suc (suc p)) n
unfolding decimal_in
place_more zero n h = rw (lt-ltb n 10 (omega arith))
place_more (suc p) n h =
    ap (λ (front : List ℕ). cond (ltb n 10) (digit n ∷ []) (front ++ (digit (n % 10) ∷ []))) (place_more p (n / 10) (omega arith))

pub decimal_one : (n : ℕ) → n < 10 → decimal n ≡ digit n ∷ []
unfolding decimal_in
decimal_one n h = rw (lt-ltb n 10 h)

pub decimal_more : (n : ℕ) → 10 ≤ n → n < 2 ^ 64 → decimal n ≡ decimal (n / 10) ++ (digit (n % 10) ∷ [])
unfolding decimal_in
decimal_more n h k =
    ap (λ (b : Bool). cond b (digit n ∷ []) (decimal_in 19 (n / 10) ++ (digit (n % 10) ∷ []))) (le-ltb n 10 h)
    ∙ ap (λ (front : List ℕ). front ++ (digit (n % 10) ∷ [])) (place_more 18 (n / 10) (omega arith))

-- ---- how many digits

pub digits_one : (n : ℕ) → n < 10 → length (decimal n) ≡ 1
digits_one n h = ap length (decimal_one n h)

pub digits_more : (n : ℕ) → 10 ≤ n → n < 2 ^ 64 → length (decimal n) ≡ length (decimal (n / 10)) + 1
digits_more n h k = ap length (decimal_more n h k) ∙ length-append (decimal (n / 10)) (digit (n % 10) ∷ [])

pub digits_within : (places n : ℕ) → length (decimal_in places n) ≤ places
unfolding decimal_in
digits_within zero n = omega arith
digits_within (suc places) n = go (ltb n 10) (digits_within places (n / 10))
  where
    go : (b : Bool) → length (decimal_in places (n / 10)) ≤ places → length (cond b (digit n ∷ []) (decimal_in places (n / 10) ++ (digit (n % 10) ∷ []))) ≤ suc places
    go true ih = omega arith
    go false ih = rw length-append (omega arith)

pub digits_below : (p places n : ℕ) → n < 10 ^ suc p → length (decimal_in places n) ≤ suc p
unfolding decimal_in
digits_below p zero n h = omega arith
digits_below zero (suc places) n h = rw (lt-ltb n 10 (omega arith)) (omega arith)
digits_below (suc p) (suc places) n h = go (ltb n 10) (digits_below p places (n / 10) (omega arith))
  where
    go : (b : Bool) → length (decimal_in places (n / 10)) ≤ suc p → length (cond b (digit n ∷ []) (decimal_in places (n / 10) ++ (digit (n % 10) ∷ []))) ≤ suc (suc p)
    go true ih = omega arith
    go false ih = rw length-append (omega arith)
