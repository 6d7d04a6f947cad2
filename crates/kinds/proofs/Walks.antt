-- What a walk from place i on sees: of a text from its end, of numbers and of addresses from the start. Assumes nothing.
use mathlib.Core.Path.{◌≡◌, refl, ap, ap₂, ◌∙◌}
use mathlib.Core.Bool.{Bool, true, false, cond, ◌&&◌}
use mathlib.Core.List.{List, [], ◌∷◌}
use Prim.Native.Nat.{ℕ, zero, suc, ◌+◌, ◌-◌, ◌≤◌, ◌<◌}
use native.Mathlib.Nat.{add-zero}
use native.Mathlib.Omega.{arith}
use borrow.Author.Tests.{le-leb, lt-leb, eq-eqb, ne_eqb}
use lib.ListN.{length, get_or, take, drop, length-drop, drop_of_length-le}
use lib.Seq.{take_all, get_or-drop, drop-drop, drop-cons}
use Rattle.std.specs.List.{list_all}
use Rattle.options.specs.Reading.{beyond, found, cut, record_of}
use Rattle.options.specs.SubOptions.{sub_options, fill_fault}
use Rattle.theorems.proofs.SubOptionRow.{past_head, past_data, stands_in}
use Rattle.options.specs.Kinds.{both, trimmed, longer, all_text, from_to_value, pair16, word32, first16, first32, numbers_of, addresses_of, rising, no_zero_first}

-- ---- The end of a text

longer_suc : (x n : ℕ) → longer x (suc n) ≡ suc (suc n)
longer_suc zero n = refl
longer_suc (suc x) n = refl

-- of zeros alone nothing is left
pub trim_none : (t : List ℕ) → ((k : ℕ) → k < length t → get_or t k 0 ≡ 0) → 0 ≡ trimmed t
unfolding trimmed
trim_none [] h = refl
trim_none (x ∷ xs) h =
    let z : x ≡ 0 = h 0 (omega arith) in
    rw (z, ← trim_none xs (λ k l. h (suc k) (omega arith)))

-- the last byte that is not zero ends the text
pub trim_last : (t : List ℕ) (i : ℕ) → i < length t → (get_or t i 0 ≡ 0 → ⊥) → ((k : ℕ) → i + 1 ≤ k → k < length t → get_or t k 0 ≡ 0) → i + 1 ≡ trimmed t
unfolding trimmed
trim_last [] i l n h = absurd (omega arith)
trim_last (zero ∷ xs) zero l n h = absurd (n refl)
trim_last (suc x ∷ xs) zero l n h = rw (← trim_none xs (λ k m. h (suc k) (omega arith) (omega arith)))
trim_last (x ∷ xs) (suc i) l n h =
    let e : suc i ≡ trimmed xs = omega (arith, trim_last xs i (omega arith) n (λ k a m. h (suc k) (omega arith) (omega arith))) in
    rw (← e, longer_suc x i) (omega arith)

longer_most : (x n : ℕ) → longer x n ≤ suc n
longer_most zero zero = omega arith
longer_most (suc x) zero = omega arith
longer_most zero (suc n) = omega arith
longer_most (suc x) (suc n) = omega arith

-- a text ends within its bytes
pub trimmed_within : (t : List ℕ) → trimmed t ≤ length t
unfolding trimmed
trimmed_within [] = omega arith
trimmed_within (x ∷ xs) = omega (arith, longer_most x (trimmed xs), trimmed_within xs)

-- ---- The bytes of a text

pub all_is_text : (xs : List ℕ) → list_all (from_to_value 1 127) xs ≡ all_text xs
unfolding all_text
all_is_text [] = refl
all_is_text (x ∷ xs) = rw (all_is_text xs) (both_is (from_to_value 1 127 x) (all_text xs))
  where
    both_is : (a b : Bool) → (a && b) ≡ both a b
    both_is true b = refl
    both_is false b = refl

-- ---- The numbers and the addresses from i on

numbers_none : (xs : List ℕ) → length xs < 2 → numbers_of xs ≡ []
unfolding numbers_of
numbers_none [] h = refl
numbers_none (a ∷ []) h = refl
numbers_none (a ∷ b ∷ xs) h = absurd (omega arith)

numbers_head : (xs : List ℕ) → 2 ≤ length xs → numbers_of xs ≡ first16 xs ∷ numbers_of (drop 2 xs)
unfolding numbers_of
numbers_head [] h = absurd (omega arith)
numbers_head (a ∷ []) h = absurd (omega arith)
numbers_head (a ∷ b ∷ xs) h = refl

addresses_none : (xs : List ℕ) → length xs < 4 → addresses_of xs ≡ []
unfolding addresses_of
addresses_none [] h = refl
addresses_none (a ∷ []) h = refl
addresses_none (a ∷ b ∷ []) h = refl
addresses_none (a ∷ b ∷ c ∷ []) h = refl
addresses_none (a ∷ b ∷ c ∷ d ∷ xs) h = absurd (omega arith)

addresses_head : (xs : List ℕ) → 4 ≤ length xs → addresses_of xs ≡ first32 xs ∷ addresses_of (drop 4 xs)
unfolding addresses_of
addresses_head [] h = absurd (omega arith)
addresses_head (a ∷ []) h = absurd (omega arith)
addresses_head (a ∷ b ∷ []) h = absurd (omega arith)
addresses_head (a ∷ b ∷ c ∷ []) h = absurd (omega arith)
addresses_head (a ∷ b ∷ c ∷ d ∷ xs) h = refl

zero_first : (x : ℕ) (xs : List ℕ) → x ≡ 0 → no_zero_first (x ∷ xs) ≡ false
unfolding no_zero_first
zero_first x [] h = rw (eq-eqb x 0 h)
zero_first x (y ∷ xs) h = rw (eq-eqb x 0 h)

module _ (f : List ℕ) (i : ℕ) where
  abbrev pub half : ℕ
  half = pair16 (get_or f i 0) (get_or f (i + 1) 0)

  abbrev pub whole : ℕ
  whole = word32 (get_or f i 0) (get_or f (i + 1) 0) (get_or f (i + 2) 0) (get_or f (i + 3) 0)

  left : length (drop i f) ≡ length f - i
  left = length-drop i f

  numbers_next : 2 ≤ length f - i → numbers_of (drop i f) ≡ half ∷ numbers_of (drop (i + 2) f)
  numbers_next g = numbers_head (drop i f) (omega (arith, left)) ∙ simp (get_or-drop, drop-drop, add-zero)

  addresses_next : 4 ≤ length f - i → addresses_of (drop i f) ≡ whole ∷ addresses_of (drop (i + 4) f)
  addresses_next g = addresses_head (drop i f) (omega (arith, left)) ∙ simp (get_or-drop, drop-drop, add-zero)

  -- the rest never falls, the first at least p
  module _ (p : ℕ) where
    pub rise_end : length f - i < 2 → rising p (numbers_of (drop i f)) ≡ true
    unfolding rising
    rise_end h = rw (numbers_none (drop i f) (omega (arith, left)))

    pub rise_falls : 2 ≤ length f - i → half < p → rising p (numbers_of (drop i f)) ≡ false
    unfolding rising
    rise_falls g h = rw (numbers_next g, lt-leb p half h)

    pub rise_next : 2 ≤ length f - i → p ≤ half → rising p (numbers_of (drop i f)) ≡ rising half (numbers_of (drop (i + 2) f))
    unfolding rising
    rise_next g h = rw (numbers_next g, le-leb p half h)

  -- no first address of the pairs of the rest is 0
  pub first_end : length f - i < 4 → no_zero_first (addresses_of (drop i f)) ≡ true
  unfolding no_zero_first
  first_end h = rw (addresses_none (drop i f) (omega (arith, left)))

  pub first_zero : 4 ≤ length f - i → whole ≡ 0 → no_zero_first (addresses_of (drop i f)) ≡ false
  first_zero g h = rw (addresses_next g) (zero_first whole (addresses_of (drop (i + 4) f)) h)

  pub first_last : 4 ≤ length f - i → length f - i < 8 → (whole ≡ 0 → ⊥) → no_zero_first (addresses_of (drop i f)) ≡ true
  unfolding no_zero_first
  first_last g l h = rw (addresses_next g, addresses_none (drop (i + 4) f) (omega (arith, length-drop (i + 4) f)), ne_eqb whole 0 h)

pub first_next : (f : List ℕ) (i : ℕ) → 8 ≤ length f - i → (whole f i ≡ 0 → ⊥)
    → no_zero_first (addresses_of (drop i f)) ≡ no_zero_first (addresses_of (drop (i + 8) f))
unfolding no_zero_first
first_next f i g h =
    let e : i + 4 + 4 ≡ i + 8 = omega arith in
    rw (addresses_next f i (omega arith), addresses_next f (i + 4) (omega arith), ne_eqb (whole f i) 0 h, e)

-- a part that is lent to its end
pub rest_is : (f : List ℕ) (n m : ℕ) → length f ≤ n + m → take m (drop n f) ≡ drop n f
rest_is f n m h = take_all m (drop n f) (omega (arith, length-drop n f))

pub rest_twice : (f : List ℕ) (m k : ℕ) → length f ≤ 4 + m → length f ≤ 8 + k → take k (drop 4 (take m (drop 4 f))) ≡ drop 8 f
rest_twice f m k h l = ap (λ (xs : List ℕ). take k (drop 4 xs)) (rest_is f 4 m h) ∙ ap (take k) (drop-drop 4 4 f) ∙ rest_is f 8 k l

pub rest_behind : (f : List ℕ) (n m k : ℕ) → length f ≤ 2 + m → length f ≤ 2 + n + k → take k (drop n (take m (drop 2 f))) ≡ drop (n + 2) f
rest_behind f n m k h l =
    let e : 2 + n ≡ n + 2 = omega arith in
    ap (λ (xs : List ℕ). take k (drop n xs)) (rest_is f 2 m h) ∙ ap (take k) (drop-drop n 2 f) ∙ rest_is f (2 + n) k l ∙ ap (λ (j : ℕ). drop j f) e

-- ---- The sub-options from a place on

-- their offsets change nothing
shift : (xs : List ℕ) (i j skip : ℕ) → fill_fault (sub_options i skip xs) ≡ fill_fault (sub_options j skip xs)
unfolding sub_options fill_fault
shift [] i j zero = refl
shift [] i j (suc k) = refl
shift (b ∷ bs) i j (suc k) = shift bs (i + 1) (j + 1) k
shift (b ∷ bs) i j zero = go (cut bs) (shift bs (i + 1) (j + 1) (suc (get_or bs 0 0)))
  where
    go : (c : Bool) → fill_fault (sub_options (i + 1) (suc (get_or bs 0 0)) bs) ≡ fill_fault (sub_options (j + 1) (suc (get_or bs 0 0)) bs)
        → fill_fault (cond c (beyond i) (found i (record_of b bs) (sub_options (i + 1) (suc (get_or bs 0 0)) bs))) ≡ fill_fault (cond c (beyond j) (found j (record_of b bs) (sub_options (j + 1) (suc (get_or bs 0 0)) bs)))
    go true e = refl
    go false e = e

pub subs_end : (d : List ℕ) (at : ℕ) → length d ≤ at → fill_fault (sub_options at 0 (drop at d)) ≡ 0
unfolding sub_options fill_fault
subs_end d at h = rw (drop_of_length-le d {i = at} h)

module _ (d : List ℕ) (at : ℕ) (h : at < length d) where
  sub_head : drop at d ≡ get_or d at 0 ∷ drop (suc at) d
  sub_head = drop-cons d at 0 h

  pub subs_cut : length d - at < 2 → fill_fault (sub_options at 0 (drop at d)) ≡ 8
  unfolding fill_fault
  subs_cut l = rw (sub_head, drop_of_length-le d {i = suc at} (omega arith), past_head at (get_or d at 0))

module _ (d : List ℕ) (at : ℕ) (h : at + 1 < length d) where
  abbrev size : ℕ
  size = get_or d (at + 1) 0

  sub_heads : drop at d ≡ get_or d at 0 ∷ size ∷ drop (at + 2) d
  sub_heads =
      let e : suc at ≡ at + 1 = omega arith in
      let f : suc (at + 1) ≡ at + 2 = omega arith in
      drop-cons d at 0 (omega arith) ∙ ap (λ (xs : List ℕ). get_or d at 0 ∷ xs) (ap (λ (i : ℕ). drop i d) e ∙ drop-cons d (at + 1) 0 h ∙ ap (λ (i : ℕ). size ∷ drop i d) f)

  behind_head : length (drop (at + 2) d) ≡ length d - (at + 2)
  behind_head = length-drop (at + 2) d

  pub subs_past : length d - at < size + 2 → fill_fault (sub_options at 0 (drop at d)) ≡ 8
  unfolding fill_fault
  subs_past l = rw (sub_heads, past_data at (get_or d at 0) size (drop (at + 2) d) (omega (arith, behind_head)))

  pub subs_next : size + 2 ≤ length d - at → fill_fault (sub_options at 0 (drop at d)) ≡ fill_fault (sub_options (at + (size + 2)) 0 (drop (at + (size + 2)) d))
  unfolding fill_fault
  subs_next l =
      let e : at + (2 + size) ≡ at + (size + 2) = omega arith in
      let f : at + 2 + size ≡ at + (size + 2) = omega arith in
      let g : drop size (drop (at + 2) d) ≡ drop (at + (size + 2)) d = drop-drop size (at + 2) d ∙ ap (λ (i : ℕ). drop i d) f in
      ap (λ (xs : List ℕ). fill_fault (sub_options at 0 xs)) sub_heads
      ∙ ap fill_fault (stands_in at (get_or d at 0) size (drop (at + 2) d) (omega (arith, behind_head)))
      ∙ ap₂ (λ (i : ℕ) (xs : List ℕ). fill_fault (sub_options i 0 xs)) e g

  pub subs_rest : size + 2 ≤ length d - at → fill_fault (sub_options at 0 (drop at d)) ≡ fill_fault (sub_options 0 0 (drop (at + (size + 2)) d))
  subs_rest l = subs_next l ∙ shift (drop (at + (size + 2)) d) (at + (size + 2)) 0 0
