-- The laws of `parse` at an offset of a field, as a loop reads it. Assumes nothing.
use mathlib.Core.Path.{◌≡◌, refl, ap, ◌∙◌}
use mathlib.Core.List.{List, [], ◌∷◌}
use Prim.Native.Nat.{ℕ, zero, suc, ◌+◌, ◌≤◌, ◌<◌}
use native.Mathlib.Nat.{le_of_suc-le-suc, not-suc-le-zero}
use native.Mathlib.Omega.{arith}
use lib.ListN.{length, get_or, take, drop, length-drop, drop_of_length-le}
use lib.Seq.{drop-cons, drop-drop, length-take-le}
use borrow.Author.Tests.{eq-eqb, ne_eqb, lt-ltb, le-ltb}
use Rattle.options.specs.Reading.{Parse, ended, ran_out_value, beyond, found, parse}
use Rattle.wire.specs.Walk.{item_at}

-- passing n bytes of data
pub parse_skip : (n : ℕ) (ys : List ℕ) (at : ℕ) → n ≤ length ys → parse at n ys ≡ parse (at + n) 0 (drop n ys)
unfolding parse
parse_skip zero ys at h = ap (λ (a : ℕ). parse a 0 ys) (omega arith)
parse_skip (suc n) [] at h = absurd (not-suc-le-zero h)
parse_skip (suc n) (y ∷ ys) at h =
    parse_skip n ys (at + 1) (le_of_suc-le-suc h) ∙ ap (λ (a : ℕ). parse a 0 (drop n ys)) (omega arith)

-- what a field holds from the offset i on
abbrev pub rest : List ℕ → ℕ → Parse
rest f i = parse i 0 (drop i f)

pub rest_none : (f : List ℕ) (i : ℕ) → length f ≤ i → rest f i ≡ ran_out_value i
unfolding parse
rest_none f i h = rw (drop_of_length-le f h) refl

-- what stands at the head, by the tests on it
pub head_pad : (x : ℕ) (xs : List ℕ) (at : ℕ) → x ≡ 0 → parse at 0 (x ∷ xs) ≡ parse (at + 1) 0 xs
unfolding parse
head_pad x xs at e = rw (eq-eqb x 0 e)

head_end : (x : ℕ) (xs : List ℕ) (at : ℕ) → x ≡ 255 → parse at 0 (x ∷ xs) ≡ ended
unfolding parse
head_end x xs at e = rw (ne_eqb x 0 (omega arith), eq-eqb x 255 e)

head_last : (x at : ℕ) → (x ≡ 0 → ⊥) → (x ≡ 255 → ⊥) → parse at 0 (x ∷ []) ≡ beyond at
unfolding parse
head_last x at z e = rw (ne_eqb x 0 z, ne_eqb x 255 e)

head_long : (x n : ℕ) (ys : List ℕ) (at : ℕ) → (x ≡ 0 → ⊥) → (x ≡ 255 → ⊥) → length ys < n → parse at 0 (x ∷ n ∷ ys) ≡ beyond at
unfolding parse
head_long x n ys at z e h = rw (ne_eqb x 0 z, ne_eqb x 255 e, lt-ltb (length ys) n h)

head_found : (x n : ℕ) (ys : List ℕ) (at : ℕ) → (x ≡ 0 → ⊥) → (x ≡ 255 → ⊥) → n ≤ length ys
    → parse at 0 (x ∷ n ∷ ys) ≡ found at (record { tag = x; body = take n ys }) (parse (at + 2 + n) 0 (drop n ys))
unfolding parse
head_found x n ys at z e h =
    let q : at + 1 + 1 ≡ at + 2 = omega arith in
    rw (ne_eqb x 0 z, ne_eqb x 255 e, le-ltb (length ys) n h)
    (ap (λ (p : Parse). found at (record { tag = x; body = take n ys }) p) (parse_skip n ys (at + 1 + 1) h ∙ ap (λ (a : ℕ). parse (a + n) 0 (drop n ys)) q))

module _ (f : List ℕ) (i : ℕ) (h : i < length f) where
  pub rest_pad : get_or f i 0 ≡ 0 → rest f i ≡ rest f (i + 1)
  rest_pad e =
      let p : suc i ≡ i + 1 = omega arith in
      rw (drop-cons f i 0 h) (head_pad (get_or f i 0) (drop (suc i) f) i e ∙ cc)

  pub rest_end : get_or f i 0 ≡ 255 → rest f i ≡ ended
  rest_end e = rw (drop-cons f i 0 h) (head_end (get_or f i 0) (drop (suc i) f) i e)

  module _ (z : get_or f i 0 ≡ 0 → ⊥) (e : get_or f i 0 ≡ 255 → ⊥) where
    pub rest_last : length f ≤ i + 1 → rest f i ≡ beyond i
    rest_last l =
        let l' : length f ≤ suc i = omega arith in
        rw (drop-cons f i 0 h, drop_of_length-le f l') (head_last (get_or f i 0) i z e)

    module _ (g : i + 1 < length f) where
      pub two : drop i f ≡ get_or f i 0 ∷ get_or f (i + 1) 0 ∷ drop (i + 2) f
      two =
          let k : suc i < length f = omega arith in
          let p : suc i ≡ i + 1 = omega arith in
          let q : suc (suc i) ≡ i + 2 = omega arith in
          cc (drop-cons f i 0 h, drop-cons f (suc i) 0 k)

      pub rest_long : length f < i + 2 + get_or f (i + 1) 0 → rest f i ≡ beyond i
      rest_long l = rw two (head_long (get_or f i 0) (get_or f (i + 1) 0) (drop (i + 2) f) i z e (rw length-drop (omega arith)))

      pub rest_found : i + 2 + get_or f (i + 1) 0 ≤ length f
          → rest f i ≡ found i (item_at (get_or f i 0) (get_or f (i + 1) 0) f i) (rest f (i + 2 + get_or f (i + 1) 0))
      rest_found l =
          rw two
          (head_found (get_or f i 0) (get_or f (i + 1) 0) (drop (i + 2) f) i z e (rw length-drop (omega arith))
          ∙ ap (λ (p : Parse). found i (item_at (get_or f i 0) (get_or f (i + 1) 0) f i) p)
          (ap (λ (l : List ℕ). parse (i + 2 + get_or f (i + 1) 0) 0 l) (drop-drop (get_or f (i + 1) 0) (i + 2) f)))

pub body_length : (f : List ℕ) (i n : ℕ) → i + 2 + n ≤ length f → length (take n (drop (i + 2) f)) ≡ n
body_length f i n h = length-take-le n (drop (i + 2) f) (rw length-drop (omega arith))
