-- What stores and copies leave of a buffer. Assumes nothing.
use mathlib.Core.Path.{◌≡◌, sym, ap, ap₂, ◌∙◌}
use mathlib.Core.List.{List, [], ◌∷◌, ◌++◌, append_assoc, append-nil}
use Prim.Native.Nat.{ℕ, suc, ◌+◌, ◌-◌, ◌≤◌, ◌<◌}
use native.Mathlib.Numerals.{add-one}
use native.Mathlib.Omega.{arith}
use lib.ListN.{length, get_or, take, drop, set, drop_of_length-le}
use lib.Seq.{length-take-le, set_split, take-suc, take_at, take-append-le, take-take, take-add, take-length, drop-append-add, drop-drop}
use borrow.Rule.Slice.PartMut.{put_mid, mid_of, Post-is}
use Rattle.buffer.specs.Copy.{whole}

-- a buffer that is as long as src has src alone
pub whole_full : (dst src : List ℕ) → length dst ≡ length src → whole dst src ≡ src
whole_full dst src h = ap (λ (p : List ℕ). src ++ p) (drop_of_length-le dst {i = length src} (omega (arith, h))) ∙ append-nil src

-- src, read from the start of a buffer that it was copied to
pub read_back : (old src x : List ℕ) → x ≡ whole old src → mid_of 0 (length src - 0) x ≡ src
read_back old src x e =
    let z : length src ≡ length src - 0 = omega arith in
    ap (take (length src - 0)) e ∙ take_at src (drop (length src) old) (length src - 0) z

-- dst with the first n bytes of src at its start
abbrev pub front : ℕ → List ℕ → List ℕ → List ℕ
front n dst src = take n src ++ drop n dst

module _ (dst src : List ℕ) where
  -- a part of x was lent and came back with src's bytes at their place; before it x has src's bytes, and after it dst's
  pub front_part : (x ys : List ℕ) (at e : ℕ) → at ≤ e → take at x ≡ take at src → drop e x ≡ drop e dst → ys ≡ mid_of at (e - at) src → put_mid at (e - at) x ys ≡ front e dst src
  front_part x ys at e l b a y =
      let k : at + (e - at) ≡ e = omega arith in
      ap₂ (λ (p q : List ℕ). p ++ q) b (ap₂ (λ (p q : List ℕ). p ++ q) y (Post-is at e x l ∙ a))
      ∙ sym (append_assoc (take at src) (take (e - at) (drop at src)) (drop e dst))
      ∙ ap (λ (p : List ℕ). p ++ drop e dst) (sym (take-add at (e - at) src) ∙ ap (λ (j : ℕ). take j src) k)

  pub front_all : (n : ℕ) → n ≡ length src → front n dst src ≡ whole dst src
  front_all n e = ap (λ (j : ℕ). front j dst src) e ∙ ap (λ (p : List ℕ). p ++ drop (length src) dst) (take-length src)

  module _ (n : ℕ) (h : n ≤ length src) where
    pub front_before : (at : ℕ) → at ≤ n → take at (front n dst src) ≡ take at src
    front_before at a = take-append-le at (take n src) (drop n dst) (omega (arith, length-take-le n src h)) ∙ take-take at n src a

    pub front_after : (k : ℕ) → n ≤ k → drop k (front n dst src) ≡ drop k dst
    front_after k a =
        let j : k ≡ length (take n src) + (k - n) = omega (arith, length-take-le n src h) in
        let i : n + (k - n) ≡ k = omega arith in
        ap (λ (m : ℕ). drop m (front n dst src)) j ∙ drop-append-add (take n src) (drop n dst) (k - n) ∙ drop-drop (k - n) n dst ∙ ap (λ (m : ℕ). drop m dst) i

  -- one byte more
  pub front_byte : (x : List ℕ) (n : ℕ) → x ≡ front n dst src → n < length src → length src ≤ length x → set x n (get_or src n 0) ≡ front (n + 1) dst src
  front_byte x n e l h =
      rw add-one
      (set_split x n (get_or src n 0) (omega arith)
      ∙ ap₂ (λ (p q : List ℕ). p ++ (get_or src n 0 ∷ q)) (ap (take n) e ∙ front_before n (omega arith) n (omega arith)) (ap (drop (suc n)) e ∙ front_after n (omega arith) (suc n) (omega arith))
      ∙ sym (append_assoc (take n src) (get_or src n 0 ∷ []) (drop (suc n) dst))
      ∙ ap (λ (p : List ℕ). p ++ drop (suc n) dst) (sym (take-suc src n 0 l)))
