-- FOR CALLERS: bytes written one after another into a lent buffer. Assumes nothing.
use mathlib.Core.Path.{◌≡◌, refl, sym, ap, ap₂, ◌∙◌}
use mathlib.Core.List.{List, [], ◌∷◌, ◌++◌, append_assoc, append-nil}
use Prim.Native.Nat.{ℕ, suc, ◌+◌, ◌-◌, ◌≤◌, ◌<◌}
use native.Mathlib.Nat.{add-zero}
use native.Mathlib.Numerals.{add-one}
use native.Mathlib.Omega.{arith}
use native.Mathlib.Decide.{dec_lt}
use lib.ListN.{length, take, drop, set, length-append, length-drop, take-append-drop, drop_of_length-le}
use lib.Seq.{length-take-le, take_all, take_at, drop_at, drop-drop, set_split, sets-eq}
use borrow.Rule.Slice.PartMut.{put_mid, mid_of, mid_len, Post-is}
use Rattle.buffer.specs.Copy.{copied}
use Rattle.buffer.specs.Written.{laid, Written}
use Rattle.buffer.proofs.Copied.{copied_fits}

-- ---- what is laid over a buffer

pub laid_none : (b : List ℕ) (at : ℕ) → laid b at [] ≡ b
laid_none b at = rw add-zero (take-append-drop at b)

pub laid_length : (b : List ℕ) (at : ℕ) (xs : List ℕ) → at + length xs ≤ length b → length (laid b at xs) ≡ length b
laid_length b at xs h =
    omega (arith, length-append (take at b) (xs ++ drop (at + length xs) b), length-append xs (drop (at + length xs) b), length-drop (at + length xs) b, length-take-le at b (omega arith))

-- past the end of a buffer it goes behind it
laid_past : (b : List ℕ) (at : ℕ) (xs : List ℕ) → length b ≤ at → laid b at xs ≡ b ++ xs
laid_past b at xs h =
    let e : drop (at + length xs) b ≡ [] = drop_of_length-le b {i = at + length xs} (omega arith) in
    ap₂ (λ (p q : List ℕ). p ++ (xs ++ q)) (take_all at b h) e ∙ ap (λ (l : List ℕ). b ++ l) (append-nil xs)

-- what is laid behind what was laid is laid with it
pub laid_laid : (b : List ℕ) (at : ℕ) (xs ys : List ℕ) → laid (laid b at xs) (at + length xs) ys ≡ laid b at (xs ++ ys)
laid_laid b at xs ys = go (dec_lt at (length b))
  where
    go : Dec (at < length b) → laid (laid b at xs) (at + length xs) ys ≡ laid b at (xs ++ ys)
    go (yes h) =
        let k : ℕ = at + length xs in
        let e : laid b at xs ≡ (take at b ++ xs) ++ drop k b = sym (append_assoc (take at b) xs (drop k b)) in
        let n : length (take at b ++ xs) ≡ k = length-append (take at b) xs ∙ ap (λ (j : ℕ). j + length xs) (length-take-le at b (omega arith)) in
        let front : take k (laid b at xs) ≡ take at b ++ xs = ap (take k) e ∙ take_at (take at b ++ xs) (drop k b) k n in
        let back : drop (k + length ys) (laid b at xs) ≡ drop (k + length ys) b =
        sym (drop-drop (length ys) k (laid b at xs)) ∙ ap (drop (length ys)) (ap (drop k) e ∙ drop_at (take at b ++ xs) (drop k b) k n) ∙ drop-drop (length ys) k b in
        let w : k + length ys ≡ at + length (xs ++ ys) = rw length-append (omega arith) in
        ap₂ (λ (p q : List ℕ). p ++ (ys ++ q)) front (back ∙ ap (λ (j : ℕ). drop j b) w)
        ∙ append_assoc (take at b) xs (ys ++ drop (at + length (xs ++ ys)) b)
        ∙ ap (λ (l : List ℕ). take at b ++ l) (sym (append_assoc xs ys (drop (at + length (xs ++ ys)) b)))
    go (no h) =
        let l : length b ≤ at = omega arith in
        ap (λ (x : List ℕ). laid x (at + length xs) ys) (laid_past b at xs l)
        ∙ laid_past (b ++ xs) (at + length xs) ys (rw length-append (omega arith))
        ∙ append_assoc b xs ys
        ∙ sym (laid_past b at (xs ++ ys) l)

-- three bytes stored one after another
pub laid_three : (b : List ℕ) (at x y z : ℕ) → at + 3 ≤ length b → set (set (set b at x) (at + 1) y) (at + 2) z ≡ laid b at (x ∷ y ∷ z ∷ [])
laid_three b at x y z h =
    let p : at + 1 ≡ suc at = omega arith in
    let q : at + 2 ≡ suc (suc at) = omega arith in
    rw (p, q) (sets-eq (x ∷ y ∷ z ∷ []) b at h ∙ append_assoc (take at b) (x ∷ y ∷ z ∷ []) (drop (at + 3) b))

-- a copy into a part that is as long as what is copied
pub laid_copied : (b : List ℕ) (at e : ℕ) (ys src : List ℕ) → e ≡ at + length src → e ≤ length b → ys ≡ copied (mid_of at (e - at) b) src → put_mid at (e - at) b ys ≡ laid b at src
laid_copied b at e ys src q h y =
    let n : length (mid_of at (e - at) b) ≡ e - at = mid_len at e b h in
    let l : length (mid_of at (e - at) b) ≤ length src = omega arith in
    let z : drop (length src) (mid_of at (e - at) b) ≡ [] = drop_of_length-le (mid_of at (e - at) b) l in
    let s : ys ≡ src = y ∙ copied_fits (mid_of at (e - at) b) src (omega arith) ∙ ap (λ (l : List ℕ). src ++ l) z ∙ append-nil src in
    ap (λ (l : List ℕ). take at b ++ (l ++ drop (e - at) (drop at b))) s
    ∙ ap (λ (l : List ℕ). take at b ++ (src ++ l)) (Post-is at e b (omega arith) ∙ ap (λ (k : ℕ). drop k b) q)

-- ---- what is written

pub written_none : (b : List ℕ) (at : ℕ) → Written b at [] at b
written_none b at = record { next = sym (add-zero at); buffer = sym (laid_none b at) }

pub written_byte : (b : List ℕ) (at x : ℕ) → at < length b → Written b at (x ∷ []) (at + 1) (set b at x)
written_byte b at x h = record { next = refl; buffer = rw add-one (set_split b at x h) }

module _ {b : List ℕ} {at : ℕ} where
  pub written_as : {xs ys a : List ℕ} {r : ℕ} → xs ≡ ys → Written b at xs r a → Written b at ys r a
  written_as e p = rw (← e) p

  -- one after another
  pub written_more : {xs ys a c : List ℕ} {r s : ℕ} → Written b at xs r a → Written a r ys s c → Written b at (xs ++ ys) s c
  written_more {xs} {ys} p q =
      record {
        next = q.next ∙ rw length-append (omega (arith, p.next));
        buffer = q.buffer ∙ ap₂ (λ (l : List ℕ) (k : ℕ). laid l k ys) p.buffer p.next ∙ laid_laid b at xs ys;
      }

-- at the front of a buffer
pub written_front : {b xs a : List ℕ} {r : ℕ} → Written b 0 xs r a → (r ≡ length xs) × (a ≡ xs ++ drop (length xs) b)
written_front {b} {xs} p =
    let z : 0 + length xs ≡ length xs = omega arith in
    (p.next ∙ z, p.buffer ∙ ap (λ (k : ℕ). xs ++ drop k b) z)
