-- For callers: what `copy` leaves of a buffer, and of the part of one that it is lent. Assumes nothing.
use mathlib.Core.Path.{◌≡◌, sym, ap, ap₂, ◌∙◌}
use mathlib.Core.List.{List, ◌++◌, append-nil, append_assoc}
use Prim.Native.Nat.{ℕ, ◌+◌, ◌-◌, ◌≤◌, ◌<◌}
use native.Mathlib.Omega.{arith}
use lib.ListN.{length, take, drop, length-append, length-drop}
use lib.Seq.{take_all, take_at, drop-append-add, drop-length, drop-drop}
use borrow.Author.Tests.{le-leb, lt-leb}
use borrow.Rule.Slice.PartMut.{put_mid, mid_of, Post-is}
use Rattle.buffer.specs.Copy.{whole, copied}

pub copied_fits : (dst src : List ℕ) → length src ≤ length dst → copied dst src ≡ whole dst src
unfolding copied
copied_fits dst src h = rw (le-leb (length src) (length dst) h)

pub copied_not : (dst src : List ℕ) → length dst < length src → copied dst src ≡ dst
unfolding copied
copied_not dst src h = rw (lt-leb (length src) (length dst) h)

-- ---- a part lent from a place to the end

-- what is lent is the rest
pub mid_rest : (a : ℕ) (xs : List ℕ) → mid_of a (length xs - a) xs ≡ drop a xs
mid_rest a xs = take_all (length xs - a) (drop a xs) (simp length-drop (omega arith))

-- and what comes back stands after what was before it
pub put_rest : (a : ℕ) (xs ys : List ℕ) → a ≤ length xs → put_mid a (length xs - a) xs ys ≡ take a xs ++ ys
put_rest a xs ys h = ap (λ (l : List ℕ). take a xs ++ (ys ++ l)) (Post-is a (length xs) xs h ∙ drop-length xs) ∙ ap (λ (l : List ℕ). take a xs ++ l) (append-nil ys)

-- the whole, after a copy into that part
pub put_copied : (a : ℕ) (xs ys src : List ℕ) → a + length src ≤ length xs → ys ≡ copied (mid_of a (length xs - a) xs) src
    → put_mid a (length xs - a) xs ys ≡ take a xs ++ (src ++ drop (a + length src) xs)
put_copied a xs ys src h e =
    let n : length src ≤ length (drop a xs) = simp length-drop (omega arith) in
    put_rest a xs ys (omega arith)
    ∙ ap (λ (l : List ℕ). take a xs ++ l)
    (e ∙ ap (λ (l : List ℕ). copied l src) (mid_rest a xs) ∙ copied_fits (drop a xs) src n ∙ ap (λ (l : List ℕ). src ++ l) (drop-drop (length src) a xs))

-- the whole, after a head was put at its start and a body copied behind it
pub put_both : (room head body x ys : List ℕ) (n : ℕ) → length head ≡ n → length body + n ≤ length room → x ≡ head ++ drop n room
    → ys ≡ copied (mid_of n (length x - n) x) body → put_mid n (length x - n) x ys ≡ copied room (head ++ body)
put_both room head body x ys n z h e f =
    let b : ℕ = length body in
    let l : length x ≡ n + (length room - n) = ap length e ∙ length-append head (drop n room) ∙ ap₂ (λ (j k : ℕ). j + k) z (length-drop n room) in
    let k : n + b ≡ length (head ++ body) = omega (arith, length-append head body) in
    put_copied n x ys body (omega arith) f
    ∙ ap₂ (λ (p q : List ℕ). p ++ (body ++ q)) (ap (take n) e ∙ take_at head (drop n room) n z) (ap (drop (n + b)) e ∙ ap (λ (j : ℕ). drop (j + b) (head ++ drop n room)) (sym z) ∙ drop-append-add head (drop n room) b ∙ drop-drop b n room)
    ∙ sym (append_assoc head body (drop (n + b) room))
    ∙ ap (λ (j : ℕ). (head ++ body) ++ drop j room) k
    ∙ sym (copied_fits room (head ++ body) (omega arith))
