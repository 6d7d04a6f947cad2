-- The route that a list begins with: its judgement, and its bytes. Assumes nothing.
use mathlib.Core.Path.{◌≡◌, refl, ap}
use mathlib.Core.Bool.{Bool, true, false, not}
use mathlib.Core.List.{List, [], ◌∷◌, ◌++◌}
use mathlib.Core.Option.{none, some}
use Prim.Native.Nat.{ℕ, zero, suc, ◌+◌, ◌-◌, ◌≤◌, ◌<◌}
use native.Mathlib.Omega.{arith}
use lib.Dec.{eqb}
use lib.ListN.{length, get_or, take, drop, length-append, length-drop}
use lib.Seq.{take_all, length-take-le}
use borrow.Author.Tests.{le-ltb}
use Rattle.options.specs.Kinds.{first32, width_bytes}
use Rattle.options.specs.Routes.{cleared, is_faulty_value, faulty_from, first_faulty, one_route, route_bytes}
use Rattle.route_theorems.proofs.Faulty.{Judged, is_right, is_short, is_wide, has_bits, one_judged, faulty_short, faulty_wide, faulty_here, faulty_next}
use Rattle.route_writer.specs.Measure.{faulty_at}

-- a part from a place to the end
pub take_rest : (s : List ℕ) (at : ℕ) → take (length s - at) (drop at s) ≡ drop at s
take_rest s at = take_all (length s - at) (drop at s) (simp length-drop (omega arith))

-- ---- The judgement

pub at_short : (p : List ℕ) → length p < 9 → faulty_at p ≡ true
at_short [] h = refl
at_short (w ∷ xs) h = faulty_short w xs (omega arith)

pub at_wide : (p : List ℕ) → 9 ≤ length p → 32 < get_or p 0 0 → faulty_at p ≡ true
at_wide [] h g = absurd (omega arith)
at_wide (w ∷ xs) h g = faulty_wide w xs g (omega arith)

pub at_bits : (p : List ℕ) → 9 ≤ length p → get_or p 0 0 ≤ 32 → faulty_at p ≡ not (eqb (cleared (get_or p 0 0) (first32 (drop 1 p))) (first32 (drop 1 p)))
unfolding is_faulty_value
at_bits [] h g = absurd (omega arith)
at_bits (w ∷ xs) h g = let l : 8 ≤ length xs = omega arith in rw (le-ltb (length xs) 8 l, le-ltb 32 w g)

-- ---- The first faulty one, from here on

-- a route is right here, and what is left is judged on
pub record Passed (k : ℕ) (p : List ℕ) : Type 0 where
  pub whole : 9 ≤ length p
  pub narrow : get_or p 0 0 ≤ 32
  pub on : faulty_from k 0 p ≡ faulty_from (suc k) 0 (drop 9 p)

pub faulty_is : (k : ℕ) (p : List ℕ) → 1 ≤ length p → faulty_at p ≡ true → faulty_from k 0 p ≡ some k
faulty_is k [] l e = absurd (omega arith)
faulty_is k (w ∷ xs) l e = faulty_here k w xs e

pub passed : (k : ℕ) (p : List ℕ) → 1 ≤ length p → faulty_at p ≡ false → Passed k p
passed k [] l e = absurd (omega arith)
passed k (w ∷ xs) l e = by (one_judged w xs)
  where
    clash : is_faulty_value w xs ≡ true → Passed k (w ∷ xs)
    clash f = let z : ◌≡◌ {A = ℕ} 0 1 = cc in absurd (omega arith)

    by : Judged w xs → Passed k (w ∷ xs)
    by (is_right f g h c) = record { whole = omega arith; narrow = h; on = faulty_next k w xs f g }
    by (is_short f g) = clash f
    by (is_wide f h) = clash f
    by (has_bits f c) = clash f

-- no faulty one is ahead
pub passed_none : (k : ℕ) (p : List ℕ) → 1 ≤ length p → faulty_from k 0 p ≡ none → Passed k p
passed_none k p l o = by (faulty_at p) refl
  where
    by : (b : Bool) → faulty_at p ≡ b → Passed k p
    by false e = passed k p l e
    by true e = let x = faulty_is k p l e in let z : ◌≡◌ {A = ℕ} 0 1 = cc in absurd (omega arith)

pub none_left : (k : ℕ) (p : List ℕ) → length p ≤ 0 → faulty_from k 0 p ≡ none
unfolding faulty_from
none_left k [] h = refl
none_left k (w ∷ xs) h = absurd (omega arith)

pub first_is : (s : List ℕ) → 1 ≤ length s → first_faulty s ≡ faulty_from 0 0 s
unfolding first_faulty
first_is [] h = absurd (omega arith)
first_is (w ∷ xs) h = refl

pub first_none : (s : List ℕ) → length s ≡ 0 → first_faulty s ≡ some 0
unfolding first_faulty
first_none [] h = refl
first_none (w ∷ xs) h = absurd (omega arith)

-- ---- The bytes

bytes_skip : (n : ℕ) (xs : List ℕ) → n ≤ length xs → route_bytes n xs ≡ route_bytes 0 (drop n xs)
unfolding route_bytes
bytes_skip zero xs h = refl
bytes_skip (suc n) [] h = absurd (omega arith)
bytes_skip (suc n) (x ∷ xs) h = bytes_skip n xs (omega arith)

pub bytes_none : (p : List ℕ) → length p ≤ 0 → route_bytes 0 p ≡ []
unfolding route_bytes
bytes_none [] h = refl
bytes_none (w ∷ xs) h = absurd (omega arith)

pub bytes_one : (p : List ℕ) → 9 ≤ length p → route_bytes 0 p ≡ one_route (get_or p 0 0) (drop 1 p) ++ route_bytes 0 (drop 9 p)
unfolding route_bytes
bytes_one [] h = absurd (omega arith)
bytes_one (w ∷ xs) h = ap (λ (r : List ℕ). one_route w xs ++ r) (bytes_skip 8 xs (omega arith))

pub one_length : (w : ℕ) (xs : List ℕ) → w ≤ 32 → 8 ≤ length xs → length (one_route w xs) ≡ width_bytes w + 5
one_length w xs g h =
    let l : 4 ≤ length (drop 4 xs) = simp length-drop (omega arith) in
    omega (arith, length-append (take (width_bytes w) xs) (take 4 (drop 4 xs)), length-take-le (width_bytes w) xs (omega arith), length-take-le 4 (drop 4 xs) l)

pub bytes_length : (p : List ℕ) → 9 ≤ length p → get_or p 0 0 ≤ 32 → length (route_bytes 0 p) ≡ width_bytes (get_or p 0 0) + 5 + length (route_bytes 0 (drop 9 p))
bytes_length p h g =
    let w : ℕ = get_or p 0 0 in
    let l : 8 ≤ length (drop 1 p) = simp length-drop (omega arith) in
    omega (arith, ap length (bytes_one p h), length-append (one_route w (drop 1 p)) (route_bytes 0 (drop 9 p)), one_length w (drop 1 p) g l)
