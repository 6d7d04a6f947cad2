-- The row of 121: its fault is the one that is met where a route is looked for. Assumes nothing.
use mathlib.Core.Path.{◌≡◌, refl, sym, ap, ◌∙◌}
use mathlib.Core.Bool.{true, false}
use mathlib.Core.List.{List, [], ◌∷◌, ◌++◌}
use mathlib.Core.Logic.{◌⊎◌, inl, inr}
use Prim.Native.Nat.{ℕ, zero, suc, ◌+◌, ◌-◌, ◌*◌, ◌/◌, ◌≤◌, ◌<◌}
use native.Mathlib.Omega.{arith}
use native.Mathlib.Decide.{dec_lt}
use lib.ListN.{length, take, drop, length-append, length-drop, take-append-drop}
use lib.Seq.{take_at, drop_at, drop-drop, drop-length, length-take-le}
use borrow.Author.Tests.{lt-ltb, le-ltb}
use Rattle.options.specs.Kinds.{width_bytes, behind, route_fault_value, first_fault_value, routes_fault_value}
use Rattle.options.specs.RouteData.{BytesOf, RouteAt, RouteBegins, at_start, behind_one, WideAt, CutAt}

-- ---- A route that stands, by the bytes at its place

pub bytes_of : (w : ℕ) → BytesOf w (width_bytes w)
bytes_of w = record { holds = omega arith; no_more = omega arith }

pub bytes_are : (w n : ℕ) → BytesOf w n → n ≡ width_bytes w
bytes_are w n b = omega arith

-- four bytes and more are four, and more
split : (n : ℕ) (xs : List ℕ) → xs ≡ take n xs ++ (take 4 (drop n xs) ++ drop 4 (drop n xs))
split n xs = rw (take-append-drop 4 (drop n xs), take-append-drop n xs)

-- a width that is not too wide, and all bytes behind it
pub stands : (d : List ℕ) (i w : ℕ) (xs : List ℕ) → drop i d ≡ w ∷ xs → w ≤ 32 → behind w ≤ length xs → RouteAt d i w (take (width_bytes w) xs) (take 4 (drop (width_bytes w) xs))
stands d i w xs e h l =
    let n : length (take (width_bytes w) xs) ≡ width_bytes w = length-take-le (width_bytes w) xs (omega arith) in
    let m : 4 ≤ length (drop (width_bytes w) xs) = simp length-drop (omega arith) in
    record {
      after = drop 4 (drop (width_bytes w) xs);
      reads = e ∙ ap (λ (ys : List ℕ). w ∷ ys) (split (width_bytes w) xs);
      narrow = h;
      to_bytes = rw n (bytes_of w);
      by_bytes = length-take-le 4 (drop (width_bytes w) xs) m;
    }

module _ {d : List ℕ} {i w : ℕ} {to by : List ℕ} (r : RouteAt d i w to by) where
  -- the bytes behind the width
  abbrev pub tail : List ℕ
  tail = to ++ (by ++ r.after)

  pub to_size : length to ≡ width_bytes w
  to_size = bytes_are w (length to) r.to_bytes

  pub tail_size : length tail ≡ length to + (4 + length r.after)
  tail_size = omega (arith, length-append to (by ++ r.after), length-append by r.after, r.by_bytes)

  pub all_there : behind w ≤ length tail
  all_there = omega (arith, tail_size, to_size)

  pub to_are : take (width_bytes w) tail ≡ to
  to_are = take_at to (by ++ r.after) (width_bytes w) to_size

  pub by_are : drop (width_bytes w) tail ≡ by ++ r.after
  by_are = drop_at to (by ++ r.after) (width_bytes w) to_size

  pub next_reads : drop (i + suc (length to + 4)) d ≡ drop (length to + 4) tail
  next_reads = rw (← drop-drop (suc (length to + 4)) i d, r.reads)

  pub within : i + suc (length to + 4) ≤ length d
  within = omega (arith, tail_size, simp length-drop at (ap length r.reads))

-- ---- The definition, by the bytes at a place

-- bytes that belong to the route before are passed over
pub fault_skip : (k : ℕ) (xs : List ℕ) → k ≤ length xs → routes_fault_value k xs ≡ routes_fault_value 0 (drop k xs)
unfolding routes_fault_value
fault_skip zero xs h = refl
fault_skip (suc k) [] h = absurd (omega arith)
fault_skip (suc k) (x ∷ xs) h = fault_skip k xs (omega arith)

-- one route
pub route_wide : (w : ℕ) (xs : List ℕ) → 32 < w → route_fault_value w xs ≡ 9
route_wide w xs h = rw (lt-ltb 32 w h)

pub route_cut : (w : ℕ) (xs : List ℕ) → w ≤ 32 → length xs < behind w → route_fault_value w xs ≡ 8
route_cut w xs h l = rw (le-ltb 32 w h, lt-ltb (length xs) (behind w) l)

pub route_right : (w : ℕ) (xs : List ℕ) → w ≤ 32 → behind w ≤ length xs → route_fault_value w xs ≡ 0
route_right w xs h l = rw (le-ltb 32 w h, le-ltb (length xs) (behind w) l)

-- and back
pub route_sound : (w : ℕ) (xs : List ℕ) → route_fault_value w xs ≡ 0 → (w ≤ 32) × (behind w ≤ length xs)
route_sound w xs e = by (dec_lt 32 w) (dec_lt (length xs) (behind w))
  where
    by : Dec (32 < w) → Dec (length xs < behind w) → (w ≤ 32) × (behind w ≤ length xs)
    by (yes h) x = absurd (omega (arith, e, route_wide w xs h))
    by (no h) (yes l) = absurd (omega (arith, e, route_cut w xs (omega arith) l))
    by (no h) (no l) = (omega arith, omega arith)

-- the first route's fault is the first
pub fault_first : (w : ℕ) (xs : List ℕ) (n : ℕ) → n ≡ route_fault_value w xs → (n ≡ 0 → ⊥) → routes_fault_value 0 (w ∷ xs) ≡ n
unfolding routes_fault_value
fault_first w xs zero e z = absurd (z refl)
fault_first w xs (suc n) e z = ap (λ (k : ℕ). first_fault_value k (routes_fault_value (behind w) xs)) (sym e)

pub fault_wide : (w : ℕ) (xs : List ℕ) → 32 < w → routes_fault_value 0 (w ∷ xs) ≡ 9
unfolding routes_fault_value
fault_wide w xs h = ap (λ (n : ℕ). first_fault_value n (routes_fault_value (behind w) xs)) (route_wide w xs h)

pub fault_cut : (w : ℕ) (xs : List ℕ) → w ≤ 32 → length xs < behind w → routes_fault_value 0 (w ∷ xs) ≡ 8
unfolding routes_fault_value
fault_cut w xs h l = ap (λ (n : ℕ). first_fault_value n (routes_fault_value (behind w) xs)) (route_cut w xs h l)

pub fault_next : (w : ℕ) (xs : List ℕ) → w ≤ 32 → behind w ≤ length xs → routes_fault_value 0 (w ∷ xs) ≡ routes_fault_value 0 (drop (behind w) xs)
unfolding routes_fault_value
fault_next w xs h l = ap (λ (n : ℕ). first_fault_value n (routes_fault_value (behind w) xs)) (route_right w xs h l) ∙ fault_skip (behind w) xs l

-- ---- What is met

-- behind a route that stands the judgement is the same
past : {d : List ℕ} {i w : ℕ} {to by : List ℕ} (r : RouteAt d i w to by) → routes_fault_value 0 (drop i d) ≡ routes_fault_value 0 (drop (i + suc (length to + 4)) d)
past {d} {i} {w} {to} {by} r =
    rw (r.reads, next_reads r, to_size r) (fault_next w (tail r) r.narrow (all_there r))

from_start : {d : List ℕ} {i : ℕ} → RouteBegins d i → routes_fault_value 0 d ≡ routes_fault_value 0 (drop i d)
from_start at_start = refl
from_start (behind_one b r) = from_start b ∙ past r

pub data Met (d : List ℕ) (f : ℕ) : Type 0 where
  all_right : f ≡ 0 → RouteBegins d (length d) → Met d f
  a_wide : {i : ℕ} → f ≡ 9 → RouteBegins d i → WideAt d i → Met d f
  a_cut : {i : ℕ} → f ≡ 8 → RouteBegins d i → CutAt d i → Met d f

module _ (d : List ℕ) where
  abbrev From : ℕ → Type 0
  From i = i ≤ length d → RouteBegins d i → Met d (routes_fault_value 0 (drop i d))

  ends : (i : ℕ) → drop i d ≡ [] → From i
  unfolding routes_fault_value
  ends i e l b =
      let n : i ≡ length d = omega (arith, simp length-drop at (ap length e)) in
      all_right (rw e) (rw n at b)

  turn : (i w : ℕ) (xs : List ℕ) → drop i d ≡ w ∷ xs → ((w ≤ 32) → behind w ≤ length xs → From (i + suc (length (take (width_bytes w) xs) + 4))) → From i
  turn i w xs e more l b = by_width (dec_lt 32 w)
    where
      by_size : (h : w ≤ 32) → Dec (length xs < behind w) → Met d (routes_fault_value 0 (drop i d))
      by_size h (yes c) =
          a_cut (rw e (fault_cut w xs h c)) b (record { width = w; after = xs; size = width_bytes w; reads = e; narrow = h; size_is = bytes_of w; cut = c })
      by_size h (no c) =
          let g : behind w ≤ length xs = omega arith in
          let r = stands d i w xs e h g in
          rw (past r) (more h g (within r) (behind_one b r))

      by_width : Dec (32 < w) → Met d (routes_fault_value 0 (drop i d))
      by_width (yes h) = a_wide (rw e (fault_wide w xs h)) b (record { width = w; after = xs; reads = e; wide = h })
      by_width (no h) = by_size (omega arith) (dec_lt (length xs) (behind w))

  -- from a place on, where it is known of every later one
  here : (i : ℕ) → ((j : ℕ) → i < j → From j) → (xs : List ℕ) → drop i d ≡ xs → From i
  here i more [] e = ends i e
  here i more (w ∷ xs) e = turn i w xs e (λ h g. more (i + suc (length (take (width_bytes w) xs) + 4)) (omega arith))

  -- with n bytes left at most
  met : (n i : ℕ) → length d - i ≤ n → From i
  met zero i h = ends i (none_left (drop i d) refl)
    where
      none_left : (xs : List ℕ) → drop i d ≡ xs → drop i d ≡ []
      none_left [] e = e
      none_left (x ∷ xs) e = absurd (omega (arith, simp length-drop at (ap length e)))
  met (suc n) i h = λ l b. here i (λ j g. met n j (omega arith)) (drop i d) refl l b

  pub whole : Met d (routes_fault_value 0 d)
  whole = met (length d) 0 (omega arith) (omega arith) at_start

-- ---- What is met is the fault

module _ (d : List ℕ) where
  pub wide_nine : {i : ℕ} → RouteBegins d i → WideAt d i → routes_fault_value 0 d ≡ 9
  wide_nine b w = from_start b ∙ rw w.reads (fault_wide w.width w.after w.wide)

  pub cut_eight : {i : ℕ} → RouteBegins d i → CutAt d i → routes_fault_value 0 d ≡ 8
  cut_eight b c =
      let n = bytes_are c.width c.size c.size_is in
      from_start b ∙ rw c.reads (fault_cut c.width c.after c.narrow (omega (arith, c.cut)))

  pub full_zero : RouteBegins d (length d) → routes_fault_value 0 d ≡ 0
  unfolding routes_fault_value
  full_zero b = from_start b ∙ rw (drop-length d)
