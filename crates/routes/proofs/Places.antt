-- The walk's step, by the bytes at a place. Assumes nothing.
use mathlib.Core.Path.{◌≡◌, refl, sym, ap, ◌∙◌}
use mathlib.Core.List.{List, [], ◌∷◌}
use Prim.Native.Nat.{ℕ, zero, suc, ◌+◌, ◌-◌, ◌*◌, ◌/◌, ◌^◌, ◌≤◌, ◌<◌}
use native.Mathlib.Omega.{arith}
use lib.ListN.{length, get_or, take, drop, length-drop}
use lib.Pow.{shr-shr}
use lib.Seq.{drop-cons, drop-drop, get_or-drop, get_or-take}
use Rattle.options.specs.Kinds.{first32, width_bytes, behind, route_fault_value}
use Rattle.options.specs.Routes.{Route, cleared, route_in, RouteStep, next, done, unless_faulty, route_here, route_step}
use Rattle.route_data.specs.Route.{fault_here}
use Rattle.theorems.proofs.RouteRow.{route_sound}
use Rattle.route_theorems.proofs.Steps.{step_next}

-- a fault, or no route, is done
pub step_faulty : (d : List ℕ) (at n : ℕ) → n ≡ fault_here (drop at d) → (n ≡ 0 → ⊥) → route_step d at ≡ done
unfolding route_step
step_faulty d at n e z = by (drop at d) e
  where
    stops : (k : ℕ) (s : RouteStep) → n ≡ k → unless_faulty k s ≡ done
    stops zero s q = absurd (z q)
    stops (suc k) s q = refl

    by : (xs : List ℕ) → n ≡ fault_here xs → route_here at xs ≡ done
    by [] q = refl
    by (w ∷ xs) q = stops (route_fault_value w xs) (next (route_in w xs) (at + suc (behind w))) q

-- a step that gives a route is taken within the data, and leads on
pub step_on : (d : List ℕ) (at : ℕ) (q : Route) (k : ℕ) → route_step d at ≡ next q k → (at < length d) × (at < k)
unfolding route_step
step_on d at q k e = by (drop at d) refl e
  where
    right : (n : ℕ) (r : Route) (j : ℕ) → unless_faulty n (next r j) ≡ next q k → j ≡ k
    right zero r j g = cc
    right (suc n) r j g = cc

    by : (xs : List ℕ) → drop at d ≡ xs → route_here at xs ≡ next q k → (at < length d) × (at < k)
    by [] h g = cc
    by (w ∷ xs) h g =
        let j : at + suc (behind w) ≡ k = right (route_fault_value w xs) (route_in w xs) (at + suc (behind w)) g in
        (omega (arith, simp length-drop at (ap length h)), omega arith)

-- a right route is within the data
pub step_within : (d : List ℕ) (at : ℕ) → fault_here (drop at d) ≡ 0 → at < length d
step_within d at e = by (drop at d) refl e
  where
    by : (xs : List ℕ) → drop at d ≡ xs → fault_here xs ≡ 0 → at < length d
    by [] q z = absurd (omega (arith, z))
    by (w ∷ xs) q z = omega (arith, simp length-drop at (ap length q))

-- four bytes are enough for a number of 32 bits
pub first_four : (xs : List ℕ) → first32 (take 4 xs) ≡ first32 xs
first_four xs = rw (get_or-take 4 xs 0 0 (omega arith), get_or-take 4 xs 1 0 (omega arith), get_or-take 4 xs 2 0 (omega arith), get_or-take 4 xs 3 0 (omega arith))

-- where the bits from m on are the same, those are that a width leaves
same_above : (w x y m : ℕ) → m ≤ 32 - w → x / 2 ^ m ≡ y / 2 ^ m → cleared w x ≡ cleared w y
same_above w x y m h e =
    let s : m + (32 - w - m) ≡ 32 - w = omega arith in
    let q : x / 2 ^ (32 - w) ≡ y / 2 ^ (32 - w) =
    ap (λ (k : ℕ). x / 2 ^ k) (sym s) ∙ sym (shr-shr x m (32 - w - m)) ∙ ap (λ (z : ℕ). z / 2 ^ (32 - w - m)) e ∙ shr-shr y m (32 - w - m) ∙ ap (λ (k : ℕ). y / 2 ^ k) s in
    ap (λ (z : ℕ). z * 2 ^ (32 - w)) q

-- the bytes that a width does not reach are cleared
pub four_read : (w n : ℕ) (xs : List ℕ) → w ≤ 8 * n → n ≤ 4 → 4 ≤ length xs → ((i : ℕ) → get_or xs i 0 < 256) → cleared w (first32 (take n xs)) ≡ cleared w (first32 xs)
four_read w n [] h l g b = absurd (omega arith)
four_read w n (a ∷ []) h l g b = absurd (omega arith)
four_read w n (a ∷ c ∷ []) h l g b = absurd (omega arith)
four_read w n (a ∷ c ∷ e ∷ []) h l g b = absurd (omega arith)
four_read w zero (a ∷ c ∷ e ∷ f ∷ xs) h l g b = same_above w 0 (first32 (a ∷ c ∷ e ∷ f ∷ xs)) 32 (omega arith) (omega (arith, b 0, b 1, b 2, b 3))
four_read w (suc zero) (a ∷ c ∷ e ∷ f ∷ xs) h l g b = same_above w (first32 (a ∷ [])) (first32 (a ∷ c ∷ e ∷ f ∷ xs)) 24 (omega arith) (omega (arith, b 1, b 2, b 3))
four_read w (suc (suc zero)) (a ∷ c ∷ e ∷ f ∷ xs) h l g b = same_above w (first32 (a ∷ c ∷ [])) (first32 (a ∷ c ∷ e ∷ f ∷ xs)) 16 (omega arith) (omega (arith, b 2, b 3))
four_read w (suc (suc (suc zero))) (a ∷ c ∷ e ∷ f ∷ xs) h l g b = same_above w (first32 (a ∷ c ∷ e ∷ [])) (first32 (a ∷ c ∷ e ∷ f ∷ xs)) 8 (omega arith) (omega (arith, b 3))
four_read w (suc (suc (suc (suc zero)))) (a ∷ c ∷ e ∷ f ∷ xs) h l g b = refl
four_read w (suc (suc (suc (suc (suc n))))) (a ∷ c ∷ e ∷ f ∷ xs) h l g b = absurd (omega arith)

module _ (d : List ℕ) (at : ℕ) (h : at < length d) (e : fault_here (drop at d) ≡ 0) where
  abbrev w : ℕ
  w = get_or d at 0

  head : drop at d ≡ w ∷ drop (suc at) d
  head = drop-cons d at 0 h

  sound : (w ≤ 32) × (behind w ≤ length (drop (suc at) d))
  sound = route_sound w (drop (suc at) d) (rw head at e)

  -- n bytes of destination; four are read
  pub step_right : (n : ℕ) → n ≡ width_bytes w → ((i : ℕ) → get_or d i 0 < 256)
      → route_step d at
      ≡ next (record { destination = cleared w (first32 (take (at + 1 + 4 - (at + 1)) (drop (at + 1) d))); width = w; router = first32 (take (at + 1 + n + 4 - (at + 1 + n)) (drop (at + 1 + n) d)) })
      (at + 1 + n + 4)
  unfolding route_in
  step_right n q bytes =
      let f : at + 1 ≡ suc at = omega arith in
      let k : suc at + 4 - suc at ≡ 4 = omega arith in
      let p : suc at + n + 4 ≡ at + suc (behind w) = omega arith in
      let j : suc at + n + 4 - (suc at + n) ≡ 4 = omega arith in
      let l : 4 ≤ length (drop (suc at) d) = omega (arith, sound.1) in
      let to : cleared w (first32 (take (width_bytes w) (drop (suc at) d))) ≡ cleared w (first32 (drop (suc at) d)) =
      four_read w (width_bytes w) (drop (suc at) d) (omega arith) (omega (arith, sound.0)) l (λ i. rw (get_or-drop (suc at) d i 0) (bytes (suc at + i))) in
      step_next d at w (drop (suc at) d) head sound.0 sound.1 ∙ rw (f, k, j, p, first_four (drop (suc at) d), first_four (drop (suc at + n) d), to, q, drop-drop)
