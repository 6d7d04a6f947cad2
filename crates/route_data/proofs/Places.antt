-- The routes from a place on. Assumes nothing.
use mathlib.Core.Path.{◌≡◌}
use mathlib.Core.List.{List, ◌∷◌}
use Prim.Native.Nat.{ℕ, suc, ◌+◌, ◌-◌, ◌≤◌, ◌<◌}
use native.Mathlib.Omega.{arith}
use lib.ListN.{length, get_or, drop, length-drop, drop_of_length-le}
use lib.Seq.{drop-drop, drop-cons}
use Rattle.options.specs.Kinds.{width_bytes, behind, routes_fault_value}
use Rattle.theorems.proofs.RouteRow.{route_wide, route_cut, route_right, route_sound, fault_first, fault_next}
use Rattle.refusal.specs.Refused.{fault_number}
use Rattle.refusal.specs.declared.Fault.{Fault}
use Rattle.refusal.specs.declared.Fault.TheVariants.{Length, Value}
use Rattle.route_data.specs.Route.{fault_here}

pub a_fault : (f : Fault) → fault_number f ≡ 0 → ⊥
a_fault Length e = absurd (omega (arith, e))
a_fault Value e = absurd (omega (arith, e))

pub route_none : (d : List ℕ) (at : ℕ) → length d ≤ at → fault_here (drop at d) ≡ 8
route_none d at h = rw (drop_of_length-le d {i = at} h)

pub routes_end : (d : List ℕ) (at : ℕ) → length d ≤ at → routes_fault_value 0 (drop at d) ≡ 0
unfolding routes_fault_value
routes_end d at h = rw (drop_of_length-le d {i = at} h)

module _ (d : List ℕ) (at : ℕ) (h : at < length d) where
  abbrev w : ℕ
  w = get_or d at 0

  route_head : drop at d ≡ w ∷ drop (suc at) d
  route_head = drop-cons d at 0 h

  route_rest : length (drop (suc at) d) ≡ length d - suc at
  route_rest = length-drop (suc at) d

  pub route_at_wide : 32 < w → fault_here (drop at d) ≡ 9
  route_at_wide g = rw route_head (route_wide w (drop (suc at) d) g)

  pub route_at_cut : w ≤ 32 → length d - at < width_bytes w + 5 → fault_here (drop at d) ≡ 8
  route_at_cut g l = rw route_head (route_cut w (drop (suc at) d) g (omega (arith, route_rest)))

  pub route_at_right : w ≤ 32 → width_bytes w + 5 ≤ length d - at → fault_here (drop at d) ≡ 0
  route_at_right g l = rw route_head (route_right w (drop (suc at) d) g (omega (arith, route_rest)))

  pub routes_stop : (f : Fault) → fault_number f ≡ fault_here (drop at d) → routes_fault_value 0 (drop at d) ≡ fault_number f
  routes_stop f e = rw route_head (fault_first w (drop (suc at) d) (fault_number f) (rw route_head at e) (a_fault f))

  -- a right route ends within the data, and the rest is judged as all are
  pub route_within : fault_here (drop at d) ≡ 0 → at + (width_bytes w + 5) ≤ length d
  route_within e = omega (arith, (route_sound w (drop (suc at) d) (rw route_head at e)).1, route_rest)

  pub routes_next : fault_here (drop at d) ≡ 0 → routes_fault_value 0 (drop at d) ≡ routes_fault_value 0 (drop (at + (width_bytes w + 5)) d)
  routes_next e =
      let s = route_sound w (drop (suc at) d) (rw route_head at e) in
      let q : at + (width_bytes w + 5) ≡ suc at + behind w = omega arith in
      rw (q, ← drop-drop (behind w) (suc at) d, route_head) (fault_next w (drop (suc at) d) s.0 s.1)
