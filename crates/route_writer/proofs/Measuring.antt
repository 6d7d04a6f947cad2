-- The pass that judges and measures: what is left, after what was measured, gives what the whole gives. Assumes nothing.
use mathlib.Core.Path.{◌≡◌}
use mathlib.Core.Bool.{true, false}
use mathlib.Core.List.{List}
use Prim.Native.Nat.{ℕ, ◌+◌, ◌≤◌, ◌<◌}
use native.Mathlib.Nat.{add-zero, zero-add}
use native.Mathlib.Omega.{arith}
use native.Mathlib.Numerals.{add-one}
use lib.ListN.{length, get_or, drop, length-drop}
use lib.Seq.{drop-drop, get_or-drop}
use Rattle.options.specs.Kinds.{width_bytes}
use Rattle.options.specs.Routes.{faulty_from, first_faulty, route_bytes}
use Rattle.std.specs.Prelude.{Ok, Err}
use Rattle.refusal.specs.declared.Rule.TheVariants.{BadRoute}
use Rattle.route_writer.specs.Measure.{faulty_at, measured}
use Rattle.route_writer.proofs.One.{faulty_is, Passed, passed, none_left, first_is, first_none, bytes_none, bytes_length}

pub record Measuring (s : List ℕ) (at k size : ℕ) : Type 0 where
  pub at_in : at ≤ length s
  pub few : k ≤ at
  pub small : size ≤ at
  pub same : measured (faulty_from k 0 (drop at s)) (size + length (route_bytes 0 (drop at s))) ≡ measured (first_faulty s) (length (route_bytes 0 s))

pub measure_none : (s : List ℕ) → length s ≡ 0 → Err (record { rule = BadRoute; place = 0 }) ≡ measured (first_faulty s) (length (route_bytes 0 s))
measure_none s h = rw (first_none s h)

pub measure_begins : (s : List ℕ) → (length s ≡ 0 → ⊥) → Measuring s 0 0 0
measure_begins s h = record { at_in = omega arith; few = omega arith; small = omega arith; same = let l : 1 ≤ length s = omega (arith, h) in rw (first_is s l, zero-add) }

module _ {s : List ℕ} {at k size : ℕ} (y : Measuring s at k size) where
  pub measure_ends : length s ≤ at → Ok size ≡ measured (first_faulty s) (length (route_bytes 0 s))
  measure_ends h =
      let l : length (drop at s) ≤ 0 = simp length-drop (omega arith) in
      let n : length (route_bytes 0 (drop at s)) ≡ 0 = rw (bytes_none (drop at s) l) in
      rw (← y.same, none_left k (drop at s) l, n, add-zero)

  module _ (h : at < length s) where
    left : 1 ≤ length (drop at s)
    left = simp length-drop (omega arith)

    pub measure_faulty : faulty_at (drop at s) ≡ true → Err (record { rule = BadRoute; place = k }) ≡ measured (first_faulty s) (length (route_bytes 0 s))
    measure_faulty e = rw (← y.same, faulty_is k (drop at s) left e)

    pub here : faulty_at (drop at s) ≡ false → Passed k (drop at s)
    here e = passed k (drop at s) left e

    pub whole_here : faulty_at (drop at s) ≡ false → at + 9 ≤ length s
    whole_here e = omega (arith, (here e).whole, length-drop at s)

    pub narrow_here : faulty_at (drop at s) ≡ false → get_or s at 0 ≤ 32
    narrow_here e = rw (get_or-drop, add-zero) at (here e).narrow

    pub measure_on : faulty_at (drop at s) ≡ false → Measuring s (at + 9) (k + 1) (size + (width_bytes (get_or s at 0) + 5))
    measure_on e =
        let n = bytes_length (drop at s) (here e).whole (here e).narrow in
        let w : get_or (drop at s) 0 0 ≡ get_or s at 0 = rw (get_or-drop, add-zero) in
        let m : size + length (route_bytes 0 (drop at s)) ≡ size + (width_bytes (get_or s at 0) + 5) + length (route_bytes 0 (drop 9 (drop at s))) = omega (arith, n, w) in
        record {
          at_in = whole_here e;
          few = omega (arith, y.few);
          small = omega (arith, y.small, narrow_here e);
          same = rw (add-one k, ← drop-drop 9 at s, ← m, ← (here e).on) y.same;
        }
