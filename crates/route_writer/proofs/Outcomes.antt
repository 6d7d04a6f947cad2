-- The writer's answers: a faulty route, an output too small, the routes written. Assumes nothing.
use mathlib.Core.Path.{◌≡◌, refl, ap}
use mathlib.Core.List.{List}
use mathlib.Core.Option.{Option, none, some}
use Prim.Native.Nat.{ℕ, ◌≤◌, ◌<◌}
use lib.ListN.{length}
use Rattle.buffer.specs.Written.{Written}
use Rattle.options.specs.Routes.{first_faulty, route_bytes, write_routes}
use Rattle.route_theorems.proofs.Written.{writes_as, refuses}
use Rattle.filled.specs.Fill.{Fills}
use Rattle.filled.proofs.Answers.{fills_unfilled, fills_small, fills_enough}
use Rattle.buffer.proofs.Writing.{written_front}
use Rattle.std.specs.Prelude.{Result, Ok, Err, IsErrAnd}
use Rattle.refusal.specs.declared.Refusal.{Refusal}
use Rattle.refusal.specs.declared.Rule.TheVariants.{BadRoute, NoRoom}
use Rattle.route_writer.specs.Measure.{measured}

-- a refusal that is handed on
pub handed_on : (r : Result ℕ Refusal) (x : Refusal) → IsErrAnd r (λ y. y ≡ x) → r ≡ Err x
handed_on (Ok n) x h = absurd h
handed_on (Err y) x h = ap Err h

pub was_right : (o : Option ℕ) (n k : ℕ) → Ok k ≡ measured o n → (o ≡ none) × (n ≡ k)
was_right (some j) n k e = cc
was_right none n k e = (refl, cc)

module _ (s old : List ℕ) where
  pub fills_26 : (r : Refusal) → Err r ≡ measured (first_faulty s) (length (route_bytes 0 s)) → Fills (write_routes s old) (Err r) old
  fills_26 r e = by (first_faulty s) refl e
    where
      by : (o : Option ℕ) → first_faulty s ≡ o → Err r ≡ measured o (length (route_bytes 0 s)) → Fills (write_routes s old) (Err r) old
      by none h q = cc
      by (some k) h q = fills_unfilled (write_routes s old) r BadRoute k old (let x : r ≡ record { rule = BadRoute; place = k } = cc in x) (refuses s old k h)

  module _ (e : first_faulty s ≡ none) where
    pub fills_11 : (r : Refusal) → r ≡ record { rule = NoRoom; place = length old } → length old < length (route_bytes 0 s) → Fills (write_routes s old) (Err r) old
    fills_11 r q h = fills_small (write_routes s old) (route_bytes 0 s) old (writes_as s old e) r q h

    pub fills_bytes : (r : ℕ) (last : List ℕ) → length (route_bytes 0 s) ≤ length old → Written old 0 (route_bytes 0 s) r last → Fills (write_routes s old) (Ok r) last
    fills_bytes r last h p =
        let f = written_front p in
        fills_enough (write_routes s old) (route_bytes 0 s) old (writes_as s old e) r last h f.0 f.1
