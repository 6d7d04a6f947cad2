-- Classless routes, at their calls. Assumes nothing.
use mathlib.Core.Path.{◌≡◌, refl, sym, ap, ap₂, ◌∙◌, subst}
use mathlib.Core.Bool.{Bool, true, false}
use mathlib.Core.List.{List, [], ◌∷◌}
use mathlib.Core.Logic.Iff
use mathlib.Core.Logic.{◌⊎◌, inl, inr, ◌↔◌}
use Prim.Native.Nat.{ℕ}
use lib.ListN.{take}
use native.Mathlib.Omega.{arith}
use Rattle.options.specs.Kinds.{routes, part, kinds}
use Rattle.options.specs.KindClaims.{AllBytes}
use Rattle.options.specs.Answers as asked
use Rattle.options.specs.ReadingClaims.{LookupRow, CorrectAnswer}
use Rattle.options.specs.Routes.{Route, RouteStep, next, done, route_step, Ignored, says, unsaid, ignored, write_routes}
use Rattle.options.specs.RouteClaims.{RouteSteps, IgnoredBy, refused_by_a_row, yes_its_kind, no_absent, no_unknown}
use Rattle.options.specs.RouteClaims as claims
use Rattle.theorems.proofs.View.{clash}
use Rattle.route_theorems.proofs.Steps.{steps_give_the_routes, step_is_the_route, done_is_where}
use Rattle.route_theorems.proofs.Written.{route_writer_is_correct, routes_walk_back}
use Rattle.route_theorems.proofs.Ignored.{ignored_is_correct}
use Rattle.filled.specs.Plain.{plain_filled}
use Rattle.filled.specs.declared.PlainFilled.{PlainFilled}
use Rattle.dhcpopt_routes.specs.Plain.{plain_route, plain_ignored}
use Rattle.dhcpopt_routes.specs.declared.PlainRoute.{PlainRoute}
use Rattle.dhcpopt_routes.proofs.Kept.{ignored_kept, routes_kept}
use Rattle.c_theorems.specs.Refusals.{known}
use Rattle.c_theorems.specs.Routes.{RoutesWriteRow, RoutesWriteRefusedForC, IgnoredRefusedBy, IgnoredRefusedForC, IgnoredToldRight, IgnoredForC, RouteTold, one_told, none_told, RouteStepForC, RouteStepsForC, no_more, one_more, RoutesForC, RoutesBackForC}
use Rattle.c_theorems.proofs.Fills.{refused_only_by}

-- ---- A step

step_told : (d : List ℕ) (at : ℕ) (x : RouteStep) → route_step d at ≡ x → RouteTold d at (plain_route at x)
step_told d at (next x after) e = one_told {x = x} {after = after} ((step_is_the_route d at x after).0 e)
step_told d at done e = none_told ((done_is_where d at).0 e)

told_step : {d : List ℕ} {at : ℕ} {r : PlainRoute} → RouteTold d at r → r ≡ plain_route at (route_step d at)
told_step {d} {at} (one_told {x = x} {after = after} s) = ap (plain_route at) (sym ((step_is_the_route d at x after).1 s))
told_step {d} {at} (none_told h) = ap (plain_route at) (sym ((done_is_where d at).1 h))

pub route_step_for_c : RouteStepForC
route_step_for_c d at r = ((λ e. subst (RouteTold d at) (sym e) (step_told d at (route_step d at) refl)), told_step)

-- ---- The writer

pub routes_write_refused : RoutesWriteRefusedForC
routes_write_refused s out =
    refused_only_by (RoutesWriteRow s out) out (write_routes s out) (λ n p. route_writer_is_correct s out (record { answer = asked.declined n p; buffer = out })) (routes_kept s out)

-- ---- The call on 3 and 33

module _ (set : ℕ → Bool) (m : List ℕ) where
  row_of_lem : (n p : ℕ) → ignored set m ≡ unsaid n p → LookupRow kinds set m 121 n p
  row_of_lem n p e = by ((ignored_is_correct set m (unsaid n p)).0 e)
    where
      by : IgnoredBy set m (unsaid n p) → LookupRow kinds set m 121 n p
      by (refused_by_a_row r) = r

  of_row : (n p : ℕ) → LookupRow kinds set m 121 n p → ignored set m ≡ unsaid n p
  of_row n p r = (ignored_is_correct set m (unsaid n p)).1 (refused_by_a_row r)

  refused_by : (x : Ignored) → ignored set m ≡ x → IgnoredRefusedBy set m (plain_ignored x)
  refused_by (says true) e =
      record {
        by_rows = λ n p. ((λ s. absurd (s.0 (sym s.1))), (λ r. let z : says true ≡ unsaid n p = sym e ∙ of_row n p r in clash (cc)));
        not_yes = λ h. absurd (h refl);
        else_no_place = λ h. refl;
      }
  refused_by (says false) e =
      record {
        by_rows = λ n p. ((λ s. absurd (s.0 (sym s.1))), (λ r. let z : says false ≡ unsaid n p = sym e ∙ of_row n p r in clash (cc)));
        not_yes = λ h. refl;
        else_no_place = λ h. refl;
      }
  refused_by (unsaid k q) e =
      record {
        by_rows = λ n p. (
          (λ s. row_of_lem n p (e ∙ ap₂ unsaid s.1 s.2)),
          (λ r. let y : ignored set m ≡ unsaid n p = of_row n p r in let z : unsaid k q ≡ unsaid n p = sym e ∙ y in let i : k ≡ n = cc in let j : q ≡ p = cc in (ignored_kept set m n p y, i, j)),
        );
        not_yes = λ h. refl;
        else_no_place = λ h. absurd (ignored_kept set m k q e h);
      }

  abbrev Kind121 : Type 0
  Kind121 = (g : asked.Origin) × ((n : ℕ) × CorrectAnswer kinds set m 121 (asked.Found g (asked.known (part routes n))))

  yes_of : Kind121 → ignored set m ≡ says true
  yes_of x = (ignored_is_correct set m (says true)).1 (yes_its_kind {g = x.0} {n = x.1.0} x.1.1)

  of_yes : IgnoredBy set m (says true) → Kind121
  of_yes (yes_its_kind {g} {n} c) = (g, (n, c))

  told_right : (x : Ignored) → ignored set m ≡ x → IgnoredToldRight set m (plain_ignored x)
  told_right (says true) e = record { one_or_none = inr refl; yes_where = (λ h. of_yes ((ignored_is_correct set m (says true)).0 e), λ x. refl) }
  told_right (says false) e =
      record { one_or_none = inl refl; yes_where = ((λ h. absurd (omega arith)), (λ x. let z : says false ≡ says true = sym e ∙ yes_of x in clash (cc))) }
  told_right (unsaid n p) e =
      record { one_or_none = inl refl; yes_where = ((λ h. absurd (omega arith)), (λ x. let z : unsaid n p ≡ says true = sym e ∙ yes_of x in clash (cc))) }

pub ignored_refused : IgnoredRefusedForC
ignored_refused k0 k1 k2 k3 m r e = rw e (refused_by (known k0 k1 k2 k3) m (ignored (known k0 k1 k2 k3) m) refl)

pub ignored_for_c : IgnoredForC
ignored_for_c k0 k1 k2 k3 m r e = rw e (told_right (known k0 k1 k2 k3) m (ignored (known k0 k1 k2 k3) m) refl)

-- ---- The walk

module _ (at : ℕ) where
  step_done : (s : RouteStep) → plain_route at s ≡ record { given = 0; destination = 0; width = 0; router = 0; next = at } → s ≡ done
  step_done (next r k) e = let z : ◌≡◌ {A = ℕ} 1 0 = ap (λ (x : PlainRoute). x.given) e in absurd (omega arith)
  step_done done e = refl

  step_next : (s : RouteStep) (x : Route) (k : ℕ) → plain_route at s ≡ record { given = 1; destination = x.destination; width = x.width; router = x.router; next = k } → s ≡ next x k
  step_next (next r j) x k e =
      let a : r.destination ≡ x.destination = ap (λ (y : PlainRoute). y.destination) e in
      let b : r.width ≡ x.width = ap (λ (y : PlainRoute). y.width) e in
      let c : r.router ≡ x.router = ap (λ (y : PlainRoute). y.router) e in
      let d : j ≡ k = ap (λ (y : PlainRoute). y.next) e in
      let q : r ≡ x = rw (a, b, c) refl in
      ap₂ next q d
  step_next done x k e = let z : ◌≡◌ {A = ℕ} 0 1 = ap (λ (y : PlainRoute). y.given) e in absurd (omega arith)

to_steps : {d : List ℕ} {at : ℕ} {rs : List Route} → RouteStepsForC d at rs → RouteSteps d at rs
to_steps {d} {at} (no_more e) = claims.no_more (step_done at (route_step d at) e)
to_steps {d} {at} (one_more {after = k} {x = x} e g) = claims.one_more (step_next at (route_step d at) x k e) (to_steps g)

from_steps : {d : List ℕ} {at : ℕ} {rs : List Route} → RouteSteps d at rs → RouteStepsForC d at rs
from_steps {d} {at} (claims.no_more e) = no_more (ap (plain_route at) e)
from_steps {d} {at} (claims.one_more e g) = one_more (ap (plain_route at) e) (from_steps g)

pub routes_for_c : RoutesForC
routes_for_c d at rs = Iff.trans (to_steps, from_steps) (steps_give_the_routes d at rs)

pub routes_back_for_c : RoutesBackForC
routes_back_for_c s out r after bytes e z rs = by (write_routes s out).answer refl (ap (λ (x : PlainFilled). x.refusal) (sym e.0) ∙ z)
  where
    by : (g : asked.Given) → (write_routes s out).answer ≡ g → (plain_filled (write_routes s out).answer).refusal ≡ 0 → RouteStepsForC (take r.size after) 0 rs ↔ claims.NineEach s rs
    by (asked.given n) q h =
        let w : write_routes s out ≡ record { answer = asked.given n; buffer = (write_routes s out).buffer } = ap (λ (y : asked.Given). record { answer = y; buffer = (write_routes s out).buffer }) q in
        let k : r.size ≡ n = ap (λ (x : PlainFilled). x.size) (e.0 ∙ ap plain_filled q) in
        rw (k, e.1) (Iff.trans (to_steps, from_steps) ((routes_walk_back s out n (write_routes s out).buffer bytes w).when_routes_given rs))
    by (asked.declined n p) q h =
        let k : n ≡ 0 = ap (λ (x : asked.Given). (plain_filled x).refusal) (sym q) ∙ h in
        absurd ((routes_kept s out n p q).0 k)
