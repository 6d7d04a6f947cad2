-- CLASSLESS ROUTES AT THE CALLS THAT C LINKS (document 02, request 14): demand 1 of the writer and of the call on 3 and 33, and what the three calls give. Of each call: r is the
-- struct that its contract gives, `after` what it leaves in the lent buffer. Assumes nothing.
use Rattle.std.specs.Prelude.{◌≡◌, List, [], ◌∷◌, Bool, ◌⊎◌, ◌↔◌, ℕ, ◌≤◌, length, take}
use Rattle.options.specs.Kinds.{routes, part, kinds}
use Rattle.options.specs.KindClaims.{AllBytes}
use Rattle.options.specs.Answers as asked
use Rattle.options.specs.ReadingClaims.{LookupRow, CorrectAnswer}
use Rattle.options.specs.Routes.{Route, route_step, ignored, write_routes}
use Rattle.options.specs.RouteData.{WideAt, CutAt}
use Rattle.options.specs.RouteClaims.{StepStands, RoutesFrom, NineEach, WritesRoutes}
use Rattle.filled.specs.Plain.{plain_filled}
use Rattle.filled.specs.declared.PlainFilled.{PlainFilled}
use Rattle.dhcpopt_routes.specs.Plain.{plain_route, plain_ignored}
use Rattle.dhcpopt_routes.specs.declared.PlainRoute.{PlainRoute}
use Rattle.dhcpopt_routes.specs.declared.PlainIgnored.{PlainIgnored}
use Rattle.c_theorems.specs.Refusals.{known, Says, RefusedOnlyBy}

-- ---- Demand 1

-- "26 at the first faulty route's number, from 0, .., then 11 with the output's length"
abbrev pub RoutesWriteRow : List ℕ → List ℕ → ℕ → ℕ → Type 0
RoutesWriteRow s out n p = WritesRoutes s out (record { answer = asked.declined n p; buffer = out })

abbrev pub RoutesWriteRefusedForC : Type 0
RoutesWriteRefusedForC = (s out : List ℕ) → RefusedOnlyBy (RoutesWriteRow s out) out (write_routes s out)

-- "it is refused as that lookup is": by the rows of the lookup of 121, of which 8 and 9 are those of a broken 121
pub record IgnoredRefusedBy (set : ℕ → Bool) (m : List ℕ) (r : PlainIgnored) : Type 0 where
  pub by_rows : (n p : ℕ) → Says r.refusal r.place n p ↔ LookupRow kinds set m 121 n p
  pub not_yes : (r.refusal ≡ 0 → ⊥) → r.ignored ≡ 0
  pub else_no_place : r.refusal ≡ 0 → r.place ≡ 0

abbrev pub IgnoredRefusedForC : Type 0
IgnoredRefusedForC = (k0 k1 k2 k3 : ℕ) (m : List ℕ) (r : PlainIgnored) → r ≡ plain_ignored (ignored (known k0 k1 k2 k3) m) → IgnoredRefusedBy (known k0 k1 k2 k3) m r

-- ---- What is given

-- "says whether 3 and 33 are ignored: exactly where a lookup of 121 with that set answers with its kind"
pub record IgnoredToldRight (set : ℕ → Bool) (m : List ℕ) (r : PlainIgnored) : Type 0 where
  pub one_or_none : (r.ignored ≡ 0) ⊎ (r.ignored ≡ 1)
  pub yes_where : r.ignored ≡ 1 ↔ ((g : asked.Origin) × ((n : ℕ) × CorrectAnswer kinds set m 121 (asked.Found g (asked.known (part routes n)))))

abbrev pub IgnoredForC : Type 0
IgnoredForC = (k0 k1 k2 k3 : ℕ) (m : List ℕ) (r : PlainIgnored) → r ≡ plain_ignored (ignored (known k0 k1 k2 k3) m) → IgnoredToldRight (known k0 k1 k2 k3) m r

-- one step, at any place: the route that stands there, and the place behind it; or none, "at the end or at a faulty route"
pub data RouteTold (d : List ℕ) (at : ℕ) : PlainRoute → Type 0 where
  one_told : {x : Route} {after : ℕ} → StepStands d at x after
      → RouteTold d at (record { given = 1; destination = x.destination; width = x.width; router = x.router; next = after })
  none_told : (length d ≤ at) ⊎ (WideAt d at ⊎ CutAt d at) → RouteTold d at (record { given = 0; destination = 0; width = 0; router = 0; next = at })

abbrev pub RouteStepForC : Type 0
RouteStepForC = (d : List ℕ) (at : ℕ) (r : PlainRoute) → r ≡ plain_route at (route_step d at) ↔ RouteTold d at r

-- "destination with bits past the width cleared, width and router, then done": the steps from the place `at` on, each taken at the place that the one before gave
pub data RouteStepsForC (d : List ℕ) : ℕ → List Route → Type 0 where
  no_more : {at : ℕ} → plain_route at (route_step d at) ≡ record { given = 0; destination = 0; width = 0; router = 0; next = at } → RouteStepsForC d at []
  one_more : {at after : ℕ} {x : Route} {xs : List Route}
      → plain_route at (route_step d at) ≡ record { given = 1; destination = x.destination; width = x.width; router = x.router; next = after } → RouteStepsForC d after xs
      → RouteStepsForC d at (x ∷ xs)

-- they give the routes that stand there, in order, and no others
abbrev pub RoutesForC : Type 0
RoutesForC = (d : List ℕ) (at : ℕ) (rs : List Route) → RouteStepsForC d at rs ↔ RoutesFrom d at rs

-- "its bytes walk back as exactly the routes given, in order"
abbrev pub RoutesBackForC : Type 0
RoutesBackForC =
    (s out : List ℕ) (r : PlainFilled) (after : List ℕ) → AllBytes s → (r ≡ plain_filled (write_routes s out).answer) × (after ≡ (write_routes s out).buffer) → r.refusal ≡ 0
    → (rs : List Route) → RouteStepsForC (take r.size after) 0 rs ↔ NineEach s rs
