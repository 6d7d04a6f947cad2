-- The steps of a reader give the routes that stand in its data. Assumes nothing.
use Rattle.std.proofs.Common.{◌≡◌, refl, ap, List, ℕ, Option, Some, None}
use mathlib.Core.Logic.Iff
use Rattle.options.specs.Routes.{RouteStep, next, done, route_step}
use Rattle.options.specs.Routes as options
use Rattle.options.specs.RouteClaims.{RouteSteps}
use Rattle.options.specs.RouteClaims as claims
use Rattle.route_theorems.proofs.Steps.{steps_give_the_routes}
use Rattle.routes.specs.declared.RouteReader.{RouteReader}
use Rattle.routes.specs.declared.Entry.{Entry}
use Rattle.routes.specs.declared.Route.{Route}
use Rattle.routes.specs.Walk.{route_of, step_by, route_in, place_in, moved, Gives, no_more, one_more, ReaderGivesTheRoutes, entry_of, EntryKeepsTheStep, DoneGivesNothing}

abbrev at_step : RouteReader → RouteStep → RouteReader
at_step r x = record { list = r.list; at = place_in r.at x }

-- what a step tells of the definition's
none_given : (x : RouteStep) → route_in x ≡ None → x ≡ done
none_given (next q k) e = cc
none_given done e = refl

one_given : (i : ℕ) (x : RouteStep) (y : Route) → route_in x ≡ Some y → x ≡ next (route_of y) (place_in i x)
one_given i (next q k) y e = let h : record { destination = q.destination; width = q.width; router = q.router } ≡ y = cc in ap (λ (z : Route). next (route_of z) k) h
one_given i done y e = cc

to_steps : {r : RouteReader} {rs : List options.Route} → Gives r rs → RouteSteps r.list.now r.at rs
to_steps {r} (no_more e z) = claims.no_more (none_given (route_step r.list.now r.at) e)
to_steps {r} (one_more {x = x} e l g) = claims.one_more (one_given r.at (route_step r.list.now r.at) x e) (to_steps g)

-- the data and the place apart
from_steps : {d : List ℕ} {i : ℕ} {rs : List options.Route} → RouteSteps d i rs → (r : RouteReader) → r.list.now ≡ d → r.at ≡ i → Gives r rs
from_steps {d} {i} (claims.no_more e) r p q =
    let s : route_step r.list.now r.at ≡ done = rw (p, q) e in
    no_more (ap route_in s) (ap (at_step r) s)
from_steps {d} {i} (claims.one_more {after = k} {r = y} e g) r p q =
    let s : route_step r.list.now r.at ≡ next y k = rw (p, q) e in
    one_more {x = record { destination = y.destination; width = y.width; router = y.router }} (ap route_in s) refl (from_steps g (moved r) p (ap (place_in r.at) s))

pub reader_gives_the_routes : ReaderGivesTheRoutes
reader_gives_the_routes r rs = Iff.trans (to_steps, λ g. from_steps g r refl refl) (steps_give_the_routes r.list.now r.at rs)

kept : (s : RouteStep) → step_by (entry_of s) ≡ s
kept (next r k) = refl
kept done = refl

back : (e : Option Entry) → entry_of (step_by e) ≡ e
back None = refl
back (Some x) = refl

pub entry_keeps_the_step : EntryKeepsTheStep
entry_keeps_the_step = (kept, back)

none : (e : Option Entry) → step_by e ≡ done → e ≡ None
none None e = refl
none (Some x) e = cc

pub done_gives_nothing : DoneGivesNothing
done_gives_nothing at = record { no_entry = none; no_route = refl; same_place = refl }
