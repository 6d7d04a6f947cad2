-- THE WALK OVER CLASSLESS ROUTES (document 02, request 14): the step that options defines, as this crate's types hold it, and what the steps of a reader give. Assumes nothing.
use Rattle.std.specs.Prelude.{◌≡◌, List, [], ◌∷◌, ◌↔◌, ℕ, ◌-◌, length, Option, Some, None}
use Rattle.std.specs.Iterator.{Count, at_most}
use Rattle.options.specs.Routes.{RouteStep, next, done, route_step}
use Rattle.options.specs.Routes as options
use Rattle.options.specs.RouteClaims.{RoutesFrom}
use Rattle.routes.specs.declared.RouteReader.{RouteReader}
use Rattle.routes.specs.declared.Entry.{Entry}
use Rattle.routes.specs.declared.Route.{Route}

-- ---- What the contracts say

-- a route of the code is the definition's
abbrev pub route_of : Route → options.Route
route_of r = record { destination = r.destination; width = r.width; router = r.router }

-- the step that is taken: a route and the place behind it, or done
abbrev pub step_by : Option Entry → RouteStep
step_by None = done
step_by (Some e) = next (route_of e.route) e.next

-- what the iterator gives of a step
abbrev pub route_in : RouteStep → Option Route
route_in (next r after) = Some (record { destination = r.destination; width = r.width; router = r.router })
route_in done = None

-- where it leaves a reader that was at the offset `at`
abbrev pub place_in : ℕ → RouteStep → ℕ
place_in at (next r after) = after
place_in at done = at

-- the reader's next route
abbrev pub route_at : RouteReader → Option Route
route_at r = route_in (route_step r.list.now r.at)

-- the reader moved on
abbrev pub moved : RouteReader → RouteReader
moved r = record { list = r.list; at = place_in r.at (route_step r.list.now r.at) }

-- a call of `next` gives the reader's next route and moves the reader on
pub record Steps (before : RouteReader) (given : Option Route) (after : RouteReader) : Type 0 where
  pub gives : given ≡ route_at before
  pub moves : after ≡ moved before

-- no more routes come than bytes are left
abbrev pub bytes_left : RouteReader → Count
bytes_left r = at_most (length r.list.now - r.at)

-- ---- What is proved of them

-- the steps of a reader give just these routes, in order, each of the data that it was opened on; then none, and the reader stays where it is
pub data Gives : RouteReader → List options.Route → Type 0 where
  no_more : {r : RouteReader} → route_at r ≡ None → moved r ≡ r → Gives r []
  one_more : {r : RouteReader} {x : Route} {xs : List options.Route} → route_at r ≡ Some x → (moved r).list ≡ r.list → Gives (moved r) xs → Gives r (route_of x ∷ xs)

-- a reader gives the routes that stand from its place on, and so those of all the data where it was just opened; no others
abbrev pub ReaderGivesTheRoutes : Type 0
ReaderGivesTheRoutes = (r : RouteReader) (rs : List options.Route) → Gives r rs ↔ RoutesFrom r.list.now r.at rs

-- the entry that holds a step
abbrev pub entry_of : RouteStep → Option Entry
entry_of (next r after) = Some (record { route = record { destination = r.destination; width = r.width; router = r.router }; next = after })
entry_of done = None

-- an entry loses nothing of the step, and the step determines the entry
abbrev pub EntryKeepsTheStep : Type 0
EntryKeepsTheStep = ((s : RouteStep) → step_by (entry_of s) ≡ s) × ((e : Option Entry) → entry_of (step_by e) ≡ e)

-- done is no entry: it gives no route and leaves the place as it was
pub record NothingGiven (at : ℕ) : Type 0 where
  pub no_entry : (e : Option Entry) → step_by e ≡ done → e ≡ None
  pub no_route : route_in done ≡ None
  pub same_place : place_in at done ≡ at

abbrev pub DoneGivesNothing : Type 0
DoneGivesNothing = (at : ℕ) → NothingGiven at
