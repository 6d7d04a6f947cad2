-- WHAT CLASSLESS ROUTES MUST SATISFY (document 02, request 14): the walk gives the routes that stand in the data, the writer writes the routes given or refuses by its rows,
-- and the call on 3 and 33 follows the lookup. The row of 121 is in KindClaims. Proved in crate route_theorems. Assumes nothing.
use Rattle.std.specs.Prelude.{◌≡◌, List, [], ◌∷◌, ◌++◌, Bool, true, false, ◌⊎◌, ◌↔◌, ℕ, suc, ◌+◌, ◌-◌, ◌*◌, ◌/◌, ◌%◌, ◌^◌, ◌≤◌, ◌<◌, length, take, drop, replicate}
use Rattle.options.specs.Kinds.{routes, part, kinds}
use Rattle.options.specs.KindClaims.{OneOf, FromTo, AllBytes, four_bytes}
use Rattle.options.specs.Answers.{Origin, unknown, known, Absent, Found, lookup, given, declined, Filled, unfilled}
use Rattle.options.specs.ReadingClaims.{GivesNumber, LookupRow, CorrectAnswer}
use Rattle.options.specs.VendorClaims.{filled}
use Rattle.options.specs.RouteData.{BytesOf, RouteAt, RouteBegins, WideAt, CutAt}
use Rattle.options.specs.Routes.{Route, RouteStep, next, done, route_step, write_routes, Ignored, says, unsaid, ignored}

-- ---- [K16] The row: where 121 has its kind, routes end to end fill the data. KindsAreTheTable says where it is broken, by which number

abbrev pub RoutesFillTheData : Type 0
RoutesFillTheData = (d : List ℕ) → kinds.value 121 d ≡ part routes (length d) ↔ ((5 ≤ length d) × RouteBegins d (length d))

-- ---- The walk

-- x is the number of four bytes
pub data Word : List ℕ → ℕ → Type 0 where
  word : {a b c d : ℕ} → Word (a ∷ b ∷ c ∷ d ∷ []) (four_bytes a b c d)

-- [N2] "destination with bits past the width cleared": of the bytes it has, zeros behind them, the w highest bits, and none below
pub record Cleared (w : ℕ) (to : List ℕ) (x : ℕ) : Type 0 where
  pub whole : ℕ
  pub bytes_are : Word (to ++ replicate (4 - length to) 0) whole
  pub kept : x / 2 ^ (32 - w) ≡ whole / 2 ^ (32 - w)
  pub none_below : x % 2 ^ (32 - w) ≡ 0

-- the same bit by bit, bit j counting 2 ^ j: those from 32 - w on are the data's, the others 0
abbrev pub ClearedBits : Type 0
ClearedBits =
    (w : ℕ) (to : List ℕ) (x : ℕ) (c : Cleared w to x) (j : ℕ)
    → (32 - w ≤ j → x / 2 ^ j % 2 ≡ c.whole / 2 ^ j % 2) × (j < 32 - w → x / 2 ^ j % 2 ≡ 0)

-- the route that the bytes of one mean
pub record RouteMeans (w : ℕ) (to by : List ℕ) (r : Route) : Type 0 where
  pub width_is : r.width ≡ w
  pub destination_is : Cleared w to r.destination
  pub router_is : Word by r.router

-- from the offset i on just these routes stand, end to end, and behind the last none
pub data RoutesFrom (d : List ℕ) : ℕ → List Route → Type 0 where
  no_route : {i : ℕ} → ((w : ℕ) (to by : List ℕ) → RouteAt d i w to by → ⊥) → RoutesFrom d i []
  a_route : {i w : ℕ} {to by : List ℕ} {r : Route} {rs : List Route} → RouteAt d i w to by → RouteMeans w to by r → RoutesFrom d (i + suc (length to + 4)) rs
      → RoutesFrom d i (r ∷ rs)

-- the steps from the offset i on give just these routes, in order, and then done
pub data RouteSteps (d : List ℕ) : ℕ → List Route → Type 0 where
  no_more : {i : ℕ} → route_step d i ≡ done → RouteSteps d i []
  one_more : {i after : ℕ} {r : Route} {rs : List Route} → route_step d i ≡ next r after → RouteSteps d after rs → RouteSteps d i (r ∷ rs)

-- [N2] the steps give the routes that stand, and no others, of any data and from any place on
abbrev pub StepsGiveTheRoutes : Type 0
StepsGiveTheRoutes = (d : List ℕ) (i : ℕ) (rs : List Route) → RouteSteps d i rs ↔ RoutesFrom d i rs

-- [N3] "done at the end or at a faulty route", and nowhere else
abbrev pub DoneWhere : Type 0
DoneWhere = (d : List ℕ) (i : ℕ) → route_step d i ≡ done ↔ ((length d ≤ i) ⊎ (WideAt d i ⊎ CutAt d i))

-- [N2] what a step gives, and the place behind it
pub record StepStands (d : List ℕ) (i : ℕ) (r : Route) (after : ℕ) : Type 0 where
  pub width : ℕ
  pub to : List ℕ
  pub by : List ℕ
  pub stands : RouteAt d i width to by
  pub means : RouteMeans width to by r
  pub place_is : after ≡ i + suc (length to + 4)

abbrev pub StepIsTheRoute : Type 0
StepIsTheRoute = (d : List ℕ) (i : ℕ) (r : Route) (after : ℕ) → route_step d i ≡ next r after ↔ StepStands d i r after

-- the walk of any data comes to done
abbrev pub WalkEnds : Type 0
WalkEnds = (d : List ℕ) (i : ℕ) → (rs : List Route) × RouteSteps d i rs

-- ---- The writer

-- [N4] "nine bytes a route (width, destination, router)": s is just these routes
pub data NineEach : List ℕ → List Route → Type 0 where
  none_left : NineEach [] []
  nine : {w a b c d e f g h : ℕ} {s : List ℕ} {rs : List Route} → NineEach s rs
      → NineEach (w ∷ a ∷ b ∷ c ∷ d ∷ e ∷ f ∷ g ∷ h ∷ s) (record { destination = four_bytes a b c d; width = w; router = four_bytes e f g h } ∷ rs)

-- route number k of s is all there, and has neither a wide width nor set bits past it
pub record RightRoute (s : List ℕ) (k : ℕ) : Type 0 where
  pub width : ℕ
  pub to : List ℕ
  pub by : List ℕ
  pub after : List ℕ
  pub address : ℕ
  pub reads : drop (9 * k) s ≡ width ∷ (to ++ (by ++ after))
  pub to_is : Word to address
  pub by_bytes : length by ≡ 4
  pub narrow : width ≤ 32
  pub no_bits : address % 2 ^ (32 - width) ≡ 0

-- [R26] "the first faulty route's number, from 0, for a wide width, set bits, a route cut short or no route at all"
pub record FirstFaulty (s : List ℕ) (k : ℕ) : Type 0 where
  pub before : (j : ℕ) → j < k → RightRoute s j
  pub begun : (9 * k < length s) ⊎ (k ≡ 0)
  pub faulty : RightRoute s k → ⊥

abbrev pub NoneFaulty : List ℕ → Type 0
NoneFaulty s = (k : ℕ) → FirstFaulty s k → ⊥

-- [K16] the routes of s, as the option has them: of a destination's four bytes the width's whole and begun ones
pub data RoutesAsData : List ℕ → List ℕ → Type 0 where
  no_routes : RoutesAsData [] []
  when_one_route : {w a b c d e f g h n : ℕ} {s xs : List ℕ} → w ≤ 32 → BytesOf w n → RoutesAsData s xs
      → RoutesAsData (w ∷ a ∷ b ∷ c ∷ d ∷ e ∷ f ∷ g ∷ h ∷ s) (w ∷ (take n (a ∷ b ∷ c ∷ d ∷ []) ++ (e ∷ f ∷ g ∷ h ∷ xs)))

-- [N4, R26, R11] "26 at the first faulty route's number, .. then 11 with the output's length"; else the routes as the option has them
pub data WritesRoutes (s out : List ℕ) : Filled → Type 0 where
  write_26 : {k : ℕ} → FirstFaulty s k → WritesRoutes s out (unfilled 26 k out)
  write_11 : {b : List ℕ} → NoneFaulty s → RoutesAsData s b → length out < length b → WritesRoutes s out (unfilled 11 (length out) out)
  writes : {b : List ℕ} → NoneFaulty s → RoutesAsData s b → length b ≤ length out → WritesRoutes s out (filled b out)

-- no other answer is right
abbrev pub RouteWriterIsCorrect : Type 0
RouteWriterIsCorrect = (s out : List ℕ) (w : Filled) → write_routes s out ≡ w ↔ WritesRoutes s out w

-- no route takes more than the nine bytes that it is given by: so an output as long as what is given is room enough
abbrev pub RoutesRoomIsEnough : Type 0
RoutesRoomIsEnough = (s out b : List ℕ) → NoneFaulty s → RoutesAsData s b → length s ≤ length out → write_routes s out ≡ filled b out

-- [N5] "its bytes walk back as exactly the routes given, in order": n bytes were given, at the start of w, and they keep the row
pub record WalksBack (s b : List ℕ) : Type 0 where
  pub when_routes_given : (rs : List Route) → RouteSteps b 0 rs ↔ NineEach s rs
  pub keeps_the_row : kinds.value 121 b ≡ part routes (length b)

abbrev pub RoutesWalkBack : Type 0
RoutesWalkBack = (s out : List ℕ) (n : ℕ) (w : List ℕ) → AllBytes s → write_routes s out ≡ record { answer = given n; buffer = w } → WalksBack s (take n w)

-- ---- [N6] The call on 3 and 33: "exactly where a lookup of 121 with that set answers with its kind; it is refused as that lookup is"

pub record AsLookedUp (set : ℕ → Bool) (m : List ℕ) : Type 0 where
  pub yes_where : ignored set m ≡ says true ↔ ((g : Origin) × ((n : ℕ) × (lookup kinds set m 121 ≡ Found g (known (part routes n)))))
  pub refused_where : (n p : ℕ) → ignored set m ≡ unsaid n p ↔ GivesNumber (lookup kinds set m 121) n p

abbrev pub IgnoredAsLookedUp : Type 0
IgnoredAsLookedUp = (set : ℕ → Bool) (m : List ℕ) → AsLookedUp set m

-- the same down to the message: a row of the lookup of 121 applies, 8 and 9 of a broken 121 among them; else 121 has its kind, or is absent or unknown
pub data IgnoredBy (set : ℕ → Bool) (m : List ℕ) : Ignored → Type 0 where
  refused_by_a_row : {n p : ℕ} → LookupRow kinds set m 121 n p → IgnoredBy set m (unsaid n p)
  yes_its_kind : {g : Origin} {n : ℕ} → CorrectAnswer kinds set m 121 (Found g (known (part routes n))) → IgnoredBy set m (says true)
  no_absent : CorrectAnswer kinds set m 121 Absent → IgnoredBy set m (says false)
  no_unknown : {g : Origin} {n : ℕ} → CorrectAnswer kinds set m 121 (Found g (unknown n)) → IgnoredBy set m (says false)

-- no other answer is right
abbrev pub IgnoredIsCorrect : Type 0
IgnoredIsCorrect = (set : ℕ → Bool) (m : List ℕ) (x : Ignored) → ignored set m ≡ x ↔ IgnoredBy set m x

-- ---- "dhcpopt_routes_write gives 11 and 26, dhcpopt_routes_ignored 1 to 9": so include/dhcpopt.h promises
abbrev pub RouteNumbers : Type 0
RouteNumbers =
    ((s out : List ℕ) (n p : ℕ) → (write_routes s out).answer ≡ declined n p → OneOf n (11 ∷ 26 ∷ []))
    × ((set : ℕ → Bool) (m : List ℕ) (n p : ℕ) → ignored set m ≡ unsaid n p → FromTo 1 9 n)
