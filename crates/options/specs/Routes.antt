-- CLASSLESS ROUTES (document 02, request 14; RFC 3442; docs/RULES.md, N): the walk over the data of option 121, the writer of such data, and the call on 3 and 33, as definitions.
-- The row of 121 is in Kinds. RouteClaims ties these to the relations of RouteData. Assumes nothing.
use Rattle.std.specs.Prelude.{List, [], ◌∷◌, ◌++◌, Bool, true, false, cond, not, ℕ, zero, suc, ◌+◌, ◌-◌, ◌*◌, ◌/◌, ◌^◌, ltb, eqb, length, take, drop}
use Rattle.std.proofs.Math.Option.{Option, none, some}
use Rattle.options.specs.Kinds.{broken, number, part, kinds, first32, width_bytes, behind, route_fault_value}
use Rattle.options.specs.Answers.{code_place, unknown, known, Answer, Absent, Refused, Found, lookup, Filled, unfilled, filled_with}

-- [N1] a route: its addresses are unsigned 32-bit numbers
pub record Route : Type 0 where
  pub destination : ℕ
  pub width : ℕ
  pub router : ℕ

-- ---- The walk

-- [N2] "bits past the width cleared": the 32 - w lowest
abbrev pub cleared : ℕ → ℕ → ℕ
cleared w x = x / 2 ^ (32 - w) * 2 ^ (32 - w)

-- the route with the width w and the bytes xs behind it; bytes of the destination that it does not have are 0
unfoldable pub route_in : ℕ → List ℕ → Route
route_in w xs = record { destination = cleared w (first32 (take (width_bytes w) xs)); width = w; router = first32 (drop (width_bytes w) xs) }

-- [N2] a route, and the place behind it; or done
pub data RouteStep : Type 0 where
  next : (route : Route) (at : ℕ) → RouteStep
  done : RouteStep

-- done where the route has a fault
abbrev pub unless_faulty : ℕ → RouteStep → RouteStep
unless_faulty zero s = s
unless_faulty (suc n) s = done

-- [N3] "done at the end or at a faulty route"
abbrev pub route_here : ℕ → List ℕ → RouteStep
route_here at [] = done
route_here at (w ∷ xs) = unless_faulty (route_fault_value w xs) (next (route_in w xs) (at + suc (behind w)))

-- the step of a walk of the data d that is at the offset `at`
unfoldable pub route_step : List ℕ → ℕ → RouteStep
unfolding route_in
route_step d at = route_here at (drop at d)

-- ---- The writer: "given nine bytes a route (width, destination, router)"

-- [R26] "a wide width, set bits, a route cut short": the route with the width w and the bytes xs behind it
unfoldable pub is_faulty_value : ℕ → List ℕ → Bool
is_faulty_value w xs = cond (ltb (length xs) 8) true (cond (ltb 32 w) true (not (eqb (cleared w (first32 xs)) (first32 xs))))

-- the number of the first faulty route, where the one here has the number k; `skip` bytes belong to the one before
unfoldable pub faulty_from : ℕ → ℕ → List ℕ → Option ℕ
unfolding is_faulty_value
faulty_from k zero [] = none
faulty_from k (suc skip) [] = none
faulty_from k zero (w ∷ xs) = let rest : Option ℕ = faulty_from (suc k) 8 xs in cond (is_faulty_value w xs) (some k) rest
faulty_from k (suc skip) (x ∷ xs) = faulty_from k skip xs

-- [R26] "or no route at all"
unfoldable pub first_faulty : List ℕ → Option ℕ
unfolding faulty_from
first_faulty [] = some 0
first_faulty (w ∷ xs) = faulty_from 0 0 (w ∷ xs)

-- [N4] a route in the option, from its width and the eight bytes behind it
abbrev pub one_route : ℕ → List ℕ → List ℕ
one_route w xs = w ∷ (take (width_bytes w) xs ++ take 4 (drop 4 xs))

unfoldable pub route_bytes : ℕ → List ℕ → List ℕ
route_bytes zero [] = []
route_bytes (suc skip) [] = []
route_bytes zero (w ∷ xs) = let rest : List ℕ = route_bytes 8 xs in one_route w xs ++ rest
route_bytes (suc skip) (x ∷ xs) = route_bytes skip xs

abbrev pub routes_given : Option ℕ → List ℕ → List ℕ → Filled
routes_given (some k) b out = unfilled 26 k out
routes_given none b out = filled_with b out

-- [N4, R26, R11] into the lent output `out`: "26 at the first faulty route's number, from 0, .., then 11 with the output's length"
unfoldable pub write_routes : List ℕ → List ℕ → Filled
unfolding first_faulty route_bytes
write_routes s out = routes_given (first_faulty s) (route_bytes 0 s) out

-- ---- [N6] "A new call, given the known set, says whether 3 and 33 are ignored"

pub data Ignored : Type 0 where
  says : Bool → Ignored
  unsaid : (number place : ℕ) → Ignored

-- "exactly where a lookup of 121 with that set answers with its kind; it is refused as that lookup is": by 8 and 9 too, at the code byte, where 121 is broken
abbrev pub ignored_in : Answer → Ignored
ignored_in Absent = says false
ignored_in (Refused n p) = unsaid n p
ignored_in (Found g (unknown n)) = says false
ignored_in (Found g (known (broken n))) = unsaid n (code_place g)
ignored_in (Found g (known (number k z))) = says true
ignored_in (Found g (known (part k n))) = says true

unfoldable pub ignored : (ℕ → Bool) → List ℕ → Ignored
unfolding lookup
ignored set m = ignored_in (lookup kinds set m 121)
