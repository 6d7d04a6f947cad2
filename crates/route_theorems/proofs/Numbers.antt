-- Room enough for the writer, and which numbers the calls give: RoutesRoomIsEnough and RouteNumbers, proved. Assumes nothing.
use mathlib.Core.Path.{◌≡◌, refl, sym, subst}
use mathlib.Core.List.{List, [], ◌∷◌, ◌++◌}
use mathlib.Core.Bool.{Bool}
use mathlib.Core.Logic.{◌⊎◌, inl, inr}
use Prim.Native.Nat.{ℕ, suc, ◌+◌, ◌≤◌}
use native.Mathlib.Omega.{arith}
use lib.ListN.{length, take, length-append, length-take}
use Rattle.options.specs.Refusals.{First}
use Rattle.options.specs.Kinds.{kinds, broken}
use Rattle.options.specs.KindClaims.{OneOf, FromTo}
use Rattle.options.specs.Answers.{declined, Filled}
use Rattle.options.specs.ReadingClaims.{ReaderRow, row_10, of_message, LookupRow, of_reader, row_8_9}
use Rattle.options.specs.VendorClaims.{filled}
use Rattle.options.specs.Routes.{write_routes, unsaid, ignored}
use Rattle.options.specs.RouteClaims.{RoutesAsData, no_routes, when_one_route, WritesRoutes, write_26, write_11, writes, RoutesRoomIsEnough, IgnoredBy, refused_by_a_row, yes_its_kind, no_absent, no_unknown, RouteNumbers}
use Rattle.theorems.proofs.View.{clash}
use Rattle.theorems.proofs.Reading.{refused_by_the_table}
use Rattle.theorems.proofs.Numbers.{reading_numbers}
use Rattle.theorems.proofs.KindRules.{broken_8_or_9}
use Rattle.route_theorems.proofs.Written.{route_writer_is_correct}
use Rattle.route_theorems.proofs.Ignored.{ignored_is_correct}

no_longer : {s b : List ℕ} → RoutesAsData s b → length b ≤ length s
no_longer no_routes = omega arith
no_longer (when_one_route {w} {a} {b} {c} {d} {e} {f} {g} {h} {n} {s} {xs} l x r) =
    omega (arith, no_longer r, length-append (take n (a ∷ b ∷ c ∷ d ∷ [])) (e ∷ f ∷ g ∷ h ∷ xs), length-take n (a ∷ b ∷ c ∷ d ∷ []))

pub routes_room_is_enough : RoutesRoomIsEnough
routes_room_is_enough s out b x r h = (route_writer_is_correct s out (filled b out)).1 (writes x r (omega (arith, no_longer r, h)))

when_of_writer : {s out : List ℕ} {w : Filled} (n p : ℕ) → WritesRoutes s out w → w.answer ≡ declined n p → OneOf n (11 ∷ 26 ∷ [])
when_of_writer n p (write_26 f) e = inr (inl (cc))
when_of_writer n p (write_11 x r h) e = inl (cc)
when_of_writer n p (writes x r h) e = clash (cc)

of_reading : {m : List ℕ} {n p : ℕ} → ReaderRow m 121 n p → FromTo 1 9 n
of_reading (row_10 (inl e)) = absurd (omega arith)
of_reading (row_10 (inr e)) = absurd (omega arith)
of_reading {m} {n} {p} (of_message a b f) = let h = reading_numbers m n p ((refused_by_the_table m n p).1 f) in (h.0, omega (arith, h.1))

of_row : {set : ℕ → Bool} {m : List ℕ} {n p : ℕ} → LookupRow kinds set m 121 n p → FromTo 1 9 n
of_row (of_reader r) = of_reading r
of_row (row_8_9 {n} {o} {os} a k q e) = by (broken_8_or_9 121 _ n e)
  where
    by : (n ≡ 8) ⊎ (n ≡ 9) → FromTo 1 9 n
    by (inl z) = (omega arith, omega arith)
    by (inr z) = (omega arith, omega arith)

of_ignored : {set : ℕ → Bool} {m : List ℕ} (n p : ℕ) → IgnoredBy set m (unsaid n p) → FromTo 1 9 n
of_ignored n p (refused_by_a_row r) = of_row r

pub route_numbers : RouteNumbers
route_numbers = (
  (λ s out n p e. when_of_writer n p ((route_writer_is_correct s out (write_routes s out)).0 refl) e),
  (λ set m n p e. of_ignored n p ((ignored_is_correct set m (unsaid n p)).0 e)),
)
