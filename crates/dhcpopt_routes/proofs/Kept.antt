-- The calls on classless routes: their answers as plain numbers. Assumes nothing.
use mathlib.Core.Path.{◌≡◌, refl, sym, ap, ◌∙◌}
use mathlib.Core.Bool.{Bool, true, false}
use mathlib.Core.List.{List}
use mathlib.Core.Logic.{◌⊎◌, inl, inr}
use Prim.Native.Nat.{ℕ}
use native.Mathlib.Omega.{arith}
use Rattle.options.specs.Kinds.{broken, number, part, kinds}
use Rattle.options.specs.Answers as asked
use Rattle.options.specs.Routes.{ignored_in, ignored, unsaid, write_routes}
use Rattle.options.specs.RouteClaims.{WritesRoutes, write_26, write_11, writes}
use Rattle.route_theorems.proofs.Numbers.{route_numbers}
use Rattle.route_theorems.proofs.Written.{route_writer_is_correct}
use Rattle.filled.specs.Plain.{Kept}
use Rattle.filled.proofs.Kept.{declined_kept, given_is_kept}
use Rattle.dhcpopt_reader.specs.Plain.{plain_answer}
use Rattle.dhcpopt_reader.specs.declared.PlainAnswer.{PlainAnswer}
use Rattle.dhcpopt_routes.specs.declared.PlainIgnored.{PlainIgnored}
use Rattle.dhcpopt_routes.specs.Plain.{plain_route, plain_ignored, answers_kind, RouteByCase, IgnoredByCase, IgnoredKept, RoutesKept}

-- ---- The walk

pub route_by_case : RouteByCase
route_by_case at d w r after = (refl, refl)

-- ---- Whether 3 and 33 are ignored

abbrev pub told : PlainAnswer → PlainIgnored
told a = record { refusal = a.refusal; ignored = answers_kind a.status; place = a.place }

-- the answer of a lookup tells what is said
pub told_right : (a : asked.Answer) → told (plain_answer a) ≡ plain_ignored (ignored_in a)
told_right asked.Absent = refl
told_right (asked.Refused n p) = refl
told_right (asked.Found g (asked.unknown n)) = refl
told_right (asked.Found g (asked.known (broken n))) = refl
told_right (asked.Found g (asked.known (number k z))) = refl
told_right (asked.Found g (asked.known (part k n))) = refl

pub ignored_told : (set : ℕ → Bool) (m : List ℕ) → told (plain_answer (asked.lookup kinds set m 121)) ≡ plain_ignored (ignored set m)
unfolding ignored
ignored_told set m = told_right (asked.lookup kinds set m 121)

pub ignored_by_case : IgnoredByCase
ignored_by_case n p = (refl, refl, refl)

pub ignored_kept : IgnoredKept
ignored_kept set m n p e z = let h = route_numbers.1 set m n p e in omega (arith, h.0, z)

-- ---- The writer

kept : {s out : List ℕ} {w : asked.Filled} → WritesRoutes s out w → Kept w out
kept {out = out} (write_26 {k} f) = declined_kept 26 k out (λ z. omega arith)
kept {out = out} (write_11 {b} x r h) = declined_kept 11 (lib.ListN.length out) out (λ z. omega arith)
kept {out = out} (writes {b} x r h) = given_is_kept (lib.ListN.length b) _ out

pub routes_kept : RoutesKept
routes_kept s out = kept ((route_writer_is_correct s out (write_routes s out)).0 refl)
