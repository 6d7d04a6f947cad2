-- THE ANSWERS OF THE CALLS ON CLASSLESS ROUTES AS PLAIN NUMBERS, FOR C (document 02, request 14). The contracts of the calls rest on this. Assumes nothing.
use Rattle.std.specs.Prelude.{◌≡◌, Bool, true, false, cond, List, ℕ, eqb}
use Rattle.options.specs.Routes.{RouteStep, next, done, Ignored, says, unsaid, ignored, write_routes}
use Rattle.filled.specs.Plain.{Kept}
use Rattle.dhcpopt_routes.specs.declared.PlainRoute.{PlainRoute}
use Rattle.dhcpopt_routes.specs.declared.PlainIgnored.{PlainIgnored}

-- a route and the place behind it; or no route, and the place as it was
abbrev pub plain_route : ℕ → RouteStep → PlainRoute
plain_route at (next r after) = record { given = 1; destination = r.destination; width = r.width; router = r.router; next = after }
plain_route at done = record { given = 0; destination = 0; width = 0; router = 0; next = at }

abbrev pub plain_ignored : Ignored → PlainIgnored
plain_ignored (says true) = record { refusal = 0; ignored = 1; place = 0 }
plain_ignored (says false) = record { refusal = 0; ignored = 0; place = 0 }
plain_ignored (unsaid n p) = record { refusal = n; ignored = 0; place = p }

-- whether the status of a lookup's answer is that of a kind, 3 with its number or 4 with its part; no public contract rests on this
abbrev pub answers_kind : ℕ → ℕ
answers_kind status = cond (eqb status 3) 1 (cond (eqb status 4) 1 0)

-- ---- Case by case, in the papers' numbers: every member of every answer, 0 where the answer has none

-- "each step gives destination .., width and router, then done": then none is given, the numbers are 0, and the place stays
abbrev pub RouteByCase : Type 0
RouteByCase =
    (at d w r after : ℕ)
    → (plain_route at (next (record { destination = d; width = w; router = r }) after) ≡ record { given = 1; destination = d; width = w; router = r; next = after })
    × (plain_route at done ≡ record { given = 0; destination = 0; width = 0; router = 0; next = at })

-- "says whether 3 and 33 are ignored": 1 or 0; or number and place of a refusal
abbrev pub IgnoredByCase : Type 0
IgnoredByCase =
    (n p : ℕ)
    → (plain_ignored (says true) ≡ record { refusal = 0; ignored = 1; place = 0 })
    × (plain_ignored (says false) ≡ record { refusal = 0; ignored = 0; place = 0 })
    × (plain_ignored (unsaid n p) ≡ record { refusal = n; ignored = 0; place = p })

-- ---- No refusal has number 0, so that 0 can stand for none; that of the writer changes no byte. Its struct is told case by case in crate filled (FilledByCase)

abbrev pub IgnoredKept : Type 0
IgnoredKept = (set : ℕ → Bool) (m : List ℕ) (n p : ℕ) → ignored set m ≡ unsaid n p → n ≡ 0 → ⊥

abbrev pub RoutesKept : Type 0
RoutesKept = (s out : List ℕ) → Kept (write_routes s out) out
