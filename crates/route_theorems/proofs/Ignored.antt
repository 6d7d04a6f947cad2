-- The call on 3 and 33 follows the lookup of 121; and where 121 has its kind, routes fill its data. Assumes nothing.
use mathlib.Core.Path.{◌≡◌, refl, sym, ap, ◌∙◌, subst}
use mathlib.Core.Bool.{Bool, true, false, cond}
use mathlib.Core.List.{List, [], ◌∷◌}
use mathlib.Core.Logic.{◌↔◌}
use Prim.Native.Nat.{ℕ, zero, suc, ◌%◌, ◌≤◌}
use native.Mathlib.Omega.{arith}
use lib.Dec.{eqb, leb}
use lib.ListN.{length}
use borrow.Author.Tests.{leb-true, le-leb, eq-eqb}
use Rattle.options.specs.Message.{Opt, end_to_end}
use Rattle.options.specs.Reading.{Reading, accepted, refused, read_message, pieces}
use Rattle.options.specs.Kinds.{Kind, routes, both, Value, broken, number, part, row_of, routes_fault_value, fault, value_fault_value, meaning, unless, judged, kinds}
use Rattle.options.specs.Answers.{Origin, code_place, Content, unknown, known, Answer, Absent, Refused, Found, origin_of, content_of, shown, answered, lookup}
use Rattle.options.specs.ReadingClaims.{GivesNumber, refuses, breaks, LookupRow, CorrectAnswer}
use Rattle.options.specs.RouteData.{RouteBegins}
use Rattle.options.specs.Routes.{Ignored, says, unsaid, ignored_in, ignored}
use Rattle.options.specs.RouteClaims.{AsLookedUp, IgnoredAsLookedUp, IgnoredBy, refused_by_a_row, yes_its_kind, no_absent, no_unknown, IgnoredIsCorrect, RoutesFillTheData}
use Rattle.theorems.proofs.Lookup.{lookup_is_correct, lookup_refused_by_the_table}
use Rattle.theorems.proofs.RouteRow.{Met, all_right, a_wide, a_cut, whole, full_zero}

-- ---- What the row makes of data

-- a part of the kind, or broken
data Routed (d : List ℕ) : Value → Type 0 where
  is_part : 5 ≤ length d → routes_fault_value 0 d ≡ 0 → Routed d (part routes (length d))
  when_is_broken : {n : ℕ} → Routed d (broken (suc n))

abbrev verdict : Bool → ℕ → List ℕ → Value
verdict long f d = unless (cond long f 8) (part routes (length d))

by_fault : (d : List ℕ) (long : Bool) (f : ℕ) → (long ≡ true → 5 ≤ length d) → routes_fault_value 0 d ≡ f → Routed d (verdict long f d)
by_fault d true zero l e = is_part (l refl) e
by_fault d true (suc n) l e = when_is_broken
by_fault d false f l e = when_is_broken

long_enough : (n : ℕ) → both (leb 5 n) (eqb (n % 1) 0) ≡ true → 5 ≤ n
long_enough n h = by (leb 5 n) refl h
  where
    by : (b : Bool) → leb 5 n ≡ b → both b (eqb (n % 1) 0) ≡ true → 5 ≤ n
    by true e q = leb-true 5 n e
    by false e q = let z : ◌≡◌ {A = ℕ} 0 1 = cc in absurd (omega arith)

routed : (d : List ℕ) → Routed d (kinds.value 121 d)
unfolding row_of judged fault value_fault_value meaning
routed d = by_fault d (both (leb 5 (length d)) (eqb (length d % 1) 0)) (routes_fault_value 0 d) (long_enough (length d)) refl

pub routes_fill_the_data : RoutesFillTheData
unfolding row_of judged fault value_fault_value meaning
routes_fill_the_data d = (to (kinds.value 121 d) (routed d), from)
  where
    met : routes_fault_value 0 d ≡ 0 → Met d (routes_fault_value 0 d) → RouteBegins d (length d)
    met z (all_right e b) = b
    met z (a_wide e b w) = absurd (omega (arith, z, e))
    met z (a_cut e b x) = absurd (omega (arith, z, e))

    to : (v : Value) → Routed d v → v ≡ part routes (length d) → (5 ≤ length d) × RouteBegins d (length d)
    to v (is_part l z) e = (l, met z (whole d))
    to v when_is_broken e = let z : ◌≡◌ {A = ℕ} 0 1 = cc in absurd (omega arith)

    from : (5 ≤ length d) × RouteBegins d (length d) → kinds.value 121 d ≡ part routes (length d)
    from h =
        let one : length d % 1 ≡ 0 = omega arith in
        rw (le-leb 5 (length d) h.0, eq-eqb (length d % 1) 0 one, full_zero d h.1)

-- ---- The lookup of 121

-- the answers that it has
data Only : Answer → Type 0 where
  is_absent : Only Absent
  is_refused : {n p : ℕ} → Only (Refused n p)
  is_unknown : {g : Origin} {n : ℕ} → Only (Found g (unknown n))
  found_broken : {g : Origin} {n : ℕ} → Only (Found g (known (broken (suc n))))
  found_routes : {g : Origin} {n : ℕ} → Only (Found g (known (part routes n)))

module _ (set : ℕ → Bool) where
  value_only : (g : Origin) (d : List ℕ) (v : Value) → Routed d v → Only (Found g (known v))
  value_only g d v (is_part l z) = found_routes
  value_only g d v when_is_broken = found_broken

  content_only : (g : Origin) (d : List ℕ) (b : Bool) → Only (Found g (cond (cond b true false) (known (kinds.value 121 d)) (unknown (length d))))
  content_only g d true = value_only g d (kinds.value 121 d) (routed d)
  content_only g d false = is_unknown

  pieces_only : (ps : List Opt) → Only (shown kinds set 121 ps)
  unfolding row_of
  pieces_only [] = is_absent
  pieces_only (o ∷ os) = content_only (origin_of o os) (end_to_end (o ∷ os)) (set 121)

  read_only : (r : Reading) → Only (answered kinds set 121 r)
  read_only (refused n p) = is_refused
  read_only (accepted os) = pieces_only (pieces 121 os)

  lookup_only : (m : List ℕ) → Only (lookup kinds set m 121)
  unfolding lookup
  lookup_only m = read_only (read_message m)

yes_kind : (a : Answer) → Only a → ignored_in a ≡ says true → (g : Origin) × ((n : ℕ) × (a ≡ Found g (known (part routes n))))
yes_kind a is_absent e = let z : ◌≡◌ {A = ℕ} 0 1 = cc in absurd (omega arith)
yes_kind a is_refused e = let z : ◌≡◌ {A = ℕ} 0 1 = cc in absurd (omega arith)
yes_kind a is_unknown e = let z : ◌≡◌ {A = ℕ} 0 1 = cc in absurd (omega arith)
yes_kind a found_broken e = let z : ◌≡◌ {A = ℕ} 0 1 = cc in absurd (omega arith)
yes_kind a (found_routes {g} {n}) e = (g, (n, refl))

gives : {a : Answer} {j k n p : ℕ} → GivesNumber a j k → j ≡ n → k ≡ p → GivesNumber a n p
gives {a} {j} {k} {n} {p} x e f = subst (λ (q : ℕ). GivesNumber a n q) f (subst (λ (i : ℕ). GivesNumber a i k) e x)

refused_to : (a : Answer) → Only a → (n p : ℕ) → ignored_in a ≡ unsaid n p → GivesNumber a n p
refused_to a is_absent n p e = let z : ◌≡◌ {A = ℕ} 0 1 = cc in absurd (omega arith)
refused_to a is_refused n p e = gives refuses (cc) (cc)
refused_to a is_unknown n p e = let z : ◌≡◌ {A = ℕ} 0 1 = cc in absurd (omega arith)
refused_to a found_broken n p e = gives breaks (cc) (cc)
refused_to a found_routes n p e = let z : ◌≡◌ {A = ℕ} 0 1 = cc in absurd (omega arith)

refused_from : {a : Answer} {n p : ℕ} → GivesNumber a n p → ignored_in a ≡ unsaid n p
refused_from refuses = refl
refused_from breaks = refl

pub ignored_as_looked_up : IgnoredAsLookedUp
unfolding ignored
ignored_as_looked_up set m =
    let a : Answer = lookup kinds set m 121 in
    record { yes_where = (yes_kind a (lookup_only set m), λ x. ap ignored_in x.1.1); refused_where = λ n p. (refused_to a (lookup_only set m) n p, refused_from) }

-- ---- Down to the message

module _ (set : ℕ → Bool) (m : List ℕ) where
  is_right : (a : Answer) → lookup kinds set m 121 ≡ a → CorrectAnswer kinds set m 121 a
  is_right a e = (lookup_is_correct kinds set m 121 a (omega arith)).0 e

  by_row : {n p : ℕ} → GivesNumber (lookup kinds set m 121) n p → LookupRow kinds set m 121 n p
  by_row {n} {p} x = (lookup_refused_by_the_table kinds set m 121 n p (omega arith)).0 x

  by_answer : (a : Answer) → lookup kinds set m 121 ≡ a → Only a → IgnoredBy set m (ignored_in a)
  by_answer a e is_absent = no_absent (is_right Absent e)
  by_answer a e (is_refused {n} {p}) = refused_by_a_row (by_row (subst (λ (x : Answer). GivesNumber x n p) (sym e) refuses))
  by_answer a e (is_unknown {g} {n}) = no_unknown (is_right (Found g (unknown n)) e)
  by_answer a e (found_broken {g} {n}) = refused_by_a_row (by_row (subst (λ (x : Answer). GivesNumber x (suc n) (code_place g)) (sym e) breaks))
  by_answer a e (found_routes {g} {n}) = yes_its_kind {g = g} {n = n} (is_right (Found g (known (part routes n))) e)

  no_other : (x : Ignored) → IgnoredBy set m x → ignored_in (lookup kinds set m 121) ≡ x
  no_other x (refused_by_a_row {n} {p} r) = refused_from ((lookup_refused_by_the_table kinds set m 121 n p (omega arith)).1 r)
  no_other x (yes_its_kind {g} {n} c) = ap ignored_in {y = Found g (known (part routes n))} ((lookup_is_correct kinds set m 121 (Found g (known (part routes n))) (omega arith)).1 c)
  no_other x (no_absent c) = ap ignored_in ((lookup_is_correct kinds set m 121 Absent (omega arith)).1 c)
  no_other x (no_unknown {g} {n} c) = ap ignored_in {y = Found g (unknown n)} ((lookup_is_correct kinds set m 121 (Found g (unknown n)) (omega arith)).1 c)

pub ignored_is_correct : IgnoredIsCorrect
unfolding ignored
ignored_is_correct set m x =
    (λ e. subst (IgnoredBy set m) e (by_answer set m (lookup kinds set m 121) refl (lookup_only set m)), no_other set m x)
