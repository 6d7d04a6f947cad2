-- The walk's steps give the routes that stand, in order, and then done. Assumes nothing.
use mathlib.Core.Path.{◌≡◌, refl, sym, ap, ap₂, ◌∙◌, subst}
use mathlib.Core.Bool.{true, false}
use mathlib.Core.List.{List, [], ◌∷◌, ◌++◌}
use mathlib.Core.Logic.{◌⊎◌, inl, inr, ◌↔◌}
use Prim.Native.Nat.{ℕ, zero, suc, ◌+◌, ◌-◌, ◌*◌, ◌/◌, ◌%◌, ◌^◌, ◌≤◌, ◌<◌}
use native.Mathlib.Nat.{mul-mod_left, div-add-mod', mul_assoc, pow-suc}
use native.Mathlib.Omega.{arith}
use native.Mathlib.Decide.{dec_lt}
use lib.Pow.{shl-shr, shr-shr, pow-add}
use lib.ListN.{length, take, drop, replicate, length-drop, drop_of_length-le}
use lib.Seq.{length-take-le}
use Rattle.options.specs.Kinds.{first32, width_bytes, behind, route_fault_value}
use Rattle.options.specs.KindClaims.{four_bytes}
use Rattle.options.specs.Routes.{Route, cleared, route_in, RouteStep, next, done, unless_faulty, route_here, route_step}
use Rattle.options.specs.RouteData.{RouteAt, WideAt, CutAt}
use Rattle.options.specs.RouteClaims.{Word, word, Cleared, RouteMeans, RoutesFrom, no_route, a_route, RouteSteps, no_more, one_more, StepsGiveTheRoutes, StepStands, StepIsTheRoute, WalkEnds, DoneWhere, ClearedBits}
use Rattle.theorems.proofs.RouteRow.{bytes_of, bytes_are, stands, tail, to_size, all_there, to_are, by_are, within, route_wide, route_cut, route_right}

-- ---- The definition, by the bytes at a place

pub step_end : (d : List ℕ) (i : ℕ) → drop i d ≡ [] → route_step d i ≡ done
unfolding route_step
step_end d i e = ap (route_here i) e

pub step_wide : (d : List ℕ) (i w : ℕ) (xs : List ℕ) → drop i d ≡ w ∷ xs → 32 < w → route_step d i ≡ done
unfolding route_step
step_wide d i w xs e h = ap (route_here i) e ∙ ap (λ (n : ℕ). unless_faulty n (next (route_in w xs) (i + suc (behind w)))) (route_wide w xs h)

pub step_cut : (d : List ℕ) (i w : ℕ) (xs : List ℕ) → drop i d ≡ w ∷ xs → w ≤ 32 → length xs < behind w → route_step d i ≡ done
unfolding route_step
step_cut d i w xs e h l = ap (route_here i) e ∙ ap (λ (n : ℕ). unless_faulty n (next (route_in w xs) (i + suc (behind w)))) (route_cut w xs h l)

pub step_next : (d : List ℕ) (i w : ℕ) (xs : List ℕ) → drop i d ≡ w ∷ xs → w ≤ 32 → behind w ≤ length xs
    → route_step d i ≡ next (route_in w xs) (i + suc (behind w))
unfolding route_step
step_next d i w xs e h l = ap (route_here i) e ∙ ap (λ (n : ℕ). unless_faulty n (next (route_in w xs) (i + suc (behind w)))) (route_right w xs h l)

-- ---- The numbers

-- four bytes are one number
pub word_is : {xs : List ℕ} {x : ℕ} → Word xs x → x ≡ first32 xs
word_is word = omega arith

-- the first four bytes of a list
pub first_word : (a b c d : ℕ) (xs : List ℕ) (x : ℕ) → x ≡ first32 (a ∷ b ∷ c ∷ d ∷ xs) → Word (a ∷ b ∷ c ∷ d ∷ []) x
first_word a b c d xs x e =
    let n : four_bytes a b c d ≡ x = omega arith in
    subst (λ (y : ℕ). Word (a ∷ b ∷ c ∷ d ∷ []) y) n word

four_first : (by after : List ℕ) → length by ≡ 4 → Word by (first32 (by ++ after))
four_first (a ∷ b ∷ c ∷ d ∷ []) after h = first_word a b c d after _ refl
four_first [] after h = absurd (omega arith)
four_first (a ∷ []) after h = absurd (omega arith)
four_first (a ∷ b ∷ []) after h = absurd (omega arith)
four_first (a ∷ b ∷ c ∷ []) after h = absurd (omega arith)
four_first (a ∷ b ∷ c ∷ d ∷ e ∷ xs) after h = absurd (omega arith)

-- bytes that are missing count as 0
padded : (to : List ℕ) → length to ≤ 4 → Word (to ++ replicate (4 - length to) 0) (first32 to)
padded [] h = first_word 0 0 0 0 [] _ refl
padded (a ∷ []) h = first_word a 0 0 0 [] _ refl
padded (a ∷ b ∷ []) h = first_word a b 0 0 [] _ refl
padded (a ∷ b ∷ c ∷ []) h = first_word a b c 0 [] _ refl
padded (a ∷ b ∷ c ∷ d ∷ []) h = first_word a b c d [] _ refl
padded (a ∷ b ∷ c ∷ d ∷ e ∷ xs) h = absurd (omega arith)

-- ---- The route

cleared_is : (w : ℕ) (to : List ℕ) → length to ≤ 4 → Cleared w to (cleared w (first32 to))
cleared_is w to h =
    let x : ℕ = first32 to in
    record { whole = x; bytes_are = padded to h; kept = shl-shr (x / 2 ^ (32 - w)) (32 - w); none_below = mul-mod_left (x / 2 ^ (32 - w)) (2 ^ (32 - w)) }

-- no other number is so
only_cleared : (w : ℕ) (to : List ℕ) (x y : ℕ) → Cleared w to x → Cleared w to y → x ≡ y
only_cleared w to x y a b =
    let p : ℕ = 2 ^ (32 - w) in
    let whole : a.whole ≡ b.whole = word_is a.bytes_are ∙ sym (word_is b.bytes_are) in
    let high : x / p * p ≡ y / p * p = ap (λ (q : ℕ). q * p) (a.kept ∙ ap (λ (z : ℕ). z / p) whole ∙ sym b.kept) in
    let m : x / p * p + x % p ≡ x = div-add-mod' x p in
    let n : y / p * p + y % p ≡ y = div-add-mod' y p in
    omega (arith, a.none_below, b.none_below)

means_only : (w : ℕ) (to by : List ℕ) (r s : Route) → RouteMeans w to by r → RouteMeans w to by s → r ≡ s
means_only w to by r s a b =
    let d : r.destination ≡ s.destination = only_cleared w to r.destination s.destination a.destination_is b.destination_is in
    let n : r.width ≡ s.width = a.width_is ∙ sym b.width_is in
    let h : r.router ≡ s.router = word_is a.router_is ∙ sym (word_is b.router_is) in
    ap (λ (x : ℕ). record { destination = x; width = r.width; router = r.router }) d
    ∙ ap (λ (x : ℕ). record { destination = s.destination; width = x; router = r.router }) n
    ∙ ap (λ (x : ℕ). record { destination = s.destination; width = s.width; router = x }) h

module _ {d : List ℕ} {i w : ℕ} {to by : List ℕ} (r : RouteAt d i w to by) where
  means : RouteMeans w to by (route_in w (tail r))
  unfolding route_in
  means =
      record {
        width_is = refl;
        destination_is = rw (to_are r) (cleared_is w to (omega (arith, to_size r, r.narrow)));
        router_is = rw (by_are r) (four_first by r.after r.by_bytes);
      }

  stepped : route_step d i ≡ next (route_in w (tail r)) (i + suc (length to + 4))
  stepped = rw (to_size r) (step_next d i w (tail r) r.reads r.narrow (all_there r))

-- ---- The step at a place

data Here (d : List ℕ) (i : ℕ) : Type 0 where
  stands_here : {w : ℕ} {to by : List ℕ} (r : RouteAt d i w to by) → Here d i
  nothing_here : route_step d i ≡ done → ((w : ℕ) (to by : List ℕ) → RouteAt d i w to by → ⊥) → Here d i

not_both : (d : List ℕ) (i : ℕ) → route_step d i ≡ done → (w : ℕ) (to by : List ℕ) → RouteAt d i w to by → ⊥
not_both d i e w to by r =
    let s = stepped r in
    let z : ◌≡◌ {A = ℕ} 0 1 = cc in
    omega arith

here : (d : List ℕ) (i : ℕ) → Here d i
here d i = by (drop i d) refl
  where
    sized : (w : ℕ) (xs : List ℕ) → drop i d ≡ w ∷ xs → w ≤ 32 → Dec (length xs < behind w) → Here d i
    sized w xs e h (yes l) = let s = step_cut d i w xs e h l in nothing_here s (not_both d i s)
    sized w xs e h (no l) = stands_here (stands d i w xs e h (omega arith))

    wide : (w : ℕ) (xs : List ℕ) → drop i d ≡ w ∷ xs → Dec (32 < w) → Here d i
    wide w xs e (yes h) = let s = step_wide d i w xs e h in nothing_here s (not_both d i s)
    wide w xs e (no h) = sized w xs e (omega arith) (dec_lt (length xs) (behind w))

    by : (xs : List ℕ) → drop i d ≡ xs → Here d i
    by [] e = let s = step_end d i e in nothing_here s (not_both d i s)
    by (w ∷ xs) e = wide w xs e (dec_lt 32 w)

-- ---- The walk

to_routes : {d : List ℕ} {i : ℕ} {rs : List Route} → RouteSteps d i rs → RoutesFrom d i rs
to_routes {d} {i} (no_more e) = no_route (not_both d i e)
to_routes {d} {i} (one_more {after = j} {r = r} {rs = rs} e more) = by (here d i) (to_routes more)
  where
    by : Here d i → RoutesFrom d j rs → RoutesFrom d i (r ∷ rs)
    by (nothing_here n x) f = let z : ◌≡◌ {A = ℕ} 0 1 = cc in absurd (omega arith)
    by (stands_here {w} {to} {by} a) f =
        let s = stepped a in
        let at : j ≡ i + suc (length to + 4) = cc in
        let same : r ≡ route_in w (tail a) = cc in
        a_route {r = r} a (rw same (means a)) (rw at at f)

to_steps : {d : List ℕ} {i : ℕ} {rs : List Route} → RoutesFrom d i rs → RouteSteps d i rs
to_steps {d} {i} (no_route x) = by (here d i)
  where
    by : Here d i → RouteSteps d i []
    by (nothing_here e y) = no_more e
    by (stands_here {w} {to} {by} a) = absurd (x w to by a)
to_steps {d} {i} (a_route {w = w} {to = to} {by = by} {r = r} a m more) =
    one_more (stepped a ∙ ap (λ (x : Route). next x (i + suc (length to + 4))) (means_only w to by (route_in w (tail a)) r (means a) m)) (to_steps more)

pub steps_give_the_routes : StepsGiveTheRoutes
steps_give_the_routes d i rs = (to_routes, to_steps)

step_stands : (d : List ℕ) (i : ℕ) (r : Route) (after : ℕ) → route_step d i ≡ next r after → StepStands d i r after
step_stands d i r after e = by (here d i)
  where
    by : Here d i → StepStands d i r after
    by (nothing_here n x) = let z : ◌≡◌ {A = ℕ} 0 1 = cc in absurd (omega arith)
    by (stands_here {w} {to} {by} a) =
        let s = stepped a in
        let at : after ≡ i + suc (length to + 4) = cc in
        let same : r ≡ route_in w (tail a) = cc in
        record { width = w; to = to; by = by; stands = a; means = rw same (means a); place_is = at }

stands_step : (d : List ℕ) (i : ℕ) (r : Route) (after : ℕ) → StepStands d i r after → route_step d i ≡ next r after
stands_step d i r after s =
    let a = s.stands in
    stepped a ∙ ap (λ (x : Route). next x (i + suc (length s.to + 4))) (means_only s.width s.to s.by (route_in s.width (tail a)) r (means a) s.means)
    ∙ ap (λ (k : ℕ). next r k) (sym s.place_is)

pub step_is_the_route : StepIsTheRoute
step_is_the_route d i r after = (step_stands d i r after, stands_step d i r after)

-- the steps give one list
pub steps_only : {d : List ℕ} {i : ℕ} {rs qs : List Route} → RouteSteps d i rs → RouteSteps d i qs → rs ≡ qs
steps_only (no_more e) (no_more f) = refl
steps_only (no_more e) (one_more f more) = let z : ◌≡◌ {A = ℕ} 0 1 = cc in absurd (omega arith)
steps_only (one_more e more) (no_more f) = let z : ◌≡◌ {A = ℕ} 0 1 = cc in absurd (omega arith)
steps_only {d} (one_more {after = j} {r = r} {rs = rs} e more) (one_more {after = k} {r = q} {rs = qs} f rest) =
    let at : k ≡ j = cc in
    let same : r ≡ q = cc in
    ap₂ (λ (x : Route) (xs : List Route). x ∷ xs) same (steps_only more (subst (λ (n : ℕ). RouteSteps d n qs) at rest))

-- with n bytes left at most
ends : (d : List ℕ) (n i : ℕ) → length d - i ≤ n → (rs : List Route) × RouteSteps d i rs
ends d zero i h = by (here d i)
  where
    by : Here d i → (rs : List Route) × RouteSteps d i rs
    by (nothing_here e x) = ([], no_more e)
    by (stands_here a) = absurd (omega (arith, within a))
ends d (suc n) i h = by (here d i) (λ j g. ends d n j (omega arith))
  where
    by : Here d i → ((j : ℕ) → i < j → (rs : List Route) × RouteSteps d j rs) → (rs : List Route) × RouteSteps d i rs
    by (nothing_here e x) more = ([], no_more e)
    by (stands_here {w} {to} {by} a) more =
        let rest = more (i + suc (length to + 4)) (omega arith) in
        (route_in w (tail a) ∷ rest.0, one_more (stepped a) rest.1)

pub walk_ends : WalkEnds
walk_ends d i = ends d (length d) i (omega arith)

-- ---- Where it is done

done_where : (d : List ℕ) (i : ℕ) (xs : List ℕ) → drop i d ≡ xs → route_step d i ≡ done → (length d ≤ i) ⊎ (WideAt d i ⊎ CutAt d i)
done_where d i [] e s = inl (omega (arith, simp length-drop at (ap length e)))
done_where d i (w ∷ xs) e s = by (dec_lt 32 w)
  where
    sized : w ≤ 32 → Dec (length xs < behind w) → (length d ≤ i) ⊎ (WideAt d i ⊎ CutAt d i)
    sized h (yes l) = inr (inr (record { width = w; after = xs; size = width_bytes w; reads = e; narrow = h; size_is = bytes_of w; cut = l }))
    sized h (no l) = let n = step_next d i w xs e h (omega arith) in let z : ◌≡◌ {A = ℕ} 0 1 = cc in absurd (omega arith)

    by : Dec (32 < w) → (length d ≤ i) ⊎ (WideAt d i ⊎ CutAt d i)
    by (yes h) = inr (inl (record { width = w; after = xs; reads = e; wide = h }))
    by (no h) = sized (omega arith) (dec_lt (length xs) (behind w))

where_done : (d : List ℕ) (i : ℕ) → ((length d ≤ i) ⊎ (WideAt d i ⊎ CutAt d i)) → route_step d i ≡ done
where_done d i (inl h) = step_end d i (drop_of_length-le d h)
where_done d i (inr (inl w)) = step_wide d i w.width w.after w.reads w.wide
where_done d i (inr (inr c)) =
    step_cut d i c.width c.after c.reads c.narrow (omega (arith, c.cut, bytes_are c.width c.size c.size_is))

pub done_is_where : DoneWhere
done_is_where d i = (done_where d i (drop i d) refl, where_done d i)

-- ---- Bit by bit

-- the bits from k on are those of what is left after the k lowest
high_bits : (x y k j : ℕ) → x / 2 ^ k ≡ y / 2 ^ k → k ≤ j → x / 2 ^ j % 2 ≡ y / 2 ^ j % 2
high_bits x y k j e h =
    let s : j ≡ k + (j - k) = omega arith in
    rw (s, ← shr-shr x k (j - k), ← shr-shr y k (j - k), e)

-- a multiple of 2 ^ k has none below
low_bits : (x k j : ℕ) → x % 2 ^ k ≡ 0 → j < k → x / 2 ^ j % 2 ≡ 0
low_bits x k j e h =
    let s : k ≡ suc (k - suc j) + j = omega arith in
    let q : ℕ = x / 2 ^ k in
    let m : x ≡ q * 2 ^ k = omega (arith, div-add-mod' x (2 ^ k)) in
    let p : q * 2 ^ k ≡ q * 2 ^ (k - suc j) * 2 * 2 ^ j =
    ap (λ (n : ℕ). q * 2 ^ n) s ∙ ap (λ (n : ℕ). q * n) (pow-add 2 (suc (k - suc j)) j ∙ ap (λ (n : ℕ). n * 2 ^ j) (pow-suc 2 (k - suc j)))
    ∙ simp mul_assoc in
    ap (λ (n : ℕ). n / 2 ^ j % 2) (m ∙ p) ∙ ap (λ (n : ℕ). n % 2) (shl-shr (q * 2 ^ (k - suc j) * 2) j) ∙ mul-mod_left (q * 2 ^ (k - suc j)) 2

pub cleared_bits : ClearedBits
cleared_bits w to x c j = (high_bits x c.whole (32 - w) j c.kept, low_bits x (32 - w) j c.none_below)
