-- The first faulty route of those given to the writer. Assumes nothing.
use mathlib.Core.Path.{◌≡◌, refl, sym, ap, ◌∙◌, subst}
use mathlib.Core.Bool.{Bool, true, false}
use mathlib.Core.List.{List, [], ◌∷◌, ◌++◌}
use mathlib.Core.Option.{Option, none, some}
use mathlib.Core.Logic.{◌⊎◌, inl, inr}
use Prim.Native.Nat.{ℕ, zero, suc, ◌+◌, ◌-◌, ◌*◌, ◌/◌, ◌%◌, ◌^◌, ◌≤◌, ◌<◌}
use native.Mathlib.Nat.{div-add-mod', div-mul_cancel, dvd_of_mod-eq-zero}
use native.Mathlib.Omega.{arith}
use native.Mathlib.Decide.{dec_lt, ℕ_discrete}
use lib.ListN.{length, take, drop, length-append, length-drop, take-append-drop}
use lib.Seq.{drop-drop, length-take-le}
use borrow.Author.Tests.{lt-ltb, le-ltb, eq-eqb, ne_eqb}
use Rattle.options.specs.Kinds.{first32}
use Rattle.options.specs.Routes.{cleared, is_faulty_value, faulty_from, first_faulty}
use Rattle.options.specs.RouteClaims.{Word, word, RightRoute, FirstFaulty}
use Rattle.route_theorems.proofs.Steps.{word_is, first_word}

-- ---- One route

pub data Judged (w : ℕ) (xs : List ℕ) : Type 0 where
  is_right : is_faulty_value w xs ≡ false → 8 ≤ length xs → w ≤ 32 → cleared w (first32 xs) ≡ first32 xs → Judged w xs
  is_short : is_faulty_value w xs ≡ true → length xs < 8 → Judged w xs
  is_wide : is_faulty_value w xs ≡ true → 32 < w → Judged w xs
  has_bits : is_faulty_value w xs ≡ true → (cleared w (first32 xs) ≡ first32 xs → ⊥) → Judged w xs

module _ (w : ℕ) (xs : List ℕ) where
  pub faulty_short : length xs < 8 → is_faulty_value w xs ≡ true
  unfolding is_faulty_value
  faulty_short h = rw (lt-ltb (length xs) 8 h)

  pub faulty_wide : 32 < w → 8 ≤ length xs → is_faulty_value w xs ≡ true
  unfolding is_faulty_value
  faulty_wide h l = rw (le-ltb (length xs) 8 l, lt-ltb 32 w h)

  pub faulty_bits : w ≤ 32 → 8 ≤ length xs → (cleared w (first32 xs) ≡ first32 xs → ⊥) → is_faulty_value w xs ≡ true
  unfolding is_faulty_value
  faulty_bits h l b = rw (le-ltb (length xs) 8 l, le-ltb 32 w h, ne_eqb (cleared w (first32 xs)) (first32 xs) b)

  pub faulty_not : w ≤ 32 → 8 ≤ length xs → cleared w (first32 xs) ≡ first32 xs → is_faulty_value w xs ≡ false
  unfolding is_faulty_value
  faulty_not h l b = rw (le-ltb (length xs) 8 l, le-ltb 32 w h, eq-eqb (cleared w (first32 xs)) (first32 xs) b)

  by_bits : w ≤ 32 → 8 ≤ length xs → Dec (cleared w (first32 xs) ≡ first32 xs) → Judged w xs
  by_bits h l (yes e) = is_right (faulty_not h l e) l h e
  by_bits h l (no e) = has_bits (faulty_bits h l e) e

  by_width : 8 ≤ length xs → Dec (32 < w) → Judged w xs
  by_width l (yes h) = is_wide (faulty_wide h l) h
  by_width l (no h) = by_bits (omega arith) l (ℕ_discrete (cleared w (first32 xs)) (first32 xs))

  by_size : Dec (length xs < 8) → Judged w xs
  by_size (yes h) = is_short (faulty_short h) h
  by_size (no h) = by_width (omega arith) (dec_lt 32 w)

  pub one_judged : Judged w xs
  one_judged = by_size (dec_lt (length xs) 8)

-- ---- Route number k

four : (xs : List ℕ) → 4 ≤ length xs → Word (take 4 xs) (first32 xs)
four (a ∷ b ∷ c ∷ d ∷ xs) h = first_word a b c d xs _ refl
four [] h = absurd (omega arith)
four (a ∷ []) h = absurd (omega arith)
four (a ∷ b ∷ []) h = absurd (omega arith)
four (a ∷ b ∷ c ∷ []) h = absurd (omega arith)

first_of : {to : List ℕ} {x : ℕ} → Word to x → (ys : List ℕ) → (length to ≡ 4) × (first32 (to ++ ys) ≡ x)
first_of word ys = (refl, omega arith)

module _ (s : List ℕ) (k w : ℕ) (xs : List ℕ) (e : drop (9 * k) s ≡ w ∷ xs) where
  pub right_is : 8 ≤ length xs → w ≤ 32 → cleared w (first32 xs) ≡ first32 xs → RightRoute s k
  right_is l h c =
      let m : 4 ≤ length (drop 4 xs) = simp length-drop (omega arith) in
      let parts : xs ≡ take 4 xs ++ (take 4 (drop 4 xs) ++ drop 4 (drop 4 xs)) = rw (take-append-drop 4 (drop 4 xs), take-append-drop 4 xs) in
      record {
        width = w;
        to = take 4 xs;
        by = take 4 (drop 4 xs);
        after = drop 4 (drop 4 xs);
        address = first32 xs;
        reads = e ∙ ap (λ (ys : List ℕ). w ∷ ys) parts;
        to_is = four xs (omega arith);
        by_bytes = length-take-le 4 (drop 4 xs) m;
        narrow = h;
        no_bits = let z : cleared w (first32 xs) + first32 xs % 2 ^ (32 - w) ≡ first32 xs = div-add-mod' (first32 xs) (2 ^ (32 - w)) in omega (arith, c);
      }

  pub right_has : RightRoute s k → (8 ≤ length xs) × ((w ≤ 32) × (cleared w (first32 xs) ≡ first32 xs))
  right_has r =
      let tail : List ℕ = r.to ++ (r.by ++ r.after) in
      let here : w ≡ r.width = cc (e, r.reads) in
      let rest : xs ≡ tail = cc (e, r.reads) in
      let f = first_of r.to_is (r.by ++ r.after) in
      let n : length tail ≡ 8 + length r.after = omega (arith, length-append r.to (r.by ++ r.after), length-append r.by r.after, r.by_bytes, f.0) in
      let number : first32 xs ≡ r.address = rw rest f.1 in
      let bits : cleared r.width r.address ≡ r.address = div-mul_cancel (2 ^ (32 - r.width)) (dvd_of_mod-eq-zero (2 ^ (32 - r.width)) r.no_bits) in
      (omega (arith, ap length rest), (rw here r.narrow, rw (number, here) bits))

-- ---- The first faulty one

faulty_skip : (k n : ℕ) (xs : List ℕ) → n ≤ length xs → faulty_from k n xs ≡ faulty_from k 0 (drop n xs)
unfolding faulty_from
faulty_skip k zero xs h = refl
faulty_skip k (suc n) [] h = absurd (omega arith)
faulty_skip k (suc n) (x ∷ xs) h = faulty_skip k n xs (omega arith)

pub faulty_here : (k w : ℕ) (xs : List ℕ) → is_faulty_value w xs ≡ true → faulty_from k 0 (w ∷ xs) ≡ some k
unfolding faulty_from
faulty_here k w xs e = rw e

pub faulty_next : (k w : ℕ) (xs : List ℕ) → is_faulty_value w xs ≡ false → 8 ≤ length xs → faulty_from k 0 (w ∷ xs) ≡ faulty_from (suc k) 0 (drop 8 xs)
unfolding faulty_from
faulty_next k w xs e h = rw e (faulty_skip (suc k) 8 xs h)

abbrev Before : List ℕ → ℕ → Type 0
Before s k = (j : ℕ) → j < k → RightRoute s j

before_next : (s : List ℕ) (k : ℕ) → Before s k → RightRoute s k → Before s (suc k)
before_next s k b r j h = by (dec_lt j k)
  where
    by : Dec (j < k) → RightRoute s j
    by (yes l) = b j l
    by (no l) = let e : j ≡ k = omega arith in rw e r

data Found (s : List ℕ) (o : Option ℕ) : Type 0 where
  none_found : {m : ℕ} → o ≡ none → 9 * m ≡ length s → Before s m → Found s o
  one_found : {k : ℕ} → o ≡ some k → 9 * k < length s → Before s k → (RightRoute s k → ⊥) → Found s o

module _ (s : List ℕ) where
  abbrev From : ℕ → Type 0
  From k = 9 * k ≤ length s → Before s k → Found s (faulty_from k 0 (drop (9 * k) s))

  at_end_lem : (k : ℕ) → drop (9 * k) s ≡ [] → From k
  unfolding faulty_from
  at_end_lem k e l b = none_found {m = k} (rw e) (omega (arith, simp length-drop at (ap length e))) b

  at_one : (k w : ℕ) (xs : List ℕ) → drop (9 * k) s ≡ w ∷ xs → From (suc k) → From k
  at_one k w xs e more l b = by (one_judged w xs)
    where
      size : length s - 9 * k ≡ suc (length xs)
      size = omega (arith, simp length-drop at (ap length e))

      left : drop (9 * suc k) s ≡ drop 8 xs
      left = let n : 9 * suc k ≡ 9 * k + 9 = omega arith in rw (n, ← drop-drop 9 (9 * k) s, e)

      stop : is_faulty_value w xs ≡ true → (RightRoute s k → ⊥) → Found s (faulty_from k 0 (drop (9 * k) s))
      stop f x = one_found {k = k} (rw e (faulty_here k w xs f)) (omega (arith, size)) b x

      by : Judged w xs → Found s (faulty_from k 0 (drop (9 * k) s))
      by (is_right f g h c) =
          rw (e, faulty_next k w xs f g) (rw left at (more (omega (arith, size)) (before_next s k b (right_is s k w xs e g h c))))
      by (is_short f g) = stop f (λ r. omega (arith, (right_has s k w xs e r).0))
      by (is_wide f h) = stop f (λ r. omega (arith, (right_has s k w xs e r).1.0))
      by (has_bits f c) = stop f (λ r. c (right_has s k w xs e r).1.1)

  at_any : (k : ℕ) → From (suc k) → (xs : List ℕ) → drop (9 * k) s ≡ xs → From k
  at_any k more [] e = at_end_lem k e
  at_any k more (w ∷ xs) e = at_one k w xs e more

  -- with n bytes left at most
  search_from : (n k : ℕ) → length s - 9 * k ≤ n → From k
  search_from zero k h = at_end_lem k (none_left (drop (9 * k) s) refl)
    where
      none_left : (xs : List ℕ) → drop (9 * k) s ≡ xs → drop (9 * k) s ≡ []
      none_left [] e = e
      none_left (x ∷ xs) e = absurd (omega (arith, simp length-drop at (ap length e)))
  search_from (suc n) k h = λ l b. at_any k (search_from n (suc k) (omega arith)) (drop (9 * k) s) refl l b

  found : Found s (faulty_from 0 0 s)
  found = search_from (length s) 0 (omega arith) (omega arith) (λ j h. absurd (omega arith))

pub data Verdict (s : List ℕ) : Type 0 where
  all_right : {m : ℕ} → first_faulty s ≡ none → 1 ≤ m → 9 * m ≡ length s → ((j : ℕ) → j < m → RightRoute s j) → Verdict s
  first : {k : ℕ} → first_faulty s ≡ some k → FirstFaulty s k → Verdict s

nothing_right : RightRoute [] 0 → ⊥
nothing_right r = let z : ◌≡◌ {A = ℕ} 0 1 = cc r.reads in omega arith

pub verdict : (s : List ℕ) → Verdict s
unfolding first_faulty
verdict [] = first {k = 0} refl (record { before = λ j h. absurd (omega arith); begun = inr refl; faulty = nothing_right })
verdict (w ∷ xs) = by (found (w ∷ xs))
  where
    by : Found (w ∷ xs) (faulty_from 0 0 (w ∷ xs)) → Verdict (w ∷ xs)
    by (none_found {m} e n b) = all_right {m = m} e (omega arith) n b
    by (one_found {k} e h b x) = first {k = k} e (record { before = b; begun = inl h; faulty = x })

-- there is one at most
pub only_first : (s : List ℕ) (j k : ℕ) → FirstFaulty s j → FirstFaulty s k → j ≡ k
only_first s j k a b = by (dec_lt j k) (dec_lt k j)
  where
    by : Dec (j < k) → Dec (k < j) → j ≡ k
    by (yes h) x = absurd (a.faulty (b.before j h))
    by (no h) (yes l) = absurd (b.faulty (a.before k l))
    by (no h) (no l) = omega arith

-- where all are right there is none
pub none_first : (s : List ℕ) (m k : ℕ) → 1 ≤ m → 9 * m ≡ length s → ((j : ℕ) → j < m → RightRoute s j) → FirstFaulty s k → ⊥
none_first s m k p n b f = by f.begun
  where
    by : ((9 * k < length s) ⊎ (k ≡ 0)) → ⊥
    by (inl h) = f.faulty (b k (omega arith))
    by (inr z) = f.faulty (b k (omega arith))
