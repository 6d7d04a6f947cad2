-- The options of a message counted one after another. Assumes nothing.
use Rattle.std.proofs.Common.{◌≡◌, ℕ, zero, suc, ◌+◌, ◌/◌, ◌%◌, ◌^◌, ◌<◌, ◌≤◌, Option, Some, None, Bool, true, false, cond, eqb, List, [], ◌∷◌, length, get_or, sym, refl, ap, ◌∙◌, arith, length-append, length-set, eq-eqb, ne_eqb}
use native.Mathlib.Decide.{ℕ_discrete}
use native.Mathlib.Nat.{zero-div}
use Rattle.options.specs.Message.{Opt, end_to_end}
use Rattle.options.specs.Reading.{pieces}
use Rattle.options.specs.CodeSet.{marked, with_mark, no_codes}
use Rattle.options.specs.Captures.{one_if_any}
use Rattle.codeset.proofs.Words.{mark_same, mark_other}
use Rattle.message.specs.Active.{active_options}
use Rattle.records.specs.FieldRecords.{ActiveEnds}
use Rattle.records.specs.Places.{Stands, left_at, bytes_left, Goes, field_at, next_place_value, some_place}
use Rattle.records.proofs.Places.{stands_first, left_first, at_pad, option_in_lem, option_stands, option_at, option_left, option_less, option_size, end_none, end_next}
use Rattle.tally.specs.Noted.{Raises, only_at, end_marks_value, Reaches, CountsOptions}

-- a code was met: 0 and 255 are no codes, and are marked from the start on
abbrev taken : List ℕ → ℕ → Bool
taken met c = cond (eqb c 0) false (cond (eqb c 255) false (marked met c))

-- what the options os still count for, where the codes in `met` were counted before
abbrev still_held : List ℕ → List Opt → ℕ → ℕ
still_held met os c = cond (taken met c) 0 (one_if_any (pieces c os))

abbrev size : List Opt → ℕ → ℕ
size os c = length (end_to_end (pieces c os))

-- x with n that are still to come makes w, in 64 bits
pub record Left (x n w : ℕ) : Type 0 where
  pub small : x < 2 ^ 64
  pub makes : (x + n) % 2 ^ 64 ≡ w % 2 ^ 64

left_same : {x n k w : ℕ} → Left x n w → n ≡ k → Left x k w
left_same l e = record { small = l.small; makes = omega (arith, l.makes, e) }

-- n of them come
left_less : (n : ℕ) {x y a k w : ℕ} → Left x a w → a ≡ n + k → y ≡ (x + n) % 2 ^ 64 → Left y k w
left_less n l e q = record { small = omega (arith, q); makes = omega (arith, l.makes, e, q) }

left_none : {x n w : ℕ} → Left x n w → n ≡ 0 → x ≡ w % 2 ^ 64
left_none l e = omega (arith, l.small, l.makes, e)

-- what is counted, with the options from the place i on, makes the whole
pub record Counting (v : ℕ) (m held₀ bytes₀ met held bytes : List ℕ) (i : ℕ) : Type 0 where
  pub stands : Stands v m i
  pub four : length met ≡ 4
  pub pad_marked : marked met 0 ≡ true
  pub end_marked : marked met 255 ≡ true
  pub held_long : length held ≡ length held₀
  pub bytes_long : length bytes ≡ length bytes₀
  pub held_left : (c : ℕ) → c < length held₀ → get_or held₀ c 0 < 2 ^ 64 → Left (get_or held c 0) (still_held met (left_at v m i) c) (get_or held₀ c 0 + one_if_any (pieces c (active_options v m)))
  pub bytes_left : (c : ℕ) → c < length bytes₀ → get_or bytes₀ c 0 < 2 ^ 64 → Left (get_or bytes c 0) (size (left_at v m i) c) (get_or bytes₀ c 0 + size (active_options v m) c)

-- ---- pads

pub reaches_first : {v : ℕ} {m : List ℕ} {i : ℕ} → Stands v m i → Reaches v m i i
reaches_first y = record { stands = y; same = refl; most = omega arith }

pub reaches_on : {v : ℕ} {m : List ℕ} {i j : ℕ} → Reaches v m i j → get_or m j 0 ≡ 0 → Reaches v m i (j + 1)
reaches_on {v} {m} g e = let h = at_pad v m g.stands e in record { stands = h.stands; same = g.same ∙ h.same; most = omega (arith, g.most, h.less) }

pub goes_reach : {v : ℕ} {m : List ℕ} {i j k : ℕ} → Goes v m i j → Reaches v m j k → Goes v m i k
goes_reach g h = record { stands = h.stands; same = g.same ∙ h.same; less = omega (arith, g.less, h.most) }

-- ---- the beginning

no_word : (j : ℕ) → get_or no_codes j 0 ≡ 0
no_word zero = refl
no_word (suc zero) = refl
no_word (suc (suc zero)) = refl
no_word (suc (suc (suc zero))) = refl
no_word (suc (suc (suc (suc j)))) = refl

none_marked : (c : ℕ) → marked no_codes c ≡ false
none_marked c = rw (no_word (c / 64), zero-div (2 ^ (c % 64)))

marks_are : end_marks_value ≡ with_mark (with_mark no_codes 0) 255
marks_are = refl

other_marked : (c : ℕ) → (c ≡ 0 → ⊥) → (c ≡ 255 → ⊥) → marked end_marks_value c ≡ false
other_marked c z e =
    ap (λ (w : List ℕ). marked w c) marks_are ∙ mark_other (with_mark no_codes 0) 255 c (omega arith) e ∙ mark_other no_codes 0 c (omega arith) z ∙ none_marked c

none_taken : (c : ℕ) → taken end_marks_value c ≡ false
none_taken c = by (ℕ_discrete c 0) (ℕ_discrete c 255)
  where
    by : Dec (c ≡ 0) → Dec (c ≡ 255) → taken end_marks_value c ≡ false
    by (yes z) e = rw (eq-eqb c 0 z) refl
    by (no z) (yes e) = rw (ne_eqb c 0 z, eq-eqb c 255 e) refl
    by (no z) (no e) = rw (ne_eqb c 0 z, ne_eqb c 255 e) (other_marked c z e)

pub counting_begins : (v : ℕ) (m held bytes : List ℕ) → ActiveEnds v m → Counting v m held bytes end_marks_value held bytes 240
counting_begins v m held bytes a =
    record {
      stands = stands_first v m a;
      four = refl;
      pad_marked = refl;
      end_marked = refl;
      held_long = refl;
      bytes_long = refl;
      held_left = λ c l b. record { small = b; makes = rw (left_first v m) (ap (λ (t : Bool). (get_or held c 0 + cond t 0 (one_if_any (pieces c (active_options v m)))) % 2 ^ 64) (none_taken c)) };
      bytes_left = λ c l b. record { small = b; makes = rw (left_first v m) refl };
    }

-- ---- one option: its code and its data

size_here : (o : Opt) (os : List Opt) (c : ℕ) → c ≡ o.item.tag → size (o ∷ os) c ≡ length o.item.body + size os c
unfolding pieces end_to_end
size_here o os c e = rw (eq-eqb c o.item.tag e) (length-append o.item.body (end_to_end (pieces c os)))

held_here : (o : Opt) (os : List Opt) (c : ℕ) → c ≡ o.item.tag → one_if_any (pieces c (o ∷ os)) ≡ 1
unfolding pieces
held_here o os c e = rw (eq-eqb c o.item.tag e)

pieces_other : (o : Opt) (os : List Opt) (c : ℕ) → (c ≡ o.item.tag → ⊥) → pieces c (o ∷ os) ≡ pieces c os
unfolding pieces
pieces_other o os c n = rw (ne_eqb c o.item.tag n)

only_here : (k n i : ℕ) → i ≡ k → only_at k n i ≡ n
only_here k n i e = rw (eq-eqb i k e)

only_other : (k n i : ℕ) → (i ≡ k → ⊥) → only_at k n i ≡ 0
only_other k n i e = rw (ne_eqb i k e)

taken_code : (met : List ℕ) (c : ℕ) → (c ≡ 0 → ⊥) → (c ≡ 255 → ⊥) → taken met c ≡ marked met c
taken_code met c z e = rw (ne_eqb c 0 z, ne_eqb c 255 e) refl

clashing : true ≡ false → ⊥
clashing e = let y : ◌≡◌ {A = ℕ} 0 1 = cc in omega arith

module _ {v : ℕ} {m held₀ bytes₀ met held bytes : List ℕ} {i : ℕ} (s : Counting v m held₀ bytes₀ met held bytes i) where
  pub no_pad : (c : ℕ) → marked met c ≡ false → c ≡ 0 → ⊥
  no_pad c n e = clashing (sym s.pad_marked ∙ ap (marked met) (sym e) ∙ n)

  pub no_end : (c : ℕ) → marked met c ≡ false → c ≡ 255 → ⊥
  no_end c n e = clashing (sym s.end_marked ∙ ap (marked met) (sym e) ∙ n)

  -- a pad is passed, or the next field begun
  pub counting_goes : {j : ℕ} → Goes v m i j → Counting v m held₀ bytes₀ met held bytes j
  counting_goes g =
      record {
        stands = g.stands;
        four = s.four;
        pad_marked = s.pad_marked;
        end_marked = s.end_marked;
        held_long = s.held_long;
        bytes_long = s.bytes_long;
        held_left = λ c l b. rw (← g.same) (s.held_left c l b);
        bytes_left = λ c l b. rw (← g.same) (s.bytes_left c l b);
      }

  module _ {j : ℕ} (o : Opt) (t : Stands v m j) (left : left_at v m i ≡ o ∷ left_at v m j) (n : ℕ) (long : length o.item.body ≡ n) (bytes' : List ℕ) (b : Raises (only_at o.item.tag n) bytes bytes') where
    abbrev k : ℕ
    k = o.item.tag

    abbrev os : List Opt
    os = left_at v m j

    bytes_same : (c : ℕ) → c < length bytes₀ → get_or bytes₀ c 0 < 2 ^ 64 → Dec (c ≡ k) → Left (get_or bytes' c 0) (size os c) (get_or bytes₀ c 0 + size (active_options v m) c)
    bytes_same c l u d =
        let z : Left (get_or bytes c 0) (size (o ∷ os) c) (get_or bytes₀ c 0 + size (active_options v m) c) = rw left at (s.bytes_left c l u) in
        left_less (only_at k n c) z (by d) (b.each c (omega (arith, s.bytes_long)) z.small)
      where
        by : Dec (c ≡ k) → size (o ∷ os) c ≡ only_at k n c + size os c
        by (yes e) = let y = size_here o os c e in let x = only_here k n c e in omega arith
        by (no e) =
            let y : size (o ∷ os) c ≡ size os c = ap (λ (ps : List Opt). length (end_to_end ps)) (pieces_other o os c e) in
            let x = only_other k n c e in
            omega arith

    -- a code that was met before
    module _ (f : marked met k ≡ true) (zero-not : k ≡ 0 → ⊥) (end-not : k ≡ 255 → ⊥) where
      met_same : (c : ℕ) → Dec (c ≡ k) → still_held met (o ∷ os) c ≡ still_held met os c
      met_same c (yes e) =
          let y : taken met c ≡ true = ap (taken met) e ∙ taken_code met k zero-not end-not ∙ f in
          rw y refl
      met_same c (no e) = ap (λ (ps : List Opt). cond (taken met c) 0 (one_if_any ps)) (pieces_other o os c e)

      held_met : (c : ℕ) → c < length held₀ → get_or held₀ c 0 < 2 ^ 64 → Left (get_or held c 0) (still_held met os c) (get_or held₀ c 0 + one_if_any (pieces c (active_options v m)))
      held_met c l u =
          let z : Left (get_or held c 0) (still_held met (o ∷ os) c) (get_or held₀ c 0 + one_if_any (pieces c (active_options v m))) = rw left at (s.held_left c l u) in
          left_same z (met_same c (ℕ_discrete c k))

      pub counting_further : Counting v m held₀ bytes₀ met held bytes' j
      counting_further =
          record {
            stands = t;
            four = s.four;
            pad_marked = s.pad_marked;
            end_marked = s.end_marked;
            held_long = s.held_long;
            bytes_long = b.same_length ∙ s.bytes_long;
            held_left = held_met;
            bytes_left = λ c l u. bytes_same c l u (ℕ_discrete c k);
          }

    -- a code that is met first
    module _ (small : k < 256) (u : marked met k ≡ false) (held' : List ℕ) (h : Raises (only_at k 1) held held') where
      word_in : k / 64 < length met
      word_in = omega (arith, s.four, small)

      first_held : (c : ℕ) → Dec (c ≡ k) → still_held met (o ∷ os) c ≡ only_at k 1 c + still_held (with_mark met k) os c
      first_held c (yes e) =
          let f : taken met c ≡ false = ap (taken met) e ∙ taken_code met k (no_pad k u) (no_end k u) ∙ u in
          let y : still_held met (o ∷ os) c ≡ 1 = rw f (held_here o os c e) in
          let x = only_here k 1 c e in
          let g : taken (with_mark met k) c ≡ true = ap (taken (with_mark met k)) e ∙ taken_code (with_mark met k) k (no_pad k u) (no_end k u) ∙ mark_same met k word_in in
          let w : still_held (with_mark met k) os c ≡ 0 = rw g refl in
          omega arith
      first_held c (no e) =
          let y : still_held met (o ∷ os) c ≡ still_held met os c = ap (λ (ps : List Opt). cond (taken met c) 0 (one_if_any ps)) (pieces_other o os c e) in
          let x = only_other k 1 c e in
          let w : still_held (with_mark met k) os c ≡ still_held met os c =
          ap (λ (t : Bool). cond (cond (eqb c 0) false (cond (eqb c 255) false t)) 0 (one_if_any (pieces c os))) (mark_other met k c word_in e) in
          omega arith

      held_first : (c : ℕ) → c < length held₀ → get_or held₀ c 0 < 2 ^ 64
          → Left (get_or held' c 0) (still_held (with_mark met k) os c) (get_or held₀ c 0 + one_if_any (pieces c (active_options v m)))
      held_first c l q =
          let z : Left (get_or held c 0) (still_held met (o ∷ os) c) (get_or held₀ c 0 + one_if_any (pieces c (active_options v m))) = rw left at (s.held_left c l q) in
          left_less (only_at k 1 c) z (first_held c (ℕ_discrete c k)) (h.each c (omega (arith, s.held_long)) z.small)

      pub counting_first : Counting v m held₀ bytes₀ (with_mark met k) held' bytes' j
      counting_first =
          record {
            stands = t;
            four = length-set met (k / 64) _ ∙ s.four;
            pad_marked = mark_other met k 0 word_in (λ e. no_pad k u (sym e)) ∙ s.pad_marked;
            end_marked = mark_other met k 255 word_in (λ e. no_end k u (sym e)) ∙ s.end_marked;
            held_long = h.same_length ∙ s.held_long;
            bytes_long = b.same_length ∙ s.bytes_long;
            held_left = held_first;
            bytes_left = λ c l u. bytes_same c l u (ℕ_discrete c k);
          }

  pub counting_ends : left_at v m i ≡ [] → CountsOptions (active_options v m) held₀ held bytes₀ bytes
  unfolding pieces end_to_end
  counting_ends e =
      record {
        held_raised = record { same_length = s.held_long; each = λ c l u. left_none (s.held_left c l u) (none c (taken met c)) };
        bytes_raised = record { same_length = s.bytes_long; each = λ c l u. let y : size (left_at v m i) c ≡ 0 = rw e refl in left_none (s.bytes_left c l u) y };
      }
    where
      none : (c : ℕ) (t : Bool) → cond t 0 (one_if_any (pieces c (left_at v m i))) ≡ 0
      none c true = refl
      none c false = rw e refl

-- ---- where the walk goes on: behind an option with n bytes of data

module _ {v : ℕ} {m held₀ bytes₀ met held bytes : List ℕ} {i : ℕ} (s : Counting v m held₀ bytes₀ met held bytes i) (n : ℕ) (q : n ≡ get_or m (i + 1) 0) where
  abbrev code : ℕ
  code = get_or m i 0

  -- of which the code is met first
  module _ (u : marked met code ≡ false) where
    pub first_within : i + 2 + n ≤ length m
    first_within = option_in_lem v m s.stands (no_pad s code u) (no_end s code u) n (i + 2 + n) q refl

    pub first_less : bytes_left m (i + 2 + n) < bytes_left m i
    first_less = option_less v m s.stands (no_pad s code u) (no_end s code u) n (i + 2 + n) q refl

    pub first_on : code < 256 → (held' bytes' : List ℕ) → Raises (only_at code 1) held held' → Raises (only_at code n) bytes bytes' → Counting v m held₀ bytes₀ (with_mark met code) held' bytes' (i + 2 + n)
    first_on l held' bytes' h b =
        counting_first s
        (option_at v m s.stands (no_pad s code u) (no_end s code u) n (i + 2 + n) q refl)
        (option_stands v m s.stands (no_pad s code u) (no_end s code u) n (i + 2 + n) q refl)
        (option_left v m s.stands (no_pad s code u) (no_end s code u) n (i + 2 + n) q refl)
        n
        (option_size v m s.stands (no_pad s code u) (no_end s code u) n (i + 2 + n) q refl)
        bytes' b l u held' h

  -- of which the code was met before
  module _ (z : code ≡ 0 → ⊥) (e : code ≡ 255 → ⊥) where
    pub further_within : i + 2 + n ≤ length m
    further_within = option_in_lem v m s.stands z e n (i + 2 + n) q refl

    pub further_less : bytes_left m (i + 2 + n) < bytes_left m i
    further_less = option_less v m s.stands z e n (i + 2 + n) q refl

    pub further_on : marked met code ≡ true → (bytes' : List ℕ) → Raises (only_at code n) bytes bytes' → Counting v m held₀ bytes₀ met held bytes' (i + 2 + n)
    further_on u bytes' b =
        counting_further s
        (option_at v m s.stands z e n (i + 2 + n) q refl)
        (option_stands v m s.stands z e n (i + 2 + n) q refl)
        (option_left v m s.stands z e n (i + 2 + n) q refl)
        n
        (option_size v m s.stands z e n (i + 2 + n) q refl)
        bytes' b u z e

-- ---- and behind the END of a field

none_some : (p r : ℕ) → ◌≡◌ {A = Option ℕ} None (Some r) → ⊥
none_some p r e = let y : ◌≡◌ {A = ℕ} 0 1 = cc in omega arith

no_place : (p : ℕ) → some_place p ≡ None → p ≡ 0
no_place p e = by (ℕ_discrete p 0)
  where
    by : Dec (p ≡ 0) → p ≡ 0
    by (yes z) = z
    by (no z) = absurd (none_some p p (sym (rw (ne_eqb p 0 z) at e)))

a_place : (p r : ℕ) → some_place p ≡ Some r → (r ≡ p) × (p ≡ 0 → ⊥)
a_place p r e = by (ℕ_discrete p 0)
  where
    by : Dec (p ≡ 0) → (r ≡ p) × (p ≡ 0 → ⊥)
    by (yes z) = absurd (none_some p r (rw (eq-eqb p 0 z) at e))
    by (no z) = let q : ◌≡◌ {A = Option ℕ} (Some p) (Some r) = rw (ne_eqb p 0 z) at e in let y : r ≡ p = cc in (y, z)

module _ {v : ℕ} {m held₀ bytes₀ met held bytes : List ℕ} {i : ℕ} (s : Counting v m held₀ bytes₀ met held bytes i) (e : get_or m i 0 ≡ 255) where
  abbrev next : ℕ
  next = next_place_value v (field_at i)

  pub ends_here : some_place next ≡ None → CountsOptions (active_options v m) held₀ held bytes₀ bytes
  ends_here q = counting_ends s (end_none v m s.stands e next refl (no_place next q))

  pub next_field : (r : ℕ) → some_place next ≡ Some r → ActiveEnds v m → Goes v m i r
  next_field r q a = let p = a_place next r q in end_next v m s.stands e r p.0 a (λ z. p.1 (sym p.0 ∙ z))
