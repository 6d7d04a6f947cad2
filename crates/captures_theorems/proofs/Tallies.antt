-- The tally says of the messages what request 11 asks, and no other tally does. Assumes nothing.
use mathlib.Core.Path.{◌≡◌, refl, sym, ap, ap₂, ◌∙◌, subst}
use mathlib.Core.List.{List, [], ◌∷◌}
use mathlib.Core.Bool.{Bool, true, false, cond}
use mathlib.Core.Option.{Option, none, some}
use mathlib.Core.Logic.{◌⊎◌, inl, inr, ⊎_elim}
use Prim.Native.Nat.{ℕ, suc, ◌+◌, ◌-◌, ◌≤◌, ◌<◌, min, max}
use native.Mathlib.Omega.{arith}
use native.Mathlib.Decide.{dec_lt}
use lib.IntN.{pos, negsuc}
use lib.ListN.{length, get_or}
use lib.Seq.{ext_get_or}
use lib.Dec.{eqb}
use borrow.Author.Tests.{eqb-true, eqb-false}
use Rattle.options.specs.Message.{Opt, PiecesOf, end_to_end}
use Rattle.options.specs.Reading.{Reading, accepted, refused, read_message, pieces}
use Rattle.options.specs.Kinds.{Kind, broken, number, part, kinds}
use Rattle.options.specs.Answers.{Origin, unknown, known, Answer, Absent, Refused, Found, lookup, every_code, shown_number}
use Rattle.options.specs.ReadingClaims.{IsAccepted}
use Rattle.options.specs.Captures.{if_accepted, if_refused_by, one_if_any, if_holds, joined_size, lease_time, Lease, leases, widened, Tally, total, lease_span, tally_of}
use Rattle.options.specs.CaptureClaims.{Counts, none as no-messages, one_more, passed_over, Sums, nothing, added, Seen, RefusedBy, AcceptedHolding, AddsBytes, when_if_accepted, if_refused, LeaseTime, LeaseIs, lease_none, lease_from_to, TallyIs, TallyIsCorrect}
use Rattle.theorems.proofs.View.{clash}
use Rattle.theorems.proofs.Reading.{refused_by_the_table}
use Rattle.theorems.proofs.Pieces.{pieces_right, one_pieces_of, held_iff_piece}
use Rattle.theorems.proofs.Lookup.{shows_what_stands}
use Rattle.captures_theorems.proofs.Sums.{table_length, table_at, same_tally}

-- a number that is 1 where P holds and 0 where it does not
abbrev Tells : (List ℕ → Type 0) → (Reading → ℕ) → Type 0
Tells P f = (m : List ℕ) → (P m × (f (read_message m) ≡ 1)) ⊎ ((P m → ⊥) × (f (read_message m) ≡ 0))

counted : (P : List ℕ → Type 0) (f : Reading → ℕ) → Tells P f → (ms : List (List ℕ)) → Counts P ms (total f ms)
unfolding total
counted P f h [] = no-messages
counted P f h (m ∷ ms) = go (h m) (counted P f h ms)
  where
    go : (P m × (f (read_message m) ≡ 1)) ⊎ ((P m → ⊥) × (f (read_message m) ≡ 0)) → Counts P ms (total f ms) → Counts P (m ∷ ms) (f (read_message m) + total f ms)
    go (inl z) c = let q : total f ms + 1 ≡ f (read_message m) + total f ms = omega (arith, z.1) in subst (Counts P (m ∷ ms)) q (one_more z.0 c)
    go (inr z) c = let q : total f ms ≡ f (read_message m) + total f ms = omega (arith, z.1) in subst (Counts P (m ∷ ms)) q (passed_over z.0 c)

summed : (S : List ℕ → ℕ → Type 0) (f : Reading → ℕ) → ((m : List ℕ) → S m (f (read_message m))) → (ms : List (List ℕ)) → Sums S ms (total f ms)
unfolding total
summed S f h [] = nothing
summed S f h (m ∷ ms) = added (h m) (summed S f h ms)

-- a refused message is not accepted
refused_not : {m : List ℕ} {n p : ℕ} → read_message m ≡ refused n p → IsAccepted m → ⊥
refused_not {m} {n} {p} e a = let z : accepted a.options ≡ refused n p = sym a.reads ∙ e in clash (cc)

tells_accepted : Tells IsAccepted if_accepted
tells_accepted m = go (read_message m) refl
  where
    go : (w : Reading) → read_message m ≡ w → (IsAccepted m × (if_accepted w ≡ 1)) ⊎ ((IsAccepted m → ⊥) × (if_accepted w ≡ 0))
    go (accepted os) e = inl (record { options = os; reads = e }, refl)
    go (refused n p) e = inr (refused_not e, refl)

tells_refused : (k : ℕ) → Tells (RefusedBy k) (if_refused_by k)
tells_refused k m = go (read_message m) refl
  where
    same_number : {a b c d : ℕ} → refused a b ≡ refused c d → a ≡ c
    same_number e = cc

    by : (n p : ℕ) → read_message m ≡ refused n p → (b : Bool) → eqb k n ≡ b → (RefusedBy k m × (cond {A = ℕ} b 1 0 ≡ 1)) ⊎ ((RefusedBy k m → ⊥) × (cond {A = ℕ} b 1 0 ≡ 0))
    by n p e true q = inl ((p, (refused_by_the_table m k p).0 (e ∙ ap (λ (x : ℕ). refused x p) (sym (eqb-true k n q)))), refl)
    by n p e false q = inr ((λ a. eqb-false k n q (same_number (sym ((refused_by_the_table m k a.0).1 a.1) ∙ e))), refl)

    go : (w : Reading) → read_message m ≡ w → (RefusedBy k m × (if_refused_by k w ≡ 1)) ⊎ ((RefusedBy k m → ⊥) × (if_refused_by k w ≡ 0))
    go (accepted os) e = inr ((λ a. refused_not ((refused_by_the_table m k a.0).1 a.1) (record { options = os; reads = e })), refl)
    go (refused n p) e = by n p e (eqb k n) refl

not_nil : {o : Opt} {os : List Opt} → o ∷ os ≡ [] → ⊥
not_nil e = clash (cc)

tells_held : (c : ℕ) → Tells (AcceptedHolding c) (if_holds c)
tells_held c m = go (read_message m) refl
  where
    by : IsAccepted m → (ps : List Opt) → PiecesOf m c ps → (AcceptedHolding c m × (one_if_any ps ≡ 1)) ⊎ ((AcceptedHolding c m → ⊥) × (one_if_any ps ≡ 0))
    by a [] p = inr ((λ x. (held_iff_piece m c [] p).0 x.1 refl), refl)
    by a (o ∷ ps) p = inl ((a, (held_iff_piece m c (o ∷ ps) p).1 not_nil), refl)

    go : (w : Reading) → read_message m ≡ w → (AcceptedHolding c m × (if_holds c w ≡ 1)) ⊎ ((AcceptedHolding c m → ⊥) × (if_holds c w ≡ 0))
    go (accepted os) e = let a : IsAccepted m = record { options = os; reads = e } in by a (pieces c os) (pieces_right m a c)
    go (refused n p) e = inr ((λ x. refused_not e x.0), refl)

adds_bytes : (c : ℕ) (m : List ℕ) → AddsBytes c m (joined_size c (read_message m))
adds_bytes c m = go (read_message m) refl
  where
    go : (w : Reading) → read_message m ≡ w → AddsBytes c m (joined_size c w)
    go (accepted os) e = let a : IsAccepted m = record { options = os; reads = e } in when_if_accepted a (pieces_right m a c)
    go (refused n p) e = if_refused (refused_not e)

-- ---- The lease time

-- what a lookup of 51 answers
lease_lookup : (m : List ℕ) → lease_time (read_message m) ≡ shown_number (lookup kinds every_code m 51)
unfolding lookup
lease_lookup m = refl

shown_is : (x : Answer) (n : ℕ) → shown_number x ≡ some n → (g : Origin) × (k : Kind) × (x ≡ Found g (known (number k (pos n))))
shown_is Absent n e = clash (cc)
shown_is (Refused a p) n e = clash (cc)
shown_is (Found g (unknown l)) n e = clash (cc)
shown_is (Found g (known (broken l))) n e = clash (cc)
shown_is (Found g (known (number k (pos z)))) n e = (g, k, ap (λ (y : ℕ). Found g (known (number k (pos y)))) (same e))
  where
    same : some z ≡ some n → z ≡ n
    same e = cc
shown_is (Found g (known (number k (negsuc z)))) n e = clash (cc)
shown_is (Found g (known (part k l))) n e = clash (cc)

lease_some : (m : List ℕ) (n : ℕ) → lease_time (read_message m) ≡ some n → LeaseTime m n
lease_some m n h =
    let z = shown_is (lookup kinds every_code m 51) n (sym (lease_lookup m) ∙ h) in
    record { origin = z.0; kind = z.1; shows = (shows_what_stands kinds every_code m 51 z.0 (known (number z.1 (pos n)))).0 z.2 }

some_lease : (m : List ℕ) (n : ℕ) → LeaseTime m n → lease_time (read_message m) ≡ some n
some_lease m n x = lease_lookup m ∙ ap shown_number ((shows_what_stands kinds every_code m 51 x.origin (known (number x.kind (pos n)))).1 x.shows)

lease_right : (ms : List (List ℕ)) → LeaseIs ms (lease_span ms)
unfolding lease_span
lease_right [] = lease_none (λ m n s x. s)
lease_right (m ∷ ms) = go (lease_time (read_message m)) refl (lease_right ms)
  where
    same_some : {a b : ℕ} → some a ≡ some b → a ≡ b
    same_some e = cc

    here : (x n : ℕ) (y : List ℕ) → lease_time (read_message m) ≡ some x → y ≡ m → LeaseTime y n → n ≡ x
    here x n y q e z = same_some (sym (some_lease y n z) ∙ ap (λ (l : List ℕ). lease_time (read_message l)) e ∙ q)

    nowhere : (n : ℕ) (y : List ℕ) → lease_time (read_message m) ≡ none → y ≡ m → LeaseTime y n → ⊥
    nowhere n y q e z = let w : some n ≡ none = sym (some_lease y n z) ∙ ap (λ (l : List ℕ). lease_time (read_message l)) e ∙ q in clash (cc)

    later : {w : ℕ} → ((y : List ℕ) × Seen y ms × LeaseTime y w) → (y : List ℕ) × Seen y (m ∷ ms) × LeaseTime y w
    later z = (z.0, inr z.1, z.2)

    lower : (x s : ℕ) → LeaseTime m x → ((y : List ℕ) × Seen y ms × LeaseTime y s) → (y : List ℕ) × Seen y (m ∷ ms) × LeaseTime y (min x s)
    lower x s a b = by (dec_lt x s)
      where
        by : Dec (x < s) → (y : List ℕ) × Seen y (m ∷ ms) × LeaseTime y (min x s)
        by (yes h) = let z : x ≡ min x s = omega arith in (m, inl refl, subst (LeaseTime m) z a)
        by (no f) = let z : s ≡ min x s = omega (arith, f) in (b.0, inr b.1, subst (LeaseTime b.0) z b.2)

    upper : (x l : ℕ) → LeaseTime m x → ((y : List ℕ) × Seen y ms × LeaseTime y l) → (y : List ℕ) × Seen y (m ∷ ms) × LeaseTime y (max x l)
    upper x l a b = by (dec_lt l x)
      where
        by : Dec (l < x) → (y : List ℕ) × Seen y (m ∷ ms) × LeaseTime y (max x l)
        by (yes h) = let z : x ≡ max x l = omega arith in (m, inl refl, subst (LeaseTime m) z a)
        by (no f) = let z : l ≡ max x l = omega (arith, f) in (b.0, inr b.1, subst (LeaseTime b.0) z b.2)

    go : (o : Option ℕ) → lease_time (read_message m) ≡ o → {w : Lease} → LeaseIs ms w → LeaseIs (m ∷ ms) (widened o w)
    go none q (lease_none f) = lease_none (λ y n s z. ⊎_elim (λ e. nowhere n y q e z) (λ s. f y n s z) s)
    go none q (lease_from_to a b f) = lease_from_to (later a) (later b) (λ y n s z. ⊎_elim (λ e. absurd (nowhere n y q e z)) (λ s. f y n s z) s)
    go (some x) q (lease_none f) =
        lease_from_to (m, inl refl, lease_some m x q) (m, inl refl, lease_some m x q)
        (λ y n s z. ⊎_elim (λ (e : y ≡ m). both n x (here x n y q e z)) (λ (s : Seen y ms). absurd (f y n s z)) s)
      where
        both : (n x : ℕ) → n ≡ x → (x ≤ n) × (n ≤ x)
        both n x e = (omega arith, omega arith)
    go (some x) q (lease_from_to {s = low} {l = high} a b f) =
        lease_from_to (lower x low (lease_some m x q) a) (upper x high (lease_some m x q) b)
        (λ y n s z. ⊎_elim (λ (e : y ≡ m). first n (here x n y q e z)) (λ (s : Seen y ms). further n (f y n s z)) s)
      where
        first : (n : ℕ) → n ≡ x → (min x low ≤ n) × (n ≤ max x high)
        first n e = (omega arith, omega arith)

        further : (n : ℕ) → (low ≤ n) × (n ≤ high) → (min x low ≤ n) × (n ≤ max x high)
        further n h = (omega (arith, h.0), omega (arith, h.1))

-- ---- All of it

pub tally_is : (ms : List (List ℕ)) → TallyIs ms (tally_of ms)
unfolding tally_of
tally_is ms =
    record {
      messages = refl;
      accepts = counted IsAccepted if_accepted tells_accepted ms;
      seven = table_length (λ n. total (if_refused_by n) ms) 1 7;
      refusals = λ n l u.
          let z : 1 + (n - 1) ≡ n = omega arith in
          subst (Counts (RefusedBy n) ms) (sym (table_at (λ n. total (if_refused_by n) ms) 1 7 (n - 1) (omega arith) ∙ ap (λ (k : ℕ). total (if_refused_by k) ms) z))
          (counted (RefusedBy n) (if_refused_by n) (tells_refused n) ms);
      held_all = table_length (λ c. total (if_holds c) ms) 0 256;
      held = λ c h.
          let z : 0 + c ≡ c = omega arith in
          subst (Counts (AcceptedHolding c) ms) (sym (table_at (λ c. total (if_holds c) ms) 0 256 c h ∙ ap (λ (k : ℕ). total (if_holds k) ms) z))
          (counted (AcceptedHolding c) (if_holds c) (tells_held c) ms);
      bytes_all = table_length (λ c. total (joined_size c) ms) 0 256;
      bytes = λ c h.
          let z : 0 + c ≡ c = omega arith in
          subst (Sums (AddsBytes c) ms) (sym (table_at (λ c. total (joined_size c) ms) 0 256 c h ∙ ap (λ (k : ℕ). total (joined_size k) ms) z))
          (summed (AddsBytes c) (joined_size c) (adds_bytes c) ms);
      lease = lease_right ms;
    }

-- ---- No other tally

one_count : (P : List ℕ → Type 0) {ms : List (List ℕ)} {a b : ℕ} → Counts P ms a → Counts P ms b → a ≡ b
one_count P no-messages no-messages = refl
one_count P (one_more p c) (one_more q d) = ap (λ (n : ℕ). n + 1) (one_count P c d)
one_count P (one_more p c) (passed_over q d) = absurd (q p)
one_count P (passed_over p c) (one_more q d) = absurd (p q)
one_count P (passed_over p c) (passed_over q d) = one_count P c d

one_sum : (S : List ℕ → ℕ → Type 0) → ((m : List ℕ) (a b : ℕ) → S m a → S m b → a ≡ b) → {ms : List (List ℕ)} {a b : ℕ} → Sums S ms a → Sums S ms b → a ≡ b
one_sum S f nothing nothing = refl
one_sum S f (added {m = m} {k = k} p c) (added {k = l} q d) = ap₂ (λ (x y : ℕ). x + y) (f m k l p q) (one_sum S f c d)

one_size : (c : ℕ) (m : List ℕ) (a b : ℕ) → AddsBytes c m a → AddsBytes c m b → a ≡ b
one_size c m a b (when_if_accepted {ps = ps} x p) (when_if_accepted {ps = qs} y q) = ap (λ (l : List Opt). length (end_to_end l)) (one_pieces_of m c ps qs p q)
one_size c m a b (when_if_accepted x p) (if_refused f) = absurd (f x)
one_size c m a b (if_refused f) (when_if_accepted x p) = absurd (f x)
one_size c m a b (if_refused f) (if_refused g) = refl

one_lease : {ms : List (List ℕ)} {v w : Lease} → LeaseIs ms v → LeaseIs ms w → v ≡ w
one_lease (lease_none f) (lease_none g) = refl
one_lease (lease_none f) (lease_from_to {s = s} a b g) = absurd (f a.0 s a.1 a.2)
one_lease (lease_from_to {s = s} a b g) (lease_none f) = absurd (f a.0 s a.1 a.2)
one_lease (lease_from_to {s = s} {l = l} a b f) (lease_from_to {s = s'} {l = l'} a' b' g) = ap₂ leases low high
  where
    low : s ≡ s'
    low = omega (arith, (f a'.0 s' a'.1 a'.2).0, (g a.0 s a.1 a.2).0)

    high : l ≡ l'
    high = omega (arith, (f b'.0 l' b'.1 b'.2).1, (g b.0 l b.1 b.2).1)

by_fields : (x y : Tally) → x.messages ≡ y.messages → x.accepts ≡ y.accepts → x.refusals ≡ y.refusals → x.held ≡ y.held → x.bytes ≡ y.bytes → x.lease ≡ y.lease → x ≡ y
by_fields x y a b c d e f = same_tally a b c d e f

pub one_tally : (ms : List (List ℕ)) (x y : Tally) → TallyIs ms x → TallyIs ms y → x ≡ y
one_tally ms x y p q =
    by_fields x y (p.messages ∙ sym q.messages) (one_count _ p.accepts q.accepts)
    (ext_get_or 0 x.refusals y.refusals (p.seven ∙ sym q.seven) (λ i h. refusals i (omega (arith, p.seven))))
    (ext_get_or 0 x.held y.held (p.held_all ∙ sym q.held_all) (λ i h. let l : i < 256 = omega (arith, p.held_all) in one_count (AcceptedHolding i) (p.held i l) (q.held i l)))
    (ext_get_or 0 x.bytes y.bytes (p.bytes_all ∙ sym q.bytes_all) (λ i h. let l : i < 256 = omega (arith, p.bytes_all) in one_sum (AddsBytes i) (one_size i) (p.bytes i l) (q.bytes i l)))
    (one_lease p.lease q.lease)
  where
    refusals : (i : ℕ) → i < 7 → get_or x.refusals i 0 ≡ get_or y.refusals i 0
    refusals i h =
        let z : suc i - 1 ≡ i = omega arith in
        let e : get_or x.refusals (suc i - 1) 0 ≡ get_or y.refusals (suc i - 1) 0 = one_count (RefusedBy (suc i)) (p.refusals (suc i) (omega arith) (omega arith)) (q.refusals (suc i) (omega arith) (omega arith)) in
        ap (λ (j : ℕ). get_or x.refusals j 0) (sym z) ∙ e ∙ ap (λ (j : ℕ). get_or y.refusals j 0) z

pub tally_is_correct : TallyIsCorrect
tally_is_correct ms x = ((λ e. subst (TallyIs ms) e (tally_is ms)), (λ p. one_tally ms (tally_of ms) x (tally_is ms) p))
