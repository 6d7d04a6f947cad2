-- The tally of one message more; its sums and their bounds. Assumes nothing.
use mathlib.Core.Path.{◌≡◌, refl, sym, ap, ap₂, ◌∙◌}
use mathlib.Core.List.{List, [], ◌∷◌, ◌++◌, append_assoc, append-nil}
use mathlib.Core.Bool.{Bool, true, false, cond}
use mathlib.Core.Option.{Option, none, some}
use Prim.Native.Nat.{ℕ, zero, suc, ◌+◌, ◌*◌, ◌≤◌, ◌<◌, min, max}
use native.Mathlib.Omega.{arith}
use lib.ListN.{length, get_or, length-append}
use lib.Dec.{eqb}
use Rattle.options.specs.Message.{Opt}
use Rattle.options.specs.Reading.{Reading, accepted, refused, read_message, pieces}
use Rattle.options.specs.Refusals.{Row, row_1, row_2, row_3, row_4, row_5, row_6, row_7, When}
use Rattle.options.specs.Captures.{most_messages, if_accepted, if_refused_by, one_if_any, if_holds, joined_size, lease_time, Lease, no_lease, leases, widened, Tally, table, raised, total, lease_span, tally_of, noted_as, noted}
use Rattle.options.specs.CaptureClaims.{sum, SumIsMessages}
use Rattle.theorems.proofs.Reading.{refused_by_the_table}
use Rattle.theorems.proofs.Lengths.{joined_short}

-- ---- Tables

pub table_length : (f : ℕ → ℕ) (c n : ℕ) → length (table f c n) ≡ n
unfolding table
table_length f c zero = refl
table_length f c (suc n) = ap suc (table_length f (suc c) n)

pub table_at : (f : ℕ → ℕ) (c n i : ℕ) → i < n → get_or (table f c n) i 0 ≡ f (c + i)
unfolding table
table_at f c zero i h = absurd (omega arith)
table_at f c (suc n) zero h = let z : c ≡ c + 0 = omega arith in ap f z
table_at f c (suc n) (suc i) h = let z : suc c + i ≡ c + suc i = omega arith in table_at f (suc c) n i (omega arith) ∙ ap f z

table_same : (f g : ℕ → ℕ) (c n : ℕ) → ((k : ℕ) → f k ≡ g k) → table f c n ≡ table g c n
unfolding table
table_same f g c zero h = refl
table_same f g c (suc n) h = ap₂ (λ (x : ℕ) (xs : List ℕ). x ∷ xs) (h c) (table_same f g (suc c) n h)

table_raised : (f g : ℕ → ℕ) (c n : ℕ) → raised f c (table g c n) ≡ table (λ k. g k + f k) c n
unfolding table raised
table_raised f g c zero = refl
table_raised f g c (suc n) = ap (λ (xs : List ℕ). (g c + f c) ∷ xs) (table_raised f g (suc c) n)

table_below : (f : ℕ → ℕ) (b : ℕ) → ((k : ℕ) → f k ≤ b) → (c n i : ℕ) → get_or (table f c n) i 0 ≤ b
unfolding table
table_below f b h c zero zero = omega arith
table_below f b h c zero (suc i) = omega arith
table_below f b h c (suc n) zero = h c
table_below f b h c (suc n) (suc i) = table_below f b h (suc c) n i

-- ---- One message more

widened_twice : (a b : Option ℕ) (w : Lease) → widened a (widened b w) ≡ widened b (widened a w)
widened_twice none b w = refl
widened_twice (some x) none w = refl
widened_twice (some x) (some y) no_lease = ap₂ leases low high
  where
    low : min x y ≡ min y x
    low = omega arith

    high : max x y ≡ max y x
    high = omega arith
widened_twice (some x) (some y) (leases s l) = ap₂ leases low high
  where
    low : min x (min y s) ≡ min y (min x s)
    low = omega arith

    high : max x (max y l) ≡ max y (max x l)
    high = omega arith

total_snoc : (f : Reading → ℕ) (ms : List (List ℕ)) (m : List ℕ) → total f (ms ++ (m ∷ [])) ≡ total f ms + f (read_message m)
unfolding total
total_snoc f [] m = omega arith
total_snoc f (x ∷ ms) m = omega (arith, total_snoc f ms m)

lease_snoc : (ms : List (List ℕ)) (m : List ℕ) → lease_span (ms ++ (m ∷ [])) ≡ widened (lease_time (read_message m)) (lease_span ms)
unfolding lease_span
lease_snoc [] m = refl
lease_snoc (x ∷ ms) m = ap (widened (lease_time (read_message x))) (lease_snoc ms m) ∙ widened_twice (lease_time (read_message x)) (lease_time (read_message m)) (lease_span ms)

raised_total : (f : ℕ → Reading → ℕ) (c n : ℕ) (ms : List (List ℕ)) (m : List ℕ)
    → raised (λ k. f k (read_message m)) c (table (λ k. total (f k) ms) c n) ≡ table (λ k. total (f k) (ms ++ (m ∷ []))) c n
raised_total f c n ms m =
    table_raised (λ k. f k (read_message m)) (λ k. total (f k) ms) c n
    ∙ table_same (λ k. total (f k) ms + f k (read_message m)) (λ k. total (f k) (ms ++ (m ∷ []))) c n (λ k. sym (total_snoc (f k) ms m))

pub same_tally : {a a' b b' : ℕ} {r r' h h' s s' : List ℕ} {w w' : Lease} → a ≡ a' → b ≡ b' → r ≡ r' → h ≡ h' → s ≡ s' → w ≡ w'
    → ◌≡◌ {A = Tally} (record { messages = a; accepts = b; refusals = r; held = h; bytes = s; lease = w })
    (record { messages = a'; accepts = b'; refusals = r'; held = h'; bytes = s'; lease = w' })
same_tally p q u v x y = cc

noted_tally : (ms : List (List ℕ)) (m : List ℕ) → noted m (tally_of ms) ≡ tally_of (ms ++ (m ∷ []))
unfolding noted_as tally_of
noted_tally ms m =
    same_tally (sym (length-append ms (m ∷ []))) (sym (total_snoc if_accepted ms m)) (raised_total if_refused_by 1 7 ms m) (raised_total if_holds 0 256 ms m)
    (raised_total joined_size 0 256 ms m) (sym (lease_snoc ms m))

unfoldable pub noted_all : Tally → List (List ℕ) → Tally
noted_all x [] = x
noted_all x (m ∷ ms) = noted_all (noted m x) ms

pub noted_all_lem : (xs ms : List (List ℕ)) → noted_all (tally_of xs) ms ≡ tally_of (xs ++ ms)
unfolding noted_all
noted_all_lem xs [] = ap tally_of (sym (append-nil xs))
noted_all_lem xs (m ∷ ms) = ap (λ (x : Tally). noted_all x ms) (noted_tally xs m) ∙ noted_all_lem (xs ++ (m ∷ [])) ms ∙ ap tally_of (append_assoc xs (m ∷ []) ms)

-- ---- Bounds

total_below : (f : Reading → ℕ) (b : ℕ) → ((m : List ℕ) → f (read_message m) ≤ b) → (ms : List (List ℕ)) → total f ms ≤ b * length ms
unfolding total
total_below f b h [] = omega arith
total_below f b h (m ∷ ms) = omega (arith, h m, total_below f b h ms)

if_accepted_below : (w : Reading) → if_accepted w ≤ 1
if_accepted_below (accepted os) = omega arith
if_accepted_below (refused n p) = omega arith

if_refused_below : (k : ℕ) (w : Reading) → if_refused_by k w ≤ 1
if_refused_below k (accepted os) = omega arith
if_refused_below k (refused n p) = go (eqb k n)
  where
    go : (b : Bool) → cond b 1 0 ≤ 1
    go true = omega arith
    go false = omega arith

one_below : (os : List Opt) → one_if_any os ≤ 1
one_below [] = omega arith
one_below (o ∷ os) = omega arith

if_holds_below : (c : ℕ) (w : Reading) → if_holds c w ≤ 1
if_holds_below c (accepted os) = one_below (pieces c os)
if_holds_below c (refused n p) = omega arith

joined_below : (c : ℕ) (m : List ℕ) → joined_size c (read_message m) ≤ 1472
joined_below c m = go (read_message m) refl
  where
    go : (w : Reading) → read_message m ≡ w → joined_size c w ≤ 1472
    go (accepted os) e = omega (arith, joined_short m (record { options = os; reads = e }) c)
    go (refused n p) e = omega arith

-- no number of the tally of a million messages is more than these
pub record Small (x : Tally) : Type 0 where
  pub messages : x.messages ≤ 1000000
  pub accepts : x.accepts ≤ 1000000
  pub refusals : (n : ℕ) → get_or x.refusals n 0 ≤ 1000000
  pub held : (c : ℕ) → get_or x.held c 0 ≤ 1000000
  pub bytes : (c : ℕ) → get_or x.bytes c 0 ≤ 1472 * 1000000

pub small_tally : (ms : List (List ℕ)) → length ms ≤ most_messages → Small (tally_of ms)
unfolding tally_of
small_tally ms h =
    record {
      messages = h;
      accepts = omega (arith, total_below if_accepted 1 (λ m. if_accepted_below (read_message m)) ms);
      refusals = table_below (λ n. total (if_refused_by n) ms) most_messages (λ k. omega (arith, total_below (if_refused_by k) 1 (λ m. if_refused_below k (read_message m)) ms)) 1 7;
      held = table_below (λ c. total (if_holds c) ms) most_messages (λ k. omega (arith, total_below (if_holds k) 1 (λ m. if_holds_below k (read_message m)) ms)) 0 256;
      bytes = table_below (λ c. total (joined_size c) ms) (1472 * most_messages) (λ k. omega (arith, total_below (joined_size k) 1472 (joined_below k) ms)) 0 256;
    }

-- ---- Accepted and refusals sum to messages

row_number : {m : List ℕ} {n p : ℕ} {w : When} → Row m n p w → (1 ≤ n) × (n ≤ 7)
row_number (row_1 h) = (omega arith, omega arith)
row_number (row_2 h) = (omega arith, omega arith)
row_number (row_3 h) = (omega arith, omega arith)
row_number (row_4 fd a b c) = (omega arith, omega arith)
row_number (row_5 fd a b) = (omega arith, omega arith)
row_number (row_6 fd a b c) = (omega arith, omega arith)
row_number (row_7 fd a b c) = (omega arith, omega arith)

-- no number but 1 to 7
pub refused_number : (m : List ℕ) (n p : ℕ) → read_message m ≡ refused n p → (1 ≤ n) × (n ≤ 7)
refused_number m n p e = row_number ((refused_by_the_table m n p).0 e).applies

seven : (n : ℕ) → 1 ≤ n → n ≤ 7
    → cond (eqb 1 n) 1 0 + (cond (eqb 2 n) 1 0 + (cond (eqb 3 n) 1 0 + (cond (eqb 4 n) 1 0 + (cond (eqb 5 n) 1 0 + (cond (eqb 6 n) 1 0 + (cond (eqb 7 n) 1 0 + 0)))))) ≡ 1
seven zero l u = absurd (omega arith)
seven (suc zero) l u = refl
seven (suc (suc zero)) l u = refl
seven (suc (suc (suc zero))) l u = refl
seven (suc (suc (suc (suc zero)))) l u = refl
seven (suc (suc (suc (suc (suc zero))))) l u = refl
seven (suc (suc (suc (suc (suc (suc zero)))))) l u = refl
seven (suc (suc (suc (suc (suc (suc (suc zero))))))) l u = refl
seven (suc (suc (suc (suc (suc (suc (suc (suc n)))))))) l u = absurd (omega arith)

abbrev refused_by_any : Reading → ℕ
refused_by_any w =
    if_refused_by 1 w + (if_refused_by 2 w + (if_refused_by 3 w + (if_refused_by 4 w + (if_refused_by 5 w + (if_refused_by 6 w + (if_refused_by 7 w + 0))))))

one_each : (m : List ℕ) → if_accepted (read_message m) + refused_by_any (read_message m) ≡ 1
one_each m = go (read_message m) refl
  where
    go : (w : Reading) → read_message m ≡ w → if_accepted w + refused_by_any w ≡ 1
    go (accepted os) e = refl
    go (refused n p) e = let z = refused_number m n p e in let s = seven n z.0 z.1 in omega arith

totals : (ms : List (List ℕ)) → total if_accepted ms + sum (table (λ n. total (if_refused_by n) ms) 1 7) ≡ length ms
unfolding total table
totals [] = refl
totals (m ∷ ms) = omega (arith, one_each m, totals ms)

pub sum_is_messages : SumIsMessages
unfolding tally_of
sum_is_messages ms = totals ms
