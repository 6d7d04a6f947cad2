-- The running tally, fed the file's bytes in any parts, is the tally of the whole file; and no sum wraps. Assumes nothing.
use mathlib.Core.Path.{◌≡◌, refl, sym, ap, ap₂, ◌∙◌, subst}
use mathlib.Core.List.{List, [], ◌∷◌, ◌++◌, append_assoc}
use mathlib.Core.Logic.{◌⊎◌, inl, inr}
use Prim.Native.Nat.{ℕ, zero, suc, ◌+◌, ◌*◌, ◌≤◌, ◌<◌}
use native.Mathlib.Omega.{arith}
use lib.ListN.{length, drop}
use borrow.Author.Tests.{ne_eqb, lt-ltb, le-ltb}
use Rattle.options.specs.KindClaims.{AllBytes}
use Rattle.options.specs.SheetRefusals.{RecordBeyond}
use Rattle.options.specs.Captures.{most_messages, Ending, stopped_at, Capture, capture_of, Tally, tally_of, noted_as, noted, Stage, at_tag, inside, stopped, Run, begun, closed, within, step, fed, fed_by, ending_of, report_of, report}
use Rattle.options.specs.CaptureClaims.{concat, RunIs, FedByParts, HoweverFilled, NoSumWraps, PrintsTheReport}
use Rattle.theorems.proofs.CodesPresent.{all_drop}
use Rattle.writing_theorems.proofs.SheetView.{Lies, lies_next}
use Rattle.captures_theorems.proofs.Files.{Stops, other_tag, too_many, cut_short, Captures, is_end, is_stop, is_more, captures}
use Rattle.captures_theorems.proofs.Sums.{noted_all, noted_all_lem, Small, small_tally}

abbrev at : ℕ → Stage → Tally → Run
at i g x = record { began = i; stage = g; tally = x }

-- ---- A message whose bytes are all there

pub message_run : (n : ℕ) (m kept rest : List ℕ) (i : ℕ) (x : Tally) → length m ≡ suc n
    → fed (at i (inside n kept) x) (m ++ rest) ≡ fed (closed i (kept ++ m) x) rest
unfolding fed step
message_run n [] kept rest i x e = absurd (omega arith)
message_run zero (b ∷ []) kept rest i x e = refl
message_run zero (b ∷ c ∷ m) kept rest i x e = absurd (omega arith)
message_run (suc n) (b ∷ m) kept rest i x e =
    message_run n m (kept ++ (b ∷ [])) rest i x (omega arith) ∙ ap (λ (l : List ℕ). fed (closed i l x) rest) (append_assoc kept (b ∷ []) m)

pub record_run : (k : ℕ) (m rest : List ℕ) (i : ℕ) (x : Tally) → length m ≡ k → fed (within i k [] x) (m ++ rest) ≡ fed (closed i m x) rest
record_run zero [] rest i x e = refl
record_run zero (b ∷ m) rest i x e = absurd (omega arith)
record_run (suc k) m rest i x e = message_run k m [] rest i x e

pub head_run : (i h l : ℕ) (ds : List ℕ) (x : Tally) → x.messages < most_messages → fed (at i at_tag x) (1 ∷ h ∷ l ∷ ds) ≡ fed (within i (256 * h + l) [] x) ds
unfolding fed step
head_run i h l ds x a = rw (lt-ltb x.messages most_messages a)

-- ---- A record that is refused

pub record Stays (s : Run) (i : ℕ) (x : Tally) : Type 0 where
  pub tally : s.tally ≡ x
  pub began : s.began ≡ i
  pub ending : ending_of s ≡ stopped_at i

stays_stopped : (bs : List ℕ) (i : ℕ) (x : Tally) → Stays (fed (at i stopped x) bs) i x
unfolding fed step
stays_stopped [] i x = record { tally = refl; began = refl; ending = refl }
stays_stopped (b ∷ bs) i x = stays_stopped bs i x

stays_inside : (ds : List ℕ) (n : ℕ) (kept : List ℕ) (i : ℕ) (x : Tally) → length ds ≤ n → Stays (fed (at i (inside n kept) x) ds) i x
unfolding fed step
stays_inside [] n kept i x h = record { tally = refl; began = refl; ending = refl }
stays_inside (b ∷ ds) zero kept i x h = absurd (omega arith)
stays_inside (b ∷ ds) (suc n) kept i x h = stays_inside ds n (kept ++ (b ∷ [])) i x (omega arith)

stays_within : (k : ℕ) (ds : List ℕ) (i : ℕ) (x : Tally) → length ds < k → Stays (fed (within i k [] x) ds) i x
stays_within zero ds i x h = absurd (omega arith)
stays_within (suc k) ds i x h = stays_inside ds k [] i x (omega arith)

stays_tag : (b : ℕ) (bs : List ℕ) (i : ℕ) (x : Tally) → (b ≡ 1 → ⊥) → Stays (fed (at i at_tag x) (b ∷ bs)) i x
unfolding fed step
stays_tag b bs i x h = rw (ne_eqb b 1 h) (stays_stopped bs i x)

stays_many : (bs : List ℕ) (i : ℕ) (x : Tally) → most_messages ≤ x.messages → Stays (fed (at i at_tag x) (1 ∷ bs)) i x
unfolding fed step
stays_many bs i x h = rw (le-ltb x.messages most_messages h) (stays_stopped bs i x)

stays_short : (bs : List ℕ) (i : ℕ) (x : Tally) → x.messages < most_messages → length bs < 2 → Stays (fed (at i at_tag x) (1 ∷ bs)) i x
unfolding fed step
stays_short [] i x a h = rw (lt-ltb x.messages most_messages a) (record { tally = refl; began = refl; ending = refl })
stays_short (b ∷ []) i x a h = rw (lt-ltb x.messages most_messages a) (record { tally = refl; began = refl; ending = refl })
stays_short (b ∷ c ∷ bs) i x a h = absurd (omega arith)

stays_cut : (h l : ℕ) (ds : List ℕ) (i : ℕ) (x : Tally) → x.messages < most_messages → length ds < 256 * h + l → Stays (fed (at i at_tag x) (1 ∷ h ∷ l ∷ ds)) i x
stays_cut h l ds i x a c = rw (head_run i h l ds x a) (stays_within (256 * h + l) ds i x c)

stays_beyond : (f : List ℕ) (i : ℕ) (x : Tally) → RecordBeyond f i → Stays (fed (at i at_tag x) (drop i f)) i x
stays_beyond f i x y = rw y.reads (by (eqb_dec y.tag) (less x.messages))
  where
    eqb_dec : (b : ℕ) → (b ≡ 1) ⊎ (b ≡ 1 → ⊥)
    eqb_dec zero = inr (λ e. omega arith)
    eqb_dec (suc zero) = inl refl
    eqb_dec (suc (suc b)) = inr (λ e. omega arith)

    less : (n : ℕ) → (n < most_messages) ⊎ (most_messages ≤ n)
    less n = elim (native.Mathlib.Decide.dec_lt n most_messages) [ yes h ↦ inl h | no h ↦ inr (omega (arith, h)) ]

    cut : x.messages < most_messages → (length y.after < 2) ⊎ ((h l : ℕ) × (r : List ℕ) × (y.after ≡ h ∷ l ∷ r) × (length r < 256 * h + l)) → Stays (fed (at i at_tag x) (1 ∷ y.after)) i x
    cut a (inl h) = stays_short y.after i x a h
    cut a (inr z) = subst (λ (l : List ℕ). Stays (fed (at i at_tag x) (1 ∷ l)) i x) (sym z.3) (stays_cut z.0 z.1 z.2 i x a z.4)

    by : (y.tag ≡ 1) ⊎ (y.tag ≡ 1 → ⊥) → (x.messages < most_messages) ⊎ (most_messages ≤ x.messages) → Stays (fed (at i at_tag x) (y.tag ∷ y.after)) i x
    by (inr h) a = stays_tag y.tag y.after i x h
    by (inl e) (inr a) = subst (λ (b : ℕ). Stays (fed (at i at_tag x) (b ∷ y.after)) i x) (sym e) (stays_many y.after i x a)
    by (inl e) (inl a) = subst (λ (b : ℕ). Stays (fed (at i at_tag x) (b ∷ y.after)) i x) (sym e) (cut a y.beyond)

stops_here : {f : List ℕ} {i n : ℕ} → Stops f i n → (x : Tally) → x.messages ≡ n → Stays (fed (at i at_tag x) (drop i f)) i x
stops_here (other_tag {c = c} {d = d} o h) x e = rw o.reads (stays_tag c _ _ x h)
stops_here (too_many o h) x e = rw o.reads (stays_many _ _ x (omega arith))
stops_here {f} {i} (cut_short y) x e = stays_beyond f i x y

-- ---- The file, record by record

-- s is what the file f gives, of which w was captured: the tally, the ending, and a place that follows from the messages before it
record Runs (f : List ℕ) (s : Run) (n i : ℕ) (x : Tally) (w : Capture) : Type 0 where
  tally : s.tally ≡ noted_all x w.messages
  ending : ending_of s ≡ w.ending
  place : AllBytes f → i ≤ 65538 * n → s.began ≤ 65538 * (n + length w.messages)

note_counts : (m : List ℕ) (x : Tally) → (noted m x).messages ≡ x.messages + 1
unfolding noted_as
note_counts m x = refl

lies_short : {f : List ℕ} {i : ℕ} {m : List ℕ} → AllBytes f → Lies f i 1 m → length m ≤ 65535
lies_short {f} {i} {m} b o =
    let z : AllBytes (1 ∷ o.high ∷ o.low ∷ (m ++ o.after)) = subst AllBytes o.reads (all_drop i f b) in
    omega (arith, z.1.0, z.1.1.0, o.size)

runs : {f : List ℕ} {i n : ℕ} {w : Capture} → Captures f i n w → (x : Tally) → x.messages ≡ n → Runs f (fed (at i at_tag x) (drop i f)) n i x w
unfolding fed noted_all
runs (is_end e) x q = rw e (record { tally = refl; ending = refl; place = λ b h. omega arith })
runs (is_stop s) x q = let z = stops_here s x q in record { tally = z.tally; ending = z.ending; place = λ b h. omega (arith, z.began) }
runs {f} {i} {n} (is_more {m = m} {w = w} a o s) x q =
    let c : fed (at i at_tag x) (drop i f) ≡ fed (at (i + 3 + length m) at_tag (noted m x)) (drop (i + 3 + length m) f) =
    ap (fed (at i at_tag x)) o.reads
    ∙ head_run i o.high o.low (m ++ o.after) x (omega arith)
    ∙ record_run (256 * o.high + o.low) m o.after i x (sym o.size)
    ∙ ap (fed (closed i m x)) (sym (lies_next o)) in
    let z = runs s (noted m x) (note_counts m x ∙ (omega arith)) in
    record {
      tally = ap (λ (y : Run). y.tally) c ∙ z.tally;
      ending = ap ending_of c ∙ z.ending;
      place = λ b h. let p = z.place b (let l = lies_short b o in omega arith) in omega (arith, p, ap (λ (y : Run). y.began) c);
    }

none_seen : (tally_of []).messages ≡ 0
unfolding tally_of
none_seen = refl

whole_run : (f : List ℕ) → Runs f (fed begun f) 0 0 (tally_of []) (capture_of f)
whole_run f = runs (captures f) (tally_of []) none_seen

pub run_is_the_file : (f : List ℕ) → RunIs f (fed begun f)
run_is_the_file f = let z = whole_run f in record { tally = z.tally ∙ noted_all_lem [] (capture_of f).messages; ending = z.ending }

-- ---- However the buffer was filled

pub fed_append : (xs ys : List ℕ) (s : Run) → fed s (xs ++ ys) ≡ fed (fed s xs) ys
unfolding fed
fed_append [] ys s = refl
fed_append (x ∷ xs) ys s = fed_append xs ys (step s x)

pub fed_by_parts : FedByParts
unfolding fed_by fed
fed_by_parts s [] = refl
fed_by_parts s (bs ∷ more) = fed_by_parts (fed s bs) more ∙ sym (fed_append bs (concat more) s)

pub however_filled : HoweverFilled
however_filled parts = subst (RunIs (concat parts)) (sym (fed_by_parts begun parts)) (run_is_the_file (concat parts))

pub prints_the_report : PrintsTheReport
unfolding report
prints_the_report parts =
    let z = however_filled parts in
    ap₂ (λ (x : Tally) (e : Ending). report_of x e) z.tally z.ending

-- ---- No sum wraps

pub few_messages : {f : List ℕ} {i n : ℕ} {w : Capture} → Captures f i n w → n ≤ most_messages → n + length w.messages ≤ most_messages
few_messages (is_end e) h = omega arith
few_messages (is_stop s) h = omega arith
few_messages (is_more a o s) h = omega (arith, few_messages s (omega arith))

pub no_sum_wraps : NoSumWraps
no_sum_wraps f b =
    let l = few_messages (captures f) (omega arith) in
    let z : Small (fed begun f).tally = subst Small (sym (run_is_the_file f).tally) (small_tally (capture_of f).messages (omega (arith, l))) in
    record {
      messages = z.messages;
      accepts = z.accepts;
      refusals = z.refusals;
      held = z.held;
      bytes = z.bytes;
      place = omega (arith, (whole_run f).place b (omega arith), l);
    }
