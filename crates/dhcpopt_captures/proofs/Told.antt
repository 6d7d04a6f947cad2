-- What C is told of a file while it is taken. Assumes nothing.
use mathlib.Core.Path.{◌≡◌, refl, sym, ap, ap₂, ◌∙◌, subst}
use mathlib.Core.Bool.{true, false, cond}
use mathlib.Core.List.{List, [], ◌∷◌, ◌++◌, append_assoc, append-nil}
use mathlib.Core.Logic.{◌⊎◌, inl, inr}
use Prim.Native.Nat.{ℕ, zero, suc, ◌+◌, ◌-◌, ◌*◌, ◌^◌, ◌≤◌, ◌<◌}
use native.Mathlib.Omega.{arith}
use native.Mathlib.Decide.{dec_lt, ℕ_discrete}
use lib.ListN.{length, get_or, take, drop, replicate}
use lib.Seq.{take_at}
use borrow.Author.Tests.{ne_eqb, lt-ltb, le-ltb}
use Rattle.options.specs.KindClaims.{AllBytes}
use Rattle.options.specs.Sheet.{RecordAt}
use Rattle.options.specs.SheetRefusals.{RecordBeyond}
use Rattle.options.specs.Captures.{most_messages, Lease, no_lease, leases, Tally, tally_of, noted, noted_as, Stage, at_tag, at_high, at_low, inside, stopped, Run, begun, closed, within, step, fed, Ending, at_end, stopped_at, Capture, capture_of, ending_in, report, report_so_far}
use Rattle.options.specs.CaptureClaims.{MessagesFrom, TallyIs, NoneWraps, ReportIs}
use Rattle.theorems.proofs.View.{clash}
use Rattle.writing_theorems.proofs.SheetView.{Lies, lies_at, lies_next}
use Rattle.captures_theorems.proofs.Files.{Stops, other_tag, too_many, cut_short, Captures, is_end, is_stop, is_more, captures, capture_is_correct}
use Rattle.captures_theorems.proofs.Runs.{record_run, head_run, run_is_the_file, no_sum_wraps}
use Rattle.captures_theorems.proofs.Sums.{noted_all, noted_all_lem}
use Rattle.captures_theorems.proofs.Tallies.{tally_is, tally_is_correct}
use Rattle.captures_theorems.proofs.Reports.{report_is_correct}
use Rattle.tally.specs.declared.Lease as coded
use Rattle.tally.specs.Noted.{lease_in}
use Rattle.std.specs.Prelude as code
use Rattle.captures.specs.Standing as standing
use Rattle.captures.specs.declared.Progress.{Progress}
use Rattle.captures.specs.Standing.{StageIs, Small, Stands, none_read}
use Rattle.captures.proofs.Beginning.{begun_empty}
use Rattle.captures.proofs.States.{standing_is_tidy, fed_more}
use Rattle.report.specs.Printed.{Reports}
use Rattle.report.proofs.Whole.{file_is_reported}
use Rattle.dhcpopt_captures.specs.declared.PlainProgress.{PlainProgress}
use Rattle.dhcpopt_captures.specs.Plain.{progress_of_value, leases_of, smallest_of, largest_of, plain_of, BeginsWith}
use Rattle.dhcpopt_captures.specs.Told.{RecordsTo, arrived, and_on, PlaceTold, before_record, after_tag, after_high, in_message, refused, LeaseTold, none_told, both_told, ToldOf, After, BegunForC, FedForC, ProgressByCase, ProgressByCaseBoth, Says24, CapturesRefusedForC, CapturesReportedForC}

abbrev at : ℕ → Stage → Tally → Run
at i g x = record { began = i; stage = g; tally = x }

-- ---- The record where reading is

-- its bytes so far, after n messages
abbrev StageAt : List ℕ → ℕ → ℕ → Stage → Type 0
StageAt f n j at_tag = drop j f ≡ []
StageAt f n j at_high = (n < 1000000) × (drop j f ≡ 1 ∷ [])
StageAt f n j (at_low h) = (n < 1000000) × (drop j f ≡ 1 ∷ h ∷ [])
StageAt f n j (inside left kept) = (h l : ℕ) × (n < 1000000) × (drop j f ≡ 1 ∷ h ∷ l ∷ kept) × (256 * h + l ≡ length kept + suc left)
StageAt f n j stopped = (c : ℕ) × (rest : List ℕ) × (drop j f ≡ c ∷ rest) × ((c ≡ 1 → ⊥) ⊎ (1000000 ≤ n))

-- it stays the record at i
record Here (f : List ℕ) (n i : ℕ) (x : Tally) (s : Run) : Type 0 where
  began : s.began ≡ i
  tally : s.tally ≡ x
  place : StageAt f n i s.stage

here : {f : List ℕ} {n i : ℕ} {x : Tally} {s : Run} (g : Stage) → s ≡ at i g x → StageAt f n i g → Here f n i x s
here {f} {n} {i} g e p = record { began = ap (λ (y : Run). y.began) e; tally = ap (λ (y : Run). y.tally) e; place = subst (StageAt f n i) (sym (ap (λ (y : Run). y.stage) e)) p }

stopped_fed : (bs : List ℕ) (i : ℕ) (x : Tally) → fed (at i stopped x) bs ≡ at i stopped x
unfolding fed step
stopped_fed [] i x = refl
stopped_fed (b ∷ bs) i x = stopped_fed bs i x

other_fed : (b : ℕ) (bs : List ℕ) (i : ℕ) (x : Tally) → (b ≡ 1 → ⊥) → fed (at i at_tag x) (b ∷ bs) ≡ at i stopped x
unfolding fed step
other_fed b bs i x h = rw (ne_eqb b 1 h) (stopped_fed bs i x)

many_fed : (bs : List ℕ) (i : ℕ) (x : Tally) → 1000000 ≤ x.messages → fed (at i at_tag x) (1 ∷ bs) ≡ at i stopped x
unfolding fed step
many_fed bs i x h = rw (le-ltb x.messages most_messages h) (stopped_fed bs i x)

tag_fed : (i : ℕ) (x : Tally) → x.messages < 1000000 → fed (at i at_tag x) (1 ∷ []) ≡ at i at_high x
unfolding fed step
tag_fed i x h = rw (lt-ltb x.messages most_messages h)

high_fed : (b i : ℕ) (x : Tally) → x.messages < 1000000 → fed (at i at_tag x) (1 ∷ b ∷ []) ≡ at i (at_low b) x
unfolding fed step
high_fed b i x h = rw (lt-ltb x.messages most_messages h)

inside_fed : (ys : List ℕ) (n : ℕ) (kept : List ℕ) (i : ℕ) (x : Tally) → length ys ≤ n → fed (at i (inside n kept) x) ys ≡ at i (inside (n - length ys) (kept ++ ys)) x
unfolding fed step
inside_fed [] n kept i x h = ap₂ (λ (k : ℕ) (l : List ℕ). at i (inside k l) x) (omega arith) (sym (append-nil kept))
inside_fed (y ∷ ys) zero kept i x h = absurd (omega arith)
inside_fed (y ∷ ys) (suc n) kept i x h =
    inside_fed ys n (kept ++ (y ∷ [])) i x (omega arith) ∙ ap₂ (λ (k : ℕ) (l : List ℕ). at i (inside k l) x) (omega arith) (append_assoc kept (y ∷ []) ys)

within_fed : (k : ℕ) (ds : List ℕ) (i : ℕ) (x : Tally) → length ds < k → fed (within i k [] x) ds ≡ at i (inside (k - 1 - length ds) ds) x
within_fed zero ds i x h = absurd (omega arith)
within_fed (suc k) ds i x h = let z : k - length ds ≡ suc k - 1 - length ds = omega arith in inside_fed ds k [] i x (omega arith) ∙ ap (λ (j : ℕ). at i (inside j ds) x) z

module _ (f : List ℕ) (i n : ℕ) (x : Tally) (q : x.messages ≡ n) where
  -- a record that is cut short
  short_here : (after : List ℕ) → n < 1000000 → drop i f ≡ 1 ∷ after → (length after < 2) ⊎ ((h l : ℕ) × (r : List ℕ) × (after ≡ h ∷ l ∷ r) × (length r < 256 * h + l)) → Here f n i x (fed (at i at_tag x) (1 ∷ after))
  short_here [] a e y = here at_high (tag_fed i x (omega arith)) (a, e)
  short_here (b ∷ []) a e y = here (at_low b) (high_fed b i x (omega arith)) (a, e)
  short_here (b ∷ c ∷ ds) a e (inl y) = absurd (omega arith)
  short_here (b ∷ c ∷ ds) a e (inr (h, l, r, o, k)) =
      let z : length ds < 256 * b + c = cut h l r o k in
      here (inside (256 * b + c - 1 - length ds) ds) (head_run i b c ds x (omega arith) ∙ within_fed (256 * b + c) ds i x z) (b, c, a, e, omega arith)
    where
      cut : (h l : ℕ) (r : List ℕ) → b ∷ c ∷ ds ≡ h ∷ l ∷ r → length r < 256 * h + l → length ds < 256 * b + c
      cut h l r o k =
          let x : b ≡ h = cc in
          let y : c ≡ l = cc in
          let w : ds ≡ r = cc in
          omega (arith, k, ap length w)

  first_here : (c : ℕ) (after : List ℕ) → drop i f ≡ c ∷ after → (n < 1000000 → drop i f ≡ 1 ∷ after → Here f n i x (fed (at i at_tag x) (1 ∷ after))) → Here f n i x (fed (at i at_tag x) (c ∷ after))
  first_here c after e k = by (ℕ_discrete c 1) (dec_lt n 1000000)
    where
      by : Dec (c ≡ 1) → Dec (n < 1000000) → Here f n i x (fed (at i at_tag x) (c ∷ after))
      by (no h) d = here stopped (other_fed c after i x h) (c, after, e, inl h)
      by (yes h) (yes a) = subst (λ (b : ℕ). Here f n i x (fed (at i at_tag x) (b ∷ after))) (sym h) (k a (e ∙ ap (λ (b : ℕ). b ∷ after) h))
      by (yes h) (no a) =
          subst (λ (b : ℕ). Here f n i x (fed (at i at_tag x) (b ∷ after))) (sym h) (here stopped (many_fed after i x (omega (arith, a))) (1, after, e ∙ ap (λ (b : ℕ). b ∷ after) h, inr (omega (arith, a))))

  stops_here : Stops f i n → Here f n i x (fed (at i at_tag x) (drop i f))
  stops_here (other_tag {c = c} {d = d} o h) = rw o.reads (here stopped (other_fed c _ i x h) (c, _, o.reads, inl h))
  stops_here (too_many {d = d} o h) = rw o.reads (here stopped (many_fed _ i x (omega arith)) (1, _, o.reads, inr h))
  stops_here (cut_short y) = rw y.reads (first_here y.tag y.after y.reads (λ a e. short_here y.after a e y.beyond))

-- ---- The file, record by record

record Reached (f : List ℕ) (i n : ℕ) (x : Tally) (s : Run) : Type 0 where
  seen : List (List ℕ)
  records : RecordsTo f i n seen s.began
  tally : s.tally ≡ noted_all x seen
  place : StageAt f (n + length seen) s.began s.stage

note_counts : (m : List ℕ) (x : Tally) → (noted m x).messages ≡ x.messages + 1
unfolding noted_as
note_counts m x = refl

-- a record that is taken
one_run : {f : List ℕ} {i : ℕ} {m : List ℕ} (o : Lies f i 1 m) (x : Tally) → x.messages < 1000000
    → fed (at i at_tag x) (drop i f) ≡ fed (at (i + 3 + length m) at_tag (noted m x)) (drop (i + 3 + length m) f)
one_run {f} {i} {m} o x h =
    ap (fed (at i at_tag x)) o.reads
    ∙ head_run i o.high o.low (m ++ o.after) x h
    ∙ record_run (256 * o.high + o.low) m o.after i x (sym o.size)
    ∙ ap (fed (closed i m x)) (sym (lies_next o))

none_more : {f : List ℕ} {i n : ℕ} {x : Tally} {s : Run} → Here f n i x s → Reached f i n x s
unfolding noted_all
none_more {f} {i} {n} {x} {s} h =
    let z : n ≡ n + 0 = omega arith in
    record {
      seen = [];
      records = subst (RecordsTo f i n []) (sym h.began) arrived;
      tally = h.tally;
      place = subst (λ (k : ℕ). StageAt f k s.began s.stage) z (subst (λ (j : ℕ). StageAt f n j s.stage) (sym h.began) h.place);
    }

one_more : {f : List ℕ} {i n : ℕ} {m : List ℕ} {x : Tally} {s : Run} → AllBytes f → n < 1000000 → Lies f i 1 m → Reached f (i + 3 + length m) (suc n) (noted m x) s → Reached f i n x s
unfolding noted_all
one_more {f} {i} {n} {m} {x} {s} all a o r =
    let z : suc n ≡ n + 1 = omega arith in
    let k : suc n + length r.seen ≡ n + suc (length r.seen) = omega arith in
    record {
      seen = m ∷ r.seen;
      records = and_on a (lies_at all o) (subst (λ (j : ℕ). RecordsTo f (i + 3 + length m) j r.seen s.began) z r.records);
      tally = r.tally;
      place = subst (λ (j : ℕ). StageAt f j s.began s.stage) k r.place;
    }

reached : {f : List ℕ} {i n : ℕ} {w : Capture} → AllBytes f → Captures f i n w → (x : Tally) → x.messages ≡ n → Reached f i n x (fed (at i at_tag x) (drop i f))
unfolding fed
reached {f} {i} {n} all (is_end e) x q = none_more (rw e (here at_tag refl e))
reached {f} {i} {n} all (is_stop s) x q = none_more (stops_here f i n x q s)
reached {f} {i} {n} all (is_more {m = m} {w = w} a o s) x q =
    subst (Reached f i n x) (sym (one_run o x (omega (arith, a, q)))) (one_more all a o (reached all s (noted m x) (note_counts m x ∙ (omega arith))))

none_seen : (tally_of []).messages ≡ 0
unfolding tally_of
none_seen = refl

whole : (f : List ℕ) → AllBytes f → Reached f 0 0 (tally_of []) (fed begun f)
whole f all = reached all (captures f) (tally_of []) none_seen

-- ---- The struct

lease_told : (r : PlainProgress) (y : Lease) → (progress_of_value r).lease ≡ lease_in y → r ≡ plain_of (progress_of_value r) → LeaseTold r y
lease_told r no_lease e k =
    none_told (ap (λ (q : PlainProgress). q.leases) k ∙ ap leases_of e) (ap (λ (q : PlainProgress). q.smallest) k ∙ ap smallest_of e) (ap (λ (q : PlainProgress). q.largest) k ∙ ap largest_of e)
lease_told r (leases s l) e k =
    both_told (ap (λ (q : PlainProgress). q.leases) k ∙ ap leases_of e) (ap (λ (q : PlainProgress). q.smallest) k ∙ ap smallest_of e) (ap (λ (q : PlainProgress). q.largest) k ∙ ap largest_of e)

place_told : (f : List ℕ) (n : ℕ) (message : List ℕ) (r : PlainProgress) {g : Stage} → StageIs (progress_of_value r) message g → StageAt f n r.began g → PlaceTold f n message r
place_told f n message r (standing.before_record a u s k) p = before_record p a u s k
place_told f n message r (standing.after_tag a u s k) p = after_tag p.0 p.1 a u s k
place_told f n message r (standing.after_high a u s k) p = after_high p.0 (p.1 ∙ ap (λ (h : ℕ). 1 ∷ h ∷ []) (sym u)) a s k
place_told f n message r (standing.in_message {left = left} {kept = kept} a u k s h) p =
    in_message p.2 p.3 a u (s ∙ sym p.4) k (omega (arith, k, s)) (λ l. ap (λ (j : ℕ). take j message) k ∙ h l)
place_told f n message r (standing.was_refused a u s k) p = refused p.2 p.3 a u s k

told : (f : List ℕ) (r : PlainProgress) (message v h b : List ℕ) → AllBytes f → After f r message v h b → ToldOf f r message v h b
told f r message v h b all x =
    let z = whole f all in
    let k = x.stands.holds in
    let e : (fed begun f).tally ≡ tally_of z.seen = z.tally ∙ noted_all_lem [] z.seen in
    let t = tally_is z.seen in
    let n : 0 + length z.seen ≡ length z.seen = omega arith in
    let g : StageAt f (length z.seen) (fed begun f).began (fed begun f).stage = subst (λ (j : ℕ). StageAt f j (fed begun f).began (fed begun f).stage) n z.place in
    record {
      seen = z.seen;
      tally = tally_of z.seen;
      records_are = subst (RecordsTo f 0 0 z.seen) (sym k.began_is) z.records;
      tally_is = t;
      messages_are = k.messages_is ∙ ap (λ (y : Tally). y.messages) e ∙ t.messages;
      verdicts_are = k.verdicts_are ∙ ap (λ (y : Tally). y.accepts ∷ y.refusals) e;
      held_are = k.held_are ∙ ap (λ (y : Tally). y.held) e;
      bytes_are = k.bytes_are ∙ ap (λ (y : Tally). y.bytes) e;
      lease_is = lease_told r (tally_of z.seen).lease (k.lease_is ∙ ap (λ (y : Tally). lease_in y.lease) e) x.plain;
      place_is = place_told f (length z.seen) message r x.stands.stage_is (subst (λ (j : ℕ). StageAt f (length z.seen) j (fed begun f).stage) (sym k.began_is) g);
    }

-- ---- What is told says which run it is

lies : {f : List ℕ} {i : ℕ} {m : List ℕ} → RecordAt f i 1 m → Lies f i 1 m
lies o = record { high = o.high; low = o.low; after = o.after; reads = o.reads; size = o.size }

records_run : {f : List ℕ} {i n j : ℕ} {ms : List (List ℕ)} → RecordsTo f i n ms j → (x : Tally) → x.messages ≡ n → fed (at i at_tag x) (drop i f) ≡ fed (at j at_tag (noted_all x ms)) (drop j f)
unfolding noted_all
records_run arrived x q = refl
records_run (and_on {m = m} a o s) x q = one_run (lies o) x (omega (arith, a, q)) ∙ records_run s (noted m x) (note_counts m x ∙ ap (λ (k : ℕ). k + 1) q)

stop_run : (c : ℕ) (rest : List ℕ) (i : ℕ) (x : Tally) → (c ≡ 1 → ⊥) ⊎ (1000000 ≤ x.messages) → fed (at i at_tag x) (c ∷ rest) ≡ at i stopped x
stop_run c rest i x w = by (ℕ_discrete c 1) w
  where
    by : Dec (c ≡ 1) → (c ≡ 1 → ⊥) ⊎ (1000000 ≤ x.messages) → fed (at i at_tag x) (c ∷ rest) ≡ at i stopped x
    by (no h) y = other_fed c rest i x h
    by (yes h) (inl y) = absurd (y h)
    by (yes h) (inr y) = ap (λ (b : ℕ). fed (at i at_tag x) (b ∷ rest)) h ∙ many_fed rest i x y

record Placed (r : PlainProgress) (message : List ℕ) (x : Tally) (s : Run) : Type 0 where
  stage : Stage
  is : s ≡ at r.began stage x
  stage_is : StageIs (progress_of_value r) message stage

place_run : (f message : List ℕ) (r : PlainProgress) (x : Tally) → PlaceTold f x.messages message r → Placed r message x (fed (at r.began at_tag x) (drop r.began f))
unfolding fed
place_run f message r x (before_record e a u s k) = record { stage = at_tag; is = ap (fed (at r.began at_tag x)) e; stage_is = standing.before_record a u s k }
place_run f message r x (after_tag l e a u s k) = record { stage = at_high; is = ap (fed (at r.began at_tag x)) e ∙ tag_fed r.began x l; stage_is = standing.after_tag a u s k }
place_run f message r x (after_high l e a s k) = record { stage = at_low r.high; is = ap (fed (at r.began at_tag x)) e ∙ high_fed r.high r.began x l; stage_is = standing.after_high a refl s k }
place_run f message r x (in_message {h = h} {l = l} {kept = kept} a e g u s k b t) =
    let z : length kept < 256 * h + l = omega (arith, s, k, b) in
    record {
      stage = inside (256 * h + l - 1 - length kept) kept;
      is = ap (fed (at r.began at_tag x)) e ∙ head_run r.began h l kept x a ∙ within_fed (256 * h + l) kept r.began x z;
      stage_is = standing.in_message {left = 256 * h + l - 1 - length kept} {kept = kept} g u k (omega (arith, s, z)) (λ y. ap (λ (j : ℕ). take j message) (sym k) ∙ t y);
    }
place_run f message r x (refused {c = c} {rest = rest} e w a u s k) =
    record { stage = stopped; is = ap (fed (at r.began at_tag x)) e ∙ stop_run c rest r.began x w; stage_is = standing.was_refused a u s k }

abbrev with_leases : PlainProgress → ℕ → ℕ → ℕ → PlainProgress
with_leases r n s l = record { began = r.began; messages = r.messages; size = r.size; read = r.read; stage = r.stage; leases = n; smallest = s; largest = l; high = r.high }

lease_back : (r : PlainProgress) {y : Lease} → LeaseTold r y → ((progress_of_value r).lease ≡ lease_in y) × (r ≡ plain_of (progress_of_value r))
lease_back r {y} t = (by t, plain t)
  where
    by : {y : Lease} → LeaseTold r y → (progress_of_value r).lease ≡ lease_in y
    by (none_told a s l) = rw a refl
    by (both_told a s l) = rw (a, s, l) refl

    members : (x : code.Option coded.Lease) → r.leases ≡ leases_of x → r.smallest ≡ smallest_of x → r.largest ≡ largest_of x → r ≡ with_leases r (leases_of x) (smallest_of x) (largest_of x)
    members x a s l =
        ap (λ (n : ℕ). with_leases r n r.smallest r.largest) a ∙ ap (λ (n : ℕ). with_leases r (leases_of x) n r.largest) s ∙ ap (λ (n : ℕ). with_leases r (leases_of x) (smallest_of x) n) l

    plain : {y : Lease} → LeaseTold r y → r ≡ plain_of (progress_of_value r)
    plain (none_told a s l) =
        let e = by (none_told a s l) in
        members (progress_of_value r).lease (a ∙ sym (ap leases_of e)) (s ∙ sym (ap smallest_of e)) (l ∙ sym (ap largest_of e))
    plain (both_told a s l) =
        let e = by (both_told a s l) in
        members (progress_of_value r).lease (a ∙ sym (ap leases_of e)) (s ∙ sym (ap smallest_of e)) (l ∙ sym (ap largest_of e))

small_run : (s : Run) → NoneWraps s → Small (s.tally.accepts ∷ s.tally.refusals) s.tally.held s.tally.bytes
small_run s w = record { verdicts_small = by; held_small = λ i. omega (arith, w.held i); bytes_small = λ i. omega (arith, w.bytes i) }
  where
    by : (i : ℕ) → get_or (s.tally.accepts ∷ s.tally.refusals) i 0 < 2 ^ 64
    by zero = omega (arith, w.accepts)
    by (suc i) = omega (arith, w.refusals i)

after_told : (f : List ℕ) (r : PlainProgress) (message v h b : List ℕ) → AllBytes f → 1472 ≤ length message → ToldOf f r message v h b → After f r message v h b
after_told f r message v h b all room t =
    let e : noted_all (tally_of []) t.seen ≡ t.tally = noted_all_lem [] t.seen ∙ (tally_is_correct t.seen t.tally).1 t.tally_is in
    let p = place_run f message r t.tally (subst (λ (n : ℕ). PlaceTold f n message r) (sym t.tally_is.messages) t.place_is) in
    let is : fed begun f ≡ at r.began p.stage t.tally =
    records_run t.records_are (tally_of []) none_seen ∙ ap (λ (y : Tally). fed (at r.began at_tag y) (drop r.began f)) e ∙ p.is in
    let l = lease_back r t.lease_is in
    record {
      stands = subst (λ (y : Run). Stands y (progress_of_value r) message v h b) (sym is)
          (record {
            holds = record { began_is = refl; messages_is = t.messages_are ∙ sym t.tally_is.messages; lease_is = l.0; verdicts_are = t.verdicts_are; held_are = t.held_are; bytes_are = t.bytes_are };
            stage_is = p.stage_is;
            room = room;
            lent = record { eight = ap length t.verdicts_are ∙ ap suc t.tally_is.seven; held_all = ap length t.held_are ∙ t.tally_is.held_all; bytes_all = ap length t.bytes_are ∙ t.tally_is.bytes_all };
            small = rw (t.verdicts_are, t.held_are, t.bytes_are) (small_run (at r.began p.stage t.tally) (subst NoneWraps is (no_sum_wraps f all)));
          });
      plain = l.1;
    }

pub progress_by_case : ProgressByCase
progress_by_case = told

pub progress_by_case_both : ProgressByCaseBoth
progress_by_case_both f r message v h b all room = (told f r message v h b all, after_told f r message v h b all room)

-- ---- The calls

pub begun_for_c : BegunForC
unfolding fed
begun_for_c r message v h b room k =
    record {
      stands = subst (λ (p : PlainProgress). Stands begun (progress_of_value p) message v h b) (sym k.zeros)
          (subst (λ (y : List ℕ). Stands begun none_read message y h b) (sym k.verdicts_are) (subst (λ (y : List ℕ). Stands begun none_read message (replicate 8 0) y b) (sym k.held_are) (subst (λ (y : List ℕ). Stands begun none_read message (replicate 8 0) (replicate 256 0) y) (sym k.bytes_are) (begun_empty message room))));
      plain = k.zeros ∙ ap (λ (p : PlainProgress). plain_of (progress_of_value p)) (sym k.zeros);
    }

pub fed_for_c : FedForC
fed_for_c f part p r m v h b m' v' h' b' a c x t = record { stands = fed_more f part a c x.stands t.feeds; plain = t.plain }

-- ---- 24

stage_ends : (r : PlainProgress) (message : List ℕ) {g : Stage} → StageIs (progress_of_value r) message g → (i : ℕ) → ((r.stage ≡ 0) × (r.size ≡ 0) → ⊥) → ending_in g i ≡ stopped_at i
stage_ends r message (standing.before_record a u s k) i h = absurd (h (a, s))
stage_ends r message (standing.after_tag a u s k) i h = refl
stage_ends r message (standing.after_high a u s k) i h = refl
stage_ends r message (standing.in_message a u k s q) i h = refl
stage_ends r message (standing.was_refused a u s k) i h = refl

same_place : (i p : ℕ) → stopped_at i ≡ stopped_at p → i ≡ p
same_place i p e = cc

no_end : {p : ℕ} → at_end ≡ stopped_at p → ⊥
no_end e = clash (cc)

ends_stage : (r : PlainProgress) (message : List ℕ) {g : Stage} → StageIs (progress_of_value r) message g → (i p : ℕ) → ending_in g i ≡ stopped_at p → ((r.stage ≡ 0) × (r.size ≡ 0) → ⊥) × (i ≡ p)
ends_stage r message (standing.before_record a u s k) i p e = absurd (no_end e)
ends_stage r message (standing.after_tag a u s k) i p e = ((λ q. let z = q.0 in omega arith), same_place i p e)
ends_stage r message (standing.after_high a u s k) i p e = ((λ q. let z = q.0 in omega arith), same_place i p e)
ends_stage r message (standing.in_message a u k s h) i p e = ((λ q. let z = q.1 in omega (arith, s, z)), same_place i p e)
ends_stage r message (standing.was_refused a u s k) i p e = ((λ q. let z = q.0 in omega arith), same_place i p e)

pub captures_refused : CapturesRefusedForC
captures_refused f r message v h b p all x = (to, from)
  where
    to : Says24 r p → (ms : List (List ℕ)) × MessagesFrom f 0 0 ms (stopped_at p)
    to y =
        let e : (capture_of f).ending ≡ stopped_at p = sym (run_is_the_file f).ending ∙ stage_ends r message x.stands.stage_is (fed begun f).began y.0 ∙ ap stopped_at (sym x.stands.holds.began_is ∙ y.1) in
        ((capture_of f).messages, subst (MessagesFrom f 0 0 (capture_of f).messages) e ((capture_is_correct f (capture_of f) all).0 refl))

    from : (ms : List (List ℕ)) × MessagesFrom f 0 0 ms (stopped_at p) → Says24 r p
    from y =
        let c : capture_of f ≡ record { messages = y.0; ending = stopped_at p } = (capture_is_correct f (record { messages = y.0; ending = stopped_at p }) all).1 y.1 in
        let z = ends_stage r message x.stands.stage_is (fed begun f).began p ((run_is_the_file f).ending ∙ ap (λ (w : Capture). w.ending) c) in
        (z.0, x.stands.holds.began_is ∙ z.1)

pub captures_reported : CapturesReportedForC
captures_reported f p message v h b old r after all x t =
    let s : Run = fed begun f in
    let z = t s message (subst (λ (q : Progress). Stands s q message v h b) (sym (standing_is_tidy s (progress_of_value p) message v h b x.stands)) x.stands) in
    let e : report_so_far s ≡ report f = file_is_reported f in
    let k : take r after ≡ report_so_far s = ap (take r) z.1 ∙ take_at (report_so_far s) (drop (length (report_so_far s)) old) r (sym z.0) in
    ((report_is_correct f (take r after) all).0 (sym (k ∙ e)), z.1 ∙ ap₂ (λ (xs : List ℕ) (n : ℕ). xs ++ drop n old) (sym k) (sym z.0))
