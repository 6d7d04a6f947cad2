-- Any numbers stand for a running tally; and that of a file never wraps. Assumes nothing.
use Rattle.std.proofs.Common.{◌≡◌, ℕ, zero, suc, ◌+◌, ◌-◌, ◌*◌, ◌%◌, ◌^◌, ◌<◌, ◌≤◌, min, Bool, true, false, cond, eqb, ltb, leb, List, [], ◌∷◌, ◌++◌, length, get_or, take, drop, replicate, sym, refl, ap, ◌∙◌, subst, append_assoc, append-nil, arith, length-take-le, ltb-true, le-ltb, lt-ltb, eq-eqb, ne_eqb, le-leb, leb-true}
use lib.ListN.{length-replicate}
use Rattle.options.specs.KindClaims.{AllBytes}
use Rattle.options.specs.Captures.{Lease, no_lease, leases, Tally, noted, Stage, at_tag, at_high, at_low, inside, stopped, Run, begun, within, step_in, step, fed}
use Rattle.options.specs.CaptureClaims.{NoneWraps}
use Rattle.captures_theorems.proofs.Runs.{no_sum_wraps, fed_append}
use Rattle.captures_theorems.proofs.Reports.{all_append}
use Rattle.tally.specs.declared.Lease as coded
use Rattle.std.specs.Prelude.{Option, Some, None}
use Rattle.tally.specs.Noted.{lease_of, lease_in}
use Rattle.captures.specs.declared.Progress.{Progress}
use Rattle.captures.specs.Standing.{wrap, wrapped, within64, step_in64, fed64, NeverWraps, StageIs, before_record, after_tag, after_high, in_message, was_refused, Stands, Feeds, tidied, stage_numbered, kept_of, stage_of, EveryStateStands, StandingIsTidy}

-- ---- Any numbers

kept_length : (p : Progress) (message : List ℕ) → p.read < p.size → length (kept_of p message) ≡ p.read
kept_length p message l = by (leb p.size (length message)) refl
  where
    by : (b : Bool) → leb p.size (length message) ≡ b → length (cond b (take p.read message) (replicate p.read 0)) ≡ p.read
    by true e = length-take-le p.read message (omega (arith, leb-true p.size (length message) e))
    by false e = length-replicate {A = ℕ} p.read 0

kept_held : (p : Progress) (message : List ℕ) → p.read < p.size → p.size ≤ length message → take (length (kept_of p message)) message ≡ kept_of p message
kept_held p message l h = ap (λ (n : ℕ). take n message) (kept_length p message l) ∙ sym (rw (le-leb p.size (length message) h))

numbered : (p : Progress) (message : List ℕ) (z : Option coded.Lease) (g h : ℕ)
    → StageIs (record { began = p.began; stage = min g 3; high = cond (eqb g 2) h 0; size = 0; read = 0; messages = p.messages; lease = z }) message (stage_numbered g h)
numbered p message z zero h = before_record refl refl refl refl
numbered p message z (suc zero) h = after_tag refl refl refl refl
numbered p message z (suc (suc zero)) h = after_high refl refl refl refl
numbered p message z (suc (suc (suc g))) h = was_refused (omega arith) (rw (ne_eqb (suc (suc (suc g))) 2 (λ e. omega arith)) refl) refl refl

stage_stands : (p : Progress) (message : List ℕ) (b : Bool) → ltb p.read p.size ≡ b → StageIs (tidied p) message (stage_of p message)
stage_stands p message true e =
    let l : p.read < p.size = ltb-true p.read p.size e in
    let k : length (kept_of p message) ≡ p.read = kept_length p message l in
    rw e (in_message {left = p.size - p.read - 1} {kept = kept_of p message} refl refl (sym k) (omega arith) (λ h. kept_held p message l h))
stage_stands p message false e = rw e (numbered p message (lease_in (lease_of p.lease)) p.stage p.high)

first_and_rest : (v : List ℕ) → length v ≡ 8 → v ≡ get_or v 0 0 ∷ drop 1 v
first_and_rest [] e = absurd (omega arith)
first_and_rest (x ∷ v) e = refl

pub every_state_stands : EveryStateStands
every_state_stands p message v h b room l k =
    record {
      holds = record { began_is = refl; messages_is = refl; lease_is = refl; verdicts_are = first_and_rest v l.eight; held_are = refl; bytes_are = refl };
      stage_is = stage_stands p message (ltb p.read p.size) refl;
      room = room;
      lent = l;
      small = k;
    }

-- ---- Numbers that stand for one are read as they are

pub lease_same : (l : Option coded.Lease) → lease_in (lease_of l) ≡ l
lease_same None = refl
lease_same (Some l) = refl

tidy_as : (p : Progress) (b : Bool) → ltb p.read p.size ≡ b → lease_in (lease_of p.lease) ≡ p.lease → cond b 0 (min p.stage 3) ≡ p.stage
    → cond b 0 (cond (eqb p.stage 2) p.high 0) ≡ p.high → cond b p.size 0 ≡ p.size → cond b p.read 0 ≡ p.read → tidied p ≡ p
tidy_as p b e z g h n k = rw (e, z, g, h, n, k)

tidy_stage : (p : Progress) (message : List ℕ) {g : Stage} → StageIs p message g → lease_in (lease_of p.lease) ≡ p.lease → tidied p ≡ p
tidy_stage p message (before_record a u n k) z =
    tidy_as p false (le-ltb p.read p.size (omega arith)) z (omega (arith, a)) (rw (ne_eqb p.stage 2 (λ e. omega arith)) (sym u)) (sym n) (sym k)
tidy_stage p message (after_tag a u n k) z =
    tidy_as p false (le-ltb p.read p.size (omega arith)) z (omega (arith, a)) (rw (ne_eqb p.stage 2 (λ e. omega arith)) (sym u)) (sym n) (sym k)
tidy_stage p message (after_high a u n k) z =
    tidy_as p false (le-ltb p.read p.size (omega arith)) z (omega (arith, a)) (rw (eq-eqb p.stage 2 a) refl) (sym n) (sym k)
tidy_stage p message (in_message a u k n h) z = tidy_as p true (lt-ltb p.read p.size (omega (arith, k, n))) z (sym a) (sym u) refl refl
tidy_stage p message (was_refused a u n k) z =
    tidy_as p false (le-ltb p.read p.size (omega arith)) z (omega (arith, a)) (rw (ne_eqb p.stage 2 (λ e. omega arith)) (sym u)) (sym n) (sym k)

pub standing_is_tidy : StandingIsTidy
standing_is_tidy s p message v h b z = tidy_stage p message z.stage_is (lease_same p.lease)

high_again : (g h : ℕ) → cond (eqb (min g 3) 2) (cond (eqb g 2) h 0) 0 ≡ cond (eqb g 2) h 0
high_again zero h = refl
high_again (suc zero) h = refl
high_again (suc (suc zero)) h = refl
high_again (suc (suc (suc g))) h = rw (ne_eqb (suc (suc (suc g))) 2 (λ e. omega arith), ne_eqb (min (suc (suc (suc g))) 3) 2 (λ e. omega arith)) refl

-- and so are those that were brought to this form
pub tidied_again : (p : Progress) → tidied (tidied p) ≡ tidied p
tidied_again p = by (ltb p.read p.size) refl
  where
    by : (b : Bool) → ltb p.read p.size ≡ b → tidied (tidied p) ≡ tidied p
    by true e = tidy_as (tidied p) true (rw e e) (lease_same (tidied p).lease) (rw e refl) (rw e refl) (rw e refl) (rw e refl)
    by false e = tidy_as (tidied p) false (rw e refl) (lease_same (tidied p).lease) (rw e (omega arith)) (rw e (high_again p.stage p.high)) (rw e refl) (rw e refl)

-- ---- A file

wrap_same : (xs : List ℕ) (b : ℕ) → b < 2 ^ 64 → ((i : ℕ) → get_or xs i 0 ≤ b) → wrap xs ≡ xs
unfolding wrap
wrap_same [] b l h = refl
wrap_same (x ∷ xs) b l h =
    let z : x % 2 ^ 64 ≡ x = omega (arith, h 0) in
    ap (λ (y : ℕ). y ∷ wrap xs) z ∙ ap (λ (ys : List ℕ). x ∷ ys) (wrap_same xs b l (λ i. h (suc i)))

run_same : (i : ℕ) (g : Stage) (x : Tally) → NoneWraps (record { began = i; stage = g; tally = x }) → ◌≡◌ {A = Run} (record { began = i % 2 ^ 64; stage = g; tally = wrapped x }) (record { began = i; stage = g; tally = x })
unfolding wrapped
run_same i g x n =
    let a : i % 2 ^ 64 ≡ i = omega (arith, n.place) in
    let b : x.messages % 2 ^ 64 ≡ x.messages = omega (arith, n.messages) in
    let c : x.accepts % 2 ^ 64 ≡ x.accepts = omega (arith, n.accepts) in
    rw (a, b, c, wrap_same x.refusals 1000000 (omega arith) n.refusals, wrap_same x.held 1000000 (omega arith) n.held, wrap_same x.bytes (1472 * 1000000) (omega arith) n.bytes)

within_same : (i n : ℕ) (kept : List ℕ) (x : Tally) → NoneWraps (within i n kept x) → within64 i n kept x ≡ within i n kept x
within_same i zero kept x w = run_same (i + 3 + length kept) at_tag (noted kept x) w
within_same i (suc n) kept x w = refl

step_same : (i : ℕ) (g : Stage) (x : Tally) (b : ℕ) → NoneWraps (step_in i g x b) → step_in64 i g x b ≡ step_in i g x b
step_same i at_tag x b w = refl
step_same i at_high x b w = refl
step_same i (at_low h) x b w = within_same i (256 * h + b) [] x w
step_same i (inside n kept) x b w = within_same i n (kept ++ (b ∷ [])) x w
step_same i stopped x b w = refl

one_more : (f : List ℕ) (b : ℕ) → fed begun (f ++ (b ∷ [])) ≡ step_in (fed begun f).began (fed begun f).stage (fed begun f).tally b
unfolding fed step
one_more f b = fed_append f (b ∷ []) begun

all_front : (xs ys : List ℕ) → AllBytes (xs ++ ys) → AllBytes xs
all_front [] ys a = tt
all_front (x ∷ xs) ys a = (a.0, all_front xs ys a.1)

pub never_wraps : NeverWraps
unfolding fed64
never_wraps f [] a = ap (fed begun) (sym (append-nil f))
never_wraps f (b ∷ bs) a =
    let e : (f ++ (b ∷ [])) ++ bs ≡ f ++ (b ∷ bs) = append_assoc f (b ∷ []) bs in
    let all : AllBytes ((f ++ (b ∷ [])) ++ bs) = subst AllBytes (sym e) a in
    let w : NoneWraps (step_in (fed begun f).began (fed begun f).stage (fed begun f).tally b) = subst NoneWraps (one_more f b) (no_sum_wraps (f ++ (b ∷ [])) (all_front (f ++ (b ∷ [])) bs all)) in
    ap (λ (s : Run). fed64 s bs) (step_same (fed begun f).began (fed begun f).stage (fed begun f).tally b w ∙ sym (one_more f b))
    ∙ never_wraps (f ++ (b ∷ [])) bs all
    ∙ ap (fed begun) e

-- from the bytes of a file to these and a part
pub fed_more : (f part : List ℕ) {p q : Progress} {m v h b m' v' h' b' : List ℕ} → AllBytes f → AllBytes part → Stands (fed begun f) p m v h b → Feeds part p m v h b q m' v' h' b'
    → Stands (fed begun (f ++ part)) q m' v' h' b'
fed_more f part {p} {q} {m} {v} {h} {b} {m'} {v'} {h'} {b'} a c s t =
    subst (λ (r : Run). Stands r q m' v' h' b') (never_wraps f part (all_append f part a c))
    (t (fed begun f) (subst (λ (y : Progress). Stands (fed begun f) y m v h b) (sym (standing_is_tidy (fed begun f) p m v h b s)) s))
