-- From stage to stage: what the code does with a byte of a head, or with bytes of a message, is what the running tally does. Assumes nothing.
use Rattle.std.proofs.Common.{◌≡◌, ℕ, zero, suc, ◌+◌, ◌-◌, ◌*◌, ◌<◌, ◌≤◌, Bool, true, false, cond, eqb, ltb, List, [], ◌∷◌, ◌++◌, length, take, drop, sym, refl, ap, ◌∙◌, subst, ap₂, append_assoc, append-nil, arith, length-append, take_all, lt-ltb}
use Rattle.options.specs.Captures.{most_messages, Tally, Stage, at_tag, at_high, at_low, inside, stopped, Run}
use Rattle.options.specs.Reading.{read_message}
use Rattle.std.specs.Prelude as code
use Rattle.tally.specs.Noted.{Notes}
use Rattle.captures.specs.declared.Progress.{Progress}
use Rattle.captures.specs.Standing.{taken_value, closed64, within64, step_in64, fed64, Holds, StageIs, before_record, after_tag, after_high, in_message, was_refused, Stands, Takes, behind_of, Closes, Whole, Keeps}
use Rattle.captures.proofs.Closing.{closes_as}

-- ---- The running tally, over bytes

abbrev pub at : ℕ → Stage → Tally → Run
at i g x = record { began = i; stage = g; tally = x }

pub fed_append : (xs ys : List ℕ) (s : Run) → fed64 s (xs ++ ys) ≡ fed64 (fed64 s xs) ys
unfolding fed64
fed_append [] ys s = refl
fed_append (x ∷ xs) ys s = fed_append xs ys (step_in64 s.began s.stage s.tally x)

one_fed : (s : Run) (c : ℕ) (g : Stage) → s.stage ≡ g → fed64 s (c ∷ []) ≡ step_in64 s.began g s.tally c
unfolding fed64
one_fed s c g e = ap (λ (y : Stage). step_in64 s.began y s.tally c) e

-- some of the bytes of a message that are still to come
inside_run : (ys : List ℕ) (n : ℕ) (kept : List ℕ) (i : ℕ) (x : Tally) → length ys ≤ n → fed64 (at i (inside n kept) x) ys ≡ at i (inside (n - length ys) (kept ++ ys)) x
unfolding fed64
inside_run [] n kept i x h = ap₂ (λ (k : ℕ) (l : List ℕ). at i (inside k l) x) (omega arith) (sym (append-nil kept))
inside_run (y ∷ ys) zero kept i x h = absurd (omega arith)
inside_run (y ∷ ys) (suc n) kept i x h =
    inside_run ys n (kept ++ (y ∷ [])) i x (omega arith) ∙ ap₂ (λ (k : ℕ) (l : List ℕ). at i (inside k l) x) (omega arith) (append_assoc kept (y ∷ []) ys)

-- all of them
message_end : (ys : List ℕ) (n : ℕ) (kept : List ℕ) (i : ℕ) (x : Tally) → length ys ≡ suc n → fed64 (at i (inside n kept) x) ys ≡ closed64 i (kept ++ ys) x
unfolding fed64
message_end [] n kept i x e = absurd (omega arith)
message_end (b ∷ []) zero kept i x e = refl
message_end (b ∷ c ∷ m) zero kept i x e = absurd (omega arith)
message_end (b ∷ m) (suc n) kept i x e = message_end m n (kept ++ (b ∷ [])) i x (omega arith) ∙ ap (λ (l : List ℕ). closed64 i l x) (append_assoc kept (b ∷ []) m)

body_end : (k : ℕ) (m : List ℕ) (i : ℕ) (x : Tally) → length m ≡ k → fed64 (within64 i k [] x) m ≡ closed64 i m x
unfolding fed64
body_end zero [] i x e = refl
body_end zero (b ∷ m) i x e = absurd (omega arith)
body_end (suc k) m i x e = message_end m k [] i x e

head_run : (i h l : ℕ) (ds : List ℕ) (x : Tally) → x.messages < most_messages → fed64 (at i at_tag x) (1 ∷ h ∷ l ∷ ds) ≡ fed64 (within64 i (256 * h + l) [] x) ds
unfolding fed64
head_run i h l ds x a = rw (lt-ltb x.messages most_messages a)

-- ---- Which stage it is

-- in a message
record Inside (p : Progress) (message : List ℕ) (g : Stage) : Type 0 where
  left : ℕ
  kept : List ℕ
  is : g ≡ inside left kept
  read_is : p.read ≡ length kept
  size_is : p.size ≡ length kept + suc left
  held : p.size ≤ length message → take (length kept) message ≡ kept

module _ {p : Progress} {message : List ℕ} where
  is_tag : {g : Stage} → StageIs p message g → p.stage ≡ 0 → p.size ≤ p.read → g ≡ at_tag
  is_tag (before_record a d b c) e l = refl
  is_tag (after_tag a d b c) e l = absurd (omega arith)
  is_tag (after_high a h b c) e l = absurd (omega arith)
  is_tag (in_message a u b c d) e l = absurd (omega arith)
  is_tag (was_refused a d b c) e l = absurd (omega arith)

  is_high : {g : Stage} → StageIs p message g → p.stage ≡ 1 → g ≡ at_high
  is_high (before_record a d b c) e = absurd (omega arith)
  is_high (after_tag a d b c) e = refl
  is_high (after_high a h b c) e = absurd (omega arith)
  is_high (in_message a u b c d) e = absurd (omega arith)
  is_high (was_refused a d b c) e = absurd (omega arith)

  is_low : {g : Stage} → StageIs p message g → p.stage ≡ 2 → g ≡ at_low p.high
  is_low (before_record a d b c) e = absurd (omega arith)
  is_low (after_tag a d b c) e = absurd (omega arith)
  is_low (after_high a h b c) e = ap at_low (sym h)
  is_low (in_message a u b c d) e = absurd (omega arith)
  is_low (was_refused a d b c) e = absurd (omega arith)

  is_stopped : {g : Stage} → StageIs p message g → (p.stage ≡ 0 → ⊥) → (p.stage ≡ 1 → ⊥) → (p.stage ≡ 2 → ⊥) → g ≡ stopped
  is_stopped (before_record a d b c) x y z = absurd (x a)
  is_stopped (after_tag a d b c) x y z = absurd (y a)
  is_stopped (after_high a h b c) x y z = absurd (z a)
  is_stopped (in_message a u b c d) x y z = absurd (x a)
  is_stopped (was_refused a d b c) x y z = refl

  is_inside_lem : {g : Stage} → StageIs p message g → p.read < p.size → Inside p message g
  is_inside_lem (before_record a d b c) l = absurd (omega arith)
  is_inside_lem (after_tag a d b c) l = absurd (omega arith)
  is_inside_lem (after_high a h b c) l = absurd (omega arith)
  is_inside_lem (in_message {left = n} {kept = k} a u b c d) l = record { left = n; kept = k; is = refl; read_is = b; size_is = c; held = d }
  is_inside_lem (was_refused a d b c) l = absurd (omega arith)

-- ---- One byte of a head

clash : false ≡ true → ⊥
clash e = let y : ◌≡◌ {A = ℕ} 0 1 = cc in omega arith

abbrev pub at_stage_value : Progress → ℕ → ℕ → Progress
at_stage_value p g h = record { began = p.began; stage = g; high = h; size = 0; read = 0; messages = p.messages; lease = p.lease }

abbrev pub in_message_value : Progress → ℕ → ℕ → Progress
in_message_value p n k = record { began = p.began; stage = 0; high = 0; size = n; read = k; messages = p.messages; lease = p.lease }

at_holds : {i : ℕ} {x : Tally} {p : Progress} {v h b : List ℕ} (g k : ℕ) → Holds i x p v h b → Holds i x (at_stage_value p g k) v h b
at_holds g k s =
    record { began_is = s.began_is; messages_is = s.messages_is; lease_is = s.lease_is; verdicts_are = s.verdicts_are; held_are = s.held_are; bytes_are = s.bytes_are }

in_holds : {i : ℕ} {x : Tally} {p : Progress} {v h b : List ℕ} (n k : ℕ) → Holds i x p v h b → Holds i x (in_message_value p n k) v h b
in_holds n k s =
    record { began_is = s.began_is; messages_is = s.messages_is; lease_is = s.lease_is; verdicts_are = s.verdicts_are; held_are = s.held_are; bytes_are = s.bytes_are }

module _ (c : ℕ) (p : Progress) (message v h b : List ℕ) where
  -- as it is known to be
  at_stage_stands : {s : Run} (g : Stage) → s.stage ≡ g → Stands s p message v h b → Stands (at s.began g s.tally) p message v h b
  at_stage_stands g e s = record { holds = s.holds; stage_is = subst (StageIs p message) e s.stage_is; room = s.room; lent = s.lent; small = s.small }

  -- a tag, of a record that is taken or is not
  tag_fed : p.stage ≡ 0 → p.size ≤ p.read → (s : Run) → Stands s p message v h b
      → fed64 s (c ∷ []) ≡ at s.began (cond (eqb c 1) (cond (ltb p.messages most_messages) at_high stopped) stopped) s.tally
  tag_fed e l s z =
      one_fed s c at_tag (is_tag z.stage_is e l)
      ∙ ap (λ (n : ℕ). at s.began (cond (eqb c 1) (cond (ltb n most_messages) at_high stopped) stopped) s.tally) (sym z.holds.messages_is)

  stage_after : (t k : Bool) → cond t k false ≡ true → cond t (cond k at_high stopped) stopped ≡ at_high
  stage_after true true e = refl
  stage_after true false e = absurd (clash e)
  stage_after false k e = absurd (clash e)

  stops_after : (t k : Bool) → cond t k false ≡ false → cond t (cond k at_high stopped) stopped ≡ stopped
  stops_after true true e = absurd (clash (sym e))
  stops_after true false e = refl
  stops_after false k e = refl

  pub takes_tag : p.stage ≡ 0 → p.size ≤ p.read → taken_value c p.messages ≡ true → Takes (c ∷ []) p message v h b (at_stage_value p 1 0) message v h b
  takes_tag e l q s z =
      subst (λ (y : Run). Stands y (at_stage_value p 1 0) message v h b)
      (sym (tag_fed e l s z ∙ ap (λ (g : Stage). at s.began g s.tally) (stage_after (eqb c 1) (ltb p.messages most_messages) q)))
      (record { holds = at_holds 1 0 z.holds; stage_is = after_tag refl refl refl refl; room = z.room; lent = z.lent; small = z.small })

  pub takes_other : p.stage ≡ 0 → p.size ≤ p.read → taken_value c p.messages ≡ false → Takes (c ∷ []) p message v h b (at_stage_value p 3 0) message v h b
  takes_other e l q s z =
      subst (λ (y : Run). Stands y (at_stage_value p 3 0) message v h b)
      (sym (tag_fed e l s z ∙ ap (λ (g : Stage). at s.began g s.tally) (stops_after (eqb c 1) (ltb p.messages most_messages) q)))
      (record { holds = at_holds 3 0 z.holds; stage_is = was_refused refl refl refl refl; room = z.room; lent = z.lent; small = z.small })

  pub takes_high : p.stage ≡ 1 → Takes (c ∷ []) p message v h b (at_stage_value p 2 c) message v h b
  takes_high e s z =
      subst (λ (y : Run). Stands y (at_stage_value p 2 c) message v h b) (sym (one_fed s c at_high (is_high z.stage_is e)))
      (record { holds = at_holds 2 c z.holds; stage_is = after_high refl refl refl refl; room = z.room; lent = z.lent; small = z.small })

  pub takes_stopped : (p.stage ≡ 0 → ⊥) → (p.stage ≡ 1 → ⊥) → (p.stage ≡ 2 → ⊥) → Takes (c ∷ []) p message v h b p message v h b
  takes_stopped x y w s z =
      let g : s.stage ≡ stopped = is_stopped z.stage_is x y w in
      subst (λ (y : Run). Stands y p message v h b) (sym (one_fed s c stopped g)) (at_stage_stands stopped g z)

  low_fed : p.stage ≡ 2 → (s : Run) → Stands s p message v h b → fed64 s (c ∷ []) ≡ within64 s.began (256 * p.high + c) [] s.tally
  low_fed e s z = one_fed s c (at_low p.high) (is_low z.stage_is e)

  -- a message with bytes to come
  pub takes_low : p.stage ≡ 2 → (n : ℕ) → n ≡ 256 * p.high + c → (n ≡ 0 → ⊥) → Takes (c ∷ []) p message v h b (in_message_value p n 0) message v h b
  takes_low e n q o s z = subst (λ (y : Run). Stands y (in_message_value p n 0) message v h b) (sym (low_fed e s z ∙ ap (λ (k : ℕ). within64 s.began k [] s.tally) (sym q))) (go n o)
    where
      go : (k : ℕ) → (k ≡ 0 → ⊥) → Stands (within64 s.began k [] s.tally) (in_message_value p k 0) message v h b
      go zero w = absurd (w refl)
      go (suc k) w =
          record { holds = in_holds (suc k) 0 z.holds; stage_is = in_message {left = k} {kept = []} refl refl refl (omega arith) (λ l. refl); room = z.room; lent = z.lent; small = z.small }

  -- and an empty one
  pub takes_empty : p.stage ≡ 2 → 256 * p.high + c ≡ 0 → (p' : Progress) (v' h' b' : List ℕ) → Closes 0 p message v h b p' v' h' b'
      → Takes (c ∷ []) p message v h b p' message v' h' b'
  takes_empty e q p' v' h' b' k s z =
      subst (λ (y : Run). Stands y p' message v' h' b') (sym (low_fed e s z ∙ ap (λ (k : ℕ). within64 s.began k [] s.tally) q))
      (k s.began [] s.tally refl z.room (λ y. refl) z.holds z.lent z.small)

-- ---- Bytes of a message

inside_fed : (s : Run) (ys : List ℕ) (n : ℕ) (kept : List ℕ) → s.stage ≡ inside n kept → fed64 s ys ≡ fed64 (at s.began (inside n kept) s.tally) ys
inside_fed s ys n kept e = ap (λ (g : Stage). fed64 (at s.began g s.tally) ys) e

module _ (run : List ℕ) (p : Progress) (message v h b message' : List ℕ) (size read : ℕ) (a : p.size ≡ size) (d : p.read ≡ read) (l : read < size) (k : Keeps size read run message message') where
  is_in : {g : Stage} → StageIs p message g → Inside p message g
  is_in g = is_inside_lem g (omega (arith, a, d, l))

  -- the buffer begins with what was read
  held_more : {g : Stage} (s : Inside p message g) → size ≤ length message' → take (read + length run) message' ≡ s.kept ++ run
  held_more s q =
      let z : size ≤ length message = omega (arith, k.same_length) in
      k.kept z ∙ ap (λ (y : List ℕ). y ++ run) (ap (λ (j : ℕ). take j message) (sym d ∙ s.read_is) ∙ s.held (omega (arith, z, a)))

  pub takes_some : read + length run < size → Takes run p message v h b (in_message_value p size (read + length run)) message' v h b
  takes_some q s z =
      let i = is_in z.stage_is in
      let n : length (i.kept ++ run) ≡ read + length run = length-append i.kept run ∙ (let y = i.read_is in omega (arith, d)) in
      let w : fed64 s run ≡ at s.began (inside (i.left - length run) (i.kept ++ run)) s.tally =
      inside_fed s run i.left i.kept i.is ∙ inside_run run i.left i.kept s.began s.tally (omega (arith, i.size_is, i.read_is, a, d)) in
      subst (λ (y : Run). Stands y (in_message_value p size (read + length run)) message' v h b) (sym w)
      (record {
        holds = in_holds size (read + length run) z.holds;
        stage_is = in_message refl refl (sym n) (omega (arith, n, i.size_is, i.read_is, a, d)) (λ y. ap (λ (j : ℕ). take j message') n ∙ held_more i y);
        room = omega (arith, z.room, k.same_length);
        lent = z.lent;
        small = z.small;
      })

  pub takes_last : read + length run ≡ size → (p' : Progress) (v' h' b' : List ℕ) → Closes size p message' v h b p' v' h' b' → Takes run p message v h b p' message' v' h' b'
  takes_last q p' v' h' b' c s z =
      let i = is_in z.stage_is in
      let n : length (i.kept ++ run) ≡ read + length run = length-append i.kept run ∙ (let y = i.read_is in omega (arith, d)) in
      let w : fed64 s run ≡ closed64 s.began (i.kept ++ run) s.tally =
      inside_fed s run i.left i.kept i.is ∙ message_end run i.left i.kept s.began s.tally (omega (arith, i.size_is, i.read_is, a, d)) in
      subst (λ (y : Run). Stands y p' message' v' h' b') (sym w)
      (c s.began (i.kept ++ run) s.tally (omega (arith, n)) (omega (arith, z.room, k.same_length)) (λ y. ap (λ (j : ℕ). take j message') (sym q) ∙ held_more i y) z.holds z.lent z.small)

-- ---- A whole record

pub body_of : {k : ℕ} {run : List ℕ} (w : Whole k run) → take (length run - 3) (drop 3 run) ≡ w.body
body_of w = rw w.is (take_all (suc (suc (suc (length w.body))) - 3) w.body (omega arith))

pub record_size : {k : ℕ} {run : List ℕ} (w : Whole k run) → length run - 3 ≡ length w.body
record_size w = let z = ap length w.is in omega arith

pub record_long : {k : ℕ} {run : List ℕ} → Whole k run → 3 ≤ length run
record_long w = let z = ap length w.is in omega arith

record_fed : (s : Run) (run : List ℕ) (k : ℕ) (w : Whole k run) → s.stage ≡ at_tag → k ≡ s.tally.messages → fed64 s run ≡ closed64 s.began w.body s.tally
record_fed s run k w g e =
    let few = w.few in
    ap₂ (λ (y : Stage) (r : List ℕ). fed64 (at s.began y s.tally) r) g w.is
    ∙ head_run s.began w.high w.low w.body s.tally (omega arith)
    ∙ body_end (256 * w.high + w.low) w.body s.began s.tally w.size

module _ (run : List ℕ) (p : Progress) (message v h b : List ℕ) (w : Whole p.messages run) where
  pub takes_record : p.stage ≡ 0 → p.size ≤ p.read → (n : ℕ) → n ≡ length w.body → (t : code.Option ℕ) (v' h' b' : List ℕ) → Notes (read_message w.body) v h b t v' h' b'
      → Takes run p message v h b (behind_of p n t) message v' h' b'
  takes_record e l n q t v' h' b' o s z =
      subst (λ (y : Run). Stands y (behind_of p n t) message v' h' b') (sym (record_fed s run p.messages w (is_tag z.stage_is e l) z.holds.messages_is))
      (closes_as s.began w.body s.tally n p v h b t v' h' b' message q z.room z.holds z.lent z.small o)

-- ---- One run after another

pub takes_then : (xs ys : List ℕ) {p q r : Progress} {m m' m'' v v' v'' h h' h'' b b' b'' : List ℕ} → Takes xs p m v h b q m' v' h' b' → Takes ys q m' v' h' b' r m'' v'' h'' b''
    → Takes (xs ++ ys) p m v h b r m'' v'' h'' b''
takes_then xs ys {r = r} {m'' = m''} {v'' = v''} {h'' = h''} {b'' = b''} x y s z = subst (λ (w : Run). Stands w r m'' v'' h'' b'') (sym (fed_append xs ys s)) (y (fed64 s xs) (x s z))

pub takes_none : {p : Progress} {m v h b : List ℕ} → Takes [] p m v h b p m v h b
unfolding fed64
takes_none s z = z
