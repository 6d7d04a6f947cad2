-- The walks over a message in which a code has several pieces, a turn at a time. Assumes nothing.
use mathlib.Core.Path.{◌≡◌, refl, sym, ap, ap₂, ◌∙◌}
use mathlib.Core.Bool.{Bool, true, false, cond}
use mathlib.Core.List.{List, [], ◌∷◌, ◌++◌, append_assoc, append-nil}
use Prim.Native.Nat.{ℕ, suc, ◌+◌, ◌-◌, ◌/◌, ◌%◌, ◌≤◌, ◌<◌}
use native.Mathlib.Omega.{arith}
use native.Mathlib.Decide.{ℕ_discrete}
use lib.Dec.{eqb}
use lib.ListN.{length, take, drop, get_or, set, length-append, length-drop, length-set, take-append-drop}
use lib.Seq.{length-take-le, take_at, drop_at, set-get_or, get_or-set_same, get_or-set_other}
use borrow.Author.Tests.{eq-eqb, ne_eqb}
use Rattle.options.specs.Message.{Opt, end_to_end}
use Rattle.options.specs.Reading.{pieces}
use Rattle.options.specs.Answers.{record_bytes}
use Rattle.buffer.specs.Written.{laid, Written}
use Rattle.buffer.proofs.Writing.{laid_three, laid_length, written_none, written_more, written_as}
use Rattle.message.specs.Active.{active_options}
use Rattle.records.specs.FieldRecords.{ActiveEnds, short_record}
use Rattle.records.specs.Places.{Stands, left_at, joined_at}
use Rattle.records.specs.JoinedRecords.{long_record, first_record, joined_record, one_more_value, counted, Tells, sheet_by}
use Rattle.records.specs.Places.{Goes, MeetsAt}
use Rattle.records.proofs.Places.{stands_first, left_first}

-- ---- the head of a record, before data that were laid first

laid_before : (b : List ℕ) (at x y z : ℕ) (d : List ℕ) → at + 3 + length d ≤ length b → laid (laid b (at + 3) d) at (x ∷ y ∷ z ∷ []) ≡ laid b at (x ∷ y ∷ z ∷ d)
laid_before b at x y z d h =
    let n : length (take (at + 3) b) ≡ at + 3 = length-take-le (at + 3) b (omega arith) in
    let back : drop (at + 3) (laid b (at + 3) d) ≡ d ++ drop (at + 3 + length d) b = drop_at (take (at + 3) b) (d ++ drop (at + 3 + length d) b) (at + 3) n in
    let front : take at (laid b (at + 3) d) ≡ take at b = front_is in
    let w : at + 3 + length d ≡ at + suc (suc (suc (length d))) = omega arith in
    ap₂ (λ (p q : List ℕ). p ++ (x ∷ y ∷ z ∷ q)) front (back ∙ ap (λ (k : ℕ). d ++ drop k b) w)
  where
    split : take (at + 3) b ≡ take at b ++ take 3 (drop at b)
    split =
        let n : length (take at b) ≡ at = length-take-le at b (omega arith) in
        let m : length (take 3 (drop at b)) ≡ 3 = length-take-le 3 (drop at b) (rw length-drop (omega arith)) in
        let e : b ≡ (take at b ++ take 3 (drop at b)) ++ drop 3 (drop at b) =
        sym (append_assoc (take at b) (take 3 (drop at b)) (drop 3 (drop at b)) ∙ ap (λ (l : List ℕ). take at b ++ l) (take-append-drop 3 (drop at b)) ∙ take-append-drop at b) in
        ap (take (at + 3)) e ∙ take_at (take at b ++ take 3 (drop at b)) (drop 3 (drop at b)) (at + 3) (omega (arith, n, m, length-append (take at b) (take 3 (drop at b))))

    front_is : take at (laid b (at + 3) d) ≡ take at b
    front_is =
        let tail : List ℕ = d ++ drop (at + 3 + length d) b in
        ap (λ (l : List ℕ). take at (l ++ tail)) split
        ∙ ap (take at) (append_assoc (take at b) (take 3 (drop at b)) tail)
        ∙ take_at (take at b) (take 3 (drop at b) ++ tail) at (length-take-le at b (omega arith))

-- data that were laid where there is room, and then the head
module _ (b : List ℕ) (at c : ℕ) (d last : List ℕ) (r : ℕ) (h : at + 3 + length d ≤ length b) (p : Written b (at + 3) d r last) where
  pub put_length : length last ≡ length b
  put_length = ap length p.buffer ∙ laid_length b (at + 3) d h

  pub put_size : r - (at + 3) ≡ length d
  put_size = omega (arith, p.next)

  pub put_next : at + 3 ≤ r
  put_next = omega (arith, p.next)

  pub headed : Written b at (long_record c d) r (set (set (set last at c) (at + 1) ((r - (at + 3)) / 256)) (at + 2) ((r - (at + 3)) % 256))
  headed =
      record {
        next = omega (arith, p.next);
        buffer =
            laid_three last at c ((r - (at + 3)) / 256) ((r - (at + 3)) % 256) (omega (arith, put_length))
            ∙ ap₂ (λ (l : List ℕ) (n : ℕ). laid l at (c ∷ n / 256 ∷ n % 256 ∷ [])) p.buffer put_size
            ∙ laid_before b at c (length d / 256) (length d % 256) d h;
      }

-- ---- what is ahead of a loop that writes

-- with `ahead` written at o in the buffer `now`, all is written at `at` in `old`
pub record Still (old : List ℕ) (at : ℕ) (all now : List ℕ) (o : ℕ) (ahead : List ℕ) : Type 0 where
  pub room : o + length ahead ≤ length now
  pub same : length now ≡ length old
  pub whole : (r : ℕ) (last : List ℕ) → Written now o ahead r last → Written old at all r last

pub still_begins : (old : List ℕ) (at : ℕ) (all ahead : List ℕ) → ahead ≡ all → at + length all ≤ length old → Still old at all old at ahead
still_begins old at all ahead e h = record { room = omega (arith, ap length e); same = refl; whole = λ r last p. written_as e p }

module _ {old : List ℕ} {at : ℕ} {all now : List ℕ} {o : ℕ} {ahead : List ℕ} (y : Still old at all now o ahead) where
  pub still_ends : ahead ≡ [] → Written old at all o now
  still_ends e = y.whole o now (written_as (sym e) (written_none now o))

  pub still_as : {others : List ℕ} → ahead ≡ others → Still old at all now o others
  still_as e = rw (← e) y

  module _ (here others : List ℕ) (e : ahead ≡ here ++ others) where
    pub still_room : o + length here + length others ≤ length now
    still_room = omega (arith, y.room, ap length e, length-append here others)

    pub still_on : {r : ℕ} {later : List ℕ} → length later ≡ length now → Written now o here r later → Still old at all later r others
    still_on s u =
        record { room = omega (arith, still_room, u.next); same = s ∙ y.same; whole = λ r last z. y.whole r last (written_as (sym e) (written_more u z)) }

-- ---- the pieces counted

pub record Counting (v : ℕ) (m old now : List ℕ) (i : ℕ) : Type 0 where
  pub stands : Stands v m i
  pub long : length now ≡ 256
  pub same : counted now (left_at v m i) ≡ counted old (active_options v m)

pub counting_begins : (v : ℕ) (m old : List ℕ) → ActiveEnds v m → length old ≡ 256 → Counting v m old old 240
counting_begins v m old a l = record { stands = stands_first v m a; long = l; same = ap (counted old) (left_first v m) }

module _ {v : ℕ} {m old now : List ℕ} {i : ℕ} (y : Counting v m old now i) where
  pub counting_ends : left_at v m i ≡ [] → now ≡ counted old (active_options v m)
  unfolding counted
  counting_ends e = rw e at y.same

  pub counting_on : {j : ℕ} (o : Opt) → Stands v m j → left_at v m i ≡ o ∷ left_at v m j → Counting v m old (set now o.item.tag (one_more_value (get_or now o.item.tag 0))) j
  unfolding counted
  counting_on o s e = record { stands = s; long = length-set now o.item.tag _ ∙ y.long; same = rw e at y.same }

-- ---- the pieces of a code

pub joined_none : (v : ℕ) (m : List ℕ) (i c : ℕ) → left_at v m i ≡ [] → joined_at v m i c ≡ []
unfolding pieces end_to_end
joined_none v m i c e = rw e refl

pub joined_more : (v : ℕ) (m : List ℕ) (i j c : ℕ) (o : Opt) → left_at v m i ≡ o ∷ left_at v m j → joined_at v m i c ≡ cond (eqb c o.item.tag) o.item.body [] ++ joined_at v m j c
unfolding pieces end_to_end
joined_more v m i j c o e = rw e (go (eqb c o.item.tag))
  where
    go : (b : Bool) → end_to_end (cond b (o ∷ pieces c (left_at v m j)) (pieces c (left_at v m j))) ≡ cond b o.item.body [] ++ end_to_end (pieces c (left_at v m j))
    go true = refl
    go false = refl

pub record Gathering (v : ℕ) (m old : List ℕ) (at : ℕ) (all now : List ℕ) (o i c : ℕ) : Type 0 where
  pub stands : Stands v m i
  pub still : Still old at all now o (joined_at v m i c)

pub gathering_goes : {v : ℕ} {m old : List ℕ} {at : ℕ} {all now : List ℕ} {o i c j : ℕ} → Gathering v m old at all now o i c → Goes v m i j → Gathering v m old at all now o j c
gathering_goes y g = record { stands = g.stands; still = rw g.same at y.still }

-- ---- the records

-- the first option's record, where it has one, and the others
pub sheet_more : (t : List ℕ) (o : Opt) (os : List Opt) → let c = o.item.tag in
    record_bytes (sheet_by t (o ∷ os)) ≡ first_record t c (end_to_end (pieces c (o ∷ os))) ++ record_bytes (sheet_by (set t c 0) os)
unfolding sheet_by record_bytes
sheet_more t o os = go (ℕ_discrete (get_or t c 0) 0)
  where
    c : ℕ
    c = o.item.tag

    go : Dec (get_or t c 0 ≡ 0)
        → record_bytes (cond (eqb (get_or t c 0) 0) (sheet_by t os) (joined_record o os ∷ sheet_by (set t c 0) os))
        ≡ cond (eqb (get_or t c 0) 0) [] (long_record c (end_to_end (pieces c (o ∷ os)))) ++ record_bytes (sheet_by (set t c 0) os)
    go (yes e) =
        let k : t ≡ set t c 0 = sym (set-get_or t c 0) ∙ ap (set t c) e in
        rw (eq-eqb (get_or t c 0) 0 e) (ap (λ (l : List ℕ). record_bytes (sheet_by l os)) k)
    go (no n) = rw (ne_eqb (get_or t c 0) 0 n) refl

-- of a code that stands once
pub once_record : (t : List ℕ) (o : Opt) (os : List Opt) → Tells t (o ∷ os) → let c = o.item.tag in
    c < 256 → get_or t c 0 ≡ 1 → length o.item.body < 256 → first_record t c (end_to_end (pieces c (o ∷ os))) ≡ short_record c o.item.body
unfolding pieces end_to_end
once_record t o os k l e s = rw (ne_eqb (get_or t c 0) 0 (λ z. omega arith), eq-eqb c c refl) (go (pieces c os) (rw (eq-eqb c c refl) at (k.once c l e)))
  where
    c : ℕ
    c = o.item.tag

    go : (ps : List Opt) → suc (length ps) ≤ 1 → long_record c (o.item.body ++ end_to_end ps) ≡ short_record c o.item.body
    go [] h =
        let a : length o.item.body / 256 ≡ 0 = omega arith in
        let b : length o.item.body % 256 ≡ length o.item.body = omega arith in
        rw (append-nil o.item.body, a, b)
    go (p ∷ ps) h = absurd (omega arith)

-- fewer options, and a code that has its record
tells_on : (t : List ℕ) (o : Opt) (os : List Opt) → Tells t (o ∷ os) → Tells (set t o.item.tag 0) os
unfolding pieces
tells_on t o os k =
    record {
      bytes = length-set t c 0 ∙ k.bytes;
      no_pad = λ e. k.no_pad (was 0 (omega (arith, k.bytes)) e).0;
      no_end = λ e. k.no_end (was 255 (omega (arith, k.bytes)) e).0;
      once = λ a l e. let w = was a (omega (arith, k.bytes)) e in rw (ne_eqb a c w.1) at (k.once a l w.0);
    }
  where
    c : ℕ
    c = o.item.tag

    was : (a : ℕ) → a < length t → get_or (set t c 0) a 0 ≡ 1 → (get_or t a 0 ≡ 1) × (a ≡ c → ⊥)
    was a l e = go (ℕ_discrete a c)
      where
        go : Dec (a ≡ c) → (get_or t a 0 ≡ 1) × (a ≡ c → ⊥)
        go (yes q) = absurd (let z : get_or (set t a 0) a 0 ≡ 1 = rw (← q) at e in omega (arith, get_or-set_same t a 0 0 l))
        go (no n) = (sym (get_or-set_other t c a 0 0 n) ∙ e, n)

abbrev pub ahead_by : ℕ → List ℕ → List ℕ → ℕ → List ℕ
ahead_by v m t i = record_bytes (sheet_by t (left_at v m i))

pub record Putting (v : ℕ) (m old all t now : List ℕ) (o i : ℕ) : Type 0 where
  pub stands : Stands v m i
  pub tells : Tells t (left_at v m i)
  pub small : length (ahead_by v m t i) < 65536
  pub still : Still old 0 all now o (ahead_by v m t i)

pub putting_begins : (v : ℕ) (m old t : List ℕ) → ActiveEnds v m → Tells t (active_options v m) → let all = record_bytes (sheet_by t (active_options v m)) in
    length all ≤ length old → length all < 65536 → Putting v m old all t old 0 240
putting_begins v m old t a k h s =
    let e : ahead_by v m t 240 ≡ record_bytes (sheet_by t (active_options v m)) = ap (λ (l : List Opt). record_bytes (sheet_by t l)) (left_first v m) in
    record {
      stands = stands_first v m a;
      tells = rw (left_first v m) k;
      small = omega (arith, ap length e);
      still = still_begins old 0 (record_bytes (sheet_by t (active_options v m))) (ahead_by v m t 240) e (omega arith);
    }

module _ {v : ℕ} {m old all t now : List ℕ} {o i : ℕ} (y : Putting v m old all t now o i) where
  pub putting_ends : left_at v m i ≡ [] → Written old 0 all o now
  unfolding sheet_by record_bytes
  putting_ends e = still_ends y.still (rw e refl)

  pub putting_goes : {j : ℕ} → Goes v m i j → Putting v m old all t now o j
  putting_goes g =
      record { stands = g.stands; tells = rw g.same at y.tells; small = rw g.same at y.small; still = rw g.same at y.still }

  module _ {j : ℕ} (x : Opt) (g : Stands v m j) (e : left_at v m i ≡ x ∷ left_at v m j) where
    abbrev c : ℕ
    c = x.item.tag

    abbrev pub here : List ℕ
    here = first_record t c (joined_at v m i c)

    here_then : ahead_by v m t i ≡ here ++ ahead_by v m (set t c 0) j
    here_then = rw e (sheet_more t x (left_at v m j))

    pub putting_room : o + length here + length (ahead_by v m (set t c 0) j) ≤ length now
    putting_room = still_room y.still here (ahead_by v m (set t c 0) j) here_then

    pub putting_small : length here < 65536
    putting_small = omega (arith, y.small, ap length here_then, length-append here (ahead_by v m (set t c 0) j))

    pub putting_on : {r : ℕ} {later : List ℕ} → length later ≡ length now → Written now o here r later → Putting v m old all (set t c 0) later r j
    putting_on s u =
        record {
          stands = g;
          tells = tells_on t x (left_at v m j) (rw e at y.tells);
          small = omega (arith, y.small, ap length here_then, length-append here (ahead_by v m (set t c 0) j));
          still = still_on y.still here (ahead_by v m (set t c 0) j) here_then s u;
        }

    -- a code that stands once
    pub putting_once : c < 256 → get_or t c 0 ≡ 1 → length x.item.body < 256 → here ≡ short_record c x.item.body
    putting_once l q s = rw e (once_record t x (left_at v m j) (rw e at y.tells) l q s)

  -- it is met where it stands
  pub once_met : get_or t (get_or m i 0) 0 ≡ 1 → MeetsAt v m i i
  once_met q =
      record {
        stands = y.stands;
        same = refl;
        no_later = omega arith;
        no_pad = λ z. y.tells.no_pad (ap (λ (k : ℕ). get_or t k 0) (sym z) ∙ q);
        no_end = λ z. y.tells.no_end (ap (λ (k : ℕ). get_or t k 0) (sym z) ∙ q);
      }

  pub other_met : (get_or m i 0 ≡ 0 → ⊥) → (get_or m i 0 ≡ 255 → ⊥) → MeetsAt v m i i
  other_met z e = record { stands = y.stands; same = refl; no_later = omega arith; no_pad = z; no_end = e }
