-- The walk of a field that fills an index: one law for each way through it. Assumes nothing.
use mathlib.Core.Path.{◌≡◌, refl, sym, ap, ◌∙◌, subst}
use mathlib.Core.Bool.{Bool, true, false, cond, not}
use mathlib.Core.List.{List, [], ◌∷◌, ◌++◌}
use Prim.Native.Nat.{ℕ, ◌+◌, ◌≤◌, ◌<◌}
use native.Mathlib.Omega.{arith}
use native.Mathlib.Decide.{ℕ_discrete}
use lib.Dec.{eqb, leb}
use lib.ListN.{length, get_or, set, length-set}
use lib.Seq.{get_or-set_same, get_or-set_other}
use borrow.Author.Tests.{ne_eqb, eqb-true, eqb-false}
use Rattle.options.specs.Message.{Field, options, file, sname, start, bytes, Rec, Opt, place}
use Rattle.options.specs.Reading.{Parse, found, parse, Reading, accepted, refused, more, either, is_options_value, right52, judge, items, overload, file_in, sname_in, and_then, extend, further, all_fields}
use Rattle.theorems.proofs.View.{clash}
use Rattle.wire.specs.Walk.{item_at}
use Rattle.wire.proofs.Laws.{rest, rest_none, rest_pad, rest_end, rest_last, rest_long, rest_found}
use Rattle.message.specs.Active.{active_in}
use Rattle.message.specs.Walk.{over_stop_value, over_after_value}
use Rattle.message.specs.Judging.{number_of, stop_number}
use Rattle.std.specs.Prelude.{Result, Ok, Err}
use Rattle.refusal.specs.declared.Refusal.{Refusal}
use Rattle.refusal.specs.Refused as refusals
use Rattle.index.specs.Filling.{entry_after_value, noted, note_all, Marked, Enters, over_from, Notes, reading, Leads}

-- ---- the marks

after_not : (e c p : ℕ) → (p ≡ 0 → ⊥) → entry_after_value e c p ≡ 0 → ⊥
after_not e c p h = go (eqb c 52) (eqb e 0)
  where
    go : (a b : Bool) → cond a p (cond b p 65535) ≡ 0 → ⊥
    go true b z = h z
    go false true z = h z
    go false false z = omega arith

set_not : (idx : List ℕ) (c v k : ℕ) → (v ≡ 0 → ⊥) → k < length idx → (get_or idx k 0 ≡ 0 → ⊥) → get_or (set idx c v) k 0 ≡ 0 → ⊥
set_not idx c v k h l n = go (ℕ_discrete k c)
  where
    go : Dec (k ≡ c) → get_or (set idx c v) k 0 ≡ 0 → ⊥
    go (yes e) z = h (sym (get_or-set_same idx k v 0 l) ∙ ap (λ (x : ℕ). get_or (set idx x v) k 0) e ∙ z)
    go (no d) z = n (sym (get_or-set_other idx c k v 0 d) ∙ z)

pub marked_set : {idx : List ℕ} → Marked idx → (c v : ℕ) → (v ≡ 0 → ⊥) → Marked (set idx c v)
marked_set {idx} m c v h =
    let s = m.size in
    record {
      size = length-set idx c v ∙ s;
      pad_marked = set_not idx c v 0 h (omega arith) m.pad_marked;
      over_marked = set_not idx c v 52 h (omega arith) m.over_marked;
      end_marked = set_not idx c v 255 h (omega arith) m.end_marked;
    }

pub marked_noted : {idx : List ℕ} → Marked idx → (c p : ℕ) → (p ≡ 0 → ⊥) → Marked (noted idx c p)
marked_noted {idx} m c p h = marked_set m c (entry_after_value (get_or idx c 0) c p) (after_not (get_or idx c 0) c p h)

-- a code without an entry is no pad, no END and not 52
pub no_mark : {idx : List ℕ} → Marked idx → (c : ℕ) → get_or idx c 0 ≡ 0 → (c ≡ 0 → ⊥) × (c ≡ 52 → ⊥) × (c ≡ 255 → ⊥)
no_mark {idx} m c e = (
  (λ z. m.pad_marked (ap (λ (k : ℕ). get_or idx k 0) (sym z) ∙ e)),
  (λ z. m.over_marked (ap (λ (k : ℕ). get_or idx k 0) (sym z) ∙ e)),
  (λ z. m.end_marked (ap (λ (k : ℕ). get_or idx k 0) (sym z) ∙ e)),
)

-- ---- what is noted, and then what is left

pub over_none : (v : ℕ) → v ≡ over_from v []
unfolding overload items
over_none v = go (eqb v 0) refl
  where
    go : (t : Bool) → eqb v 0 ≡ t → v ≡ cond t 0 v
    go true e = eqb-true v 0 e
    go false e = refl

notes_more : (over over' : ℕ) (idx : List ℕ) (o : Opt) (w : Reading) (r : Result ℕ Refusal) (last : List ℕ) → ((os : List Opt) → over_from over' os ≡ over_from over (o ∷ os))
    → Notes over' (noted idx o.item.tag (place o)) w r last → Notes over idx (more o w) r last
unfolding note_all
notes_more over over' idx o (accepted os) (Ok v) last h n = (n.0, n.1 ∙ h os)
notes_more over over' idx o (accepted os) (Err r) last h n = n
notes_more over over' idx o (refused k p) (Ok v) last h n = n
notes_more over over' idx o (refused k p) (Err r) last h n = n

-- ---- one option

-- by its number: an option 52 is refused, or not
pub stops_by : (n s : ℕ) → n ≡ stop_number s → (n ≡ 0 → ⊥) → (s ≡ 0 → ⊥) × (n ≡ number_of s)
stops_by n s e h = go (eqb s 0) refl e
  where
    go : (b : Bool) → eqb s 0 ≡ b → n ≡ cond b 0 (number_of s) → (s ≡ 0 → ⊥) × (n ≡ number_of s)
    go true q z = absurd (h z)
    go false q z = (eqb-false s 0 q, z)

number_not : (s : ℕ) → number_of s ≡ 0 → ⊥
number_not s = go (eqb s 1) (eqb s 2) (eqb s 3)
  where
    go : (a b c : Bool) → cond {A = ℕ} a 5 (cond b 4 (cond c 6 7)) ≡ 0 → ⊥
    go true b c q = omega arith
    go false true c q = omega arith
    go false false true q = omega arith
    go false false false q = omega arith

pub not_stopped : (s : ℕ) → 0 ≡ stop_number s → s ≡ 0
not_stopped s e = go (eqb s 0) refl e
  where
    go : (b : Bool) → eqb s 0 ≡ b → 0 ≡ cond b 0 (number_of s) → s ≡ 0
    go true q z = eqb-true s 0 q
    go false q z = absurd (number_not s (sym z))

right_value : (d : List ℕ) → right52 d ≡ true → eqb (get_or d 0 0) 0 ≡ false
right_value [] e = clash (cc)
right_value (v ∷ []) e = go (eqb v 0) refl e
  where
    go : (t : Bool) → eqb v 0 ≡ t → cond t false (leb v 3) ≡ true → eqb v 0 ≡ false
    go true q z = clash (cc)
    go false q z = q
right_value (v ∷ w ∷ r) e = clash (cc)

module _ (fd : Field) (over i : ℕ) (x : Rec) (p : Parse) where
  abbrev pub met : Bool
  met = not (eqb over 0)

  abbrev pub here : Opt
  here = record { field = fd; offset = i; item = x }

  pub judge_stops : (over_stop_value (is_options_value fd) over x.tag x.body ≡ 0 → ⊥)
      → judge fd met (found i x p) ≡ refused (number_of (over_stop_value (is_options_value fd) over x.tag x.body)) (start fd + i)
  unfolding judge
  judge_stops h = go (eqb x.tag 52) (cond (is_options_value fd) (not (right52 x.body)) true) (eqb over 0) h
    where
      go : (a b c : Bool) → (cond {A = ℕ} a (cond b 3 (cond c 0 4)) 0 ≡ 0 → ⊥)
          → cond (cond a b false) (refused 6 (start fd + i)) (cond (cond (not c) a false) (refused 7 (start fd + i)) (more here (judge fd (either a (not c)) p)))
          ≡ refused (number_of (cond {A = ℕ} a (cond b 3 (cond c 0 4)) 0)) (start fd + i)
      go true true c z = refl
      go true false true z = absurd (z refl)
      go true false false z = refl
      go false b c z = absurd (z refl)

  pub record Passes (over' : ℕ) : Type 0 where
    pub more_is : judge fd met (found i x p) ≡ more here (judge fd (not (eqb over' 0)) p)
    pub over_is : (os : List Opt) → over_from over' os ≡ over_from over (here ∷ os)

  pub judge_passes : over_stop_value (is_options_value fd) over x.tag x.body ≡ 0 → Passes (over_after_value over x.tag x.body)
  unfolding judge overload items
  judge_passes h = go (eqb x.tag 52) (cond (is_options_value fd) (not (right52 x.body)) true) (eqb over 0) refl refl refl (right (is_options_value fd) (right52 x.body) refl) h
    where
      right : (a b : Bool) → right52 x.body ≡ b → cond a (not b) true ≡ false → eqb (get_or x.body 0 0) 0 ≡ false
      right true true e z = right_value x.body e
      right true false e z = clash (cc)
      right false b e z = clash (cc)

      go : (a b c : Bool) → eqb x.tag 52 ≡ a → cond (is_options_value fd) (not (right52 x.body)) true ≡ b → eqb over 0 ≡ c
          → (cond (is_options_value fd) (not (right52 x.body)) true ≡ false → eqb (get_or x.body 0 0) 0 ≡ false)
          → cond {A = ℕ} a (cond b 3 (cond c 0 4)) 0 ≡ 0 → Passes (over_after_value over x.tag x.body)
      go true true c k l n v z = absurd (omega arith)
      go true false true k l n v z = record { more_is = rw (k, l, n, v l) refl; over_is = λ os. rw (k, n, v l) refl }
      go true false false k l n v z = absurd (omega arith)
      go false b true k l n v z = record { more_is = rw (k, n) refl; over_is = λ os. rw (k, n) refl }
      go false b false k l n v z = record { more_is = rw (k, n) refl; over_is = λ os. rw (k, n) refl }

-- ---- at an offset

module _ (fd : Field) (f : List ℕ) (i over : ℕ) (idx : List ℕ) (h : i < length f) where
  from_reading : {v w : Reading} (o : ℕ) (x : List ℕ) (r : Result ℕ Refusal) (last : List ℕ) → v ≡ w → Notes o x w r last → Notes o x v r last
  from_reading {v} {w} o x r last e n = subst (λ (y : Reading). Notes o x y r last) (sym e) n

  pub at_pad : get_or f i 0 ≡ 0 → Leads fd f i over idx (i + 1) over idx
  at_pad e r last n = from_reading over idx r last (ap (judge fd (not (eqb over 0))) (rest_pad f i h e)) n

  pub at_end_lem : get_or f i 0 ≡ 255 → Notes over idx (reading fd f over i) (Ok over) idx
  unfolding judge note_all
  at_end_lem e = from_reading over idx (Ok over) idx (ap (judge fd (not (eqb over 0))) (rest_end f i h e)) (refl, over_none over)

  module _ (z : get_or f i 0 ≡ 0 → ⊥) (e : get_or f i 0 ≡ 255 → ⊥) where
    pub at_last : length f ≤ i + 1 → reading fd f over i ≡ refused 4 (start fd + i)
    unfolding judge
    at_last l = ap (judge fd (not (eqb over 0))) (rest_last f i h z e l)

    module _ (g : i + 1 < length f) where
      pub at_long : length f < i + 2 + get_or f (i + 1) 0 → reading fd f over i ≡ refused 4 (start fd + i)
      unfolding judge
      at_long l = ap (judge fd (not (eqb over 0))) (rest_long f i h z e g l)

      module _ (l : i + 2 + get_or f (i + 1) 0 ≤ length f) where
        abbrev item : Rec
        item = item_at (get_or f i 0) (get_or f (i + 1) 0) f i

        abbrev onward : Parse
        onward = rest f (i + 2 + get_or f (i + 1) 0)

        found_is : reading fd f over i ≡ judge fd (not (eqb over 0)) (found i item onward)
        found_is = ap (judge fd (not (eqb over 0))) (rest_found f i h z e g l)

        pub at_stop : (n : ℕ) → n ≡ stop_number (over_stop_value (is_options_value fd) over (get_or f i 0) item.body) → (n ≡ 0 → ⊥)
            → reading fd f over i ≡ refused n (start fd + i)
        at_stop n q d =
            let s = stops_by n (over_stop_value (is_options_value fd) over (get_or f i 0) item.body) q d in
            found_is ∙ judge_stops fd over i item onward s.0 ∙ ap (λ (k : ℕ). refused k (start fd + i)) (sym s.1)

        pub at_option : over_stop_value (is_options_value fd) over (get_or f i 0) item.body ≡ 0
            → Leads fd f i over idx (i + 2 + get_or f (i + 1) 0) (over_after_value over (get_or f i 0) item.body) (noted idx (get_or f i 0) (start fd + i))
        at_option q r last n =
            let p = judge_passes fd over i item onward q in
            from_reading over idx r last (found_is ∙ p.more_is) (notes_more over (over_after_value over (get_or f i 0) item.body) idx (here fd over i item onward) (judge fd (not (eqb (over_after_value over (get_or f i 0) item.body) 0)) onward) r last p.over_is n)

        -- of another code than 52, which has no entry yet
        pub at_first : (get_or f i 0 ≡ 52 → ⊥) → get_or idx (get_or f i 0) 0 ≡ 0
            → Leads fd f i over idx (i + 2 + get_or f (i + 1) 0) over (set idx (get_or f i 0) (start fd + i))
        at_first d y r last n =
            let b : eqb (get_or f i 0) 52 ≡ false = ne_eqb (get_or f i 0) 52 d in
            let s : over_stop_value (is_options_value fd) over (get_or f i 0) item.body ≡ 0 = rw b refl in
            let v : over_after_value over (get_or f i 0) item.body ≡ over = rw b refl in
            let w : noted idx (get_or f i 0) (start fd + i) ≡ set idx (get_or f i 0) (start fd + i) = rw (b, y) refl in
            at_option s r last (rw (v, w) n)

-- no byte is left
pub at_none : (fd : Field) (f : List ℕ) (i over : ℕ) → length f ≡ i → reading fd f over i ≡ refused 5 (start fd + i)
unfolding judge
at_none fd f i over h = ap (judge fd (not (eqb over 0))) (rest_none f i (omega arith))

pub notes_refused : (over : ℕ) (idx : List ℕ) (w : Reading) (r : Refusal) → w ≡ refused (refusals.number_of r.rule) r.place → Notes over idx w (Err r) idx
notes_refused over idx w r e = subst (λ (w : Reading). Notes over idx w (Err r) idx) (sym e) (refl, refl)

-- ---- field after field

note_append : (idx : List ℕ) (os ps : List Opt) → note_all (note_all idx os) ps ≡ note_all idx (os ++ ps)
unfolding note_all
note_append idx [] ps = refl
note_append idx (o ∷ os) ps = note_append (noted idx o.item.tag (place o)) os ps

-- one more field, where it is active
enters_then : {A : Type 0} (b : Bool) (fd : Field) (m idx : List ℕ) (os : List Opt) (mid : List ℕ) → mid ≡ note_all idx os → (r : Result A Refusal) (last : List ℕ)
    → Enters mid (cond b (judge fd false (parse 0 0 (bytes fd m))) (accepted [])) r last → Enters idx (extend b fd m (accepted os)) r last
unfolding note_all
enters_then false fd m idx os mid e (Ok x) last n = n ∙ e
enters_then false fd m idx os mid e (Err r) last n = n
enters_then {A = A} true fd m idx os mid e r last n = go (judge fd false (parse 0 0 (bytes fd m))) r n
  where
    go : (w : Reading) (r : Result A Refusal) → Enters mid w r last → Enters idx (and_then os w) r last
    go (accepted ps) (Ok y) x = x ∙ ap (λ (l : List ℕ). note_all l ps) e ∙ note_append idx os ps
    go (accepted ps) (Err y) x = x
    go (refused n p) (Ok y) x = x
    go (refused n p) (Err y) x = x

pub refused_stays : (b : Bool) (fd : Field) (m : List ℕ) (n p : ℕ) → extend b fd m (refused n p) ≡ refused n p
refused_stays true fd m n p = refl
refused_stays false fd m n p = refl

module _ (m idx : List ℕ) where
  abbrev first : Reading
  first = judge options false (parse 0 0 (bytes options m))

  abbrev second : Bool → Reading
  second b = cond b (judge file false (parse 0 0 (bytes file m))) (accepted [])

  -- the reading of all fields, once the first is read
  all_is : (w : Reading) → first ≡ w → all_fields m ≡ further m (and_then [] w)
  unfolding all_fields
  all_is w e = ap (λ (x : Reading). further m (and_then [] x)) e

  all_refused : (n p : ℕ) → first ≡ refused n p → all_fields m ≡ refused n p
  all_refused n p e =
      all_is (refused n p) e
      ∙ ap (extend (sname_in 0) sname m) (refused_stays (file_in 0) file m n p) ∙ refused_stays (sname_in 0) sname m n p

  -- options, where it is refused
  pub fill_first : (A : Type 0) (r : Refusal) (last : List ℕ) → Notes 0 idx (reading options (bytes options m) 0 0) (Err r) last → (x : List ℕ) → Enters {A = A} idx (all_fields m) (Err r) x
  fill_first A r last n x = go first refl n
    where
      go : (w : Reading) → first ≡ w → Notes 0 idx w (Err r) last → Enters {A = A} idx (all_fields m) (Err r) x
      go (accepted os) e y = absurd y
      go (refused k p) e y = subst (λ (w : Reading). Enters {A = A} idx w (Err r) x) (sym (all_refused k p e)) y

  record Read (v : ℕ) (mid : List ℕ) : Type 0 where
    os : List Opt
    is : first ≡ accepted os
    over_is : v ≡ overload (items os)
    mid_is : mid ≡ note_all idx os

  read_first : (v : ℕ) (mid : List ℕ) → Notes 0 idx (reading options (bytes options m) 0 0) (Ok v) mid → Read v mid
  read_first v mid n = go first refl n
    where
      go : (w : Reading) → first ≡ w → Notes 0 idx w (Ok v) mid → Read v mid
      go (accepted os) e y = record { os = os; is = e; over_is = y.1; mid_is = y.0 }
      go (refused k p) e y = absurd y

  module _ (v : ℕ) (mid : List ℕ) (n : Notes 0 idx (reading options (bytes options m) 0 0) (Ok v) mid) where
    abbrev y : Read v mid
    y = read_first v mid n

    abbrev u : ℕ
    u = overload (items y.os)

    -- file, where it is refused
    pub fill_file : (A : Type 0) (r : Refusal) (last : List ℕ) → Enters {A = A} mid (cond (active_in v file) (reading file (bytes file m) 0 0) (accepted [])) (Err r) last
        → (x : List ℕ) → Enters {A = A} idx (all_fields m) (Err r) x
    fill_file A r last k x = go (extend (file_in u) file m (accepted y.os)) refl (enters_then (file_in u) file m idx y.os mid y.mid_is (Err r) last (rw y.over_is at k))
      where
        go : (w : Reading) → extend (file_in u) file m (accepted y.os) ≡ w → Enters {A = A} idx w (Err r) last → Enters {A = A} idx (all_fields m) (Err r) x
        go (accepted ps) e q = absurd q
        go (refused a b) e q =
            subst (λ (w : Reading). Enters {A = A} idx w (Err r) x)
            (sym (all_is (accepted y.os) y.is ∙ ap (extend (sname_in u) sname m) e ∙ refused_stays (sname_in u) sname m a b)) q

    pub fill_all : {A : Type 0} (x : A) (next : List ℕ) → Enters mid (cond (active_in v file) (reading file (bytes file m) 0 0) (accepted [])) (Ok x) next
        → (t : Result A Refusal) (last : List ℕ) → Enters next (cond (active_in v sname) (reading sname (bytes sname m) 0 0) (accepted [])) t last → Enters idx (all_fields m) t last
    fill_all {A = A} x next k t last l = go (extend (file_in u) file m (accepted y.os)) refl (enters_then (file_in u) file m idx y.os mid y.mid_is (Ok x) next (rw y.over_is at k))
      where
        go : (w : Reading) → extend (file_in u) file m (accepted y.os) ≡ w → Enters idx w (Ok x) next → Enters idx (all_fields m) t last
        go (refused a b) e q = absurd q
        go (accepted ps) e q =
            subst (λ (w : Reading). Enters idx w t last) (sym (all_is (accepted y.os) y.is ∙ ap (extend (sname_in u) sname m) e))
            (enters_then (sname_in u) sname m idx ps next q t last (rw y.over_is at l))

-- a field that is not active
pub enters_none : {A : Type 0} (x : A) (idx : List ℕ) → Enters idx (accepted []) (Ok x) idx
unfolding note_all
enters_none x idx = refl
