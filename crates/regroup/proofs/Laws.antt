-- A sheet that moves, and a file that goes back: step by step over their records. Assumes nothing.
use mathlib.Core.Path.{◌≡◌, refl, sym, ap, ap₂, ◌∙◌}
use mathlib.Core.List.{List, [], ◌∷◌}
use mathlib.Core.Bool.{Bool, true, false, cond}
use Prim.Native.Nat.{ℕ, zero, suc, ◌+◌, ◌≤◌, ◌<◌}
use native.Mathlib.Omega.{arith}
use lib.ListN.{length, get_or, take, drop, set}
use lib.Seq.{drop-cons, sets-eq, take_all}
use lib.Dec.{eqb, ltb}
use borrow.Author.Tests.{eqb-false, eq-eqb, ne_eqb, ltb-true, ltb-false, lt-ltb, le-ltb}
use Rattle.options.specs.Message.{Rec}
use Rattle.options.specs.Reading.{either, among}
use Rattle.options.specs.Answers.{Verdict, passed, refused_with, unfilled, filled_with}
use Rattle.options.specs.SheetWalk.{Walk, all_read, cut_at, read_at, records_from, Sheet, sound, faulty, keep, ruled}
use Rattle.options.specs.Grouped.{Items, none, fault, rec, grp, Body, group_of, members, body, behind, file_of, and_then, fault_of, check, filled_if, move_rules, verdict_on, in_group, move, no_group, way_back, go_back}
use Rattle.theorems.proofs.View.{clash}
use Rattle.grouped_theorems.proofs.Choosing.{both_passed}
use Rattle.buffer.specs.Written.{laid}
use Rattle.sheet.specs.Steps.{step_of, walk_by}
use Rattle.sheet.specs.declared.Step.{Step}
use Rattle.sheet.specs.declared.Step.TheVariants.{Record}
use Rattle.sheet.specs.declared.Step.TheVariants as step
use Rattle.sheet.proofs.Steps as steps
use Rattle.groups.specs.Parts.{outermost_size, members_at_value, past_records_value, Stops}
use Rattle.groups.proofs.Laws.{PassesOver, past_from, past_on, pass, group_then, members_found, group_short, group_whole, group_fault}
use Rattle.groups.proofs.Files.{outer, no_outer, behind_some, behind_none, check_long, check_short}
use Rattle.regroup.specs.Parts.{movable, none_group, plain_in}

-- ---- The record at a place

module _ (s : List ℕ) (at : ℕ) where
  pub movable_by : (x : Step) → x ≡ step_of (records_from at 0 (drop at s)) → movable (records_from at 0 (drop at s)) ≡ movable (walk_by s at x)
  movable_by x e = ap movable (steps.stepped s at x e).0

  pub none_by : (x : Step) → x ≡ step_of (records_from at 0 (drop at s)) → none_group (records_from at 0 (drop at s)) ≡ none_group (walk_by s at x)
  none_by x e = ap none_group (steps.stepped s at x e).0

  -- no record begins there
  pub none_ends : (x : Step) → x ≡ step_of (records_from at 0 (drop at s)) → ((t n : ℕ) → x ≡ Record t n → ⊥) → none_group (records_from at 0 (drop at s)) ≡ true
  unfolding none_group
  none_ends step.End e h = none_by step.End e
  none_ends step.Cut e h = none_by step.Cut e
  none_ends (Record t n) e h = absurd (h t n refl)

  module _ (tag size : ℕ) (e : Record tag size ≡ step_of (records_from at 0 (drop at s))) where
    pub record_room : at + size + 3 ≤ length s
    record_room = let h = (steps.stepped s at (Record tag size) e).1.0 in omega (arith, h)

    on : at + 3 + size ≡ at + size + 3
    on = omega arith

    moved : movable (records_from at 0 (drop at s)) ≡ cond (among tag (0 ∷ 52 ∷ 255 ∷ [])) (refused_with 10 at) (movable (records_from (at + size + 3) 0 (drop (at + size + 3) s)))
    unfolding movable
    moved = movable_by (Record tag size) e ∙ ap (λ (k : ℕ). cond (among tag (0 ∷ 52 ∷ 255 ∷ [])) (refused_with 10 at) (movable (records_from k 0 (drop k s)))) on

    -- a record that is not passed
    pub moved_stop : Stops s at → movable (records_from at 0 (drop at s)) ≡ refused_with 10 at
    moved_stop h = moved ∙ go (eqb tag 0) (eqb tag 52) (eqb tag 255) refl refl refl
      where
        go : (x y z : Bool) → eqb tag 0 ≡ x → eqb tag 52 ≡ y → eqb tag 255 ≡ z
            → cond (either x (either y (either z false))) (refused_with 10 at) (movable (records_from (at + size + 3) 0 (drop (at + size + 3) s))) ≡ refused_with 10 at
        go true y z p q r = refl
        go false true z p q r = refl
        go false false true p q r = refl
        go false false false p q r =
            absurd (omega (arith, sym h ∙ past_on s at tag size e (eqb-false tag 0 p) (eqb-false tag 52 q) (eqb-false tag 255 r), past_from (at + 3 + size) (records_from (at + 3 + size) 0 (drop (at + 3 + size) s))))

    gone : none_group (records_from at 0 (drop at s)) ≡ cond (eqb tag 0) false (none_group (records_from (at + size + 3) 0 (drop (at + size + 3) s)))
    unfolding none_group
    gone = none_by (Record tag size) e ∙ ap (λ (k : ℕ). cond (eqb tag 0) false (none_group (records_from k 0 (drop k s)))) on

    pub gone_group : tag ≡ 0 → none_group (records_from at 0 (drop at s)) ≡ false
    gone_group z = gone ∙ rw (eq-eqb tag 0 z)

    pub gone_on : (tag ≡ 0 → ⊥) → none_group (records_from at 0 (drop at s)) ≡ none_group (records_from (at + size + 3) 0 (drop (at + size + 3) s))
    gone_on z = gone ∙ rw (ne_eqb tag 0 z)

movable_over : PassesOver movable
unfolding movable
movable_over p r rest e = rw e

-- the records that are passed leave the verdict on a sheet as it is
pub past_moved : (s : List ℕ) → ((k : ℕ) → get_or s k 0 < 256) → (at : ℕ) → at ≡ past_records_value 0 (records_from 0 0 s) → (movable (records_from 0 0 s) ≡ movable (records_from at 0 (drop at s))) × Stops s at
past_moved s octets at q = let p = (pass s 0 octets 0 at q).1 in (p.same_verdict movable movable_over, p.stops)

pub named : (f : List ℕ) → (get_or f 3 0 ≡ 0 → ⊥) → plain_in f ≡ false
unfolding plain_in
named f h = rw (ne_eqb (get_or f 3 0) 0 h)

pub nameless : (f : List ℕ) → get_or f 3 0 ≡ 0 → plain_in f ≡ none_group (records_from 4 0 (drop 4 f))
unfolding plain_in
nameless f h = rw (eq-eqb (get_or f 3 0) 0 h)

-- ---- The move

kept : (r : Rec) (x : Sheet) → verdict_on (keep r x) ≡ verdict_on x
kept r (sound rs) = refl
kept r (faulty n p) = refl

-- the rules of the move do not look at the tags met before
ruled_movable : (seen : List ℕ) (w : Walk) → verdict_on (ruled move_rules seen w) ≡ movable w
unfolding ruled movable
ruled_movable seen all_read = refl
ruled_movable seen (cut_at i) = refl
ruled_movable seen (read_at i r rest) = go (among r.tag (0 ∷ 52 ∷ 255 ∷ [])) (ruled_movable (r.tag ∷ seen) rest)
  where
    go : (t : Bool) → verdict_on (ruled move_rules (r.tag ∷ seen) rest) ≡ movable rest → verdict_on (cond t (faulty 10 i) (keep r (ruled move_rules (r.tag ∷ seen) rest))) ≡ cond t (refused_with 10 i) (movable rest)
    go true ih = refl
    go false ih = kept r (ruled move_rules (r.tag ∷ seen) rest) ∙ ih

module _ (s old : List ℕ) where
  pub move_long : 4096 < length s → move s old ≡ unfilled 16 (length s) old
  unfolding move
  move_long h = rw (lt-ltb 4096 (length s) h)

  module _ (l : length s ≤ 4096) where
    move_short : move s old ≡ filled_if (movable (records_from 0 0 s)) (in_group s) old
    unfolding move
    move_short = rw (le-ltb 4096 (length s) l) (ap (λ (v : Verdict). filled_if v (in_group s) old) (ruled_movable [] (records_from 0 0 s)))

    pub move_refused : (n p : ℕ) → movable (records_from 0 0 s) ≡ refused_with n p → move s old ≡ unfilled n p old
    move_refused n p e = move_short ∙ ap (λ (v : Verdict). filled_if v (in_group s) old) e

    pub move_passed : movable (records_from 0 0 s) ≡ passed → move s old ≡ filled_with (in_group s) old
    move_passed e = move_short ∙ ap (λ (v : Verdict). filled_if v (in_group s) old) e

-- four bytes stored at the front
pub laid_four : (b : List ℕ) (w x y z : ℕ) → 4 ≤ length b → set (set (set (set b 0 w) 1 x) 2 y) 3 z ≡ laid b 0 (w ∷ x ∷ y ∷ z ∷ [])
laid_four b w x y z h = sets-eq (w ∷ x ∷ y ∷ z ∷ []) b 0 h

-- ---- The way back

no_group_in : (deeper : Body) (w : Walk) → fault_of (members deeper w) ≡ passed → no_group (members deeper w) ≡ none_group w
unfolding members fault_of none_group
no_group_in deeper all_read e = refl
no_group_in deeper (cut_at i) e = refl
no_group_in deeper (read_at i r rest) e = go (eqb r.tag 0) (among r.tag (52 ∷ 255 ∷ [])) e (no_group_in deeper rest)
  where
    group : (d : List ℕ) → fault_of (group_of deeper i d (members deeper rest)) ≡ passed → no_group (group_of deeper i d (members deeper rest)) ≡ false
    group [] q = clash (cc)
    group (n ∷ ds) q = tested (ltb (length ds) n) q
      where
        tested : (t : Bool) → fault_of (cond t (fault 20 i) (grp i (take n ds) (deeper i (i + 4 + n) (drop n ds)) (members deeper rest))) ≡ passed
            → no_group (cond t (fault 20 i) (grp i (take n ds) (deeper i (i + 4 + n) (drop n ds)) (members deeper rest))) ≡ false
        tested true q = clash (cc)
        tested false q = refl

    go : (t u : Bool) → fault_of (cond t (group_of deeper i r.body (members deeper rest)) (cond u (fault 10 i) (rec i r (members deeper rest)))) ≡ passed
        → (fault_of (members deeper rest) ≡ passed → no_group (members deeper rest) ≡ none_group rest)
        → no_group (cond t (group_of deeper i r.body (members deeper rest)) (cond u (fault 10 i) (rec i r (members deeper rest)))) ≡ cond t false (none_group rest)
    go true u q ih = group r.body q
    go false true q ih = clash (cc)
    go false false q ih = ih q

-- an accepted file is its outermost group, to its end
pub record Whole (f : List ℕ) : Type 0 where
  pub long : 4 + get_or f 3 0 ≤ length f
  pub is : file_of f ≡ grp 0 (take (get_or f 3 0) (drop 4 f)) (body 4 0 (4 + get_or f 3 0) (drop (4 + get_or f 3 0) f)) none
  pub passes : fault_of (body 4 0 (4 + get_or f 3 0) (drop (4 + get_or f 3 0) f)) ≡ passed

module _ (f : List ℕ) (e : check f ≡ passed) where
  short : (t : Bool) → ltb 4100 (length f) ≡ t → length f ≤ 4100
  short true q = let z : check f ≡ refused_with 16 (length f) = check_long f (ltb-true 4100 (length f) q) in clash (cc)
  short false q = ltb-false 4100 (length f) q

  fits : length f ≤ 4100
  fits = short (ltb 4100 (length f)) refl

  file_passes : fault_of (file_of f) ≡ passed
  file_passes = sym (check_short f fits) ∙ e

  abbrev size : ℕ
  size = outermost_size (records_from 0 0 f)

  has_outer : size ≡ 0 → ⊥
  unfolding fault_of
  has_outer z = let q : fault_of (file_of f) ≡ refused_with 20 0 = ap fault_of (no_outer f size refl z) in let p = file_passes in clash (cc)

  both : (fault_of (group_of (body 4) 0 (drop 3 (take size f)) none) ≡ passed) × (fault_of (behind size (drop size f)) ≡ passed)
  both =
      both_passed (fault_of (group_of (body 4) 0 (drop 3 (take size f)) none)) (fault_of (behind size (drop size f)))
      (sym (ap fault_of (outer f size refl has_outer).is_group ∙ group_then (body 4) 0 (drop 3 (take size f)) (behind size (drop size f))) ∙ file_passes)

  to_end : (t : Bool) → ltb size (length f) ≡ t → length f ≤ size
  unfolding fault_of
  to_end true q = let z : fault_of (behind size (drop size f)) ≡ refused_with 20 size = ap fault_of (behind_some f size (ltb-true size (length f) q)) in let p = both.1 in clash (cc)
  to_end false q = ltb-false size (length f) q

  ended : length f ≤ size
  ended = to_end (ltb size (length f)) refl

  alone : file_of f ≡ group_of (body 4) 0 (drop 3 f) none
  alone =
      (outer f size refl has_outer).is_group
      ∙ ap₂ (λ (l : List ℕ) (w : Items). group_of (body 4) 0 (drop 3 l) w) (take_all size f ended) (behind_none f size ended)

  alone_passes : fault_of (group_of (body 4) 0 (drop 3 f) none) ≡ passed
  alone_passes = sym (ap fault_of alone) ∙ file_passes

  found : members_at_value f 0 ≡ 0 → ⊥
  unfolding fault_of
  found z = let q : fault_of (group_of (body 4) 0 (drop 3 f) none) ≡ refused_with 20 0 = ap fault_of (group_short f 0 (body 4) none (members_at_value f 0) refl z) in let p = alone_passes in clash (cc)

  pub whole_file : Whole f
  whole_file =
      let m = members_found f 0 (members_at_value f 0) refl found in
      let n : members_at_value f 0 ≡ 4 + get_or f 3 0 = m.0 in
      record {
        long = omega (arith, n, m.1);
        is = alone ∙ group_whole f 0 (body 4) none (members_at_value f 0) refl found ∙ ap (λ (k : ℕ). grp 0 (take (get_or f 3 0) (drop 4 f)) (body 4 0 k (drop k f)) none) n;
        passes = sym (ap (λ (k : ℕ). fault_of (body 4 0 k (drop k f))) n) ∙ sym (group_fault f 0 (body 4) (members_at_value f 0) refl found) ∙ alone_passes;
      }

  -- no name: the records inside decide
  unnamed : get_or f 3 0 ≡ 0 → way_back (file_of f) ≡ cond (plain_in f) passed (refused_with 22 0)
  unfolding body
  unnamed z =
      let w = whole_file in
      let k : 4 + get_or f 3 0 ≡ 4 = omega arith in
      let passes : fault_of (members (body 3) (records_from 4 0 (drop 4 f))) ≡ passed = sym (ap (λ (i : ℕ). fault_of (body 4 0 i (drop i f))) k) ∙ w.passes in
      ap way_back (w.is ∙ ap₂ (λ (n i : ℕ). grp 0 (take n (drop 4 f)) (body 4 0 i (drop i f)) none) z k)
      ∙ ap (λ (b : Bool). cond b passed (refused_with 22 0)) (no_group_in (body 3) (records_from 4 0 (drop 4 f)) passes ∙ sym (nameless f z))

  -- a name
  with_name : (n : ℕ) → get_or f 3 0 ≡ suc n → way_back (file_of f) ≡ cond (plain_in f) passed (refused_with 22 0)
  with_name n z =
      let w = whole_file in
      let there : drop 4 f ≡ get_or f 4 0 ∷ drop 5 f = drop-cons f 4 0 (omega (arith, w.long, z)) in
      ap way_back (w.is ∙ ap₂ (λ (k : ℕ) (l : List ℕ). grp 0 (take k l) (body 4 0 (4 + get_or f 3 0) (drop (4 + get_or f 3 0) f)) none) z there)
      ∙ sym (ap (λ (b : Bool). cond b passed (refused_with 22 0)) (named f (λ q. omega (arith, z, q))))

  pub way_back_lem : way_back (file_of f) ≡ cond (plain_in f) passed (refused_with 22 0)
  way_back_lem = go (get_or f 3 0) refl
    where
      go : (n : ℕ) → get_or f 3 0 ≡ n → way_back (file_of f) ≡ cond (plain_in f) passed (refused_with 22 0)
      go zero z = unnamed z
      go (suc n) z = with_name n z

module _ (f old : List ℕ) where
  pub back_refused : (n p : ℕ) → check f ≡ refused_with n p → go_back f old ≡ unfilled n p old
  unfolding go_back
  back_refused n p e = ap (λ (v : Verdict). filled_if (and_then v (way_back (file_of f))) (drop 4 f) old) e

  back_passed : check f ≡ passed → go_back f old ≡ filled_if (cond (plain_in f) passed (refused_with 22 0)) (drop 4 f) old
  unfolding go_back
  back_passed e = ap (λ (v : Verdict). filled_if (and_then v (way_back (file_of f))) (drop 4 f) old) e ∙ ap (λ (v : Verdict). filled_if v (drop 4 f) old) (way_back_lem f e)

  pub back_none : check f ≡ passed → plain_in f ≡ false → go_back f old ≡ unfilled 22 0 old
  back_none e z = back_passed e ∙ rw z

  pub back_given : check f ≡ passed → plain_in f ≡ true → go_back f old ≡ filled_with (drop 4 f) old
  back_given e z = back_passed e ∙ rw z
