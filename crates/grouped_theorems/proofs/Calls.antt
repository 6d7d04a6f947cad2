-- The calls that fill a lent buffer: the choice for a class, and the way back. Assumes nothing.
use mathlib.Core.Path.{◌≡◌, refl, sym, ap, ap₂, ◌∙◌, subst}
use mathlib.Core.List.{List, [], ◌∷◌, ◌++◌, append-nil}
use mathlib.Core.Bool.{Bool, true, false, cond}
use Prim.Native.Nat.{ℕ, ◌+◌, ◌≤◌, ◌<◌}
use native.Mathlib.Omega.{arith}
use lib.ListN.{length, drop}
use lib.Dec.{ltb, eqb}
use borrow.Author.Tests.{ltb-true, ltb-false}
use Rattle.options.specs.Refusals.{When, Before, by_part, by_offset, by_number}
use Rattle.options.specs.KindClaims.{AllBytes}
use Rattle.options.specs.Answers.{Verdict, passed, refused_with, Given, given, declined, Filled, unfilled, filled_with, record_bytes}
use Rattle.options.specs.GroupedFile.{Item, group_data, Group, Place, file_start, in_group, at, FileRow, row_16, when_no_group, faulty, behind, FirstOf, NoneOf, Placed, items_of, Plain}
use Rattle.options.specs.Grouped.{Items, none, grp, file_of, and_then, fault_of, check, filled_if, chosen, choice, no_group, way_back, go_back}
use Rattle.options.specs.GroupedClaims.{CorrectCheck, CorrectFillBy, CorrectFill, ChosenSheet, ChoiceRow, ChoiceIsCorrect, ChosenIsShort, BackRow, BackIsCorrect, GoesBackIff}
use Rattle.options.specs.GroupedClaims as claims
use Rattle.theorems.proofs.View.{clash}
use Rattle.writing_theorems.proofs.SheetView.{nothing}
use Rattle.grouped_theorems.proofs.View.{item_bytes_lem, item_same, group_same, item_length, group_length, Reads, r_none, r_unfit, r_short, r_tag, r_record, r_group, r_deep, file_reads}
use Rattle.grouped_theorems.proofs.Rows.{From, here, into, next, from_in, from_depth, from_place, place_from, check_says, first_same, number_at, row_number}
use Rattle.grouped_theorems.proofs.Choosing.{picked, picked_items, Outermost, outermost, out_chosen, chosen_fits, one_list}

-- ---- Any call that fills a lent buffer

module _ (R : ℕ → ℕ → When → Type 0) (B : List ℕ → Type 0) (old : List ℕ) where
  fill_only_by : (one : (n p k q : ℕ) (w : When) → R n p w → R k q w → (n ≡ k) × (p ≡ q)) → (unique : (xs ys : List ℕ) → B xs → B ys → xs ≡ ys)
      → (a b : Given) (x y : List ℕ) → CorrectFillBy R B old a x → CorrectFillBy R B old b y → (a ≡ b) × (x ≡ y)
  fill_only_by one unique (given n) (given m) x y c d =
      let e : c.1.0 ≡ d.1.0 = unique c.1.0 d.1.0 c.1.1 d.1.1 in
      (ap given (c.1.2 ∙ ap length e ∙ sym d.1.2), c.1.3 ∙ ap (λ (l : List ℕ). l ++ drop (length l) old) e ∙ sym d.1.3)
  fill_only_by one unique (given n) (declined m q) x y c d = absurd (c.0 m q d.0.when d.0.applies)
  fill_only_by one unique (declined n p) (given m) x y c d = absurd (d.0 n p c.0.when c.0.applies)
  fill_only_by one unique (declined n p) (declined m q) x y c d =
      let e = first_same R one n p m q c.0 d.0 in
      (ap₂ declined e.0 e.1, c.1 ∙ sym d.1)

  pub fill_only : (one : (n p k q : ℕ) (w : When) → R n p w → R k q w → (n ≡ k) × (p ≡ q)) → (unique : (xs ys : List ℕ) → B xs → B ys → xs ≡ ys)
      → (w v : Filled) → CorrectFill R B old w → CorrectFill R B old v → w ≡ v
  fill_only one unique w v c d =
      let e = fill_only_by one unique w.answer v.answer w.buffer v.buffer c d in
      ap₂ (λ (a : Given) (x : List ℕ). record { answer = a; buffer = x }) e.0 e.1

  -- where 11 is the only row left
  pub filled_says : (xs : List ℕ) → B xs → (unique : (ys : List ℕ) → B ys → ys ≡ xs)
      → ((s : List ℕ) → B s → length old < length s → R 11 (length old) (at 5 (length old) 0))
      → ((n p : ℕ) (w : When) → R n p w → (w ≡ at 5 (length old) 0) × ((s : List ℕ) × B s × (length old < length s)))
      → CorrectFill R B old (filled_with xs old)
  filled_says xs b unique row only = go (ltb (length old) (length xs)) refl
    where
      small : length old < length xs → FirstOf R 11 (length old)
      small l = record { when = at 5 (length old) 0; applies = row xs b l; none_before = none_before }
        where
          none_before : (k q : ℕ) (w : When) → R k q w → Before w (at 5 (length old) 0) → ⊥
          none_before k q w x y = go w (only k q w x).0 y
            where
              go : (w : When) → w ≡ at 5 (length old) 0 → Before w (at 5 (length old) 0) → ⊥
              go w e (by_part l) = omega (arith, ap (λ (v : When). v.part) e)
              go w e (by_offset z l) = omega (arith, ap (λ (v : When). v.offset) e)
              go w e (by_number z d l) = omega (arith, ap (λ (v : When). v.number) e)

      go : (t : Bool) → ltb (length old) (length xs) ≡ t → CorrectFill R B old (cond t (unfilled 11 (length old) old) (record { answer = given (length xs); buffer = xs ++ drop (length xs) old }))
      go true e = (small (ltb-true (length old) (length xs) e), refl)
      go false e =
          (λ n p w x. let s = (only n p w x).1 in omega (arith, s.2, ap length (unique s.0 s.1), ltb-false (length old) (length xs) e), (xs, b, refl, refl))

-- ---- The rows of a file come first

file_early : {f : List ℕ} {n p : ℕ} {w : When} → FileRow f n p w → w.part ≤ 3
file_early (row_16 h) = omega arith
file_early (when_no_group h) = omega arith
file_early (faulty pl x) = omega arith
file_early (behind o) = omega arith

-- the number of a row by its place in the order of refusals
abbrev late_number : When → ℕ
late_number w = cond (eqb w.part 5) 11 (cond (eqb w.part 4) 22 (number_at w))

file_late : {f : List ℕ} {n p : ℕ} {w : When} → FileRow f n p w → (n ≡ late_number w) × (p ≡ w.offset)
file_late {f} (row_16 h) = row_number {f = f} (row_16 h)
file_late {f} (when_no_group h) = row_number {f = f} (when_no_group h)
file_late {f} (faulty pl x) = row_number {f = f} (faulty pl x)
file_late {f} (behind o) = row_number {f = f} (behind o)

pub passed_file : (f : List ℕ) → check f ≡ passed → (length f ≤ 4100) × (fault_of (file_of f) ≡ passed)
unfolding check
passed_file f e = go (ltb 4100 (length f)) refl e
  where
    go : (t : Bool) → ltb 4100 (length f) ≡ t → cond t (refused_with 16 (length f)) (fault_of (file_of f)) ≡ passed → (length f ≤ 4100) × (fault_of (file_of f) ≡ passed)
    go true q z = clash (cc)
    go false q z = (ltb-false 4100 (length f) q, z)

pub accepted_file : (f : List ℕ) → AllBytes f → check f ≡ passed → Outermost f (file_of f)
accepted_file f a e = outermost (file_reads f a) (passed_file f e).1

-- no row: the check passes
pub no_row_passed : (f : List ℕ) → AllBytes f → NoneOf (FileRow f) → check f ≡ passed
no_row_passed f a no_row = go (check f) (check_says f a)
  where
    go : (v : Verdict) → CorrectCheck f v → v ≡ passed
    go passed c = refl
    go (refused_with n p) c = absurd (no_row n p c.when c.applies)

-- ---- The choice

choice_number : {f class old : List ℕ} {n p : ℕ} {w : When} → ChoiceRow f class old n p w → (n ≡ late_number w) × (p ≡ w.offset)
choice_number (claims.ChoiceRow.of_file x) = file_late x
choice_number (claims.ChoiceRow.row_11 s l) = (refl, refl)

choice_same : {f class old : List ℕ} (n p k q : ℕ) (w : When) → ChoiceRow f class old n p w → ChoiceRow f class old k q w → (n ≡ k) × (p ≡ q)
choice_same n p k q w x y = let a = choice_number x in let b = choice_number y in (a.0 ∙ sym b.0, a.1 ∙ sym b.1)

pub one_sheet : (f class xs ys : List ℕ) → ChosenSheet f class xs → ChosenSheet f class ys → xs ≡ ys
one_sheet f class xs ys a b = a.is_sheet ∙ ap (λ (l : List Placed). record_bytes (items_of l)) (one_list f class a.chosen b.chosen a.all b.all) ∙ sym b.is_sheet

pub chosen_sheet : (f class : List ℕ) → Outermost f (file_of f) → ChosenSheet f class (record_bytes (chosen class (file_of f)))
chosen_sheet f class o = record { chosen = picked class (file_of f); all = out_chosen class o; is_sheet = ap record_bytes (picked_items class (file_of f)) }

first_choice : {f class old : List ℕ} {n p : ℕ} → FirstOf (FileRow f) n p → FirstOf (ChoiceRow f class old) n p
first_choice {f} {class} {old} {n} {p} r = record { when = r.when; applies = claims.ChoiceRow.of_file r.applies; none_before = none_before }
  where
    none_before : (k q : ℕ) (w : When) → ChoiceRow f class old k q w → Before w r.when → ⊥
    none_before k q w (claims.ChoiceRow.of_file x) b = r.none_before k q w x b
    none_before k q w (claims.ChoiceRow.row_11 s l) (by_part m) = omega (arith, file_early r.applies)
    none_before k q w (claims.ChoiceRow.row_11 s l) (by_offset e m) = omega (arith, file_early r.applies)
    none_before k q w (claims.ChoiceRow.row_11 s l) (by_number e d m) = omega (arith, file_early r.applies)

choice_says : (f class old : List ℕ) → AllBytes f → CorrectFill (ChoiceRow f class old) (ChosenSheet f class) old (choice f class old)
unfolding choice
choice_says f class old a = go (check f) refl (check_says f a)
  where
    go : (v : Verdict) → check f ≡ v → CorrectCheck f v → CorrectFill (ChoiceRow f class old) (ChosenSheet f class) old (filled_if v (record_bytes (chosen class (file_of f))) old)
    go (refused_with n p) e c = (first_choice c, refl)
    go passed e c =
        let s : ChosenSheet f class (record_bytes (chosen class (file_of f))) = chosen_sheet f class (accepted_file f a e) in
        filled_says (ChoiceRow f class old) (ChosenSheet f class) old (record_bytes (chosen class (file_of f))) s (λ ys b. one_sheet f class ys (record_bytes (chosen class (file_of f))) b s)
        (λ x b l. claims.ChoiceRow.row_11 b l) only
      where
        only : (n p : ℕ) (w : When) → ChoiceRow f class old n p w → (w ≡ at 5 (length old) 0) × ((s : List ℕ) × ChosenSheet f class s × (length old < length s))
        only n p w (claims.ChoiceRow.of_file x) = absurd (c n p w x)
        only n p w (claims.ChoiceRow.row_11 {s = s} b l) = (refl, (s, b, l))

pub choice_is_correct : ChoiceIsCorrect
choice_is_correct f class old w a = (
  λ e. subst (CorrectFill (ChoiceRow f class old) (ChosenSheet f class) old) e (choice_says f class old a),
  λ c. fill_only (ChoiceRow f class old) (ChosenSheet f class) old choice_same (one_sheet f class) (choice f class old) w (choice_says f class old a) c,
)

pub chosen_is_short : ChosenIsShort
chosen_is_short f class s a no_row c =
    let e : check f ≡ passed = no_row_passed f a no_row in
    let o : Outermost f (file_of f) = accepted_file f a e in
    omega (arith, (passed_file f e).0, chosen_fits class o, ap length (one_sheet f class s (record_bytes (chosen class (file_of f))) c (chosen_sheet f class o)))

-- ---- The way back

-- items without a group among them
no_zero : {d p : ℕ} {bs : List ℕ} {w : Items} → Reads d p bs w → fault_of w ≡ passed → no_group w ≡ true
    → {around names : List (List ℕ)} {q : ℕ} {left x after : List ℕ} → From around q left names p bs → Item left 0 x after → ⊥
unfolding fault_of
no_zero r_none e h w i = let k = from_in w in omega (arith, k.0, k.1, item_length i)
no_zero (r_unfit u) e h w i = clash (cc)
no_zero (r_short o s) e h w i = clash (cc)
no_zero (r_tag o t) e h w i = clash (cc)
no_zero {d} {p} {bs} (r_record {c = c} {x = y} {after = more} o z t r) e h {around} {names} {q} {left} {x} {after} w i = go w (λ v. no_zero r e h v i)
  where
    go : From around q left names p bs → (From around q left names (p + 3 + length y) more → ⊥) → ⊥
    go (here a k b) ih = z (item_same o (subst (λ (l : List ℕ). Item l 0 x after) (sym b) i)).0
    go (into name members g v) ih = z (item_same o g).0
    go (next {x = u} l j v) ih =
        let s = item_same j o in
        ih (subst (λ (m : List ℕ). From around q left names (p + 3 + length m) more) s.1 (subst (λ (m : List ℕ). From around q left names (p + 3 + length u) m) s.2 v))
no_zero (r_group name members g j r) e h w i = clash (cc)
no_zero (r_deep name members g r) e h w i = clash (cc)

no_group_among : {d p : ℕ} {bs : List ℕ} {w : Items} → Reads d p bs w → fault_of w ≡ passed → (names : List (List ℕ)) → 1 ≤ length names
    → ((around : List (List ℕ)) (q : ℕ) (left x after : List ℕ) → From around q left names p bs → Item left 0 x after → ⊥) → no_group w ≡ true
unfolding fault_of
no_group_among r_none e names l h = refl
no_group_among (r_unfit u) e names l h = clash (cc)
no_group_among (r_short o s) e names l h = clash (cc)
no_group_among (r_tag o t) e names l h = clash (cc)
no_group_among (r_record o z t r) e names l h = no_group_among r e names l (λ around q left x after w i. h around q left x after (next l o w) i)
no_group_among {d} {p} {bs} (r_group {after = after} name members g j r) e names l h = absurd (h names p bs (group_data name members) after (here refl refl refl) g)
no_group_among (r_deep name members g r) e names l h = clash (cc)

module _ {f : List ℕ} {w : Items} (o : Outermost f w) where
  plain_of : o.name ≡ [] → no_group o.inside ≡ true → Plain f o.members
  plain_of e h = record { nameless = subst (λ (l : List ℕ). Group f l o.members []) e o.group; no_group_inside = no_group_inside }
    where
      no_group_inside : (name : List ℕ) (names : List (List ℕ)) (p : ℕ) (bs d after : List ℕ) → Place f (name ∷ names) p bs → Item bs 0 d after → ⊥
      no_group_inside name names p bs d after pl i = go (place_from pl)
        where
          go : From (name ∷ names) p bs [] 0 f → ⊥
          go (here a q b) = omega (arith, ap length a)
          go (into x y g v) =
              let s = group_same x y o.name o.members (item_same g o.group).1 in
              no_zero o.reads o.passes h
              (subst (λ (l : List ℕ). From (name ∷ names) p bs (o.name ∷ []) (4 + length o.name) l) s.1 (subst (λ (l : List ℕ). From (name ∷ names) p bs (l ∷ []) (4 + length l) y) s.0 v)) i
          go (next l j v) = omega arith

  pub of_plain : (s : List ℕ) → Plain f s → (o.name ≡ []) × (o.members ≡ s) × (no_group o.inside ≡ true)
  of_plain s p =
      let e = group_same o.name o.members [] s (item_same o.group p.nameless).1 in
      (e.0, e.1, no_group_among o.reads o.passes (o.name ∷ []) (omega arith) inner)
    where
      inner : (around : List (List ℕ)) (q : ℕ) (left x after : List ℕ) → From around q left (o.name ∷ []) (4 + length o.name) o.members → Item left 0 x after → ⊥
      inner [] q left x after v i = omega (arith, from_depth v)
      inner (n ∷ ns) q left x after v i = p.no_group_inside n ns q left x after (from_place (in_group file_start o.group) v) i

  members_are : o.name ≡ [] → drop 4 f ≡ o.members
  members_are e =
      let g : Group f [] o.members [] = subst (λ (l : List ℕ). Group f l o.members []) e o.group in
      ap (drop 4) (item_bytes_lem g) ∙ append-nil o.members

pub one_plain : (f xs ys : List ℕ) → Plain f xs → Plain f ys → xs ≡ ys
one_plain f xs ys a b = (group_same [] xs [] ys (item_same a.nameless b.nameless).1).1

back_number : {f old : List ℕ} {n p : ℕ} {w : When} → BackRow f old n p w → (n ≡ late_number w) × (p ≡ w.offset)
back_number (claims.BackRow.of_file x) = file_late x
back_number (claims.BackRow.row_22 h) = (refl, refl)
back_number (claims.BackRow.row_11 s l) = (refl, refl)

back_same : {f old : List ℕ} (n p k q : ℕ) (w : When) → BackRow f old n p w → BackRow f old k q w → (n ≡ k) × (p ≡ q)
back_same n p k q w x y = let a = back_number x in let b = back_number y in (a.0 ∙ sym b.0, a.1 ∙ sym b.1)

first_back : {f old : List ℕ} {n p : ℕ} → FirstOf (FileRow f) n p → FirstOf (BackRow f old) n p
first_back {f} {old} {n} {p} r = record { when = r.when; applies = claims.BackRow.of_file r.applies; none_before = none_before }
  where
    late : (w : When) → 4 ≤ w.part → Before w r.when → ⊥
    late w l (by_part m) = omega (arith, file_early r.applies)
    late w l (by_offset e m) = omega (arith, file_early r.applies)
    late w l (by_number e d m) = omega (arith, file_early r.applies)

    none_before : (k q : ℕ) (w : When) → BackRow f old k q w → Before w r.when → ⊥
    none_before k q w (claims.BackRow.of_file x) b = r.none_before k q w x b
    none_before k q w (claims.BackRow.row_22 h) b = late w (omega arith) b
    none_before k q w (claims.BackRow.row_11 s l) b = late w (omega arith) b

no_way : {f old : List ℕ} → NoneOf (FileRow f) → ((s : List ℕ) → Plain f s → ⊥) → FirstOf (BackRow f old) 22 0
no_way {f} {old} c h = record { when = at 4 0 0; applies = claims.BackRow.row_22 h; none_before = none_before }
  where
    none_before : (k q : ℕ) (w : When) → BackRow f old k q w → Before w (at 4 0 0) → ⊥
    none_before k q w (claims.BackRow.of_file x) b = c k q w x
    none_before k q w (claims.BackRow.row_22 x) (by_part m) = omega arith
    none_before k q w (claims.BackRow.row_22 x) (by_offset e m) = omega arith
    none_before k q w (claims.BackRow.row_22 x) (by_number e d m) = omega arith
    none_before k q w (claims.BackRow.row_11 s l) b = h _ s

module _ (f old : List ℕ) (c : NoneOf (FileRow f)) where
  plain_says : (xs : List ℕ) → Plain f xs → CorrectFill (BackRow f old) (Plain f) old (filled_with xs old)
  plain_says xs b = filled_says (BackRow f old) (Plain f) old xs b (λ ys y. one_plain f ys xs y b) (λ s y l. claims.BackRow.row_11 y l) only
    where
      only : (n p : ℕ) (w : When) → BackRow f old n p w → (w ≡ at 5 (length old) 0) × ((s : List ℕ) × Plain f s × (length old < length s))
      only n p w (claims.BackRow.of_file x) = absurd (c n p w x)
      only n p w (claims.BackRow.row_22 h) = absurd (h xs b)
      only n p w (claims.BackRow.row_11 {s = s} y l) = (refl, (s, y, l))

  way_says : (w : Items) → Outermost f w → CorrectFill (BackRow f old) (Plain f) old (filled_if (way_back w) (drop 4 f) old)
  way_says w o = subst (λ (x : Items). CorrectFill (BackRow f old) (Plain f) old (filled_if (way_back x) (drop 4 f) old)) (sym o.is) (named o.name refl)
    where
      grouped : (t : Bool) → o.name ≡ [] → no_group o.inside ≡ t → CorrectFill (BackRow f old) (Plain f) old (filled_if (cond t passed (refused_with 22 0)) (drop 4 f) old)
      grouped true e h = plain_says (drop 4 f) (subst (Plain f) (sym (members_are o e)) (plain_of o e h))
      grouped false e h = (no_way c (λ s p. let q = (of_plain o s p).2 in clash (cc)), refl)

      named : (n : List ℕ) → o.name ≡ n → CorrectFill (BackRow f old) (Plain f) old (filled_if (way_back (grp 0 n o.inside none)) (drop 4 f) old)
      named [] e = grouped (no_group o.inside) e refl
      named (x ∷ xs) e = (no_way c (λ s p. nothing (sym (of_plain o s p).0 ∙ e)), refl)

back_says : (f old : List ℕ) → AllBytes f → CorrectFill (BackRow f old) (Plain f) old (go_back f old)
unfolding go_back
back_says f old a = go (check f) refl (check_says f a)
  where
    go : (v : Verdict) → check f ≡ v → CorrectCheck f v → CorrectFill (BackRow f old) (Plain f) old (filled_if (and_then v (way_back (file_of f))) (drop 4 f) old)
    go (refused_with n p) e c = (first_back c, refl)
    go passed e c = way_says f old c (file_of f) (accepted_file f a e)

pub back_is_correct : BackIsCorrect
back_is_correct f old w a = (
  λ e. subst (CorrectFill (BackRow f old) (Plain f) old) e (back_says f old a),
  λ c. fill_only (BackRow f old) (Plain f) old back_same (one_plain f) (go_back f old) w (back_says f old a) c,
)

pub goes_back_iff : GoesBackIff
goes_back_iff f old a c l = (to, of)
  where
    to : (s : List ℕ) × Plain f s → (n : ℕ) × (after : List ℕ) × (go_back f old ≡ record { answer = given n; buffer = after })
    to (s, p) = (length s, s ++ drop (length s) old, (back_is_correct f old (record { answer = given (length s); buffer = s ++ drop (length s) old }) a).1 (none_of, (s, p, refl, refl)))
      where
        none_of : NoneOf (BackRow f old)
        none_of n q w (claims.BackRow.of_file x) = c n q w x
        none_of n q w (claims.BackRow.row_22 h) = h s p
        none_of n q w (claims.BackRow.row_11 {s = y} z m) = omega (arith, m, item_length z.nameless, group_length [] y)

    of : (n : ℕ) × (after : List ℕ) × (go_back f old ≡ record { answer = given n; buffer = after }) → (s : List ℕ) × Plain f s
    of (n, after, e) = let r = (back_is_correct f old (record { answer = given n; buffer = after }) a).0 e in (r.1.0, r.1.1)
