-- The check refuses by the first row that applies. Assumes nothing.
use mathlib.Core.Path.{◌≡◌, refl, sym, ap, ap₂, ◌∙◌, subst}
use mathlib.Core.List.{List, [], ◌∷◌}
use mathlib.Core.Logic.{◌⊎◌, inl, inr, ⊎_elim}
use Prim.Native.Nat.{ℕ, suc, ◌+◌, ◌≤◌, ◌<◌}
use native.Mathlib.Omega.{arith}
use lib.ListN.{length}
use lib.Dec.{ltb, eqb}
use borrow.Author.Tests.{ltb-true, ltb-false}
use mathlib.Core.Bool.{Bool, true, false, cond}
use Rattle.options.specs.Refusals.{When, Before, by_part, by_offset, by_number}
use Rattle.options.specs.KindClaims.{AllBytes}
use Rattle.options.specs.Answers.{Verdict, passed, refused_with}
use Rattle.options.specs.GroupedFile.{Item, group_data, Group, Place, file_start, in_group, after_item, TooShort, Faulty, unfit, too_short, wrong_tag, fifth_depth, at, FileRow, row_16, when_no_group, faulty, behind, FirstOf, NoneOf}
use Rattle.options.specs.Grouped.{Items, file_of, and_then, fault_of, check}
use Rattle.options.specs.Grouped as grouped
use Rattle.options.specs.GroupedClaims.{CorrectCheck, CheckIsCorrect}
use Rattle.theorems.proofs.Reading.{order}
use Rattle.theorems.proofs.Fields.{split}
use Rattle.writing_theorems.proofs.SheetView.{head, nothing}
use Rattle.grouped_theorems.proofs.View.{item_bytes_lem, item_same, group_same, unfit_item, short_group, item_length, group_length, Reads, r_none, r_unfit, r_short, r_tag, r_record, r_group, r_deep, FileReads, f_none, f_unfit, f_short, f_group, file_reads}

-- ---- From one place to another

-- from the place p on, with what is left there, an item may begin at q: through groups, and behind items
pub data From (around : List (List ℕ)) (q : ℕ) (left : List ℕ) : List (List ℕ) → ℕ → List ℕ → Type 0 where
  here : {names : List (List ℕ)} {p : ℕ} {bs : List ℕ} → names ≡ around → p ≡ q → bs ≡ left → From around q left names p bs
  into : {names : List (List ℕ)} {p : ℕ} {bs after : List ℕ} (name members : List ℕ) → Group bs name members after
      → From around q left (name ∷ names) (p + 4 + length name) members → From around q left names p bs
  next : {names : List (List ℕ)} {p c : ℕ} {bs x after : List ℕ} → 1 ≤ length names → Item bs c x after → From around q left names (p + 3 + length x) after → From around q left names p bs

module _ {around : List (List ℕ)} {q : ℕ} {left : List ℕ} where
  then_into : {names : List (List ℕ)} {p : ℕ} {bs after : List ℕ} (name members : List ℕ) → From around q left names p bs → Group left name members after
      → From (name ∷ around) (q + 4 + length name) members names p bs
  then_into {names} {p} {bs} {after} name members (here a e b) g =
      into {bs = bs} {after = after} name members (rw b g) (here (ap (λ (l : List (List ℕ)). name ∷ l) a) (ap (λ (i : ℕ). i + 4 + length name) e) refl)
  then_into name members (into x y h w) g = into x y h (then_into name members w g)
  then_into name members (next l o w) g = next l o (then_into name members w g)

  then_next : {names : List (List ℕ)} {p c : ℕ} {bs x after : List ℕ} → 1 ≤ length around → From around q left names p bs → Item left c x after
      → From around (q + 3 + length x) after names p bs
  then_next {names} {p} {c} {bs} {x} {after} m (here a e b) o =
      next {names = names} {c = c} {bs = bs} {x = x} {after = after} (rw a m) (rw b o) (here a (ap (λ (i : ℕ). i + 3 + length x) e) refl)
  then_next m (into x y h w) o = into x y h (then_next m w o)
  then_next m (next l i w) o = next l i (then_next m w o)

  -- it goes on, and stays within what is left
  pub from_in : {names : List (List ℕ)} {p : ℕ} {bs : List ℕ} → From around q left names p bs → (p ≤ q) × (q + length left ≤ p + length bs)
  from_in (here a e b) = (omega arith, omega (arith, ap length b))
  from_in (into name members g w) = let i = from_in w in (omega (arith, i.0), omega (arith, i.1, item_length g, group_length name members))
  from_in (next l o w) = let i = from_in w in (omega (arith, i.0), omega (arith, i.1, item_length o))

  pub from_depth : {names : List (List ℕ)} {p : ℕ} {bs : List ℕ} → From around q left names p bs → length names ≤ length around
  from_depth (here a e b) = omega (arith, ap length a)
  from_depth (into name members g w) = omega (arith, from_depth w)
  from_depth (next l o w) = from_depth w

  pub same_here : {names : List (List ℕ)} {p : ℕ} {bs : List ℕ} → From around q left names p bs → p ≡ q → (names ≡ around) × (bs ≡ left)
  same_here (here a e b) z = (a, b)
  same_here (into name members g w) z = absurd (omega (arith, (from_in w).0))
  same_here (next l o w) z = absurd (omega (arith, (from_in w).0))

  pub from_place : {f : List ℕ} {names : List (List ℕ)} {p : ℕ} {bs : List ℕ} → Place f names p bs → From around q left names p bs → Place f around q left
  from_place {f} {names} {p} {bs} pl (here a e b) =
      subst (λ (l : List ℕ). Place f around q l) b (subst (λ (i : ℕ). Place f around i bs) e (subst (λ (l : List (List ℕ)). Place f l p bs) a pl))
  from_place pl (into name members g w) = from_place (in_group pl g) w
  from_place {names = []} pl (next l o w) = absurd (omega arith)
  from_place {names = name ∷ names} pl (next l o w) = from_place (after_item pl o) w

pub place_from : {f : List ℕ} {names : List (List ℕ)} {p : ℕ} {bs : List ℕ} → Place f names p bs → From names p bs [] 0 f
place_from file_start = here refl refl refl
place_from (in_group {name = name} {members = members} pl g) = then_into name members (place_from pl) g
place_from (after_item pl o) = then_next (omega arith) (place_from pl) o

-- ---- The rows from a place on

pub record RowFrom (names : List (List ℕ)) (p : ℕ) (bs : List ℕ) (n q rank : ℕ) : Type 0 where
  pub around : List (List ℕ)
  pub left : List ℕ
  pub from : From around q left names p bs
  pub is : Faulty around left n rank

some : {x : ℕ} {bs r : List ℕ} → bs ≡ x ∷ r → 1 ≤ length bs
some {x} {bs} {r} e = let n : length bs ≡ suc (length r) = ap length e in omega arith

faulty_some : {names : List (List ℕ)} {bs : List ℕ} {n rank : ℕ} → Faulty names bs n rank → 1 ≤ length bs
faulty_some (unfit u) = some u.reads
faulty_some (too_short o s) = omega (arith, item_length o)
faulty_some (wrong_tag e z) = some e
faulty_some (fifth_depth o e) = omega (arith, item_length o)

pub record RefusesFrom (names : List (List ℕ)) (p : ℕ) (bs : List ℕ) (n q : ℕ) : Type 0 where
  pub rank : ℕ
  pub row : RowFrom names p bs n q rank
  pub least : (k j r : ℕ) → RowFrom names p bs k j r → (q < j) ⊎ ((q ≡ j) × (rank ≤ r))

abbrev pub Gives : List (List ℕ) → ℕ → List ℕ → Verdict → Type 0
Gives names p bs passed = (n q rank : ℕ) → RowFrom names p bs n q rank → ⊥
Gives names p bs (refused_with n q) = RefusesFrom names p bs n q

-- the item at p itself is faulty
leaf : (names : List (List ℕ)) (p : ℕ) (bs : List ℕ) (n rank : ℕ) → Faulty names bs n rank → ((k r : ℕ) → Faulty names bs k r → rank ≤ r) → RefusesFrom names p bs n p
leaf names p bs n rank f low =
    record {
      rank = rank;
      row = record { around = names; left = bs; from = here refl refl refl; is = f };
      least = λ k j r x.
          ⊎_elim (λ (z : p < j). inl z)
          (λ (z : p ≡ j).
          let s = same_here x.from z in
          inr (z, low k r (subst (λ (l : List ℕ). Faulty names l k r) (sym s.1) (subst (λ (l : List (List ℕ)). Faulty l x.left k r) (sym s.0) x.is))))
          (split p j (from_in x.from).0);
    }

-- the item at p is whole and no row applies to it
clean : {names : List (List ℕ)} {bs x after : List ℕ} {c : ℕ} → Item bs c x after → (c ≡ 0 → TooShort x → ⊥) → ((c ≡ 52) ⊎ (c ≡ 255) → ⊥) → (c ≡ 0 → suc (length names) ≡ 5 → ⊥)
    → (n r : ℕ) → Faulty names bs n r → ⊥
clean o s t d n r (unfit u) = unfit_item u o
clean {names} {bs} {x} o s t d n r (too_short i z) = let e = item_same o i in s e.0 (subst TooShort (sym e.1) z)
clean o s t d n r (wrong_tag e z) =
    let h = head (sym (item_bytes_lem o) ∙ e) in
    t (⊎_elim (λ (y : _ ≡ 52). inl (h ∙ y)) (λ (y : _ ≡ 255). inr (h ∙ y)) z)
clean o s t d n r (fifth_depth i e) = d (item_same o i).0 e

-- ---- A whole item that is not faulty: the rows from it on are those inside it and those behind it

module _ (names : List (List ℕ)) (p : ℕ) {c : ℕ} {bs x after : List ℕ} (o : Item bs c x after) (fine : (n r : ℕ) → Faulty names bs n r → ⊥) where
  fine_here : {n r : ℕ} {around : List (List ℕ)} {left : List ℕ} → names ≡ around → bs ≡ left → Faulty around left n r → ⊥
  fine_here {n} {r} {around} {left} a b f =
      fine n r (subst (λ (l : List ℕ). Faulty names l n r) (sym b) (subst (λ (l : List (List ℕ)). Faulty l left n r) (sym a) f))

  behind_up : {n q r : ℕ} → 1 ≤ length names → RowFrom names (p + 3 + length x) after n q r → RowFrom names p bs n q r
  behind_up l w = record { around = w.around; left = w.left; from = next l o w.from; is = w.is }

  next_down : {around : List (List ℕ)} {left y more : List ℕ} {q k : ℕ} → Item bs k y more → From around q left names (p + 3 + length y) more → From around q left names (p + 3 + length x) after
  next_down {around} {left} {y} {more} {q} i w =
      let e = item_same i o in
      subst (λ (l : List ℕ). From around q left names (p + 3 + length l) after) e.1 (subst (λ (l : List ℕ). From around q left names (p + 3 + length y) l) e.2 w)

  record_down : (c ≡ 0 → ⊥) → {n q r : ℕ} → RowFrom names p bs n q r → RowFrom names (p + 3 + length x) after n q r
  record_down z {n} {q} {r} w = go w.from
    where
      go : From w.around q w.left names p bs → RowFrom names (p + 3 + length x) after n q r
      go (here a e b) = absurd (fine_here a b w.is)
      go (into name members g v) = absurd (z (item_same o g).0)
      go (next l i v) = record { around = w.around; left = w.left; from = next_down i v; is = w.is }

  pub record_gives : 1 ≤ length names → (c ≡ 0 → ⊥) → (v : Verdict) → Gives names (p + 3 + length x) after v → Gives names p bs v
  record_gives l z passed g = λ n q r w. g n q r (record_down z w)
  record_gives l z (refused_with n q) g = record { rank = g.rank; row = behind_up l g.row; least = λ k j r w. g.least k j r (record_down z w) }

module _ (names : List (List ℕ)) (p : ℕ) {bs after : List ℕ} (name members : List ℕ) (o : Group bs name members after) (fine : (n r : ℕ) → Faulty names bs n r → ⊥) where
  inside_up : {n q r : ℕ} → RowFrom (name ∷ names) (p + 4 + length name) members n q r → RowFrom names p bs n q r
  inside_up w = record { around = w.around; left = w.left; from = into name members o w.from; is = w.is }

  inside_down : {around : List (List ℕ)} {left more : List ℕ} {q : ℕ} (x y : List ℕ) → Group bs x y more → From around q left (x ∷ names) (p + 4 + length x) y
      → From around q left (name ∷ names) (p + 4 + length name) members
  inside_down {around} {left} {more} {q} x y i w =
      let e = group_same x y name members (item_same i o).1 in
      subst (λ (l : List ℕ). From around q left (name ∷ names) (p + 4 + length name) l) e.1 (subst (λ (l : List ℕ). From around q left (l ∷ names) (p + 4 + length l) y) e.0 w)

  group_down : {n q r : ℕ} → RowFrom names p bs n q r → RowFrom (name ∷ names) (p + 4 + length name) members n q r ⊎ RowFrom names (p + 3 + length (group_data name members)) after n q r
  group_down {n} {q} {r} w = go w.from
    where
      go : From w.around q w.left names p bs → RowFrom (name ∷ names) (p + 4 + length name) members n q r ⊎ RowFrom names (p + 3 + length (group_data name members)) after n q r
      go (here a e b) = absurd (fine_here names p o fine a b w.is)
      go (into x y g v) = inl (record { around = w.around; left = w.left; from = inside_down x y g v; is = w.is })
      go (next l i v) = inr (record { around = w.around; left = w.left; from = next_down names p o fine i v; is = w.is })

  -- what is inside comes before what is behind
  inside_first : {n q r k j s : ℕ} → RowFrom (name ∷ names) (p + 4 + length name) members n q r → RowFrom names (p + 3 + length (group_data name members)) after k j s → q < j
  inside_first {n} {q} {r} {k} {j} v w = omega (arith, (from_in v.from).1, faulty_some v.is, (from_in w.from).0, group_length name members)

  pub group_gives : 1 ≤ length names → (v w : Verdict) → Gives (name ∷ names) (p + 4 + length name) members v → Gives names (p + 3 + length (group_data name members)) after w
      → Gives names p bs (and_then v w)
  group_gives l passed passed g h = λ n q r x.
      ⊎_elim (λ (z : RowFrom (name ∷ names) (p + 4 + length name) members n q r). g n q r z)
      (λ (z : RowFrom names (p + 3 + length (group_data name members)) after n q r). h n q r z) (group_down x)
  group_gives l passed (refused_with n q) g h =
      record {
        rank = h.rank;
        row = behind_up names p o fine l h.row;
        least = λ k j r x.
            ⊎_elim (λ (z : RowFrom (name ∷ names) (p + 4 + length name) members k j r). absurd (g k j r z))
            (λ (z : RowFrom names (p + 3 + length (group_data name members)) after k j r). h.least k j r z) (group_down x);
      }
  group_gives l (refused_with n q) w g h =
      record {
        rank = g.rank;
        row = inside_up g.row;
        least = λ k j r x.
            ⊎_elim (λ (z : RowFrom (name ∷ names) (p + 4 + length name) members k j r). g.least k j r z)
            (λ (z : RowFrom names (p + 3 + length (group_data name members)) after k j r). inl (inside_first g.row z)) (group_down x);
      }

-- ---- The order at one item

pub zero_tag : (◌≡◌ {A = ℕ} 0 52) ⊎ (◌≡◌ {A = ℕ} 0 255) → ⊥
zero_tag (inl z) = omega arith
zero_tag (inr z) = omega arith

tag_low : {names : List (List ℕ)} {bs x after : List ℕ} {c : ℕ} → Item bs c x after → (c ≡ 52) ⊎ (c ≡ 255) → (k r : ℕ) → Faulty names bs k r → 1 ≤ r
tag_low o t k r (unfit u) = absurd (unfit_item u o)
tag_low o t k r (too_short i z) = absurd (⊎_elim (λ (y : _ ≡ 52). omega (arith, (item_same o i).0)) (λ (y : _ ≡ 255). omega (arith, (item_same o i).0)) t)
tag_low o t k r (wrong_tag e z) = omega arith
tag_low o t k r (fifth_depth i e) = omega arith

deep_low : {names : List (List ℕ)} {bs after : List ℕ} (name members : List ℕ) → Group bs name members after → (k r : ℕ) → Faulty names bs k r → 2 ≤ r
deep_low name members o k r (unfit u) = absurd (unfit_item u o)
deep_low name members o k r (too_short i z) = absurd (short_group _ name members z (item_same i o).1)
deep_low name members o k r (wrong_tag e z) =
    let h = head (sym (item_bytes_lem o) ∙ e) in
    absurd (⊎_elim (λ (y : _ ≡ 52). omega arith) (λ (y : _ ≡ 255). omega arith) z)
deep_low name members o k r (fifth_depth i e) = omega arith

-- ---- The members of a group

nothing_left : {names : List (List ℕ)} {p : ℕ} → Gives names p [] passed
nothing_left n q r w = let i = from_in w.from in omega (arith, i.0, i.1, faulty_some w.is)

pub gives : {d p : ℕ} {bs : List ℕ} {w : Items} → Reads d p bs w → (names : List (List ℕ)) → 1 ≤ length names → length names + d ≡ 4 → Gives names p bs (fault_of w)
unfolding fault_of
gives {d} {p} r_none names l e = nothing_left
gives {d} {p} {bs} (r_unfit u) names l e = leaf names p bs 20 0 (unfit u) (λ k r f. omega arith)
gives {d} {p} {bs} (r_short o s) names l e = leaf names p bs 20 0 (too_short o s) (λ k r f. omega arith)
gives {d} {p} {bs} (r_tag o t) names l e = leaf names p bs 10 1 (wrong_tag (item_bytes_lem o) t) (tag_low o t)
gives {d} {p} (r_record {rest = rest} o z t r) names l e = record_gives names p o (clean o (λ y. absurd (z y)) t (λ y. absurd (z y))) l z (fault_of rest) (gives r names l e)
gives {d} {p} (r_group {inside = inside} {rest = rest} name members g i r) names l e =
    group_gives names p name members g (clean g (λ y s. short_group _ name members s refl) zero_tag (λ y q. omega arith)) l (fault_of inside) (fault_of rest)
    (gives i (name ∷ names) (omega arith) (omega arith)) (gives r names l e)
gives {d} {p} {bs} (r_deep name members g r) names l e = leaf names p bs 21 2 (fifth_depth g (omega arith)) (deep_low name members g)

-- ---- The file

-- no row of the file at step 2 comes before the place q and the rank there
abbrev LeastAt : List ℕ → ℕ → ℕ → Type 0
LeastAt f q rank = (k j : ℕ) (w : When) → FileRow f k j w → w.part ≡ 2 → (q < w.offset) ⊎ ((q ≡ w.offset) × (rank ≤ w.number))

not_first : {f : List ℕ} {k j : ℕ} {w : When} → length f ≤ 4100 → FileRow f k j w → 2 ≤ w.part
not_first l (row_16 h) = absurd (omega arith)
not_first l (when_no_group e) = omega arith
not_first l (faulty pl x) = omega arith
not_first l (behind o) = omega arith

first_2 : (f : List ℕ) (n q rank : ℕ) → length f ≤ 4100 → FileRow f n q (at 2 q rank) → LeastAt f q rank → FirstOf (FileRow f) n q
first_2 f n q rank l row least = record { when = at 2 q rank; applies = row; none_before = none }
  where
    none : (k j : ℕ) (w : When) → FileRow f k j w → Before w (at 2 q rank) → ⊥
    none k j w x (by_part h) = omega (arith, not_first l x)
    none k j w x (by_offset e h) = ⊎_elim (λ (z : q < w.offset). omega arith) (λ (z : (q ≡ w.offset) × (rank ≤ w.number)). omega (arith, z.0)) (least k j w x e)
    none k j w x (by_number e d h) = ⊎_elim (λ (z : q < w.offset). omega arith) (λ (z : (q ≡ w.offset) × (rank ≤ w.number)). omega (arith, z.1)) (least k j w x e)

at_zero : (f : List ℕ) → LeastAt f 0 0
at_zero f k j w x e = ⊎_elim (λ (z : 0 < w.offset). inl z) (λ (z : 0 ≡ w.offset). inr (z, omega arith)) (split 0 w.offset (omega arith))

module _ {f after : List ℕ} (name members : List ℕ) (g : Group f name members after) where
  fine : (n r : ℕ) → Faulty [] f n r → ⊥
  fine = clean g (λ y s. short_group _ name members s refl) zero_tag (λ y q. omega arith)

  row_down : {k j : ℕ} {w : When} → FileRow f k j w → w.part ≡ 2 → RowFrom (name ∷ []) (4 + length name) members k w.offset w.number
  row_down (row_16 h) e = absurd (omega arith)
  row_down (when_no_group (inl z)) e = absurd (nothing (sym z ∙ item_bytes_lem g))
  row_down (when_no_group (inr z)) e = absurd (z.3 (head (sym z.2 ∙ item_bytes_lem g)))
  row_down (faulty {names = names} {p = p} {n = n} {rank = rank} {bs = bs} pl x) e = go (place_from pl)
    where
      go : From names p bs [] 0 f → RowFrom (name ∷ []) (4 + length name) members n p rank
      go (here a q b) = absurd (fine_here [] 0 g fine a b x)
      go (into y z h v) = record { around = names; left = bs; from = inside_down [] 0 name members g fine y z h v; is = x }
      go (next l i v) = absurd (omega arith)
  row_down (behind o) e = absurd (omega arith)

  row_up : {k q r : ℕ} → RowFrom (name ∷ []) (4 + length name) members k q r → FileRow f k q (at 2 q r)
  row_up w = faulty (from_place (in_group file_start g) w.from) w.is

-- what follows the outermost group
behind_says : (f : List ℕ) (name members after : List ℕ) → length f ≤ 4100 → Group f name members after → Gives (name ∷ []) (4 + length name) members passed
    → CorrectCheck f (fault_of (grouped.behind (3 + length (group_data name members)) after))
unfolding fault_of
behind_says f name members [] l g h = none
  where
    none : NoneOf (FileRow f)
    none n p w (row_16 x) = omega arith
    none n p w (when_no_group x) = let r = row_down name members g (when_no_group x) refl in h _ _ _ r
    none n p w (faulty pl x) = let r = row_down name members g (faulty pl x) refl in h _ _ _ r
    none n p w (behind o) = nothing (item_same g o).2
behind_says f name members (x ∷ xs) l g h = record { when = at 3 (3 + length (group_data name members)) 0; applies = behind g; none_before = none }
  where
    early : (n p : ℕ) (w : When) → FileRow f n p w → w.part < 3 → ⊥
    early n p w (row_16 y) m = omega arith
    early n p w (when_no_group y) m = let r = row_down name members g (when_no_group y) refl in h _ _ _ r
    early n p w (faulty pl y) m = let r = row_down name members g (faulty pl y) refl in h _ _ _ r
    early n p w (behind o) m = omega arith

    last : (n p : ℕ) (w : When) → FileRow f n p w → w.part ≡ 3 → (w.offset ≡ 3 + length (group_data name members)) × (w.number ≡ 0)
    last n p w (row_16 y) m = absurd (omega arith)
    last n p w (when_no_group y) m = absurd (omega arith)
    last n p w (faulty pl y) m = absurd (omega arith)
    last n p w (behind o) m = (ap (λ (d : List ℕ). 3 + length d) (item_same o g).1, refl)

    none : (k q : ℕ) (w : When) → FileRow f k q w → Before w (at 3 (3 + length (group_data name members)) 0) → ⊥
    none k q w y (by_part m) = early k q w y m
    none k q w y (by_offset e m) = omega (arith, (last k q w y e).0)
    none k q w y (by_number e d m) = omega arith

group_says : (f : List ℕ) (name members after : List ℕ) (v : Verdict) → length f ≤ 4100 → Group f name members after → Gives (name ∷ []) (4 + length name) members v
    → CorrectCheck f (and_then v (fault_of (grouped.behind (3 + length (group_data name members)) after)))
group_says f name members after passed l g h = behind_says f name members after l g h
group_says f name members after (refused_with n q) l g h =
    first_2 f n q h.rank l (row_up name members g h.row) (λ k j w x e. h.least k w.offset w.number (row_down name members g x e))

pub file_says : {f : List ℕ} {w : Items} → length f ≤ 4100 → FileReads f w → CorrectCheck f (fault_of w)
unfolding fault_of
file_says {f} l (f_none e) = first_2 f 20 0 0 l (when_no_group e) (at_zero f)
file_says {f} l (f_unfit u) = first_2 f 20 0 0 l (faulty file_start (unfit u)) (at_zero f)
file_says {f} l (f_short o s) = first_2 f 20 0 0 l (faulty file_start (too_short o s)) (at_zero f)
file_says {f} l (f_group {after = after} {inside = inside} name members g r) = group_says f name members after (fault_of inside) l g (gives r (name ∷ []) (omega arith) (omega arith))

over_says : (f : List ℕ) → 4100 < length f → FirstOf (FileRow f) 16 (length f)
over_says f l = record { when = at 1 (length f) 0; applies = row_16 l; none_before = none }
  where
    none : (k q : ℕ) (w : When) → FileRow f k q w → Before w (at 1 (length f) 0) → ⊥
    none k q w (row_16 h) (by_part m) = omega arith
    none k q w (row_16 h) (by_offset e m) = omega arith
    none k q w (row_16 h) (by_number e d m) = omega arith
    none k q w (when_no_group h) (by_part m) = omega arith
    none k q w (when_no_group h) (by_offset e m) = omega arith
    none k q w (when_no_group h) (by_number e d m) = omega arith
    none k q w (faulty pl h) (by_part m) = omega arith
    none k q w (faulty pl h) (by_offset e m) = omega arith
    none k q w (faulty pl h) (by_number e d m) = omega arith
    none k q w (behind o) (by_part m) = omega arith
    none k q w (behind o) (by_offset e m) = omega arith
    none k q w (behind o) (by_number e d m) = omega arith

pub check_says : (f : List ℕ) → AllBytes f → CorrectCheck f (check f)
unfolding check
check_says f a = go (ltb 4100 (length f)) refl
  where
    go : (t : Bool) → ltb 4100 (length f) ≡ t → CorrectCheck f (cond t (refused_with 16 (length f)) (fault_of (file_of f)))
    go true e = over_says f (ltb-true 4100 (length f) e)
    go false e = file_says (ltb-false 4100 (length f) e) (file_reads f a)

-- ---- No other check is right

-- the place in the order gives number and place
abbrev pub rank_number : ℕ → ℕ
rank_number r = cond (eqb r 0) 20 (cond (eqb r 1) 10 21)

abbrev pub number_at : When → ℕ
number_at w = cond (eqb w.part 1) 16 (cond (eqb w.part 2) (rank_number w.number) 20)

faulty_number : {names : List (List ℕ)} {bs : List ℕ} {n r : ℕ} → Faulty names bs n r → n ≡ rank_number r
faulty_number (unfit u) = refl
faulty_number (too_short o s) = refl
faulty_number (wrong_tag e z) = refl
faulty_number (fifth_depth o e) = refl

pub row_number : {f : List ℕ} {n p : ℕ} {w : When} → FileRow f n p w → (n ≡ number_at w) × (p ≡ w.offset)
row_number (row_16 h) = (refl, refl)
row_number (when_no_group h) = (refl, refl)
row_number (faulty pl x) = (faulty_number x, refl)
row_number (behind o) = (refl, refl)

pub first_same : (R : ℕ → ℕ → When → Type 0) → ((n p k q : ℕ) (w : When) → R n p w → R k q w → (n ≡ k) × (p ≡ q)) → (n p k q : ℕ) → FirstOf R n p → FirstOf R k q → (n ≡ k) × (p ≡ q)
first_same R one n p k q a b = go (order a.when b.when)
  where
    go : Before a.when b.when ⊎ ((a.when ≡ b.when) ⊎ Before b.when a.when) → (n ≡ k) × (p ≡ q)
    go (inl x) = absurd (b.none_before n p a.when a.applies x)
    go (inr (inl x)) = one n p k q b.when (subst (R n p) x a.applies) b.applies
    go (inr (inr x)) = absurd (a.none_before k q b.when b.applies x)

pub row_same : {f : List ℕ} (n p k q : ℕ) (w : When) → FileRow f n p w → FileRow f k q w → (n ≡ k) × (p ≡ q)
row_same n p k q w x y = let a = row_number x in let b = row_number y in (a.0 ∙ sym b.0, a.1 ∙ sym b.1)

check_only : (f : List ℕ) (v w : Verdict) → CorrectCheck f v → CorrectCheck f w → v ≡ w
check_only f passed passed a b = refl
check_only f passed (refused_with n p) a b = absurd (a n p b.when b.applies)
check_only f (refused_with n p) passed a b = absurd (b n p a.when a.applies)
check_only f (refused_with n p) (refused_with k q) a b = let e = first_same (FileRow f) row_same n p k q a b in ap₂ refused_with e.0 e.1

pub check_is_correct : CheckIsCorrect
check_is_correct f v a = (λ e. subst (CorrectCheck f) e (check_says f a), λ c. check_only f (check f) v (check_says f a) c)
