-- What is chosen for a class: exactly the records of the groups reached, in written order. Assumes nothing.
use mathlib.Core.Path.{◌≡◌, refl, sym, ap, ap₂, ◌∙◌, subst}
use mathlib.Core.List.{List, [], ◌∷◌, ◌++◌, append_assoc}
use mathlib.Core.Bool.{Bool, true, false, cond}
use mathlib.Core.Logic.{◌⊎◌, inl, inr, ⊎_elim, ◌↔◌}
use Prim.Native.Nat.{ℕ, suc, ◌+◌, ◌/◌, ◌%◌, ◌≤◌, ◌<◌}
use native.Mathlib.Omega.{arith}
use lib.ListN.{length, length-append}
use lib.Dec.{eqb}
use borrow.Author.Tests.{eqb-true, eq-eqb}
use Rattle.options.specs.Message.{Rec}
use Rattle.options.specs.Reading.{same}
use Rattle.options.specs.Answers.{Verdict, passed, refused_with, record_bytes}
use Rattle.options.specs.GroupedFile.{Item, group_data, Group, Place, file_start, in_group, Placed, Reached, Chosen, Among, Rising, ChosenList, items_of}
use Rattle.options.specs.Grouped.{Items, none, fault, rec, grp, and_then, fault_of, reached, chosen}
use Rattle.options.specs.Grouped as grouped
use Rattle.theorems.proofs.View.{clash}
use Rattle.writing_theorems.proofs.SheetSteps.{bytes_more}
use Rattle.grouped_theorems.proofs.View.{item_same, group_same, item_length, group_length, Reads, r_none, r_unfit, r_short, r_tag, r_record, r_group, r_deep, FileReads, f_none, f_unfit, f_short, f_group}
use Rattle.grouped_theorems.proofs.Rows.{From, here, into, next, from_in, from_depth, from_place, place_from}

-- the records chosen, with their places
pub picked : List ℕ → Items → List Placed
picked class none = []
picked class (fault n p) = []
picked class (rec p r rest) = record { place = p; item = r } ∷ picked class rest
picked class (grp p name inside rest) = cond (reached class name) (picked class inside) [] ++ picked class rest

-- ---- They are what the definition gives

items_append : (xs ys : List Placed) → items_of (xs ++ ys) ≡ items_of xs ++ items_of ys
items_append [] ys = refl
items_append (x ∷ xs) ys = ap (λ (l : List Rec). x.item ∷ l) (items_append xs ys)

pub picked_items : (class : List ℕ) (w : Items) → chosen class w ≡ items_of (picked class w)
unfolding picked chosen
picked_items class none = refl
picked_items class (fault n p) = refl
picked_items class (rec p r rest) = ap (λ (l : List Rec). r ∷ l) (picked_items class rest)
picked_items class (grp p name inside rest) =
    ap₂ (λ (x y : List Rec). x ++ y) (go (reached class name) (picked_items class inside)) (picked_items class rest)
    ∙ sym (items_append (cond (reached class name) (picked class inside) []) (picked class rest))
  where
    go : (t : Bool) → chosen class inside ≡ items_of (picked class inside) → cond t (chosen class inside) [] ≡ items_of (cond t (picked class inside) [])
    go true e = e
    go false e = refl

-- ---- Written order

abbrev Under : ℕ → List Placed → Type 0
Under n [] = Unit {0}
Under n (r ∷ rs) = (r.place < n) × Under n rs

rising_from_lem : (a b : ℕ) (rs : List Placed) → a ≤ b → Rising b rs → Rising a rs
rising_from_lem a b [] l r = tt
rising_from_lem a b (x ∷ rs) l r = (omega (arith, r.0), r.1)

rising_append : (a m : ℕ) (xs ys : List Placed) → a ≤ m → Rising a xs → Under m xs → Rising m ys → Rising a (xs ++ ys)
rising_append a m [] ys l r u s = rising_from_lem a m ys l s
rising_append a m (x ∷ xs) ys l r u s = (r.0, rising_append (suc x.place) m xs ys (omega (arith, u.0)) r.1 u.1 s)

under_up : (a b : ℕ) (rs : List Placed) → a ≤ b → Under a rs → Under b rs
under_up a b [] l u = tt
under_up a b (x ∷ rs) l u = (omega (arith, u.0), under_up a b rs l u.1)

under_append : (n : ℕ) (xs ys : List Placed) → Under n xs → Under n ys → Under n (xs ++ ys)
under_append n [] ys u v = v
under_append n (x ∷ xs) ys u v = (u.0, under_append n xs ys u.1 v)

pub rising : {d p : ℕ} {bs : List ℕ} {w : Items} (class : List ℕ) → Reads d p bs w → Rising p (picked class w) × Under (p + length bs) (picked class w)
unfolding picked
rising class r_none = (tt, tt)
rising class (r_unfit u) = (tt, tt)
rising class (r_short o s) = (tt, tt)
rising class (r_tag o t) = (tt, tt)
rising {d} {p} {bs} class (r_record {x = x} {after = after} {rest = rest} o z t r) =
    let i = rising class r in (
      (omega arith, rising_from_lem (suc p) (p + 3 + length x) (picked class rest) (omega arith) i.0),
      (omega (arith, item_length o), under_up (p + 3 + length x + length after) (p + length bs) (picked class rest) (omega (arith, item_length o)) i.1),
    )
rising {d} {p} {bs} class (r_group {after = after} {inside = inside} {rest = rest} name members g i r) =
    go (reached class name) (rising class i) (rising class r)
  where
    n : length (group_data name members) ≡ 1 + length name + length members
    n = group_length name members

    on : ℕ
    on = p + 3 + length (group_data name members)

    go : (t : Bool) → Rising (p + 4 + length name) (picked class inside) × Under (p + 4 + length name + length members) (picked class inside)
        → Rising (p + 3 + length (group_data name members)) (picked class rest) × Under (p + 3 + length (group_data name members) + length after) (picked class rest)
        → Rising p (cond t (picked class inside) [] ++ picked class rest) × Under (p + length bs) (cond t (picked class inside) [] ++ picked class rest)
    go true a b = (
      rising_append p (p + 3 + length (group_data name members)) (picked class inside) (picked class rest) (omega arith)
          (rising_from_lem p (p + 4 + length name) (picked class inside) (omega arith) a.0)
          (under_up (p + 4 + length name + length members) (p + 3 + length (group_data name members)) (picked class inside) (omega (arith, n)) a.1) b.0,
      under_append (p + length bs) (picked class inside) (picked class rest)
          (under_up (p + 4 + length name + length members) (p + length bs) (picked class inside) (omega (arith, n, item_length g)) a.1)
          (under_up (p + 3 + length (group_data name members) + length after) (p + length bs) (picked class rest) (omega (arith, item_length g)) b.1),
    )
    go false a b = (
      rising_from_lem p (p + 3 + length (group_data name members)) (picked class rest) (omega arith) b.0,
      under_up (p + 3 + length (group_data name members) + length after) (p + length bs) (picked class rest) (omega (arith, item_length g)) b.1,
    )
rising {d} {p} {bs} class (r_deep {after = after} {rest = rest} name members g r) = go (reached class name) (rising class r)
  where
    go : (t : Bool) → Rising (p + 3 + length (group_data name members)) (picked class rest) × Under (p + 3 + length (group_data name members) + length after) (picked class rest)
        → Rising p (cond t [] [] ++ picked class rest) × Under (p + length bs) (cond t [] [] ++ picked class rest)
    go true b = (
      rising_from_lem p (p + 3 + length (group_data name members)) (picked class rest) (omega arith) b.0,
      under_up (p + 3 + length (group_data name members) + length after) (p + length bs) (picked class rest) (omega (arith, item_length g)) b.1,
    )
    go false b = (
      rising_from_lem p (p + 3 + length (group_data name members)) (picked class rest) (omega arith) b.0,
      under_up (p + 3 + length (group_data name members) + length after) (p + length bs) (picked class rest) (omega (arith, item_length g)) b.1,
    )

-- ---- No more than the bytes that are there

-- the bytes of records, one list after the other
pub bytes_append : (xs ys : List Rec) → record_bytes (xs ++ ys) ≡ record_bytes xs ++ record_bytes ys
unfolding record_bytes
bytes_append [] ys = refl
bytes_append (x ∷ xs) ys =
    let h : List ℕ = x.tag ∷ length x.body / 256 ∷ length x.body % 256 ∷ x.body in
    ap (λ (l : List ℕ). h ++ l) (bytes_append xs ys) ∙ sym (append_assoc h (record_bytes xs) (record_bytes ys))

abbrev size : List ℕ → Items → ℕ
size class w = length (record_bytes (chosen class w))

sizes : (xs ys : List Rec) → length (record_bytes (xs ++ ys)) ≡ length (record_bytes xs) + length (record_bytes ys)
sizes xs ys = ap length (bytes_append xs ys) ∙ length-append (record_bytes xs) (record_bytes ys)

pub chosen_short : {d p : ℕ} {bs : List ℕ} {w : Items} (class : List ℕ) → Reads d p bs w → size class w ≤ length bs
unfolding chosen record_bytes
chosen_short class r_none = omega arith
chosen_short class (r_unfit u) = omega arith
chosen_short class (r_short o s) = omega arith
chosen_short class (r_tag o t) = omega arith
chosen_short class (r_record {c = c} {x = x} {rest = rest} o z t r) =
    omega (arith, item_length o, chosen_short class r, bytes_more (record { tag = c; body = x }) (chosen class rest))
chosen_short {d} {p} {bs} class (r_group {after = after} {inside = inside} {rest = rest} name members g i r) = go (reached class name) (chosen_short class i) (chosen_short class r)
  where
    go : (t : Bool) → size class inside ≤ length members → size class rest ≤ length after → length (record_bytes (cond t (chosen class inside) [] ++ chosen class rest)) ≤ length bs
    go true a b = omega (arith, item_length g, group_length name members, sizes (chosen class inside) (chosen class rest))
    go false a b = omega (arith, item_length g, group_length name members)
chosen_short {d} {p} {bs} class (r_deep {after = after} {rest = rest} name members g r) = go (reached class name) (chosen_short class r)
  where
    go : (t : Bool) → size class rest ≤ length after → length (record_bytes (cond t [] [] ++ chosen class rest)) ≤ length bs
    go true b = omega (arith, item_length g)
    go false b = omega (arith, item_length g)

-- ---- A group is reached

pub same_true : (xs ys : List ℕ) → same xs ys ≡ true → xs ≡ ys
same_true [] [] e = refl
same_true [] (y ∷ ys) e = clash (cc)
same_true (x ∷ xs) [] e = clash (cc)
same_true (x ∷ xs) (y ∷ ys) e = go (eqb x y) refl e (same_true xs ys)
  where
    go : (t : Bool) → eqb x y ≡ t → cond t (same xs ys) false ≡ true → (same xs ys ≡ true → xs ≡ ys) → x ∷ xs ≡ y ∷ ys
    go true q z ih = ap₂ (λ (a : ℕ) (l : List ℕ). a ∷ l) (eqb-true x y q) (ih z)
    go false q z ih = clash (cc)

pub same_self : (xs : List ℕ) → same xs xs ≡ true
same_self [] = refl
same_self (x ∷ xs) = rw (eq-eqb x x refl) (same_self xs)

pub reached_so : (class name : List ℕ) → reached class name ≡ true → (name ≡ []) ⊎ (name ≡ class)
reached_so class [] e = inl refl
reached_so class (x ∷ xs) e = inr (same_true (x ∷ xs) class e)

pub so_reached : (class name : List ℕ) → (name ≡ []) ⊎ (name ≡ class) → reached class name ≡ true
so_reached class name (inl e) = rw e
so_reached class [] (inr e) = refl
so_reached class (x ∷ xs) (inr e) = ap (λ (l : List ℕ). same (x ∷ xs) l) (sym e) ∙ same_self (x ∷ xs)

pub from_reached : {around : List (List ℕ)} {q : ℕ} {left : List ℕ} {names : List (List ℕ)} {p : ℕ} {bs : List ℕ} (class : List ℕ) → From around q left names p bs → Reached class around → Reached class names
from_reached class (here a e b) r = subst (Reached class) (sym a) r
from_reached class (into name members g w) r = (from_reached class w r).1
from_reached class (next l o w) r = from_reached class w r

-- ---- Which records are chosen, from a place on

pub record ChosenFrom (names : List (List ℕ)) (p : ℕ) (bs class : List ℕ) (r : Placed) : Type 0 where
  pub around : List (List ℕ)
  pub left : List ℕ
  pub after : List ℕ
  pub from : From around r.place left names p bs
  pub whole : Item left r.item.tag r.item.body after
  pub is_record : r.item.tag ≡ 0 → ⊥
  pub reached : Reached class around

among_left : (r : Placed) (xs ys : List Placed) → Among r xs → Among r (xs ++ ys)
among_left r [] ys h = absurd h
among_left r (x ∷ xs) ys (inl e) = inl e
among_left r (x ∷ xs) ys (inr h) = inr (among_left r xs ys h)

among_right : (r : Placed) (xs ys : List Placed) → Among r ys → Among r (xs ++ ys)
among_right r [] ys h = h
among_right r (x ∷ xs) ys h = inr (among_right r xs ys h)

among_split : (r : Placed) (xs ys : List Placed) → Among r (xs ++ ys) → Among r xs ⊎ Among r ys
among_split r [] ys h = inr h
among_split r (x ∷ xs) ys (inl e) = inl (inl e)
among_split r (x ∷ xs) ys (inr h) = ⊎_elim (λ (z : Among r xs). inl (inr z)) (λ (z : Among r ys). inr z) (among_split r xs ys h)

-- where both have passed
pub both_passed : (v w : Verdict) → and_then v w ≡ passed → (v ≡ passed) × (w ≡ passed)
both_passed passed w e = (refl, e)
both_passed (refused_with n p) w e = clash (cc)

module _ (class : List ℕ) (names : List (List ℕ)) (p : ℕ) {bs x after : List ℕ} {c : ℕ} (o : Item bs c x after) where
  next_up : {r : Placed} → 1 ≤ length names → ChosenFrom names (p + 3 + length x) after class r → ChosenFrom names p bs class r
  next_up l w = record { around = w.around; left = w.left; after = w.after; from = next l o w.from; whole = w.whole; is_record = w.is_record; reached = w.reached }

  next_down : {around : List (List ℕ)} {left y more : List ℕ} {q k : ℕ} → Item bs k y more → From around q left names (p + 3 + length y) more → From around q left names (p + 3 + length x) after
  next_down {around} {left} {y} {more} {q} i w =
      let e = item_same i o in
      subst (λ (l : List ℕ). From around q left names (p + 3 + length l) after) e.1 (subst (λ (l : List ℕ). From around q left names (p + 3 + length y) l) e.2 w)

  placed_same : (r : Placed) {left more : List ℕ} → p ≡ r.place → bs ≡ left → Item left r.item.tag r.item.body more → r ≡ record { place = p; item = record { tag = c; body = x } }
  placed_same r {left} {more} e b i =
      let s = item_same (subst (λ (l : List ℕ). Item l r.item.tag r.item.body more) (sym b) i) o in
      ap₂ (λ (q : ℕ) (y : Rec). record { place = q; item = y }) (sym e) (ap₂ (λ (t : ℕ) (d : List ℕ). record { tag = t; body = d }) s.0 s.1)

  record_lists : (rest : Items) → 1 ≤ length names → Reached class names → (c ≡ 0 → ⊥) → ((r : Placed) → Among r (picked class rest) ↔ ChosenFrom names (p + 3 + length x) after class r)
      → (r : Placed) → Among r (record { place = p; item = record { tag = c; body = x } } ∷ picked class rest) ↔ ChosenFrom names p bs class r
  record_lists rest l h z ih r = (to, of)
    where
      to : (r ≡ record { place = p; item = record { tag = c; body = x } }) ⊎ Among r (picked class rest) → ChosenFrom names p bs class r
      to (inl e) =
          subst (ChosenFrom names p bs class) (sym e)
          (record { around = names; left = bs; after = after; from = here refl refl refl; whole = o; is_record = z; reached = h })
      to (inr m) = next_up l ((ih r).0 m)

      of : ChosenFrom names p bs class r → (r ≡ record { place = p; item = record { tag = c; body = x } }) ⊎ Among r (picked class rest)
      of w = go w.from
        where
          go : From w.around r.place w.left names p bs → (r ≡ record { place = p; item = record { tag = c; body = x } }) ⊎ Among r (picked class rest)
          go (here a e b) = inl (placed_same r e b w.whole)
          go (into name members g v) = absurd (z (item_same o g).0)
          go (next m i v) =
              inr ((ih r).1 (record { around = w.around; left = w.left; after = w.after; from = next_down i v; whole = w.whole; is_record = w.is_record; reached = w.reached }))

-- a group: what is reached inside it, and what is behind it
module _ (class : List ℕ) (names : List (List ℕ)) (p : ℕ) {bs after : List ℕ} (name members : List ℕ) (g : Group bs name members after) where
  inside_up : {r : Placed} → ChosenFrom (name ∷ names) (p + 4 + length name) members class r → ChosenFrom names p bs class r
  inside_up w = record { around = w.around; left = w.left; after = w.after; from = into name members g w.from; whole = w.whole; is_record = w.is_record; reached = w.reached }

  inside_down : {around : List (List ℕ)} {left more : List ℕ} {q : ℕ} (x y : List ℕ) → Group bs x y more → From around q left (x ∷ names) (p + 4 + length x) y
      → From around q left (name ∷ names) (p + 4 + length name) members
  inside_down {around} {left} {more} {q} x y i w =
      let e = group_same x y name members (item_same i g).1 in
      subst (λ (l : List ℕ). From around q left (name ∷ names) (p + 4 + length name) l) e.1 (subst (λ (l : List ℕ). From around q left (l ∷ names) (p + 4 + length l) y) e.0 w)

  -- not at the group's own tag
  group_cases : {r : Placed} → ChosenFrom names p bs class r
      → ChosenFrom (name ∷ names) (p + 4 + length name) members class r ⊎ ((1 ≤ length names) × ChosenFrom names (p + 3 + length (group_data name members)) after class r)
  group_cases {r} w = go w.from
    where
      go : From w.around r.place w.left names p bs
          → ChosenFrom (name ∷ names) (p + 4 + length name) members class r ⊎ ((1 ≤ length names) × ChosenFrom names (p + 3 + length (group_data name members)) after class r)
      go (here a e b) = absurd (w.is_record (item_same (subst (λ (l : List ℕ). Item l r.item.tag r.item.body w.after) (sym b) w.whole) g).0)
      go (into x y i v) =
          inl (record { around = w.around; left = w.left; after = w.after; from = inside_down x y i v; whole = w.whole; is_record = w.is_record; reached = w.reached })
      go (next m i v) =
          inr (m, record { around = w.around; left = w.left; after = w.after; from = next_down class names p g i v; whole = w.whole; is_record = w.is_record; reached = w.reached })

  inside_lists : (inside : Items) → Reached class names → (Reached class (name ∷ names) → (r : Placed) → Among r (picked class inside) ↔ ChosenFrom (name ∷ names) (p + 4 + length name) members class r)
      → (r : Placed) → Among r (cond (reached class name) (picked class inside) []) ↔ ChosenFrom (name ∷ names) (p + 4 + length name) members class r
  inside_lists inside h ih r = go (reached class name) refl
    where
      go : (t : Bool) → reached class name ≡ t → Among r (cond t (picked class inside) []) ↔ ChosenFrom (name ∷ names) (p + 4 + length name) members class r
      go true e = ih (reached_so class name e, h) r
      go false e = (
        λ m. absurd m,
        λ w. absurd (let q : reached class name ≡ true = so_reached class name (from_reached class w.from w.reached).0 in clash (cc)),
      )

  group_lists : (inside rest : Items) → 1 ≤ length names → Reached class names
      → (Reached class (name ∷ names) → (r : Placed) → Among r (picked class inside) ↔ ChosenFrom (name ∷ names) (p + 4 + length name) members class r)
      → ((r : Placed) → Among r (picked class rest) ↔ ChosenFrom names (p + 3 + length (group_data name members)) after class r)
      → (r : Placed) → Among r (cond (reached class name) (picked class inside) [] ++ picked class rest) ↔ ChosenFrom names p bs class r
  group_lists inside rest l h ih jh r = (to, of)
    where
      front : List Placed
      front = cond (reached class name) (picked class inside) []

      to : Among r (cond (reached class name) (picked class inside) [] ++ picked class rest) → ChosenFrom names p bs class r
      to m =
          ⊎_elim (λ (z : Among r (cond (reached class name) (picked class inside) [])). inside_up ((inside_lists inside h ih r).0 z))
          (λ (z : Among r (picked class rest)). next_up class names p g l ((jh r).0 z)) (among_split r (cond (reached class name) (picked class inside) []) (picked class rest) m)

      of : ChosenFrom names p bs class r → Among r (cond (reached class name) (picked class inside) [] ++ picked class rest)
      of w =
          ⊎_elim (λ (z : ChosenFrom (name ∷ names) (p + 4 + length name) members class r). among_left r (cond (reached class name) (picked class inside) []) (picked class rest) ((inside_lists inside h ih r).1 z))
          (λ (z : (1 ≤ length names) × ChosenFrom names (p + 3 + length (group_data name members)) after class r). among_right r (cond (reached class name) (picked class inside) []) (picked class rest) ((jh r).1 z.1))
          (group_cases w)

pub lists : {d p : ℕ} {bs : List ℕ} {w : Items} (class : List ℕ) → Reads d p bs w → fault_of w ≡ passed → (names : List (List ℕ)) → 1 ≤ length names → Reached class names
    → (r : Placed) → Among r (picked class w) ↔ ChosenFrom names p bs class r
unfolding picked fault_of
lists class r_none e names l h r = (λ m. absurd m, λ w. let i = from_in w.from in absurd (omega (arith, i.0, i.1, item_length w.whole)))
lists class (r_unfit u) e names l h r = clash (cc)
lists class (r_short o s) e names l h r = clash (cc)
lists class (r_tag o t) e names l h r = clash (cc)
lists {d} {p} class (r_record {rest = rest} o z t v) e names l h r = record_lists class names p o rest l h z (λ q. lists class v e names l h q) r
lists {d} {p} class (r_group {inside = inside} {rest = rest} name members g i v) e names l h r =
    let b = both_passed (fault_of inside) (fault_of rest) e in
    group_lists class names p name members g inside rest l h (λ k q. lists class i b.0 (name ∷ names) (omega arith) k q) (λ q. lists class v b.1 names l h q) r
lists class (r_deep name members g v) e names l h r = clash (cc)

-- ---- The file

pub record Outermost (f : List ℕ) (w : Items) : Type 0 where
  pub name : List ℕ
  pub members : List ℕ
  pub inside : Items
  pub is : w ≡ grp 0 name inside none
  pub group : Group f name members []
  pub reads : Reads 3 (4 + length name) members inside
  pub passes : fault_of inside ≡ passed

-- an accepted file is one group and nothing behind it
pub outermost : {f : List ℕ} {w : Items} → FileReads f w → fault_of w ≡ passed → Outermost f w
unfolding fault_of
outermost (f_none z) e = clash (cc)
outermost (f_unfit u) e = clash (cc)
outermost (f_short o s) e = clash (cc)
outermost {f} (f_group {after = after} {inside = inside} name members g v) e = go after g e
  where
    go : (after : List ℕ) → Group f name members after → and_then (fault_of inside) (fault_of (grouped.behind (3 + length (group_data name members)) after)) ≡ passed
        → Outermost f (grp 0 name inside (grouped.behind (3 + length (group_data name members)) after))
    go [] g e = record { name = name; members = members; inside = inside; is = refl; group = g; reads = v; passes = (both_passed (fault_of inside) _ e).0 }
    go (x ∷ xs) g e = let b = (both_passed (fault_of inside) _ e).1 in clash (cc)

chosen_of : {f class name members after : List ℕ} {r : Placed} → Group f name members after → ChosenFrom (name ∷ []) (0 + 4 + length name) members class r → Chosen f class r
chosen_of {f} {class} {name} {members} {after} {r} g w = go w.around (from_depth w.from) (from_place (in_group file_start g) w.from) w.reached
  where
    go : (around : List (List ℕ)) → 1 ≤ length around → Place f around r.place w.left → Reached class around → Chosen f class r
    go [] l pl h = absurd (omega arith)
    go (name ∷ names) l pl h = record { name = name; names = names; bytes = w.left; after = w.after; stands = pl; whole = w.whole; is_record = w.is_record; reached = h }

of_chosen : {f class : List ℕ} {r : Placed} → Chosen f class r → ChosenFrom [] 0 f class r
of_chosen w = record { around = w.name ∷ w.names; left = w.bytes; after = w.after; from = place_from w.stands; whole = w.whole; is_record = w.is_record; reached = w.reached }

module _ {f : List ℕ} {w : Items} (class : List ℕ) (o : Outermost f w) where
  out_lists : (r : Placed) → Among r (picked class (grp 0 o.name o.inside none)) ↔ Chosen f class r
  unfolding picked
  out_lists r = (to, of)
    where
      front : List Placed
      front = cond (reached class o.name) (picked class o.inside) []

      ih : (q : Placed) → Among q (cond (reached class o.name) (picked class o.inside) []) ↔ ChosenFrom (o.name ∷ []) (0 + 4 + length o.name) o.members class q
      ih = inside_lists class [] 0 o.name o.members o.group o.inside tt (λ k. lists class o.reads o.passes (o.name ∷ []) (omega arith) k)

      to : Among r (cond (reached class o.name) (picked class o.inside) [] ++ []) → Chosen f class r
      to m =
          ⊎_elim (λ (z : Among r (cond (reached class o.name) (picked class o.inside) [])). chosen_of o.group ((ih r).0 z))
          (λ (z : ⊥). absurd z) (among_split r (cond (reached class o.name) (picked class o.inside) []) [] m)

      of : Chosen f class r → Among r (cond (reached class o.name) (picked class o.inside) [] ++ [])
      of h =
          ⊎_elim (λ (z : ChosenFrom (o.name ∷ []) (0 + 4 + length o.name) o.members class r). among_left r (cond (reached class o.name) (picked class o.inside) []) [] ((ih r).1 z))
          (λ (z : (1 ≤ length {A = List ℕ} []) × ChosenFrom [] (0 + 3 + length (group_data o.name o.members)) [] class r). absurd (omega (arith, z.0)))
          (group_cases class [] 0 o.name o.members o.group (of_chosen h))

  out_rising : Rising 0 (picked class (grp 0 o.name o.inside none))
  unfolding picked
  out_rising = go (reached class o.name) (rising class o.reads)
    where
      go : (t : Bool) → Rising (4 + length o.name) (picked class o.inside) × Under (4 + length o.name + length o.members) (picked class o.inside)
          → Rising 0 (cond t (picked class o.inside) [] ++ [])
      go true a = rising_append 0 (4 + length o.name + length o.members) (picked class o.inside) [] (omega arith) (rising_from_lem 0 (4 + length o.name) (picked class o.inside) (omega arith) a.0) a.1 tt
      go false a = tt

  pub out_chosen : ChosenList f class (picked class w)
  out_chosen = subst (λ (x : Items). ChosenList f class (picked class x)) (sym o.is) (record { lists = out_lists; in_order = out_rising })

  out_short : size class (grp 0 o.name o.inside none) ≤ length o.members
  unfolding chosen record_bytes
  out_short = go (reached class o.name) (chosen_short class o.reads)
    where
      go : (t : Bool) → size class o.inside ≤ length o.members → length (record_bytes (cond t (chosen class o.inside) [] ++ [])) ≤ length o.members
      go true a = omega (arith, sizes (chosen class o.inside) [])
      go false a = omega arith

  pub chosen_fits : 4 + size class w ≤ length f
  chosen_fits =
      let e : size class w ≡ size class (grp 0 o.name o.inside none) = ap (size class) o.is in
      omega (arith, out_short, item_length o.group, group_length o.name o.members)

-- ---- There is one list of what is chosen

among_from : (a : ℕ) (r : Placed) (rs : List Placed) → Rising a rs → Among r rs → a ≤ r.place
among_from a r [] h m = absurd m
among_from a r (x ∷ rs) h (inl e) = let z : r.place ≡ x.place = ap (λ (y : Placed). y.place) e in omega (arith, h.0)
among_from a r (x ∷ rs) h (inr m) = omega (arith, h.0, among_from (suc x.place) r rs h.1 m)

pub same_picked : (a : ℕ) (xs ys : List Placed) → Rising a xs → Rising a ys → ((r : Placed) → Among r xs → Among r ys) → ((r : Placed) → Among r ys → Among r xs) → xs ≡ ys
same_picked a [] [] g h i j = refl
same_picked a [] (y ∷ ys) g h i j = absurd (j y (inl refl))
same_picked a (x ∷ xs) [] g h i j = absurd (i x (inl refl))
same_picked a (x ∷ xs) (y ∷ ys) g h i j =
    ap₂ (λ (r : Placed) (l : List Placed). r ∷ l) one
    (same_picked (suc x.place) xs ys g.1 (subst (λ (k : ℕ). Rising (suc k) ys) (sym at) h.1)
    (λ r m. ⊎_elim (λ (z : r ≡ y). absurd (later r xs g.1 m (z ∙ sym one))) (λ (z : Among r ys). z) (i r (inr m)))
    (λ r m. ⊎_elim (λ (z : r ≡ x). absurd (later r ys (subst (λ (k : ℕ). Rising (suc k) ys) (sym at) h.1) m z)) (λ (z : Among r xs). z) (j r (inr m))))
  where
    one : x ≡ y
    one =
        ⊎_elim (λ (z : x ≡ y). z)
        (λ (z : Among x ys). ⊎_elim (λ (v : y ≡ x). sym v)
        (λ (v : Among y xs). absurd (omega (arith, among_from (suc y.place) x ys h.1 z, among_from (suc x.place) y xs g.1 v))) (j y (inl refl)))
        (i x (inl refl))

    at : x.place ≡ y.place
    at = ap (λ (r : Placed). r.place) one

    later : (r : Placed) (rs : List Placed) → Rising (suc x.place) rs → Among r rs → r ≡ x → ⊥
    later r rs k m e = let z : r.place ≡ x.place = ap (λ (y : Placed). y.place) e in omega (arith, among_from (suc x.place) r rs k m)

pub one_list : (f class : List ℕ) (xs ys : List Placed) → ChosenList f class xs → ChosenList f class ys → xs ≡ ys
one_list f class xs ys a b =
    same_picked 0 xs ys a.in_order b.in_order (λ r m. (b.lists r).1 ((a.lists r).0 m)) (λ r m. (a.lists r).1 ((b.lists r).0 m))
