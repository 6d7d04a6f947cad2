-- An old sheet moves and comes back, and is what every class has chosen; a file that goes back, moved again, is the same file. Assumes nothing.
use mathlib.Core.Path.{◌≡◌, refl, sym, ap, ap₂, ◌∙◌, subst}
use mathlib.Core.List.{List, [], ◌∷◌, ◌++◌, append-nil}
use mathlib.Core.Bool.{true}
use mathlib.Core.Logic.{◌⊎◌, inl, inr, ⊎_elim}
use Prim.Native.Nat.{ℕ, suc, ◌+◌, ◌*◌, ◌/◌, ◌%◌, ◌≤◌, ◌<◌}
use native.Mathlib.Omega.{arith}
use native.Mathlib.Decide.{dec_lt}
use lib.ListN.{length, take, drop}
use lib.Seq.{drop-drop, drop_at, take_at}
use Rattle.options.specs.Refusals.{When}
use Rattle.options.specs.KindClaims.{AllBytes}
use Rattle.options.specs.Answers.{passed, given, record_bytes}
use Rattle.options.specs.Sheet.{RecordAt, RecordBegins, first, after_record}
use Rattle.options.specs.SheetRefusals.{row_12, row_10, row_13, row_7, row_8_9}
use Rattle.options.specs.GroupedFile.{Item, group_data, Group, Place, file_start, in_group, after_item, Unfit, Faulty, unfit, too_short, wrong_tag, fifth_depth, FileRow, row_16, when_no_group, faulty, behind, NoneOf, Plain}
use Rattle.options.specs.Grouped.{Items, file_of, fault_of, chosen, choice, move, no_group, go_back}
use Rattle.options.specs.GroupedClaims.{CorrectFill, ChosenSheet, ChoiceRow, MoveRow, when_of_writer, MovedComesBack, MovedIsChosen, BackMovesAgain, BackRow}
use Rattle.options.specs.GroupedClaims as claims
use Rattle.theorems.proofs.View.{clash}
use Rattle.theorems.proofs.CodesPresent.{all_drop}
use Rattle.writing_theorems.proofs.SheetView.{head, nothing}
use Rattle.grouped_theorems.proofs.View.{item_bytes_lem, item_same, group_same, item_length, group_length, unfit_item, item_of_lem, Reads, r_none, r_unfit, r_short, r_tag, r_record, r_group, r_deep}
use Rattle.grouped_theorems.proofs.Rows.{From, here, into, next, place_from}
use Rattle.grouped_theorems.proofs.Choosing.{Outermost, so_reached}
use Rattle.grouped_theorems.proofs.Calls.{accepted_file, no_row_passed, one_sheet, chosen_sheet, choice_is_correct, of_plain, back_is_correct}
use Rattle.grouped_theorems.proofs.Moving.{one_group, move_is_correct}

-- ---- A record of a sheet as an item of its bytes, and back

pub item_at : {s : List ℕ} {i c : ℕ} {d : List ℕ} (r : RecordAt s i c d) → Item (drop i s) c d r.after
item_at r =
    record {
      whole = record { high = r.high; low = r.low; after = r.after; reads = r.reads; high_byte = r.high_byte; low_byte = r.low_byte; size = r.size };
      behind = refl;
    }

record_at : {s : List ℕ} {i c : ℕ} {bs d after : List ℕ} → drop i s ≡ bs → Item bs c d after → RecordAt s i c d
record_at e o =
    let w = o.whole in
    record { high = w.high; low = w.low; after = w.after; reads = e ∙ w.reads; high_byte = w.high_byte; low_byte = w.low_byte; size = w.size }

behind_record : (s : List ℕ) (i : ℕ) {c : ℕ} {bs d after : List ℕ} → drop i s ≡ bs → Item bs c d after → drop (i + 3 + length d) s ≡ after
behind_record s i {c} {bs} {d} {after} e o =
    let q : i + 3 + length d ≡ i + suc (suc (suc (length d))) = omega arith in
    ap (λ (k : ℕ). drop k s) q ∙ sym (drop-drop (suc (suc (suc (length d)))) i s) ∙ ap (drop (suc (suc (suc (length d))))) (e ∙ item_bytes_lem o) ∙ drop_at d after (length d) refl

-- ---- Within a nameless group that holds a sheet without a fault

-- where an item may begin in the group, a record of the sheet begins
record Begun (s : List ℕ) (left : List ℕ) : Type 0 where
  place : ℕ
  begins : RecordBegins s place
  reads : drop place s ≡ left

module _ (s old : List ℕ) (clean : NoneOf (MoveRow s old)) where
  no_zero : {i : ℕ} {bs d after : List ℕ} → RecordBegins s i → drop i s ≡ bs → Item bs 0 d after → ⊥
  no_zero b e o = clean _ _ _ (when_of_writer (row_10 b (e ∙ item_bytes_lem o) (inl refl)) (omega arith))

  begun : {around : List (List ℕ)} {q : ℕ} {left : List ℕ} {names : List (List ℕ)} {p i : ℕ} {bs : List ℕ} → From around q left names p bs → RecordBegins s i → drop i s ≡ bs → Begun s left × (around ≡ names)
  begun {i = i} (here a e b) r d = (record { place = i; begins = r; reads = d ∙ b }, sym a)
  begun (into name members g w) r d = absurd (no_zero r d g)
  begun {i = i} (next l o w) r d = begun w (after_record r (record_at d o)) (behind_record s i d o)

  fine : {names : List (List ℕ)} {left : List ℕ} {n rank : ℕ} → length names ≡ 1 → Begun s left → Faulty names left n rank → ⊥
  fine l b (unfit u) = clean _ _ _ (when_of_writer (row_12 b.begins (record { tag = u.tag; after = u.after; reads = b.reads ∙ u.reads; beyond = u.beyond })) (omega arith))
  fine l b (too_short o z) = no_zero b.begins b.reads o
  fine l b (wrong_tag e z) = clean _ _ _ (when_of_writer (row_10 b.begins (b.reads ∙ e) (inr z)) (omega arith))
  fine l b (fifth_depth o e) = omega arith

  module _ (f : List ℕ) (g : Group f [] s []) where
    inner : {around : List (List ℕ)} {q : ℕ} {left : List ℕ} → From around q left [] 0 f → ((around ≡ []) × (f ≡ left)) ⊎ (Begun s left × (length around ≡ 1))
    inner (here a e b) = inl (sym a, b)
    inner {around} {q} {left} (into x y h w) =
        let e = group_same x y [] s (item_same h g).1 in
        let r = begun w first (sym e.1) in
        inr (r.0, ap length r.1)
    inner (next l o w) = absurd (omega arith)

    short : length f ≤ 4100
    short = elim (dec_lt 4096 (length s)) [
      | yes h ↦ absurd (clean _ _ _ (claims.MoveRow.row_16 h))
      | no h ↦ omega (arith, item_length g, group_length [] s)
    ]

    outer : {names : List (List ℕ)} {k r : ℕ} → Faulty names f k r → names ≡ [] → ⊥
    outer (unfit u) e = unfit_item u g
    outer (too_short o (inl z)) e = nothing (sym z ∙ (item_same o g).1)
    outer (too_short o (inr z)) e =
        let q : z.0 ∷ z.1 ≡ group_data [] s = sym z.2 ∙ (item_same o g).1 in
        omega (arith, z.3, head q)
    outer (wrong_tag q (inl z)) e = omega (arith, z, head (sym q ∙ item_bytes_lem g))
    outer (wrong_tag q (inr z)) e = omega (arith, z, head (sym q ∙ item_bytes_lem g))
    outer (fifth_depth o q) e = omega (arith, q, ap length e)

    no_file_row : NoneOf (FileRow f)
    no_file_row n p w (row_16 h) = omega (arith, short)
    no_file_row n p w (when_no_group (inl z)) = nothing (sym z ∙ item_bytes_lem g)
    no_file_row n p w (when_no_group (inr z)) = z.3 (head (sym z.2 ∙ item_bytes_lem g))
    no_file_row n p w (behind o) = nothing (item_same g o).2
    no_file_row n p w (faulty {names = names} {n = k} {rank = r} {bs = bs} pl x) =
        ⊎_elim (λ (z : (names ≡ []) × (f ≡ bs)). outer (subst (λ (l : List ℕ). Faulty names l k r) (sym z.1) x) z.0)
        (λ (z : Begun s bs × (length names ≡ 1)). fine z.1 z.0 x) (inner (place_from pl))

    is_plain : Plain f s
    is_plain = record { nameless = g; no_group_inside = no_group_inside }
      where
        no_group_inside : (name : List ℕ) (names : List (List ℕ)) (p : ℕ) (bs d after : List ℕ) → Place f (name ∷ names) p bs → Item bs 0 d after → ⊥
        no_group_inside name names p bs d after pl o =
            ⊎_elim (λ (z : (name ∷ names ≡ []) × (f ≡ bs)). omega (arith, ap length z.0))
            (λ (z : Begun s bs × (length (name ∷ names) ≡ 1)). no_zero z.0.begins z.0.reads o) (inner (place_from pl))

group_bytes : (s f : List ℕ) → AllBytes s → Group f [] s [] → AllBytes f
group_bytes s f a g = subst AllBytes (sym (item_bytes_lem g ∙ ap (λ (l : List ℕ). 0 ∷ g.whole.high ∷ g.whole.low ∷ 0 ∷ l) (append-nil s))) (omega arith, (g.whole.high_byte, (g.whole.low_byte, (omega arith, a))))

front : (xs ys : List ℕ) (n : ℕ) → n ≡ length xs → take n (xs ++ ys) ≡ xs
front xs ys n e = take_at xs ys n (sym e)

pub moved_comes_back : MovedComesBack
moved_comes_back s old old' after n a e l = subst (λ (x : List ℕ). go_back x old' ≡ record { answer = given (length s); buffer = s ++ drop (length s) old' }) (sym is) back
  where
    c : CorrectFill (MoveRow s old) (λ f. Group f [] s []) old (record { answer = given n; buffer = after })
    c = (move_is_correct s old (record { answer = given n; buffer = after }) a).0 e

    f : List ℕ
    f = c.1.0

    g : Group c.1.0 [] s []
    g = c.1.1

    is : take n after ≡ c.1.0
    is = ap (take n) c.1.3 ∙ front c.1.0 (drop (length c.1.0) old) n c.1.2

    none_of : NoneOf (BackRow c.1.0 old')
    none_of k q w (claims.BackRow.of_file x) = no_file_row s old c.0 c.1.0 c.1.1 k q w x
    none_of k q w (claims.BackRow.row_22 h) = h s (is_plain s old c.0 c.1.0 c.1.1)
    none_of k q w (claims.BackRow.row_11 {s = y} p m) = let z : s ≡ y = (group_same [] s [] y (item_same c.1.1 p.nameless).1).1 in omega (arith, m, ap length z)

    back : go_back c.1.0 old' ≡ record { answer = given (length s); buffer = s ++ drop (length s) old' }
    back = (back_is_correct c.1.0 old' (record { answer = given (length s); buffer = s ++ drop (length s) old' }) (group_bytes s c.1.0 a c.1.1)).1 (none_of, (s, is_plain s old c.0 c.1.0 c.1.1, refl, refl))

-- ---- Moved, and chosen from

-- items without a group among them: for every class their records are all the bytes
whole_chosen : {d p : ℕ} {bs : List ℕ} {w : Items} (class : List ℕ) → Reads d p bs w → fault_of w ≡ passed → no_group w ≡ true → record_bytes (chosen class w) ≡ bs
unfolding fault_of chosen record_bytes
whole_chosen class r_none e h = refl
whole_chosen class (r_unfit u) e h = clash (cc)
whole_chosen class (r_short o s) e h = clash (cc)
whole_chosen class (r_tag o t) e h = clash (cc)
whole_chosen class (r_record {c = c} {x = x} {rest = rest} o z t r) e h =
    let w = o.whole in
    let high : length x / 256 ≡ w.high = omega (arith, w.size, w.low_byte) in
    let low : length x % 256 ≡ w.low = omega (arith, w.size, w.low_byte) in
    ap₂ (λ (i j : ℕ). c ∷ i ∷ j ∷ (x ++ record_bytes (chosen class rest))) high low
    ∙ ap (λ (l : List ℕ). c ∷ w.high ∷ w.low ∷ (x ++ l)) (whole_chosen class r e h) ∙ sym (item_bytes_lem o)
whole_chosen class (r_group name members g i r) e h = clash (cc)
whole_chosen class (r_deep name members g r) e h = clash (cc)

plain_chosen : (f class s : List ℕ) → Outermost f (file_of f) → Plain f s → record_bytes (chosen class (file_of f)) ≡ s
unfolding chosen
plain_chosen f class s o p =
    let q = of_plain o s p in
    ap (λ (w : Items). record_bytes (chosen class w)) o.is
    ∙ rw (so_reached class o.name (inl q.0)) (ap record_bytes (append-nil (chosen class o.inside)) ∙ whole_chosen class o.reads o.passes q.2 ∙ q.1)

pub moved_is_chosen : MovedIsChosen
moved_is_chosen s class old lent after n a e l = subst (λ (x : List ℕ). choice x class lent ≡ record { answer = given (length s); buffer = s ++ drop (length s) lent }) (sym is) chosen_from
  where
    c : CorrectFill (MoveRow s old) (λ f. Group f [] s []) old (record { answer = given n; buffer = after })
    c = (move_is_correct s old (record { answer = given n; buffer = after }) a).0 e

    is : take n after ≡ c.1.0
    is = ap (take n) c.1.3 ∙ front c.1.0 (drop (length c.1.0) old) n c.1.2

    bytes : AllBytes c.1.0
    bytes = group_bytes s c.1.0 a c.1.1

    no_row : NoneOf (FileRow c.1.0)
    no_row = no_file_row s old c.0 c.1.0 c.1.1

    out : Outermost c.1.0 (file_of c.1.0)
    out = accepted_file c.1.0 bytes (no_row_passed c.1.0 bytes no_row)

    sheet : ChosenSheet c.1.0 class s
    sheet = subst (ChosenSheet c.1.0 class) (plain_chosen c.1.0 class s out (is_plain s old c.0 c.1.0 c.1.1)) (chosen_sheet c.1.0 class out)

    none_of : NoneOf (ChoiceRow c.1.0 class lent)
    none_of k q w (claims.ChoiceRow.of_file x) = no_row k q w x
    none_of k q w (claims.ChoiceRow.row_11 {s = y} b m) = omega (arith, m, l, ap length (one_sheet c.1.0 class y s b sheet))

    chosen_from : choice c.1.0 class lent ≡ record { answer = given (length s); buffer = s ++ drop (length s) lent }
    chosen_from = (choice_is_correct c.1.0 class lent (record { answer = given (length s); buffer = s ++ drop (length s) lent }) bytes).1 (none_of, (s, sheet, refl, refl))

-- ---- Back, and moved again

-- bytes that begin with a tag begin with a whole item, or are unfit
whole_or_not : (b : ℕ) (r : List ℕ) → AllBytes (b ∷ r) → Unfit (b ∷ r) ⊎ ((d after : List ℕ) × Item (b ∷ r) b d after)
whole_or_not b [] a = inl (record { tag = b; after = []; reads = refl; beyond = inl (omega arith) })
whole_or_not b (h ∷ []) a = inl (record { tag = b; after = h ∷ []; reads = refl; beyond = inl (omega arith) })
whole_or_not b (h ∷ l ∷ ds) a = elim (dec_lt (length ds) (256 * h + l)) [
  | yes z ↦ inl (record { tag = b; after = h ∷ l ∷ ds; reads = refl; beyond = inr (h, l, ds, refl, z) })
  | no z ↦ inr (take (256 * h + l) ds, drop (256 * h + l) ds, item_of_lem b h l ds a (omega arith))
]

module _ (f s old : List ℕ) (a : AllBytes s) (p : Plain f s) (no_row : NoneOf (FileRow f)) where
  begins_place : {i : ℕ} → RecordBegins s i → Place f ([] ∷ []) (4 + i) (drop i s)
  begins_place first = in_group file_start p.nameless
  begins_place (after_record {i = i} {c = c} {d = d} b r) =
      let z : 4 + i + 3 + length d ≡ 4 + (i + 3 + length d) = omega arith in
      subst (λ (k : ℕ). Place f ([] ∷ []) k (drop (i + 3 + length d) s)) z
      (subst (λ (l : List ℕ). Place f ([] ∷ []) (4 + i + 3 + length d) l) (sym (behind_record s i refl (item_at r))) (after_item (begins_place b) (item_at r)))

  no_beyond : {i : ℕ} → RecordBegins s i → Unfit (drop i s) → ⊥
  no_beyond b u = no_row _ _ _ (faulty (begins_place b) (unfit u))

  no_move_row : NoneOf (MoveRow s old) ⊎ (length old < length f)
  no_move_row = elim (dec_lt (length old) (length f)) [
    | yes h ↦ inr h
    | no h ↦ inl (λ n q w x. rows n q w x (omega arith))
  ]
    where
      zero_tag : {i : ℕ} {r : List ℕ} → RecordBegins s i → drop i s ≡ 0 ∷ r → ⊥
      zero_tag {i} {r} b e =
          ⊎_elim (λ (u : Unfit (0 ∷ r)). no_beyond b (subst Unfit (sym e) u))
          (λ (o : (d after : List ℕ) × Item (0 ∷ r) 0 d after). p.no_group_inside [] [] (4 + i) (drop i s) o.0 o.1 (begins_place b) (subst (λ (l : List ℕ). Item l 0 o.0 o.1) (sym e) o.2))
          (whole_or_not 0 r (subst AllBytes e (all_drop i s a)))

      rows : (n q : ℕ) (w : When) → MoveRow s old n q w → length f ≤ length old → ⊥
      rows n q w (claims.MoveRow.row_16 h) l = no_row _ _ _ (row_16 (omega (arith, item_length p.nameless, group_length [] s)))
      rows n q w (when_of_writer (row_12 b x) m) l = no_beyond b (record { tag = x.tag; after = x.after; reads = x.reads; beyond = x.beyond })
      rows n q w (when_of_writer (row_10 {r = r} b e (inl z)) m) l = zero_tag b (e ∙ ap (λ (c : ℕ). c ∷ r) z)
      rows n q w (when_of_writer (row_10 b e (inr z)) m) l = no_row _ _ _ (faulty (begins_place b) (wrong_tag e z))
      rows n q w (when_of_writer (row_13 b x) m) l = omega arith
      rows n q w (when_of_writer (row_7 b x y) m) l = omega arith
      rows n q w (when_of_writer (row_8_9 b x y) m) l = omega arith
      rows n q w (claims.MoveRow.row_11 {f = y} g m) l = omega (arith, m, ap length (one_group s y f g p.nameless))

pub back_moves_again : BackMovesAgain
back_moves_again f old old' after n a e l = subst (λ (x : List ℕ). move x old' ≡ record { answer = given (length f); buffer = f ++ drop (length f) old' }) (sym is) (moved (no_move_row f s old' bytes plain no_row))
  where
    c : CorrectFill (BackRow f old) (Plain f) old (record { answer = given n; buffer = after })
    c = (back_is_correct f old (record { answer = given n; buffer = after }) a).0 e

    s : List ℕ
    s = c.1.0

    plain : Plain f c.1.0
    plain = c.1.1

    no_row : NoneOf (FileRow f)
    no_row k q w x = c.0 k q w (claims.BackRow.of_file x)

    is : take n after ≡ c.1.0
    is = ap (take n) c.1.3 ∙ front c.1.0 (drop (length c.1.0) old) n c.1.2

    bytes : AllBytes c.1.0
    bytes = subst AllBytes (ap (drop 4) (item_bytes_lem c.1.1.nameless) ∙ append-nil c.1.0) (all_drop 4 f a)

    moved : NoneOf (MoveRow c.1.0 old') ⊎ (length old' < length f) → move c.1.0 old' ≡ record { answer = given (length f); buffer = f ++ drop (length f) old' }
    moved (inl h) = (move_is_correct c.1.0 old' (record { answer = given (length f); buffer = f ++ drop (length f) old' }) bytes).1 (h, (f, c.1.1.nameless, refl, refl))
    moved (inr h) = absurd (omega arith)
