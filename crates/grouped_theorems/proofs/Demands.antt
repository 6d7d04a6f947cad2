-- Demands 2 and 3, read of the chosen sheet. Assumes nothing.
use mathlib.Core.Path.{◌≡◌, refl, sym, ap, ap₂, ◌∙◌, subst}
use mathlib.Core.List.{List, [], ◌∷◌, ◌++◌}
use mathlib.Core.Logic.{◌⊎◌, inl, inr}
use Prim.Native.Nat.{ℕ, ◌+◌, ◌<◌}
use native.Mathlib.Omega.{arith}
use lib.ListN.{length, take, drop}
use lib.Seq.{take_at}
use Rattle.options.specs.KindClaims.{AllBytes}
use Rattle.options.specs.Answers.{given, record_bytes, records}
use Rattle.options.specs.Sheet.{RecordAt, RecordBegins, first, after_record}
use Rattle.options.specs.WritingClaims.{RecordIn, SameRecord}
use Rattle.options.specs.GroupedFile.{Item, Place, file_start, in_group, after_item, Placed, Chosen, Among, items_of}
use Rattle.options.specs.GroupedClaims.{CorrectFill, ChosenSheet, ChoiceRow, ChosenFor, SameChosen, RecordsAreChosen, ChosenComesBack, ChosenDemand3}
use Rattle.theorems.proofs.Sheets.{From, here, past, begins_from, record_same, from_record, record_first, records_next}
use Rattle.writing_theorems.proofs.Demand.{sheet_comes_back, demand_3}
use Rattle.writing_theorems.proofs.SheetView.{nothing}
use Rattle.grouped_theorems.proofs.View.{item_bytes_lem}
use Rattle.grouped_theorems.proofs.Calls.{choice_is_correct}

-- ---- The records of the chosen sheet are those chosen

nothing_there : {s : List ℕ} {i k : ℕ} → drop i s ≡ [] → From s k i → drop k s ≡ []
nothing_there {s} e (here z) = ap (λ (x : ℕ). drop x s) (sym z) ∙ e
nothing_there e (past o g) = absurd (nothing (sym e ∙ o.reads))

abbrev Sized : List Placed → Type 0
Sized rs = (r : Placed) → Among r rs → length r.item.body < 65536

module _ (s : List ℕ) where
  listed_among : (i k c : ℕ) (d : List ℕ) (rs : List Placed) → Sized rs → drop i s ≡ record_bytes (items_of rs) → From s k i → RecordAt s k c d
      → (r : Placed) × Among r rs × (r.item.tag ≡ c) × (r.item.body ≡ d)
  unfolding record_bytes
  listed_among i k c d [] z e g o = absurd (nothing (sym (nothing_there e g) ∙ o.reads))
  listed_among i k c d (x ∷ rs) z e g o = go (from_record head g) (λ h. listed_among (i + 3 + length x.item.body) k c d rs (λ r m. z r (inr m)) (records_next s i x.item (items_of rs) e) h o)
    where
      head : RecordAt s i x.item.tag x.item.body
      head = record_first s i x.item (items_of rs) (z x (inl refl)) e

      go : (i ≡ k) ⊎ From s k (i + 3 + length x.item.body) → (From s k (i + 3 + length x.item.body) → (r : Placed) × Among r rs × (r.item.tag ≡ c) × (r.item.body ≡ d))
          → (r : Placed) × Among r (x ∷ rs) × (r.item.tag ≡ c) × (r.item.body ≡ d)
      go (inl q) ih = let y = record_same (subst (λ (j : ℕ). RecordAt s j x.item.tag x.item.body) q head) o in (x, inl refl, y.0, y.1)
      go (inr h) ih = let y = ih h in (y.0, inr y.1, y.2, y.3)

  among_listed : (i : ℕ) (r : Placed) (rs : List Placed) → Sized rs → RecordBegins s i → drop i s ≡ record_bytes (items_of rs) → Among r rs → RecordIn r.item.tag r.item.body s
  among_listed i r [] z b e m = absurd m
  among_listed i r (x ∷ rs) z b e m = go m (λ h. among_listed (i + 3 + length x.item.body) r rs (λ q k. z q (inr k)) (after_record b head) (records_next s i x.item (items_of rs) e) h)
    where
      head : RecordAt s i x.item.tag x.item.body
      head = record_first s i x.item (items_of rs) (z x (inl refl)) e

      go : (r ≡ x) ⊎ Among r rs → (Among r rs → RecordIn r.item.tag r.item.body s) → RecordIn r.item.tag r.item.body s
      go (inl q) ih = subst (λ (y : Placed). RecordIn y.item.tag y.item.body s) (sym q) (record { place = i; listed = record { begins = b; is_record = head } })
      go (inr h) ih = ih h

module _ (f class s : List ℕ) (w : ChosenSheet f class s) where
  sized : Sized w.chosen
  sized r m = let i = ((w.all.lists r).0 m).whole in omega (arith, i.whole.size, i.whole.high_byte, i.whole.low_byte)

  to_chosen : (c : ℕ) (d : List ℕ) → RecordIn c d s → ChosenFor f class c d
  to_chosen c d r =
      let y = listed_among s 0 r.place c d w.chosen sized w.is_sheet (begins_from r.listed.begins) r.listed.is_record in
      let e : y.0 ≡ record { place = y.0.place; item = record { tag = c; body = d } } = ap₂ (λ (t : ℕ) (b : List ℕ). record { place = y.0.place; item = record { tag = t; body = b } }) y.2 y.3 in
      record { place = y.0.place; chosen = subst (Chosen f class) e ((w.all.lists y.0).0 y.1) }

  of_chosen : (c : ℕ) (d : List ℕ) → ChosenFor f class c d → RecordIn c d s
  of_chosen c d h =
      let r : Placed = record { place = h.place; item = record { tag = c; body = d } } in
      among_listed s 0 r w.chosen sized first w.is_sheet ((w.all.lists r).1 h.chosen)

pub records_are_chosen : RecordsAreChosen
records_are_chosen f class s c d w = (to_chosen f class s w c d, of_chosen f class s w c d)

-- ---- The chosen sheet is of bytes, as the file is

all_front : (d r : List ℕ) → AllBytes (d ++ r) → AllBytes d
all_front [] r a = tt
all_front (x ∷ d) r a = (a.0, all_front d r a.1)

all_back : (d r : List ℕ) → AllBytes (d ++ r) → AllBytes r
all_back [] r a = a
all_back (x ∷ d) r a = all_back d r a.1

all_both : (d r : List ℕ) → AllBytes d → AllBytes r → AllBytes (d ++ r)
all_both [] r a b = b
all_both (x ∷ d) r a b = (a.0, all_both d r a.1 b)

item_all : {bs d after : List ℕ} {c : ℕ} → Item bs c d after → AllBytes bs → (c < 256) × AllBytes d × AllBytes after
item_all {bs} {d} {after} {c} o a =
    let b : AllBytes (c ∷ o.whole.high ∷ o.whole.low ∷ (d ++ after)) = subst AllBytes (item_bytes_lem o) a in
    (b.0, all_front d after b.1.1.1, all_back d after b.1.1.1)

place_all : {f : List ℕ} {names : List (List ℕ)} {p : ℕ} {bs : List ℕ} → AllBytes f → Place f names p bs → AllBytes bs
place_all a file_start = a
place_all a (in_group {name = name} {members = members} pl g) = all_back name members (item_all g (place_all a pl)).1.1
place_all a (after_item pl o) = (item_all o (place_all a pl)).2

-- of records of bytes
all_records : (rs : List Placed) → ((r : Placed) → Among r rs → (r.item.tag < 256) × AllBytes r.item.body × (length r.item.body < 65536)) → AllBytes (record_bytes (items_of rs))
unfolding record_bytes
all_records [] h = tt
all_records (x ∷ rs) h =
    let b = h x (inl refl) in
    (b.0, (omega (arith, b.2), (omega arith, all_both x.item.body (record_bytes (items_of rs)) b.1 (all_records rs (λ r m. h r (inr m))))))

pub chosen_bytes : (f class s : List ℕ) → AllBytes f → ChosenSheet f class s → AllBytes s
chosen_bytes f class s a w = subst AllBytes (sym w.is_sheet) (all_records w.chosen each)
  where
    each : (r : Placed) → Among r w.chosen → (r.item.tag < 256) × AllBytes r.item.body × (length r.item.body < 65536)
    each r m =
        let h = (w.all.lists r).0 m in
        let b = item_all h.whole (place_all a h.stands) in
        (b.0, b.1, sized f class s w r m)

-- ---- Demand 2

pub chosen_comes_back : ChosenComesBack
chosen_comes_back t f class lent after m n permission plan w old a e x l = (sheet, back)
  where
    c : CorrectFill (ChoiceRow f class lent) (ChosenSheet f class) lent (record { answer = given n; buffer = after })
    c = (choice_is_correct f class lent (record { answer = given n; buffer = after }) a).0 e

    is : take n after ≡ c.1.0
    is = ap (take n) c.1.3 ∙ take_at c.1.0 (drop (length c.1.0) lent) n (sym c.1.2)

    size : length (take n after) ≡ n
    size = ap length is ∙ sym c.1.2

    sheet : ChosenSheet f class (take n after)
    sheet = subst (ChosenSheet f class) (sym is) c.1.1

    back : records w old ≡ record { answer = given n; buffer = take n after ++ drop n old }
    back =
        sheet_comes_back t (take n after) m permission plan w old (chosen_bytes f class (take n after) a sheet) x (omega (arith, size))
        ∙ ap (λ (k : ℕ). record { answer = given k; buffer = take n after ++ drop k old }) size

-- ---- Demand 3

same_record : (c : ℕ) (f class s f' class' s' : List ℕ) → ChosenSheet f class s → ChosenSheet f' class' s' → SameChosen c f class f' class' → SameRecord c s s'
same_record c f class s f' class' s' w w' (inl z) = inl (λ d r. z.0 d (to_chosen f class s w c d r), λ d r. z.1 d (to_chosen f' class' s' w' c d r))
same_record c f class s f' class' s' w w' (inr z) = inr (z.0, of_chosen f class s w c z.0 z.1, of_chosen f' class' s' w' c z.0 z.2)

pub chosen_demand_3 : ChosenDemand3
chosen_demand_3 t proper set f f' class class' s s' m m' permission permission' plan plan' w w' a a' x x' e e' same =
    demand_3 t proper set s s' m m' permission permission' plan plan' w w' (chosen_bytes f class s a x) (chosen_bytes f' class' s' a' x') e e' (λ c k. same_record c f class s f' class' s' x x' (same c k))
