-- The order of a sheet's records: tag 3 before tag 1, and a tag that is not the last; the first of these rules that is broken. Assumes nothing.
use mathlib.Core.Path.{◌≡◌, refl, sym, ap, ◌∙◌, subst}
use mathlib.Core.List.{List, [], ◌∷◌}
use mathlib.Core.Bool.{Bool, true, false, cond}
use mathlib.Core.Logic.{◌⊎◌, inl, inr, ⊎_elim}
use Prim.Native.Nat.{ℕ, ◌+◌, ◌≤◌, ◌<◌}
use native.Mathlib.Omega.{arith}
use lib.ListN.{length, drop}
use lib.Dec.{eqb, ltb}
use borrow.Author.Tests.{eqb-true, eqb-false, eq-eqb, ltb-true, ltb-false}
use Rattle.options.specs.Message.{Rec}
use Rattle.options.specs.Reading.{either}
use Rattle.options.specs.Kinds.{Table}
use Rattle.options.specs.Answers.{record_bytes}
use Rattle.options.specs.Sheet.{RecordAt, RecordBegins, first, after_record, Listed}
use Rattle.options.specs.SheetRefusals.{SheetRow, row_7, OrderRow, row_14, row_23}
use Rattle.options.specs.SheetWalk.{AllShort, Sheet, sound, faulty}
use Rattle.options.specs.Writing.{has_tag, three_before_one, follows, not_last, place_of, ordered, order_rules}
use Rattle.theorems.proofs.View.{clash}
use Rattle.theorems.proofs.Sheets.{From, from_le, begins_from, record_same, from_record, record_first, records_next}
use Rattle.writing_theorems.proofs.SheetView.{nothing}
use Rattle.writing_theorems.proofs.SheetRows.{from_begins, from_none, small_body}

-- ---- tag 3 before tag 1

module _ (s : List ℕ) where
  tag_at : (c i : ℕ) (rs : List Rec) → AllShort rs → RecordBegins s i → drop i s ≡ record_bytes rs → has_tag c rs ≡ true → (j : ℕ) × (e : List ℕ) × (i ≤ j) × Listed s j c e
  tag_at c i [] short b e h = clash (cc)
  tag_at c i (r ∷ rs) short b e h =
      go (eqb c r.tag) refl h (tag_at c (i + 3 + length r.body) rs short.1 (after_record b (record_first s i r rs (small_body r short.0) e)) (records_next s i r rs e))
    where
      go : (x : Bool) → eqb c r.tag ≡ x → either x (has_tag c rs) ≡ true
          → (has_tag c rs ≡ true → (j : ℕ) × (y : List ℕ) × (i + 3 + length r.body ≤ j) × Listed s j c y)
          → (j : ℕ) × (y : List ℕ) × (i ≤ j) × Listed s j c y
      go true q z ih =
          (i, r.body, omega arith, record { begins = b; is_record = subst (λ (v : ℕ). RecordAt s i v r.body) (sym (eqb-true c r.tag q)) (record_first s i r rs (small_body r short.0) e) })
      go false q z ih = let t = ih z in (t.0, t.1, omega (arith, t.2), t.3)

  pub three_first : (i : ℕ) (rs : List Rec) → AllShort rs → RecordBegins s i → drop i s ≡ record_bytes rs → three_before_one rs ≡ true
      → (d e : List ℕ) × (j : ℕ) × Listed s (i + place_of 3 rs) 3 d × (i + place_of 3 rs < j) × Listed s j 1 e
  three_first i [] short b e h = clash (cc)
  three_first i (r ∷ rs) short b e h =
      go (eqb r.tag 1) (eqb r.tag 3) refl refl h (three_first (i + 3 + length r.body) rs short.1 (after_record b (record_first s i r rs (small_body r short.0) e)) (records_next s i r rs e))
    where
      on : ℕ
      on = i + 3 + length r.body

      go : (x y : Bool) → eqb r.tag 1 ≡ x → eqb r.tag 3 ≡ y → cond x false (cond y (has_tag 1 rs) (three_before_one rs)) ≡ true
          → (three_before_one rs ≡ true → (d f : List ℕ) × (j : ℕ) × Listed s (i + 3 + length r.body + place_of 3 rs) 3 d × (i + 3 + length r.body + place_of 3 rs < j) × Listed s j 1 f)
          → (d f : List ℕ) × (j : ℕ) × Listed s (i + cond y 0 (3 + length r.body + place_of 3 rs)) 3 d × (i + cond y 0 (3 + length r.body + place_of 3 rs) < j) × Listed s j 1 f
      go true y p q z ih = clash (cc)
      go false true p q z ih =
          let t = tag_at 1 (i + 3 + length r.body) rs short.1 (after_record b (record_first s i r rs (small_body r short.0) e)) (records_next s i r rs e) z in
          let n : i + 0 ≡ i = omega arith in (
            r.body,
            t.1,
            t.0,
            rw n (record { begins = b; is_record = subst (λ (v : ℕ). RecordAt s i v r.body) (eqb-true r.tag 3 q) (record_first s i r rs (small_body r short.0) e) }),
            omega (arith, t.2),
            t.3,
          )
      go false false p q z ih =
          let t = ih z in
          let n : i + 3 + length r.body + place_of 3 rs ≡ i + (3 + length r.body + place_of 3 rs) = omega arith in
          (t.0, t.1, t.2, subst (λ (v : ℕ). Listed s v 3 t.0) n t.3, omega (arith, t.4), t.5)

  has_tag_lem : (c i j : ℕ) (f : List ℕ) (rs : List Rec) → AllShort rs → drop i s ≡ record_bytes rs → From s j i → RecordAt s j c f → has_tag c rs ≡ true
  unfolding record_bytes
  has_tag_lem c i j f [] short e g o = absurd (nothing (sym e ∙ ap (λ (z : ℕ). drop z s) (from_none e g) ∙ o.reads))
  has_tag_lem c i j f (r ∷ rs) short e g o =
      ⊎_elim (λ (z : i ≡ j). rw (eq-eqb c r.tag (record_same (subst (λ (v : ℕ). RecordAt s v c f) (sym z) o) (record_first s i r rs (small_body r short.0) e)).0))
      (λ (h : From s j (i + 3 + length r.body)). later (eqb c r.tag) (has_tag_lem c (i + 3 + length r.body) j f rs short.1 (records_next s i r rs e) h o))
      (from_record (record_first s i r rs (small_body r short.0) e) g)
    where
      later : (x : Bool) → has_tag c rs ≡ true → either x (has_tag c rs) ≡ true
      later true q = refl
      later false q = q

  module _ (once : (i j c : ℕ) (d e : List ℕ) → Listed s i c d → Listed s j c e → i < j → ⊥) where
    none_from : (i k j : ℕ) (d f : List ℕ) (rs : List Rec) → AllShort rs → RecordBegins s i → drop i s ≡ record_bytes rs → three_before_one rs ≡ false
        → From s k i → RecordAt s k 3 d → From s j i → RecordAt s j 1 f → k < j → ⊥
    none_from i k j d f [] short b e h gk ok gj oj l = clash (let z : has_tag 1 [] ≡ true = has_tag_lem 1 i j f [] short e gj oj in cc)
    none_from i k j d f (r ∷ rs) short b e h gk ok gj oj l =
        go (eqb r.tag 1) (eqb r.tag 3) refl refl h (from_record o gk) (from_record o gj)
        (λ y hk hj. none_from (i + 3 + length r.body) k j d f rs short.1 (after_record b o) (records_next s i r rs e) y hk ok hj oj l)
      where
        o : RecordAt s i r.tag r.body
        o = record_first s i r rs (small_body r short.0) e

        tag_is : (k c : ℕ) (y : List ℕ) → i ≡ k → RecordAt s k c y → r.tag ≡ c
        tag_is k c y z q = sym (record_same (subst (λ (v : ℕ). RecordAt s v c y) (sym z) q) o).0

        go : (x y : Bool) → eqb r.tag 1 ≡ x → eqb r.tag 3 ≡ y → cond x false (cond y (has_tag 1 rs) (three_before_one rs)) ≡ false
            → (i ≡ k) ⊎ From s k (i + 3 + length r.body) → (i ≡ j) ⊎ From s j (i + 3 + length r.body)
            → (three_before_one rs ≡ false → From s k (i + 3 + length r.body) → From s j (i + 3 + length r.body) → ⊥) → ⊥
        go true y p q z ck (inl cj) ih = omega (arith, from_le gk)
        go true y p q z ck (inr cj) ih =
            once i j 1 r.body f (record { begins = b; is_record = subst (λ (v : ℕ). RecordAt s i v r.body) (eqb-true r.tag 1 p) o })
            (record { begins = from_begins b gj; is_record = oj }) (omega (arith, from_le cj))
        go false true p q z ck (inl cj) ih = eqb-false r.tag 1 p (tag_is j 1 f cj oj)
        go false true p q z ck (inr cj) ih = clash (let w : has_tag 1 rs ≡ true = has_tag_lem 1 (i + 3 + length r.body) j f rs short.1 (records_next s i r rs e) cj oj in cc)
        go false false p q z (inl ck) cj ih = eqb-false r.tag 3 q (tag_is k 3 d ck ok)
        go false false p q z (inr ck) (inl cj) ih = eqb-false r.tag 1 p (tag_is j 1 f cj oj)
        go false false p q z (inr ck) (inr cj) ih = ih z ck cj

    pub three_later : (k j : ℕ) (d f : List ℕ) (rs : List Rec) → AllShort rs → s ≡ record_bytes rs → three_before_one rs ≡ false → Listed s k 3 d → k < j → Listed s j 1 f → ⊥
    three_later k j d f rs short e h a l b = none_from 0 k j d f rs short first e h (begins_from a.begins) a.is_record (begins_from b.begins) b.is_record l

-- ---- a tag that is not the last

module _ (s : List ℕ) (c : ℕ) where
  not_last_at : (i : ℕ) (rs : List Rec) → AllShort rs → RecordBegins s i → drop i s ≡ record_bytes rs → not_last c rs ≡ true
      → (d e : List ℕ) × (j k : ℕ) × Listed s (i + place_of c rs) c d × (i + place_of c rs < j) × Listed s j k e
  not_last_at i [] short b e h = clash (cc)
  not_last_at i (r ∷ rs) short b e h = go (eqb r.tag c) refl h (not_last_at on rs short.1 (after_record b o) next)
    where
      on : ℕ
      on = i + 3 + length r.body

      o : RecordAt s i r.tag r.body
      o = record_first s i r rs (small_body r short.0) e

      next : drop on s ≡ record_bytes rs
      next = records_next s i r rs e

      behind : (ts : List Rec) → AllShort ts → drop on s ≡ record_bytes ts → follows ts ≡ true → (f : List ℕ) × (k : ℕ) × Listed s on k f
      behind [] l z q = clash (cc)
      behind (t ∷ ts) l z q = (t.body, t.tag, record { begins = after_record b o; is_record = record_first s on t ts (small_body t l.0) z })

      go : (x : Bool) → eqb r.tag c ≡ x → cond x (follows rs) (not_last c rs) ≡ true
          → (not_last c rs ≡ true → (d f : List ℕ) × (j k : ℕ) × Listed s (on + place_of c rs) c d × (on + place_of c rs < j) × Listed s j k f)
          → (d f : List ℕ) × (j k : ℕ) × Listed s (i + cond x 0 (3 + length r.body + place_of c rs)) c d × (i + cond x 0 (3 + length r.body + place_of c rs) < j) × Listed s j k f
      go true q z ih =
          let t = behind rs short.1 next z in
          let n : i + 0 ≡ i = omega arith in
          (r.body, t.0, on, t.1, rw n (record { begins = b; is_record = subst (λ (v : ℕ). RecordAt s i v r.body) (eqb-true r.tag c q) o }), omega arith, t.2)
      go false q z ih =
          let t = ih z in
          let n : on + place_of c rs ≡ i + (3 + length r.body + place_of c rs) = omega arith in
          (t.0, t.1, t.2, t.3, subst (λ (v : ℕ). Listed s v c t.0) n t.4, omega (arith, t.5), t.6)

  none_behind : (i k j x : ℕ) (d f : List ℕ) (rs : List Rec) → AllShort rs → drop i s ≡ record_bytes rs → not_last c rs ≡ false
      → From s k i → RecordAt s k c d → From s j i → RecordAt s j x f → k < j → ⊥
  unfolding record_bytes
  none_behind i k j x d f [] short e h gk ok gj oj l = nothing (sym e ∙ ap (λ (z : ℕ). drop z s) (from_none e gk) ∙ ok.reads)
  none_behind i k j x d f (r ∷ rs) short e h gk ok gj oj l =
      go (eqb r.tag c) refl h (from_record o gk) (from_record o gj) (λ y hk hj. none_behind (i + 3 + length r.body) k j x d f rs short.1 (records_next s i r rs e) y hk ok hj oj l)
    where
      o : RecordAt s i r.tag r.body
      o = record_first s i r rs (small_body r short.0) e

      none : (ts : List Rec) → drop (i + 3 + length r.body) s ≡ record_bytes ts → follows ts ≡ false → From s j (i + 3 + length r.body) → ⊥
      none [] z q g = nothing (sym z ∙ ap (λ (y : ℕ). drop y s) (from_none z g) ∙ oj.reads)
      none (t ∷ ts) z q g = clash (cc)

      go : (y : Bool) → eqb r.tag c ≡ y → cond y (follows rs) (not_last c rs) ≡ false
          → (i ≡ k) ⊎ From s k (i + 3 + length r.body) → (i ≡ j) ⊎ From s j (i + 3 + length r.body)
          → (not_last c rs ≡ false → From s k (i + 3 + length r.body) → From s j (i + 3 + length r.body) → ⊥) → ⊥
      go y q z ck (inl cj) ih = omega (arith, from_le gk)
      go true q z ck (inr cj) ih = none rs (records_next s i r rs e) z cj
      go false q z (inl ck) (inr cj) ih = eqb-false r.tag c q (sym (record_same (subst (λ (v : ℕ). RecordAt s v c d) (sym ck) ok) o).0)
      go false q z (inr ck) (inr cj) ih = ih z ck cj

-- ---- the first rule that is broken

-- row n applies at place i, and no row that applies comes before it
pub record FirstOrderRow (s : List ℕ) (n i : ℕ) : Type 0 where
  pub rank : ℕ
  pub applies : OrderRow s n i rank
  pub none_before : {k j q : ℕ} → OrderRow s k j q → (rank < q) ⊎ ((rank ≡ q) × (i ≤ j))

-- what the relation says of the records in their order
abbrev pub InOrder : List ℕ → Sheet → Type 0
InOrder s (faulty n p) = FirstOrderRow s n p
InOrder s (sound rs) = (n i q : ℕ) → OrderRow s n i q → ⊥

module _ (t : Table) (s : List ℕ) (rs : List Rec) (short : AllShort rs) (is : s ≡ record_bytes rs) (clean : (n i q : ℕ) → SheetRow t s n i q → ⊥) where
  once : (i j c : ℕ) (d e : List ℕ) → Listed s i c d → Listed s j c e → i < j → ⊥
  once i j c d e a b l = clean 7 j 3 (row_7 b l a)

  -- a tag stands at one place
  not_before : (i j c : ℕ) (d e : List ℕ) → Listed s i c d → Listed s j c e → i ≤ j
  not_before i j c d e a b = go (ltb j i) refl
    where
      go : (x : Bool) → ltb j i ≡ x → i ≤ j
      go true q = absurd (once j i c e d b a (ltb-true j i q))
      go false q = ltb-false j i q

  no_14 : three_before_one rs ≡ false → (i j : ℕ) (d e : List ℕ) → Listed s i 3 d → i < j → Listed s j 1 e → ⊥
  no_14 h i j d e a l b = three_later s once i j d e rs short is h a l b

  no_23 : not_last 82 rs ≡ false → (i j c : ℕ) (d e : List ℕ) → Listed s i 82 d → i < j → Listed s j c e → ⊥
  no_23 h i j c d e a l b = none_behind s 82 0 i j c d e rs short is h (begins_from a.begins) a.is_record (begins_from b.begins) b.is_record l

  first_14 : (i j : ℕ) (d e : List ℕ) → Listed s i 3 d → i < j → Listed s j 1 e → FirstOrderRow s 14 i
  first_14 i j d e a l b = record { rank = 0; applies = row_14 a l b; none_before = λ x. before x }
    where
      before : {k v q : ℕ} → OrderRow s k v q → (0 < q) ⊎ ((0 ≡ q) × (i ≤ v))
      before (row_14 {i = v} {d = f} x y z) = inr (refl, not_before i v 3 d f a x)
      before (row_23 x y z) = inl (omega arith)

  first_23 : three_before_one rs ≡ false → (i j c : ℕ) (d e : List ℕ) → Listed s i 82 d → i < j → Listed s j c e → FirstOrderRow s 23 i
  first_23 h i j c d e a l b = record { rank = 1; applies = row_23 a l b; none_before = λ x. before x }
    where
      before : {k v q : ℕ} → OrderRow s k v q → (1 < q) ⊎ ((1 ≡ q) × (i ≤ v))
      before (row_14 {i = v} {j = w} {d = f} {e = g} x y z) = absurd (no_14 h v w f g x y z)
      before (row_23 {i = v} {d = f} x y z) = inr (refl, not_before i v 82 d f a x)

  pub in_order : InOrder s (ordered order_rules rs)
  in_order = go (three_before_one rs) (not_last 82 rs) refl refl
    where
      go : (x y : Bool) → three_before_one rs ≡ x → not_last 82 rs ≡ y → InOrder s (cond x (faulty 14 (place_of 3 rs)) (cond y (faulty 23 (place_of 82 rs)) (sound rs)))
      go true y p q =
          let r = three_first s 0 rs short first is p in
          let z : 0 + place_of 3 rs ≡ place_of 3 rs = omega arith in
          subst (FirstOrderRow s 14) z (first_14 (0 + place_of 3 rs) r.2 r.0 r.1 r.3 r.4 r.5)
      go false true p q =
          let r = not_last_at s 82 0 rs short first is q in
          let z : 0 + place_of 82 rs ≡ place_of 82 rs = omega arith in
          subst (FirstOrderRow s 23) z (first_23 p (0 + place_of 82 rs) r.2 r.3 r.0 r.1 r.4 r.5 r.6)
      go false false p q = none
        where
          none : (n i k : ℕ) → OrderRow s n i k → ⊥
          none n i k (row_14 {j = j} {d = d} {e = e} x y z) = no_14 p i j d e x y z
          none n i k (row_23 {j = j} {c = c} {d = d} {e = e} x y z) = no_23 q i j c d e x y z
