-- A sheet is refused by its first faulty record, and its records are those that it lists. Assumes nothing.
use mathlib.Core.Path.{◌≡◌, refl, sym, ap, ap₂, ◌∙◌, subst}
use mathlib.Core.List.{List, [], ◌∷◌}
use mathlib.Core.Bool.{Bool, true, false, cond}
use mathlib.Core.Logic.{◌⊎◌, inl, inr, ⊎_elim}
use Prim.Native.Nat.{ℕ, ◌+◌, ◌≤◌, ◌<◌}
use native.Mathlib.Omega.{arith}
use lib.ListN.{length, drop}
use lib.Dec.{eqb}
use borrow.Author.Tests.{eqb-true, eqb-false, eq-eqb, ltb-true, lt-ltb}
use Rattle.options.specs.Message.{Rec}
use Rattle.options.specs.Reading.{either, among}
use Rattle.options.specs.Kinds.{Table, Value, broken, number, part}
use Rattle.options.specs.Answers.{record_bytes}
use Rattle.options.specs.KindClaims.{AllBytes}
use Rattle.options.specs.Sheet.{RecordAt, RecordBegins, first, after_record, Listed}
use Rattle.options.specs.SheetRefusals.{RecordBeyond, SheetRow, row_12, row_10, row_13, row_7, row_8_9}
use Rattle.options.specs.SheetWalk.{records_from, AllShort, Sheet, sound, faulty, ruled, is_broken, broken_by, breaks_kind}
use Rattle.options.specs.RuleClaims.{Reached, at_first, behind, nth_first, nth_next, RuleRow, cut_row, rule_row, CorrectSheet}
use Rattle.options.specs.Writing.{writer_rules, sheet}
use Rattle.options.specs.WriterClaims.{Has}
use Rattle.options.specs.WritingClaims.{RecordIn}
use Rattle.theorems.proofs.View.{clash}
use Rattle.theorems.proofs.Fields.{compare}
use Rattle.theorems.proofs.Sheets.{From, here, past, from_le, begins_from, record_same, from_record, record_first, records_next}
use Rattle.writing_theorems.proofs.SheetView.{head, tail, nothing, rec, whole_or_cut}
use Rattle.writing_theorems.proofs.Ruled.{nth_some, ruled_correct}

pub from_begins : {s : List ℕ} {k i : ℕ} → RecordBegins s i → From s k i → RecordBegins s k
from_begins {s} b (here e) = subst (λ (x : ℕ). RecordBegins s x) e b
from_begins b (past o g) = from_begins (after_record b o) g

module _ {s : List ℕ} {i : ℕ} where
  pub from_none : {k : ℕ} → drop i s ≡ [] → From s k i → i ≡ k
  from_none e (here z) = z
  from_none e (past o g) = absurd (nothing (sym e ∙ o.reads))

-- ---- places, with the tags met before

pub reached_begins : {s seen : List ℕ} {i : ℕ} → Reached s seen i → RecordBegins s i
reached_begins at_first = first
reached_begins (behind r o) = after_record (reached_begins r) o

pub record Reaches (s : List ℕ) (i : ℕ) : Type 0 where
  pub seen : List ℕ
  pub reached : Reached s seen i

pub reaches : {s : List ℕ} {i : ℕ} → RecordBegins s i → Reaches s i
reaches first = record { seen = []; reached = at_first }
reaches (after_record {c = c} b o) = let r = reaches b in record { seen = c ∷ r.seen; reached = behind r.reached o }

-- a tag that was met stands before
met_listed : {s seen : List ℕ} {i : ℕ} (c : ℕ) → Reached s seen i → among c seen ≡ true → (j : ℕ) × (e : List ℕ) × (j < i) × Listed s j c e
met_listed c at_first e = clash (cc)
met_listed {s} c (behind {seen = seen} {i = i} {c = x} {d = d} r o) e = go (eqb c x) refl e (λ z. met_listed c r z)
  where
    go : (b : Bool) → eqb c x ≡ b → either b (among c seen) ≡ true → (among c seen ≡ true → (j : ℕ) × (y : List ℕ) × (j < i) × Listed s j c y)
        → (j : ℕ) × (y : List ℕ) × (j < i + 3 + length d) × Listed s j c y
    go true q z ih = (i, d, omega arith, record { begins = reached_begins r; is_record = subst (λ (v : ℕ). RecordAt s i v d) (sym (eqb-true c x q)) o })
    go false q z ih = let t = ih z in (t.0, t.1, omega (arith, t.2), t.3)

-- of two places the later one is come to from the earlier
from_from : {s : List ℕ} {j k i : ℕ} → From s k i → From s j i → k ≤ j → From s j k
from_from {s} {j} (here e) g l = subst (λ (x : ℕ). From s j x) e g
from_from {s} {j} {k} {i} (past {d = d} o h) g l = go (from_record o g) (λ x. from_from h x l)
  where
    go : (i ≡ j) ⊎ From s j (i + 3 + length d) → (From s j (i + 3 + length d) → From s j k) → From s j k
    go (inl z) f = absurd (omega (arith, from_le h))
    go (inr x) f = f x

-- a tag that stands before was met
listed_met : {s seen : List ℕ} {i : ℕ} → Reached s seen i → (j c : ℕ) (e : List ℕ) → j < i → Listed s j c e → among c seen ≡ true
listed_met at_first j c e l b = absurd (omega arith)
listed_met {s} (behind {seen = seen} {i = i} {c = x} {d = d} r o) j c e l b = go (compare j i) (λ z. listed_met r j c e z b)
  where
    later : (t : Bool) → among c seen ≡ true → either t (among c seen) ≡ true
    later true q = refl
    later false q = q

    go : (j < i) ⊎ ((j ≡ i) ⊎ (i < j)) → (j < i → among c seen ≡ true) → either (eqb c x) (among c seen) ≡ true
    go (inl z) f = later (eqb c x) (f z)
    go (inr (inl z)) f = rw (eq-eqb c x (record_same (subst (λ (v : ℕ). RecordAt s v c e) z b.is_record) o).0)
    go (inr (inr z)) f =
        let g : From s j i = from_from (begins_from (reached_begins r)) (begins_from b.begins) (omega arith) in
        ⊎_elim (λ (y : i ≡ j). absurd (omega arith)) (λ (y : From s j (i + 3 + length d)). absurd (omega (arith, from_le y))) (from_record o g)

-- ---- the writer's rules and the rows of the table

abbrev pub Bad : ℕ → Type 0
Bad c = (c ≡ 0) ⊎ ((c ≡ 52) ⊎ (c ≡ 255))

pub bad_tag : (c : ℕ) → among c (0 ∷ 52 ∷ 255 ∷ []) ≡ true → Bad c
bad_tag c e = go (eqb c 0) (eqb c 52) (eqb c 255) refl refl refl e
  where
    go : (a b d : Bool) → eqb c 0 ≡ a → eqb c 52 ≡ b → eqb c 255 ≡ d → either a (either b (either d false)) ≡ true → Bad c
    go true b d x y v z = inl (eqb-true c 0 x)
    go false true d x y v z = inr (inl (eqb-true c 52 y))
    go false false true x y v z = inr (inr (eqb-true c 255 v))
    go false false false x y v z = clash (cc)

pub tag_bad : (c : ℕ) → Bad c → among c (0 ∷ 52 ∷ 255 ∷ []) ≡ true
tag_bad c (inl z) = rw z
tag_bad c (inr (inl z)) = rw z
tag_bad c (inr (inr z)) = rw z

kind_bad : (t : Table) (c : ℕ) (d : List ℕ) → breaks_kind t c d ≡ true → (t.row c ≡ true) × (t.value c d ≡ broken (broken_by (t.value c d)))
kind_bad t c d e = go (t.row c) (t.value c d) refl refl e
  where
    go : (b : Bool) (v : Value) → t.row c ≡ b → t.value c d ≡ v → cond b (is_broken v) false ≡ true → (t.row c ≡ true) × (t.value c d ≡ broken (broken_by (t.value c d)))
    go true (broken n) x y z = (x, y ∙ ap (λ (u : Value). broken (broken_by u)) (sym y))
    go true (number k n) x y z = clash (cc)
    go true (part k n) x y z = clash (cc)
    go false v x y z = clash (cc)

-- at the place of a row a rule is broken, of no higher rank: of a cut record 12 comes before its tag's 10
record Ruled (t : Table) (s : List ℕ) (i q : ℕ) : Type 0 where
  number : ℕ
  rank : ℕ
  row : RuleRow (writer_rules t) s number i rank
  no_higher : rank ≤ q

module _ {t : Table} {s : List ℕ} where
  to_row : {n i q : ℕ} → RuleRow (writer_rules t) s n i q → SheetRow t s n i q
  to_row (cut_row r x) = row_12 (reached_begins r) x
  to_row (rule_row {c = c} r o nth_first b) = row_10 (reached_begins r) o.reads (bad_tag c b)
  to_row (rule_row {d = d} r o (nth_next nth_first) b) = row_13 (record { begins = reached_begins r; is_record = o }) (ltb-true 1024 (length d) b)
  to_row (rule_row {c = c} r o (nth_next (nth_next nth_first)) b) = let z = met_listed c r b in row_7 (record { begins = reached_begins r; is_record = o }) z.2 z.3
  to_row (rule_row {c = c} {d = d} r o (nth_next (nth_next (nth_next nth_first))) b) =
      let z = kind_bad t c d b in row_8_9 (record { begins = reached_begins r; is_record = o }) z.0 z.1
  to_row (rule_row r o (nth_next (nth_next (nth_next (nth_next n)))) b) = absurd (nth_some n refl)

  of_row : AllBytes s → {n i q : ℕ} → SheetRow t s n i q → Ruled t s i q
  of_row all (row_12 b x) = record { number = 12; rank = 0; row = cut_row (reaches b).reached x; no_higher = omega arith }
  of_row all {n} {i} {q} (row_10 {c = c} {r = r} b e y) =
      ⊎_elim (λ (x : RecordBeyond s i). record { number = 12; rank = 0; row = cut_row (reaches b).reached x; no_higher = omega arith })
      (λ (x : (d : List ℕ) × RecordAt s i c d). record { number = 10; rank = 1; row = rule_row (reaches b).reached x.1 nth_first (tag_bad c y); no_higher = omega arith })
      (whole_or_cut s i c r all e)
  of_row all (row_13 {d = d} l x) =
      record { number = 13; rank = 2; row = rule_row (reaches l.begins).reached l.is_record (nth_next nth_first) (lt-ltb 1024 (length d) x); no_higher = omega arith }
  of_row all (row_7 {j = j} {c = c} {e = e} a l b) =
      let r = reaches a.begins in
      record { number = 7; rank = 3; row = rule_row r.reached a.is_record (nth_next (nth_next nth_first)) (listed_met r.reached j c e l b); no_higher = omega arith }
  of_row all (row_8_9 {c = c} {n = n} {d = d} l x y) =
      record {
        number = broken_by (t.value c d);
        rank = 4;
        row = rule_row (reaches l.begins).reached l.is_record (nth_next (nth_next (nth_next nth_first))) (broken_kind c d n x y);
        no_higher = omega arith;
      }
    where
      broken_kind : (c : ℕ) (d : List ℕ) (n : ℕ) → t.row c ≡ true → t.value c d ≡ broken n → breaks_kind t c d ≡ true
      broken_kind c d n x y = rw (x, y)

-- "the first faulty record, at one record 12, 10, 13, 7, 8, 9"
pub record FirstSheetRow (t : Table) (s : List ℕ) (n i : ℕ) : Type 0 where
  pub rank : ℕ
  pub applies : SheetRow t s n i rank
  pub none_before : {k j q : ℕ} → SheetRow t s k j q → (i < j) ⊎ ((i ≡ j) × (rank ≤ q))

abbrev pub Judges : Table → List ℕ → Sheet → Type 0
Judges t s (faulty n p) = FirstSheetRow t s n p
Judges t s (sound rs) = (n i q : ℕ) → SheetRow t s n i q → ⊥

judges_of : (t : Table) (s : List ℕ) → AllBytes s → (x : Sheet) → CorrectSheet (writer_rules t) s x → Judges t s x
judges_of t s all (faulty n p) g = record { rank = g.rank; applies = to_row g.applies; none_before = λ r. before (of_row all r) }
  where
    before : {j q : ℕ} → Ruled t s j q → (p < j) ⊎ ((p ≡ j) × (g.rank ≤ q))
    before {j} {q} x = ⊎_elim (λ (z : p < j). inl z) (λ (z : (p ≡ j) × (g.rank ≤ x.rank)). inr (z.0, omega (arith, z.1, x.no_higher))) (g.none_before x.row)
judges_of t s all (sound rs) g = λ n i q r. let x = of_row all r in g.1 x.number i x.rank x.row

pub judges : (t : Table) (s : List ℕ) → AllBytes s → Judges t s (sheet t s)
unfolding sheet
judges t s all = judges_of t s all (ruled (writer_rules t) [] (records_from 0 0 s)) (ruled_correct (writer_rules t) s all)

pub small_body : (r : Rec) → length r.body ≤ 1024 → length r.body < 65536
small_body r h = omega arith

-- ---- the records of a sheet are those that it lists

has_listed : (s : List ℕ) (i c : ℕ) (d : List ℕ) (rs : List Rec) → AllShort rs → RecordBegins s i → drop i s ≡ record_bytes rs → Has (rec c d) rs → RecordIn c d s
has_listed s i c d [] short b e h = absurd h
has_listed s i c d (r ∷ rs) short b e (inl q) =
    record { place = i; listed = record { begins = b; is_record = subst (λ (x : Rec). RecordAt s i x.tag x.body) (sym q) (record_first s i r rs (small_body r short.0) e) } }
has_listed s i c d (r ∷ rs) short b e (inr h) = has_listed s (i + 3 + length r.body) c d rs short.1 (after_record b (record_first s i r rs (small_body r short.0) e)) (records_next s i r rs e) h

listed_has : (s : List ℕ) (i j c : ℕ) (d : List ℕ) (rs : List Rec) → AllShort rs → drop i s ≡ record_bytes rs → From s j i → RecordAt s j c d → Has (rec c d) rs
unfolding record_bytes
listed_has s i j c d [] short e g o = absurd (nothing (sym e ∙ ap (λ (z : ℕ). drop z s) (from_none e g) ∙ o.reads))
listed_has s i j c d (r ∷ rs) short e g o =
    ⊎_elim (λ (z : i ≡ j). inl (let q = record_same (subst (λ (v : ℕ). RecordAt s v c d) (sym z) o) (record_first s i r rs (small_body r short.0) e) in ap₂ rec q.0 q.1))
    (λ (h : From s j (i + 3 + length r.body)). inr (listed_has s (i + 3 + length r.body) j c d rs short.1 (records_next s i r rs e) h o))
    (from_record (record_first s i r rs (small_body r short.0) e) g)

pub has_record : (c : ℕ) (d : List ℕ) (rs : List Rec) → AllShort rs → Has (rec c d) rs → RecordIn c d (record_bytes rs)
has_record c d rs short h = has_listed (record_bytes rs) 0 c d rs short first refl h

pub record_has : (c : ℕ) (d : List ℕ) (s : List ℕ) (rs : List Rec) → AllShort rs → RecordIn c d s → s ≡ record_bytes rs → Has (rec c d) rs
record_has c d s rs short r e = listed_has s 0 r.place c d rs short e (begins_from r.listed.begins) r.listed.is_record

-- ---- a row's number is told by its place and its rank

abbrev rank_number : ℕ → ℕ
rank_number q = cond (eqb q 0) 12 (cond (eqb q 1) 10 (cond (eqb q 2) 13 7))

number_of : {t : Table} {s : List ℕ} {n i q : ℕ} → SheetRow t s n i q → (q ≡ 4 → ⊥) → n ≡ rank_number q
number_of (row_12 b x) h = refl
number_of (row_10 b x y) h = refl
number_of (row_13 b x) h = refl
number_of (row_7 b l c) h = refl
number_of (row_8_9 b x y) h = absurd (h refl)

kind_row : {t : Table} {s : List ℕ} {n i q : ℕ} → SheetRow t s n i q → q ≡ 4 → (c : ℕ) × (d : List ℕ) × RecordAt s i c d × (t.value c d ≡ broken n)
kind_row (row_12 b x) e = clash (absurd (omega arith))
kind_row (row_10 b x y) e = clash (absurd (omega arith))
kind_row (row_13 b x) e = clash (absurd (omega arith))
kind_row (row_7 b l c) e = clash (absurd (omega arith))
kind_row (row_8_9 {c = c} {d = d} b x y) e = (c, d, b.is_record, y)

broken_same : {n k : ℕ} → broken n ≡ broken k → n ≡ k
broken_same e = cc

pub same_number : {t : Table} {s : List ℕ} {n k i q : ℕ} → SheetRow t s n i q → SheetRow t s k i q → n ≡ k
same_number {t} {s} {n} {k} {i} {q} a b = go (eqb q 4) refl
  where
    go : (x : Bool) → eqb q 4 ≡ x → n ≡ k
    go true e =
        let f = kind_row a (eqb-true q 4 e) in
        let g = kind_row b (eqb-true q 4 e) in
        let r = record_same f.2 g.2 in
        broken_same (sym f.3 ∙ ap₂ (λ (c : ℕ) (d : List ℕ). t.value c d) r.0 r.1 ∙ g.3)
    go false e = number_of a (eqb-false q 4 e) ∙ sym (number_of b (eqb-false q 4 e))
