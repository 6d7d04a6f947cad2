-- How the walk of a sheet goes from record to record. Assumes nothing.
use mathlib.Core.Path.{◌≡◌, refl, sym, ap, ap₂, ◌∙◌, subst}
use mathlib.Core.List.{List, [], ◌∷◌, ◌++◌}
use mathlib.Core.Bool.{Bool, true, false, cond}
use mathlib.Core.Logic.{◌⊎◌, inl, inr, ⊎_elim}
use Prim.Native.Nat.{ℕ, zero, suc, ◌+◌, ◌*◌, ◌/◌, ◌%◌, ◌≤◌, ◌<◌}
use native.Mathlib.Omega.{arith}
use lib.ListN.{length, take, drop, length-append, take-append-drop}
use lib.Seq.{drop-drop, drop_at, take_at, length-take-le, take-append_seam}
use lib.Dec.{ltb}
use borrow.Author.Tests.{ltb-true, ltb-false, lt-ltb, le-ltb}
use Rattle.options.specs.Message.{Rec}
use Rattle.options.specs.Answers.{record_bytes}
use Rattle.options.specs.KindClaims.{AllBytes}
use Rattle.options.specs.Sheet.{RecordAt}
use Rattle.options.specs.SheetRefusals.{RecordBeyond}
use Rattle.options.specs.SheetWalk.{Walk, all_read, cut_at, read_at, record_span, record_or, records_from}
use Rattle.theorems.proofs.View.{clash}
use Rattle.theorems.proofs.CodesPresent.{all_drop}

pub head : {x y : ℕ} {xs ys : List ℕ} → x ∷ xs ≡ y ∷ ys → x ≡ y
head e = cc

pub tail : {x y : ℕ} {xs ys : List ℕ} → x ∷ xs ≡ y ∷ ys → xs ≡ ys
tail e = cc

pub nothing : {y : ℕ} {ys : List ℕ} → [] ≡ y ∷ ys → ⊥
nothing e = clash (cc)

abbrev pub rec : ℕ → List ℕ → Rec
rec c d = record { tag = c; body = d }

-- a whole record lies at place i, whether of bytes or not
pub record Lies (s : List ℕ) (i c : ℕ) (d : List ℕ) : Type 0 where
  pub high : ℕ
  pub low : ℕ
  pub after : List ℕ
  pub reads : drop i s ≡ c ∷ high ∷ low ∷ (d ++ after)
  pub size : 256 * high + low ≡ length d

pub lies_at : {s : List ℕ} {i c : ℕ} {d : List ℕ} → AllBytes s → Lies s i c d → RecordAt s i c d
lies_at {s} {i} {c} {d} all o =
    let octets : AllBytes (c ∷ o.high ∷ o.low ∷ (d ++ o.after)) = subst AllBytes o.reads (all_drop i s all) in
    record { high = o.high; low = o.low; after = o.after; reads = o.reads; high_byte = octets.1.0; low_byte = octets.1.1.0; size = o.size }

pub low_byte : {s : List ℕ} {i c : ℕ} {d : List ℕ} → AllBytes s → (o : Lies s i c d) → o.low < 256
low_byte {s} {i} {c} {d} all o = let octets : AllBytes (c ∷ o.high ∷ o.low ∷ (d ++ o.after)) = subst AllBytes o.reads (all_drop i s all) in octets.1.1.0

-- what is behind it
pub lies_next : {s : List ℕ} {i c : ℕ} {d : List ℕ} (o : Lies s i c d) → drop (i + 3 + length d) s ≡ o.after
lies_next {s} {i} {c} {d} o =
    let q : i + 3 + length d ≡ i + suc (suc (suc (length d))) = omega arith in
    ap (λ (k : ℕ). drop k s) q ∙ sym (drop-drop (suc (suc (suc (length d)))) i s) ∙ ap (drop (suc (suc (suc (length d))))) o.reads ∙ drop_at d o.after (length d) refl

-- a record and what follows it are the bytes
pub whole : {s : List ℕ} {i c : ℕ} {d : List ℕ} (ts : List Rec) (o : Lies s i c d) → o.low < 256 → record_bytes ts ≡ o.after → record_bytes (rec c d ∷ ts) ≡ drop i s
unfolding record_bytes
whole {s} {i} {c} {d} ts o l q =
    let hi : length d / 256 ≡ o.high = omega (arith, o.size) in
    let lo : length d % 256 ≡ o.low = omega (arith, o.size) in
    ap₂ (λ (x : ℕ) (y : List ℕ). c ∷ x ∷ y) hi (ap₂ (λ (x : ℕ) (y : List ℕ). x ∷ (d ++ y)) lo q) ∙ sym o.reads

-- what the walk gives of the sheet s from the record at i on
pub data Reads (s : List ℕ) : ℕ → Walk → Type 0 where
  r_none : {i : ℕ} → drop i s ≡ [] → Reads s i all_read
  r_cut : {i : ℕ} → RecordBeyond s i → Reads s i (cut_at i)
  r_record : {i c : ℕ} {d : List ℕ} {w : Walk} → Lies s i c d → Reads s (i + 3 + length d) w → Reads s i (read_at i (rec c d) w)

pub whole_here : (s : List ℕ) (i b h l : ℕ) (ds : List ℕ) → drop i s ≡ b ∷ h ∷ l ∷ ds → 256 * h + l ≤ length ds → Lies s i b (take (256 * h + l) ds)
whole_here s i b h l ds e le =
    record {
      high = h;
      low = l;
      after = drop (256 * h + l) ds;
      reads = e ∙ ap (λ (z : List ℕ). b ∷ h ∷ l ∷ z) (sym (take-append-drop (256 * h + l) ds));
      size = sym (length-take-le (256 * h + l) ds le);
    }

module _ (s : List ℕ) where
  next : (i x : ℕ) (xs : List ℕ) → drop i s ≡ x ∷ xs → drop (i + 1) s ≡ xs
  next i x xs e = sym (drop-drop 1 i s) ∙ ap (drop 1) e

  record_step_lem : (i b : ℕ) (bs : List ℕ) (rest : Walk) → drop i s ≡ b ∷ bs → (record_span bs ≤ length bs → Reads s (i + 1 + record_span bs) rest) → Reads s i (record_or i b bs rest)
  record_step_lem i b [] rest e ih = r_cut (record { tag = b; after = []; reads = e; beyond = inl (omega arith) })
  record_step_lem i b (h ∷ []) rest e ih = r_cut (record { tag = b; after = h ∷ []; reads = e; beyond = inl (omega arith) })
  record_step_lem i b (h ∷ l ∷ ds) rest e ih = go (ltb (length ds) (256 * h + l)) refl
    where
      go : (x : Bool) → ltb (length ds) (256 * h + l) ≡ x → Reads s i (cond x (cut_at i) (read_at i (rec b (take (256 * h + l) ds)) rest))
      go true q = r_cut (record { tag = b; after = h ∷ l ∷ ds; reads = e; beyond = inr (h, l, ds, refl, ltb-true (length ds) (256 * h + l) q) })
      go false q =
          let le : 256 * h + l ≤ length ds = ltb-false (length ds) (256 * h + l) q in
          let len : length (take (256 * h + l) ds) ≡ 256 * h + l = length-take-le (256 * h + l) ds le in
          let on : i + 1 + suc (suc (256 * h + l)) ≡ i + 3 + length (take (256 * h + l) ds) = omega arith in
          r_record (whole_here s i b h l ds e le)
          (subst (λ (z : ℕ). Reads s z rest) on (ih (omega arith)))

  reads_from : (skip : ℕ) (xs : List ℕ) (i p : ℕ) → drop i s ≡ xs → p ≡ i + skip → skip ≤ length xs → Reads s p (records_from i skip xs)
  unfolding records_from
  reads_from zero [] i p e q h =
      let r : p ≡ i = omega arith in
      rw r (r_none e)
  reads_from zero (b ∷ bs) i p e q h =
      let r : i ≡ p = omega arith in
      subst (λ (z : ℕ). Reads s z (records_from i 0 (b ∷ bs))) r
      (record_step_lem i b bs (records_from (i + 1) (record_span bs) bs) e (reads_from (record_span bs) bs (i + 1) (i + 1 + record_span bs) (next i b bs e) refl))
  reads_from (suc k) [] i p e q h = absurd (omega arith)
  reads_from (suc k) (b ∷ bs) i p e q h = reads_from k bs (i + 1) p (next i b bs e) (omega arith) (omega arith)

  pub reads : Reads s 0 (records_from 0 0 s)
  reads = reads_from 0 s 0 0 refl (omega arith) (omega arith)

-- where a byte stands, there is a whole record or a cut one
pub whole_or_cut : (s : List ℕ) (i c : ℕ) (r : List ℕ) → AllBytes s → drop i s ≡ c ∷ r → RecordBeyond s i ⊎ ((d : List ℕ) × RecordAt s i c d)
whole_or_cut s i c [] all e = inl (record { tag = c; after = []; reads = e; beyond = inl (omega arith) })
whole_or_cut s i c (h ∷ []) all e = inl (record { tag = c; after = h ∷ []; reads = e; beyond = inl (omega arith) })
whole_or_cut s i c (h ∷ l ∷ ds) all e = go (ltb (length ds) (256 * h + l)) refl
  where
    go : (x : Bool) → ltb (length ds) (256 * h + l) ≡ x → RecordBeyond s i ⊎ ((d : List ℕ) × RecordAt s i c d)
    go true q = inl (record { tag = c; after = h ∷ l ∷ ds; reads = e; beyond = inr (h, l, ds, refl, ltb-true (length ds) (256 * h + l) q) })
    go false q = inr (take (256 * h + l) ds, lies_at all (whole_here s i c h l ds e (ltb-false (length ds) (256 * h + l) q)))

-- ---- one step of the walk: the laws that code needs

walk_skip : (at : ℕ) (xs ys : List ℕ) → records_from at (length xs) (xs ++ ys) ≡ records_from (at + length xs) 0 ys
unfolding records_from
walk_skip at [] ys = ap (λ (n : ℕ). records_from n 0 ys) (omega arith)
walk_skip at (x ∷ xs) ys = walk_skip (at + 1) xs ys ∙ ap (λ (n : ℕ). records_from n 0 ys) (omega arith)

pub walk_none : (s : List ℕ) (i : ℕ) → drop i s ≡ [] → records_from i 0 (drop i s) ≡ all_read
unfolding records_from
walk_none s i e = ap (records_from i 0) e

short : (i b : ℕ) (bs : List ℕ) → length bs < 2 → records_from i 0 (b ∷ bs) ≡ cut_at i
unfolding records_from
short i b [] h = refl
short i b (x ∷ []) h = refl
short i b (x ∷ y ∷ bs) h = absurd (omega arith)

long : (i b : ℕ) (bs : List ℕ) → (h l : ℕ) × (r : List ℕ) × (bs ≡ h ∷ l ∷ r) × (length r < 256 * h + l) → records_from i 0 (b ∷ bs) ≡ cut_at i
unfolding records_from
long i b bs z = ap (λ (x : List ℕ). records_from i 0 (b ∷ x)) z.3 ∙ rw (lt-ltb (length z.2) (256 * z.0 + z.1) z.4)

pub walk_cut : (s : List ℕ) (i : ℕ) → RecordBeyond s i → records_from i 0 (drop i s) ≡ cut_at i
walk_cut s i x = ap (records_from i 0) x.reads ∙ ⊎_elim (short i x.tag x.after) (long i x.tag x.after) x.beyond

pub walk_record : (s : List ℕ) (i c : ℕ) (d : List ℕ) → Lies s i c d
    → records_from i 0 (drop i s) ≡ read_at i (rec c d) (records_from (i + 3 + length d) 0 (drop (i + 3 + length d) s))
unfolding records_from
walk_record s i c d o =
    let within : length d ≤ length (d ++ o.after) = simp length-append (omega arith) in
    let uncut : ltb (length (d ++ o.after)) (length d) ≡ false = le-ltb _ _ within in
    let three : i + 1 + 1 + 1 ≡ i + 3 = omega arith in
    let is : take (length d) (d ++ o.after) ≡ d = take-append_seam d o.after in
    ap (records_from i 0) o.reads
    ∙ simp (o.size, uncut, is) (ap (read_at i (rec c d)) (ap (λ (n : ℕ). records_from n (length d) (d ++ o.after)) three ∙ walk_skip (i + 3) d o.after ∙ ap (records_from (i + 3 + length d) 0) (sym (lies_next o))))

-- ---- The bytes of records

-- two records' bytes
head_of : {b c : ℕ} {bs cs : List ℕ} → b ∷ bs ≡ c ∷ cs → (b ≡ c) × (bs ≡ cs)
head_of e = (cc, cc)

same_bytes : (b h l : ℕ) (d rest : List ℕ) (r : Rec) (ts : List ℕ) → 256 * h + l ≡ length d
    → b ∷ h ∷ l ∷ (d ++ rest) ≡ r.tag ∷ length r.body / 256 ∷ length r.body % 256 ∷ (r.body ++ ts) → (rec b d ≡ r) × (rest ≡ ts)
same_bytes b h l d rest r ts n e =
    let e1 = head_of e in
    let e2 = head_of e1.1 in
    let e3 = head_of e2.1 in
    let len : length d ≡ length r.body = omega (arith, n, e2.0, e3.0) in
    let body : d ≡ r.body = sym (take_at d rest (length d) refl) ∙ ap₂ (λ (k : ℕ) (x : List ℕ). take k x) len e3.1 ∙ take_at r.body ts (length r.body) refl in
    (ap₂ rec e1.0 body, sym (drop_at d rest (length d) refl) ∙ ap₂ (λ (k : ℕ) (x : List ℕ). drop k x) len e3.1 ∙ drop_at r.body ts (length r.body) refl)

-- a sheet has one list of records
pub same_sheet : (rs ts : List Rec) → record_bytes rs ≡ record_bytes ts → rs ≡ ts
unfolding record_bytes
same_sheet [] [] e = refl
same_sheet [] (x ∷ ts) e = clash (cc)
same_sheet (x ∷ rs) [] e = clash (cc)
same_sheet (x ∷ rs) (y ∷ ts) e =
    let p = same_bytes x.tag (length x.body / 256) (length x.body % 256) x.body (record_bytes rs) y (record_bytes ts) (omega arith) e in
    ap₂ (λ (r : Rec) (l : List Rec). r ∷ l) p.0 (same_sheet rs ts p.1)
