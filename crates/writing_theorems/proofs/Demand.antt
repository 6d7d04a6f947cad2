-- The statements of WritingClaims, proved: the sheet comes back, and demand 3. Assumes nothing.
use mathlib.Core.Path.{◌≡◌, refl, ap, sym, ◌∙◌, subst}
use mathlib.Core.List.{List, [], ◌∷◌}
use mathlib.Core.Bool.{Bool, true, false, cond}
use mathlib.Core.Logic.{inl, inr, ◌↔◌}
use Prim.Native.Nat.{ℕ, ◌-◌, ◌≤◌}
use native.Mathlib.Omega.{arith}
use lib.ListN.{length, take}
use lib.Dec.{ltb, leb, eqb}
use borrow.Author.Tests.{ltb-false, le-ltb}
use Rattle.options.specs.Message.{Rec, Opt, PiecesOf, end_to_end}
use Rattle.options.specs.Reading.{accepted, items, read_message, pieces}
use Rattle.options.specs.Kinds.{Table, Value, broken, number, part, Proper, kinds}
use Rattle.options.specs.KindClaims.{AllBytes}
use Rattle.options.specs.CodeSet.{marked}
use Rattle.options.specs.Answers.{Origin, known, Answer, Absent, Found, is_known, origin_of, content_of, shown, lookup, record_bytes, but52, joined_records, sheet_records, filled_with}
use Rattle.options.specs.ReadingClaims.{IsAccepted}
use Rattle.options.specs.AnswerClaims.{JoinedBytes, GivesLength}
use Rattle.options.specs.SheetWalk.{AllShort, Sheet, sound, faulty, is_broken}
use Rattle.options.specs.Writing.{with52, split_up, split_all, written, past_sname, sheet, Wrote, wrote, declined, is_nil, plan_fits, in_plan_order, plans, try_plans, after_sheet, writer}
use Rattle.options.specs.WriterClaims.{Has, all_data}
use Rattle.options.specs.WritingClaims.{RecordIn, NoRecord, SameRecord, WrittenIsAccepted, SheetComesBack, BytesOf, SameButPlace, both_absent, both_found, IsKind, is_number, is_part, wholeness_for, ReadsAsUnknown, Demand3Known, Demand3Others, Demand3, Demand3OfKinds}
use Rattle.theorems.proofs.View.{clash}
use Rattle.theorems.proofs.Pieces.{pieces_right}
use Rattle.theorems.proofs.Lookup.{asked, lookup_found}
use Rattle.theorems.proofs.Parts.{shown_bytes}
use Rattle.theorems.proofs.KindRules.{kinds_proper}
use Rattle.theorems.proofs.Sheets.{records_is}
use Rattle.writing_theorems.proofs.Written.{AllPlain, Fits, read_written, items_written}
use Rattle.writing_theorems.proofs.SheetView.{rec}
use Rattle.writing_theorems.proofs.Splitting.{all_plain}
use Rattle.writing_theorems.proofs.Joining.{Fresh, records_back, with_code, pieces_items, of_none, of_record, of_plan, end_items, split_data, split_some, whole_told}
use Rattle.writing_theorems.proofs.SheetLaws.{Sound, sound_sheet, in_order_sound, AllKinds, kind_of}
use Rattle.writing_theorems.proofs.SheetRows.{has_record, record_has}

-- a refusal that is not there
pub passed : (t : Bool) (n p : ℕ) (w : Wrote) (q : ℕ) (b : List ℕ) → cond t (declined n p) w ≡ wrote q b → (t ≡ false) × (w ≡ wrote q b)
passed true n p w q b e = clash (cc)
passed false n p w q b e = (refl, e)

-- the plan that was used
record Used (p : ℕ) (w m : List ℕ) (rs : List Rec) : Type 0 where
  fits : Fits p (length m - 240) rs
  is_written : w ≡ written p m rs
  small : p ≤ 3

abbrev Small : List ℕ → Type 0
Small [] = Unit {0}
Small (p ∷ ps) = (p ≤ 3) × Small ps

pub nil : (rs : List Rec) → is_nil rs ≡ true → rs ≡ []
nil [] e = refl
nil (r ∷ rs) e = clash (cc)

pub both : (a b : Bool) → cond a b false ≡ true → (a ≡ true) × (b ≡ true)
both true b e = (refl, e)
both false b e = clash (cc)

used : (ps m : List ℕ) (rs : List Rec) (q : ℕ) (w : List ℕ) → Small ps → try_plans ps m rs ≡ wrote q w → Used q w m rs
unfolding try_plans plan_fits
used [] m rs q w s e = clash (cc)
used (p ∷ ps) m rs q w s e = go (plan_fits p (length m - 240) rs) refl (used ps m rs q w s.1) e
  where
    go : (b : Bool) → plan_fits p (length m - 240) rs ≡ b → (try_plans ps m rs ≡ wrote q w → Used q w m rs)
        → cond b (wrote p (written p m rs)) (try_plans ps m rs) ≡ wrote q w → Used q w m rs
    go true f ih z =
        let c : (leb (cond (eqb p 0) 1 4) (length m - 240) ≡ true) × (is_nil (past_sname p (length m - 240) rs) ≡ true) = both _ _ f in
        let pq : p ≡ q = cc in
        let wq : w ≡ written p m rs = cc in
        rw (← pq) (record { fits = record { none_left = nil (past_sname p (length m - 240) rs) c.1; head_fits = c.0 }; is_written = wq; small = s.0 })
    go false f ih z = ih z

small_plans : (permission : ℕ) → Small (plans permission)
small_plans permission = go (eqb permission 0) (eqb permission 1) (eqb permission 2)
  where
    go : (a b c : Bool) → Small (cond a (0 ∷ []) (cond b (0 ∷ 1 ∷ []) (cond c (0 ∷ 2 ∷ []) (0 ∷ 1 ∷ 3 ∷ []))))
    go true b c = omega arith
    go false true c = omega arith
    go false false true = omega arith
    go false false false = omega arith

-- what an accepted call has: its records, and what is read of the buffer that it left
record Accepted (t : Table) (s w : List ℕ) : Type 0 where
  plan : ℕ
  records : List Rec
  is_sheet : AllBytes s → s ≡ record_bytes records
  plain : AllPlain records
  fresh : Fresh [] records
  short : AllShort records
  in_kinds : AllKinds t records
  opts : List Opt
  reads : read_message w ≡ accepted opts
  in_order : items opts ≡ with52 plan (split_all records)

after : (t : Table) (s m : List ℕ) (permission q : ℕ) (w : List ℕ) (x : Sheet) → in_plan_order (sheet t s) ≡ x → 240 ≤ length m → length m ≤ 1472 → after_sheet m (plans permission) x ≡ wrote q w → Accepted t s w
after t s m permission q w (faulty n p) x h l e = clash (cc)
after t s m permission q w (sound rs) x h l e =
    let u : Used q w m (split_all rs) = used (plans permission) m (split_all rs) q w (small_plans permission) e in
    let f : Sound t s rs = sound_sheet t s rs (in_order_sound (sheet t s) rs x) in
    record {
      plan = q;
      records = rs;
      is_sheet = f.back;
      plain = f.plain;
      fresh = f.fresh;
      short = f.short;
      in_kinds = f.in_kinds;
      opts = _;
      reads = ap read_message u.is_written ∙ read_written q m (split_all rs) u.small h u.fits l (all_plain rs f.plain);
      in_order = items_written q (length m - 240) (split_all rs) u.fits.none_left;
    }

accepts : (t : Table) (s m : List ℕ) (permission q : ℕ) (w : List ℕ) → writer t s m permission ≡ wrote q w → Accepted t s w
unfolding writer
accepts t s m permission q w e =
    let p1 : (ltb (length m) 240 ≡ false) × _ = passed (ltb (length m) 240) 1 (length m) _ q w e in
    let p2 : (ltb 1472 (length m) ≡ false) × _ = passed (ltb 1472 (length m)) 2 (length m) _ q w p1.1 in
    let p3 : (ltb 3 permission ≡ false) × _ = passed (ltb 3 permission) 15 0 _ q w p2.1 in
    let p4 : (ltb 4096 (length s) ≡ false) × _ = passed (ltb 4096 (length s)) 16 (length s) _ q w p3.1 in
    after t s m permission q w (in_plan_order (sheet t s)) refl (ltb-false (length m) 240 p1.0) (ltb-false 1472 (length m) p2.0) p4.1

-- ---- the sheet comes back

pub written_is_accepted : WrittenIsAccepted
written_is_accepted t s m permission q w e = let a : Accepted t s w = accepts t s m permission q w e in record { options = a.opts; reads = a.reads }

pub sheet_comes_back : SheetComesBack
unfolding sheet_records
sheet_comes_back t s m permission q w old all e l =
    let a : Accepted t s w = accepts t s m permission q w e in
    let records_are : sheet_records a.opts ≡ a.records = ap (λ (x : List Rec). but52 (joined_records [] x)) a.in_order ∙ records_back a.plan a.records a.plain a.fresh in
    let is : record_bytes (sheet_records a.opts) ≡ s = ap record_bytes records_are ∙ sym (a.is_sheet all) in
    records_is w old a.reads ∙ ap (λ (x : List ℕ). filled_with x old) is ∙ rw (le-ltb (length old) (length s) l)

-- ---- what the lookup finds are the sheet's records

no_items : (os : List Opt) → items os ≡ [] → os ≡ []
unfolding items
no_items [] e = refl
no_items (o ∷ os) e = clash (cc)

items_none : items [] ≡ []
unfolding items
items_none = refl

-- the answer for a record with the data d
record Shown (t : Table) (set : ℕ → Bool) (c : ℕ) (d w : List ℕ) (a : Answer) : Type 0 where
  origin : Origin
  is : a ≡ Found origin (content_of t set c d)
  told : origin.wholeness ≡ wholeness_for d
  joined : JoinedBytes w c d

module _ (t : Table) (s w : List ℕ) (all : AllBytes s) (a : Accepted t s w) (c : ℕ) (n52 : c ≡ 52 → ⊥) where
  abbrev msg : IsAccepted w
  msg = record { options = a.opts; reads = a.reads }

  of_sheet : items (pieces c a.opts) ≡ with_code c (split_all a.records)
  of_sheet = pieces_items c a.opts ∙ ap (with_code c) a.in_order ∙ of_plan c a.plan (split_all a.records) n52

  in_records : (d : List ℕ) → RecordIn c d s → Has (rec c d) a.records
  in_records d r = record_has c d s a.records a.short r (a.is_sheet all)

  of_record_in : (d : List ℕ) → RecordIn c d s → items (pieces c a.opts) ≡ split_up (length d) c d
  of_record_in d r = of_sheet ∙ of_record c d [] a.records a.fresh (in_records d r)

  none_in : NoRecord c s → pieces c a.opts ≡ []
  none_in n =
      no_items (pieces c a.opts)
      (of_sheet ∙ of_none c a.records (λ d h. n d (subst (λ (l : List ℕ). RecordIn c d l) (sym (a.is_sheet all)) (has_record c d a.records a.short h))))

  module _ (set : ℕ → Bool) (l : 1 ≤ c) (u : c ≤ 254) where
    lookup_is : lookup t set w c ≡ shown t set c (pieces c a.opts)
    lookup_is = lookup_found t set w c msg (asked c l u)

    -- a record is shown with its bytes
    record_shown : (d : List ℕ) → RecordIn c d s → Shown t set c d w (lookup t set w c)
    record_shown d r = go (pieces c a.opts) refl
      where
        go : (ps : List Opt) → pieces c a.opts ≡ ps → Shown t set c d w (lookup t set w c)
        go [] e = absurd (split_some (length d) c d (sym (of_record_in d r) ∙ ap items e ∙ items_none))
        go (o ∷ os) e =
            let i : items (o ∷ os) ≡ split_up (length d) c d = ap items (sym e) ∙ of_record_in d r in
            let b : end_to_end (o ∷ os) ≡ d = end_items (o ∷ os) ∙ ap all_data i ∙ split_data (length d) c d in
            record {
              origin = origin_of o os;
              is = lookup_is ∙ ap (shown t set c) e ∙ ap (λ (x : List ℕ). Found (origin_of o os) (content_of t set c x)) b;
              told = whole_told c d (o ∷ os) i;
              joined = record { first = o; others = os; are_pieces = subst (PiecesOf w c) e (pieces_right w msg c); joined = b };
            }

    -- absent exactly where the sheet has no record
    absent_record : lookup t set w c ≡ Absent ↔ NoRecord c s
    absent_record =
        ((λ e d r. let h = record_shown d r in let z : Absent ≡ Found h.origin (content_of t set c d) = sym e ∙ h.is in clash (cc)), (λ n. lookup_is ∙ ap (shown t set c) (none_in n)))

    reads_as_unknown : is_known t set c ≡ false → ReadsAsUnknown t set c s w
    reads_as_unknown k =
        record {
          absent_iff = absent_record;
          else_unknown = λ d r. let h = record_shown d r in record { origin = h.origin; is = h.is ∙ rw k; pieces_told = h.told; joined = h.joined };
        }

    unbroken : is_known t set c ≡ true → (d : List ℕ) → RecordIn c d s → is_broken (t.value c d) ≡ false
    unbroken k d r = go (set c) (t.row c) k (kind_of t c d a.records a.in_kinds (in_records d r))
      where
        go : (x y : Bool) → cond x y false ≡ true → cond y (is_broken (t.value c d)) false ≡ false → is_broken (t.value c d) ≡ false
        go true true e f = f
        go true false e f = clash (cc)
        go false y e f = clash (cc)

-- ---- demand 3

-- the bytes that an answer gives are the record's
bytes_given : (t : Table) → Proper t → (set : ℕ → Bool) (c : ℕ) (d w : List ℕ) (n : ℕ) → JoinedBytes w c d → GivesLength (content_of t set c d) n → BytesOf w c n (take n d)
bytes_given t proper set c d w n j g = record { body = d; joined = j; enough = within g; firsts = refl }
  where
    within : GivesLength (content_of t set c d) n → n ≤ length d
    within = subst (λ (x : List ℕ). GivesLength (content_of t set c x) n → n ≤ length x) j.joined ((shown_bytes t proper set w c j.are_pieces).within n)

kind_shown : (t : Table) (set : ℕ → Bool) (c : ℕ) (d : List ℕ) (g : Origin) → is_known t set c ≡ true → is_broken (t.value c d) ≡ false → IsKind (Found g (content_of t set c d))
kind_shown t set c d g k unbroken = rw k (go (t.value c d) unbroken)
  where
    go : (v : Value) → is_broken v ≡ false → IsKind (Found g (known v))
    go (broken n) b = clash (cc)
    go (number x z) b = is_number
    go (part x n) b = is_part

pub demand_3_known : Demand3Known
demand_3_known t proper set s s' m m' permission permission' plan plan' w w' all all' e e' c l u n52 k same_record =
    record { same = same same_record; absent_iff = nowhere same_record; else_kind = kind }
  where
    a : Accepted t s w
    a = accepts t s m permission plan w e

    a' : Accepted t s' w'
    a' = accepts t s' m' permission' plan' w' e'

    gone : lookup t set w c ≡ Absent ↔ NoRecord c s
    gone = absent_record t s w all a c n52 set l u

    gone' : lookup t set w' c ≡ Absent ↔ NoRecord c s'
    gone' = absent_record t s' w' all' a' c n52 set l u

    nowhere : SameRecord c s s' → lookup t set w c ≡ Absent ↔ (NoRecord c s × NoRecord c s')
    nowhere (inl n) = ((λ x. n), (λ x. gone.1 x.0))
    nowhere (inr r) = ((λ x. absurd (gone.0 x r.0 r.1)), (λ x. gone.1 x.0))

    same : SameRecord c s s' → SameButPlace w w' c (lookup t set w c) (lookup t set w' c)
    same (inl n) = rw (gone.1 n.0, gone'.1 n.1) both_absent
    same (inr r) =
        let h = record_shown t s w all a c n52 set l u r.0 r.1 in
        let h' = record_shown t s' w' all' a' c n52 set l u r.0 r.2 in
        rw (h.is, h'.is)
        (both_found (h.told ∙ sym h'.told)
        (λ n g. (take n r.0, bytes_given t proper set c r.0 w n h.joined g, bytes_given t proper set c r.0 w' n h'.joined g)))

    kind : (d : List ℕ) → RecordIn c d s → IsKind (lookup t set w c)
    kind d r =
        let h = record_shown t s w all a c n52 set l u d r in
        rw h.is (kind_shown t set c d h.origin k (unbroken t s w all a c n52 set l u k d r))

pub demand_3_others : Demand3Others
demand_3_others t set s m permission plan w all e c l u n52 k = reads_as_unknown t s w all (accepts t s m permission plan w e) c n52 set l u k

pub demand_3 : Demand3
demand_3 t proper set s s' m m' permission permission' plan plan' w w' all all' e e' same-records c l u n52 = (
  (λ k. demand_3_known t proper set s s' m m' permission permission' plan plan' w w' all all' e e' c l u n52 k (same-records c k)),
  (λ k. (demand_3_others t set s m permission plan w all e c l u n52 k, demand_3_others t set s' m' permission' plan' w' all' e' c l u n52 k)),
)

pub demand_3_of_kinds : Demand3OfKinds
demand_3_of_kinds words = demand_3 kinds kinds_proper (marked words)
