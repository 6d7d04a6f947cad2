-- The writer over any list of plans tries them in their order: TriedOnly and TriedInOrder, proved. Assumes nothing.
use mathlib.Core.Path.{◌≡◌, refl, sym, ap, ◌∙◌, subst}
use mathlib.Core.List.{List, [], ◌∷◌}
use mathlib.Core.Bool.{Bool, true, false, cond}
use mathlib.Core.Logic.{◌⊎◌, inl, inr}
use Prim.Native.Nat.{ℕ, ◌-◌}
use native.Mathlib.Omega.{arith}
use lib.ListN.{length}
use lib.Dec.{ltb}
use borrow.Author.Tests.{ltb-true}
use Rattle.options.specs.Message.{Rec}
use Rattle.options.specs.Refusals.{When}
use Rattle.options.specs.Kinds.{Table}
use Rattle.options.specs.KindClaims.{AllBytes}
use Rattle.options.specs.Sheet.{first}
use Rattle.options.specs.SheetWalk.{Sheet, sound, faulty}
use Rattle.options.specs.Writing.{split_all, sheet, plan_fits, wrote, declined, in_plan_order, written, try_plans, after_sheet, writer_trying}
use Rattle.options.specs.WriterClaims.{Has, SheetPieces, Holding, WriteRow, write_1, write_2, write_15, write_16, write_record, write_order, TriedOnly, FirstHolding, this_one, a_later, TriedInOrder}
use Rattle.theorems.proofs.View.{clash}
use Rattle.writing_theorems.proofs.SheetLaws.{sound_sheet, in_order_sound}
use Rattle.writing_theorems.proofs.SheetRows.{Judges, judges}
use Rattle.writing_theorems.proofs.SheetOrder.{InOrder, in_order}
use Rattle.writing_theorems.proofs.Demand.{passed}
use Rattle.writing_theorems.proofs.Plans.{holding, fitting, fits_of}
use Rattle.writing_theorems.proofs.Writer.{Chosen, chosen, among_chosen, pieces_of, same_pieces}

-- what a writer that wrote has passed: its sheet is sound, and its plans were tried
record Reached (tries : List ℕ) (t : Table) (s m : List ℕ) (plan : ℕ) (w : List ℕ) : Type 0 where
  records : List Rec
  is_sound : sheet t s ≡ sound records
  tried : try_plans tries m (split_all records) ≡ wrote plan w

reached : (tries : ℕ → List ℕ) (t : Table) (s m : List ℕ) (k plan : ℕ) (w : List ℕ) → writer_trying tries t s m k ≡ wrote plan w → Reached (tries k) t s m plan w
reached tries t s m k plan w e =
    let p1 : (ltb (length m) 240 ≡ false) × _ = passed (ltb (length m) 240) 1 (length m) _ plan w e in
    let p2 : (ltb 1472 (length m) ≡ false) × _ = passed (ltb 1472 (length m)) 2 (length m) _ plan w p1.1 in
    let p3 : (ltb 3 k ≡ false) × _ = passed (ltb 3 k) 15 0 _ plan w p2.1 in
    let p4 : (ltb 4096 (length s) ≡ false) × _ = passed (ltb 4096 (length s)) 16 (length s) _ plan w p3.1 in
    go (in_plan_order (sheet t s)) refl p4.1
  where
    go : (x : Sheet) → in_plan_order (sheet t s) ≡ x → after_sheet m (tries k) x ≡ wrote plan w → Reached (tries k) t s m plan w
    go (faulty n p) i y = clash (cc)
    go (sound rs) i y = record { records = rs; is_sound = in_order_sound (sheet t s) rs i; tried = y }

pub tried_only : TriedOnly
tried_only tries t s m k plan w e =
    let r = reached tries t s m k plan w e in
    (among_chosen m (split_all r.records) (tries k) plan w (chosen m (split_all r.records) (tries k) plan w r.tried)).0

-- ---- the first that holds

module _ (m : List ℕ) (rs : List Rec) where
  first_of : (ps : List ℕ) (q : ℕ) (w : List ℕ) → Chosen m rs ps q w → FirstHolding (length m - 240) rs ps q
  first_of [] q w c = absurd c
  first_of (p ∷ ps) q w (inl c) =
      subst (FirstHolding (length m - 240) rs (p ∷ ps)) c.0 (this_one (holding p (length m - 240) rs (fits_of p (length m - 240) rs c.1)))
  first_of (p ∷ ps) q w (inr c) = a_later (λ h. clash (let f = fitting p (length m - 240) rs h in let g = c.0 in cc)) (first_of ps q w c.1)

  not_fitting : (p : ℕ) → (Holding p (length m - 240) rs → ⊥) → plan_fits p (length m - 240) rs ≡ false
  not_fitting p n = go (plan_fits p (length m - 240) rs) refl
    where
      go : (b : Bool) → plan_fits p (length m - 240) rs ≡ b → b ≡ false
      go true e = absurd (n (holding p (length m - 240) rs (fits_of p (length m - 240) rs e)))
      go false e = refl

  used_first : (ps : List ℕ) (q : ℕ) → FirstHolding (length m - 240) rs ps q → try_plans ps m rs ≡ wrote q (written q m rs)
  unfolding try_plans
  used_first [] q x' = elim x' [ ]
  used_first (p ∷ ps) q (this_one h) = rw (fitting p (length m - 240) rs h)
  used_first (p ∷ ps) q (a_later n f) = rw (not_fitting p n) (used_first ps q f)

-- ---- where no row applies but 11's, the plans are tried

module _ (tries : ℕ → List ℕ) (t : Table) (s m : List ℕ) (k : ℕ) (all : AllBytes s) (x : SheetPieces s)
    (only : (n p : ℕ) (w : When) → WriteRow t s m k n p w → w.part ≡ 7) where
  abbrev Gets : ℕ → Type 0
  Gets plan = (w : List ℕ) × (writer_trying tries t s m k ≡ wrote plan w)

  after_sheet_lem : (plan : ℕ) → FirstHolding (length m - 240) x.pieces (tries k) plan → (y : Sheet) → sheet t s ≡ y → Judges t s y
      → (w : List ℕ) × (after_sheet m (tries k) (in_plan_order y) ≡ wrote plan w)
  after_sheet_lem plan f (faulty n p) e j = absurd (let z = only n p _ (write_record j.applies) in omega (arith, z))
  after_sheet_lem plan f (sound rs) e j = let l = sound_sheet t s rs e in go (in_plan_order (sound rs)) refl (in_order t s rs l.short (l.back all) j)
    where
      go : (y : Sheet) → in_plan_order (sound rs) ≡ y → InOrder s y → (w : List ℕ) × (after_sheet m (tries k) y ≡ wrote plan w)
      go (faulty n p) q o = absurd (let z = only n p _ (write_order o.applies) in omega (arith, z))
      go (sound ts) q o =
          let same : x.pieces ≡ split_all ts = same_pieces s x (pieces_of s ts ((sound_sheet t s ts (e ∙ in_order_sound (sound rs) ts q)).back all)) in
          (_, used_first m (split_all ts) (tries k) plan (subst (λ (l : List Rec). FirstHolding (length m - 240) l (tries k) plan) same f))

  gets : (plan : ℕ) → FirstHolding (length m - 240) x.pieces (tries k) plan → Gets plan
  gets plan f = go (ltb (length m) 240) (ltb 1472 (length m)) (ltb 3 k) (ltb 4096 (length s)) refl refl refl refl
    where
      go : (a b c d : Bool) → ltb (length m) 240 ≡ a → ltb 1472 (length m) ≡ b → ltb 3 k ≡ c → ltb 4096 (length s) ≡ d
          → (w : List ℕ)
          × (cond a (declined 1 (length m)) (cond b (declined 2 (length m)) (cond c (declined 15 0) (cond d (declined 16 (length s)) (after_sheet m (tries k) (in_plan_order (sheet t s)))))) ≡ wrote plan w)
      go true b c d ea eb ec ed = absurd (let z = only _ _ _ (write_1 (ltb-true _ _ ea)) in omega (arith, z))
      go false true c d ea eb ec ed = absurd (let z = only _ _ _ (write_2 (ltb-true _ _ eb)) in omega (arith, z))
      go false false true d ea eb ec ed = absurd (let z = only _ _ _ (write_15 (ltb-true _ _ ec)) in omega (arith, z))
      go false false false true ea eb ec ed = absurd (let z = only _ _ _ (write_16 (ltb-true _ _ ed)) in omega (arith, z))
      go false false false false ea eb ec ed = after_sheet_lem plan f (sheet t s) refl (judges t s all)

  is_first : (plan : ℕ) → Gets plan → FirstHolding (length m - 240) x.pieces (tries k) plan
  is_first plan g =
      let r = reached tries t s m k plan g.0 g.1 in
      let same : split_all r.records ≡ x.pieces = same_pieces s (pieces_of s r.records ((sound_sheet t s r.records r.is_sound).back all)) x in
      subst (λ (l : List Rec). FirstHolding (length m - 240) l (tries k) plan) same
      (first_of m (split_all r.records) (tries k) plan g.0 (chosen m (split_all r.records) (tries k) plan g.0 r.tried))

pub tried_in_order : TriedInOrder
tried_in_order tries t s m k plan all x only = (is_first tries t s m k all x only plan, gets tries t s m k all x only plan)
