-- The writer refuses by the table: RefusesByTheTable and DeclinedIff, proved. Assumes nothing.
use mathlib.Core.Path.{◌≡◌, refl, sym, ap, ap₂, ◌∙◌, subst}
use mathlib.Core.List.{List, [], ◌∷◌}
use mathlib.Core.Bool.{Bool, true, false, cond}
use mathlib.Core.Logic.{◌⊎◌, inl, inr, ⊎_elim}
use Prim.Native.Nat.{ℕ, ◌+◌, ◌-◌, ◌≤◌, ◌<◌}
use native.Mathlib.Omega.{arith}
use lib.ListN.{length}
use lib.Dec.{ltb, eqb}
use borrow.Author.Tests.{ltb-true, ltb-false, eqb-true, eqb-false}
use Rattle.options.specs.Message.{Rec}
use Rattle.options.specs.Refusals.{When, Before, by_part, by_offset, by_number}
use Rattle.options.specs.Kinds.{Table}
use Rattle.options.specs.Answers.{record_bytes}
use Rattle.options.specs.KindClaims.{AllBytes}
use Rattle.options.specs.SheetRefusals.{SheetRow, OrderRow, row_14, row_23}
use Rattle.options.specs.SheetWalk.{AllShort, Sheet, sound, faulty}
use Rattle.options.specs.Writing.{split_all, sheet, Wrote, wrote, declined, in_plan_order, plan_fits, permitted_plans, plans, try_plans, after_sheet, written, writer}
use Rattle.options.specs.WriterClaims.{Has, SheetPieces, Permitted, Holding, step, WriteRow, write_1, write_2, write_15, write_16, write_record, write_order, write_11, FirstWriteRow, WriterSays, RefusesByTheTable, CorrectWrite, DeclinedIff}
use Rattle.theorems.proofs.View.{clash}
use Rattle.theorems.proofs.Reading.{order}
use Rattle.writing_theorems.proofs.SheetLaws.{sound_sheet, in_order_sound}
use Rattle.writing_theorems.proofs.SheetRows.{FirstSheetRow, Judges, judges, same_number}
use Rattle.writing_theorems.proofs.SheetOrder.{FirstOrderRow, InOrder, in_order}
use Rattle.writing_theorems.proofs.Writer.{pieces_of, same_pieces, writer_writes}
use Rattle.writing_theorems.proofs.Plans.{holding, fitting, fits_of}
use Rattle.writing_theorems.proofs.Tries.{same_tries, is_permitted, permitted_is}

module _ (t : Table) (s m : List ℕ) (permission : ℕ) where
  -- no row comes at a step before k
  record Late (k : ℕ) : Type 0 where
    l_1 : 1 < k → length m < 240 → ⊥
    l_2 : 2 < k → 1472 < length m → ⊥
    l_15 : 3 < k → 3 < permission → ⊥
    l_16 : 4 < k → 4096 < length s → ⊥
    l_record : 5 < k → (n i q : ℕ) → SheetRow t s n i q → ⊥
    l_order : 6 < k → (n i q : ℕ) → OrderRow s n i q → ⊥
    l_11 : 7 < k → (x : SheetPieces s) → ((p : ℕ) → Permitted permission p → Holding p (length m - 240) x.pieces → ⊥) → ⊥

  none_early : (k : ℕ) → Late k → {n p : ℕ} {w : When} → WriteRow t s m permission n p w → w.part < k → ⊥
  none_early k f (write_1 h) l = f.l_1 l h
  none_early k f (write_2 h) l = f.l_2 l h
  none_early k f (write_15 h) l = f.l_15 l h
  none_early k f (write_16 h) l = f.l_16 l h
  none_early k f (write_record {n = n} {i = i} {rank = q} h) l = f.l_record l n i q h
  none_early k f (write_order {n = n} {i = i} {rank = q} h) l = f.l_order l n i q h
  none_early k f (write_11 x h) l = f.l_11 l x h

  first_step : (k n p : ℕ) → Late k → WriteRow t s m permission n p (step k) → FirstWriteRow t s m permission n p
  first_step k n p f r = record { when = step k; applies = r; none_before = λ x b. none x b }
    where
      none : {a q : ℕ} {w : When} → WriteRow t s m permission a q w → Before w (step k) → ⊥
      none x (by_part l) = none_early k f x l
      none x (by_offset e l) = omega arith
      none x (by_number e d l) = omega arith

  -- the rows of records, and of their order, by their step
  at_5 : {n p : ℕ} {w : When} → WriteRow t s m permission n p w → w.part ≡ 5 → SheetRow t s n w.offset w.number
  at_5 (write_1 h) e = absurd (omega arith)
  at_5 (write_2 h) e = absurd (omega arith)
  at_5 (write_15 h) e = absurd (omega arith)
  at_5 (write_16 h) e = absurd (omega arith)
  at_5 (write_record h) e = h
  at_5 (write_order h) e = absurd (omega arith)
  at_5 (write_11 x h) e = absurd (omega arith)

  at_6 : {n p : ℕ} {w : When} → WriteRow t s m permission n p w → w.part ≡ 6 → OrderRow s n w.number w.offset
  at_6 (write_1 h) e = absurd (omega arith)
  at_6 (write_2 h) e = absurd (omega arith)
  at_6 (write_15 h) e = absurd (omega arith)
  at_6 (write_16 h) e = absurd (omega arith)
  at_6 (write_record h) e = absurd (omega arith)
  at_6 (write_order h) e = h
  at_6 (write_11 x h) e = absurd (omega arith)

  first_record_lem : (n i : ℕ) → Late 5 → FirstSheetRow t s n i → FirstWriteRow t s m permission n i
  first_record_lem n i f r = record { when = record { part = 5; offset = i; number = r.rank }; applies = write_record r.applies; none_before = λ x b. none x b }
    where
      none : {a q : ℕ} {w : When} → WriteRow t s m permission a q w → Before w (record { part = 5; offset = i; number = r.rank }) → ⊥
      none x (by_part l) = none_early 5 f x l
      none {a} {q} {w} x (by_offset e l) = ⊎_elim (λ (z : i < w.offset). omega arith) (λ (z : (i ≡ w.offset) × (r.rank ≤ w.number)). omega (arith, z.0)) (r.none_before (at_5 x e))
      none {a} {q} {w} x (by_number e d l) = ⊎_elim (λ (z : i < w.offset). omega arith) (λ (z : (i ≡ w.offset) × (r.rank ≤ w.number)). omega (arith, z.1)) (r.none_before (at_5 x e))

  first_order : (n i : ℕ) → Late 6 → FirstOrderRow s n i → FirstWriteRow t s m permission n i
  first_order n i f r = record { when = record { part = 6; offset = r.rank; number = i }; applies = write_order r.applies; none_before = λ x b. none x b }
    where
      none : {a q : ℕ} {w : When} → WriteRow t s m permission a q w → Before w (record { part = 6; offset = r.rank; number = i }) → ⊥
      none x (by_part l) = none_early 6 f x l
      none {a} {q} {w} x (by_offset e l) = ⊎_elim (λ (z : r.rank < w.offset). omega arith) (λ (z : (r.rank ≡ w.offset) × (i ≤ w.number)). omega (arith, z.0)) (r.none_before (at_6 x e))
      none {a} {q} {w} x (by_number e d l) = ⊎_elim (λ (z : r.rank < w.offset). omega arith) (λ (z : (r.rank ≡ w.offset) × (i ≤ w.number)). omega (arith, z.1)) (r.none_before (at_6 x e))

-- ---- the plans

abbrev Tried : List ℕ → List Rec → List ℕ → Wrote → Type 0
Tried m rs ps (declined n p) = (n ≡ 11) × (p ≡ length m) × ((x : ℕ) → Has x ps → plan_fits x (length m - 240) rs ≡ false)
Tried m rs ps (wrote q w) = Has q ps × (plan_fits q (length m - 240) rs ≡ true)

tried_more : (m : List ℕ) (rs : List Rec) (p : ℕ) (ps : List ℕ) (w : Wrote) → plan_fits p (length m - 240) rs ≡ false → Tried m rs ps w → Tried m rs (p ∷ ps) w
tried_more m rs p ps (declined n q) e t =
    (t.0, t.1, λ x a. ⊎_elim (λ (z : x ≡ p). subst (λ (y : ℕ). plan_fits y (length m - 240) rs ≡ false) (sym z) e) (λ (z : Has x ps). t.2 x z) a)
tried_more m rs p ps (wrote q w) e t = (inr t.0, t.1)

tried : (m : List ℕ) (rs : List Rec) (ps : List ℕ) → Tried m rs ps (try_plans ps m rs)
unfolding try_plans
tried m rs [] = (refl, refl, λ x a. absurd a)
tried m rs (p ∷ ps) = go (plan_fits p (length m - 240) rs) refl (tried m rs ps)
  where
    go : (b : Bool) → plan_fits p (length m - 240) rs ≡ b → Tried m rs ps (try_plans ps m rs) → Tried m rs (p ∷ ps) (cond b (wrote p (written p m rs)) (try_plans ps m rs))
    go true e t = (inl refl, e)
    go false e t = tried_more m rs p ps (try_plans ps m rs) e t

module _ (t : Table) (s m : List ℕ) (permission : ℕ) (h1 : 240 ≤ length m) (h2 : length m ≤ 1472) (h3 : permission ≤ 3) (h4 : length s ≤ 4096) where
  late_5 : Late t s m permission 5
  late_5 =
      record {
        l_1 = λ l x. omega arith;
        l_2 = λ l x. omega arith;
        l_15 = λ l x. omega arith;
        l_16 = λ l x. omega arith;
        l_record = λ l. absurd (omega arith);
        l_order = λ l. absurd (omega arith);
        l_11 = λ l. absurd (omega arith);
      }

  module _ (rs : List Rec) (short : AllShort rs) (is : s ≡ record_bytes rs) (clean : (n i q : ℕ) → SheetRow t s n i q → ⊥) where
    late_6 : Late t s m permission 6
    late_6 =
        record {
          l_1 = λ l x. omega arith;
          l_2 = λ l x. omega arith;
          l_15 = λ l x. omega arith;
          l_16 = λ l x. omega arith;
          l_record = λ l. clean;
          l_order = λ l. absurd (omega arith);
          l_11 = λ l. absurd (omega arith);
        }

    module _ (orderly : (n i q : ℕ) → OrderRow s n i q → ⊥) where
      late_7 : Late t s m permission 7
      late_7 =
          record {
            l_1 = λ l x. omega arith;
            l_2 = λ l x. omega arith;
            l_15 = λ l x. omega arith;
            l_16 = λ l x. omega arith;
            l_record = λ l. clean;
            l_order = λ l. orderly;
            l_11 = λ l. absurd (omega arith);
          }

      late_8 : (q : ℕ) → Permitted permission q → Holding q (length m - 240) (split_all rs) → Late t s m permission 8
      late_8 q a h =
          record {
            l_1 = λ l x. omega arith;
            l_2 = λ l x. omega arith;
            l_15 = λ l x. omega arith;
            l_16 = λ l x. omega arith;
            l_record = λ l. clean;
            l_order = λ l. orderly;
            l_11 = λ l x f. f q a (subst (Holding q (length m - 240)) (same_pieces s (pieces_of s rs is) x) h);
          }

      step_8 : {n p : ℕ} {w : When} → WriteRow t s m permission n p w → w.part < 8
      step_8 (write_1 h) = omega arith
      step_8 (write_2 h) = omega arith
      step_8 (write_15 h) = omega arith
      step_8 (write_16 h) = omega arith
      step_8 (write_record h) = omega arith
      step_8 (write_order h) = omega arith
      step_8 (write_11 x h) = omega arith

      plans_say : (x : Wrote) → Tried m (split_all rs) (permitted_plans permission) x → WriterSays t s m permission x
      plans_say (declined n p) y =
          subst (λ (k : ℕ). FirstWriteRow t s m permission k p) (sym y.0)
          (subst (λ (k : ℕ). FirstWriteRow t s m permission 11 k) (sym y.1)
          (first_step t s m permission 7 11 (length m) late_7
          (write_11 (pieces_of s rs is) (λ q a h. clash (let f = y.2 q (permitted_is permission q a) in let g = fitting q (length m - 240) (split_all rs) h in cc)))))
      plans_say (wrote q w) y =
          λ n p x r. none_early t s m permission 8 (late_8 q (is_permitted permission q h3 y.0) (holding q (length m - 240) (split_all rs) (fits_of q (length m - 240) (split_all rs) y.1))) r (step_8 r)

    ordered_says : (x : Sheet) → in_plan_order (sound rs) ≡ x → InOrder s x → WriterSays t s m permission (after_sheet m (plans permission) x)
    ordered_says (faulty n p) e o = first_order t s m permission n p late_6 o
    ordered_says (sound ts) e o =
        subst (λ (ys : List Rec). WriterSays t s m permission (try_plans (plans permission) m (split_all ys))) (sound_same rs ts (in_order_sound (sound rs) ts e))
        (plans_say o (try_plans (plans permission) m (split_all rs))
        (subst (Tried m (split_all rs) (permitted_plans permission)) (same_tries permission m (split_all rs)) (tried m (split_all rs) (permitted_plans permission))))
      where
        sound_same : (ys zs : List Rec) → sound ys ≡ sound zs → ys ≡ zs
        sound_same ys zs q = cc

  sheet_says : (x : Sheet) → AllBytes s → sheet t s ≡ x → Judges t s x → WriterSays t s m permission (after_sheet m (plans permission) (in_plan_order x))
  sheet_says (faulty n p) all e j = first_record_lem t s m permission n p late_5 j
  sheet_says (sound rs) all e j = let f = sound_sheet t s rs e in ordered_says rs f.short (f.back all) j (in_plan_order (sound rs)) refl (in_order t s rs f.short (f.back all) j)

pub refuses_by_the_table : RefusesByTheTable
unfolding writer
refuses_by_the_table t s m permission all = go (ltb (length m) 240) (ltb 1472 (length m)) (ltb 3 permission) (ltb 4096 (length s)) refl refl refl refl
  where
    go : (a b c d : Bool) → ltb (length m) 240 ≡ a → ltb 1472 (length m) ≡ b → ltb 3 permission ≡ c → ltb 4096 (length s) ≡ d
        → WriterSays t s m permission (cond a (declined 1 (length m)) (cond b (declined 2 (length m)) (cond c (declined 15 0) (cond d (declined 16 (length s)) (after_sheet m (plans permission) (in_plan_order (sheet t s)))))))
    go true b c d ea eb ec ed = first_step t s m permission 1 1 (length m) (record {
      l_1 = λ l. absurd (omega arith);
      l_2 = λ l. absurd (omega arith);
      l_15 = λ l. absurd (omega arith);
      l_16 = λ l. absurd (omega arith);
      l_record = λ l. absurd (omega arith);
      l_order = λ l. absurd (omega arith);
      l_11 = λ l. absurd (omega arith);
    }) (write_1 (ltb-true _ _ ea))
    go false true c d ea eb ec ed = first_step t s m permission 2 2 (length m) (record {
      l_1 = λ l x. omega (arith, ltb-false (length m) 240 ea);
      l_2 = λ l. absurd (omega arith);
      l_15 = λ l. absurd (omega arith);
      l_16 = λ l. absurd (omega arith);
      l_record = λ l. absurd (omega arith);
      l_order = λ l. absurd (omega arith);
      l_11 = λ l. absurd (omega arith);
    }) (write_2 (ltb-true _ _ eb))
    go false false true d ea eb ec ed = first_step t s m permission 3 15 0 (record {
      l_1 = λ l x. omega (arith, ltb-false (length m) 240 ea);
      l_2 = λ l x. omega (arith, ltb-false 1472 (length m) eb);
      l_15 = λ l. absurd (omega arith);
      l_16 = λ l. absurd (omega arith);
      l_record = λ l. absurd (omega arith);
      l_order = λ l. absurd (omega arith);
      l_11 = λ l. absurd (omega arith);
    }) (write_15 (ltb-true _ _ ec))
    go false false false true ea eb ec ed = first_step t s m permission 4 16 (length s) (record {
      l_1 = λ l x. omega (arith, ltb-false (length m) 240 ea);
      l_2 = λ l x. omega (arith, ltb-false 1472 (length m) eb);
      l_15 = λ l x. omega (arith, ltb-false 3 permission ec);
      l_16 = λ l. absurd (omega arith);
      l_record = λ l. absurd (omega arith);
      l_order = λ l. absurd (omega arith);
      l_11 = λ l. absurd (omega arith);
    }) (write_16 (ltb-true _ _ ed))
    go false false false false ea eb ec ed =
        sheet_says t s m permission (ltb-false (length m) 240 ea) (ltb-false 1472 (length m) eb) (ltb-false 3 permission ec) (ltb-false 4096 (length s) ed) (sheet t s) all refl (judges t s all)

-- one half of WriterIsCorrect
pub writer_correct : (t : Table) (s m : List ℕ) (permission : ℕ) (x : Wrote) → AllBytes s → writer t s m permission ≡ x → CorrectWrite t s m permission x
writer_correct t s m permission (declined n p) all e = subst (WriterSays t s m permission) e (refuses_by_the_table t s m permission all)
writer_correct t s m permission (wrote q w) all e = (subst (WriterSays t s m permission) e (refuses_by_the_table t s m permission all), writer_writes t s m permission q w all e)

-- ---- the first row is one

abbrev step_number : When → ℕ
step_number w = cond (eqb w.part 1) 1 (cond (eqb w.part 2) 2 (cond (eqb w.part 3) 15 (cond (eqb w.part 4) 16 (cond (eqb w.part 6) (cond (eqb w.offset 0) 14 23) 11))))

abbrev step_place : List ℕ → List ℕ → When → ℕ
step_place s m w = cond (eqb w.part 3) 0 (cond (eqb w.part 4) (length s) (cond (eqb w.part 5) w.offset (cond (eqb w.part 6) w.number (length m))))

module _ {t : Table} {s m : List ℕ} {permission : ℕ} where
  place_told : {n p : ℕ} {w : When} → WriteRow t s m permission n p w → p ≡ step_place s m w
  place_told (write_1 h) = refl
  place_told (write_2 h) = refl
  place_told (write_15 h) = refl
  place_told (write_16 h) = refl
  place_told (write_record h) = refl
  place_told (write_order h) = refl
  place_told (write_11 x h) = refl

  number_told : {n p : ℕ} {w : When} → WriteRow t s m permission n p w → (w.part ≡ 5 → ⊥) → n ≡ step_number w
  number_told (write_1 h) x = refl
  number_told (write_2 h) x = refl
  number_told (write_15 h) x = refl
  number_told (write_16 h) x = refl
  number_told (write_record h) x = absurd (x refl)
  number_told (write_order (row_14 a b c)) x = refl
  number_told (write_order (row_23 a b c)) x = refl
  number_told (write_11 y h) x = refl

  same_row : {n p k q : ℕ} {w x : When} → w ≡ x → WriteRow t s m permission n p w → WriteRow t s m permission k q x → (n ≡ k) × (p ≡ q)
  same_row {n} {p} {k} {q} {w} {x} e a b = (go (eqb w.part 5) refl, place_told a ∙ ap (step_place s m) e ∙ sym (place_told b))
    where
      c : WriteRow t s m permission k q w
      c = subst (λ (y : When). WriteRow t s m permission k q y) (sym e) b

      go : (y : Bool) → eqb w.part 5 ≡ y → n ≡ k
      go true z = same_number (at_5 t s m permission a (eqb-true w.part 5 z)) (at_5 t s m permission c (eqb-true w.part 5 z))
      go false z = number_told a (eqb-false w.part 5 z) ∙ sym (number_told c (eqb-false w.part 5 z))

  first_one : {n p k q : ℕ} → FirstWriteRow t s m permission n p → FirstWriteRow t s m permission k q → (n ≡ k) × (p ≡ q)
  first_one {n} {p} {k} {q} a b = go (order a.when b.when)
    where
      go : Before a.when b.when ⊎ ((a.when ≡ b.when) ⊎ Before b.when a.when) → (n ≡ k) × (p ≡ q)
      go (inl z) = absurd (b.none_before a.applies z)
      go (inr (inl z)) = same_row z a.applies b.applies
      go (inr (inr z)) = absurd (a.none_before b.applies z)

pub declined_iff : DeclinedIff
declined_iff t s m permission n p all = ((λ e. subst (WriterSays t s m permission) e (refuses_by_the_table t s m permission all)), (λ f. back f (writer t s m permission) (refuses_by_the_table t s m permission all)))
  where
    back : FirstWriteRow t s m permission n p → (x : Wrote) → WriterSays t s m permission x → x ≡ declined n p
    back f (declined k q) u = ap₂ declined (first_one u f).0 (first_one u f).1
    back f (wrote k q) u = absurd (u n p f.when f.applies)
