-- The plans that are permitted and those that are tried: plan 2 under permission 3 makes no difference. FileForSname, PlanTwoNeverFirst, PlanTwoNeedless, TriesRight, proved. Assumes nothing.
use mathlib.Core.Path.{◌≡◌, refl, sym, ap, ◌∙◌, subst}
use mathlib.Core.List.{List, [], ◌∷◌}
use mathlib.Core.Bool.{Bool, true, false, cond}
use mathlib.Core.Logic.{◌⊎◌, inl, inr}
use Prim.Native.Nat.{ℕ, zero, suc, ◌-◌, ◌≤◌}
use native.Mathlib.Omega.{arith}
use lib.ListN.{length, drop}
use lib.Dec.{ltb, leb, eqb}
use borrow.Author.Tests.{ltb-true, lt-ltb, leb-true, eqb-true, eqb-false}
use Rattle.options.specs.Message.{Rec}
use Rattle.options.specs.SheetWalk.{Sheet, sound, faulty}
use Rattle.options.specs.Writing.{size, fits, is_nil, past_options, past_file, past_sname, plan_fits, split_all, sheet, in_plan_order, Wrote, wrote, declined, written, permitted_plans, plans, try_plans, after_sheet, writer}
use Rattle.options.specs.WriterClaims.{Has, Permitted, plan_0, plan_1, plan_2, any_plan, Rising, Writes, FileForSname, PlanTwoNeverFirst, PlanTwoNeedless, TriesRight}
use Rattle.theorems.proofs.View.{clash}
use Rattle.writing_theorems.proofs.Demand.{both}
use Rattle.writing_theorems.proofs.Plans.{holding, fitting, fits_of}

-- ---- "records left over from options that fit in 64 bytes fit in 128"

-- what a field takes whole, a longer one does
longer_takes : (n k : ℕ) (rs : List Rec) → n ≤ k → is_nil (drop (fits n rs) rs) ≡ true → is_nil (drop (fits k rs) rs) ≡ true
unfolding fits
longer_takes n k [] h e = refl
longer_takes n k (r ∷ rs) h e = go (ltb (size r) n) refl (longer_takes (n - size r) (k - size r) rs (omega arith)) e
  where
    go : (b : Bool) → ltb (size r) n ≡ b
        → (is_nil (drop (fits (n - size r) rs) rs) ≡ true → is_nil (drop (fits (k - size r) rs) rs) ≡ true)
        → is_nil (drop (cond b (suc (fits (n - size r) rs)) 0) (r ∷ rs)) ≡ true
        → is_nil (drop (cond (ltb (size r) k) (suc (fits (k - size r) rs)) 0) (r ∷ rs)) ≡ true
    go true q ih z = rw (lt-ltb (size r) k (omega (arith, ltb-true (size r) n q))) (ih z)
    go false q ih z = clash (cc)

-- beside option 52 the options field takes the same, whatever its value
same_past : (n : ℕ) (rs : List Rec) → 4 ≤ n → past_options 2 n rs ≡ past_options 1 n rs
unfolding past_options fits
same_past n rs l = rw (lt-ltb 3 n l)

pub one_for_two : (n : ℕ) (rs : List Rec) → plan_fits 2 n rs ≡ true → plan_fits 1 n rs ≡ true
unfolding plan_fits past_sname past_file
one_for_two n rs e =
    let c = both (leb 4 n) (is_nil (past_sname 2 n rs)) e in
    let f : is_nil (drop (fits 128 (past_options 2 n rs)) (past_options 2 n rs)) ≡ true = longer_takes 64 128 (past_options 2 n rs) (omega arith) c.1 in
    ap (λ (b : Bool). cond b (is_nil (past_sname 1 n rs)) false) c.0
    ∙ subst (λ (l : List Rec). is_nil (drop (fits 128 l) l) ≡ true) (same_past n rs (leb-true 4 n c.0)) f

pub file_for_sname : FileForSname
file_for_sname n ps h = holding 1 n ps (fits_of 1 n ps (one_for_two n ps (fitting 2 n ps h)))

-- ---- "and file is tried first"

pub plan_two_never_first : PlanTwoNeverFirst
plan_two_never_first s m w x =
    x.none_lower 1 (any_plan (omega arith)) (omega arith) (file_for_sname (length m - 240) x.of_sheet.pieces x.written_as.holding)

pub same_tries : (k : ℕ) (m : List ℕ) (ps : List Rec) → try_plans (permitted_plans k) m ps ≡ try_plans (plans k) m ps
unfolding try_plans
same_tries k m ps = go (eqb k 0) (eqb k 1) (eqb k 2)
  where
    n : ℕ
    n = length m - 240

    four : (a b c : Bool) → plan_fits 1 n ps ≡ b → plan_fits 2 n ps ≡ c
        → cond a (wrote 0 (written 0 m ps)) (cond b (wrote 1 (written 1 m ps)) (cond c (wrote 2 (written 2 m ps)) (try_plans (3 ∷ []) m ps)))
        ≡ cond a (wrote 0 (written 0 m ps)) (cond b (wrote 1 (written 1 m ps)) (try_plans (3 ∷ []) m ps))
    four true b c e f = refl
    four false true c e f = refl
    four false false true e f = clash (let z = one_for_two n ps f in cc)
    four false false false e f = refl

    go : (a b c : Bool)
        → try_plans (cond a (0 ∷ []) (cond b (0 ∷ 1 ∷ []) (cond c (0 ∷ 2 ∷ []) (0 ∷ 1 ∷ 2 ∷ 3 ∷ [])))) m ps
        ≡ try_plans (cond a (0 ∷ []) (cond b (0 ∷ 1 ∷ []) (cond c (0 ∷ 2 ∷ []) (0 ∷ 1 ∷ 3 ∷ [])))) m ps
    go true b c = refl
    go false true c = refl
    go false false true = refl
    go false false false = four (plan_fits 0 n ps) (plan_fits 1 n ps) (plan_fits 2 n ps) refl refl

same_after : (k : ℕ) (m : List ℕ) (x : Sheet) → after_sheet m (permitted_plans k) x ≡ after_sheet m (plans k) x
same_after k m (faulty n p) = refl
same_after k m (sound rs) = same_tries k m (split_all rs)

pub plan_two_needless : PlanTwoNeedless
unfolding writer
plan_two_needless t s m k =
    ap (λ (w : Wrote). cond (ltb (length m) 240) (declined 1 (length m)) (cond (ltb 1472 (length m)) (declined 2 (length m)) (cond (ltb 3 k) (declined 15 0) (cond (ltb 4096 (length s)) (declined 16 (length s)) w)))) (same_after k m (in_plan_order (sheet t s)))

-- ---- The lists: what is permitted, and what is tried

three : (k : ℕ) → (k ≡ 0 → ⊥) → (k ≡ 1 → ⊥) → (k ≡ 2 → ⊥) → k ≤ 3 → k ≡ 3
three k x y z h = omega arith

pub permitted_is : (k q : ℕ) → Permitted k q → Has q (permitted_plans k)
permitted_is k q plan_0 = go (eqb k 0) (eqb k 1) (eqb k 2)
  where
    go : (a b c : Bool) → Has {A = ℕ} 0 (cond a (0 ∷ []) (cond b (0 ∷ 1 ∷ []) (cond c (0 ∷ 2 ∷ []) (0 ∷ 1 ∷ 2 ∷ 3 ∷ []))))
    go true b c = inl refl
    go false true c = inl refl
    go false false true = inl refl
    go false false false = inl refl
permitted_is k q plan_1 = inr (inl refl)
permitted_is k q plan_2 = inr (inl refl)
permitted_is k q (any_plan h) = four q h
  where
    four : (q : ℕ) → q ≤ 3 → Has q (0 ∷ 1 ∷ 2 ∷ 3 ∷ [])
    four zero h = inl refl
    four (suc zero) h = inr (inl refl)
    four (suc (suc zero)) h = inr (inr (inl refl))
    four (suc (suc (suc zero))) h = inr (inr (inr (inl refl)))
    four (suc (suc (suc (suc q)))) h = absurd (omega arith)

pub is_permitted : (k q : ℕ) → k ≤ 3 → Has q (permitted_plans k) → Permitted k q
is_permitted k q h a = go (eqb k 0) (eqb k 1) (eqb k 2) refl refl refl a
  where
    all : Has q (0 ∷ 1 ∷ 2 ∷ 3 ∷ []) → q ≤ 3
    all (inl e) = omega arith
    all (inr (inl e)) = omega arith
    all (inr (inr (inl e))) = omega arith
    all (inr (inr (inr (inl e)))) = omega arith
    all (inr (inr (inr (inr e)))) = absurd e

    go : (a b c : Bool) → eqb k 0 ≡ a → eqb k 1 ≡ b → eqb k 2 ≡ c → Has q (cond a (0 ∷ []) (cond b (0 ∷ 1 ∷ []) (cond c (0 ∷ 2 ∷ []) (0 ∷ 1 ∷ 2 ∷ 3 ∷ []))))
        → Permitted k q
    go true b c x y z (inl e) = subst (Permitted k) (sym e) plan_0
    go true b c x y z (inr e) = absurd e
    go false true c x y z (inl e) = subst (Permitted k) (sym e) plan_0
    go false true c x y z (inr (inr e)) = absurd e
    go false true c x y z (inr (inl e)) = rw (eqb-true k 1 y, e) plan_1
    go false false true x y z (inl e) = subst (Permitted k) (sym e) plan_0
    go false false true x y z (inr (inr e)) = absurd e
    go false false true x y z (inr (inl e)) = rw (eqb-true k 2 z, e) plan_2
    go false false false x y z a = rw (three k (eqb-false k 0 x) (eqb-false k 1 y) (eqb-false k 2 z) h) (any_plan (all a))

-- tried is what is permitted, but for plan 2 under permission 3
tried_is : (k q : ℕ) → Has q (plans k) → Has q (permitted_plans k)
tried_is k q a = go (eqb k 0) (eqb k 1) (eqb k 2) a
  where
    go : (a b c : Bool) → Has q (cond a (0 ∷ []) (cond b (0 ∷ 1 ∷ []) (cond c (0 ∷ 2 ∷ []) (0 ∷ 1 ∷ 3 ∷ []))))
        → Has q (cond a (0 ∷ []) (cond b (0 ∷ 1 ∷ []) (cond c (0 ∷ 2 ∷ []) (0 ∷ 1 ∷ 2 ∷ 3 ∷ []))))
    go true b c x = x
    go false true c x = x
    go false false true x = x
    go false false false (inl e) = inl e
    go false false false (inr (inl e)) = inr (inl e)
    go false false false (inr (inr x)) = inr (inr (inr x))

pub not_two : (q : ℕ) → Has q (plans 3) → q ≡ 2 → ⊥
not_two q (inl e) z = omega arith
not_two q (inr (inl e)) z = omega arith
not_two q (inr (inr (inl e))) z = omega arith
not_two q (inr (inr (inr e))) z = e

is_tried : (k q : ℕ) → k ≤ 3 → Permitted k q → (k ≡ 3 → q ≡ 2 → ⊥) → Has q (plans k)
is_tried k q h a n = go (eqb k 0) (eqb k 1) (eqb k 2) refl refl refl (permitted_is k q a)
  where
    go : (a b c : Bool) → eqb k 0 ≡ a → eqb k 1 ≡ b → eqb k 2 ≡ c → Has q (cond a (0 ∷ []) (cond b (0 ∷ 1 ∷ []) (cond c (0 ∷ 2 ∷ []) (0 ∷ 1 ∷ 2 ∷ 3 ∷ []))))
        → Has q (cond a (0 ∷ []) (cond b (0 ∷ 1 ∷ []) (cond c (0 ∷ 2 ∷ []) (0 ∷ 1 ∷ 3 ∷ []))))
    go true b c x y z w = w
    go false true c x y z w = w
    go false false true x y z w = w
    go false false false x y z (inl e) = inl e
    go false false false x y z (inr (inl e)) = inr (inl e)
    go false false false x y z (inr (inr (inl e))) = absurd (n (three k (eqb-false k 0 x) (eqb-false k 1 y) (eqb-false k 2 z) h) e)
    go false false false x y z (inr (inr (inr w))) = inr (inr w)

pub rising : (k : ℕ) → Rising 0 (permitted_plans k)
rising k = go (eqb k 0) (eqb k 1) (eqb k 2)
  where
    go : (a b c : Bool) → Rising 0 (cond a (0 ∷ []) (cond b (0 ∷ 1 ∷ []) (cond c (0 ∷ 2 ∷ []) (0 ∷ 1 ∷ 2 ∷ 3 ∷ []))))
    go true b c = omega arith
    go false true c = omega arith
    go false false true = omega arith
    go false false false = omega arith

tried_rising : (k : ℕ) → Rising 0 (plans k)
tried_rising k = go (eqb k 0) (eqb k 1) (eqb k 2)
  where
    go : (a b c : Bool) → Rising 0 (cond a (0 ∷ []) (cond b (0 ∷ 1 ∷ []) (cond c (0 ∷ 2 ∷ []) (0 ∷ 1 ∷ 3 ∷ []))))
    go true b c = omega arith
    go false true c = omega arith
    go false false true = omega arith
    go false false false = omega arith

pub tries_right : TriesRight
tries_right k q h =
    record {
      permitted = (is_permitted k q h, permitted_is k q);
      tried = ((λ a. (is_permitted k q h (tried_is k q a), λ e. not_two q (subst (λ (i : ℕ). Has q (plans i)) e a))), (λ x. is_tried k q h x.0 x.1));
      rising = (rising k, tried_rising k);
    }
