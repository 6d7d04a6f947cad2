-- Whether a plan fits, the plans tried one after the other, and the tests before them. Assumes nothing.
use mathlib.Core.Path.{◌≡◌, refl, sym, ap, ap₂, ◌∙◌}
use mathlib.Core.List.{List, [], ◌∷◌}
use mathlib.Core.Bool.{Bool, true, false, cond}
use Prim.Native.Nat.{ℕ, ◌-◌, ◌<◌, ◌≤◌}
use native.Mathlib.Omega.{arith}
use lib.ListN.{length}
use lib.Dec.{eqb, ltb}
use borrow.Author.Tests.{lt-ltb, le-ltb, lt-leb, eq-eqb, ne_eqb, eqb-true, eqb-false}
use Rattle.options.specs.Message.{Rec}
use Rattle.options.specs.Kinds.{kinds}
use Rattle.options.specs.Writing.{wrote, pieces_left, plan_fits, written, plans, try_plans, sheet, in_plan_order, after_sheet, writer}
use Rattle.writing_theorems.proofs.PieceSteps.{pieces_at_record}
use Rattle.sheet.specs.Places.{unless_0}
use Rattle.sheet.specs.Judge.{judge_of}
use Rattle.sheet.proofs.Verdicts.{Accepted, tries, refused}
use Rattle.plan.specs.Answer.{Choice, Plan, Refused, answer_of, single_of, Answers}
use Rattle.std.specs.Prelude.{Some, None}
use Rattle.refusal.specs.declared.Refusal.{Refusal}
use Rattle.refusal.specs.Refused.{number_of}
use Rattle.plan.specs.Steps.{sizes, overloading, first_fit, Tries}
use Rattle.plan.proofs.Sizes.{after_options_value, after_file_value, fits_1, fits_2, fits_3}

-- a refusal by a rule at a place
pub refused_as : {r x : Refusal} → r ≡ x → Refused (number_of r.rule) r.place ≡ Refused (number_of x.rule) x.place
refused_as e = ap (λ (y : Refusal). Refused (number_of y.rule) y.place) e

-- a plan, where 0 stands for none
pub plan_some : (b : Bool) (p : ℕ) → (p ≡ 0 → ⊥) → cond b (Some p) None ≡ unless_0 (cond b p 0)
plan_some true p h = sym (rw (ne_eqb p 0 h) refl)
plan_some false p h = refl

no_room : (p n : ℕ) (rs : List Rec) → n < cond (eqb p 0) 1 4 → false ≡ plan_fits p n rs
unfolding plan_fits
no_room p n rs h = rw (lt-leb (cond (eqb p 0) 1 4) n h)

-- ---- The plans that overload

module _ (n : ℕ) (rs : List Rec) (permission : ℕ) (some : permission ≡ 0 → ⊥) where
  -- the answer, as `overload_plan` gives it
  abbrev chosen : ℕ
  chosen = first_fit (overloading permission) n rs

  of_2 : permission ≡ 2 → chosen ≡ cond (plan_fits 2 n rs) 2 0
  unfolding first_fit
  of_2 e = rw (ne_eqb permission 0 some, ne_eqb permission 1 (λ z. omega arith), eq-eqb permission 2 e)

  of_1 : permission ≡ 1 → chosen ≡ cond (plan_fits 1 n rs) 1 0
  unfolding first_fit
  of_1 e = rw (ne_eqb permission 0 some, eq-eqb permission 1 e)

  of_3 : (permission ≡ 1 → ⊥) → (permission ≡ 2 → ⊥) → chosen ≡ cond (plan_fits 1 n rs) 1 (cond (plan_fits 3 n rs) 3 0)
  unfolding first_fit
  of_3 n1 n2 = rw (ne_eqb permission 0 some, ne_eqb permission 1 n1, ne_eqb permission 2 n2)

  pub none_small : n < 4 → 0 ≡ chosen
  unfolding first_fit
  none_small h = sym (go (eqb permission 0) (eqb permission 1) (eqb permission 2))
    where
      go : (a b c : Bool) → first_fit (cond a [] (cond b (1 ∷ []) (cond c (2 ∷ []) (1 ∷ 3 ∷ [])))) n rs ≡ 0
      go true b c = refl
      go false true c = rw (← no_room 1 n rs h)
      go false false true = rw (← no_room 2 n rs h)
      go false false false = rw (← no_room 1 n rs h, ← no_room 3 n rs h)

  -- a is what the options after the options field take
  module _ (l : 4 ≤ n) (a : ℕ) (ea : a ≡ sizes (after_options_value n rs l)) where
    -- where sname takes them all, and where file does
    sname_takes : plan_fits 2 n rs ≡ ltb a 64
    sname_takes = rw ea (fits_2 n rs l)

    file_takes : (b : Bool) → ltb a 128 ≡ b → plan_fits 1 n rs ≡ b
    file_takes b q = fits_1 n rs l ∙ (rw (← ea) q)

    pub sname_only : (r : ℕ) → permission ≡ 2 → r ≡ cond (ltb a 64) 2 0 → r ≡ chosen
    sname_only r e er = er ∙ sym (of_2 e ∙ ap (λ (b : Bool). cond b 2 0) sname_takes)

    module _ (n2 : permission ≡ 2 → ⊥) where
      pub with_file : a < 128 → 1 ≡ chosen
      with_file h = sym (go (eqb permission 1) refl)
        where
          go : (b : Bool) → eqb permission 1 ≡ b → chosen ≡ 1
          go true q = of_1 (eqb-true permission 1 q) ∙ (rw (file_takes true (lt-ltb a 128 h)))
          go false q = of_3 (eqb-false permission 1 q) n2 ∙ (rw (file_takes true (lt-ltb a 128 h)))

      module _ (h : 128 ≤ a) where
        pub file_only : permission ≡ 1 → 0 ≡ chosen
        file_only e = sym (of_1 e ∙ (rw (file_takes false (le-ltb a 128 h))))

        -- plan 3 is left
        pub with_both : (permission ≡ 1 → ⊥) → (f : ℕ) → f ≡ sizes (after_file_value n rs l) → (r : ℕ) → r ≡ cond (ltb f 64) 3 0 → r ≡ chosen
        with_both n1 f ef r er =
            let three : plan_fits 3 n rs ≡ ltb f 64 = rw ef (fits_3 n rs l) in
            er ∙ sym (of_3 n1 n2 ∙ (rw (file_takes false (le-ltb a 128 h), three)))

-- ---- The plans, one after the other

-- each of these plans overloads
abbrev Overload : List ℕ → Type 0
Overload [] = Unit {0}
Overload (p ∷ ps) = (1 ≤ p) × Overload ps

overload : (permission : ℕ) → Overload (overloading permission)
overload permission = go (eqb permission 0) (eqb permission 1) (eqb permission 2)
  where
    go : (a b c : Bool) → Overload (cond a [] (cond b (1 ∷ []) (cond c (2 ∷ []) (1 ∷ 3 ∷ []))))
    go true b c = tt
    go false true c = (omega arith, tt)
    go false false true = (omega arith, tt)
    go false false false = (omega arith, (omega arith, tt))

plans_are : (permission : ℕ) → plans permission ≡ 0 ∷ overloading permission
plans_are permission = go (eqb permission 0) (eqb permission 1) (eqb permission 2)
  where
    go : (a b c : Bool) → cond {A = List ℕ} a (0 ∷ []) (cond b (0 ∷ 1 ∷ []) (cond c (0 ∷ 2 ∷ []) (0 ∷ 1 ∷ 3 ∷ []))) ≡ 0 ∷ cond a [] (cond b (1 ∷ []) (cond c (2 ∷ []) (1 ∷ 3 ∷ [])))
    go true b c = refl
    go false true c = refl
    go false false true = refl
    go false false false = refl

-- the answer by the number of the first that fits, 0 for none
abbrev answer : ℕ → ℕ → ℕ → Choice
answer single q n = cond (eqb q 0) (Refused 11 n) (Plan q single)

tried : (single : ℕ) (m : List ℕ) (rs : List Rec) (ps : List ℕ) → Overload ps → answer_of single (try_plans ps m rs) ≡ answer single (first_fit ps (length m - 240) rs) (length m)
unfolding first_fit try_plans
tried single m rs [] o = refl
tried single m rs (p ∷ ps) o = go (plan_fits p (length m - 240) rs) (tried single m rs ps o.1)
  where
    go : (b : Bool) → answer_of single (try_plans ps m rs) ≡ answer single (first_fit ps (length m - 240) rs) (length m)
        → answer_of single (cond b (wrote p (written p m rs)) (try_plans ps m rs)) ≡ answer single (cond b p (first_fit ps (length m - 240) rs)) (length m)
    go true ih = rw (ne_eqb p 0 (λ z. omega (arith, o.0)))
    go false ih = ih

module _ (rs : List Rec) (n permission single : ℕ) where
  pub by_plan_0 : plan_fits 0 (n - 240) rs ≡ true → Tries rs n permission single (Plan 0 single)
  unfolding try_plans
  by_plan_0 t m e = rw (plans_are permission, e, t)

  module _ (f : plan_fits 0 (n - 240) rs ≡ false) (q : ℕ) (eq : q ≡ first_fit (overloading permission) (n - 240) rs) where
    overloads : (m : List ℕ) → length m ≡ n → answer_of single (try_plans (plans permission) m rs) ≡ answer single q n
    unfolding try_plans
    overloads m e =
        let t : answer_of single (try_plans (overloading permission) m rs) ≡ answer single q n =
        tried single m rs (overloading permission) (overload permission)
        ∙ ap (λ (k : ℕ). answer single (first_fit (overloading permission) (k - 240) rs) k) e
        ∙ ap (λ (k : ℕ). answer single k n) (sym eq) in
        rw (plans_are permission, e, f) t

    pub by_no_plan : q ≡ 0 → Tries rs n permission single (Refused 11 n)
    by_no_plan z m e = sym (overloads m e ∙ rw (eq-eqb q 0 z))

    pub by_plan : (q ≡ 0 → ⊥) → Tries rs n permission single (Plan q single)
    by_plan z m e = sym (overloads m e ∙ rw (ne_eqb q 0 z))

-- ---- The tests before the plans

module _ (s : List ℕ) (n permission : ℕ) where
  pub too_short : n < 240 → Answers s n permission (Refused 1 n)
  unfolding writer
  too_short h m e = rw (e, lt-ltb n 240 h)

  module _ (h : 240 ≤ n) where
    pub too_long : 1472 < n → Answers s n permission (Refused 2 n)
    unfolding writer
    too_long l m e = rw (e, le-ltb n 240 h, lt-ltb 1472 n l)

    module _ (h2 : n ≤ 1472) where
      pub no_such : 3 < permission → Answers s n permission (Refused 15 0)
      unfolding writer
      no_such l m e = rw (e, le-ltb n 240 h, le-ltb 1472 n h2, lt-ltb 3 permission l)

      module _ (h3 : permission ≤ 3) where
        pub sheet_long : 4096 < length s → Answers s n permission (Refused 16 (length s))
        unfolding writer
        sheet_long l m e = rw (e, le-ltb n 240 h, le-ltb 1472 n h2, le-ltb 3 permission h3, lt-ltb 4096 (length s) l)

        module _ (h4 : length s ≤ 4096) where
          to_sheet : (m : List ℕ) → length m ≡ n → writer kinds s m permission ≡ after_sheet m (plans permission) (in_plan_order (sheet kinds s))
          unfolding writer
          to_sheet m e = rw (e, le-ltb n 240 h, le-ltb 1472 n h2, le-ltb 3 permission h3, le-ltb 4096 (length s) h4)

          pub faulty_sheet : (k p : ℕ) → k ≡ (judge_of s).number → p ≡ (judge_of s).place → (k ≡ 0 → ⊥) → Answers s n permission (Refused k p)
          faulty_sheet k p ek ep z m e = ap₂ Refused ek ep ∙ ap (answer_of (single_of s)) (sym (to_sheet m e ∙ refused s m (plans permission) (λ q. z (ek ∙ q))))

          pub sound_sheet : Accepted s → (single : ℕ) → single ≡ (judge_of s).single → (r : Choice) → Tries (pieces_left s 0 0) n permission single r → Answers s n permission r
          sound_sheet a single g r t m e =
              t m e
              ∙ ap₂ (λ (k : ℕ) (ps : List Rec). answer_of k (try_plans (plans permission) m ps)) (g ∙ a.single) (pieces_at_record s 0)
              ∙ ap (answer_of (single_of s)) (sym (to_sheet m e ∙ tries s m (plans permission) a))
