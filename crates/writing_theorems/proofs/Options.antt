-- The bytes of options and option 52 at the front: OptionBytesRight, With52Right and Says52, proved. Assumes nothing.
use mathlib.Core.Path.{◌≡◌, refl, sym, ap, ◌∙◌, subst}
use mathlib.Core.List.{List, [], ◌∷◌, ◌++◌}
use mathlib.Core.Bool.{Bool, true, false, cond}
use mathlib.Core.Logic.{◌⊎◌, inl, inr}
use Prim.Native.Nat.{ℕ, ◌-◌, ◌≤◌}
use native.Mathlib.Omega.{arith}
use lib.ListN.{length, replicate}
use lib.Dec.{eqb}
use borrow.Author.Tests.{eqb-true, eqb-false}
use Rattle.options.specs.Message.{Rec, bytes, options}
use Rattle.options.specs.Writing.{option_bytes, with52}
use Rattle.options.specs.WriterClaims.{OptionsAre, no_option, one_option, OptionBytesRight, HeadedBy52, without_52, first_52, With52Right, Says52, Takes, Holding, Closed}
use Rattle.theorems.proofs.View.{clash}
use Rattle.writing_theorems.proofs.SheetView.{rec}
use Rattle.writing_theorems.proofs.Writer.{writer_writes}

are : (rs : List Rec) → OptionsAre rs (option_bytes rs)
unfolding option_bytes
are [] = no_option
are (r ∷ rs) = one_option (are rs)

only : {rs : List Rec} {b : List ℕ} → OptionsAre rs b → b ≡ option_bytes rs
unfolding option_bytes
only no_option = refl
only (one_option {r = r} x) = ap (λ (l : List ℕ). r.tag ∷ length r.body ∷ (r.body ++ l)) (only x)

pub option_bytes_right : OptionBytesRight
option_bytes_right rs b = ((λ x. only x), (λ e. subst (OptionsAre rs) (sym e) (are rs)))

-- ---- option 52

headed : (p : ℕ) (rs : List Rec) → HeadedBy52 p rs (with52 p rs)
headed p rs = go (eqb p 0) refl
  where
    go : (b : Bool) → eqb p 0 ≡ b → HeadedBy52 p rs (cond b rs (rec 52 (p ∷ []) ∷ rs))
    go true e = subst (λ (q : ℕ). HeadedBy52 q rs rs) (sym (eqb-true p 0 e)) without_52
    go false e = first_52 (eqb-false p 0 e)

only_headed : {p : ℕ} {rs ss : List Rec} → HeadedBy52 p rs ss → ss ≡ with52 p rs
only_headed without_52 = refl
only_headed (first_52 {p = p} {rs = rs} n) = go (eqb p 0) refl
  where
    go : (b : Bool) → eqb p 0 ≡ b → rec 52 (p ∷ []) ∷ rs ≡ cond b rs (rec 52 (p ∷ []) ∷ rs)
    go true e = absurd (n (eqb-true p 0 e))
    go false e = refl

pub with_52_right : With52Right
with_52_right p rs ss = ((λ x. only_headed x), (λ e. subst (HeadedBy52 p rs) (sym e) (headed p rs)))

-- what the options field takes begins with 52, where the plan has it
options_run : (x : Bool) (p n : ℕ) (ps here rest : List Rec) → Takes n (cond x ps (rec 52 (p ∷ []) ∷ ps)) here rest → (x ≡ true) ⊎ (4 ≤ n)
    → (a : List Rec) × (here ≡ cond x a (rec 52 (p ∷ []) ∷ a)) × (ps ≡ a ++ rest)
unfolding option_bytes
options_run true p n ps here rest t h = (here, refl, t.in_order)
options_run false p n ps here rest t (inl h) = clash (cc)
options_run false p n ps [] rest t (inr h) = absurd (omega (arith, t.no_more (rec 52 (p ∷ [])) ps (sym t.in_order)))
options_run false p n ps (y ∷ a) rest t (inr h) = let e : rec 52 (p ∷ []) ∷ ps ≡ y ∷ (a ++ rest) = t.in_order in (a, cc, cc)

first : (x : Bool) (p : ℕ) (a : List Rec) (tail : List ℕ) → x ≡ false → (rest : List ℕ) × (option_bytes (cond x a (rec 52 (p ∷ []) ∷ a)) ++ tail ≡ 52 ∷ 1 ∷ p ∷ rest)
unfolding option_bytes
first false p a tail e = (option_bytes a ++ tail, refl)
first true p a tail e = clash (cc)

says : (p n : ℕ) (ps : List Rec) (h : Holding p n ps) (f : List ℕ) → Closed f h.when_in_options → (x : Bool) → eqb p 0 ≡ x → (p ≡ 0) ⊎ ((rest : List ℕ) × (f ≡ 52 ∷ 1 ∷ p ∷ rest))
says p n ps h f c true e = inl (eqb-true p 0 e)
says p n ps h f c false e =
    let o = options_run (eqb p 0) p n ps h.when_in_options h.when_past_options h.options_takes (start h.has_52) in
    let z = first (eqb p 0) p o.0 (255 ∷ replicate c.fill 0) e in
    inr (z.0, c.reads ∙ ap (λ (l : List Rec). option_bytes l ++ (255 ∷ replicate c.fill 0)) o.1 ∙ z.1)
  where
    start : (p ≡ 0) ⊎ (4 ≤ n) → (eqb p 0 ≡ true) ⊎ (4 ≤ n)
    start (inl z) = inl (rw z)
    start (inr l) = inr l

pub says_52 : Says52
says_52 t s m permission plan w all e =
    let x = writer_writes t s m permission plan w all e in
    says plan (length m - 240) x.of_sheet.pieces x.written_as.holding (bytes options w) x.written_as.when_options_field (eqb plan 0) refl
