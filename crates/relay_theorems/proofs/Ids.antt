-- The ids: the first sub-option of a code. Assumes nothing.
use mathlib.Core.Path.{◌≡◌, refl, sym, ap, ap₂, ◌∙◌, subst}
use mathlib.Core.List.{List, [], ◌∷◌, ◌++◌, append_assoc, append-nil}
use mathlib.Core.Bool.{Bool, true, false, cond}
use mathlib.Core.Logic.{◌⊎◌, inl, inr, ⊎_elim}
use Prim.Native.Nat.{ℕ, ◌+◌}
use native.Mathlib.Omega.{arith}
use lib.ListN.{length, length-append}
use lib.Dec.{eqb}
use borrow.Author.Tests.{eqb-true, eqb-false, eq-eqb, ne_eqb}
use Rattle.options.specs.Message.{Rec}
use Rattle.options.specs.Writing.{option_bytes}
use Rattle.options.specs.WriterClaims.{Has}
use Rattle.options.specs.Relay.{Id, absent, named, id_in}
use Rattle.options.specs.RelayClaims.{IdOf, none_has, first_has}
use Rattle.theorems.proofs.SubOptionRow.{are, the_bytes}
use Rattle.vendor_theorems.proofs.Writing.{placed}

abbrev None : ℕ → List Rec → Type 0
None c rs = (r : Rec) → Has r rs → r.tag ≡ c → ⊥

module _ (c : ℕ) where
  -- ---- what is named is the first

  none_more : (pre : List Rec) (r : Rec) → None c pre → (r.tag ≡ c → ⊥) → None c (pre ++ (r ∷ []))
  none_more [] r n z x (inl e) t = z (sym (ap (λ (y : Rec). y.tag) e) ∙ t)
  none_more [] r n z x (inr h) t = elim h [ ]
  none_more (p ∷ pre) r n z x (inl e) t = n x (inl e) t
  none_more (p ∷ pre) r n z x (inr h) t = none_more pre r (λ y k. n y (inr k)) z x h t

  bytes_more : (pre : List Rec) (r : Rec) → length (option_bytes (pre ++ (r ∷ []))) ≡ length (option_bytes pre) + 2 + length r.body
  unfolding option_bytes
  bytes_more [] r = omega (arith, length-append r.body [])
  bytes_more (p ∷ pre) r = omega (arith, bytes_more pre r, length-append p.body (option_bytes (pre ++ (r ∷ []))), length-append p.body (option_bytes pre))

  id_after : (pre rs : List Rec) → None c pre → IdOf c (pre ++ rs) (id_in c (placed (length (option_bytes pre)) rs))
  unfolding placed
  id_after pre [] n = none_has (subst (None c) (sym (append-nil pre)) n)
  id_after pre (r ∷ rs) n = go (eqb r.tag c) refl (id_after (pre ++ (r ∷ [])) rs)
    where
      go : (b : Bool) → eqb r.tag c ≡ b
          → (None c (pre ++ (r ∷ [])) → IdOf c ((pre ++ (r ∷ [])) ++ rs) (id_in c (placed (length (option_bytes (pre ++ (r ∷ [])))) rs)))
          → IdOf c (pre ++ (r ∷ rs)) (cond b (named (length (option_bytes pre) + 2) (length r.body)) (id_in c (placed (length (option_bytes pre) + 2 + length r.body) rs)))
      go true e ih = first_has pre (option_bytes pre) r.body rs (ap (λ (t : ℕ). pre ++ (record { tag = t; body = r.body } ∷ rs)) (eqb-true r.tag c e)) (are pre) n
      go false e ih =
          subst (λ (i : ℕ). IdOf c (pre ++ (r ∷ rs)) (id_in c (placed i rs))) (bytes_more pre r)
          (subst (λ (xs : List Rec). IdOf c xs (id_in c (placed (length (option_bytes (pre ++ (r ∷ [])))) rs))) (append_assoc pre (r ∷ []) rs)
          (ih (none_more pre r n (eqb-false r.tag c e))))

  pub id_right : (rs : List Rec) → IdOf c rs (id_in c (placed 0 rs))
  unfolding option_bytes
  id_right rs = id_after [] rs (λ r h. absurd h)

  -- ---- and nothing else

  id_none : (at : ℕ) (rs : List Rec) → None c rs → id_in c (placed at rs) ≡ absent
  unfolding placed
  id_none at [] n = refl
  id_none at (r ∷ rs) n = rw (ne_eqb r.tag c (n r (inl refl))) (id_none (at + 2 + length r.body) rs (λ x h. n x (inr h)))

  id_first : (at : ℕ) (before : List Rec) (d : List ℕ) (after : List Rec) → None c before
      → id_in c (placed at (before ++ (record { tag = c; body = d } ∷ after))) ≡ named (at + length (option_bytes before) + 2) (length d)
  unfolding placed option_bytes
  id_first at [] d after n = rw (eq-eqb c c refl) (ap (λ (i : ℕ). named i (length d)) (omega arith))
  id_first at (r ∷ rs) d after n =
      rw (ne_eqb r.tag c (n r (inl refl)))
      (id_first (at + 2 + length r.body) rs d after (λ x h. n x (inr h)) ∙ ap (λ (i : ℕ). named i (length d)) (omega (arith, length-append r.body (option_bytes rs))))

  pub id_only : (rs : List Rec) (x : Id) → IdOf c rs x → id_in c (placed 0 rs) ≡ x
  id_only rs x (none_has n) = id_none 0 rs n
  id_only rs x (first_has before head d after e q n) =
      ap (λ (l : List Rec). id_in c (placed 0 l)) e ∙ id_first 0 before d after n ∙ ap (λ (i : ℕ). named i (length d)) (omega (arith, ap length (the_bytes q)))
