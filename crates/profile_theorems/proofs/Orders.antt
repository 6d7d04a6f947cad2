-- The first pieces of two codes, by reading order. Assumes nothing.
use mathlib.Core.Path.{◌≡◌, refl, sym, ap, ◌∙◌, subst}
use mathlib.Core.List.{List, [], ◌∷◌}
use mathlib.Core.Bool.{Bool, true, false, cond}
use mathlib.Core.Logic.{◌⊎◌, inl, inr, ⊎_elim}
use Prim.Native.Nat.{ℕ}
use lib.Dec.{eqb}
use borrow.Author.Tests.{eqb-true, eqb-false, eq-eqb, ne_eqb}
use Rattle.options.specs.Message.{Opt, Standing, Earlier, In, Precedes}
use Rattle.options.specs.Reading.{read_message, accepted, pieces}
use Rattle.options.specs.Profile.{any_piece, out_of_order_value}
use Rattle.options.specs.ProfileClaims.{FirstPiece, ReadBefore}
use Rattle.theorems.proofs.View.{clash}
use Rattle.theorems.proofs.Messages.{precedes_in}
use Rattle.theorems.proofs.Reading.{not_both_earlier, is_correct}

-- o is the first option of a list that has the code c
pub data FirstIn (c : ℕ) (o : Opt) : List Opt → Type 0 where
  here : {os : List Opt} → c ≡ o.item.tag → FirstIn c o (o ∷ os)
  later : {x : Opt} {os : List Opt} → (c ≡ x.item.tag → ⊥) → FirstIn c o os → FirstIn c o (x ∷ os)

first_code : {c : ℕ} {o : Opt} {os : List Opt} → FirstIn c o os → c ≡ o.item.tag
first_code (here e) = e
first_code (later n f) = first_code f

first_in : {c : ℕ} {o : Opt} {os : List Opt} → FirstIn c o os → In o os
first_in (here e) = inl refl
first_in (later n f) = inr (first_in f)

-- every other with the code comes after it
first_precedes : {c : ℕ} {o : Opt} {os : List Opt} → FirstIn c o os → (q : Opt) → In q os → c ≡ q.item.tag → (q ≡ o) ⊎ Precedes o q os
first_precedes (here e) q (inl z) k = inl z
first_precedes (here e) q (inr z) k = inr (inl (refl, z))
first_precedes (later n f) q (inl z) k = absurd (n (k ∙ ap (λ (y : Opt). y.item.tag) z))
first_precedes (later n f) q (inr z) k = ⊎_elim (λ y. inl y) (λ y. inr (inr y)) (first_precedes f q z k)

is_first : (c : ℕ) (o : Opt) (os : List Opt) → In o os → c ≡ o.item.tag → ((q : Opt) → c ≡ q.item.tag → Precedes q o os → ⊥) → FirstIn c o os
is_first c o [] i e n = absurd i
is_first c o (x ∷ os) (inl z) e n = subst (λ (y : Opt). FirstIn c o (y ∷ os)) z (here e)
is_first c o (x ∷ os) (inr i) e n = later (λ k. n x k (inl (refl, i))) (is_first c o os i e (λ q k p. n q k (inr p)))

-- the first of the pieces
pub pieces_first : (c : ℕ) (os : List Opt) (o : Opt) (ps : List Opt) → pieces c os ≡ o ∷ ps → FirstIn c o os
unfolding pieces
pieces_first c [] o ps e = clash (cc)
pieces_first c (x ∷ os) o ps e = go (eqb c x.item.tag) refl e (pieces_first c os o ps)
  where
    same : {a b : Opt} {ps qs : List Opt} → a ∷ ps ≡ b ∷ qs → b ≡ a
    same e = cc

    go : (b : Bool) → eqb c x.item.tag ≡ b → cond b (x ∷ pieces c os) (pieces c os) ≡ o ∷ ps → (pieces c os ≡ o ∷ ps → FirstIn c o os) → FirstIn c o (x ∷ os)
    go true q z ih = subst (λ (y : Opt). FirstIn c y (x ∷ os)) (sym (same z)) (here (eqb-true c x.item.tag q))
    go false q z ih = later (eqb-false c x.item.tag q) (ih z)

pub first_pieces : {c : ℕ} {o : Opt} {os : List Opt} → FirstIn c o os → (ps : List Opt) × (pieces c os ≡ o ∷ ps)
unfolding pieces
first_pieces {c} {o} (here {os = os} e) = (pieces c os, rw (eq-eqb c o.item.tag e) refl)
first_pieces {c} (later {x = x} n f) = let r = first_pieces f in (r.0, rw (ne_eqb c x.item.tag n) r.1)

any_first : (c : ℕ) (os : List Opt) → any_piece (pieces c os) ≡ true → (o : Opt) × FirstIn c o os
any_first c os e = go (pieces c os) refl e
  where
    go : (ps : List Opt) → pieces c os ≡ ps → any_piece ps ≡ true → (o : Opt) × FirstIn c o os
    go [] q z = clash (cc)
    go (o ∷ ps) q z = (o, pieces_first c os o ps q)

first_any : {c : ℕ} {o : Opt} {os : List Opt} → FirstIn c o os → any_piece (pieces c os) ≡ true
unfolding pieces
first_any {c} {o} (here e) = rw (eq-eqb c o.item.tag e)
first_any {c} (later {x = x} n f) = rw (ne_eqb c x.item.tag n) (first_any f)

pub order_two : (a b : ℕ) (os : List Opt) → out_of_order_value a b os ≡ true → (o : Opt) × (q : Opt) × FirstIn b o os × FirstIn a q os × Precedes o q os
unfolding out_of_order_value
order_two a b [] e = clash (cc)
order_two a b (x ∷ os) e = go (eqb a x.item.tag) (eqb b x.item.tag) refl refl e (order_two a b os)
  where
    go : (s t : Bool) → eqb a x.item.tag ≡ s → eqb b x.item.tag ≡ t → cond s false (cond t (any_piece (pieces a os)) (out_of_order_value a b os)) ≡ true
        → (out_of_order_value a b os ≡ true → (o : Opt) × (q : Opt) × FirstIn b o os × FirstIn a q os × Precedes o q os)
        → (o : Opt) × (q : Opt) × FirstIn b o (x ∷ os) × FirstIn a q (x ∷ os) × Precedes o q (x ∷ os)
    go true t u v z ih = clash (cc)
    go false true u v z ih =
        let f = any_first a os z in
        (x, f.0, here (eqb-true b x.item.tag v), later (eqb-false a x.item.tag u) f.1, inl (refl, first_in f.1))
    go false false u v z ih = let f = ih z in (f.0, f.1, later (eqb-false b x.item.tag v) f.2, later (eqb-false a x.item.tag u) f.3, inr f.4)

pub two_order : (a b : ℕ) → (a ≡ b → ⊥) → {o q : Opt} {os : List Opt} → FirstIn b o os → FirstIn a q os → ((x y : Opt) → Precedes x y os → Earlier x y) → Earlier o q
    → out_of_order_value a b os ≡ true
unfolding out_of_order_value
two_order a b n (here e) (here k) ord z = absurd (n (k ∙ sym e))
two_order a b n {o} (here e) (later m g) ord z = rw (ne_eqb a o.item.tag m, eq-eqb b o.item.tag e) (first_any g)
two_order a b n {o} {q} (later m f) (here k) ord z = absurd (not_both_earlier o q z (ord q o (inl (refl, first_in f))))
two_order a b n (later {x = x} m f) (later k g) ord z = rw (ne_eqb a x.item.tag k, ne_eqb b x.item.tag m) (two_order a b n f g (λ x y p. ord x y (inr p)) z)

-- ---- Of a message

module _ (m : List ℕ) (os : List Opt) (e : read_message m ≡ accepted os) where
  stands : (o : Opt) → In o os → Standing m o
  stands o = ((is_correct m os e).lists o).0

  listed : (o : Opt) → Standing m o → In o os
  listed o = ((is_correct m os e).lists o).1

  pub in_order : (o q : Opt) → Precedes o q os → Earlier o q
  in_order = (is_correct m os e).in_order

  first_piece : (c : ℕ) (o : Opt) → FirstIn c o os → FirstPiece m c o
  first_piece c o f =
      record { standing = stands o (first_in f); with_code = first_code f; none_earlier = λ q s k z. go q z (first_precedes f q (listed q s) k) }
    where
      go : (q : Opt) → Earlier q o → (q ≡ o) ⊎ Precedes o q os → ⊥
      go q z (inl y) = let w : Earlier o o = subst (λ (x : Opt). Earlier x o) y z in not_both_earlier o o w w
      go q z (inr y) = not_both_earlier o q (in_order o q y) z

  piece_first : (c : ℕ) (o : Opt) → FirstPiece m c o → FirstIn c o os
  piece_first c o f =
      is_first c o os (listed o f.standing) f.with_code (λ q k p. f.none_earlier q (stands q (precedes_in q o os p).0) k (in_order q o p))

  pub out_of_order_read : (a b : ℕ) → out_of_order_value a b os ≡ true → ReadBefore m b a
  out_of_order_read a b h =
      let t = order_two a b os h in
      record {
        one = t.0;
        other = t.1;
        is_first = first_piece b t.0 t.2;
        other_first = first_piece a t.1 t.3;
        earlier = in_order t.0 t.1 t.4;
      }

  pub read_out_of_order : (a b : ℕ) → (a ≡ b → ⊥) → ReadBefore m b a → out_of_order_value a b os ≡ true
  read_out_of_order a b n x = two_order a b n (piece_first b x.one x.is_first) (piece_first a x.other x.other_first) in_order x.earlier
