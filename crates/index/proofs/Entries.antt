-- What is filled in, without its marks, is the index of the message. Assumes nothing.
use mathlib.Core.Path.{◌≡◌, refl, sym, ap, ◌∙◌, subst}
use mathlib.Core.Bool.{Bool, true, false, cond}
use mathlib.Core.List.{List, [], ◌∷◌}
use mathlib.Core.Logic.{inl}
use Prim.Native.Nat.{ℕ, ◌<◌}
use native.Mathlib.Omega.{arith}
use native.Mathlib.Decide.{ℕ_discrete}
use lib.Dec.{eqb}
use lib.ListN.{length, get_or, set, replicate, length-set, length-replicate, get_or-replicate}
use lib.Seq.{get_or-set_same, get_or-set_other, ext_get_or}
use borrow.Author.Tests.{ne_eqb, eqb-true, eqb-false}
use Rattle.options.specs.Message.{Opt, place, Holds, In}
use Rattle.options.specs.Reading.{pieces}
use Rattle.options.specs.ReadingClaims.{IsAccepted}
use Rattle.options.specs.Index.{entry_of, index_of}
use Rattle.theorems.proofs.Entries.{index_length, index_at, only_52}
use Rattle.theorems.proofs.Indexes.{piece_place}
use Rattle.theorems.proofs.Lookup.{no_pieces}
use Rattle.index.specs.Filling.{entry_after_value, noted, note_all, blank, unmarked, cleaned, Marked}

note_length : (idx : List ℕ) (os : List Opt) → length (note_all idx os) ≡ length idx
unfolding note_all
note_length idx [] = refl
note_length idx (o ∷ os) =
    note_length (noted idx o.item.tag (place o)) os
    ∙ length-set idx o.item.tag (entry_after_value (get_or idx o.item.tag 0) o.item.tag (place o))

-- ---- the entry of a code, piece by piece

abbrev step : ℕ → ℕ → Opt → ℕ
step c e o = entry_after_value e c (place o)

abbrev after_all : ℕ → ℕ → List Opt → ℕ
after_all c e [] = e
after_all c e (o ∷ ps) = after_all c (step c e o) ps

note_at : (c : ℕ) (idx : List ℕ) (os : List Opt) → c < length idx → get_or (note_all idx os) c 0 ≡ after_all c (get_or idx c 0) (pieces c os)
unfolding note_all pieces
note_at c idx [] h = refl
note_at c idx (o ∷ os) h = go (eqb c o.item.tag) refl (note_at c (noted idx t (place o)) os (omega (arith, length-set idx t (entry_after_value (get_or idx t 0) t (place o)))))
  where
    t : ℕ
    t = o.item.tag

    go : (b : Bool) → eqb c o.item.tag ≡ b → get_or (note_all (noted idx t (place o)) os) c 0 ≡ after_all c (get_or (noted idx t (place o)) c 0) (pieces c os)
        → get_or (note_all (noted idx t (place o)) os) c 0 ≡ after_all c (get_or idx c 0) (cond b (o ∷ pieces c os) (pieces c os))
    go true e ih =
        let q : c ≡ t = eqb-true c t e in
        ih ∙ ap (λ (n : ℕ). after_all c n (pieces c os))
        (ap (λ (k : ℕ). get_or (set idx k (entry_after_value (get_or idx k 0) k (place o))) c 0) (sym q) ∙ get_or-set_same idx c (entry_after_value (get_or idx c 0) c (place o)) 0 h)
    go false e ih =
        ih ∙ ap (λ (n : ℕ). after_all c n (pieces c os)) (get_or-set_other idx t c (entry_after_value (get_or idx t 0) t (place o)) 0 (eqb-false c t e))

-- of another code than 52 it is the entry of the index
module _ (c : ℕ) (d : c ≡ 52 → ⊥) where
  step_is : (e : ℕ) (o : Opt) → step c e o ≡ cond (eqb e 0) (place o) 65535
  step_is e o = rw (ne_eqb c 52 d) refl

  stays : (ps : List Opt) → after_all c 65535 ps ≡ 65535
  stays [] = refl
  stays (o ∷ ps) = ap (λ (n : ℕ). after_all c n ps) (step_is 65535 o) ∙ stays ps

  abbrev Places : List Opt → Type 0
  Places [] = Unit {0}
  Places (o ∷ ps) = place o ≡ 0 → ⊥

  others_are : (ps : List Opt) → Places ps → after_all c 0 ps ≡ entry_of ps
  others_are [] h = refl
  others_are (o ∷ []) h = step_is 0 o
  others_are (o ∷ q ∷ ps) h =
      ap (λ (n : ℕ). after_all c (step c n q) ps) (step_is 0 o)
      ∙ ap (λ (n : ℕ). after_all c n ps) (step_is (place o) q ∙ ap (λ (b : Bool). cond b (place q) 65535) (ne_eqb (place o) 0 h)) ∙ stays ps

-- ---- the marks

abbrev zeros : List ℕ
zeros = replicate 256 0

zeros_size : length zeros ≡ 256
zeros_size = length-replicate {A = ℕ} 256 0

blank_size : length blank ≡ 256
blank_size =
    length-set (set (set zeros 0 65535) 52 65535) 255 65535
    ∙ length-set (set zeros 0 65535) 52 65535 ∙ length-set zeros 0 65535 ∙ zeros_size

pub blank_marked : Marked blank
blank_marked = record { size = blank_size; pad_marked = λ e. absurd (omega (arith, at_0, e)); over_marked = λ e. absurd (omega (arith, at_52, e)); end_marked = λ e. absurd (omega (arith, at_255, e)) }
  where
    a : List ℕ
    a = set zeros 0 65535

    b : List ℕ
    b = set a 52 65535

    sa : length a ≡ 256
    sa = length-set zeros 0 65535 ∙ zeros_size

    sb : length b ≡ 256
    sb = length-set a 52 65535 ∙ sa

    at_255 : get_or blank 255 0 ≡ 65535
    at_255 = get_or-set_same b 255 65535 0 (omega (arith, sb))

    at_52 : get_or blank 52 0 ≡ 65535
    at_52 = get_or-set_other b 255 52 65535 0 (λ e. absurd (omega arith)) ∙ get_or-set_same a 52 65535 0 (omega (arith, sa))

    at_0 : get_or blank 0 0 ≡ 65535
    at_0 =
        get_or-set_other b 255 0 65535 0 (λ e. absurd (omega arith)) ∙ get_or-set_other a 52 0 65535 0 (λ e. absurd (omega arith))
        ∙ get_or-set_same zeros 0 65535 0 (omega (arith, zeros_size))

blank_52 : get_or blank 52 0 ≡ 65535
blank_52 =
    let a : List ℕ = set zeros 0 65535 in
    get_or-set_other (set a 52 65535) 255 52 65535 0 (λ e. absurd (omega arith))
    ∙ get_or-set_same a 52 65535 0 (omega (arith, length-set zeros 0 65535, zeros_size))

module _ (c : ℕ) (h : c < 256) (z : c ≡ 0 → ⊥) (d : c ≡ 52 → ⊥) (e : c ≡ 255 → ⊥) where
  blank_else : get_or blank c 0 ≡ 0
  blank_else =
      get_or-set_other (set (set zeros 0 65535) 52 65535) 255 c 65535 0 e
      ∙ get_or-set_other (set zeros 0 65535) 52 c 65535 0 d ∙ get_or-set_other zeros 0 c 65535 0 z ∙ get_or-replicate 256 c 0 0 h

  clean_else : (idx : List ℕ) → get_or (cleaned idx) c 0 ≡ get_or idx c 0
  clean_else idx =
      get_or-set_other (set (set idx 0 0) 52 (unmarked (get_or idx 52 0))) 255 c 0 0 e
      ∙ get_or-set_other (set idx 0 0) 52 c (unmarked (get_or idx 52 0)) 0 d ∙ get_or-set_other idx 0 c 0 0 z

module _ (idx : List ℕ) (s : length idx ≡ 256) where
  abbrev a : List ℕ
  a = set idx 0 0

  abbrev b : List ℕ
  b = set a 52 (unmarked (get_or idx 52 0))

  size_a : length a ≡ 256
  size_a = length-set idx 0 0 ∙ s

  size_b : length b ≡ 256
  size_b = length-set a 52 (unmarked (get_or idx 52 0)) ∙ size_a

  pub clean_size : length (cleaned idx) ≡ 256
  clean_size = length-set b 255 0 ∙ size_b

  clean_255 : get_or (cleaned idx) 255 0 ≡ 0
  clean_255 = get_or-set_same b 255 0 0 (omega (arith, size_b))

  clean_52 : get_or (cleaned idx) 52 0 ≡ unmarked (get_or idx 52 0)
  clean_52 = get_or-set_other b 255 52 0 0 (λ e. absurd (omega arith)) ∙ get_or-set_same a 52 (unmarked (get_or idx 52 0)) 0 (omega (arith, size_a))

  clean_0 : get_or (cleaned idx) 0 0 ≡ 0
  clean_0 =
      get_or-set_other b 255 0 0 0 (λ e. absurd (omega arith)) ∙ get_or-set_other a 52 0 (unmarked (get_or idx 52 0)) 0 (λ e. absurd (omega arith))
      ∙ get_or-set_same idx 0 0 0 (omega (arith, s))

-- ---- of an accepted message

module _ (m : List ℕ) (x : IsAccepted m) where
  abbrev os : List Opt
  os = x.options

  abbrev filled : List ℕ
  filled = note_all blank os

  pub filled_size : length (note_all blank x.options) ≡ 256
  filled_size = note_length blank os ∙ blank_size

  in_first : (c : ℕ) {o : Opt} {ps : List Opt} → pieces c os ≡ o ∷ ps → In o (pieces c os)
  in_first c {o} {ps} e = subst (In o) (sym e) (inl refl)

  entry_52 : (ps : List Opt) → pieces 52 os ≡ ps → unmarked (after_all 52 65535 ps) ≡ entry_of ps
  entry_52 [] e = refl
  entry_52 (o ∷ []) e = let b = piece_place x 52 o (in_first 52 e) in rw (ne_eqb (place o) 65535 (λ q. absurd (omega (arith, b.1)))) refl
  entry_52 (o ∷ q ∷ ps) e = absurd (only_52 x o q ps e)

  places : (c : ℕ) (d : c ≡ 52 → ⊥) (ps : List Opt) → pieces c os ≡ ps → Places c d ps
  places c d [] e = tt
  places c d (o ∷ ps) e = λ q. absurd (omega (arith, (piece_place x c o (in_first c e)).0))

  no_piece : (c : ℕ) → (Holds m c → ⊥) → entry_of (pieces c os) ≡ 0
  no_piece c n = ap entry_of (no_pieces x c n)

  entry_is : (c : ℕ) → c < 256 → get_or (cleaned filled) c 0 ≡ entry_of (pieces c os)
  entry_is c h = go (ℕ_discrete c 0) (ℕ_discrete c 52) (ℕ_discrete c 255)
    where
      go : Dec (c ≡ 0) → Dec (c ≡ 52) → Dec (c ≡ 255) → get_or (cleaned filled) c 0 ≡ entry_of (pieces c os)
      go (yes e) d n = rw e (clean_0 filled filled_size ∙ sym (no_piece 0 (λ y. y.stands.option.no_pad refl)))
      go (no z) (yes e) n =
          rw e
          (clean_52 filled filled_size
          ∙ ap unmarked (note_at 52 blank os (omega (arith, blank_size)) ∙ ap (λ (k : ℕ). after_all 52 k (pieces 52 os)) blank_52)
          ∙ entry_52 (pieces 52 os) refl)
      go (no z) (no d) (yes e) = rw e (clean_255 filled filled_size ∙ sym (no_piece 255 (λ y. y.stands.option.no_end refl)))
      go (no z) (no d) (no e) =
          clean_else c h z d e filled ∙ note_at c blank os (omega (arith, blank_size)) ∙ ap (λ (k : ℕ). after_all c k (pieces c os)) (blank_else c h z d e)
          ∙ others_are c d (pieces c os) (places c d (pieces c os) refl)

  pub filled_is : cleaned (note_all blank x.options) ≡ index_of x.options
  filled_is =
      ext_get_or 0 (cleaned filled) (index_of os) (clean_size filled filled_size ∙ sym (index_length os))
      (λ i h. let l : i < 256 = omega (arith, clean_size filled filled_size) in entry_is i l ∙ sym (index_at os i l))
