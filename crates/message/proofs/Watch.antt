-- The set of watched codes: 0, 52, 255 and the wanted one; and the codes of a message, 52 put in last. Assumes nothing.
use mathlib.Core.Path.{◌≡◌, refl, sym, ap, ◌∙◌}
use mathlib.Core.Bool.{Bool, true, false, cond}
use mathlib.Core.List.{List, [], ◌∷◌}
use Prim.Native.Nat.{ℕ, suc, ◌/◌, ◌<◌}
use native.Mathlib.Omega.{arith}
use native.Mathlib.Decide.{ℕ_discrete}
use lib.Dec.{eqb}
use lib.ListN.{length, length-set}
use borrow.Author.Tests.{eq-eqb, ne_eqb, eqb-true, eqb-false}
use Rattle.options.specs.Message.{Opt}
use Rattle.options.specs.Reading.{items, pieces}
use Rattle.options.specs.CodeSet.{marked, with_mark, no_codes}
use Rattle.options.specs.Answers.{words_of}
use Rattle.codeset.proofs.Words.{mark_same, mark_other, mark_there, mark_swap}
use Rattle.codeset.proofs.Codes.{marks_none}
use Rattle.theorems.proofs.View.{clash}
use Rattle.message.specs.Walking.{others_in}
use Rattle.message.proofs.Twin.{Watching}

abbrev pub always : List ℕ
always = 4503599627370497 ∷ 0 ∷ 0 ∷ 9223372036854775808 ∷ []

is_marked : always ≡ with_mark (with_mark (with_mark no_codes 0) 52) 255
is_marked = refl

module _ (want : ℕ) (h : want < 256) where
  in_four : want / 64 < 4
  in_four = omega arith

  pub still : (c : ℕ) → marked always c ≡ true → marked (with_mark always want) c ≡ true
  still c e = go (ℕ_discrete c want)
    where
      go : Dec (c ≡ want) → marked (with_mark always want) c ≡ true
      go (yes q) = rw q (mark_same always want in_four)
      go (no q) = mark_other always want c in_four q ∙ e

  only_these : (c : ℕ) → c < 256 → marked always c ≡ true → (c ≡ 0 → ⊥) → (c ≡ 255 → ⊥) → (c ≡ 52 → ⊥) → c ≡ want
  only_these c l e z n o =
      let a : marked always c ≡ false = mark_other (with_mark (with_mark no_codes 0) 52) 255 c (omega arith) n ∙ mark_other (with_mark no_codes 0) 52 c (omega arith) o ∙ mark_other no_codes 0 c (omega arith) z ∙ marks_none.bits c l in
      let b : true ≡ false = sym e ∙ a in
      clash (cc)

  pub watching : Watching (with_mark always want) want
  watching = record { over_in = still 52 refl; want_in = mark_same always want in_four; only = λ c l e z n o. go c l e z n o (ℕ_discrete c want) }
    where
      go : (c : ℕ) → c < 256 → marked (with_mark always want) c ≡ true → (c ≡ 0 → ⊥) → (c ≡ 255 → ⊥) → (c ≡ 52 → ⊥) → Dec (c ≡ want) → c ≡ want
      go c l e z n o (yes q) = q
      go c l e z n o (no q) = only_these c l (sym (mark_other always want c in_four q) ∙ e) z n o

-- ---- the codes of a message

abbrev pub Small : List Opt → Type 0
Small [] = Unit {0}
Small (o ∷ os) = (o.item.tag < 256) × Small os

module _ (w : List ℕ) (four : length w ≡ 4) where
  four_mark : (c : ℕ) → length (with_mark w c) ≡ 4
  four_mark c = length-set w (c / 64) _ ∙ four

-- 52 put in first or last
with_52 : (w : List ℕ) → length w ≡ 4 → (os : List Opt) → Small os → words_of (with_mark w 52) (items os) ≡ with_mark (others_in w os) 52
unfolding words_of items others_in
with_52 w four [] s = refl
with_52 w four (o ∷ os) s = go (eqb o.item.tag 52) refl (λ v f. with_52 v f os s.1)
  where
    go : (b : Bool) → eqb o.item.tag 52 ≡ b → ((v : List ℕ) → length v ≡ 4 → words_of (with_mark v 52) (items os) ≡ with_mark (others_in v os) 52) → words_of (with_mark (with_mark w 52) o.item.tag) (items os) ≡ with_mark (others_in (cond b w (with_mark w o.item.tag)) os) 52
    go true e ih =
        let q : o.item.tag ≡ 52 = eqb-true o.item.tag 52 e in
        let a : with_mark (with_mark w 52) 52 ≡ with_mark w 52 = mark_there (with_mark w 52) 52 (mark_same w 52 (omega arith)) in
        ap (λ (c : ℕ). words_of (with_mark (with_mark w 52) c) (items os)) q ∙ ap (λ (v : List ℕ). words_of v (items os)) a ∙ ih w four
    go false e ih =
        let l : o.item.tag < 256 = s.0 in
        ap (λ (v : List ℕ). words_of v (items os)) (mark_swap w 52 o.item.tag (omega arith) (omega arith)) ∙ ih (with_mark w o.item.tag) (four_mark w four o.item.tag)

-- 52 is put in where it has a piece
pub words_are : (w : List ℕ) → length w ≡ 4 → (os : List Opt) → Small os
    → words_of w (items os) ≡ cond (eqb (length (pieces 52 os)) 0) (others_in w os) (with_mark (others_in w os) 52)
unfolding words_of items others_in pieces
words_are w four [] s = refl
words_are w four (o ∷ os) s = go (eqb o.item.tag 52) refl (words_are (with_mark w o.item.tag) (four_mark w four o.item.tag) os s.1)
  where
    go : (b : Bool) → eqb o.item.tag 52 ≡ b
        → words_of (with_mark w o.item.tag) (items os) ≡ cond (eqb (length (pieces 52 os)) 0) (others_in (with_mark w o.item.tag) os) (with_mark (others_in (with_mark w o.item.tag) os) 52)
        → words_of (with_mark w o.item.tag) (items os) ≡ cond (eqb (length (cond (eqb 52 o.item.tag) (o ∷ pieces 52 os) (pieces 52 os))) 0) (others_in (cond b w (with_mark w o.item.tag)) os) (with_mark (others_in (cond b w (with_mark w o.item.tag)) os) 52)
    go true e ih =
        let q : o.item.tag ≡ 52 = eqb-true o.item.tag 52 e in
        rw (eq-eqb 52 o.item.tag (sym q), ne_eqb (suc (length (pieces 52 os))) 0 (λ z. omega arith)) (ap (λ (c : ℕ). words_of (with_mark w c) (items os)) q ∙ with_52 w four os s.1)
    go false e ih = rw (ne_eqb 52 o.item.tag (λ z. eqb-false o.item.tag 52 e (sym z))) ih
