-- The codes of a message, as a scan leaves them. Assumes nothing.
use mathlib.Core.Path.{◌≡◌, refl, sym, ap, ◌∙◌}
use mathlib.Core.Bool.{true, cond}
use mathlib.Core.List.{List, [], ◌∷◌}
use mathlib.Core.Logic.{inl, inr}
use Prim.Native.Nat.{ℕ, suc, ◌≤◌, ◌<◌}
use native.Mathlib.Omega.{arith}
use lib.Dec.{eqb}
use lib.ListN.{length}
use borrow.Author.Tests.{eq-eqb, ne_eqb}
use Rattle.options.specs.Message.{Opt, data_start, In}
use Rattle.options.specs.Refusals.{When, Row, row_1, row_2, row_3, row_4, row_5, row_6, row_7}
use Rattle.options.specs.Reading.{Reading, accepted, refused, items, read_message, pieces}
use Rattle.options.specs.CodeSet.{with_mark, no_codes}
use Rattle.options.specs.Answers.{words_of, present}
use Rattle.options.specs.KindClaims.{AllBytes}
use Rattle.theorems.proofs.Reading.{refused_by_the_table}
use Rattle.theorems.proofs.CodesPresent.{listed_small, present_is}
use Rattle.message.specs.Scan.{Scan, first_start, scan_in, survey_of, Surveys}
use Rattle.message.specs.Walking.{others_in, Scans}
use Rattle.message.proofs.Watch.{Small, words_are}

rows : {m : List ℕ} {n p : ℕ} {w : When} → Row m n p w → 1 ≤ n
rows (row_1 h) = omega arith
rows (row_2 h) = omega arith
rows (row_3 h) = omega arith
rows (row_4 fd a b c) = omega arith
rows (row_5 fd a b) = omega arith
rows (row_6 fd a b c) = omega arith
rows (row_7 fd a b c) = omega arith

-- no refusal of a message has the number 0
pub numbered : (m : List ℕ) (n p : ℕ) → read_message m ≡ refused n p → 1 ≤ n
numbered m n p e = rows ((refused_by_the_table m n p).0 e).applies

small_of : (os : List Opt) → ((o : Opt) → In o os → o.item.tag < 256) → Small os
small_of [] h = tt
small_of (o ∷ os) h = (h o (inl refl), small_of os (λ q i. h q (inr i)))

-- a place is told where there is a piece
none_first : (ps : List Opt) → eqb (first_start ps) 0 ≡ eqb (length ps) 0
none_first [] = refl
none_first (o ∷ os) = ne_eqb (data_start o) 0 (λ z. omega (arith, z)) ∙ sym (ne_eqb (suc (length os)) 0 (λ z. omega (arith, z)))

module _ (m : List ℕ) (b : AllBytes m) (r : Scan) (set : List ℕ) (s : Scans true 52 m no_codes r set) where
  is : r ≡ survey_of m
  unfolding survey_of
  is = s.is

  pub codes_refused : (r.number ≡ 0 → ⊥) → Surveys m r no_codes
  codes_refused h = record { is = is; codes = go (read_message m) refl }
    where
      go : (v : Reading) → read_message m ≡ v → no_codes ≡ (present m).words
      go (refused n p) e = rw (present_is m e) refl
      go (accepted os) e = absurd (h (ap (λ (x : Scan). x.number) (s.is ∙ ap (scan_in true 52) e)))

  -- the set, by whether 52 has a piece
  words : r.number ≡ 0 → cond (eqb r.start 0) set (with_mark set 52) ≡ (present m).words
  words h = go (read_message m) refl
    where
      go : (v : Reading) → read_message m ≡ v → cond (eqb r.start 0) set (with_mark set 52) ≡ (present m).words
      go (refused n p) e = let z : r.number ≡ n = ap (λ (x : Scan). x.number) (s.is ∙ ap (scan_in true 52) e) in absurd (omega (arith, numbered m n p e))
      go (accepted os) e =
          let q : eqb r.start 0 ≡ eqb (length (pieces 52 os)) 0 = ap (λ (x : Scan). eqb x.start 0) (s.is ∙ ap (scan_in true 52) e) ∙ none_first (pieces 52 os) in
          let t : set ≡ others_in no_codes os = s.codes refl refl os e in
          let z : (present m).words ≡ words_of no_codes (items os) = rw (present_is m e) refl in
          rw (q, t) (sym (z ∙ words_are no_codes refl os (small_of os (listed_small m e b))))

  pub codes_with_52 : r.number ≡ 0 → (r.start ≡ 0 → ⊥) → (set' : List ℕ) → set' ≡ with_mark set 52 → Surveys m r set'
  codes_with_52 h n set' e = record { is = is; codes = e ∙ rw (ne_eqb r.start 0 n) at (words h) }

  pub codes_without_52 : r.number ≡ 0 → r.start ≡ 0 → Surveys m r set
  codes_without_52 h n = record { is = is; codes = rw (eq-eqb r.start 0 n) at (words h) }
