-- The records by a table of the codes are those by the set of the codes that have one. Assumes nothing.
use mathlib.Core.Path.{◌≡◌, refl, sym, ap, ◌∙◌}
use mathlib.Core.Bool.{Bool, true, false, cond}
use mathlib.Core.List.{List, [], ◌∷◌}
use mathlib.Core.Logic.{inl}
use Prim.Native.Nat.{ℕ, zero, suc, ◌≤◌, ◌<◌}
use native.Mathlib.Omega.{arith}
use native.Mathlib.Decide.{ℕ_discrete}
use lib.Dec.{eqb}
use lib.ListN.{length, get_or, set, replicate, length-set, length-replicate, get_or-replicate}
use lib.Seq.{get_or-set_same, get_or-set_other}
use borrow.Author.Tests.{eq-eqb, ne_eqb}
use Rattle.options.specs.Message.{Rec, Opt}
use Rattle.options.specs.Reading.{pieces}
use Rattle.options.specs.CodeSet.{marked, with_mark, no_codes}
use Rattle.codeset.proofs.Words.{mark_same, mark_other}
use Rattle.theorems.proofs.View.{clash}
use Rattle.records.specs.JoinedRecords.{Small, joined_record, sheet_from, only52, one_more_value, counted, sheet_by, Tells}
use Rattle.records.proofs.Codes.{small_rest, four_mark, in_four, none_marked}

-- ---- pieces counted

unfoldable more : ℕ → ℕ → ℕ
more zero x = x
more (suc n) x = more n (one_more_value x)

more_two : (n : ℕ) → more n 2 ≡ 2
unfolding more
more_two zero = refl
more_two (suc n) = more_two n

more_once : (n : ℕ) → more n 0 ≡ 1 → n ≤ 1
unfolding more
more_once zero e = omega arith
more_once (suc zero) e = omega arith
more_once (suc (suc n)) e = absurd (omega (arith, more_two n))

more_none : (ps : List Opt) → more (length ps) 0 ≡ 0 → ps ≡ []
unfolding more
more_none [] e = refl
more_none (p ∷ []) e = absurd (omega arith)
more_none (p ∷ q ∷ ps) e = absurd (omega (arith, more_two (length ps)))

counted_length : (t : List ℕ) (os : List Opt) → length (counted t os) ≡ length t
unfolding counted
counted_length t [] = refl
counted_length t (o ∷ os) = counted_length (set t o.item.tag (one_more_value (get_or t o.item.tag 0))) os ∙ length-set t o.item.tag _

counted_at : (t : List ℕ) (os : List Opt) (c : ℕ) → length t ≡ 256 → Small os → get_or (counted t os) c 0 ≡ more (length (pieces c os)) (get_or t c 0)
unfolding counted pieces more
counted_at t [] c l s = refl
counted_at t (o ∷ os) c l s = go (ℕ_discrete c k) (counted_at next os c (length-set t k _ ∙ l) (small_rest o os s))
  where
    k : ℕ
    k = o.item.tag

    next : List ℕ
    next = set t k (one_more_value (get_or t k 0))

    go : Dec (c ≡ k) → get_or (counted next os) c 0 ≡ more (length (pieces c os)) (get_or next c 0)
        → get_or (counted next os) c 0 ≡ more (length (cond (eqb c k) (o ∷ pieces c os) (pieces c os))) (get_or t c 0)
    go (yes e) h =
        let b : k < length t = omega (arith, s o (inl refl)) in
        let n : get_or next c 0 ≡ one_more_value (get_or t c 0) = rw e (get_or-set_same t k (one_more_value (get_or t k 0)) 0 b) in
        rw (eq-eqb c k e) (h ∙ ap (more (length (pieces c os))) n)
    go (no n) h = rw (ne_eqb c k n) (h ∙ ap (more (length (pieces c os))) (get_or-set_other t k c (one_more_value (get_or t k 0)) 0 n))

-- ---- by a table, or by a set

-- the set has codes for which the table has 0; for another that has 0 there is no option
record Match (t w : List ℕ) (os : List Opt) : Type 0 where
  has : (c : ℕ) → c < 256 → marked w c ≡ true → get_or t c 0 ≡ 0
  lacks : (c : ℕ) → c < 256 → marked w c ≡ false → get_or t c 0 ≡ 0 → pieces c os ≡ []

fewer : (c : ℕ) (o : Opt) (os : List Opt) → pieces c (o ∷ os) ≡ [] → pieces c os ≡ []
unfolding pieces
fewer c o os e = go (eqb c o.item.tag) e
  where
    go : (b : Bool) → cond b (o ∷ pieces c os) (pieces c os) ≡ [] → pieces c os ≡ []
    go true q = clash (cc)
    go false q = q

own_piece : (o : Opt) (os : List Opt) → pieces o.item.tag (o ∷ os) ≡ [] → ⊥
unfolding pieces
own_piece o os e = clash (let z : o ∷ pieces o.item.tag os ≡ [] = rw (eq-eqb o.item.tag o.item.tag refl) at e in cc)

match_on : (t w : List ℕ) (o : Opt) (os : List Opt) → length t ≡ 256 → length w ≡ 4 → o.item.tag < 256 → Match t w (o ∷ os) → Match (set t o.item.tag 0) (with_mark w o.item.tag) os
match_on t w o os l f b h =
    record {
      has = λ c s m. had c s m (ℕ_discrete c k);
      lacks = λ c s m z. lacked c s m z (ℕ_discrete c k);
    }
  where
    k : ℕ
    k = o.item.tag

    had : (c : ℕ) → c < 256 → marked (with_mark w k) c ≡ true → Dec (c ≡ k) → get_or (set t k 0) c 0 ≡ 0
    had c s m (yes e) = rw e (get_or-set_same t k 0 0 (omega arith))
    had c s m (no n) = get_or-set_other t k c 0 0 n ∙ h.has c s (sym (mark_other w k c (in_four w k f b) n) ∙ m)

    lacked : (c : ℕ) → c < 256 → marked (with_mark w k) c ≡ false → get_or (set t k 0) c 0 ≡ 0 → Dec (c ≡ k) → pieces c os ≡ []
    lacked c s m z (yes e) = clash (let q : false ≡ true = sym m ∙ ap (marked (with_mark w k)) e ∙ mark_same w k (in_four w k f b) in cc)
    lacked c s m z (no n) =
        fewer c o os (h.lacks c s (sym (mark_other w k c (in_four w k f b) n) ∙ m) (sym (get_or-set_other t k c 0 0 n) ∙ z))

sheet_by_lem : (t w : List ℕ) (os : List Opt) → length t ≡ 256 → length w ≡ 4 → Small os → Match t w os → sheet_by t os ≡ sheet_from w os
unfolding sheet_by sheet_from
sheet_by_lem t w [] l f s h = refl
sheet_by_lem t w (o ∷ os) l f s h = go (marked w k) refl (sheet_by_lem t w os l f u) (sheet_by_lem (set t k 0) (with_mark w k) os (length-set t k 0 ∙ l) (four_mark w k f) u)
  where
    k : ℕ
    k = o.item.tag

    b : k < 256
    b = s o (inl refl)

    u : Small os
    u = small_rest o os s

    skipped : Match t w os
    skipped = record { has = h.has; lacks = λ c l m z. fewer c o os (h.lacks c l m z) }

    go : (m : Bool) → marked w k ≡ m → (Match t w os → sheet_by t os ≡ sheet_from w os)
        → (Match (set t k 0) (with_mark w k) os → sheet_by (set t k 0) os ≡ sheet_from (with_mark w k) os)
        → cond (eqb (get_or t k 0) 0) (sheet_by t os) (joined_record o os ∷ sheet_by (set t k 0) os) ≡ cond m (sheet_from w os) (joined_record o os ∷ sheet_from (with_mark w k) os)
    go true m p q = rw (eq-eqb (get_or t k 0) 0 (h.has k b m)) (p skipped)
    go false m p q =
        rw (ne_eqb (get_or t k 0) 0 (λ z. own_piece o os (h.lacks k b m z))) (ap (λ (l : List Rec). joined_record o os ∷ l) (q (match_on t w o os l f b h)))

-- ---- the table that the records of a message are laid by

abbrev pub table_of : List Opt → List ℕ
table_of os = set (set (set (counted (replicate 256 0) os) 0 2) 52 0) 255 2

module _ (os : List Opt) (s : Small os) where
  abbrev all : List ℕ
  all = counted (replicate 256 0) os

  all_long : length all ≡ 256
  all_long = counted_length (replicate 256 0) os ∙ length-replicate {A = ℕ} 256 0

  one_long : length (set all 0 2) ≡ 256
  one_long = length-set all 0 2 ∙ all_long

  two_long : length (set (set all 0 2) 52 0) ≡ 256
  two_long = length-set (set all 0 2) 52 0 ∙ one_long

  at_0 : get_or (table_of os) 0 0 ≡ 2
  at_0 =
      get_or-set_other (set (set all 0 2) 52 0) 255 0 2 0 (λ e. omega arith)
      ∙ get_or-set_other (set all 0 2) 52 0 0 0 (λ e. omega arith)
      ∙ get_or-set_same all 0 2 0 (omega (arith, all_long))

  at_52 : get_or (table_of os) 52 0 ≡ 0
  at_52 = get_or-set_other (set (set all 0 2) 52 0) 255 52 2 0 (λ e. omega arith) ∙ get_or-set_same (set all 0 2) 52 0 0 (omega (arith, one_long))

  at_255 : get_or (table_of os) 255 0 ≡ 2
  at_255 = get_or-set_same (set (set all 0 2) 52 0) 255 2 0 (omega (arith, two_long))

  at_other : (c : ℕ) → c < 256 → (c ≡ 0 → ⊥) → (c ≡ 52 → ⊥) → (c ≡ 255 → ⊥) → get_or (table_of os) c 0 ≡ more (length (pieces c os)) 0
  at_other c l n₀ n n₁ =
      get_or-set_other (set (set all 0 2) 52 0) 255 c 2 0 n₁
      ∙ get_or-set_other (set all 0 2) 52 c 0 0 n
      ∙ get_or-set_other all 0 c 2 0 n₀
      ∙ counted_at (replicate 256 0) os c (length-replicate {A = ℕ} 256 0) s
      ∙ ap (more (length (pieces c os))) (get_or-replicate {A = ℕ} 256 c 0 0 l)

  pub table_tells : Tells (table_of os) os
  table_tells =
      record {
        bytes = length-set (set (set all 0 2) 52 0) 255 2 ∙ two_long;
        no_pad = λ e. omega (arith, at_0);
        no_end = λ e. omega (arith, at_255);
        once = λ c l e. go c l e (ℕ_discrete c 0) (ℕ_discrete c 52) (ℕ_discrete c 255);
      }
    where
      go : (c : ℕ) → c < 256 → get_or (table_of os) c 0 ≡ 1 → Dec (c ≡ 0) → Dec (c ≡ 52) → Dec (c ≡ 255) → length (pieces c os) ≤ 1
      go c l e (yes z) y x = absurd (omega (arith, ap (λ (k : ℕ). get_or (table_of os) k 0) z, at_0))
      go c l e (no z) (yes y) x = absurd (omega (arith, ap (λ (k : ℕ). get_or (table_of os) k 0) y, at_52))
      go c l e (no z) (no y) (yes x) = absurd (omega (arith, ap (λ (k : ℕ). get_or (table_of os) k 0) x, at_255))
      go c l e (no z) (no y) (no x) = more_once (length (pieces c os)) (sym (at_other c l z y x) ∙ e)

  matches : Match (table_of os) only52 os
  matches = record { has = λ c l m. had c l m (ℕ_discrete c 52); lacks = λ c l m e. lacked c l m e (ℕ_discrete c 0) (ℕ_discrete c 52) (ℕ_discrete c 255) }
    where
      had : (c : ℕ) → c < 256 → marked only52 c ≡ true → Dec (c ≡ 52) → get_or (table_of os) c 0 ≡ 0
      had c l m (yes y) = ap (λ (k : ℕ). get_or (table_of os) k 0) y ∙ at_52
      had c l m (no y) = clash (let q : false ≡ true = sym (mark_other no_codes 52 c (omega arith) y ∙ none_marked c l) ∙ m in cc)

      lacked : (c : ℕ) → c < 256 → marked only52 c ≡ false → get_or (table_of os) c 0 ≡ 0 → Dec (c ≡ 0) → Dec (c ≡ 52) → Dec (c ≡ 255) → pieces c os ≡ []
      lacked c l m e (yes z) y x = absurd (omega (arith, ap (λ (k : ℕ). get_or (table_of os) k 0) z, at_0))
      lacked c l m e (no z) (yes y) x = clash (let q : false ≡ true = sym m ∙ ap (marked only52) y ∙ mark_same no_codes 52 (omega arith) in cc)
      lacked c l m e (no z) (no y) (yes x) = absurd (omega (arith, ap (λ (k : ℕ). get_or (table_of os) k 0) x, at_255))
      lacked c l m e (no z) (no y) (no x) = more_none (pieces c os) (sym (at_other c l z y x) ∙ e)

  pub sheet_by_table : sheet_by (table_of os) os ≡ sheet_from only52 os
  sheet_by_table = sheet_by_lem (table_of os) only52 os table_tells.bytes refl s matches
