-- The records by a set of codes are those of the definition, and how long they are. Assumes nothing.
use mathlib.Core.Path.{◌≡◌, refl, sym, ap, ap₂, ◌∙◌}
use mathlib.Core.Bool.{Bool, true, false, cond}
use mathlib.Core.List.{List, [], ◌∷◌, ◌++◌, append-nil}
use mathlib.Core.Logic.{inl, inr}
use Prim.Native.Nat.{ℕ, suc, ◌+◌, ◌*◌, ◌/◌, ◌≤◌, ◌<◌}
use native.Mathlib.Omega.{arith}
use native.Mathlib.Decide.{ℕ_discrete}
use lib.Dec.{eqb}
use lib.ListN.{length, length-append, length-set}
use borrow.Author.Tests.{eq-eqb, ne_eqb}
use Rattle.options.specs.Message.{Rec, Opt, end_to_end}
use Rattle.options.specs.Reading.{either, among, items, pieces}
use Rattle.options.specs.Answers.{record_bytes, but52, further_data, joined_records, sheet_records, words_of}
use Rattle.options.specs.CodeSet.{marked, with_mark, no_codes, count_of}
use Rattle.codeset.proofs.Words.{mark_same, mark_other, mark_there, mark_swap, mark_ones}
use Rattle.codeset.proofs.Codes.{marks_none}
use Rattle.theorems.proofs.View.{clash}
use Rattle.theorems.proofs.Sheets.{further_pieces}
use Rattle.message.specs.Scan.{used_by}
use Rattle.records.specs.JoinedRecords.{Small, joined_record, sheet_from, only52, fresh}

pub small_rest : (o : Opt) (os : List Opt) → Small (o ∷ os) → Small os
small_rest o os s q h = s q (inr h)

pub four_mark : (w : List ℕ) (c : ℕ) → length w ≡ 4 → length (with_mark w c) ≡ 4
four_mark w c f = length-set w (c / 64) _ ∙ f

pub in_four : (w : List ℕ) (c : ℕ) → length w ≡ 4 → c < 256 → c / 64 < length w
in_four w c f h = omega arith

pub none_marked : (c : ℕ) → c < 256 → marked no_codes c ≡ false
none_marked c h = marks_none.bits c h

-- ---- the records are those of the definition

-- w marks 52 and the codes in `seen`
abbrev Holding : List ℕ → List ℕ → Type 0
Holding w seen = (c : ℕ) → c < 256 → marked w c ≡ either (eqb c 52) (among c seen)

either_comm : (a b : Bool) → either a b ≡ either b a
either_comm true true = refl
either_comm true false = refl
either_comm false true = refl
either_comm false false = refl

-- a code more that was marked before
holding_same : (w seen : List ℕ) (t : ℕ) → t < 256 → Holding w seen → marked w t ≡ true → Holding w (t ∷ seen)
holding_same w seen t l h m c k = go (ℕ_discrete c t)
  where
    spread : (a b x : Bool) → b ≡ false → either a x ≡ either a (either b x)
    spread true b x e = refl
    spread false b x e = rw e refl

    go : Dec (c ≡ t) → marked w c ≡ either (eqb c 52) (either (eqb c t) (among c seen))
    go (yes e) = rw (e, eq-eqb t t refl) (m ∙ (let z : true ≡ either (eqb t 52) true = either_comm true (eqb t 52) in z))
    go (no n) = h c k ∙ spread (eqb c 52) (eqb c t) (among c seen) (ne_eqb c t n)

-- a new one
holding_more : (w seen : List ℕ) (t : ℕ) → length w ≡ 4 → t < 256 → Holding w seen → Holding (with_mark w t) (t ∷ seen)
holding_more w seen t f l h c k = go (ℕ_discrete c t)
  where
    spread : (a b x : Bool) → b ≡ false → either a x ≡ either a (either b x)
    spread true b x e = refl
    spread false b x e = rw e refl

    go : Dec (c ≡ t) → marked (with_mark w t) c ≡ either (eqb c 52) (either (eqb c t) (among c seen))
    go (yes e) = rw (e, eq-eqb t t refl) (mark_same w t (in_four w t f l) ∙ (let z : true ≡ either (eqb t 52) true = either_comm true (eqb t 52) in z))
    go (no n) = mark_other w t c (in_four w t f l) n ∙ h c k ∙ spread (eqb c 52) (eqb c t) (among c seen) (ne_eqb c t n)

joined_is : (o : Opt) (os : List Opt) → record { tag = o.item.tag; body = o.item.body ++ further_data o.item.tag (items os) } ≡ joined_record o os
unfolding end_to_end pieces
joined_is o os =
    ap (λ (d : List ℕ). record { tag = o.item.tag; body = d })
    (ap (λ (l : List ℕ). o.item.body ++ l) (further_pieces o.item.tag os) ∙ ap (λ (b : Bool). end_to_end (cond b (o ∷ pieces o.item.tag os) (pieces o.item.tag os))) (sym (eq-eqb o.item.tag o.item.tag refl)))

sheet_from_lem : (w seen : List ℕ) (os : List Opt) → length w ≡ 4 → Small os → Holding w seen → sheet_from w os ≡ but52 (joined_records seen (items os))
unfolding sheet_from joined_records items but52
sheet_from_lem w seen [] f s h = refl
sheet_from_lem w seen (o ∷ os) f s h = go (λ v sn k g. sheet_from_lem v sn os k (small_rest o os s) g) (among t seen) refl (eqb t 52) refl
  where
    t : ℕ
    t = o.item.tag

    l : t < 256
    l = s o (inl refl)

    rest : List Rec
    rest = joined_records (t ∷ seen) (items os)

    r : Rec
    r = record { tag = t; body = o.item.body ++ further_data t (items os) }

    Rest : Type 0
    Rest = (v sn : List ℕ) → length v ≡ 4 → Holding v sn → sheet_from v os ≡ but52 (joined_records sn (items os))

    -- passed over in both
    passed : Rest → marked w t ≡ true → cond (marked w t) (sheet_from w os) (joined_record o os ∷ sheet_from (with_mark w t) os) ≡ but52 rest
    passed ih m = rw m (ih w (t ∷ seen) f (holding_same w seen t l h m))

    go : Rest → (a : Bool) → among t seen ≡ a → (b : Bool) → eqb t 52 ≡ b
        → cond (marked w t) (sheet_from w os) (joined_record o os ∷ sheet_from (with_mark w t) os) ≡ but52 (cond a rest (r ∷ rest))
    go ih true e b q = passed ih (h t l ∙ ap (either (eqb t 52)) e ∙ either_comm (eqb t 52) true)
    go ih false e true q = rw q (passed ih (h t l ∙ ap (λ (b : Bool). either b (among t seen)) q))
    go ih false e false q =
        rw (h t l ∙ ap₂ either q e, q) (ap₂ (λ (x : Rec) (xs : List Rec). x ∷ xs) (sym (joined_is o os)) (ih (with_mark w t) (t ∷ seen) (four_mark w t f) (holding_more w seen t f l h)))

pub sheet_is : (os : List Opt) → Small os → sheet_from only52 os ≡ sheet_records os
unfolding sheet_records
sheet_is os s = sheet_from_lem only52 [] os refl s first
  where
    first : Holding only52 []
    first c k = go (ℕ_discrete c 52)
      where
        go : Dec (c ≡ 52) → marked only52 c ≡ either (eqb c 52) false
        go (yes e) = rw (e) (mark_same no_codes 52 (omega arith))
        go (no n) = mark_other no_codes 52 c (omega arith) n ∙ none_marked c k ∙ rw (ne_eqb c 52 n)

-- ---- how many codes

pub fresh_le : (w : List ℕ) (os : List Opt) → fresh w os ≤ length os
unfolding fresh
fresh_le w [] = omega arith
fresh_le w (o ∷ os) = go (marked w o.item.tag) (fresh_le w os) (fresh_le (with_mark w o.item.tag) os)
  where
    go : (b : Bool) → fresh w os ≤ length os → fresh (with_mark w o.item.tag) os ≤ length os → cond b (fresh w os) (suc (fresh (with_mark w o.item.tag) os)) ≤ suc (length os)
    go true h k = omega arith
    go false h k = omega arith

fresh_count : (w : List ℕ) (os : List Opt) → length w ≡ 4 → Small os → count_of (words_of w (items os)) ≡ count_of w + fresh w os
unfolding fresh words_of items
fresh_count w [] f s = omega arith
fresh_count w (o ∷ os) f s = go (λ v k. fresh_count v os k (small_rest o os s)) (marked w o.item.tag) refl
  where
    go : ((v : List ℕ) → length v ≡ 4 → count_of (words_of v (items os)) ≡ count_of v + fresh v os) → (b : Bool) → marked w o.item.tag ≡ b
        → count_of (words_of (with_mark w o.item.tag) (items os)) ≡ count_of w + cond b (fresh w os) (suc (fresh (with_mark w o.item.tag) os))
    go ih true e = rw (mark_there w o.item.tag e) (ih w f)
    go ih false e =
        omega (arith, ih (with_mark w o.item.tag) (four_mark w o.item.tag f), mark_ones w o.item.tag (in_four w o.item.tag f (s o (inl refl))) e)

pub codes_counted : (os : List Opt) → Small os → count_of (words_of no_codes (items os)) ≡ fresh no_codes os
codes_counted os s = omega (arith, fresh_count no_codes os refl s, marks_none.count)

-- one code more in the set: 1 where an option has it
abbrev pub one : List Opt → ℕ
one [] = 0
one (o ∷ os) = 1

fresh_more : (c : ℕ) (w : List ℕ) (os : List Opt) → length w ≡ 4 → c < 256 → Small os → marked w c ≡ false → fresh w os ≡ fresh (with_mark w c) os + one (pieces c os)
unfolding fresh pieces
fresh_more c w [] f l s m = refl
fresh_more c w (o ∷ os) f l s m = go (λ v k n. fresh_more c v os k l (small_rest o os s) n) (ℕ_discrete c o.item.tag)
  where
    t : ℕ
    t = o.item.tag

    k : t < 256
    k = s o (inl refl)

    Rest : Type 0
    Rest = (v : List ℕ) → length v ≡ 4 → marked v c ≡ false → fresh v os ≡ fresh (with_mark v c) os + one (pieces c os)

    other : Rest → (c ≡ t → ⊥) → (b : Bool) → marked w t ≡ b
        → cond b (fresh w os) (suc (fresh (with_mark w t) os)) ≡ cond b (fresh (with_mark w c) os) (suc (fresh (with_mark (with_mark w c) t) os)) + one (pieces c os)
    other ih n true e = ih w f m
    other ih n false e =
        let z : fresh (with_mark w t) os ≡ fresh (with_mark (with_mark w t) c) os + one (pieces c os) =
        ih (with_mark w t) (four_mark w t f) (mark_other w t c (in_four w t f k) n ∙ m) in
        let y : with_mark (with_mark w c) t ≡ with_mark (with_mark w t) c = mark_swap w c t (in_four w c f l) (in_four w t f k) in
        rw y (omega arith)

    go : Rest → Dec (c ≡ t)
        → cond (marked w t) (fresh w os) (suc (fresh (with_mark w t) os))
        ≡ cond (marked (with_mark w c) t) (fresh (with_mark w c) os) (suc (fresh (with_mark (with_mark w c) t) os)) + one (cond (eqb c t) (o ∷ pieces c os) (pieces c os))
    go ih (yes e) = rw (← e, m, mark_same w c (in_four w c f l), eq-eqb c c refl) (omega arith)
    go ih (no n) = rw (mark_other w c t (in_four w c f l) (λ z. n (sym z)), ne_eqb c t n) (other ih n (marked w t) refl)

-- ---- how many bytes

-- the data of the options whose codes are not in the set
unfoldable bodies : List ℕ → List Opt → ℕ
bodies w [] = 0
bodies w (o ∷ os) = cond (marked w o.item.tag) 0 (length o.item.body) + bodies w os

bodies_more : (c : ℕ) (w : List ℕ) (os : List Opt) → length w ≡ 4 → c < 256 → Small os → marked w c ≡ false → bodies w os ≡ length (end_to_end (pieces c os)) + bodies (with_mark w c) os
unfolding bodies pieces end_to_end
bodies_more c w [] f l s m = refl
bodies_more c w (o ∷ os) f l s m = go (ℕ_discrete c o.item.tag) (bodies_more c w os f l (small_rest o os s) m)
  where
    t : ℕ
    t = o.item.tag

    go : Dec (c ≡ t) → bodies w os ≡ length (end_to_end (pieces c os)) + bodies (with_mark w c) os
        → cond (marked w t) 0 (length o.item.body) + bodies w os
        ≡ length (end_to_end (cond (eqb c t) (o ∷ pieces c os) (pieces c os))) + (cond (marked (with_mark w c) t) 0 (length o.item.body) + bodies (with_mark w c) os)
    go (yes e) h = rw (← e, m, mark_same w c (in_four w c f l), eq-eqb c c refl) (omega (arith, length-append o.item.body (end_to_end (pieces c os))))
    go (no n) h = rw (mark_other w c t (in_four w c f l) (λ z. n (sym z)), ne_eqb c t n) (omega arith)

pub record_length : (r : Rec) (rs : List Rec) → length (record_bytes (r ∷ rs)) ≡ 3 + length r.body + length (record_bytes rs)
unfolding record_bytes
record_length r rs = omega (arith, length-append r.body (record_bytes rs))

own_first : (o : Opt) (os : List Opt) → length (joined_record o os).body ≡ length o.item.body + length (end_to_end (pieces o.item.tag os))
unfolding pieces end_to_end
own_first o os = rw (eq-eqb o.item.tag o.item.tag refl) (length-append o.item.body (end_to_end (pieces o.item.tag os)))

sheet_length : (w : List ℕ) (os : List Opt) → length w ≡ 4 → Small os → length (record_bytes (sheet_from w os)) ≡ fresh w os * 3 + bodies w os
unfolding sheet_from fresh bodies record_bytes
sheet_length w [] f s = refl
sheet_length w (o ∷ os) f s = go (λ v k. sheet_length v os k (small_rest o os s)) (marked w t) refl
  where
    t : ℕ
    t = o.item.tag

    u : Small os
    u = small_rest o os s

    go : ((v : List ℕ) → length v ≡ 4 → length (record_bytes (sheet_from v os)) ≡ fresh v os * 3 + bodies v os) → (b : Bool) → marked w t ≡ b
        → length (record_bytes (cond b (sheet_from w os) (joined_record o os ∷ sheet_from (with_mark w t) os)))
        ≡ cond b (fresh w os) (suc (fresh (with_mark w t) os)) * 3 + (cond b 0 (length o.item.body) + bodies w os)
    go ih true e = omega (arith, ih w f)
    go ih false e =
        omega (arith, record_length (joined_record o os) (sheet_from (with_mark w t) os), own_first o os, ih (with_mark w t) (four_mark w t f), bodies_more t w os f (s o (inl refl)) u e)

bodies_all : (os : List Opt) → Small os → bodies no_codes os + length os * 2 ≡ used_by os
unfolding bodies used_by
bodies_all [] s = refl
bodies_all (o ∷ os) s = rw (none_marked o.item.tag (s o (inl refl))) (omega (arith, bodies_all os (small_rest o os s)))

-- what the records take, with what 52 would take and two bytes an option
pub sheet_size : (os : List Opt) → Small os
    → length (record_bytes (sheet_from only52 os)) + length os * 2 + length (end_to_end (pieces 52 os)) + one (pieces 52 os) * 3 ≡ used_by os + fresh no_codes os * 3
sheet_size os s =
    omega (arith, sheet_length only52 os refl s, bodies_more 52 no_codes os refl (omega arith) s (none_marked 52 (omega arith)), fresh_more 52 no_codes os refl (omega arith) s (none_marked 52 (omega arith)), bodies_all os s)

-- ---- where every code stands once

-- a code that is in the set has no option
none_left : (c : ℕ) (w : List ℕ) (os : List Opt) → fresh w os ≡ length os → length w ≡ 4 → Small os → marked w c ≡ true → pieces c os ≡ []
unfolding fresh pieces
none_left c w [] e f s m = refl
none_left c w (o ∷ os) e f s m = go (λ v q k n. none_left c v os q k (small_rest o os s) n) (marked w o.item.tag) refl e
  where
    t : ℕ
    t = o.item.tag

    go : ((v : List ℕ) → fresh v os ≡ length os → length v ≡ 4 → marked v c ≡ true → pieces c os ≡ []) → (b : Bool) → marked w t ≡ b
        → cond b (fresh w os) (suc (fresh (with_mark w t) os)) ≡ suc (length os) → cond (eqb c t) (o ∷ pieces c os) (pieces c os) ≡ []
    go ih true q z = absurd (omega (arith, fresh_le w os))
    go ih false q z =
        let n : c ≡ t → ⊥ = λ y. clash (let a : false ≡ true = sym q ∙ ap (marked w) (sym y) ∙ m in cc) in
        rw (ne_eqb c t n) (ih (with_mark w t) (omega arith) (four_mark w t f) (mark_other w t c (in_four w t f (s o (inl refl))) n ∙ m))

pub alone : (o : Opt) (os : List Opt) → pieces o.item.tag os ≡ [] → joined_record o os ≡ o.item
unfolding pieces end_to_end
alone o os e = rw (eq-eqb o.item.tag o.item.tag refl, e) (ap (λ (d : List ℕ). record { tag = o.item.tag; body = d }) (append-nil o.item.body))

once : (w : List ℕ) (os : List Opt) → fresh w os ≡ length os → length w ≡ 4 → Small os → sheet_from (with_mark w 52) os ≡ but52 (items os)
unfolding fresh sheet_from items but52
once w [] e f s = refl
once w (o ∷ os) e f s = first (λ v q k. once v os q k (small_rest o os s)) (marked w t) refl e
  where
    t : ℕ
    t = o.item.tag

    l : t < 256
    l = s o (inl refl)

    u : Small os
    u = small_rest o os s

    Rest : Type 0
    Rest = (v : List ℕ) → fresh v os ≡ length os → length v ≡ 4 → sheet_from (with_mark v 52) os ≡ but52 (items os)

    go : Rest → fresh (with_mark w t) os ≡ length os → marked w t ≡ false → Dec (t ≡ 52)
        → cond (marked (with_mark w 52) t) (sheet_from (with_mark w 52) os) (joined_record o os ∷ sheet_from (with_mark (with_mark w 52) t) os) ≡ cond (eqb t 52) (but52 (items os)) (o.item ∷ but52 (items os))
    go ih z m (yes y) =
        let k : marked (with_mark w 52) 52 ≡ true = mark_same w 52 (in_four w 52 f (omega arith)) in
        let a : sheet_from (with_mark (with_mark w 52) 52) os ≡ but52 (items os) = ih (with_mark w 52) (ap (λ (c : ℕ). fresh (with_mark w c) os) (sym y) ∙ z) (four_mark w 52 f) in
        rw (y, k) (ap (λ (v : List ℕ). sheet_from v os) (sym (mark_there (with_mark w 52) 52 k)) ∙ a)
    go ih z m (no y) =
        rw (mark_other w 52 t (in_four w 52 f (omega arith)) y ∙ m, ne_eqb t 52 y)
        (ap₂ (λ (x : Rec) (xs : List Rec). x ∷ xs) (alone o os (none_left t (with_mark w t) os z (four_mark w t f) u (mark_same w t (in_four w t f l))))
        (ap (λ (v : List ℕ). sheet_from v os) (mark_swap w 52 t (in_four w 52 f (omega arith)) (in_four w t f l)) ∙ ih (with_mark w t) z (four_mark w t f)))

    first : Rest → (b : Bool) → marked w t ≡ b → cond b (fresh w os) (suc (fresh (with_mark w t) os)) ≡ suc (length os)
        → cond (marked (with_mark w 52) t) (sheet_from (with_mark w 52) os) (joined_record o os ∷ sheet_from (with_mark (with_mark w 52) t) os) ≡ cond (eqb t 52) (but52 (items os)) (o.item ∷ but52 (items os))
    first ih true q z = absurd (omega (arith, fresh_le w os))
    first ih false q z = go ih (omega arith) q (ℕ_discrete t 52)

pub sheet_once : (os : List Opt) → Small os → fresh no_codes os ≡ length os → sheet_from only52 os ≡ but52 (items os)
sheet_once os s e = once no_codes os e refl s
