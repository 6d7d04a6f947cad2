-- Which call gives which numbers: ReadingNumbers, AnswerNumbers and IndexNumbers, proved. Assumes nothing.
use mathlib.Core.Path.{◌≡◌, refl, sym, subst}
use mathlib.Core.List.{List, [], ◌∷◌, ◌++◌}
use mathlib.Core.Bool.{Bool, true, false, cond}
use mathlib.Core.Option.{Option, none, some}
use mathlib.Core.Logic.{◌⊎◌, inl, inr, ⊎_elim}
use Prim.Native.Nat.{ℕ, ◌≤◌}
use native.Mathlib.Omega.{arith}
use lib.ListN.{length, get_or, take, drop}
use lib.Dec.{ltb, eqb}
use Rattle.options.specs.Message.{Opt, cookie, shortest, longest, end_to_end}
use Rattle.options.specs.Refusals.{When, Row, row_1, row_2, row_3, row_4, row_5, row_6, row_7}
use Rattle.options.specs.Reading.{Reading, accepted, refused, read_message, same, pieces}
use Rattle.options.specs.Kinds.{Table, broken, kinds}
use Rattle.options.specs.KindClaims.{OneOf, FromTo}
use Rattle.options.specs.Answers.{Origin, Content, known, Answer, Absent, Refused, Found, no_code, answered, shown, lookup, refused_with, given, declined, unfilled, filled_with, record_bytes, sheet_records, records_in, records, copy_found, copy_in_value, copy, present_in, present}
use Rattle.options.specs.Index.{index_of, built_in, build, used_entry, entry_answer, by_entry, lookup_by}
use Rattle.options.specs.ReadingClaims.{ContentIs, is_unknown, when_known, ReadingNumbers}
use Rattle.options.specs.AnswerClaims.{AnswerNumbers}
use Rattle.options.specs.IndexClaims.{IndexNumbers}
use Rattle.theorems.proofs.View.{clash}
use Rattle.theorems.proofs.Reading.{refused_by_the_table}
use Rattle.theorems.proofs.KindRules.{broken_8_or_9}
use Rattle.theorems.proofs.Lookup.{shows_what_stands}

of_row : {m : List ℕ} {n p : ℕ} {w : When} → Row m n p w → FromTo 1 7 n
of_row (row_1 h) = (omega arith, omega arith)
of_row (row_2 h) = (omega arith, omega arith)
of_row (row_3 h) = (omega arith, omega arith)
of_row (row_4 fd a b c) = (omega arith, omega arith)
of_row (row_5 fd a b) = (omega arith, omega arith)
of_row (row_6 fd a b c) = (omega arith, omega arith)
of_row (row_7 fd a b c) = (omega arith, omega arith)

pub reading_numbers : ReadingNumbers
reading_numbers m n p e = of_row ((refused_by_the_table m n p).0 e).applies

-- ---- The answers

of_lookup : (t : Table) (set : ℕ → Bool) (m : List ℕ) (c n p : ℕ) → lookup t set m c ≡ Refused n p → FromTo 1 7 n ⊎ (n ≡ 10)
unfolding lookup
of_lookup t set m c n p e = go (no_code c) (read_message m) refl e
  where
    go : (b : Bool) (w : Reading) → read_message m ≡ w → cond b (Refused 10 0) (answered t set c w) ≡ Refused n p → FromTo 1 7 n ⊎ (n ≡ 10)
    go true w r z = inr (cc)
    go false (refused k q) r z = let same_number : k ≡ n = cc in inl (subst (FromTo 1 7) same_number (reading_numbers m k q r))
    go false (accepted os) r z = shows (pieces c os) z
      where
        shows : (ps : List Opt) → shown t set c ps ≡ Refused n p → FromTo 1 7 n ⊎ (n ≡ 10)
        shows [] y = clash (cc)
        shows (o ∷ ps) y = clash (cc)

broken_number : (set : ℕ → Bool) (m : List ℕ) (c n : ℕ) (g : Origin) → lookup kinds set m c ≡ Found g (known (broken n)) → (n ≡ 8) ⊎ (n ≡ 9)
broken_number set m c n g e =
    let s = (shows_what_stands kinds set m c g (known (broken n))).0 e in
    go (known (broken n)) s.content_is refl
  where
    go : {d : List ℕ} (y : Content) → ContentIs kinds set c d y → y ≡ known (broken n) → (n ≡ 8) ⊎ (n ≡ 9)
    go y (is_unknown k) z = clash (cc)
    go {d} y (when_known k) z = let v : kinds.value c d ≡ broken n = cc in broken_8_or_9 c d n v

-- what a lent buffer is too small for gives 11
of_filled : (xs old : List ℕ) (n p : ℕ) → (filled_with xs old).answer ≡ declined n p → n ≡ 11
of_filled xs old n p e = go (ltb (length old) (length xs)) e
  where
    go : (b : Bool) → (cond b (unfilled 11 (length old) old) (record { answer = given (length xs); buffer = xs ++ drop (length xs) old })).answer ≡ declined n p → n ≡ 11
    go true z = cc
    go false z = clash (cc)

of_copy : (m : List ℕ) (c : ℕ) (old : List ℕ) (n p : ℕ) → (copy m c old).answer ≡ declined n p → FromTo 1 7 n ⊎ OneOf n (10 ∷ 11 ∷ [])
unfolding copy
of_copy m c old n p e = go (no_code c) (read_message m) refl e
  where
    go : (b : Bool) (w : Reading) → read_message m ≡ w → (cond b (unfilled 10 0 old) (copy_in_value c w old)).answer ≡ declined n p → FromTo 1 7 n ⊎ OneOf n (10 ∷ 11 ∷ [])
    go true w r z = inr (inl (cc))
    go false (refused k q) r z = let same_number : k ≡ n = cc in inl (subst (FromTo 1 7) same_number (reading_numbers m k q r))
    go false (accepted os) r z = gives (pieces c os) z
      where
        gives : (ps : List Opt) → (copy_found ps old).answer ≡ declined n p → FromTo 1 7 n ⊎ OneOf n (10 ∷ 11 ∷ [])
        gives [] y = inr (inr (inl (cc)))
        gives (o ∷ ps) y = inr (inr (inl (of_filled (end_to_end (o ∷ ps)) old n p y)))

of_records : (m old : List ℕ) (n p : ℕ) → (records m old).answer ≡ declined n p → FromTo 1 7 n ⊎ (n ≡ 11)
unfolding records
of_records m old n p e = go (read_message m) refl e
  where
    go : (w : Reading) → read_message m ≡ w → (records_in w old).answer ≡ declined n p → FromTo 1 7 n ⊎ (n ≡ 11)
    go (refused k q) r z = let same_number : k ≡ n = cc in inl (subst (FromTo 1 7) same_number (reading_numbers m k q r))
    go (accepted os) r z = inr (of_filled (record_bytes (sheet_records os)) old n p z)

of_present : (m : List ℕ) (n p : ℕ) → (present m).verdict ≡ refused_with n p → FromTo 1 7 n
unfolding present
of_present m n p e = go (read_message m) refl e
  where
    go : (w : Reading) → read_message m ≡ w → (present_in w).verdict ≡ refused_with n p → FromTo 1 7 n
    go (refused k q) r z = let same_number : k ≡ n = cc in subst (FromTo 1 7) same_number (reading_numbers m k q r)
    go (accepted os) r z = clash (cc)

pub answer_numbers : AnswerNumbers
answer_numbers = (of_lookup, broken_number, of_copy, of_records, of_present)

-- ---- An index

of_build : (m old : List ℕ) (n p : ℕ) → (build m old).answer ≡ declined n p → FromTo 1 7 n ⊎ (n ≡ 18)
unfolding build
of_build m old n p e = go (ltb (length m) shortest) (ltb longest (length m)) (same (take 4 (drop 236 m)) cookie) (eqb (length old) 256) (read_message m) refl e
  where
    go : (a b c d : Bool) (w : Reading) → read_message m ≡ w
        → (cond a (unfilled 1 (length m) old)
        (cond b (unfilled 2 (length m) old) (cond c (cond d (built_in w old) (unfilled 18 (length old) old)) (unfilled 3 236 old)))).answer
        ≡ declined n p → FromTo 1 7 n ⊎ (n ≡ 18)
    go true b c d w r z = let k : 1 ≡ n = cc in inl (omega arith, omega arith)
    go false true c d w r z = let k : 2 ≡ n = cc in inl (omega arith, omega arith)
    go false false false d w r z = let k : 3 ≡ n = cc in inl (omega arith, omega arith)
    go false false true false w r z = inr (cc)
    go false false true true (refused k q) r z = let same_number : k ≡ n = cc in inl (subst (FromTo 1 7) same_number (reading_numbers m k q r))
    go false false true true (accepted os) r z = clash (cc)

of_entry : (t : Table) (set : ℕ → Bool) (m : List ℕ) (c e n p : ℕ) → by_entry t set m c e ≡ Refused n p → FromTo 1 7 n ⊎ OneOf n (10 ∷ 18 ∷ 19 ∷ [])
unfolding by_entry
of_entry t set m c e n p z = go (eqb e 0) (eqb e 65535) (used_entry m c e) z
  where
    go : (a b : Bool) (u : Option Opt) → cond a Absent (cond b (lookup t set m c) (entry_answer t set c e u)) ≡ Refused n p → FromTo 1 7 n ⊎ OneOf n (10 ∷ 18 ∷ 19 ∷ [])
    go true b u z = clash (cc)
    go false true u z = ⊎_elim (λ h. inl h) (λ h. inr (inl h)) (of_lookup t set m c n p z)
    go false false none z = inr (inr (inr (inl (cc))))
    go false false (some o) z = clash (cc)

of_lookup_by : (t : Table) (set : ℕ → Bool) (m idx : List ℕ) (c n p : ℕ) → lookup_by t set m idx c ≡ Refused n p → FromTo 1 7 n ⊎ OneOf n (10 ∷ 18 ∷ 19 ∷ [])
unfolding lookup_by
of_lookup_by t set m idx c n p e =
    go (no_code c) (ltb (length m) shortest) (ltb longest (length m)) (same (take 4 (drop 236 m)) cookie) (eqb (length idx) 256) (by_entry t set m c (get_or idx c 0)) (of_entry t set m c (get_or idx c 0) n p) e
  where
    go : (z a b k d : Bool) (x : Answer) → (x ≡ Refused n p → FromTo 1 7 n ⊎ OneOf n (10 ∷ 18 ∷ 19 ∷ []))
        → cond z (Refused 10 0)
        (cond a (Refused 1 (length m)) (cond b (Refused 2 (length m)) (cond k (cond d x (Refused 18 (length idx))) (Refused 3 236)))) ≡ Refused n p
        → FromTo 1 7 n ⊎ OneOf n (10 ∷ 18 ∷ 19 ∷ [])
    go true a b k d x h y = inr (inl (cc))
    go false true b k d x h y = let q : 1 ≡ n = cc in inl (omega arith, omega arith)
    go false false true k d x h y = let q : 2 ≡ n = cc in inl (omega arith, omega arith)
    go false false false false d x h y = let q : 3 ≡ n = cc in inl (omega arith, omega arith)
    go false false false true false x h y = inr (inr (inl (cc)))
    go false false false true true x h y = h y

pub index_numbers : IndexNumbers
index_numbers = (of_build, of_lookup_by)
