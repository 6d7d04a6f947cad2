-- The statements of IndexClaims on building and on a lookup through an index, proved. Assumes nothing.
use mathlib.Core.Path.{◌≡◌, refl, sym, ap, ap₂, ◌∙◌, subst}
use mathlib.Core.List.{List, [], ◌∷◌, ◌++◌, append-nil}
use mathlib.Core.Bool.{Bool, true, false, cond}
use mathlib.Core.Option.{Option, none, some}
use mathlib.Core.Logic.{◌⊎◌, inl, inr, ⊎_elim}
use Prim.Native.Nat.{ℕ, zero, suc, ◌+◌, ◌-◌, ◌≤◌, ◌<◌}
use native.Mathlib.Omega.{arith}
use lib.ListN.{length, get_or, take, drop, length-drop, length-take}
use lib.Dec.{ltb, eqb}
use borrow.Author.Tests.{ltb-true, ltb-false, eqb-true, eqb-false, eq-eqb, ne_eqb}
use Rattle.options.specs.Message.{Field, options, file, sname, start, bytes, Opt, place, OptionAt, Standing, In, PiecesOf, end_to_end, cookie, shortest, longest}
use Rattle.options.specs.Refusals.{When, Row, row_1, row_2, row_3, row_4, row_5, row_6, row_7, First}
use Rattle.options.specs.Reading.{Reading, accepted, refused, same, read_message, pieces}
use Rattle.options.specs.Kinds.{Table}
use Rattle.options.specs.Answers.{in_one, Answer, Absent, Refused, Found, no_code, content_of, shown, answered, lookup, given, Filled, unfilled}
use Rattle.options.specs.ReadingClaims.{IsAccepted, CorrectAnswer}
use Rattle.options.specs.Index.{entry_of, index_of, built_in, used_entry, entry_answer, head_or, build, by_entry, lookup_by}
use Rattle.options.specs.IndexClaims.{BuiltFrom, HeadRight, HeadRow, of_message, row_18, Builds, refused_head, refused_reader, builds, BuildIsRight, AnswersAsPlain, Usable, EntryAnswer, says_absent, plain_walk, is_used, refused_19, Answers, refused_10, when_by_entry, AnswersByTheWords, IndexedLookupIsCorrect}
use Rattle.theorems.proofs.View.{clash}
use Rattle.theorems.proofs.Fields.{option_in_lem}
use Rattle.theorems.proofs.Messages.{two_ways, no_way, same_true, first_whole}
use Rattle.theorems.proofs.Reading.{first_one, refused_by_the_table, no_row_of}
use Rattle.theorems.proofs.Pieces.{pieces_right}
use Rattle.theorems.proofs.Lookup.{asked, no_code_lem, code_range, content_of_lem, content_same, lookup_found, lookup_is_correct}
use Rattle.theorems.proofs.Lengths.{message_short}
use Rattle.theorems.proofs.Entries.{index_built, built_entry, built_is}
use Rattle.theorems.proofs.Usable.{usable_used, used_usable}

-- ---- the head: 1, 2, 3, 18

-- a row of the head applies, or none does
abbrev Headed : (m idx : List ℕ) → Type 0
Headed m idx = ((n : ℕ) × (p : ℕ) × HeadRow m idx n p) ⊎ (HeadRight m × (length idx ≡ 256))

fit : {m : List ℕ} → shortest ≤ length m → length m ≤ longest → take 4 (drop 236 m) ≡ cookie → {n p : ℕ} {w : When} → Row m n p w → n ≤ 3 → ⊥
fit a b c (row_1 h) l = omega arith
fit a b c (row_2 h) l = omega arith
fit a b c (row_3 d) l = d c
fit a b c (row_4 fd x y z) l = omega arith
fit a b c (row_5 fd x y) l = omega arith
fit a b c (row_6 fd x y z) l = omega arith
fit a b c (row_7 fd x y z) l = omega arith

-- what the definition's tests say
module _ {A : Type 0} (refuse : ℕ → ℕ → A) (m idx : List ℕ) (next : A) where
  abbrev Says : A → Type 0
  Says x = ((n : ℕ) × (p : ℕ) × HeadRow m idx n p × (x ≡ refuse n p)) ⊎ (HeadRight m × (length idx ≡ 256) × (x ≡ next))

  says_head : Says (head_or refuse m idx next)
  says_head = go (ltb (length m) shortest) (ltb longest (length m)) (same (take 4 (drop 236 m)) cookie) (eqb (length idx) 256) refl refl refl refl
    where
      go : (a b c d : Bool) → ltb (length m) shortest ≡ a → ltb longest (length m) ≡ b → same (take 4 (drop 236 m)) cookie ≡ c → eqb (length idx) 256 ≡ d
          → Says (cond a (refuse 1 (length m)) (cond b (refuse 2 (length m)) (cond c (cond d next (refuse 18 (length idx))) (refuse 3 236))))
      go true b c d p q r s =
          let h = ltb-true (length m) shortest p in
          inl (1, length m, of_message {n = 1} (omega arith) (first_whole 1 (length m) (row_1 h) (λ x l. omega arith) (λ x l. omega arith) (omega arith)), refl)
      go false true c d p q r s =
          let l = ltb-false (length m) shortest p in
          let h = ltb-true longest (length m) q in
          inl (2, length m, of_message {n = 2} (omega arith) (first_whole 2 (length m) (row_2 h) (λ x k. omega arith) (λ x k. omega arith) (omega arith)), refl)
      go false false false d p q r s =
          let l = ltb-false (length m) shortest p in
          let u = ltb-false longest (length m) q in
          let other : take 4 (drop 236 m) ≡ cookie → ⊥ = λ e. let z : same (take 4 (drop 236 m)) cookie ≡ true = ap (λ (x : List ℕ). same x cookie) e in clash (cc) in
          inl (3, 236, of_message {n = 3} (omega arith) (first_whole 3 236 (row_3 other) (λ x k. omega arith) (λ x k. omega arith) (omega arith)), refl)
      go false false true true p q r s =
          inr (
            (λ n k w row l. fit (ltb-false (length m) shortest p) (ltb-false longest (length m) q) (same_true (take 4 (drop 236 m)) cookie r) row l),
            eqb-true (length idx) 256 s,
            refl,
          )
      go false false true false p q r s =
          inl (
            18,
            length idx,
            row_18 (λ n k w row l. fit (ltb-false (length m) shortest p) (ltb-false longest (length m) q) (same_true (take 4 (drop 236 m)) cookie r) row l) (eqb-false (length idx) 256 s),
            refl,
          )

  head_not : {n p : ℕ} → HeadRow m idx n p → HeadRight m → length idx ≡ 256 → ⊥
  head_not {n} {p} (of_message l f) r e = r n p f.when f.applies l
  head_not (row_18 h n) r e = n e

  head_one : {n p k q : ℕ} → HeadRow m idx n p → HeadRow m idx k q → refuse n p ≡ refuse k q
  head_one (of_message l f) (of_message k g) = ap₂ refuse (first_one f g).0 (first_one f g).1
  head_one {n} {p} (of_message l f) (row_18 h x) = absurd (h n p f.when f.applies l)
  head_one {n} {p} {k} {q} (row_18 h x) (of_message l f) = absurd (h k q f.when f.applies l)
  head_one (row_18 h x) (row_18 k y) = refl

  pub head_next : HeadRight m → length idx ≡ 256 → head_or refuse m idx next ≡ next
  head_next r e = go says_head
    where
      go : Says (head_or refuse m idx next) → head_or refuse m idx next ≡ next
      go (inl x) = absurd (head_not x.2 r e)
      go (inr x) = x.2

  head_row : {n p : ℕ} → HeadRow m idx n p → head_or refuse m idx next ≡ refuse n p
  head_row {n} {p} h = go says_head
    where
      go : Says (head_or refuse m idx next) → head_or refuse m idx next ≡ refuse n p
      go (inl x) = x.3 ∙ head_one x.2 h
      go (inr x) = absurd (head_not h x.0 x.1)

head_cases : (m idx : List ℕ) → Headed m idx
head_cases m idx = go (says_head {A = ℕ} (λ n p. n) m idx 0)
  where
    go : Says {A = ℕ} (λ n p. n) m idx 0 (head_or {A = ℕ} (λ n p. n) m idx 0) → Headed m idx
    go (inl x) = inl (x.0, x.1, x.2)
    go (inr x) = inr (x.0, x.1)

pub accepted_head : {m : List ℕ} → IsAccepted m → HeadRight m
accepted_head a n p w r l = no_row_of a.reads n p w r

-- ---- building

module _ (m old : List ℕ) where
  from_builds : {w : Filled} → Builds m old w → build m old ≡ w
  unfolding build
  from_builds (refused_head h) = head_row (λ n p. unfilled n p old) m old (built_in (read_message m) old) h
  from_builds (refused_reader {n = n} {p = p} h e f) =
      head_next (λ n p. unfilled n p old) m old (built_in (read_message m) old) h e ∙ ap (λ (w : Reading). built_in w old) ((refused_by_the_table m n p).1 f)
  from_builds (builds {idx = idx} e b) =
      head_next (λ n p. unfilled n p old) m old (built_in (read_message m) old) (accepted_head b.is_accepted) e ∙ ap (λ (w : Reading). built_in w old) b.is_accepted.reads
      ∙ ap (λ (l : List ℕ). record { answer = given 512; buffer = l }) (sym (built_is b))

  some_built : (w : Filled) × Builds m old w
  some_built = go (head_cases m old)
    where
      read : (x : Reading) → read_message m ≡ x → HeadRight m → length old ≡ 256 → (w : Filled) × Builds m old w
      read (refused n p) q h e = (unfilled n p old, refused_reader h e ((refused_by_the_table m n p).0 q))
      read (accepted os) q h e = (record { answer = given 512; buffer = index_of os }, builds e (index_built (record { options = os; reads = q })))

      go : Headed m old → (w : Filled) × Builds m old w
      go (inl x) = (unfilled x.0 x.1 old, refused_head x.2)
      go (inr x) = read (read_message m) refl x.0 x.1

pub build_is_right : BuildIsRight
build_is_right m old w = ((λ e. let x = some_built m old in subst (Builds m old) (sym (from_builds m old x.1) ∙ e) x.1), from_builds m old)

-- ---- a lookup through any index

module _ (t : Table) (set : ℕ → Bool) (m : List ℕ) (c : ℕ) (h : c ≤ 255) where
  not_used : {e : ℕ} → Usable m c e → e ≡ 0 → ⊥
  not_used u z = low u.field u.offset (sym u.lies ∙ z)
    where
      low : (fd : Field) (i : ℕ) → start fd + i ≡ 0 → ⊥
      low options i e = omega arith
      low file i e = omega arith
      low sname i e = omega arith

  pub from_entry : {e : ℕ} {w : Answer} → EntryAnswer t set m c e w → by_entry t set m c e ≡ w
  unfolding by_entry
  from_entry (says_absent z) = rw z
  from_entry {e} {w} (plain_walk z x) = rw z ((lookup_is_correct t set m c w h).1 x)
  from_entry {e} (is_used {x} s u k) = rw (ne_eqb e 0 (not_used u), ne_eqb e 65535 s, usable_used m c e u, content_same t set c u.body x k)
  from_entry {e} (refused_19 z s u) = rw (ne_eqb e 0 z, ne_eqb e 65535 s) (go (used_entry m c e) refl)
    where
      go : (x : Option Opt) → used_entry m c e ≡ x → entry_answer t set c e x ≡ Refused 19 e
      go none q = refl
      go (some o) q = absurd (u (used_usable m c e o q).0)

  some_entry : (e : ℕ) → (w : Answer) × EntryAnswer t set m c e w
  some_entry e = go (eqb e 0) (eqb e 65535) refl refl (used_entry m c e) refl
    where
      go : (a b : Bool) → eqb e 0 ≡ a → eqb e 65535 ≡ b → (x : Option Opt) → used_entry m c e ≡ x → (w : Answer) × EntryAnswer t set m c e w
      go true b p q x z = (Absent, says_absent (eqb-true e 0 p))
      go false true p q x z = (lookup t set m c, plain_walk (eqb-true e 65535 q) ((lookup_is_correct t set m c (lookup t set m c) h).0 refl))
      go false false p q none z =
          (Refused 19 e, refused_19 (eqb-false e 0 p) (eqb-false e 65535 q) (λ u. let y = usable_used m c e u in clash (cc)))
      go false false p q (some o) z =
          let u = (used_usable m c e o z).0 in
          (Found (record { field = u.field; offset = u.offset; wholeness = in_one }) (content_of t set c u.body), is_used (eqb-false e 65535 q) u (content_of_lem t set c u.body))

  module _ (idx : List ℕ) where
    pub by_code : (b : Bool) → no_code c ≡ b → lookup_by t set m idx c ≡ cond b (Refused 10 0) (head_or Refused m idx (by_entry t set m c (get_or idx c 0)))
    unfolding lookup_by
    by_code b e = ap (λ (x : Bool). cond x (Refused 10 0) (head_or Refused m idx (by_entry t set m c (get_or idx c 0)))) e

    pub through : 1 ≤ c → c ≤ 254 → HeadRight m → length idx ≡ 256 → lookup_by t set m idx c ≡ by_entry t set m c (get_or idx c 0)
    through l u r e = by_code false (asked c l u) ∙ head_next Refused m idx (by_entry t set m c (get_or idx c 0)) r e

    from_answers : {w : Answer} → Answers t set m idx c w → lookup_by t set m idx c ≡ w
    from_answers (refused_10 n) = by_code true (no_code_lem c n)
    from_answers (refused_head l u x) = by_code false (asked c l u) ∙ head_row Refused m idx (by_entry t set m c (get_or idx c 0)) x
    from_answers (when_by_entry l u r e x) = through l u r e ∙ from_entry x

    some_answer : (w : Answer) × Answers t set m idx c w
    some_answer = coded (no_code c) refl
      where
        headed : 1 ≤ c → c ≤ 254 → Headed m idx → (w : Answer) × Answers t set m idx c w
        headed l u (inl x) = (Refused x.0 x.1, refused_head l u x.2)
        headed l u (inr x) = let y = some_entry (get_or idx c 0) in (y.0, when_by_entry l u x.0 x.1 y.1)

        coded : (b : Bool) → no_code c ≡ b → (w : Answer) × Answers t set m idx c w
        coded true e = (Refused 10 0, refused_10 (two_ways 0 255 c e))
        coded false e = let r = code_range c (no_way 0 255 c e) h in headed r.0 r.1 (head_cases m idx)

pub answers_by_the_words : AnswersByTheWords
answers_by_the_words t set m idx c w h =
    ((λ e. let x = some_answer t set m c h idx in subst (Answers t set m idx c) (sym (from_answers t set m c h idx x.1) ∙ e) x.1), from_answers t set m c h idx)

-- ---- an index built from the same bytes

place_low : (o : Opt) → 44 ≤ place o
place_low o = go o.field
  where
    go : (fd : Field) → 44 ≤ start fd + o.offset
    go options = omega arith
    go file = omega arith
    go sname = omega arith

place_high : (m : List ℕ) (fd : Field) (i x : ℕ) (d : List ℕ) → length m ≤ 1472 → OptionAt (bytes fd m) i x d → start fd + i < 65535
place_high m options i x d h o = omega (arith, option_in_lem o, length-drop 240 m)
place_high m file i x d h o = omega (arith, option_in_lem o, length-take 128 (drop 108 m))
place_high m sname i x d h o = omega (arith, option_in_lem o, length-take 64 (drop 44 m))

-- the place of a piece is neither 0 nor 65,535
pub piece_place : {m : List ℕ} (a : IsAccepted m) (c : ℕ) (o : Opt) → In o (pieces c a.options) → (44 ≤ place o) × (place o < 65535)
piece_place {m} a c o i =
    let s = (((pieces_right m a c).lists o).0 i).0 in
    (place_low o, place_high m o.field o.offset o.item.tag o.item.body (message_short m a) s.stands.option)

abbrev one_usable : (m : List ℕ) (c : ℕ) (o : Opt) → Standing m o → c ≡ o.item.tag → Usable m c (place o)
one_usable m c o s e =
    record {
      field = o.field;
      offset = o.offset;
      body = o.item.body;
      after = s.stands.option.after;
      lies = refl;
      reads = s.stands.option.reads ∙ ap (λ (x : ℕ). x ∷ length o.item.body ∷ (o.item.body ++ s.stands.option.after)) (sym e);
    }

module _ (t : Table) (set : ℕ → Bool) (m : List ℕ) (c : ℕ) (n : no_code c ≡ false) (a : IsAccepted m) where
  as_plain : (ps : List Opt) → pieces c a.options ≡ ps → PiecesOf m c ps → by_entry t set m c (entry_of ps) ≡ shown t set c ps
  unfolding by_entry end_to_end
  as_plain [] e p = refl
  as_plain (o ∷ []) e p =
      let s = (p.lists o).0 (inl refl) in
      let b = piece_place a c o (subst (In o) (sym e) (inl refl)) in
      let l : place o ≡ 0 → ⊥ = λ z. absurd (omega (arith, b.0)) in
      let u : place o ≡ 65535 → ⊥ = λ z. absurd (omega (arith, b.1)) in
      rw (ne_eqb (place o) 0 l, ne_eqb (place o) 65535 u, usable_used m c (place o) (one_usable m c o s.0 s.1), append-nil o.item.body)
  as_plain (o ∷ q ∷ ps) e p = lookup_found t set m c a n ∙ ap (shown t set c) e

pub answers_as_plain : AnswersAsPlain
unfolding lookup
answers_as_plain t set m idx c h b = go (no_code c) refl
  where
    a : IsAccepted m
    a = b.is_accepted

    go : (x : Bool) → no_code c ≡ x → lookup_by t set m idx c ≡ lookup t set m c
    go true n = by_code t set m c h idx true n ∙ sym (ap (λ (x : Bool). cond x (Refused 10 0) (answered t set c (read_message m))) n)
    go false n =
        by_code t set m c h idx false n ∙ head_next Refused m idx (by_entry t set m c (get_or idx c 0)) (accepted_head a) b.numbers
        ∙ ap (by_entry t set m c) (built_entry b c (omega arith))
        ∙ as_plain t set m c n a (pieces c a.options) refl (pieces_right m a c)
        ∙ sym (lookup_found t set m c a n)

pub indexed_lookup_is_correct : IndexedLookupIsCorrect
indexed_lookup_is_correct t set m idx c x h b =
    let e = answers_as_plain t set m idx c h b in
    let r = lookup_is_correct t set m c x h in
    ((λ q. r.0 (sym e ∙ q)), (λ q. e ∙ r.1 q))
