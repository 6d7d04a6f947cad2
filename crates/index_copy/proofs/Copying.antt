-- The copy through an index: the statements of IndexCopyClaims, proved, and its cases as the code has them. Assumes nothing.
use mathlib.Core.Path.{◌≡◌, refl, sym, ap, ap₂, ◌∙◌, subst}
use mathlib.Core.Bool.{Bool, true, false, cond}
use mathlib.Core.List.{List, [], ◌∷◌, ◌++◌, append-nil}
use mathlib.Core.Option.{Option, none, some}
use mathlib.Core.Logic.{◌⊎◌, inl, inr}
use Prim.Native.Nat.{ℕ, ◌+◌, ◌≤◌, ◌<◌}
use native.Mathlib.Omega.{arith}
use native.Mathlib.Decide.{ℕ_discrete}
use lib.Dec.{eqb, ltb}
use lib.ListN.{length, get_or, take, drop}
use borrow.Author.Tests.{eqb-true, eqb-false, eq-eqb, ne_eqb, ltb-true, ltb-false, lt-ltb, le-ltb}
use Rattle.options.specs.Message.{Field, options, file, sname, start, cookie, shortest, longest, Opt, opt, place, Standing, In, PiecesOf, end_to_end}
use Rattle.options.specs.Reading.{Reading, accepted, refused, same, read_message, pieces}
use Rattle.options.specs.Answers.{Answer, no_code, Filled, unfilled, filled_with, copy_found, copy_in_value, copy}
use Rattle.options.specs.ReadingClaims.{IsAccepted}
use Rattle.options.specs.AnswerClaims.{JoinedBytes}
use Rattle.options.specs.Kinds.{kinds}
use Rattle.options.specs.Index.{entry_of, head_or, used_entry, lookup_by}
use Rattle.options.specs.Refusals.{When, Row, row_1, row_2, row_3, row_4, row_5, row_6, row_7, First}
use Rattle.options.specs.IndexClaims.{BuiltFrom, HeadRight, HeadRow, of_message, row_18, Usable}
use Rattle.options.specs.IndexClaims as lookups
use Rattle.options.specs.IndexCopy.{entry_copy, copy_by_entry, copy_by}
use Rattle.options.specs.IndexCopyClaims.{copied, PlainCopy, copies, refuses, EntryCopy, says_absent, plain_walk, is_used, too_small, refused_19, Copies, refused_10, refused_head, when_by_entry, CopiesByTheWords, CopiesAsPlain}
use Rattle.theorems.proofs.View.{clash}
use Rattle.theorems.proofs.Messages.{same_true}
use Rattle.theorems.proofs.Reading.{refused_by_the_table}
use Rattle.theorems.proofs.Pieces.{pieces_right}
use Rattle.theorems.proofs.Lookup.{asked, no_code_lem}
use Rattle.theorems.proofs.Copies.{copy_found_lem, copy_joined, copy_refused_by_the_table}
use Rattle.theorems.proofs.Entries.{built_entry}
use Rattle.message.specs.Judging.{unfit_of}
use Rattle.message.proofs.Readings.{fit_length, read_unfit}
use Rattle.index.proofs.Heads.{head_unfit, head_count, head_fit, code}
use Rattle.index.proofs.Heads as heads
use Rattle.std.specs.Prelude.{Result, Ok, Err}
use Rattle.refusal.specs.declared.Refusal.{Refusal}
use Rattle.refusal.specs.declared.Rule.TheVariants.{BadCode, NoRoom, BadIndexCount, BadIndexEntry}
use Rattle.refusal.specs.Refused.{number_of}
use Rattle.filled.specs.Fill.{Fills}
use Rattle.filled.proofs.Answers.{fills_unfilled, fills_refusal}
use Rattle.index.proofs.Built.{rule_not}
use Rattle.dhcpopt_index.proofs.Used.{not_used}
use Rattle.theorems.proofs.Usable.{usable_used, used_usable}
use Rattle.theorems.proofs.Indexes.{head_next, accepted_head, piece_place, answers_by_the_words}

-- bytes in a buffer that holds them, and in one that does not
enough : (d old : List ℕ) → length d ≤ length old → filled_with d old ≡ copied d old
enough d old l = rw (le-ltb (length old) (length d) l)

small : (d old : List ℕ) → length old < length d → filled_with d old ≡ unfilled 11 (length old) old
small d old l = rw (lt-ltb (length old) (length d) l)

-- ---- the plain copy

module _ (m : List ℕ) (c : ℕ) (old : List ℕ) where
  copy_is : (b : Bool) → no_code c ≡ b → copy m c old ≡ cond b (unfilled 10 0 old) (copy_in_value c (read_message m) old)
  unfolding copy
  copy_is b e = ap (λ (x : Bool). cond x (unfilled 10 0 old) (copy_in_value c (read_message m) old)) e

module _ (m : List ℕ) (c : ℕ) (old : List ℕ) (h : c ≤ 255) where
  from_plain : {w : Filled} → PlainCopy m c old w → copy m c old ≡ w
  from_plain (copies {d = d} a j l) = copy_joined m c old a j ∙ enough d old l
  from_plain (refuses {n = n} {p = p} r) = (copy_refused_by_the_table m c old n p h).1 r

  -- the copy gives joined bytes, or it is refused
  plain_right : PlainCopy m c old (copy m c old)
  plain_right = go (no_code c) refl
    where
      refusal : (n p : ℕ) → copy m c old ≡ unfilled n p old → PlainCopy m c old (copy m c old)
      refusal n p e = subst (PlainCopy m c old) (sym e) (refuses ((copy_refused_by_the_table m c old n p h).0 e))

      of_pieces : (a : IsAccepted m) → no_code c ≡ false → (ps : List Opt) → pieces c a.options ≡ ps → PiecesOf m c ps → PlainCopy m c old (copy m c old)
      of_pieces a q [] e p = refusal 11 0 (copy_found_lem m c old a q ∙ ap (λ (x : List Opt). copy_found x old) e)
      of_pieces a q (o ∷ os) e p = fits (ltb (length old) (length (end_to_end (o ∷ os)))) refl
        where
          is : copy m c old ≡ filled_with (end_to_end (o ∷ os)) old
          is = copy_found_lem m c old a q ∙ ap (λ (x : List Opt). copy_found x old) e

          fits : (b : Bool) → ltb (length old) (length (end_to_end (o ∷ os))) ≡ b → PlainCopy m c old (copy m c old)
          fits true t = refusal 11 (length old) (is ∙ small (end_to_end (o ∷ os)) old (ltb-true (length old) (length (end_to_end (o ∷ os))) t))
          fits false t =
              let l = ltb-false (length old) (length (end_to_end (o ∷ os))) t in
              subst (PlainCopy m c old) (sym (is ∙ enough (end_to_end (o ∷ os)) old l)) (copies a (record { first = o; others = os; are_pieces = p; joined = refl }) l)

      of_reading : no_code c ≡ false → (w : Reading) → read_message m ≡ w → PlainCopy m c old (copy m c old)
      of_reading q (accepted os) e = let a : IsAccepted m = record { options = os; reads = e } in of_pieces a q (pieces c os) refl (pieces_right m a c)
      of_reading q (refused n p) e = refusal n p (copy_is m c old false q ∙ ap (λ (w : Reading). copy_in_value c w old) e)

      go : (b : Bool) → no_code c ≡ b → PlainCopy m c old (copy m c old)
      go true q = refusal 10 0 (copy_is m c old true q)
      go false q = of_reading q (read_message m) refl

-- ---- by an entry

not_zero : {m : List ℕ} {c e : ℕ} → Usable m c e → e ≡ 0 → ⊥
not_zero u z = low u.field u.offset (sym u.lies ∙ z)
  where
    low : (fd : Field) (i : ℕ) → start fd + i ≡ 0 → ⊥
    low options i e = omega arith
    low file i e = omega arith
    low sname i e = omega arith

module _ (m : List ℕ) (c e : ℕ) (old : List ℕ) where
  pub of_nothing : e ≡ 0 → copy_by_entry m c e old ≡ unfilled 11 0 old
  unfolding copy_by_entry
  of_nothing z = rw (eq-eqb e 0 z) refl

  pub of_pieces : (e ≡ 0 → ⊥) → e ≡ 65535 → copy_by_entry m c e old ≡ copy m c old
  unfolding copy_by_entry
  of_pieces z p = rw (ne_eqb e 0 z, eq-eqb e 65535 p) refl

  pub of_place : (e ≡ 0 → ⊥) → (e ≡ 65535 → ⊥) → copy_by_entry m c e old ≡ entry_copy e (used_entry m c e) old
  unfolding copy_by_entry
  of_place z p = rw (ne_eqb e 0 z, ne_eqb e 65535 p) refl

  used_copy : (e ≡ 65535 → ⊥) → (u : Usable m c e) → copy_by_entry m c e old ≡ filled_with u.body old
  used_copy p u = of_place (not_zero u) p ∙ ap (λ (x : Option Opt). entry_copy e x old) (usable_used m c e u)

  unused_copy : (e ≡ 0 → ⊥) → (e ≡ 65535 → ⊥) → (Usable m c e → ⊥) → copy_by_entry m c e old ≡ unfilled 19 e old
  unused_copy z p n = of_place z p ∙ go (used_entry m c e) refl
    where
      go : (x : Option Opt) → used_entry m c e ≡ x → entry_copy e x old ≡ unfilled 19 e old
      go none q = refl
      go (some o) q = absurd (n (used_usable m c e o q).0)

  module _ (h : c ≤ 255) where
    from_entry : {w : Filled} → EntryCopy m c e old w → copy_by_entry m c e old ≡ w
    from_entry (says_absent z) = of_nothing z
    from_entry (plain_walk z x) = of_pieces (λ y. omega (arith, y, z)) z ∙ from_plain m c old h x
    from_entry (is_used p u l) = used_copy p u ∙ enough u.body old l
    from_entry (too_small p u l) = used_copy p u ∙ small u.body old l
    from_entry (refused_19 z p n) = unused_copy z p n

    entry_right : EntryCopy m c e old (copy_by_entry m c e old)
    entry_right = go (eqb e 0) refl (eqb e 65535) refl
      where
        is : {w : Filled} → EntryCopy m c e old w → EntryCopy m c e old (copy_by_entry m c e old)
        is x = subst (EntryCopy m c e old) (sym (from_entry x)) x

        used : (e ≡ 65535 → ⊥) → (u : Usable m c e) → (b : Bool) → ltb (length old) (length u.body) ≡ b → EntryCopy m c e old (copy_by_entry m c e old)
        used p u true q = is (too_small p u (ltb-true (length old) (length u.body) q))
        used p u false q = is (is_used p u (ltb-false (length old) (length u.body) q))

        other : (e ≡ 0 → ⊥) → (e ≡ 65535 → ⊥) → (x : Option Opt) → used_entry m c e ≡ x → EntryCopy m c e old (copy_by_entry m c e old)
        other z p none q = is (refused_19 z p (λ u. let y : none ≡ some (opt u.field u.offset c u.body) = sym q ∙ usable_used m c e u in clash (cc)))
        other z p (some o) q = let u = (used_usable m c e o q).0 in used p u (ltb (length old) (length u.body)) refl

        go : (a : Bool) → eqb e 0 ≡ a → (b : Bool) → eqb e 65535 ≡ b → EntryCopy m c e old (copy_by_entry m c e old)
        go true z b p = is (says_absent (eqb-true e 0 z))
        go false z true p = is (plain_walk (eqb-true e 65535 p) (plain_right m c old h))
        go false z false p = other (eqb-false e 0 z) (eqb-false e 65535 p) (used_entry m c e) refl

-- ---- the head

abbrev unfit_by : Bool → Bool → Bool → ℕ
unfit_by a b c = cond a 1 (cond b 2 (cond c 0 3))

fit_cookie : (m : List ℕ) → unfit_of m ≡ 0 → take 4 (drop 236 m) ≡ cookie
fit_cookie m e = go (ltb (length m) shortest) (ltb longest (length m)) (same (take 4 (drop 236 m)) cookie) refl e
  where
    go : (a b c : Bool) → same (take 4 (drop 236 m)) cookie ≡ c → unfit_by a b c ≡ 0 → take 4 (drop 236 m) ≡ cookie
    go a b true q z = same_true (take 4 (drop 236 m)) cookie q
    go true b false q z = absurd (omega arith)
    go false true false q z = absurd (omega arith)
    go false false false q z = absurd (omega arith)

-- no row up to 3 applies where length and cookie are right
no_row : (m : List ℕ) → unfit_of m ≡ 0 → {n p : ℕ} {w : When} → Row m n p w → n ≤ 3 → ⊥
no_row m f (row_1 h) l = omega (arith, (fit_length m f).0)
no_row m f (row_2 h) l = omega (arith, (fit_length m f).1)
no_row m f (row_3 d) l = d (fit_cookie m f)
no_row m f (row_4 fd x y z) l = omega arith
no_row m f (row_5 fd x y) l = omega arith
no_row m f (row_6 fd x y z) l = omega arith
no_row m f (row_7 fd x y z) l = omega arith

unfit_low : (m : List ℕ) → unfit_of m ≤ 3
unfit_low m = go (ltb (length m) shortest) (ltb longest (length m)) (same (take 4 (drop 236 m)) cookie)
  where
    go : (a b c : Bool) → unfit_by a b c ≤ 3
    go true b c = omega arith
    go false true c = omega arith
    go false false true = omega arith
    go false false false = omega arith

right_fit : (m : List ℕ) → HeadRight m → unfit_of m ≡ 0
right_fit m r = elim (ℕ_discrete (unfit_of m) 0) [ yes e ↦ e | no d ↦ absurd (wrong ((refused_by_the_table m (unfit_of m) (cond (eqb (unfit_of m) 3) 236 (length m))).0 (read_unfit m d))) ]
  where
    wrong : {p : ℕ} → First m (unfit_of m) p → ⊥
    wrong {p} f = r (unfit_of m) p f.when f.applies (unfit_low m)

module _ {A : Type 0} (refuse : ℕ → ℕ → A) (m idx : List ℕ) (next : A) where
  head_row : {n p : ℕ} → HeadRow m idx n p → head_or refuse m idx next ≡ refuse n p
  head_row {n} {p} (of_message l f) = elim (ℕ_discrete (unfit_of m) 0) [ yes e ↦ absurd (no_row m e f.applies l) | no d ↦ head_unfit refuse m idx next d ∙ same_row d ]
    where
      k : ℕ
      k = unfit_of m

      q : ℕ
      q = cond (eqb (unfit_of m) 3) 236 (length m)

      same_row : (k ≡ 0 → ⊥) → refuse k q ≡ refuse n p
      same_row d = let z : refused k q ≡ refused n p = sym (read_unfit m d) ∙ (refused_by_the_table m n p).1 f in ap₂ refuse (number_is z) (place_is z)
        where
          number_is : refused k q ≡ refused n p → k ≡ n
          number_is y = cc

          place_is : refused k q ≡ refused n p → q ≡ p
          place_is y = cc
  head_row (row_18 r n) = head_count refuse m idx next (right_fit m r) n

module _ (m idx : List ℕ) (c : ℕ) (old : List ℕ) where
  abbrev used : Filled
  used = copy_by_entry m c (get_or idx c 0) old

  by : (b : Bool) → no_code c ≡ b → copy_by m idx c old ≡ cond b (unfilled 10 0 old) (head_or (λ n p. unfilled n p old) m idx used)
  unfolding copy_by
  by b e = ap (λ (x : Bool). cond x (unfilled 10 0 old) (head_or (λ n p. unfilled n p old) m idx used)) e

  pub through : 1 ≤ c → c ≤ 254 → HeadRight m → length idx ≡ 256 → copy_by m idx c old ≡ used
  through l u r e = by false (asked c l u) ∙ head_next (λ n p. unfilled n p old) m idx used r e

  module _ (h : c ≤ 255) where
    from_copies : {w : Filled} → Copies m idx c old w → copy_by m idx c old ≡ w
    from_copies (refused_10 n) = by true (no_code_lem c n)
    from_copies (refused_head {n = n} {p = p} l u x) = by false (asked c l u) ∙ head_row (λ n p. unfilled n p old) m idx used x
    from_copies (when_by_entry l u r e x) = through l u r e ∙ from_entry m c (get_or idx c 0) old h x

    copies_right : Copies m idx c old (copy_by m idx c old)
    copies_right = go ((answers_by_the_words kinds (λ x. false) m idx c (lookup_by kinds (λ x. false) m idx c) h).0 refl)
      where
        is : {w : Filled} → Copies m idx c old w → Copies m idx c old (copy_by m idx c old)
        is x = subst (Copies m idx c old) (sym (from_copies x)) x

        go : {a : Answer} → lookups.Answers kinds (λ x. false) m idx c a → Copies m idx c old (copy_by m idx c old)
        go (lookups.refused_10 n) = is (refused_10 n)
        go (lookups.refused_head l u x) = is (refused_head l u x)
        go (lookups.when_by_entry l u r e x) = is (when_by_entry l u r e (entry_right m c (get_or idx c 0) old h))

pub copies_by_the_words : CopiesByTheWords
copies_by_the_words m idx c old w h = ((λ e. subst (Copies m idx c old) e (copies_right m idx c old h)), from_copies m idx c old h)

-- ---- an index built from the same bytes

one_usable : (m : List ℕ) (c : ℕ) (o : Opt) → Standing m o → c ≡ o.item.tag → (u : Usable m c (place o)) × (u.body ≡ o.item.body)
one_usable m c o s e = (
  record {
    field = o.field;
    offset = o.offset;
    body = o.item.body;
    after = s.stands.option.after;
    lies = refl;
    reads = s.stands.option.reads ∙ ap (λ (x : ℕ). x ∷ length o.item.body ∷ (o.item.body ++ s.stands.option.after)) (sym e);
  },
  refl,
)

module _ (m : List ℕ) (c : ℕ) (old : List ℕ) (a : IsAccepted m) (n : no_code c ≡ false) where
  as_plain : (ps : List Opt) → pieces c a.options ≡ ps → PiecesOf m c ps → copy_by_entry m c (entry_of ps) old ≡ copy_found ps old
  unfolding end_to_end
  as_plain [] e p = of_nothing m c 0 old refl
  as_plain (o ∷ []) e p =
      let s = (p.lists o).0 (inl refl) in
      let b = piece_place a c o (subst (In o) (sym e) (inl refl)) in
      let z : place o ≡ 65535 → ⊥ = λ y. omega (arith, b.1, y) in
      let u = one_usable m c o s.0 s.1 in
      used_copy m c (place o) old z u.0 ∙ ap (λ (d : List ℕ). filled_with d old) (u.1 ∙ sym (append-nil o.item.body))
  as_plain (o ∷ q ∷ ps) e p = of_pieces m c 65535 old (λ y. omega (arith, y)) refl ∙ copy_found_lem m c old a n ∙ ap (λ (x : List Opt). copy_found x old) e

pub copies_as_plain : CopiesAsPlain
copies_as_plain m idx c old h b = go (no_code c) refl
  where
    a : IsAccepted m
    a = b.is_accepted

    go : (x : Bool) → no_code c ≡ x → copy_by m idx c old ≡ copy m c old
    go true n = by m idx c old true n ∙ sym (copy_is m c old true n)
    go false n =
        by m idx c old false n ∙ head_next (λ k p. unfilled k p old) m idx (copy_by_entry m c (get_or idx c 0) old) (accepted_head a) b.numbers
        ∙ ap (λ (e : ℕ). copy_by_entry m c e old) (built_entry b c (omega arith))
        ∙ as_plain m c old a n (pieces c a.options) refl (pieces_right m a c)
        ∙ sym (copy_found_lem m c old a n)

-- ---- the cases as the code has them

module _ (m idx : List ℕ) (c : ℕ) (old : List ℕ) where
  of_zero : c ≡ 0 → copy_by m idx c old ≡ unfilled 10 0 old
  of_zero e = by m idx c old true (rw (eq-eqb c 0 e) refl)

  of_end : (c ≡ 0 → ⊥) → c ≡ 255 → copy_by m idx c old ≡ unfilled 10 0 old
  of_end z e = by m idx c old true (heads.no_code_lem c z e)

  pub no_code_fills : ((c ≡ 0) ⊎ ((c ≡ 0 → ⊥) × (c ≡ 255))) → (r : Refusal) → r ≡ record { rule = BadCode; place = 0 } → Fills (copy_by m idx c old) (Err r) old
  no_code_fills (inl z) r q = fills_unfilled (copy_by m idx c old) r BadCode 0 old q (of_zero z)
  no_code_fills (inr x) r q = fills_unfilled (copy_by m idx c old) r BadCode 0 old q (of_end x.0 x.1)

  module _ (z : c ≡ 0 → ⊥) (e : c ≡ 255 → ⊥) where
    pub unfit_fills : (r : Refusal) → number_of r.rule ≡ unfit_of m → r.place ≡ cond (eqb (unfit_of m) 3) 236 (length m) → Fills (copy_by m idx c old) (Err r) old
    unfit_fills r q g =
        fills_refusal (copy_by m idx c old) r old
        (by m idx c old false (code c z e) ∙ head_unfit (λ n p. unfilled n p old) m idx (copy_by_entry m c (get_or idx c 0) old) (λ y. rule_not r.rule (q ∙ y))
        ∙ sym (ap₂ (λ (a b : ℕ). unfilled a b old) q g))

    module _ (f : unfit_of m ≡ 0) where
      pub count_fills : (length idx ≡ 256 → ⊥) → (r : Refusal) → r ≡ record { rule = BadIndexCount; place = length idx } → Fills (copy_by m idx c old) (Err r) old
      count_fills n r q =
          fills_unfilled (copy_by m idx c old) r BadIndexCount (length idx) old q
          (by m idx c old false (code c z e) ∙ head_count (λ n p. unfilled n p old) m idx (copy_by_entry m c (get_or idx c 0) old) f n)

      -- by the entry at k, which is the code
      module _ (n : length idx ≡ 256) (k : ℕ) (q : k ≡ c) where
        entered : copy_by m idx c old ≡ copy_by_entry m c (get_or idx k 0) old
        entered =
            by m idx c old false (code c z e) ∙ head_fit (λ n p. unfilled n p old) m idx (copy_by_entry m c (get_or idx c 0) old) f n
            ∙ ap (λ (j : ℕ). copy_by_entry m c (get_or idx j 0) old) (sym q)

        pub nothing_fills : get_or idx k 0 ≡ 0 → (r : Refusal) → r ≡ record { rule = NoRoom; place = 0 } → Fills (copy_by m idx c old) (Err r) old
        nothing_fills a r w = fills_unfilled (copy_by m idx c old) r NoRoom 0 old w (entered ∙ of_nothing m c (get_or idx k 0) old a)

        module _ (a : get_or idx k 0 ≡ 0 → ⊥) where
          pub by_pieces : get_or idx k 0 ≡ 65535 → copy_by m idx c old ≡ copy m c old
          by_pieces p = entered ∙ of_pieces m c (get_or idx k 0) old a p

          pub by_place : (get_or idx k 0 ≡ 65535 → ⊥) → copy_by m idx c old ≡ entry_copy (get_or idx k 0) (used_entry m c (get_or idx k 0)) old
          by_place p = entered ∙ of_place m c (get_or idx k 0) old a p

-- an entry that is not used, and one that is
module _ (m : List ℕ) (c e : ℕ) (old : List ℕ) where
  pub entry_unused : (Usable m c e → ⊥) → (r : Refusal) → r ≡ record { rule = BadIndexEntry; place = e } → Fills (entry_copy e (used_entry m c e) old) (Err r) old
  entry_unused n r q = fills_unfilled (entry_copy e (used_entry m c e) old) r BadIndexEntry e old q (ap (λ (x : Option Opt). entry_copy e x old) (not_used m c e n))

  pub entry_used : (o : Opt) (d : List ℕ) → used_entry m c e ≡ some o → d ≡ o.item.body → filled_with d old ≡ entry_copy e (used_entry m c e) old
  entry_used o d q b = ap (λ (x : List ℕ). filled_with x old) b ∙ sym (ap (λ (x : Option Opt). entry_copy e x old) q)
