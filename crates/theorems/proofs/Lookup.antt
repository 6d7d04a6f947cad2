-- The lookup: the statements of ReadingClaims on it, proved. Assumes nothing.
use mathlib.Core.Path.{◌≡◌, refl, sym, ap, ap₂, ◌∙◌, subst}
use mathlib.Core.List.{List, [], ◌∷◌}
use mathlib.Core.Bool.{Bool, true, false, cond}
use mathlib.Core.Logic.{◌⊎◌, inl, inr}
use Prim.Native.Nat.{ℕ, zero, suc, ◌+◌, ◌≤◌}
use native.Mathlib.Omega.{arith}
use lib.ListN.{length, get_or, take, drop}
use lib.Seq.{drop-drop}
use borrow.Author.Tests.{ne_eqb}
use Rattle.options.specs.Message.{Field, options, file, sname, start, bytes, Opt, place, Holds, PiecesOf, end_to_end}
use Rattle.options.specs.Reading.{Reading, accepted, refused, read_message, pieces}
use Rattle.options.specs.Kinds.{broken, number, part, Table}
use Rattle.options.specs.Answers.{Wholeness, Origin, code_place, Content, unknown, known, Answer, Absent, Refused, Found, is_known, wholeness_of, origin_of, content_of, shown, answered, no_code, lookup, refused_with, verdict_of}
use Rattle.options.specs.ReadingClaims.{IsAccepted, AbsentIffNotHeld, WholenessIs, one_piece, several, OriginIs, ContentIs, is_unknown, when_known, Shows, ShowsWhatStands, HasOrigin, HeldHasOrigin, CodeByteAt, OriginIsTheCodeByte, GivesNumber, refuses, breaks, VerdictIsTheNumber, ReaderRow, row_10, of_message, LookupRow, of_reader, row_8_9, LookupRefusedByTheTable, KnownSetIndifferent, CorrectAnswer, LookupIsCorrect}
use Rattle.theorems.proofs.View.{clash}
use Rattle.theorems.proofs.Messages.{two_ways, no_way}
use Rattle.theorems.proofs.Reading.{refused_by_the_table}
use Rattle.theorems.proofs.Pieces.{pieces_right, one_pieces_of, held_iff_piece, first_stands, first_code, piece_held}

-- codes that may be asked for
pub asked : (c : ℕ) → 1 ≤ c → c ≤ 254 → no_code c ≡ false
asked c l u = rw (ne_eqb c 0 (omega arith), ne_eqb c 255 (omega arith))

pub held_asked : {m : List ℕ} {c : ℕ} → Holds m c → no_code c ≡ false
held_asked {m} {c} h = rw (ne_eqb c 0 h.stands.option.no_pad, ne_eqb c 255 h.stands.option.no_end)

pub no_code_lem : (c : ℕ) → (c ≡ 0) ⊎ (c ≡ 255) → no_code c ≡ true
no_code_lem c (inl e) = rw e
no_code_lem c (inr e) = rw e

pub code_range : (c : ℕ) → ((c ≡ 0) ⊎ (c ≡ 255) → ⊥) → c ≤ 255 → (1 ≤ c) × (c ≤ 254)
code_range c n l = (low c (λ e. n (inl e)), high c (λ e. n (inr e)) l)
  where
    low : (c : ℕ) → (c ≡ 0 → ⊥) → 1 ≤ c
    low c n = omega arith

    high : (c : ℕ) → (c ≡ 255 → ⊥) → c ≤ 255 → c ≤ 254
    high c n l = omega arith

-- the pieces of an accepted message are those that its list has
pub the_pieces : {m : List ℕ} (a : IsAccepted m) {c : ℕ} {ps : List Opt} → PiecesOf m c ps → pieces c a.options ≡ ps
the_pieces {m} a {c} {ps} p = one_pieces_of m c (pieces c a.options) ps (pieces_right m a c) p

pub no_pieces : {m : List ℕ} (a : IsAccepted m) (c : ℕ) → (Holds m c → ⊥) → pieces c a.options ≡ []
no_pieces {m} a c n = go (pieces c a.options) refl
  where
    go : (ps : List Opt) → pieces c a.options ≡ ps → ps ≡ []
    go [] e = refl
    go (o ∷ ps) e = absurd (n (piece_held (subst (PiecesOf m c) e (pieces_right m a c))))

-- ---- the answer for pieces is the one for them, and no other is

wholeness_of_lem : (o : Opt) (os : List Opt) → WholenessIs (o ∷ os) (wholeness_of (o ∷ os))
wholeness_of_lem o [] = one_piece
wholeness_of_lem o (q ∷ os) = several

wholeness_same : (ps : List Opt) (w : Wholeness) → WholenessIs ps w → wholeness_of ps ≡ w
wholeness_same ps w one_piece = refl
wholeness_same ps w several = refl

pub origin_of_lem : (o : Opt) (os : List Opt) → OriginIs o os (origin_of o os)
origin_of_lem o os = record { field_is = refl; offset_is = refl; wholeness_is = wholeness_of_lem o os }

pub origin_same : (o : Opt) (os : List Opt) (g : Origin) → OriginIs o os g → origin_of o os ≡ g
origin_same o os g i =
    ap₂ (λ (fd : Field) (k : ℕ). record { field = fd; offset = k; wholeness = wholeness_of (o ∷ os) }) (sym i.field_is) (sym i.offset_is)
    ∙ ap (λ (w : Wholeness). record { field = g.field; offset = g.offset; wholeness = w }) (wholeness_same (o ∷ os) g.wholeness i.wholeness_is)

module _ (t : Table) (set : ℕ → Bool) (c : ℕ) (d : List ℕ) where
  pub content_of_lem : ContentIs t set c d (content_of t set c d)
  content_of_lem = go (is_known t set c) refl
    where
      go : (b : Bool) → is_known t set c ≡ b → ContentIs t set c d (cond b (known (t.value c d)) (unknown (length d)))
      go true e = when_known e
      go false e = is_unknown e

  pub content_same : (x : Content) → ContentIs t set c d x → content_of t set c d ≡ x
  content_same x (is_unknown e) = rw e
  content_same x (when_known e) = rw e

  content_broken : (x : Content) (n : ℕ) → ContentIs t set c d x → x ≡ known (broken n) → (is_known t set c ≡ true) × (t.value c d ≡ broken n)
  content_broken x n (is_unknown e) z = clash (cc)
  content_broken x n (when_known e) z = (e, cc)

-- ---- the lookup

refused_same : {n p k q : ℕ} → Refused n p ≡ Refused k q → (n ≡ k) × (p ≡ q)
refused_same e = (cc, cc)

pub found_same : {g h : Origin} {x y : Content} → Found g x ≡ Found h y → (g ≡ h) × (x ≡ y)
found_same e = (cc, cc)

module _ (t : Table) (set : ℕ → Bool) (m : List ℕ) (c : ℕ) where
  lookup_is : no_code c ≡ false → lookup t set m c ≡ answered t set c (read_message m)
  unfolding lookup
  lookup_is e = rw e

  pub lookup_found : (a : IsAccepted m) → no_code c ≡ false → lookup t set m c ≡ shown t set c (pieces c a.options)
  lookup_found a e = lookup_is e ∙ ap (answered t set c) a.reads

  pub lookup_pieces : {o : Opt} {os : List Opt} → IsAccepted m → PiecesOf m c (o ∷ os) → lookup t set m c ≡ Found (origin_of o os) (content_of t set c (end_to_end (o ∷ os)))
  lookup_pieces a p = lookup_found a (held_asked (piece_held p)) ∙ ap (shown t set c) (the_pieces a p)

  to_shows : (g : Origin) (x : Content) → lookup t set m c ≡ Found g x → Shows t set m c g x
  unfolding lookup
  to_shows g x e = start (no_code c) e
    where
      these : (a : IsAccepted m) (ps : List Opt) → PiecesOf m c ps → shown t set c ps ≡ Found g x → Shows t set m c g x
      these a [] p z = clash (cc)
      these a (o ∷ os) p z =
          let s = found_same z in
          record {
            is_accepted = a;
            first = o;
            others = os;
            are_pieces = p;
            origin_is = subst (OriginIs o os) s.0 (origin_of_lem o os);
            content_is = subst (ContentIs t set c (end_to_end (o ∷ os))) s.1 (content_of_lem t set c (end_to_end (o ∷ os)));
          }

      read : (w : Reading) → read_message m ≡ w → answered t set c w ≡ Found g x → Shows t set m c g x
      read (refused n p) r z = clash (cc)
      read (accepted os) r z = let a : IsAccepted m = record { options = os; reads = r } in these a (pieces c os) (pieces_right m a c) z

      start : (b : Bool) → cond b (Refused 10 0) (answered t set c (read_message m)) ≡ Found g x → Shows t set m c g x
      start true z = clash (cc)
      start false z = read (read_message m) refl z

  from_shows : (g : Origin) (x : Content) → Shows t set m c g x → lookup t set m c ≡ Found g x
  from_shows g x s =
      lookup_pieces s.is_accepted s.are_pieces
      ∙ ap₂ Found (origin_same s.first s.others g s.origin_is) (content_same t set c (end_to_end (s.first ∷ s.others)) x s.content_is)

pub shows_what_stands : ShowsWhatStands
shows_what_stands t set m c g x = (to_shows t set m c g x, from_shows t set m c g x)

pub absent_iff_not_held : AbsentIffNotHeld
absent_iff_not_held t set m c a l u = (
  (λ e h. here (pieces c a.options) refl h (sym (lookup_found t set m c a (asked c l u)) ∙ e)),
  (λ n. lookup_found t set m c a (asked c l u) ∙ ap (shown t set c) (no_pieces a c n)),
)
  where
    here : (ps : List Opt) → pieces c a.options ≡ ps → Holds m c → shown t set c ps ≡ Absent → ⊥
    here [] e h z = (held_iff_piece m c (pieces c a.options) (pieces_right m a c)).0 h e
    here (o ∷ ps) e h z = clash (cc)

pub held_has_origin : HeldHasOrigin
held_has_origin t set m c a h = here (pieces c a.options) (pieces_right m a c)
  where
    here : (ps : List Opt) → PiecesOf m c ps → HasOrigin (lookup t set m c)
    here [] p = absurd ((held_iff_piece m c [] p).0 h refl)
    here (o ∷ ps) p = record { origin = _; content = _; is_found = lookup_pieces t set m c a p }

-- ---- the code byte

head_is : (i n c : ℕ) (r xs : List ℕ) → drop i (take n xs) ≡ c ∷ r → get_or (drop i xs) 0 0 ≡ c
head_is zero zero c r xs e = clash (cc)
head_is zero (suc n) c r [] e = clash (cc)
head_is zero (suc n) c r (x ∷ xs) e = cc
head_is (suc i) zero c r xs e = clash (cc)
head_is (suc i) (suc n) c r [] e = clash (cc)
head_is (suc i) (suc n) c r (x ∷ xs) e = head_is i n c r xs e

byte_at : (fd : Field) (m : List ℕ) (i c : ℕ) (r : List ℕ) → drop i (bytes fd m) ≡ c ∷ r → get_or (drop (start fd + i) m) 0 0 ≡ c
byte_at options m i c r e = rw (← drop-drop i 240 m, e)
byte_at file m i c r e = rw (← drop-drop i 108 m) (head_is i 128 c r (drop 108 m) e)
byte_at sname m i c r e = rw (← drop-drop i 44 m) (head_is i 64 c r (drop 44 m) e)

pub origin_is_the_code_byte : OriginIsTheCodeByte
origin_is_the_code_byte t set m c g x e =
    let s = to_shows t set m c g x e in
    let p = first_stands s.are_pieces in
    let o : Opt = s.first in
    let code : c ≡ o.item.tag = first_code s.are_pieces in
    subst (CodeByteAt m c) (origin_same o s.others g s.origin_is)
    (record {
      is_active = p.active;
      begins = p.stands.begins;
      in_field = ap (λ (l : List ℕ). get_or l 0 0) p.stands.option.reads ∙ sym code;
      in_message = byte_at o.field m o.offset o.item.tag _ p.stands.option.reads ∙ sym code;
      start_is = refl;
    })

-- ---- the lookup's refusals

verdict_same : {n p k q : ℕ} → refused_with n p ≡ refused_with k q → (n ≡ k) × (p ≡ q)
verdict_same e = (cc, cc)

number_verdict : (x : Answer) (n p : ℕ) → GivesNumber x n p → verdict_of x ≡ refused_with n p
number_verdict x n p refuses = refl
number_verdict x n p breaks = refl

pub verdict_is_the_number : VerdictIsTheNumber
verdict_is_the_number x n p = (to x, number_verdict x n p)
  where
    moved : (x : Answer) {k q : ℕ} → GivesNumber x k q → refused_with k q ≡ refused_with n p → GivesNumber x n p
    moved x {k} {q} g e = let s = verdict_same e in subst (λ (y : ℕ). GivesNumber x n y) s.1 (subst (λ (y : ℕ). GivesNumber x y q) s.0 g)

    to : (x : Answer) → verdict_of x ≡ refused_with n p → GivesNumber x n p
    to Absent e = clash (cc)
    to (Refused k q) e = moved (Refused k q) refuses e
    to (Found g (unknown k)) e = clash (cc)
    to (Found g (known (broken k))) e = moved (Found g (known (broken k))) breaks e
    to (Found g (known (number k z))) e = clash (cc)
    to (Found g (known (part k l))) e = clash (cc)

module _ (t : Table) (set : ℕ → Bool) (m : List ℕ) (c : ℕ) where
  from_reader : {n p : ℕ} → ReaderRow m c n p → lookup t set m c ≡ Refused n p
  unfolding lookup
  from_reader (row_10 h) = rw (no_code_lem c h)
  from_reader {n} {p} (of_message l u f) = lookup_is t set m c (asked c l u) ∙ ap (answered t set c) ((refused_by_the_table m n p).1 f)

  from_row : {n p : ℕ} → LookupRow t set m c n p → GivesNumber (lookup t set m c) n p
  from_row {n} {p} (of_reader r) = subst (λ (y : Answer). GivesNumber y n p) (sym (from_reader r)) refuses
  from_row {n} (row_8_9 {o = o} {os = os} a k q v) =
      let z : content_of t set c (end_to_end (o ∷ os)) ≡ known (broken n) = rw (k, v) in
      subst (λ (y : Answer). GivesNumber y n (place o)) (sym (lookup_pieces t set m c a q ∙ ap (Found (origin_of o os)) z)) breaks

  of_reading : (n p : ℕ) → 1 ≤ c → c ≤ 254 → (w : Reading) → read_message m ≡ w → answered t set c w ≡ Refused n p → ReaderRow m c n p
  of_reading n p l u (refused k q) e z = of_message l u ((refused_by_the_table m n p).0 (e ∙ ap₂ refused (refused_same z).0 (refused_same z).1))
  of_reading n p l u (accepted os) e z = never (pieces c os) z
    where
      never : (ps : List Opt) → shown t set c ps ≡ Refused n p → ReaderRow m c n p
      never [] z = clash (cc)
      never (o ∷ ps) z = clash (cc)

  of_refusal : (n p : ℕ) → c ≤ 255 → lookup t set m c ≡ Refused n p → ReaderRow m c n p
  unfolding lookup
  of_refusal n p h e = go (no_code c) refl e
    where
      go : (b : Bool) → no_code c ≡ b → cond b (Refused 10 0) (answered t set c (read_message m)) ≡ Refused n p → ReaderRow m c n p
      go true q z = subst (λ (y : ℕ). ReaderRow m c n y) (refused_same z).1 (subst (λ (y : ℕ). ReaderRow m c y 0) (refused_same z).0 (row_10 (two_ways 0 255 c q)))
      go false q z = let x = code_range c (no_way 0 255 c q) h in of_reading n p x.0 x.1 (read_message m) refl z

  of_broken : (n : ℕ) (g : Origin) → lookup t set m c ≡ Found g (known (broken n)) → LookupRow t set m c n (code_place g)
  of_broken n g e =
      let s = to_shows t set m c g (known (broken n)) e in
      let b = content_broken t set c (end_to_end (s.first ∷ s.others)) (known (broken n)) n s.content_is refl in
      subst (λ (h : Origin). LookupRow t set m c n (code_place h)) (origin_same s.first s.others g s.origin_is) (row_8_9 s.is_accepted b.0 s.are_pieces b.1)

  to_row : (n p : ℕ) → c ≤ 255 → (y : Answer) → lookup t set m c ≡ y → GivesNumber y n p → LookupRow t set m c n p
  to_row n p h y e refuses = of_reader (of_refusal n p h e)
  to_row n p h y e (breaks {g = g}) = of_broken n g e

  -- an absent code is one that may be asked for, of an accepted message that does not hold it
  of_absent : c ≤ 255 → lookup t set m c ≡ Absent → (1 ≤ c) × (c ≤ 254) × IsAccepted m × (Holds m c → ⊥)
  unfolding lookup
  of_absent h e = go (no_code c) refl e
    where
      these : (a : IsAccepted m) (ps : List Opt) → PiecesOf m c ps → shown t set c ps ≡ Absent → Holds m c → ⊥
      these a [] p z k = (held_iff_piece m c [] p).0 k refl
      these a (o ∷ ps) p z k = clash (cc)

      read : (1 ≤ c) × (c ≤ 254) → (w : Reading) → read_message m ≡ w → answered t set c w ≡ Absent → (1 ≤ c) × (c ≤ 254) × IsAccepted m × (Holds m c → ⊥)
      read x (refused n p) r z = clash (cc)
      read x (accepted os) r z = let a : IsAccepted m = record { options = os; reads = r } in (x.0, x.1, a, these a (pieces c os) (pieces_right m a c) z)

      go : (b : Bool) → no_code c ≡ b → cond b (Refused 10 0) (answered t set c (read_message m)) ≡ Absent → (1 ≤ c) × (c ≤ 254) × IsAccepted m × (Holds m c → ⊥)
      go true q z = clash (cc)
      go false q z = read (code_range c (no_way 0 255 c q) h) (read_message m) refl z

pub lookup_refused_by_the_table : LookupRefusedByTheTable
lookup_refused_by_the_table t set m c n p h = (to_row t set m c n p h (lookup t set m c) refl, from_row t set m c)

pub lookup_is_correct : LookupIsCorrect
lookup_is_correct t set m c x h = (to x, from x)
  where
    to : (x : Answer) → lookup t set m c ≡ x → CorrectAnswer t set m c x
    to Absent e = of_absent t set m c h e
    to (Refused n p) e = of_refusal t set m c n p h e
    to (Found g y) e = to_shows t set m c g y e

    from : (x : Answer) → CorrectAnswer t set m c x → lookup t set m c ≡ x
    from Absent s = (absent_iff_not_held t set m c s.2 s.0 s.1).1 s.3
    from (Refused n p) s = from_reader t set m c s
    from (Found g y) s = from_shows t set m c g y s

pub known_set_indifferent : KnownSetIndifferent
unfolding lookup
known_set_indifferent t t' set set' m c n p e = go (no_code c) (read_message m) e
  where
    never : (ps : List Opt) → shown t set c ps ≡ Refused n p → shown t' set' c ps ≡ Refused n p
    never [] z = clash (cc)
    never (o ∷ ps) z = clash (cc)

    go : (b : Bool) (w : Reading) → cond b (Refused 10 0) (answered t set c w) ≡ Refused n p → cond b (Refused 10 0) (answered t' set' c w) ≡ Refused n p
    go true w z = z
    go false (refused k q) z = z
    go false (accepted os) z = never (pieces c os) z
