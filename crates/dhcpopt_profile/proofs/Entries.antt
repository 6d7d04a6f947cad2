-- An entry of an index of the message, and what the bytes at it say of the code. Assumes nothing.
use mathlib.Core.Path.{◌≡◌, refl, sym, ap, ap₂, ◌∙◌, subst}
use mathlib.Core.Bool.{Bool, true, false, cond, not}
use mathlib.Core.List.{List, [], ◌∷◌, ◌++◌, append-nil}
use mathlib.Core.Option.{some}
use mathlib.Core.Logic.{inl, inr}
use Prim.Native.Nat.{ℕ, ◌+◌, ◌-◌, ◌≤◌, ◌<◌}
use native.Mathlib.Omega.{arith}
use native.Mathlib.Decide.{dec_lt}
use lib.Dec.{eqb, ltb, leb}
use lib.ListN.{length, get_or, take, drop, length-take, length-drop}
use lib.Seq.{length-take-le, get_or-drop, get_or-take}
use borrow.Author.Tests.{eq-eqb, ne_eqb, lt-ltb, le-ltb, le-leb, lt-leb}
use Rattle.options.specs.Message.{Field, options, file, sname, start, bytes, Opt, opt, place, Standing, In, end_to_end}
use Rattle.options.specs.Refusals.{row_1}
use Rattle.options.specs.Reading.{either, pieces}
use Rattle.options.specs.Kinds.{kinds}
use Rattle.options.specs.CodeSet.{marked}
use Rattle.options.specs.Answers.{Content, Absent, Found, origin_of, content_of, shown, every_code, shown_number}
use Rattle.options.specs.ReadingClaims.{IsAccepted}
use Rattle.options.specs.Index.{entry_of, used_entry}
use Rattle.options.specs.IndexClaims.{BuiltFrom, Usable}
use Rattle.options.specs.Profile.{any_piece, is_formed, is_type, answer_for}
use Rattle.theorems.proofs.View.{clash}
use Rattle.theorems.proofs.Fields.{option_in_lem}
use Rattle.theorems.proofs.Reading.{no_row_of}
use Rattle.theorems.proofs.Pieces.{pieces_right}
use Rattle.theorems.proofs.Entries.{built_entry}
use Rattle.theorems.proofs.Indexes.{piece_place}
use Rattle.theorems.proofs.Usable.{usable_used}
use Rattle.dhcpopt_reader.specs.Plain.{field_number_value, plain_answer}
use Rattle.dhcpopt_reader.specs.declared.PlainAnswer.{PlainAnswer}
use Rattle.dhcpopt_index.proofs.Used.{Used, passes, used, end_within}
use Rattle.dhcpopt_profile.specs.Judging.{every, got, formed_by, there_by, reply_by, before_by, size_fits_value, ByLength, turn_at, read_before_value, bit_if}
use Rattle.dhcpopt_profile.proofs.Looks.{looked, formed_is, reply_is, there_is, field_there, bits}
use Rattle.dhcpopt_profile.proofs.Rows.{type_long, type_one}

long : {m : List ℕ} → IsAccepted m → 240 ≤ length m
long {m} a = go (dec_lt (length m) 240)
  where
    go : Dec (length m < 240) → 240 ≤ length m
    go (yes h) = absurd (no_row_of a.reads 1 (length m) _ (row_1 h))
    go (no f) = omega (arith, f)

-- a code in one piece: its option, and the bytes at the entry e
pub record One (m : List ℕ) (os : List Opt) (c e : ℕ) : Type 0 where
  pub option : Opt
  pub is_only : pieces c os ≡ option ∷ []
  pub at : e ≡ place option
  pub stands : Standing m option
  pub size : get_or m (e + 1) 0 ≡ length option.item.body
  pub within : e + 2 + length option.item.body ≤ length m
  pub body_is : take (get_or m (e + 1) 0) (drop (e + 2) m) ≡ option.item.body

same_body : {a b : Opt} → some a ≡ some b → a.item.body ≡ b.item.body
same_body e = cc

one_of : (m : List ℕ) (a : IsAccepted m) (c : ℕ) (o : Opt) → pieces c a.options ≡ o ∷ [] → One m a.options c (place o)
one_of m a c o p =
    let i : In o (pieces c a.options) = subst (In o) (sym p) (inl refl) in
    let r = ((pieces_right m a c).lists o).0 i in
    let s : Standing m o = r.0 in
    let h = long a in
    let e : ℕ = place o in
    let u : Usable m c e = record {
      field = o.field;
      offset = o.offset;
      body = o.item.body;
      after = s.stands.option.after;
      lies = refl;
      reads = s.stands.option.reads ∙ ap (λ (x : ℕ). x ∷ length o.item.body ∷ (o.item.body ++ s.stands.option.after)) (sym r.1);
    } in
    let w = passes m h u in
    let n : ℕ = get_or m (e + 1) 0 in
    let q = used m h c e n w.span w.is_span w.within w.is_code refl in
    let b : take n (drop (e + 2) m) ≡ o.item.body = q.body_is ∙ same_body (sym q.is_used ∙ usable_used m c e u) in
    let l : e + 2 + n ≤ length m = omega (arith, w.within, end_within m h e w.span w.is_span) in
    let k : length (take n (drop (e + 2) m)) ≡ n = length-take-le n (drop (e + 2) m) (omega (arith, length-drop (e + 2) m)) in
    let z : n ≡ length o.item.body = sym k ∙ ap length b in
    record { option = o; is_only = p; at = refl; stands = s; size = z; within = omega (arith, z, l); body_is = b }

module _ (m index : List ℕ) (b : BuiltFrom m index) (c : ℕ) (l : 1 ≤ c) (u : c ≤ 254) (k : marked every c ≡ true) where
  abbrev os : List Opt
  os = b.is_accepted.options

  abbrev entry : ℕ
  entry = get_or index c 0

  entered : entry ≡ entry_of (pieces c os)
  entered = built_entry b c (omega arith)

  -- the answer for C, by the pieces
  told : (ps : List Opt) → pieces c os ≡ ps → got m index c ≡ plain_answer (shown kinds every_code c ps)
  told ps e = ap plain_answer (looked m index b c l u k ∙ ap (shown kinds every_code c) e)

  none_by : (ps : List Opt) → pieces c os ≡ ps → entry_of ps ≡ 0 → got m index c ≡ plain_answer Absent
  none_by [] p z = told [] p
  none_by (o ∷ []) p z = absurd (omega (arith, (piece_place b.is_accepted c o (subst (In o) (sym p) (inl refl))).0))
  none_by (o ∷ q ∷ ps) p z = absurd (omega arith)

  pub is_absent : entry ≡ 0 → got m index c ≡ plain_answer Absent
  is_absent z = none_by (pieces c os) refl (sym entered ∙ z)

  one_by : (ps : List Opt) → pieces c os ≡ ps → (entry_of ps ≡ 0 → ⊥) → (entry_of ps ≡ 65535 → ⊥) → One m os c (entry_of ps)
  one_by [] p y z = absurd (y refl)
  one_by (o ∷ []) p y z = one_of m b.is_accepted c o p
  one_by (o ∷ q ∷ ps) p y z = absurd (z refl)

  pub when_in_one : (entry ≡ 0 → ⊥) → (entry ≡ 65535 → ⊥) → One m os c entry
  when_in_one y z = subst (One m os c) (sym entered) (one_by (pieces c os) refl (λ e. y (entered ∙ e)) (λ e. z (entered ∙ e)))

  -- 50, 55, 57: the entry says whether the code is there
  pub there_entry : not (eqb entry 0) ≡ there_by (got m index c)
  there_entry = go (pieces c os) refl
    where
      go : (ps : List Opt) → pieces c os ≡ ps → not (eqb entry 0) ≡ there_by (got m index c)
      go ps p = ap (λ (x : ℕ). not (eqb x 0)) (entered ∙ ap entry_of p) ∙ any ps p ∙ sym (ap there_by (told ps p) ∙ there_is c ps)
        where
          any : (ps : List Opt) → pieces c os ≡ ps → not (eqb (entry_of ps) 0) ≡ any_piece ps
          any [] p = refl
          any (o ∷ []) p = ap not (ne_eqb (place o) 0 (λ z. absurd (omega (arith, (piece_place b.is_accepted c o (subst (In o) (sym p) (inl refl))).0))))
          any (o ∷ q ∷ ps) p = refl

  -- what the answer is, of a code in one piece
  pub one_told : (x : One m os c entry) → got m index c ≡ plain_answer (Found (origin_of x.option []) (content_of kinds every_code c x.option.item.body))
  unfolding end_to_end
  one_told x = told (x.option ∷ []) x.is_only ∙ ap (λ (d : List ℕ). plain_answer (Found (origin_of x.option []) (content_of kinds every_code c d))) (append-nil x.option.item.body)

-- ---- Well-formed, by the length

pub formed_absent : (m index : List ℕ) (b : BuiltFrom m index) (c : ℕ) (list : Bool) → ByLength c list → get_or index c 0 ≡ 0 → false ≡ formed_by (got m index c)
formed_absent m index b c list y z = sym (ap formed_by (is_absent m index b c y.from_1 y.to_254 y.when_known z))

pub formed_one : (m index : List ℕ) (b : BuiltFrom m index) (c : ℕ) (list : Bool) (y : ByLength c list) → (x : One m b.is_accepted.options c (get_or index c 0))
    → size_fits_value list (get_or m (get_or index c 0 + 1) 0) ≡ formed_by (got m index c)
formed_one m index b c list y x =
    let o = x.option in
    ap (size_fits_value list) x.size
    ∙ sym (y.formed (origin_of o []) o.item.body)
    ∙ sym (ap formed_by (one_told m index b c y.from_1 y.to_254 y.when_known x) ∙ formed_is (Found (origin_of o []) (content_of kinds every_code c o.item.body)))

-- ---- The type

module _ (m index : List ℕ) (b : BuiltFrom m index) where
  pub type_entry : (get_or index 53 0 ≡ 0 → ⊥) → (get_or index 53 0 ≡ 65535 → ⊥) → One m b.is_accepted.options 53 (get_or index 53 0)
  type_entry = when_in_one m index b 53 (omega arith) (omega arith) refl

  pub type_absent : get_or index 53 0 ≡ 0 → false ≡ reply_by (got m index 53)
  type_absent z = sym (ap reply_by (is_absent m index b 53 (omega arith) (omega arith) refl z))

  module _ (x : One m b.is_accepted.options 53 (get_or index 53 0)) where
    told_type : reply_by (got m index 53) ≡ is_type (shown_number (Found (origin_of x.option []) (content_of kinds every_code 53 x.option.item.body)))
    unfolding end_to_end
    told_type =
        ap reply_by (ap plain_answer (looked m index b 53 (omega arith) (omega arith) refl ∙ ap (shown kinds every_code 53) x.is_only))
        ∙ reply_is (x.option ∷ [])
        ∙ ap (λ (d : List ℕ). is_type (shown_number (Found (origin_of x.option []) (content_of kinds every_code 53 d)))) (append-nil x.option.item.body)

    pub type_of_size : (get_or m (get_or index 53 0 + 1) 0 ≡ 1 → ⊥) → false ≡ reply_by (got m index 53)
    type_of_size n = sym (told_type ∙ type_long (origin_of x.option []) x.option.item.body (λ e. n (x.size ∙ e)))

    pub type_of_byte : get_or m (get_or index 53 0 + 1) 0 ≡ 1 → either (eqb (get_or m (get_or index 53 0 + 2) 0) 2) (eqb (get_or m (get_or index 53 0 + 2) 0) 5) ≡ reply_by (got m index 53)
    type_of_byte e =
        let n = get_or m (get_or index 53 0 + 1) 0 in
        let d = x.option.item.body in
        let at : ℕ = get_or index 53 0 + 2 in
        let l : length d ≡ 1 = sym x.size ∙ e in
        let z : get_or d 0 0 ≡ get_or m at 0 =
        ap (λ (y : List ℕ). get_or y 0 0) (sym x.body_is) ∙ get_or-take n (drop at m) 0 0 (omega (arith, e)) ∙ get_or-drop at m 0 0 ∙ ap (λ (j : ℕ). get_or m j 0) (let y : at + 0 ≡ at = omega arith in y) in
        ap (λ (y : ℕ). either (eqb y 2) (eqb y 5)) (sym z) ∙ sym (told_type ∙ type_one (origin_of x.option []) d l)

-- ---- The order

-- the turn of a place is that of its field
turn_of : (m : List ℕ) (fd : Field) (i : ℕ) → i < length (bytes fd m) → turn_at (start fd + i) ≡ field_number_value fd
turn_of m options i l = rw (le-leb 240 (240 + i) (omega arith))
turn_of m file i l = let k : i < 128 = omega (arith, length-take 128 (drop 108 m)) in rw (lt-leb 240 (108 + i) (omega arith), le-leb 108 (108 + i) (omega arith))
turn_of m sname i l = let k : i < 64 = omega (arith, length-take 64 (drop 44 m)) in rw (lt-leb 240 (44 + i) (omega arith), lt-leb 108 (44 + i) (omega arith))

turn_place : {m : List ℕ} (o : Opt) → Standing m o → turn_at (place o) ≡ field_number_value o.field
turn_place {m} o s = turn_of m o.field o.offset (omega (arith, option_in_lem s.stands.option))

same_start : (a b : Field) → field_number_value a ≡ field_number_value b → start a ≡ start b
same_start options options e = refl
same_start options file e = absurd (omega arith)
same_start options sname e = absurd (omega arith)
same_start file options e = absurd (omega arith)
same_start file file e = refl
same_start file sname e = absurd (omega arith)
same_start sname options e = absurd (omega arith)
same_start sname file e = absurd (omega arith)
same_start sname sname e = refl

added : (k i j : ℕ) → ltb (k + i) (k + j) ≡ ltb i j
added k i j = go (dec_lt i j)
  where
    go : Dec (i < j) → ltb (k + i) (k + j) ≡ ltb i j
    go (yes h) = rw (lt-ltb i j h, lt-ltb (k + i) (k + j) (omega arith))
    go (no f) = rw (le-ltb i j (omega (arith, f)), le-ltb (k + i) (k + j) (omega (arith, f)))

by_places : {m : List ℕ} (o q : Opt) → Standing m o → Standing m q
    → read_before_value (place o) (place q) ≡ cond (eqb (field_number_value o.field) (field_number_value q.field)) (ltb o.offset q.offset) (ltb (field_number_value o.field) (field_number_value q.field))
by_places o q s t =
    rw (turn_place o s, turn_place q t) (go (eqb (field_number_value o.field) (field_number_value q.field)) refl)
  where
    go : (x : Bool) → eqb (field_number_value o.field) (field_number_value q.field) ≡ x
        → cond x (ltb (place o) (place q)) (ltb (field_number_value o.field) (field_number_value q.field)) ≡ cond x (ltb o.offset q.offset) (ltb (field_number_value o.field) (field_number_value q.field))
    go true e =
        let z = same_start o.field q.field (borrow.Author.Tests.eqb-true _ _ e) in
        ap (λ (y : ℕ). ltb (start o.field + o.offset) (y + q.offset)) (sym z) ∙ added (start o.field) o.offset q.offset
    go false e = refl

module _ (m index : List ℕ) (b : BuiltFrom m index) where
  abbrev ordered : Bool
  ordered = before_by (got m index 3) (got m index 1)

  pub order_no_router : get_or index 3 0 ≡ 0 → false ≡ ordered
  order_no_router z = sym (ap (λ (x : PlainAnswer). before_by x (got m index 1)) (is_absent m index b 3 (omega arith) (omega arith) refl z))

  pub order_no_mask : get_or index 1 0 ≡ 0 → false ≡ ordered
  order_no_mask z =
      sym (ap (before_by (got m index 3)) (is_absent m index b 1 (omega arith) (omega arith) refl z) ∙ go (eqb (got m index 3).field 0))
    where
      go : (x : Bool) → cond x false false ≡ false
      go true = refl
      go false = refl

  pub order_places : (get_or index 3 0 ≡ 0 → ⊥) → (get_or index 1 0 ≡ 0 → ⊥) → (get_or index 3 0 ≡ 65535 → ⊥) → (get_or index 1 0 ≡ 65535 → ⊥)
      → read_before_value (get_or index 3 0) (get_or index 1 0) ≡ ordered
  order_places a c d e =
      let x = when_in_one m index b 3 (omega arith) (omega arith) refl a d in
      let y = when_in_one m index b 1 (omega arith) (omega arith) refl c e in
      let o = x.option in
      let q = y.option in
      ap₂ read_before_value x.at y.at ∙ by_places o q x.stands y.stands
      ∙ sym (ap₂ before_by (one_told m index b 3 (omega arith) (omega arith) refl x) (one_told m index b 1 (omega arith) (omega arith) refl y)
      ∙ found_order o q (content_of kinds every_code 3 o.item.body) (content_of kinds every_code 1 q.item.body))
    where
      found_order : (o q : Opt) (v w : Content) → before_by (plain_answer (Found (origin_of o []) v)) (plain_answer (Found (origin_of q []) w))
          ≡ cond (eqb (field_number_value o.field) (field_number_value q.field)) (ltb o.offset q.offset) (ltb (field_number_value o.field) (field_number_value q.field))
      found_order o q v w = rw (field_there o.field, field_there q.field) refl

-- ---- All bits

regroup : (a b c d e f g h u w o : ℕ) → u ≡ a + b + f + g → w ≡ c + d + e → o ≡ h → u + w + o ≡ a + b + c + d + e + f + g + h
regroup a b c d e f g h u w o p q r = omega arith

pub all_bits : (m index : List ℕ) → BuiltFrom m index → (u w o : ℕ)
    → u ≡ bit_if (not (formed_by (got m index 51))) 1 + bit_if (not (formed_by (got m index 54))) 2 + bit_if (not (formed_by (got m index 1))) 32 + bit_if (not (formed_by (got m index 3))) 64
    → w ≡ bit_if (not (eqb (get_or index 50 0) 0)) 4 + bit_if (not (eqb (get_or index 55 0) 0)) 8 + bit_if (not (eqb (get_or index 57 0) 0)) 16
    → o ≡ bit_if (before_by (got m index 3) (got m index 1)) 128
    → u + w + o
    ≡ bits (not (formed_by (got m index 51))) (not (formed_by (got m index 54))) (there_by (got m index 50)) (there_by (got m index 55)) (there_by (got m index 57)) (not (formed_by (got m index 1)))
    (not (formed_by (got m index 3))) (before_by (got m index 3) (got m index 1))
all_bits m index b u w o p q r =
    let t : (c n : ℕ) → 1 ≤ c → c ≤ 254 → marked every c ≡ true → bit_if (not (eqb (get_or index c 0) 0)) n ≡ bit_if (there_by (got m index c)) n
    = λ c n l h k. ap (λ (x : Bool). bit_if x n) (there_entry m index b c l h k) in
    let z : w ≡ bit_if (there_by (got m index 50)) 4 + bit_if (there_by (got m index 55)) 8 + bit_if (there_by (got m index 57)) 16
    = q ∙ ap₂ ◌+◌ (ap₂ ◌+◌ (t 50 4 (omega arith) (omega arith) refl) (t 55 8 (omega arith) (omega arith) refl)) (t 57 16 (omega arith) (omega arith) refl) in
    regroup _ _ _ _ _ _ _ _ u w o p z r
