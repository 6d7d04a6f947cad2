-- An entry is used by the tests that the code makes; and what is answered by the number of a row. Assumes nothing.
use mathlib.Core.Path.{◌≡◌, refl, sym, ap, ap₂, ◌∙◌, subst}
use mathlib.Core.Bool.{Bool, true, false, cond, false≢true}
use mathlib.Core.List.{List, [], ◌∷◌, ◌++◌}
use mathlib.Core.Option.{Option, none, some}
use Prim.Native.Nat.{ℕ, zero, suc, ◌+◌, ◌-◌, ◌%◌, ◌≤◌, ◌<◌}
use native.Mathlib.Omega.{arith}
use native.Mathlib.Decide.{dec_lt}
use lib.Dec.{T, eqb, ltb, leb}
use lib.ListN.{length, get_or, take, drop, length-append, length-take, length-drop, take-append-drop}
use lib.Seq.{drop-cons, length-take-le, get_or-drop, get_or-take}
use borrow.Author.Tests.{ne_eqb, lt-ltb, le-ltb, le-leb, lt-leb, leb-true}
use Rattle.options.specs.Message.{Field, options, file, sname, start, bytes, Opt, opt}
use Rattle.options.specs.Kinds.{unless, meaning, kinds}
use Rattle.options.specs.Answers as asked
use Rattle.options.specs.Index.{used_entry, entry_answer}
use Rattle.options.specs.IndexClaims.{Usable}
use Rattle.theorems.proofs.Usable.{usable_used, used_usable}
use Rattle.theorems.proofs.Lengths.{field_part}
use Rattle.kinds.specs.Numbers.{kind_at, kind_numbered, row_at, fault_numbered, length_fits_value, value_fault_in, is_list_value}
use Rattle.kinds.proofs.ByKind.{listless, no_list}
use Rattle.kinds.proofs.Numbering.{judged_as, fault_rules}
use Rattle.lookup.specs.Found.{content_by}
use Rattle.message.specs.Fields.{field_of, coded_field}
use Rattle.message.specs.declared.Field.TheVariants.{Options, File, Sname}
use Rattle.std.specs.Prelude.{Some, None}
use Rattle.dhcpopt_index.specs.declared.Span.{Span}
use Rattle.dhcpopt_reader.specs.declared.PlainAnswer.{PlainAnswer}
use Rattle.dhcpopt_reader.specs.declared.PlainContent.{PlainContent}
use Rattle.dhcpopt_reader.specs.Plain.{field_number_value, plain_content, plain_found, plain_answer}
use Rattle.dhcpopt_index.specs.Found.{span_at_value, found_at}

-- ---- by the number of a row

-- its rule of length, then its rule of value
pub by_rules : (n : ℕ) (d : List ℕ) → (n ≡ 0 → ⊥) → content_by n d
    ≡ asked.known (unless (cond (length_fits_value (row_at n) (length d)) (value_fault_in (row_at n) d) 8) (meaning (kind_at (kind_numbered n)) d))
unfolding content_by fault_numbered
by_rules n d z = rw (ne_eqb n 0 z) (ap asked.known (judged_as n d ∙ ap (λ (x : ℕ). unless x (meaning (kind_at (kind_numbered n)) d)) (sym (fault_rules (row_at n) d))))

-- a list whose kind is neither 12 nor 13 is of a kind below
pub short_list : (n : ℕ) → n < 256 → (n % 16 ≡ 12 → ⊥) → (n % 16 ≡ 13 → ⊥) → is_list_value (row_at n) ≡ true → leb 12 (n % 16) ≡ false
short_list n h x y e = go (leb 12 (n % 16)) refl
  where
    listless_high : (k : ℕ) → 12 ≤ k → (k ≡ 12 → ⊥) → (k ≡ 13 → ⊥) → T (listless k)
    listless_high k l a b = rw (ne_eqb k 3 (λ q. omega (arith, q, l)), ne_eqb k 7 (λ q. omega (arith, q, l)), ne_eqb k 10 (λ q. omega (arith, q, l)), ne_eqb k 12 a, ne_eqb k 13 b) tt

    go : (b : Bool) → leb 12 (n % 16) ≡ b → leb 12 (n % 16) ≡ false
    go true q = let z : is_list_value (row_at n) ≡ false = no_list n h (listless_high (n % 16) (leb-true 12 (n % 16) q) x y) in absurd (false≢true (sym z ∙ e))
    go false q = q

-- ---- a field, and where it ends

module _ (m : List ℕ) (h : 240 ≤ length m) where
  abbrev whole : Field → Span
  whole fd = record { field = coded_field fd; base = start fd; end = start fd + length (bytes fd m) }

  span_of : (fd : Field) (i : ℕ) → i < length (bytes fd m) → span_at_value (length m) (start fd + i) ≡ Some (whole fd)
  span_of options i l =
      let e : length m ≡ 240 + length (drop 240 m) = omega (arith, length-drop 240 m) in
      rw (le-leb 240 (240 + i) (omega arith)) (ap (λ (n : ℕ). Some (record { field = Options; base = 240; end = n })) e)
  span_of file i l =
      let k : length (take 128 (drop 108 m)) ≡ 128 = length-take-le 128 (drop 108 m) (omega (arith, length-drop 108 m)) in
      let e : 236 ≡ 108 + length (take 128 (drop 108 m)) = omega (arith, k) in
      rw (lt-leb 240 (108 + i) (omega arith), le-ltb (108 + i) 44 (omega arith), le-ltb (108 + i) 108 (omega arith), lt-ltb (108 + i) 236 (omega arith))
      (ap (λ (n : ℕ). Some (record { field = File; base = 108; end = n })) e)
  span_of sname i l =
      let k : length (take 64 (drop 44 m)) ≡ 64 = length-take-le 64 (drop 44 m) (omega (arith, length-drop 44 m)) in
      let e : 108 ≡ 44 + length (take 64 (drop 44 m)) = omega (arith, k) in
      rw (lt-leb 240 (44 + i) (omega arith), le-ltb (44 + i) 44 (omega arith), lt-ltb (44 + i) 108 (omega arith))
      (ap (λ (n : ℕ). Some (record { field = Sname; base = 44; end = n })) e)

  -- the field that a place is in, or none
  data Where (e : ℕ) : Type 0 where
    in_field : (fd : Field) (i : ℕ) → e ≡ start fd + i → i < length (bytes fd m) → Where e
    past : 240 ≤ e → length m ≤ e → Where e
    nowhere : span_at_value (length m) e ≡ None → Where e

  where_is : (e : ℕ) → Where e
  where_is e = go (dec_lt e 240) (dec_lt e 44) (dec_lt e 108) (dec_lt e 236) (dec_lt e (length m))
    where
      go : Dec (e < 240) → Dec (e < 44) → Dec (e < 108) → Dec (e < 236) → Dec (e < length m) → Where e
      go (no f) a b d (yes k) = in_field options (e - 240) (omega (arith, f)) (omega (arith, f, k, length-drop 240 m))
      go (no f) a b d (no k) = past (omega (arith, f)) (omega (arith, k))
      go (yes l) (yes a) b d k = nowhere (rw (lt-leb 240 e l, lt-ltb e 44 a) refl)
      go (yes l) (no a) (yes b) d k =
          let n : length (take 64 (drop 44 m)) ≡ 64 = length-take-le 64 (drop 44 m) (omega (arith, length-drop 44 m)) in
          in_field sname (e - 44) (omega (arith, a)) (omega (arith, a, b, n))
      go (yes l) (no a) (no b) (yes d) k =
          let n : length (take 128 (drop 108 m)) ≡ 128 = length-take-le 128 (drop 108 m) (omega (arith, length-drop 108 m)) in
          in_field file (e - 108) (omega (arith, b)) (omega (arith, b, d, n))
      go (yes l) (no a) (no b) (no d) k =
          nowhere (rw (lt-leb 240 e l, le-ltb e 44 (omega (arith, a)), le-ltb e 108 (omega (arith, b)), le-ltb e 236 (omega (arith, d))) refl)

  span_at_past : (e : ℕ) → 240 ≤ e → span_at_value (length m) e ≡ Some (record { field = Options; base = 240; end = length m })
  span_at_past e l = rw (le-leb 240 e l) refl

  -- the span of a place
  module _ (e : ℕ) (s : Span) (q : span_at_value (length m) e ≡ Some s) where
    same : (t : Span) → span_at_value (length m) e ≡ Some t → s ≡ t
    same t r = let z : Some s ≡ Some t = sym q ∙ r in cc

    in_whole : (fd : Field) (i : ℕ) → e ≡ start fd + i → i < length (bytes fd m) → s ≡ whole fd
    in_whole fd i z l = same (whole fd) (ap (span_at_value (length m)) z ∙ span_of fd i l)

    -- a field ends within the message, and begins at the place or before
    pub end_within : s.end ≤ length m
    end_within = go (where_is e)
      where
        inside : (fd : Field) → start fd + length (bytes fd m) ≤ length m
        inside options = omega (arith, length-drop 240 m)
        inside file = omega (arith, length-take 128 (drop 108 m), length-drop 108 m)
        inside sname = omega (arith, length-take 64 (drop 44 m), length-drop 44 m)

        go : Where e → s.end ≤ length m
        go (in_field fd i z l) = let y : s.end ≡ start fd + length (bytes fd m) = ap (λ (x : Span). x.end) (in_whole fd i z l) in omega (arith, y, inside fd)
        go (past l k) = let y : s.end ≡ length m = ap (λ (x : Span). x.end) (same (record { field = Options; base = 240; end = length m }) (span_at_past e l)) in omega (arith, y)
        go (nowhere z) = let y : Some s ≡ None = sym q ∙ z in absurd (cc)

    pub base_before : s.base ≤ e
    base_before = go (where_is e)
      where
        go : Where e → s.base ≤ e
        go (in_field fd i z l) = let y : s.base ≡ start fd = ap (λ (x : Span). x.base) (in_whole fd i z l) in omega (arith, y, z)
        go (past l k) = let y : s.base ≡ 240 = ap (λ (x : Span). x.base) (same (record { field = Options; base = 240; end = length m }) (span_at_past e l)) in omega (arith, y, l)
        go (nowhere z) = let y : Some s ≡ None = sym q ∙ z in absurd (cc)

  byte_of : (fd : Field) (i : ℕ) → i < length (bytes fd m) → get_or (bytes fd m) i 0 ≡ get_or m (start fd + i) 0
  byte_of options i l = get_or-drop 240 m i 0
  byte_of file i l = get_or-take 128 (drop 108 m) i 0 (omega (arith, length-take 128 (drop 108 m))) ∙ get_or-drop 108 m i 0
  byte_of sname i l = get_or-take 64 (drop 44 m) i 0 (omega (arith, length-take 64 (drop 44 m))) ∙ get_or-drop 44 m i 0

  -- ---- what a usable entry passes

  pub record Passes (c e : ℕ) : Type 0 where
    pub span : Span
    pub is_span : span_at_value (length m) e ≡ Some span
    pub within : e + 2 + get_or m (e + 1) 0 ≤ span.end
    pub is_code : get_or m e 0 ≡ c

  from_field : (fd : Field) (i c : ℕ) (d r : List ℕ) → drop i (bytes fd m) ≡ c ∷ length d ∷ (d ++ r) → Passes c (start fd + i)
  from_field fd i c d r q =
      let f = bytes fd m in
      let n : length (drop i f) ≡ suc (suc (length (d ++ r))) = ap length q in
      let l : i + 2 + length d ≤ length f = omega (arith, length-drop i f, length-append d r) in
      let a : get_or f i 0 ≡ c = ap (λ (k : ℕ). get_or f k 0) (let z : i ≡ i + 0 = omega arith in z) ∙ sym (get_or-drop i f 0 0) ∙ ap (λ (x : List ℕ). get_or x 0 0) q in
      let b : get_or f (i + 1) 0 ≡ length d = sym (get_or-drop i f 1 0) ∙ ap (λ (x : List ℕ). get_or x 1 0) q in
      let k : get_or m (start fd + i + 1) 0 ≡ length d = ap (λ (j : ℕ). get_or m j 0) (let z : start fd + i + 1 ≡ start fd + (i + 1) = omega arith in z) ∙ sym (byte_of fd (i + 1) (omega arith)) ∙ b in
      record { span = whole fd; is_span = span_of fd i (omega arith); within = omega (arith, k); is_code = sym (byte_of fd i (omega arith)) ∙ a }

  pub passes : {c e : ℕ} → Usable m c e → Passes c e
  passes {c} {e} u = subst (Passes c) (sym u.lies) (from_field u.field u.offset c u.body u.after u.reads)

  pub no_span : (c e : ℕ) → span_at_value (length m) e ≡ None → Usable m c e → ⊥
  no_span c e z u = let y : Some (passes u).span ≡ None = sym (passes u).is_span ∙ z in absurd (cc)

  module _ (c e : ℕ) (s : Span) (q : span_at_value (length m) e ≡ Some s) (u : Usable m c e) where
    pub passes_end : e + 2 + get_or m (e + 1) 0 ≤ s.end
    passes_end = let y : s.end ≡ (passes u).span.end = ap (λ (x : Span). x.end) (same e s q (passes u).span (passes u).is_span) in omega (arith, y, (passes u).within)

    pub passes_code : get_or m e 0 ≡ c
    passes_code = (passes u).is_code

  -- ---- and the other way

  -- the option that is used: its field and offset by the span, its data those behind the length byte
  pub record Used (c e n : ℕ) (s : Span) : Type 0 where
    pub option : Opt
    pub is_used : used_entry m c e ≡ some option
    pub field_is : field_of s.field ≡ option.field
    pub offset_is : e - s.base ≡ option.offset
    pub lies : e ≡ start option.field + option.offset
    pub body_is : take n (drop (e + 2) m) ≡ option.item.body

  module _ (c e n : ℕ) (s : Span) (v : span_at_value (length m) e ≡ Some s) (w : e + 2 + n ≤ s.end) (p : get_or m e 0 ≡ c) (q : get_or m (e + 1) 0 ≡ n) where
    coded_back : (fd : Field) → field_of (coded_field fd) ≡ fd
    coded_back options = refl
    coded_back file = refl
    coded_back sname = refl

    used_in : (fd : Field) (i : ℕ) → e ≡ start fd + i → i + 2 + n ≤ length (bytes fd m) → Used c e n s
    used_in fd i z l =
        let f = bytes fd m in
        let d : List ℕ = take n (drop (i + 2) f) in
        let k : length d ≡ n = length-take-le n (drop (i + 2) f) (omega (arith, length-drop (i + 2) f)) in
        let a : get_or f i 0 ≡ c = byte_of fd i (omega arith) ∙ ap (λ (j : ℕ). get_or m j 0) (sym z) ∙ p in
        let b : get_or f (suc i) 0 ≡ n = byte_of fd (suc i) (omega arith) ∙ ap (λ (j : ℕ). get_or m j 0) (let y : start fd + suc i ≡ e + 1 = omega arith in y) ∙ q in
        let t : suc (suc i) ≡ i + 2 = omega arith in
        let g : drop i f ≡ c ∷ n ∷ drop (i + 2) f = drop-cons f i 0 (omega arith) ∙ ap₂ (λ (x : ℕ) (xs : List ℕ). x ∷ xs) a (drop-cons f (suc i) 0 (omega arith) ∙ ap₂ (λ (x : ℕ) (xs : List ℕ). x ∷ xs) b (ap (λ (j : ℕ). drop j f) t)) in
        let u : Usable m c e = record {
          field = fd;
          offset = i;
          body = d;
          after = drop n (drop (i + 2) f);
          lies = z;
          reads = g ∙ ap₂ (λ (x : ℕ) (xs : List ℕ). c ∷ x ∷ xs) (sym k) (sym (take-append-drop n (drop (i + 2) f)));
        } in
        let y : start fd + (i + 2) ≡ e + 2 = omega arith in
        let o : s ≡ whole fd = in_whole e s v fd i z (omega arith) in
        record {
          option = opt fd i c d;
          is_used = usable_used m c e u;
          field_is = ap (λ (x : Span). field_of x.field) o ∙ coded_back fd;
          offset_is = let x : s.base ≡ start fd = ap (λ (x : Span). x.base) o in omega (arith, x, z);
          lies = z;
          body_is = ap (λ (j : ℕ). take n (drop j m)) (sym y) ∙ sym (field_part fd m (i + 2) n l);
        }

    pub used : Used c e n s
    used = go (where_is e)
      where
        go : Where e → Used c e n s
        go (in_field fd i z l) =
            let y : s.end ≡ start fd + length (bytes fd m) = ap (λ (x : Span). x.end) (in_whole e s v fd i z l) in
            used_in fd i z (omega (arith, w, y, z))
        go (past l k) =
            let y : s.end ≡ length m = ap (λ (x : Span). x.end) (same e s v (record { field = Options; base = 240; end = length m }) (span_at_past e l)) in
            absurd (omega (arith, w, y))
        go (nowhere z) = let y : Some s ≡ None = sym v ∙ z in absurd (cc)

-- ---- what is answered of an entry that is used

abbrev shape : Field → ℕ → ℕ → PlainContent → PlainAnswer
shape fd i e x =
    record {
      status = x.status;
      kind = x.kind;
      refusal = x.refusal;
      field = field_number_value fd;
      number = x.number;
      place = cond (eqb x.status 5) e 0;
      offset = i;
      start = e + 2;
      length = x.length;
      whole = 0;
      several = 0;
    }

told : (fd : Field) (i e : ℕ) (x : PlainContent) → e ≡ start fd + i → shape fd i e x ≡ plain_found (record { field = fd; offset = i; wholeness = asked.in_one }) x
told fd i e x z = rw z refl

pub found_used : (m : List ℕ) (h : 240 ≤ length m) (set : ℕ → Bool) (c e n : ℕ) (s : Span) (u : Used m h c e n s) (x : PlainContent)
    → x ≡ plain_content (asked.content_of kinds set c (take n (drop (e + 2) m)))
    → found_at s e x ≡ plain_answer (entry_answer kinds set c e (used_entry m c e))
found_used m h set c e n s u x q =
    let o = u.option in
    ap₂ (λ (fd : Field) (i : ℕ). shape fd i e x) u.field_is u.offset_is ∙ told o.field o.offset e x u.lies
    ∙ ap (plain_found (record { field = o.field; offset = o.offset; wholeness = asked.in_one })) (q ∙ ap (λ (d : List ℕ). plain_content (asked.content_of kinds set c d)) u.body_is)
    ∙ ap (λ (y : Option Opt). plain_answer (entry_answer kinds set c e y)) (sym u.is_used)

-- an entry that is not usable
pub not_used : (m : List ℕ) (c e : ℕ) → (Usable m c e → ⊥) → used_entry m c e ≡ none
not_used m c e n = go (used_entry m c e) refl
  where
    go : (x : Option Opt) → used_entry m c e ≡ x → x ≡ none
    go none q = refl
    go (some o) q = absurd (n (used_usable m c e o q).0)

pub unused_answer : (m : List ℕ) (set : ℕ → Bool) (c e : ℕ) → (Usable m c e → ⊥) → plain_answer (asked.Refused 19 e) ≡ plain_answer (entry_answer kinds set c e (used_entry m c e))
unused_answer m set c e n = ap (λ (x : Option Opt). plain_answer (entry_answer kinds set c e x)) (sym (not_used m c e n))
