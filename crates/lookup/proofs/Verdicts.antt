-- What is answered of data by the number of a row: from all bytes, from the first four, and as a text. Assumes nothing.
use mathlib.Core.Path.{◌≡◌, refl, sym, ap, ◌∙◌}
use mathlib.Core.Bool.{Bool, true, false, cond}
use mathlib.Core.List.{List}
use mathlib.Core.Option.{Option, none, some}
use Prim.Native.Nat.{ℕ, zero, suc, ◌%◌, ◌<◌}
use native.Mathlib.Omega.{arith}
use lib.Dec.{eqb}
use lib.ListN.{length, get_or}
use borrow.Author.Tests.{ne_eqb, eqb-true}
use Rattle.options.specs.Reading.{either}
use Rattle.options.specs.Kinds.{Kind, address, addresses, pairs, flag, octet, number16, numbers16, unsigned32, signed32, text, opaque, relay, routes, first16, first32, trimmed, Values, any, between, one_of, at_least, rising_from, destinations, ascii, suboptions, routed, is_length, value_fault_value, Row, row_of, kind_by, fault, unless, meaning, judged, Value, broken, has_row, judged_by, kinds}
use Rattle.options.specs.Answers as asked
use Rattle.ranges.specs.Rows.{number_of, row_number}
use Rattle.ranges.proofs.Kept.{no_number}
use Rattle.ranges.proofs.Computed.{text_row}
use Rattle.kinds.specs.Numbers.{kind_at, row_at, kind_numbered, fault_in_value, fault_numbered, length_fits_value, of_each, is_list_value, list_fault_value, number_fault_value}
use Rattle.kinds.proofs.Numbering.{named, row_zero, row_of_lem, kind_of_row, no_kind}
use Rattle.lookup.specs.Found.{known_row_value, content_by, meaning_of, judged_of}

-- ---- by the row of a code

-- a verdict by a fault's number
pub broken_by_lem : (n : ℕ) (v : Value) → (n ≡ 0 → ⊥) → broken n ≡ unless n v
broken_by_lem zero v z = absurd (z refl)
broken_by_lem (suc n) v z = refl

never : {X : Type 0} → ◌≡◌ {A = Bool} true false → X
never e = absurd (let z : ◌≡◌ {A = ℕ} 0 1 = cc in omega arith)

abbrev no_row : Option Row → Bool
no_row none = true
no_row (some r) = false

some_row : (n : ℕ) (r : Row) → row_at n ≡ some r → n ≡ 0 → ⊥
some_row n r q z = never (ap no_row (sym row_zero ∙ ap row_at (sym z) ∙ q))

content_zero : (d : List ℕ) → content_by 0 d ≡ asked.unknown (length d)
unfolding content_by
content_zero d = refl

content_row : (n : ℕ) (r : Row) (d : List ℕ) → row_at n ≡ some r → content_by n d ≡ asked.known (judged r d)
unfolding content_by
content_row n r d q = ap (λ (o : Option Row). cond (eqb n 0) (asked.unknown (length d)) (asked.known (judged_by o d))) q ∙ ap (λ (b : Bool). cond b (asked.unknown (length d)) (asked.known (judged r d))) (ne_eqb n 0 (some_row n r q))

row_by : (c : ℕ) (d : List ℕ) (o : Option Row) → row_of c ≡ o → content_by (row_number c) d ≡ cond (has_row (kind_by o)) (asked.known (judged_by o d)) (asked.unknown (length d))
row_by c d none e = ap (λ (n : ℕ). content_by n d) (no_number c e) ∙ content_zero d
row_by c d (some r) e = content_row (row_number c) r d (row_of_lem c ∙ e)

marked_by : (c : ℕ) (d : List ℕ) (b : Bool) → content_by (cond b (row_number c) 0) d ≡ cond (cond b (has_row (kind_by (row_of c))) false) (asked.known (judged_by (row_of c) d)) (asked.unknown (length d))
marked_by c d false = content_zero d
marked_by c d true = row_by c d (row_of c) refl

pub by_row : (set : ℕ → Bool) (c : ℕ) (d : List ℕ) → content_by (known_row_value set c) d ≡ asked.content_of kinds set c d
by_row set c d = marked_by c d (set c)

-- ---- several pieces: by the first four bytes, or by all

neither : (a b : Bool) → either a b ≡ false → (a ≡ false) × (b ≡ false)
neither true b e = never e
neither false b e = (refl, e)

-- a verdict's two forms
two_rules : (long : Bool) (f : ℕ) (v : Value) → cond long (unless f v) (broken 8) ≡ unless (cond long f 8) v
two_rules true f v = refl
two_rules false f v = refl

-- a verdict by the rule of length first: where it is broken no data count
module _ (row n : ℕ) (f : ℕ) (d : List ℕ) where
  pub length_broken : length_fits_value (row_at row) n ≡ false → broken 8 ≡ judged_of row n f d
  unfolding judged_of
  length_broken e = rw e refl

  pub length_kept : length_fits_value (row_at row) n ≡ true → unless f (meaning_of (kind_at (kind_numbered row)) n d) ≡ judged_of row n f d
  unfolding judged_of
  length_kept e = rw e refl

module _ (d h : List ℕ) (head_byte : (i : ℕ) → i < 4 → get_or h i 0 ≡ get_or d i 0) where
  head16 : first16 h ≡ first16 d
  head16 = rw (head_byte 0 (omega arith), head_byte 1 (omega arith))

  head32 : first32 h ≡ first32 d
  head32 = rw (head_byte 0 (omega arith), head_byte 1 (omega arith), head_byte 2 (omega arith), head_byte 3 (omega arith))

  head_value : (v : Values) → of_each v ≡ false → value_fault_value v h ≡ value_fault_value v d
  unfolding value_fault_value
  head_value any z = refl
  head_value (between least most) z = rw (head_byte 0 (omega arith))
  head_value (one_of vs) z = rw (head_byte 0 (omega arith))
  head_value (at_least least) z = rw head16
  head_value (rising_from least) z = never z
  head_value destinations z = never z
  head_value ascii z = never z
  head_value suboptions z = never z
  head_value routed z = never z

  head_meaning : (k : Kind) → asked.is_text_value k ≡ false → meaning_of k (length d) h ≡ meaning k d
  unfolding meaning meaning_of
  head_meaning address z = rw head32
  head_meaning addresses z = refl
  head_meaning pairs z = refl
  head_meaning flag z = rw (head_byte 0 (omega arith))
  head_meaning octet z = rw (head_byte 0 (omega arith))
  head_meaning number16 z = rw head16
  head_meaning numbers16 z = refl
  head_meaning unsigned32 z = rw head32
  head_meaning signed32 z = rw head32
  head_meaning text z = never z
  head_meaning opaque z = refl
  head_meaning relay z = refl
  head_meaning routes z = refl

  pub by_first_four_lem : (row : ℕ) → is_list_value (row_at row) ≡ false → judged_of row (length d) (number_fault_value (row_at row) h) h ≡ judged_by (row_at row) d
  unfolding judged_of judged fault meaning meaning_of
  by_first_four_lem row z = go (row_at row) refl z
    where
      go : (o : Option Row) → row_at row ≡ o → is_list_value o ≡ false
          → cond (length_fits_value o (length d)) (unless (number_fault_value o h) (meaning_of (kind_at (row % 16)) (length d) h)) (broken 8) ≡ judged_by o d
      go none q e = rw (no_kind row q)
      go (some r) q e =
          let p = neither (of_each r.values) (asked.is_text_value r.kind) e in
          rw (e, kind_of_row row r q, named r.kind, head_value r.values p.0, head_meaning r.kind p.1) (two_rules (is_length r.lengths (length d)) (value_fault_value r.values d) (meaning r.kind d))

module _ (d : List ℕ) where
  pub all_meaning : (k : Kind) → meaning_of k (length d) d ≡ meaning k d
  unfolding meaning meaning_of
  all_meaning address = refl
  all_meaning addresses = refl
  all_meaning pairs = refl
  all_meaning flag = refl
  all_meaning octet = refl
  all_meaning number16 = refl
  all_meaning numbers16 = refl
  all_meaning unsigned32 = refl
  all_meaning signed32 = refl
  all_meaning text = refl
  all_meaning opaque = refl
  all_meaning relay = refl
  all_meaning routes = refl

  pub by_all : (row : ℕ) → is_list_value (row_at row) ≡ true → judged_of row (length d) (list_fault_value (row_at row) d) d ≡ judged_by (row_at row) d
  unfolding judged_of judged fault
  by_all row z = go (row_at row) refl z
    where
      go : (o : Option Row) → row_at row ≡ o → is_list_value o ≡ true
          → cond (length_fits_value o (length d)) (unless (list_fault_value o d) (meaning_of (kind_at (row % 16)) (length d) d)) (broken 8) ≡ judged_by o d
      go none q e = never (sym e)
      go (some r) q e = rw (e, kind_of_row row r q, named r.kind, all_meaning r.kind) (two_rules (is_length r.lengths (length d)) (value_fault_value r.values d) (meaning r.kind d))

-- ---- the text of an option in one piece

-- no other kind has a text
meant_else : (g : asked.Origin) (k : Kind) (d : List ℕ) → (number_of k ≡ 10 → ⊥) → asked.no_extent ≡ asked.text_found g (meaning k d)
unfolding meaning
meant_else g address d z = refl
meant_else g addresses d z = refl
meant_else g pairs d z = refl
meant_else g flag d z = refl
meant_else g octet d z = refl
meant_else g number16 d z = refl
meant_else g numbers16 d z = refl
meant_else g unsigned32 d z = refl
meant_else g signed32 d z = refl
meant_else g text d z = absurd (z refl)
meant_else g opaque d z = refl
meant_else g relay d z = refl
meant_else g routes d z = refl

-- kind 10 is text
text_numbered : (k : Kind) → number_of k ≡ 10 → k ≡ text
text_numbered k e = sym (named k) ∙ ap kind_at e

module _ (g : asked.Origin) (d : List ℕ) where
  other_by : (o : Option Row) (n : ℕ) → row_at n ≡ o → (n % 16 ≡ 10 → ⊥) → asked.no_extent ≡ asked.text_found g (judged_by o d)
  unfolding judged
  other_by none n q y = refl
  other_by (some r) n q y = by (fault r d)
    where
      by : (f : ℕ) → asked.no_extent ≡ asked.text_found g (unless f (meaning r.kind d))
      by zero = meant_else g r.kind d (λ z. y (kind_of_row n r q ∙ z))
      by (suc f) = refl

  lost_by : (o : Option Row) → (fault_in_value o d ≡ 0 → ⊥) → asked.no_extent ≡ asked.text_found g (judged_by o d)
  unfolding judged
  lost_by none y = absurd (y refl)
  lost_by (some r) y = by (fault r d) y
    where
      by : (f : ℕ) → (f ≡ 0 → ⊥) → asked.no_extent ≡ asked.text_found g (unless f (meaning r.kind d))
      by zero z = absurd (z refl)
      by (suc f) z = refl

  kept_by : (o : Option Row) (n : ℕ) → row_at n ≡ o → n % 16 ≡ 10 → fault_in_value o d ≡ 0 → asked.extent (asked.start_of g) (trimmed d) ≡ asked.text_found g (judged_by o d)
  unfolding judged meaning
  kept_by none n q y z = absurd (let e : text ≡ opaque = ap kind_at (sym y) ∙ no_kind n q in omega (arith, ap number_of e))
  kept_by (some r) n q y z = rw (z, text_numbered r.kind (sym (kind_of_row n r q) ∙ y))

-- by the row, of an option in one piece
whole_text : (x : asked.Wholeness) (g : asked.Origin) (v : Value) → x ≡ asked.in_one → asked.text_found g v ≡ asked.text_whole x g v
whole_text asked.in_one g v e = refl
whole_text (asked.in_pieces n) g v e = absurd (let z : ◌≡◌ {A = ℕ} 0 1 = cc in omega arith)

module _ (g : asked.Origin) (w : g.wholeness ≡ asked.in_one) (n : ℕ) (d : List ℕ) where
  abbrev text_here : asked.Extent
  text_here = asked.text_in_value (asked.Found g (content_by n d))

  known_by : (e : asked.Extent) → (n ≡ 0 → e ≡ asked.no_extent) → e ≡ asked.text_found g (judged_by (row_at n) d) → e ≡ text_here
  unfolding content_by
  known_by e y q = go (eqb n 0) refl
    where
      go : (b : Bool) → eqb n 0 ≡ b → e ≡ asked.text_in_value (asked.Found g (cond b (asked.unknown (length d)) (asked.known (judged_by (row_at n) d))))
      go true t = y (eqb-true n 0 t)
      go false t = q ∙ whole_text g.wholeness g (judged_by (row_at n) d) w

  pub text_other : (kind_numbered n ≡ 10 → ⊥) → asked.no_extent ≡ text_here
  text_other y = known_by asked.no_extent (λ z. refl) (other_by g d (row_at n) n refl y)

  pub text_lost : (fault_numbered n d ≡ 0 → ⊥) → asked.no_extent ≡ text_here
  unfolding fault_numbered
  text_lost y = known_by asked.no_extent (λ z. refl) (lost_by g d (row_at n) y)

  pub text_found_lem : kind_numbered n ≡ 10 → fault_numbered n d ≡ 0 → asked.extent (asked.start_of g) (trimmed d) ≡ text_here
  unfolding fault_numbered
  text_found_lem y f =
      known_by (asked.extent (asked.start_of g) (trimmed d))
      (λ z. absurd (omega (arith, y, z)))
      (kept_by g d (row_at n) n refl y f)

-- ---- the row of a code, by the tests of the text call

module _ (set : ℕ → Bool) (c : ℕ) where
  pub other_row : (row_number c % 16 ≡ 10 → ⊥) → known_row_value set c % 16 ≡ 10 → ⊥
  other_row y = go (set c)
    where
      go : (b : Bool) → cond b (row_number c) 0 % 16 ≡ 10 → ⊥
      go true e = y e
      go false e = omega (arith, e)

  pub unmarked_row : set c ≡ false → known_row_value set c % 16 ≡ 10 → ⊥
  unmarked_row y e = let z : known_row_value set c ≡ 0 = rw y in omega (arith, e, z)

  pub known_text : c < 256 → set c ≡ true → eqb (row_number c % 16) 10 ≡ true → known_row_value set c ≡ 10
  known_text h y e = rw y (eqb-true (row_number c) 10 (text_row c h e))
