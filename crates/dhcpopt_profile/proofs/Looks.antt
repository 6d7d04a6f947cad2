-- What C gets of a lookup, and what it says of the rules. Assumes nothing.
use mathlib.Core.Path.{◌≡◌, refl, sym, ap, ap₂, ◌∙◌}
use mathlib.Core.Bool.{Bool, true, false, cond, not}
use mathlib.Core.List.{List, [], ◌∷◌}
use mathlib.Core.Option.{Option, none, some}
use mathlib.Core.Logic.{inl, inr}
use Prim.Native.Nat.{ℕ, zero, suc, ◌+◌, ◌*◌, ◌≤◌}
use native.Mathlib.Omega.{arith}
use lib.Dec.{eqb, ltb}
use borrow.Author.Tests.{eq-eqb, ne_eqb, lt-ltb, ltb-true}
use Rattle.options.specs.Message.{Field, options, file, sname, turn, Opt, Earlier, end_to_end}
use Rattle.options.specs.Reading.{read_message, pieces}
use Rattle.options.specs.Kinds.{Kind, octet, Row, broken, number, part, kinds, kind_by, kind_of, row_of, fault, meaning, unless, judged, judged_by}
use Rattle.options.specs.CodeSet.{marked}
use Rattle.options.specs.Answers.{Origin, unknown, known, Answer, Absent, Refused, Found, answered, shown, origin_of, lookup, every_code, shown_number}
use Rattle.options.specs.Index.{lookup_by}
use Rattle.options.specs.ReadingClaims.{IsAccepted}
use Rattle.options.specs.IndexClaims.{BuiltFrom}
use Rattle.options.specs.Profile.{any_piece, is_formed, answer_for, is_type, out_of_order_value, reply_rules, broken_set, declined, yes_or, profile_of}
use Rattle.theorems.proofs.View.{clash}
use Rattle.theorems.proofs.Lookup.{asked}
use Rattle.theorems.proofs.Indexes.{answers_as_plain}
use Rattle.profile_theorems.proofs.Orders.{pieces_first, first_pieces, order_two, two_order, in_order}
use Rattle.dhcpopt_reader.specs.Plain.{field_number_value, plain_answer}
use Rattle.dhcpopt_profile.specs.Plain.{plain_profile}
use Rattle.dhcpopt_profile.specs.Judging.{every, formed_by, there_by, reply_by, before_by, bit_if}

-- ---- The answer through an index of the same bytes

every_shown : (c : ℕ) → marked every c ≡ true → (ps : List Opt) → shown kinds (marked every) c ps ≡ shown kinds every_code c ps
every_shown c e [] = refl
every_shown c e (o ∷ ps) = ap (λ (b : Bool). Found (origin_of o ps) (cond (cond b (kinds.row c) false) (known (kinds.value c (end_to_end (o ∷ ps)))) (unknown (lib.ListN.length (end_to_end (o ∷ ps)))))) e

pub looked : (m index : List ℕ) (b : BuiltFrom m index) (c : ℕ) → 1 ≤ c → c ≤ 254 → marked every c ≡ true → lookup_by kinds (marked every) m index c ≡ answer_for c b.is_accepted.options
unfolding lookup
looked m index b c l u e =
    answers_as_plain kinds (marked every) m index c (omega arith) b
    ∙ ap (λ (t : Bool). cond t (Refused 10 0) (answered kinds (marked every) c (read_message m))) (asked c l u)
    ∙ ap (answered kinds (marked every) c) b.is_accepted.reads
    ∙ every_shown c e (pieces c b.is_accepted.options)

-- ---- What its numbers say

pub formed_is : (x : Answer) → formed_by (plain_answer x) ≡ is_formed x
formed_is Absent = refl
formed_is (Refused n p) = refl
formed_is (Found g (unknown n)) = refl
formed_is (Found g (known (broken n))) = refl
formed_is (Found g (known (number k z))) = refl
formed_is (Found g (known (part k n))) = refl

-- 53 is a number of one byte, or broken
row_53 : kind_of 53 ≡ some octet
unfolding row_of
row_53 = refl

reply_value : (g : Origin) (d : List ℕ) → reply_by (plain_answer (Found g (known (kinds.value 53 d)))) ≡ is_type (shown_number (Found g (known (kinds.value 53 d))))
unfolding judged meaning
reply_value g d = go (row_of 53) row_53
  where
    by : (k : Kind) → k ≡ octet → (n : ℕ) → reply_by (plain_answer (Found g (known (unless n (meaning k d))))) ≡ is_type (shown_number (Found g (known (unless n (meaning k d)))))
    by k e zero = ap (λ (x : Kind). reply_by (plain_answer (Found g (known (meaning x d))))) e ∙ ap (λ (x : Kind). is_type (shown_number (Found g (known (meaning x d))))) (sym e)
    by k e (suc n) = refl

    go : (r : Option Row) → kind_by r ≡ some octet → reply_by (plain_answer (Found g (known (judged_by r d)))) ≡ is_type (shown_number (Found g (known (judged_by r d))))
    go none e = clash (cc)
    go (some r) e = by r.kind (cc) (fault r d)

pub reply_is : (ps : List Opt) → reply_by (plain_answer (shown kinds every_code 53 ps)) ≡ is_type (shown_number (shown kinds every_code 53 ps))
unfolding row_of
reply_is [] = refl
reply_is (o ∷ ps) = reply_value (origin_of o ps) (end_to_end (o ∷ ps))

pub field_there : (fd : Field) → eqb (field_number_value fd) 0 ≡ false
field_there options = refl
field_there file = refl
field_there sname = refl

pub there_is : (c : ℕ) (ps : List Opt) → there_by (plain_answer (shown kinds every_code c ps)) ≡ any_piece ps
there_is c [] = refl
there_is c (o ∷ ps) = ap not (field_there o.field)

-- ---- The order of first pieces

field_turn : (fd : Field) → field_number_value fd ≡ turn fd
field_turn options = refl
field_turn file = refl
field_turn sname = refl

field_same : (a b : Field) → field_number_value a ≡ field_number_value b → a ≡ b
field_same options options e = refl
field_same options file e = absurd (omega arith)
field_same options sname e = absurd (omega arith)
field_same file options e = absurd (omega arith)
field_same file file e = refl
field_same file sname e = absurd (omega arith)
field_same sname options e = absurd (omega arith)
field_same sname file e = absurd (omega arith)
field_same sname sname e = refl

-- by field and offset
abbrev earlier_by : Opt → Opt → Bool
earlier_by a b = cond (eqb (field_number_value a.field) (field_number_value b.field)) (ltb a.offset b.offset) (ltb (field_number_value a.field) (field_number_value b.field))

earlier_by_lem : (a b : Opt) → Earlier a b → earlier_by a b ≡ true
earlier_by_lem a b (inl h) =
    let p = field_turn a.field in
    let q = field_turn b.field in
    rw (ne_eqb (field_number_value a.field) (field_number_value b.field) (λ e. omega arith), lt-ltb (field_number_value a.field) (field_number_value b.field) (omega arith))
earlier_by_lem a b (inr (e, h)) = rw (eq-eqb (field_number_value a.field) (field_number_value b.field) (ap field_number_value e), lt-ltb a.offset b.offset h)

by_earlier : (a b : Opt) → earlier_by a b ≡ true → Earlier a b
by_earlier a b h = go (eqb (field_number_value a.field) (field_number_value b.field)) refl h
  where
    go : (t : Bool) → eqb (field_number_value a.field) (field_number_value b.field) ≡ t → cond t (ltb a.offset b.offset) (ltb (field_number_value a.field) (field_number_value b.field)) ≡ true → Earlier a b
    go true q z = inr (field_same a.field b.field (borrow.Author.Tests.eqb-true (field_number_value a.field) (field_number_value b.field) q), ltb-true a.offset b.offset z)
    go false q z = inl (let y = ltb-true (field_number_value a.field) (field_number_value b.field) z in let p = field_turn a.field in let r = field_turn b.field in omega arith)

same_truth : (x y : Bool) → (x ≡ true → y ≡ true) → (y ≡ true → x ≡ true) → x ≡ y
same_truth true true f g = refl
same_truth true false f g = sym (f refl)
same_truth false true f g = g refl
same_truth false false f g = refl

-- of two codes, by what is answered for them
pub order_is : (m : List ℕ) (a : IsAccepted m) (c e : ℕ) → (c ≡ e → ⊥)
    → before_by (plain_answer (answer_for e a.options)) (plain_answer (answer_for c a.options)) ≡ out_of_order_value c e a.options
order_is m a c e n = same_truth _ _ to from
  where
    os : List Opt
    os = a.options

    two : (ps qs : List Opt) → pieces e os ≡ ps → pieces c os ≡ qs → before_by (plain_answer (shown kinds every_code e ps)) (plain_answer (shown kinds every_code c qs)) ≡ true → out_of_order_value c e os ≡ true
    two [] qs p q h = clash (cc)
    two (o ∷ ps) [] p q h = by (eqb (field_number_value o.field) 0) h
      where
        by : (t : Bool) → cond t false false ≡ true → out_of_order_value c e os ≡ true
        by true z = clash (cc)
        by false z = clash (cc)
    two (o ∷ ps) (x ∷ qs) p q h =
        two_order c e n (pieces_first e os o ps p) (pieces_first c os x qs q) (in_order m os a.reads)
        (by_earlier o x (ap₂ (λ (s t : Bool). cond s false (cond t false (earlier_by o x))) (sym (field_there o.field)) (sym (field_there x.field)) ∙ h))

    to : before_by (plain_answer (answer_for e os)) (plain_answer (answer_for c os)) ≡ true → out_of_order_value c e os ≡ true
    to h = two (pieces e os) (pieces c os) refl refl h

    from : out_of_order_value c e os ≡ true → before_by (plain_answer (answer_for e os)) (plain_answer (answer_for c os)) ≡ true
    from h =
        let t = order_two c e os h in
        let p = first_pieces t.2 in
        let q = first_pieces t.3 in
        let z : earlier_by t.0 t.1 ≡ true = earlier_by_lem t.0 t.1 (in_order m os a.reads t.0 t.1 t.4) in
        ap₂ (λ (ps qs : List Opt). before_by (plain_answer (shown kinds every_code e ps)) (plain_answer (shown kinds every_code c qs))) p.1 q.1
        ∙ ap₂ (λ (s r : Bool). cond s false (cond r false (earlier_by t.0 t.1))) (field_there t.0.field) (field_there t.1.field)
        ∙ z

-- ---- All of it

abbrev pub bits : Bool → Bool → Bool → Bool → Bool → Bool → Bool → Bool → ℕ
bits a b c d e f g h = bit_if a 1 + bit_if b 2 + bit_if c 4 + bit_if d 8 + bit_if e 16 + bit_if f 32 + bit_if g 64 + bit_if h 128

bit_times : (b : Bool) (n : ℕ) → bit_if b n ≡ n * cond b 1 0
bit_times true n = omega arith
bit_times false n = omega arith

set_is : (os : List Opt) → broken_set os reply_rules
    ≡ bits (not (is_formed (answer_for 51 os))) (not (is_formed (answer_for 54 os))) (any_piece (pieces 50 os)) (any_piece (pieces 55 os)) (any_piece (pieces 57 os)) (not (is_formed (answer_for 1 os)))
    (not (is_formed (answer_for 3 os))) (out_of_order_value 1 3 os)
unfolding broken_set
set_is os =
    sum (not (is_formed (answer_for 51 os))) (not (is_formed (answer_for 54 os))) (any_piece (pieces 50 os)) (any_piece (pieces 55 os)) (any_piece (pieces 57 os)) (not (is_formed (answer_for 1 os)))
    (not (is_formed (answer_for 3 os))) (out_of_order_value 1 3 os)
  where
    one : Bool → ℕ
    one b = cond b 1 0

    sum : (a b c d e f g h : Bool)
        → cond a 1 0 + 2 * (cond b 1 0 + 2 * (cond c 1 0 + 2 * (cond d 1 0 + 2 * (cond e 1 0 + 2 * (cond f 1 0 + 2 * (cond g 1 0 + 2 * (cond h 1 0 + 2 * 0))))))) ≡ bits a b c d e f g h
    sum a b c d e f g h = omega (arith, bit_times a 1, bit_times b 2, bit_times c 4, bit_times d 8, bit_times e 16, bit_times f 32, bit_times g 64, bit_times h 128)

plain_set : (s : ℕ) → plain_profile (yes_or s) ≡ record { broken = s; refusal = 0; place = 0 }
plain_set zero = refl
plain_set (suc s) = refl

module _ (m index : List ℕ) (b : BuiltFrom m index) where
  abbrev os : List Opt
  os = b.is_accepted.options

  -- what is looked up
  abbrev got : ℕ → Answer
  got c = lookup_by kinds (marked every) m index c

  is : (c : ℕ) → 1 ≤ c → c ≤ 254 → marked every c ≡ true → got c ≡ answer_for c os
  is c l u e = looked m index b c l u e

  pub no_reply : reply_by (plain_answer (got 53)) ≡ false → record { broken = 0; refusal = 25; place = 0 } ≡ plain_profile (profile_of os)
  unfolding profile_of
  no_reply h =
      let e : is_type (shown_number (answer_for 53 os)) ≡ false = sym (reply_is (pieces 53 os)) ∙ ap (λ (x : Answer). reply_by (plain_answer x)) (sym (is 53 (omega arith) (omega arith) refl)) ∙ h in
      ap (λ (t : Bool). plain_profile (cond t (yes_or (broken_set os reply_rules)) (declined 25 0))) (sym e)

  form : (c : ℕ) → 1 ≤ c → c ≤ 254 → marked every c ≡ true → formed_by (plain_answer (got c)) ≡ is_formed (answer_for c os)
  form c l u e = ap (λ (x : Answer). formed_by (plain_answer x)) (is c l u e) ∙ formed_is (answer_for c os)

  any : (c : ℕ) → 1 ≤ c → c ≤ 254 → marked every c ≡ true → there_by (plain_answer (got c)) ≡ any_piece (pieces c os)
  any c l u e = ap (λ (x : Answer). there_by (plain_answer x)) (is c l u e) ∙ there_is c (pieces c os)

  order : before_by (plain_answer (got 3)) (plain_answer (got 1)) ≡ out_of_order_value 1 3 os
  order =
      ap₂ (λ (x y : Answer). before_by (plain_answer x) (plain_answer y)) (is 3 (omega arith) (omega arith) refl) (is 1 (omega arith) (omega arith) refl)
      ∙ order_is m b.is_accepted 1 3 (λ z. absurd (omega arith))

  pub rules_judged : reply_by (plain_answer (got 53)) ≡ true
      → record {
        broken = bits (not (formed_by (plain_answer (got 51)))) (not (formed_by (plain_answer (got 54)))) (there_by (plain_answer (got 50))) (there_by (plain_answer (got 55))) (there_by (plain_answer (got 57)))
            (not (formed_by (plain_answer (got 1)))) (not (formed_by (plain_answer (got 3)))) (before_by (plain_answer (got 3)) (plain_answer (got 1)));
        refusal = 0;
        place = 0;
      } ≡ plain_profile (profile_of os)
  unfolding profile_of
  rules_judged h =
      let e : is_type (shown_number (answer_for 53 os)) ≡ true = sym (reply_is (pieces 53 os)) ∙ ap (λ (x : Answer). reply_by (plain_answer x)) (sym (is 53 (omega arith) (omega arith) refl)) ∙ h in
      ap (λ (n : ℕ). record { broken = n; refusal = 0; place = 0 })
      (rw (form 51 (omega arith) (omega arith) refl, form 54 (omega arith) (omega arith) refl, any 50 (omega arith) (omega arith) refl, any 55 (omega arith) (omega arith) refl, any 57 (omega arith) (omega arith) refl, form 1 (omega arith) (omega arith) refl, form 3 (omega arith) (omega arith) refl, order)
      (sym (set_is os)))
      ∙ sym (plain_set (broken_set os reply_rules))
      ∙ ap (λ (t : Bool). plain_profile (cond t (yes_or (broken_set os reply_rules)) (declined 25 0))) (sym e)
