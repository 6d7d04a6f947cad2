-- The answer of the definition is right, and no other is. Assumes nothing.
use mathlib.Core.Path.{◌≡◌, refl, sym, ap, ◌∙◌, subst}
use mathlib.Core.List.{List, [], ◌∷◌}
use mathlib.Core.Bool.{Bool, true, false, cond, not}
use mathlib.Core.Option.{Option, none, some}
use mathlib.Core.Logic.{◌⊎◌, inl, inr, ◌↔◌}
use Prim.Native.Nat.{ℕ, zero, suc, ◌<◌}
use native.Mathlib.Omega.{arith}
use lib.IntN.{pos, negsuc}
use lib.ListN.{length, drop}
use borrow.Author.Tests.{not-true}
use Rattle.options.specs.Message.{Opt, Holds, PiecesOf, end_to_end}
use Rattle.options.specs.Reading.{Reading, accepted, refused, read_message, pieces}
use Rattle.options.specs.Kinds.{Kind, Value, broken, number, part, kinds}
use Rattle.options.specs.CodeSet.{bit}
use Rattle.options.specs.KindClaims.{BitSet}
use Rattle.theorems.proofs.Bits.{bit_set}
use Rattle.options.specs.Answers.{Origin, unknown, known, Answer, Absent, Refused, Found, origin_of, shown, every_code, shown_number}
use Rattle.options.specs.ReadingClaims.{IsAccepted}
use Rattle.options.specs.Profile.{any_piece, is_formed, answer_for, is_type, ReplyRule, well_formed_value, missing, in_plan_order, reply_rules, breaks_rule, broken_set, Profile, trusted, distrusted, declined, yes_or, profile_of, profile_in, profile}
use Rattle.options.specs.ProfileClaims.{WellFormed, IllFormed, Breaks, of_51, of_54, of_50, of_55, of_57, of_1, of_3, of_order, Reply, ProfileIs, of_reading, row_25, trusts, distrusts, ProfileIsCorrect}
use Rattle.theorems.proofs.View.{clash}
use Rattle.theorems.proofs.Messages.{two_ways}
use Rattle.theorems.proofs.Reading.{refused_by_the_table}
use Rattle.theorems.proofs.Pieces.{pieces_right, held_iff_piece}
use Rattle.theorems.proofs.Lookup.{the_pieces}
use Rattle.profile_theorems.proofs.Sets.{set_bit, set_below, no_bits, same_bits}
use Rattle.profile_theorems.proofs.Orders.{out_of_order_read, read_out_of_order}

-- ---- What an answer shows

-- a value that is not broken
abbrev Sound : Value → Type 0
Sound v = (n : ℕ) → v ≡ broken n → ⊥

sound_formed : (g : Origin) (v : Value) → Sound v → is_formed (Found g (known v)) ≡ true
sound_formed g (broken n) h = absurd (h n refl)
sound_formed g (number k z) h = refl
sound_formed g (part k n) h = refl

formed_sound : (g : Origin) (v : Value) → is_formed (Found g (known v)) ≡ true → Sound v
formed_sound g (broken n) e = clash (cc)
formed_sound g (number k z) e = λ n q. clash (cc)
formed_sound g (part k l) e = λ n q. clash (cc)

number_value : (g : Origin) (v : Value) (n : ℕ) → shown_number (Found g (known v)) ≡ some n → (k : Kind) × (v ≡ number k (pos n))
number_value g (broken l) n e = clash (cc)
number_value g (number k (pos z)) n e = (k, ap (λ (y : ℕ). number k (pos y)) (same e))
  where
    same : some z ≡ some n → z ≡ n
    same e = cc
number_value g (number k (negsuc z)) n e = clash (cc)
number_value g (part k l) n e = clash (cc)

number_sound : (k : Kind) (n : ℕ) → Sound (number k (pos n))
number_sound k n = λ l q. clash (cc)

-- "message types 2 .. and 5"
type_is : (x : Option ℕ) → is_type x ≡ true → (n : ℕ) × (x ≡ some n) × ((n ≡ 2) ⊎ (n ≡ 5))
type_is none e = clash (cc)
type_is (some n) e = (n, refl, two_ways 2 5 n e)

below_8 : (P : ℕ → Type 0) → P 0 → P 1 → P 2 → P 3 → P 4 → P 5 → P 6 → P 7 → (i : ℕ) → i < 8 → P i
below_8 P a b c d e f g h zero l = a
below_8 P a b c d e f g h (suc zero) l = b
below_8 P a b c d e f g h (suc (suc zero)) l = c
below_8 P a b c d e f g h (suc (suc (suc zero))) l = d
below_8 P a b c d e f g h (suc (suc (suc (suc zero)))) l = e
below_8 P a b c d e f g h (suc (suc (suc (suc (suc zero))))) l = f
below_8 P a b c d e f g h (suc (suc (suc (suc (suc (suc zero)))))) l = g
below_8 P a b c d e f g h (suc (suc (suc (suc (suc (suc (suc zero))))))) l = h
below_8 P a b c d e f g h (suc (suc (suc (suc (suc (suc (suc (suc i)))))))) l = absurd (omega arith)

as_bit : (b : Bool) (x : ℕ) → x ≡ cond b 1 0 → x ≡ 1 → b ≡ true
as_bit true x e h = refl
as_bit false x e h = let z : ◌≡◌ {A = ℕ} 0 1 = sym e ∙ h in clash z

not_nil : {o : Opt} {os : List Opt} → o ∷ os ≡ [] → ⊥
not_nil e = clash (cc)

module _ (m : List ℕ) (a : IsAccepted m) where
  abbrev os : List Opt
  os = a.options

  -- ---- One code

  -- of pieces, what is answered where the code has a row
  shown_known : (c : ℕ) (o : Opt) (ps : List Opt) → kinds.row c ≡ true → shown kinds every_code c (o ∷ ps) ≡ Found (origin_of o ps) (known (kinds.value c (end_to_end (o ∷ ps))))
  shown_known c o ps r = ap (λ (b : Bool). Found (origin_of o ps) (cond b (known (kinds.value c (end_to_end (o ∷ ps)))) (unknown (length (end_to_end (o ∷ ps)))))) r

  formed_is : (c : ℕ) → is_formed (answer_for c os) ≡ true → (v : Value) × WellFormed m c v
  formed_is c h = go (pieces c os) refl h
    where
      row : (o : Opt) (ps : List Opt) → pieces c os ≡ o ∷ ps → (b : Bool) → kinds.row c ≡ b → (g : Origin)
          → is_formed (Found g (cond b (known (kinds.value c (end_to_end (o ∷ ps)))) (unknown (length (end_to_end (o ∷ ps)))))) ≡ true → (v : Value) × WellFormed m c v
      row o ps e true r g z = (
        kinds.value c (end_to_end (o ∷ ps)),
        record {
          first = o;
          others = ps;
          are_pieces = subst (PiecesOf m c) e (pieces_right m a c);
          has_row = r;
          value_is = refl;
          not_broken = formed_sound g (kinds.value c (end_to_end (o ∷ ps))) z;
        },
      )
      row o ps e false r g z = clash (cc)

      go : (ps : List Opt) → pieces c os ≡ ps → is_formed (shown kinds every_code c ps) ≡ true → (v : Value) × WellFormed m c v
      go [] e z = clash (cc)
      go (o ∷ ps) e z = row o ps e (kinds.row c) refl (origin_of o ps) z

  -- what is answered of a code that is well-formed
  answer_is : (c : ℕ) (v : Value) → WellFormed m c v → (g : Origin) × (answer_for c os ≡ Found g (known v))
  answer_is c v w =
      let s : pieces c os ≡ w.first ∷ w.others = the_pieces a w.are_pieces in
      let k = shown_known c w.first w.others w.has_row in
      (origin_of w.first w.others, ap (shown kinds every_code c) s ∙ k ∙ ap (λ (x : Value). Found (origin_of w.first w.others) (known x)) w.value_is)

  is_formed_lem : (c : ℕ) (v : Value) → WellFormed m c v → is_formed (answer_for c os) ≡ true
  is_formed_lem c v w = let k = answer_is c v w in ap is_formed k.1 ∙ sound_formed k.0 v w.not_broken

  unformed : (c : ℕ) → is_formed (answer_for c os) ≡ false → IllFormed m c
  unformed c q v w = let z : is_formed (answer_for c os) ≡ true = is_formed_lem c v w in clash (cc)

  ill_formed : (c : ℕ) → IllFormed m c → is_formed (answer_for c os) ≡ false
  ill_formed c n = go (is_formed (answer_for c os)) refl
    where
      go : (b : Bool) → is_formed (answer_for c os) ≡ b → b ≡ false
      go true q = let w = formed_is c q in absurd (n w.0 w.1)
      go false q = refl

  held_any : (c : ℕ) → Holds m c → any_piece (pieces c os) ≡ true
  held_any c h = go (pieces c os) (pieces_right m a c)
    where
      go : (ps : List Opt) → PiecesOf m c ps → any_piece ps ≡ true
      go [] p = absurd ((held_iff_piece m c [] p).0 h refl)
      go (o ∷ ps) p = refl

  any_held : (c : ℕ) → any_piece (pieces c os) ≡ true → Holds m c
  any_held c h = go (pieces c os) (pieces_right m a c) h
    where
      go : (ps : List Opt) → PiecesOf m c ps → any_piece ps ≡ true → Holds m c
      go [] p z = clash (cc)
      go (o ∷ ps) p z = (held_iff_piece m c (o ∷ ps) p).1 not_nil

  -- ---- The rules

  abbrev set : ℕ
  set = broken_set os reply_rules

  at : (i : ℕ) (x : ReplyRule) (rest : List ReplyRule) → drop i reply_rules ≡ x ∷ rest → bit set i ≡ cond (breaks_rule os x) 1 0
  at i x rest q = set_bit os reply_rules i x rest q

  broken_rule : (c : ℕ) → not (is_formed (answer_for c os)) ≡ true → IllFormed m c
  broken_rule c h = unformed c (not-true (is_formed (answer_for c os)) h)

  from_bit : (i : ℕ) → i < 8 → bit set i ≡ 1 → Breaks m i
  from_bit =
      below_8 (λ i. bit set i ≡ 1 → Breaks m i) (λ h. of_51 (broken_rule 51 (as_bit _ _ (at 0 (well_formed_value 51) _ refl) h)))
      (λ h. of_54 (broken_rule 54 (as_bit _ _ (at 1 (well_formed_value 54) _ refl) h))) (λ h. of_50 (any_held 50 (as_bit _ _ (at 2 (missing 50) _ refl) h)))
      (λ h. of_55 (any_held 55 (as_bit _ _ (at 3 (missing 55) _ refl) h))) (λ h. of_57 (any_held 57 (as_bit _ _ (at 4 (missing 57) _ refl) h)))
      (λ h. of_1 (broken_rule 1 (as_bit _ _ (at 5 (well_formed_value 1) _ refl) h))) (λ h. of_3 (broken_rule 3 (as_bit _ _ (at 6 (well_formed_value 3) _ refl) h)))
      (λ h. of_order (out_of_order_read m os a.reads 1 3 (as_bit _ _ (at 7 (in_plan_order 1 3) _ refl) h)))

  to_bit : {i : ℕ} → Breaks m i → bit set i ≡ 1
  to_bit (of_51 n) = at 0 (well_formed_value 51) _ refl ∙ ap (λ (b : Bool). cond (not b) 1 0) (ill_formed 51 n)
  to_bit (of_54 n) = at 1 (well_formed_value 54) _ refl ∙ ap (λ (b : Bool). cond (not b) 1 0) (ill_formed 54 n)
  to_bit (of_50 h) = at 2 (missing 50) _ refl ∙ ap (λ (b : Bool). cond b 1 0) (held_any 50 h)
  to_bit (of_55 h) = at 3 (missing 55) _ refl ∙ ap (λ (b : Bool). cond b 1 0) (held_any 55 h)
  to_bit (of_57 h) = at 4 (missing 57) _ refl ∙ ap (λ (b : Bool). cond b 1 0) (held_any 57 h)
  to_bit (of_1 n) = at 5 (well_formed_value 1) _ refl ∙ ap (λ (b : Bool). cond (not b) 1 0) (ill_formed 1 n)
  to_bit (of_3 n) = at 6 (well_formed_value 3) _ refl ∙ ap (λ (b : Bool). cond (not b) 1 0) (ill_formed 3 n)
  to_bit (of_order h) = at 7 (in_plan_order 1 3) _ refl ∙ ap (λ (b : Bool). cond b 1 0) (read_out_of_order m os a.reads 1 3 (λ z. absurd (omega arith)) h)

  -- ---- The message type

  reply_is : is_type (shown_number (answer_for 53 os)) ≡ true → Reply m
  reply_is h = by (type_is (shown_number (answer_for 53 os)) h)
    where
      number_form : (x : Answer) (n : ℕ) → shown_number x ≡ some n → is_formed x ≡ true
      number_form Absent n e = clash (cc)
      number_form (Refused l p) n e = clash (cc)
      number_form (Found g (unknown l)) n e = clash (cc)
      number_form (Found g (known (broken l))) n e = clash (cc)
      number_form (Found g (known (number k z))) n e = refl
      number_form (Found g (known (part k l))) n e = clash (cc)

      of : (n : ℕ) → shown_number (answer_for 53 os) ≡ some n → (k : Kind) × WellFormed m 53 (number k (pos n))
      of n e =
          let w = formed_is 53 (number_form (answer_for 53 os) n e) in
          let x = answer_is 53 w.0 w.1 in
          let v = number_value x.0 w.0 n (sym (ap shown_number x.1) ∙ e) in
          (v.0, subst (WellFormed m 53) v.1 w.1)

      by : (n : ℕ) × (shown_number (answer_for 53 os) ≡ some n) × ((n ≡ 2) ⊎ (n ≡ 5)) → Reply m
      by (n, e, inl z) = let w = of 2 (e ∙ ap some z) in record { kind = w.0; when_is_type = inl w.1 }
      by (n, e, inr z) = let w = of 5 (e ∙ ap some z) in record { kind = w.0; when_is_type = inr w.1 }

  is_reply : Reply m → is_type (shown_number (answer_for 53 os)) ≡ true
  is_reply y = by y.when_is_type
    where
      by : WellFormed m 53 (number y.kind (pos 2)) ⊎ WellFormed m 53 (number y.kind (pos 5)) → is_type (shown_number (answer_for 53 os)) ≡ true
      by (inl w) = ap (λ (x : Answer). is_type (shown_number x)) (answer_is 53 _ w).1
      by (inr w) = ap (λ (x : Answer). is_type (shown_number x)) (answer_is 53 _ w).1

  not_reply : (Reply m → ⊥) → is_type (shown_number (answer_for 53 os)) ≡ false
  not_reply n = go (is_type (shown_number (answer_for 53 os))) refl
    where
      go : (b : Bool) → is_type (shown_number (answer_for 53 os)) ≡ b → b ≡ false
      go true q = absurd (n (reply_is q))
      go false q = refl

  -- ---- The answer

  pub is_profile : profile m ≡ profile_of os
  unfolding profile
  is_profile = ap profile_in a.reads

  right_of : ProfileIs m (profile_of os)
  unfolding profile_of
  right_of = go (is_type (shown_number (answer_for 53 os))) refl
    where
      not_0 : (s : ℕ) → suc s ≡ 0 → ⊥
      not_0 s z = omega arith

      bits : (s : ℕ) → set ≡ s → Reply m → ProfileIs m (yes_or s)
      bits zero q y = trusts a y (λ i b. let z : bit set i ≡ 1 = to_bit b in let w : bit set i ≡ 0 = ap (λ (x : ℕ). bit x i) q ∙ no_bits i in absurd (omega arith))
      bits (suc s) q y =
          distrusts {s = suc s} a y (not_0 s) (let l : set < 256 = set_below os reply_rules in omega arith)
          (λ i l. ((λ z. from_bit i l (ap (λ (x : ℕ). bit x i) q ∙ (bit_set (suc s) i).1 z)), (λ b. (bit_set (suc s) i).0 (ap (λ (x : ℕ). bit x i) (sym q) ∙ to_bit b))))

      go : (b : Bool) → is_type (shown_number (answer_for 53 os)) ≡ b → ProfileIs m (cond b (yes_or set) (declined 25 0))
      go true q = bits set refl (reply_is q)
      go false q = row_25 a (λ y. let z : is_type (shown_number (answer_for 53 os)) ≡ true = is_reply y in clash (cc))

  trusted_is : Reply m → ((i : ℕ) → Breaks m i → ⊥) → profile_of os ≡ trusted
  unfolding profile_of
  trusted_is y n =
      let z : set ≡ 0 = same_bits 8 set 0 (set_below os reply_rules) (omega arith) (λ i l b. absurd (n i (from_bit i l b))) (λ i l b. let w : bit 0 i ≡ 0 = no_bits i in absurd (omega arith)) in
      rw (is_reply y, z)

  distrusted_is : (s : ℕ) → Reply m → (s ≡ 0 → ⊥) → s < 256 → ((i : ℕ) → i < 8 → BitSet s i ↔ Breaks m i) → profile_of os ≡ distrusted s
  unfolding profile_of
  distrusted_is s y n l f =
      let z : set ≡ s = same_bits 8 set s (set_below os reply_rules) l (λ i h b. (bit_set s i).1 ((f i h).1 (from_bit i h b))) (λ i h b. to_bit ((f i h).0 ((bit_set s i).0 b))) in
      rw (is_reply y, z) (go s n)
    where
      go : (s : ℕ) → (s ≡ 0 → ⊥) → yes_or s ≡ distrusted s
      go zero n = absurd (n refl)
      go (suc s) n = refl

  declined_is : (Reply m → ⊥) → profile_of os ≡ declined 25 0
  unfolding profile_of
  declined_is n = rw (not_reply n)

right : (m : List ℕ) → ProfileIs m (profile m)
unfolding profile
right m = go (read_message m) refl
  where
    go : (w : Reading) → read_message m ≡ w → ProfileIs m (profile m)
    go (refused n p) e = subst (ProfileIs m) (ap profile_in (sym e)) (of_reading ((refused_by_the_table m n p).0 e))
    go (accepted os) e = let a : IsAccepted m = record { options = os; reads = e } in subst (ProfileIs m) (sym (is_profile m a)) (right_of m a)

one_profile : (m : List ℕ) (w : Profile) → ProfileIs m w → profile m ≡ w
unfolding profile
one_profile m w (of_reading {n = n} {p = p} f) = ap profile_in ((refused_by_the_table m n p).1 f)
one_profile m w (row_25 a n) = is_profile m a ∙ declined_is m a n
one_profile m w (trusts a y n) = is_profile m a ∙ trusted_is m a y n
one_profile m w (distrusts {s = s} a y n l f) = is_profile m a ∙ distrusted_is m a s y n l f

pub profile_is_correct : ProfileIsCorrect
profile_is_correct m w = ((λ e. subst (ProfileIs m) e (right m)), one_profile m w)
