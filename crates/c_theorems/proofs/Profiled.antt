-- Demands 1 and 2 of the reply profile, at its call. Assumes nothing.
use mathlib.Core.Path.{◌≡◌, refl, sym, ap, ap₂, ◌∙◌, subst}
use mathlib.Core.List.{List}
use mathlib.Core.Logic.{◌⊎◌, inl, inr, ◌↔◌}
use Prim.Native.Nat.{ℕ, zero, suc, ◌<◌}
use native.Mathlib.Omega.{arith}
use Rattle.options.specs.CodeSet.{bit}
use Rattle.options.specs.KindClaims.{FromTo, BitSet}
use Rattle.options.specs.Refusals.{First}
use Rattle.options.specs.ReadingClaims.{IsAccepted}
use Rattle.options.specs.Profile.{Profile, trusted, distrusted, declined, profile}
use Rattle.options.specs.ProfileClaims as claims
use Rattle.options.specs.ProfileClaims.{Reply, Breaks, of_51, of_54, of_50, of_55, of_57, of_1, of_3, of_order, ProfileIs, trusts, distrusts}
use Rattle.theorems.proofs.View.{clash}
use Rattle.theorems.proofs.Bits.{bit_set}
use Rattle.theorems.proofs.Reading.{refused_by_the_table}
use Rattle.profile_theorems.proofs.Sets.{no_bits}
use Rattle.profile_theorems.proofs.Profiles.{profile_is_correct}
use Rattle.profile_theorems.proofs.Invariance.{same_named_same_answer}
use Rattle.dhcpopt_profile.specs.declared.PlainProfile.{PlainProfile}
use Rattle.dhcpopt_profile.specs.Plain.{plain_profile}
use Rattle.dhcpopt_profile.proofs.Kept.{profile_kept}
use Rattle.c_theorems.specs.Refusals.{ProfileRow, of_reading, row_25, ProfileRefusedBy, ProfileRefusedForC}
use Rattle.c_theorems.specs.Answers.{ProfileToldRight, ProfileForC, SameNamedForC}

-- ---- Refused

row_of_lem : {m : List ℕ} {n p : ℕ} → ProfileIs m (declined n p) → ProfileRow m n p
row_of_lem (claims.of_reading f) = of_reading f
row_of_lem (claims.row_25 a f) = row_25 a f

of_row : {m : List ℕ} {n p : ℕ} → ProfileRow m n p → ProfileIs m (declined n p)
of_row (of_reading f) = claims.of_reading f
of_row (row_25 a f) = claims.row_25 a f

numbered : (m : List ℕ) (n p : ℕ) → profile m ≡ declined n p → n ≡ 0 → ⊥
numbered m n p e z = go (profile_kept.0 m n p e)
  where
    go : FromTo 1 7 n ⊎ ((n ≡ 25) × (p ≡ 0)) → ⊥
    go (inl h) = omega (arith, h.0, z)
    go (inr h) = omega (arith, h.0, z)

refused_by : (m : List ℕ) (w : Profile) → profile m ≡ w → ProfileRefusedBy m (plain_profile w)
refused_by m trusted e =
    record {
      by_rows = λ n p. ((λ s. absurd (s.0 (sym s.1))), (λ x. let z : trusted ≡ declined n p = sym e ∙ (profile_is_correct m (declined n p)).1 (of_row x) in clash (cc)));
      no_rules = λ h. absurd (h refl);
      else_no_place = λ h. refl;
    }
refused_by m (distrusted s) e =
    record {
      by_rows = λ n p. ((λ y. absurd (y.0 (sym y.1))), (λ x. let z : distrusted s ≡ declined n p = sym e ∙ (profile_is_correct m (declined n p)).1 (of_row x) in clash (cc)));
      no_rules = λ h. absurd (h refl);
      else_no_place = λ h. refl;
    }
refused_by m (declined k q) e =
    record {
      by_rows = λ n p. (
        (λ s. row_of_lem ((profile_is_correct m (declined n p)).0 (e ∙ ap₂ declined s.1 s.2))),
        (λ x. let y : profile m ≡ declined n p = (profile_is_correct m (declined n p)).1 (of_row x) in let z : declined k q ≡ declined n p = sym e ∙ y in let i : k ≡ n = cc in let j : q ≡ p = cc in (numbered m n p y, i, j)),
      );
      no_rules = λ h. refl;
      else_no_place = λ h. absurd (numbered m k q e h);
    }

pub profile_refused : ProfileRefusedForC
profile_refused m r e = rw e (refused_by m (profile m) refl)

-- ---- Answered

unset : (i : ℕ) → BitSet 0 i → ⊥
unset i h = let z : bit 0 i ≡ 1 = (bit_set 0 i).1 h in let k : bit 0 i ≡ 0 = no_bits i in omega arith

told : (m : List ℕ) → IsAccepted m → Reply m → (w : Profile) → ProfileIs m w → ProfileToldRight m (plain_profile w)
told m a y w (claims.of_reading {n = n} {p = p} f) = let z = sym a.reads ∙ (refused_by_the_table m n p).1 f in clash (cc)
told m a y w (claims.row_25 x f) = absurd (f y)
told m a y w (trusts x z f) =
    record {
      not_refused = (refl, refl);
      eight_bits = omega arith;
      bits = λ i l. ((λ h. absurd (unset i h)), (λ b. absurd (f i b)));
    }
told m a y w (distrusts {s = s} x z n l f) = record { not_refused = (refl, refl); eight_bits = l; bits = f }

-- there is no ninth rule
below_8 : {m : List ℕ} {i : ℕ} → Breaks m i → i < 8
below_8 (of_51 n) = omega arith
below_8 (of_54 n) = omega arith
below_8 (of_50 h) = omega arith
below_8 (of_55 h) = omega arith
below_8 (of_57 h) = omega arith
below_8 (of_1 n) = omega arith
below_8 (of_3 n) = omega arith
below_8 (of_order h) = omega arith

by_members : (r : PlainProfile) (s : ℕ) → r.broken ≡ s → r.refusal ≡ 0 → r.place ≡ 0 → r ≡ record { broken = s; refusal = 0; place = 0 }
by_members r s e f g =
    ap (λ (x : ℕ). record { broken = x; refusal = r.refusal; place = r.place }) e
    ∙ ap₂ (λ (x y : ℕ). record { broken = s; refusal = x; place = y }) f g

told_back : (m : List ℕ) → IsAccepted m → Reply m → (r : PlainProfile) → ProfileToldRight m r → r ≡ plain_profile (profile m)
told_back m a y r t = go r.broken refl
  where
    go : (s : ℕ) → r.broken ≡ s → r ≡ plain_profile (profile m)
    go zero q =
        let none : (i : ℕ) → Breaks m i → ⊥ = λ i b. unset i (subst (λ (x : ℕ). BitSet x i) q ((t.bits i (below_8 b)).1 b)) in
        by_members r 0 q t.not_refused.0 t.not_refused.1 ∙ ap plain_profile (sym ((profile_is_correct m trusted).1 (trusts a y none)))
    go (suc s) q =
        let right = distrusts {s = r.broken} a y (λ z. let w : suc s ≡ 0 = sym q ∙ z in omega arith) t.eight_bits t.bits in
        by_members r r.broken refl t.not_refused.0 t.not_refused.1 ∙ ap plain_profile (sym ((profile_is_correct m (distrusted r.broken)).1 right))

pub profile_for_c : ProfileForC
profile_for_c m r a y =
    ((λ e. rw e (told m a y (profile m) ((profile_is_correct m (profile m)).0 refl))), (λ t. told_back m a y r t))

pub same_named_for_c : SameNamedForC
same_named_for_c m m' xs ys r r' a b x y e p q = p ∙ ap plain_profile (same_named_same_answer m m' xs ys a b x y e) ∙ sym q
