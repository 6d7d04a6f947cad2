-- Demand 1 of the calls that fill no buffer, and of the writer. Assumes nothing.
use mathlib.Core.Path.{◌≡◌, refl, sym, ap, ap₂, ◌∙◌}
use mathlib.Core.Bool.{Bool, true, false, cond}
use mathlib.Core.List.{List}
use mathlib.Core.Logic.{◌⊎◌, inl, inr}
use Prim.Native.Nat.{ℕ, ◌≤◌}
use native.Mathlib.Omega.{arith}
use Rattle.options.specs.Kinds.{kinds, broken, number, part}
use Rattle.options.specs.KindClaims.{AllBytes}
use Rattle.options.specs.Refusals.{First}
use Rattle.options.specs.Reading.{Reading, accepted, refused, read_message}
use Rattle.options.specs.Answers.{Answer, Absent, Refused, Found, unknown, known, code_place, lookup, no_code, Extent, no_extent, data_in_value, data_of, text_in_value, text_of, Verdict, passed, refused_with, present_in, present}
use Rattle.options.specs.ReadingClaims.{GivesNumber, refuses, breaks, ReaderRow, row_10, of_message, LookupRow, of_reader, row_8_9}
use Rattle.options.specs.Index.{lookup_by}
use Rattle.options.specs.Writing.{Wrote, wrote, declined, writer, buffer_after}
use Rattle.options.specs.Grouped.{check}
use Rattle.theorems.proofs.View.{clash}
use Rattle.theorems.proofs.KindRules.{broken_8_or_9}
use Rattle.theorems.proofs.Reading.{refused_by_the_table}
use Rattle.theorems.proofs.Lookup.{lookup_refused_by_the_table, lookup_is_correct}
use Rattle.theorems.proofs.Indexes.{answers_by_the_words}
use Rattle.writing_theorems.proofs.Declined.{declined_iff}
use Rattle.writing_theorems.proofs.Room.{eleven_is_no_room, plan_is_lowest}
use Rattle.grouped_theorems.proofs.Rows.{check_is_correct}
use Rattle.present.proofs.Kept.{refused_by_a_number}
use Rattle.plan.proofs.Numbers.{refusals_are_numbered}
use Rattle.groups.specs.Check.{plain_checked}
use Rattle.groups.proofs.Numbers.{check_kept}
use Rattle.dhcpopt_reader.specs.Plain.{plain_answer, plain_extent, plain_codes}
use Rattle.dhcpopt_writer.specs.Plain.{plain_wrote}
use Rattle.c_theorems.specs.Refusals as said
use Rattle.c_theorems.specs.Refusals.{Says, LookupRefusedForC, IndexLookupRefusedForC, DataRefusedForC, TextRefusedForC, PresentRefusedBy, PresentRefusedForC, WriteRefusedBy, WriteRefusedForC, RoomTold, NoRoomForC, CheckRefusedBy, CheckRefusedForC}

-- ---- A lookup

-- status 2 is a refusal, with its number and place
pub is_refused : (a : Answer) (n p : ℕ) → (plain_answer a).status ≡ 2 → (plain_answer a).refusal ≡ n → (plain_answer a).place ≡ p → a ≡ Refused n p
is_refused Absent n p s e f = absurd (omega arith)
is_refused (Refused k q) n p s e f = ap₂ Refused e f
is_refused (Found g (unknown k)) n p s e f = absurd (omega arith)
is_refused (Found g (known (broken k))) n p s e f = absurd (omega arith)
is_refused (Found g (known (number k z))) n p s e f = absurd (omega arith)
is_refused (Found g (known (part k j))) n p s e f = absurd (omega arith)

refusal_told : (a : Answer) (n p : ℕ) → a ≡ Refused n p → ((plain_answer a).status ≡ 2) × ((plain_answer a).refusal ≡ n) × ((plain_answer a).place ≡ p)
refusal_told a n p e = rw e (refl, refl, refl)

gives : (a : Answer) (n p : ℕ) → Says (plain_answer a).refusal (plain_answer a).place n p → GivesNumber a n p
gives Absent n p s = absurd (s.0 (sym s.1))
gives (Refused k q) n p s = let i : k ≡ n = s.1 in let j : q ≡ p = s.2 in rw (i, j) refuses
gives (Found g (unknown k)) n p s = absurd (s.0 (sym s.1))
gives (Found g (known (broken k))) n p s = let i : n ≡ k = sym s.1 in let j : p ≡ code_place g = sym s.2 in rw (i, j) breaks
gives (Found g (known (number k z))) n p s = absurd (s.0 (sym s.1))
gives (Found g (known (part k j))) n p s = absurd (s.0 (sym s.1))

given_told : {a : Answer} {n p : ℕ} → GivesNumber a n p → ((plain_answer a).refusal ≡ n) × ((plain_answer a).place ≡ p)
given_told refuses = (refl, refl)
given_told breaks = (refl, refl)

reader_numbered : {m : List ℕ} {c n p : ℕ} → ReaderRow m c n p → n ≡ 0 → ⊥
reader_numbered (row_10 x) e = omega arith
reader_numbered {m = m} {n = n} {p = p} (of_message l u f) e = omega (arith, refused_by_a_number m n p ((refused_by_the_table m n p).1 f))

lookup_numbered : {set : ℕ → Bool} {m : List ℕ} {c n p : ℕ} → LookupRow kinds set m c n p → n ≡ 0 → ⊥
lookup_numbered (of_reader x) e = reader_numbered x e
lookup_numbered {c = c} (row_8_9 {n = n} a k x y) e = go (broken_8_or_9 c _ n y)
  where
    go : (n ≡ 8) ⊎ (n ≡ 9) → ⊥
    go (inl z) = omega arith
    go (inr z) = omega arith

pub lookup_refused : LookupRefusedForC
lookup_refused k0 k1 k2 k3 m c r h e =
    let set : ℕ → Bool = said.known k0 k1 k2 k3 in
    let a : Answer = lookup kinds set m c in
    rw e
    (record {
      refused = λ n p. ((λ s. (lookup_is_correct kinds set m c (Refused n p) h).0 (is_refused a n p s.0 s.1 s.2)), (λ x. refusal_told a n p ((lookup_is_correct kinds set m c (Refused n p) h).1 x)));
      numbered = λ n p. (
        (λ s. (lookup_refused_by_the_table kinds set m c n p h).0 (gives a n p s)),
        (λ x. let g = given_told ((lookup_refused_by_the_table kinds set m c n p h).1 x) in (lookup_numbered x, g.0, g.1)),
      );
    })

pub index_lookup_refused : IndexLookupRefusedForC
index_lookup_refused k0 k1 k2 k3 m idx c r h e n p =
    let set : ℕ → Bool = said.known k0 k1 k2 k3 in
    let a : Answer = lookup_by kinds set m idx c in
    rw e
    ((λ s. (answers_by_the_words kinds set m idx c (Refused n p) h).0 (is_refused a n p s.0 s.1 s.2)), (λ x. refusal_told a n p ((answers_by_the_words kinds set m idx c (Refused n p) h).1 x)))

-- ---- Data and text

either_none : (b : Bool) (e : Extent) → e ≡ no_extent → cond b no_extent e ≡ no_extent
either_none true e x = refl
either_none false e x = x

no_data : (m : List ℕ) (c n p : ℕ) → ReaderRow m c n p → data_of m c ≡ no_extent
unfolding data_of
no_data m c n p (row_10 (inl x)) = rw x
no_data m c n p (row_10 (inr x)) = rw x
no_data m c n p (of_message l u f) = either_none (no_code c) (data_in_value c (read_message m)) (ap (data_in_value c) ((refused_by_the_table m n p).1 f))

pub data_refused : DataRefusedForC
data_refused m c r e n p x = rw (e, no_data m c n p x) (refl, refl)

pub text_refused : TextRefusedForC
unfolding text_of
text_refused k0 k1 k2 k3 m c r h e n p x =
    rw (e, (lookup_is_correct kinds (said.known k0 k1 k2 k3) m c (Refused n p) h).1 x) (refl, refl)

-- ---- The codes present

present_by : (m : List ℕ) (w : Reading) → read_message m ≡ w → PresentRefusedBy m (plain_codes (present_in w))
present_by m (accepted os) e =
    record {
      by_rows = λ n p. ((λ s. absurd (s.0 (sym s.1))), (λ x. let z : accepted os ≡ refused n p = sym e ∙ (refused_by_the_table m n p).1 x in clash (cc)));
      zeros = λ h. absurd (h refl);
      else_no_place = λ h. refl;
    }
present_by m (refused k q) e =
    record {
      by_rows = λ n p. (
        (λ s. (refused_by_the_table m n p).0 (e ∙ ap₂ refused s.1 s.2)),
        (λ x. let y : read_message m ≡ refused n p = (refused_by_the_table m n p).1 x in let z : refused k q ≡ refused n p = sym e ∙ y in let i : k ≡ n = cc in let j : q ≡ p = cc in ((λ o. omega (arith, refused_by_a_number m n p y)), i, j)),
      );
      zeros = λ h. (refl, refl, refl);
      else_no_place = λ h. absurd (omega (arith, refused_by_a_number m k q e));
    }

pub present_refused : PresentRefusedForC
unfolding present
present_refused m r e = rw e (present_by m (read_message m) refl)

-- ---- The writer

write_by : (s m : List ℕ) (permission : ℕ) → AllBytes s → (x : Wrote) → writer kinds s m permission ≡ x → WriteRefusedBy s m permission (plain_wrote x) (buffer_after m x)
write_by s m permission all (wrote plan w) e =
    record {
      by_rows = λ n p. ((λ y. absurd (y.0 (sym y.1))), (λ x. let z : wrote plan w ≡ declined n p = sym e ∙ (declined_iff kinds s m permission n p all).1 x in clash (cc)));
      as_it_was = λ h. absurd (h refl);
      else_no_place = λ h. refl;
    }
write_by s m permission all (declined k q) e =
    record {
      by_rows = λ n p. (
        (λ y. (declined_iff kinds s m permission n p all).0 (e ∙ ap₂ declined y.1 y.2)),
        (λ x. let y : writer kinds s m permission ≡ declined n p = (declined_iff kinds s m permission n p all).1 x in let z : declined k q ≡ declined n p = sym e ∙ y in let i : k ≡ n = cc in let j : q ≡ p = cc in (refusals_are_numbered s m permission n p y, i, j)),
      );
      as_it_was = λ h. (refl, refl);
      else_no_place = λ h. absurd (refusals_are_numbered s m permission k q e h);
    }

pub write_refused : WriteRefusedForC
write_refused s m permission r after all c = rw (c.0, c.1) (write_by s m permission all (writer kinds s m permission) refl)

-- no room, and the lowest plan
room_by : (s m : List ℕ) (permission : ℕ) → AllBytes s → (x : Wrote) → writer kinds s m permission ≡ x → RoomTold s m permission (plain_wrote x)
room_by s m permission all (wrote plan w) e =
    record {
      no_room = λ p. ((λ y. absurd (omega (arith, y.1))), (λ x. let z : wrote plan w ≡ declined 11 p = sym e ∙ (eleven_is_no_room s m permission p all).1 x in clash (cc)));
      lowest = λ q. (
        (λ y. (plan_is_lowest kinds s m permission q all).0 (w, e ∙ ap (λ (k : ℕ). wrote k w) y.1)),
        (λ x. let y = (plan_is_lowest kinds s m permission q all).1 x in let z : wrote plan w ≡ wrote q y.0 = sym e ∙ y.1 in let i : plan ≡ q = cc in (refl, i)),
      );
    }
room_by s m permission all (declined k q) e =
    record {
      no_room = λ p. (
        (λ y. (eleven_is_no_room s m permission p all).0 (e ∙ ap₂ declined y.1 y.2)),
        (λ x. let z : declined k q ≡ declined 11 p = sym e ∙ (eleven_is_no_room s m permission p all).1 x in let i : k ≡ 11 = cc in let j : q ≡ p = cc in ((λ o. omega arith), i, j)),
      );
      lowest = λ n. (
        (λ y. absurd (refusals_are_numbered s m permission k q e y.0)),
        (λ x. let y = (plan_is_lowest kinds s m permission n all).1 x in let z : declined k q ≡ wrote n y.0 = sym e ∙ y.1 in clash (cc)),
      );
    }

pub no_room_for_c : NoRoomForC
no_room_for_c s m permission r all e = rw e (room_by s m permission all (writer kinds s m permission) refl)

-- ---- The check of a grouped file

check_by : (f : List ℕ) → AllBytes f → (v : Verdict) → check f ≡ v → CheckRefusedBy f (plain_checked v)
check_by f all passed e =
    record {
      by_rows = λ n p. ((λ s. absurd (s.0 (sym s.1))), (λ x. let z : passed ≡ refused_with n p = sym e ∙ (check_is_correct f (refused_with n p) all).1 x in clash (cc)));
      else_no_place = λ h. refl;
    }
check_by f all (refused_with k q) e =
    record {
      by_rows = λ n p. (
        (λ s. (check_is_correct f (refused_with n p) all).0 (e ∙ ap₂ refused_with s.1 s.2)),
        (λ x. let y : check f ≡ refused_with n p = (check_is_correct f (refused_with n p) all).1 x in let z : refused_with k q ≡ refused_with n p = sym e ∙ y in let i : k ≡ n = cc in let j : q ≡ p = cc in (check_kept f n p all y, i, j)),
      );
      else_no_place = λ h. absurd (check_kept f k q all e h);
    }

pub check_refused : CheckRefusedForC
check_refused f r all e = rw e (check_by f all (check f) refl)
