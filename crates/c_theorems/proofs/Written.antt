-- What is written and read back through the calls for C: SheetBackForC, Demand3ForC and OthersForC, proved. Assumes nothing.
use mathlib.Core.Path.{◌≡◌, refl, sym, ap, ◌∙◌, subst}
use mathlib.Core.List.{List, [], ◌∷◌}
use mathlib.Core.Bool.{Bool, true, false, cond}
use mathlib.Core.Logic.{◌⊎◌, inl, inr, ⊎_elim, ◌↔◌}
use Prim.Native.Nat.{ℕ, ◌≤◌}
use native.Mathlib.Omega.{arith}
use Rattle.options.specs.Message.{Opt}
use Rattle.options.specs.Kinds.{Table, kinds, broken, number, part}
use Rattle.options.specs.Reading.{Reading, accepted, refused, read_message, pieces}
use Rattle.options.specs.Answers.{Answer, Absent, Refused, Found, unknown, known, is_known, no_code, shown, answered, lookup, Filled}
use Rattle.options.specs.AnswerClaims.{unknown_length, part_length}
use Rattle.options.specs.Writing.{Wrote, wrote, declined, writer, buffer_after}
use Rattle.options.specs.WritingClaims.{SameButPlace, both_absent, both_found, IsKind, is_number, is_part, ReadsAsUnknown}
use Rattle.theorems.proofs.View.{clash}
use Rattle.theorems.proofs.KindRules.{kinds_proper}
use Rattle.plan.proofs.Numbers.{refusals_are_numbered}
use Rattle.writing_theorems.proofs.Demand.{sheet_comes_back, demand_3, demand_3_of_kinds}
use Rattle.filled.specs.Plain.{plain_filled}
use Rattle.dhcpopt_reader.specs.Plain.{plain_answer, plain_whole, plain_several}
use Rattle.dhcpopt_writer.specs.Plain.{plain_wrote}
use Rattle.c_theorems.specs.Refusals as said
use Rattle.c_theorems.specs.Sheets.{Accepts, SheetBackForC, SameMembers, Demand3ForC, ToldUnknown, OthersForC}
use Rattle.c_theorems.proofs.Shown.{absent_told}

-- refusal 0: written
record Done (s m : List ℕ) (permission : ℕ) (w : List ℕ) : Type 0 where
  plan : ℕ
  is : writer kinds s m permission ≡ wrote plan w

done_by : (s m : List ℕ) (permission : ℕ) (w : List ℕ) (x : Wrote) → writer kinds s m permission ≡ x → (plain_wrote x).refusal ≡ 0 → w ≡ buffer_after m x → Done s m permission w
done_by s m permission w (wrote p b) e z q = record { plan = p; is = e ∙ ap (wrote p) (sym q) }
done_by s m permission w (declined n p) e z q = absurd (refusals_are_numbered s m permission n p e z)

done : (s m : List ℕ) (permission : ℕ) (w : List ℕ) → Accepts s m permission w → Done s m permission w
done s m permission w a = done_by s m permission w (writer kinds s m permission) refl a.not_refused a.leaves

pub sheet_back_for_c : SheetBackForC
sheet_back_for_c s m old w permission r after a h c =
    let d = done s m permission w a in
    let x = sheet_comes_back kinds s m permission d.plan w old a.of_bytes d.is h in
    (c.0 ∙ ap (λ (y : Filled). plain_filled y.answer) x, c.1 ∙ ap (λ (y : Filled). y.buffer) x)

-- ---- Demand 3

-- the same but for the place, and a kind where it is not absent
members : {w w' : List ℕ} {c : ℕ} {a b : Answer} → SameButPlace w w' c a b → (a ≡ Absent) ⊎ IsKind a → SameMembers w w' c (plain_answer a) (plain_answer b)
members both_absent h =
    record { status = refl; kind = refl; refusal = (refl, refl); number = refl; place = (refl, refl); size = refl; whole = refl; several = refl; bytes = λ e. absurd (omega arith) }
members (both_found e y) (inl z) = clash (cc)
members (both_found e y) (inr is_number) =
    record { status = refl; kind = refl; refusal = (refl, refl); number = refl; place = (refl, refl); size = refl; whole = ap plain_whole e; several = ap plain_several e; bytes = λ z. absurd (omega arith) }
members (both_found e y) (inr is_part) =
    record { status = refl; kind = refl; refusal = (refl, refl); number = refl; place = (refl, refl); size = refl; whole = ap plain_whole e; several = ap plain_several e; bytes = λ z. y _ part_length }

kind_status : {a : Answer} → IsKind a → ((plain_answer a).status ≡ 3) ⊎ ((plain_answer a).status ≡ 4)
kind_status is_number = inl refl
kind_status is_part = inr refl

pub demand_3_for_c : Demand3ForC
demand_3_for_c k0 k1 k2 k3 s s' m m' w w' permission permission' acc acc' same c l u n52 k =
    let d = done s m permission w acc in
    let d' = done s' m' permission' w' acc' in
    let a : Answer = lookup kinds (said.known k0 k1 k2 k3) w c in
    let r = (demand_3_of_kinds (k0 ∷ k1 ∷ k2 ∷ k3 ∷ []) s s' m m' permission permission' d.plan d'.plan w w' acc.of_bytes acc'.of_bytes d.is d'.is same c l u n52).0 k in
    record {
      same = members r.same (⊎_elim (λ z. inl (r.absent_iff.1 z)) (λ z. inr (r.else_kind z.0 z.1)) (same c k));
      absent_iff = ((λ z. r.absent_iff.0 ((absent_told a).0 z)), (λ z. (absent_told a).1 (r.absent_iff.1 z)));
      else_kind = λ b x. kind_status (r.else_kind b x);
    }

-- ---- The other codes: what is answered of them is the same with every set that does not have them, so also with the empty one

unknown_shown : (set set' : ℕ → Bool) (c : ℕ) (os : List Opt) → is_known kinds set c ≡ false → is_known kinds set' c ≡ false → shown kinds set c os ≡ shown kinds set' c os
unknown_shown set set' c [] k k' = refl
unknown_shown set set' c (o ∷ os) k k' = rw (k, k')

unknown_answered : (set set' : ℕ → Bool) (c : ℕ) (x : Reading) → is_known kinds set c ≡ false → is_known kinds set' c ≡ false → answered kinds set c x ≡ answered kinds set' c x
unknown_answered set set' c (refused n p) k k' = refl
unknown_answered set set' c (accepted os) k k' = unknown_shown set set' c (pieces c os) k k'

abbrev none_known : ℕ → Bool
none_known c = false

unknown_alike : (set : ℕ → Bool) (m : List ℕ) (c : ℕ) → is_known kinds set c ≡ false → lookup kinds none_known m c ≡ lookup kinds set m c
unfolding lookup
unknown_alike set m c k = ap (cond (no_code c) (Refused 10 0)) (unknown_answered none_known set c (read_message m) refl k)

as_unknown : (s m w : List ℕ) (permission : ℕ) → Accepts s m permission w → (c : ℕ) → 1 ≤ c → c ≤ 254 → (c ≡ 52 → ⊥) → ReadsAsUnknown kinds none_known c s w
as_unknown s m w permission acc c l u n52 =
    let d = done s m permission w acc in
    ((demand_3 kinds kinds_proper none_known s s m m permission permission d.plan d.plan w w acc.of_bytes acc.of_bytes d.is d.is (λ b e. let z : false ≡ true = e in clash (cc)) c l u n52).1 refl).0

pub others_for_c : OthersForC
others_for_c k0 k1 k2 k3 s m w permission acc c l u n52 k =
    let set : ℕ → Bool = said.known k0 k1 k2 k3 in
    let a : Answer = lookup kinds set w c in
    let r : ReadsAsUnknown kinds set c s w = told (as_unknown s m w permission acc c l u n52) in (
      ((λ z. r.absent_iff.0 ((absent_told a).0 z)), (λ z. (absent_told a).1 (r.absent_iff.1 z))),
      (λ b x. let y = r.else_unknown b x in
          record {
            status = ap (λ (v : Answer). (plain_answer v).status) y.is;
            kind = ap (λ (v : Answer). (plain_answer v).kind) y.is;
            refusal = ap (λ (v : Answer). (plain_answer v).refusal) y.is;
            place = ap (λ (v : Answer). (plain_answer v).place) y.is;
            size = ap (λ (v : Answer). (plain_answer v).length) y.is;
            joined = y.joined;
          }),
    )
  where
    told : ReadsAsUnknown kinds none_known c s w → ReadsAsUnknown kinds (said.known k0 k1 k2 k3) c s w
    told x =
        let e = unknown_alike (said.known k0 k1 k2 k3) w c k in
        record { absent_iff = rw e at x.absent_iff; else_unknown = rw e at x.else_unknown }
