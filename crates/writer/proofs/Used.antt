-- What the answer says of the sheet and the buffer: a refusal leaves the buffer as it was, and a plan is one that fits. Assumes nothing.
use mathlib.Core.Path.{◌≡◌, refl, sym, ap, ◌∙◌}
use mathlib.Core.List.{List}
use mathlib.Core.Bool.{true}
use Prim.Native.Nat.{ℕ, ◌-◌, ◌≤◌}
use lib.ListN.{length}
use lib.Dec.{ltb}
use borrow.Author.Tests.{ltb-false, leb-true}
use Rattle.options.specs.Message.{Rec}
use Rattle.options.specs.Kinds.{kinds}
use Rattle.options.specs.SheetWalk.{Sheet, sound, faulty}
use Rattle.options.specs.Writing.{split_all, Wrote, wrote, declined, plan_fits, written, plans, sheet, in_plan_order, after_sheet, writer}
use Rattle.theorems.proofs.View.{clash}
use Rattle.writing_theorems.proofs.Demand.{passed, both}
use Rattle.writing_theorems.proofs.Writer.{used_fits}
use Rattle.writing_theorems.proofs.SheetLaws.{in_order_sound}
use Rattle.writing_theorems.proofs.SheetSteps.{whole_left}
use Rattle.writing_theorems.proofs.PieceSteps.{pieces_at_record, between_records}
use Rattle.plan.specs.Answer.{Choice, Plan, Refused, answer_of, single_of}
use Rattle.plan.proofs.Counting.{begins_single}
use Rattle.writer.specs.Fill.{least_room, pieces_at, Spot}
use Rattle.writer.specs.Writer.{Gives}

pub keeps : (s : List ℕ) (w : Wrote) (m : List ℕ) (r : Choice) (n p : ℕ) → r ≡ answer_of (single_of s) w → r ≡ Refused n p → Gives s w m (Refused n p) m
keeps s (wrote q b) m r n p a e = clash (let x : Plan q (single_of s) ≡ Refused n p = sym a ∙ e in cc)
keeps s (declined k i) m r n p a e = record { answer = sym e ∙ a; buffer = refl }

-- the sheet is whole, and plan p has room
pub record Used (s m : List ℕ) (permission p single : ℕ) : Type 0 where
  pub long : 240 ≤ length m
  pub room : least_room p ≤ length m - 240
  pub spot : Spot s single 0
  pub is : writer kinds s m permission ≡ wrote p (written p m (pieces_at s 0))
  pub answer : single ≡ single_of s

module _ (s m : List ℕ) (permission p single : ℕ) (b : List ℕ) (g : single ≡ single_of s) (e : writer kinds s m permission ≡ wrote p b) where
  has_room : (rs : List Rec) → plan_fits p (length m - 240) rs ≡ true → least_room p ≤ length m - 240
  unfolding plan_fits
  has_room rs f = leb-true (least_room p) (length m - 240) (both _ _ f).0

  by_sheet : (w : Sheet) → in_plan_order (sheet kinds s) ≡ w → 240 ≤ length m → length s ≤ 4096 → after_sheet m (plans permission) w ≡ wrote p b → Used s m permission p single
  by_sheet (faulty n i) q h few a = clash (cc)
  by_sheet (sound rs) q h few a =
      let f = used_fits m (split_all rs) (plans permission) p b a in
      let l = whole_left kinds s rs (in_order_sound (sheet kinds s) rs q) in
      record {
        long = h;
        room = has_room (split_all rs) f.0;
        spot = record { few = few; between = between_records s 0 l.1; singles = begins_single s single g };
        is = e ∙ ap (wrote p) (f.1 ∙ ap (written p m) (sym (pieces_at_record s 0 ∙ ap split_all l.0)));
        answer = g;
      }

  used_by_lem : Used s m permission p single
  unfolding writer
  used_by_lem =
      let one = passed (ltb (length m) 240) 1 (length m) _ p b e in
      let two = passed (ltb 1472 (length m)) 2 (length m) _ p b one.1 in
      let three = passed (ltb 3 permission) 15 0 _ p b two.1 in
      let four = passed (ltb 4096 (length s)) 16 (length s) _ p b three.1 in
      by_sheet (in_plan_order (sheet kinds s)) refl (ltb-false (length m) 240 one.0) (ltb-false 4096 (length s) four.0) four.1

plan_inj : (p q k j : ℕ) → Plan p k ≡ Plan q j → (p ≡ q) × (k ≡ j)
plan_inj p q k j e = (cc, cc)

pub used : (s m : List ℕ) (permission p single : ℕ) (r : Choice) → r ≡ answer_of (single_of s) (writer kinds s m permission) → r ≡ Plan p single → Used s m permission p single
used s m permission p single r a e = go (writer kinds s m permission) refl (sym e ∙ a)
  where
    go : (w : Wrote) → writer kinds s m permission ≡ w → Plan p single ≡ answer_of (single_of s) w → Used s m permission p single
    go (wrote q b) t x =
        let j = plan_inj p q single (single_of s) x in
        used_by_lem s m permission p single b j.1 (t ∙ ap (λ (k : ℕ). wrote k b) (sym j.0))
    go (declined n i) t x = clash (cc)
