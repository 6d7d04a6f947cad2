-- The rules on a sheet of items or of sub-options. Assumes nothing.
use mathlib.Core.Path.{◌≡◌, refl, ◌∙◌}
use mathlib.Core.List.{List, [], ◌∷◌}
use mathlib.Core.Bool.{Bool, true, false, cond}
use Prim.Native.Nat.{ℕ}
use native.Mathlib.Omega.{arith}
use lib.Dec.{ltb}
use lib.ListN.{length}
use borrow.Author.Tests.{ltb-false}
use Rattle.options.specs.Message.{Rec}
use Rattle.options.specs.SheetWalk.{Walk, all_read, cut_at, read_at, records_from, Sheet, sound, faulty, keep, Rule, ruled}
use Rattle.options.specs.Vendor.{vendor_rules, vendor_sheet}
use Rattle.options.specs.Relay.{relay_rules, relay_sheet}
use Rattle.theorems.proofs.View.{clash}
use Rattle.writing_theorems.proofs.SheetLaws.{Passes, p_none, p_record}
use Rattle.item_writer.specs.Judge.{sheet_of, wrong_tag_of, AllBrief}

abbrev pub rules_of : Bool → List Rule
rules_of true = vendor_rules
rules_of false = relay_rules

pub sheet_is : (b : Bool) (s : List ℕ) → sheet_of b s ≡ ruled (rules_of b) [] (records_from 0 0 s)
unfolding vendor_sheet relay_sheet
sheet_is true s = refl
sheet_is false s = refl

-- the tests at a record
pub at_record : (b : Bool) (seen : List ℕ) (i : ℕ) (r : Rec) (w : Walk)
    → ruled (rules_of b) seen (read_at i r w) ≡ cond (wrong_tag_of b r.tag) (faulty 10 i) (cond (ltb 255 (length r.body)) (faulty 13 i) (keep r (ruled (rules_of b) (r.tag ∷ seen) w)))
unfolding ruled
at_record true seen i r w = refl
at_record false seen i r w = refl

-- no refusal has the number 0
other_number : {n k p q : ℕ} → faulty k q ≡ faulty n p → (k ≡ 0 → ⊥) → n ≡ 0 → ⊥
other_number {n} {k} e h z = let y : k ≡ n = cc in h (y ∙ z)

faulty_number : (b : Bool) (seen : List ℕ) (w : Walk) (n p : ℕ) → ruled (rules_of b) seen w ≡ faulty n p → n ≡ 0 → ⊥
unfolding ruled
faulty_number b seen all_read n p e = clash (cc)
faulty_number b seen (cut_at i) n p e = other_number e (λ z. omega arith)
faulty_number b seen (read_at i r w) n p e = go (wrong_tag_of b r.tag) (ltb 255 (length r.body)) (rw (at_record b seen i r w) at e) (faulty_number b (r.tag ∷ seen) w n p)
  where
    further : (x : Sheet) → keep r x ≡ faulty n p → (x ≡ faulty n p → n ≡ 0 → ⊥) → n ≡ 0 → ⊥
    further (sound rs) q ih = clash (cc)
    further (faulty k j) q ih = ih q

    go : (x y : Bool) → cond x (faulty 10 i) (cond y (faulty 13 i) (keep r (ruled (rules_of b) (r.tag ∷ seen) w))) ≡ faulty n p
        → (ruled (rules_of b) (r.tag ∷ seen) w ≡ faulty n p → n ≡ 0 → ⊥) → n ≡ 0 → ⊥
    go true y q ih = other_number q (λ z. omega arith)
    go false true q ih = other_number q (λ z. omega arith)
    go false false q ih = further (ruled (rules_of b) (r.tag ∷ seen) w) q ih

pub sheet_number : (b : Bool) (s : List ℕ) (n p : ℕ) → sheet_of b s ≡ faulty n p → n ≡ 0 → ⊥
sheet_number b s n p e = faulty_number b [] (records_from 0 0 s) n p (rw (sheet_is b s) at e)

pub brief_of : (b : Bool) {seen : List ℕ} {w : Walk} {rs : List Rec} → Passes (rules_of b) seen w rs → AllBrief rs
brief_of b p_none = tt
brief_of true (p_record {r = r} k p) = (ltb-false 255 (length r.body) k.1.0, brief_of true p)
brief_of false (p_record {r = r} k p) = (ltb-false 255 (length r.body) k.0, brief_of false p)
