-- The loop that judges a sheet of items or of sub-options: what is left of it gives the verdict on the whole. Assumes nothing.
use mathlib.Core.Path.{◌≡◌, refl, sym, ap, ◌∙◌}
use mathlib.Core.List.{List, [], ◌∷◌}
use mathlib.Core.Bool.{Bool, true, false, cond}
use Prim.Native.Nat.{ℕ, ◌+◌, ◌≤◌}
use native.Mathlib.Omega.{arith}
use lib.Dec.{ltb}
use lib.ListN.{length, take, drop}
use Rattle.options.specs.Message.{Rec}
use Rattle.options.specs.SheetWalk.{Walk, records_from, Sheet, sound, faulty, keep, ruled}
use Rattle.options.specs.Writing.{option_bytes}
use Rattle.writing_theorems.proofs.WriterOnly.{option_takes}
use Rattle.writing_theorems.proofs.SheetView.{rec}
use Rattle.sheet.specs.Steps.{step_of, walk_by}
use Rattle.sheet.specs.declared.Step.{Step}
use Rattle.sheet.specs.declared.Step.TheVariants.{Record, Cut, End}
use Rattle.sheet.proofs.Steps.{stepped}
use Rattle.item_writer.specs.Judge.{Judged, sheet_of, wrong_tag_of, broken_rule_value, faulty_at, judge_of}
use Rattle.item_writer.proofs.Ruled.{rules_of, sheet_is, at_record}

-- the verdict, where the items before take `total` bytes
abbrev judged_from : ℕ → Sheet → Judged
judged_from total (faulty n p) = faulty_at n p
judged_from total (sound rs) = record { number = 0; place = 0; total = total + length (option_bytes rs) }

-- what the records from a place on give, behind those with the tags `seen`
abbrev left : Bool → List ℕ → List ℕ → ℕ → Sheet
left b s seen at = ruled (rules_of b) seen (records_from at 0 (drop at s))

pub record Judging (b : Bool) (s : List ℕ) (total at : ℕ) : Type 0 where
  pub seen : List ℕ
  pub at_in : at ≤ length s
  pub few : total ≤ at
  pub same : judged_from total (left b s seen at) ≡ judge_of (sheet_of b s)

none_before : (x : Sheet) → judged_from 0 x ≡ judge_of x
none_before (faulty n p) = refl
none_before (sound rs) = let z : 0 + length (option_bytes rs) ≡ length (option_bytes rs) = omega arith in rw z refl

pub begins : (b : Bool) (s : List ℕ) → Judging b s 0 0
begins b s = record { seen = []; at_in = omega arith; few = omega arith; same = none_before (ruled (rules_of b) [] (records_from 0 0 s)) ∙ sym (ap judge_of (sheet_is b s)) }

-- the step x is taken at `at`
module _ {b : Bool} {s : List ℕ} {total at : ℕ} (f : Judging b s total at) where
  gives : (x : Step) → x ≡ step_of (records_from at 0 (drop at s)) → judged_from total (ruled (rules_of b) f.seen (walk_by s at x)) ≡ judge_of (sheet_of b s)
  gives x e = sym (ap (λ (z : Walk). judged_from total (ruled (rules_of b) f.seen z)) (stepped s at x e).0) ∙ f.same

  pub ends : End ≡ step_of (records_from at 0 (drop at s)) → record { number = 0; place = 0; total = total } ≡ judge_of (sheet_of b s)
  unfolding ruled option_bytes
  ends e = let z : total + 0 ≡ total = omega arith in (rw z at (gives End e))

  pub cut_off : Cut ≡ step_of (records_from at 0 (drop at s)) → faulty_at 12 at ≡ judge_of (sheet_of b s)
  unfolding ruled
  cut_off e = gives Cut e

  -- a record with tag c and n bytes of data
  module _ (c n : ℕ) (e : Record c n ≡ step_of (records_from at 0 (drop at s))) where
    pub room : at + 3 + n ≤ length s
    room = (stepped s at (Record c n) e).1.0

    abbrev here : Rec
    here = rec c (take n (drop (at + 3) s))

    long : length here.body ≡ n
    long = (stepped s at (Record c n) e).1.1

    abbrev after : Sheet
    after = left b s (c ∷ f.seen) (at + 3 + n)

    -- the tests of the two rules
    abbrev by : Bool → Bool → Sheet
    by x y = cond x (faulty 10 at) (cond y (faulty 13 at) (keep here after))

    turn : judged_from total (by (wrong_tag_of b c) (ltb 255 n)) ≡ judge_of (sheet_of b s)
    turn = rw (at_record b f.seen at here (records_from (at + 3 + n) 0 (drop (at + 3 + n) s)), long) at (gives (Record c n) e)

    module _ (k : ℕ) (m : k ≡ broken_rule_value b c n) where
      pub refuses : (k ≡ 0 → ⊥) → faulty_at k at ≡ judge_of (sheet_of b s)
      refuses z = go (wrong_tag_of b c) (ltb 255 n) m turn
        where
          go : (x y : Bool) → k ≡ cond x 10 (cond y 13 0) → judged_from total (by x y) ≡ judge_of (sheet_of b s) → faulty_at k at ≡ judge_of (sheet_of b s)
          go true y q t = ap (λ (x : ℕ). faulty_at x at) q ∙ t
          go false true q t = ap (λ (x : ℕ). faulty_at x at) q ∙ t
          go false false q t = absurd (z q)

      more : (x : Sheet) → judged_from total (keep here x) ≡ judged_from (total + 2 + n) x
      more (faulty i p) = refl
      more (sound rs) = let q : total + length (option_bytes (here ∷ rs)) ≡ total + 2 + n + length (option_bytes rs) = omega (arith, option_takes here rs, long) in rw q refl

      pub moves : k ≡ 0 → Judging b s (total + 2 + n) (at + 3 + n)
      moves z = record { seen = c ∷ f.seen; at_in = room; few = omega (arith, f.few); same = go (wrong_tag_of b c) (ltb 255 n) m turn }
        where
          go : (x y : Bool) → k ≡ cond x 10 (cond y 13 0) → judged_from total (by x y) ≡ judge_of (sheet_of b s) → judged_from (total + 2 + n) after ≡ judge_of (sheet_of b s)
          go true y q t = absurd (omega arith)
          go false true q t = absurd (omega arith)
          go false false q t = sym (more after) ∙ t
