-- What the writers give, by the verdict on the sheet. Assumes nothing.
use mathlib.Core.Path.{◌≡◌, refl, sym, ap, ap₂, ◌∙◌, subst}
use mathlib.Core.Bool.{Bool, true, false, cond}
use mathlib.Core.List.{List, [], ◌∷◌, ◌++◌}
use Prim.Native.Nat.{ℕ, ◌+◌, ◌≤◌, ◌<◌}
use native.Mathlib.Omega.{arith}
use lib.ListN.{length, drop}
use lib.Dec.{ltb}
use borrow.Author.Tests.{lt-ltb, le-ltb, ltb-false}
use Rattle.options.specs.Message.{Rec}
use Rattle.options.specs.Reading.{either}
use Rattle.options.specs.Answers.{record_bytes, given, unfilled, Filled}
use Rattle.options.specs.SheetWalk.{records_from, records_left, AllShort, Whole, Sheet, sound, faulty}
use Rattle.options.specs.Writing.{option_bytes}
use Rattle.options.specs.Vendor.{sheet_given, vendor_write_value}
use Rattle.options.specs.Relay.{relay_given, relay_sheet, relay_write_value}
use Rattle.theorems.proofs.View.{clash}
use Rattle.writing_theorems.proofs.SheetLaws.{neither, passes, sound_records, sound_uncut}
use Rattle.writing_theorems.proofs.SheetView.{reads}
use Rattle.writing_theorems.proofs.SheetSteps.{read_to_end}
use Rattle.buffer.specs.Written.{Written}
use Rattle.buffer.proofs.Writing.{written_front}
use Rattle.filled.specs.Fill.{Fills}
use Rattle.filled.proofs.Answers.{fills_refusal, fills_unfilled}
use Rattle.std.specs.Prelude.{Ok, Err}
use Rattle.refusal.specs.declared.Refusal.{Refusal}
use Rattle.refusal.specs.declared.Rule.TheVariants.{NoRoom, BadLength, SheetTooLong}
use Rattle.refusal.specs.Refused.{number_of}
use Rattle.item_writer.specs.Judge.{Judged, sheet_of, judge_of, judged_by, write_value, AllBrief}
use Rattle.item_writer.proofs.Ruled.{rules_of, sheet_is, sheet_number, brief_of}

short_brief : (rs : List Rec) → AllBrief rs → AllShort rs
short_brief [] b = tt
short_brief (r ∷ rs) b = (omega (arith, b.0), short_brief rs b.1)

-- the records of a sheet that is not refused
sound_as : (b : Bool) (s : List ℕ) (rs : List Rec) → sheet_of b s ≡ sound rs → (records_left s 0 ≡ rs) × AllBrief rs × Whole s 0
unfolding records_left
sound_as b s rs e =
    let q = sym (sheet_is b s) ∙ e in
    let is : records_left s 0 ≡ rs = sound_records (rules_of b) [] (records_from 0 0 s) rs q in
    let a : AllBrief rs = brief_of b (passes (rules_of b) [] (records_from 0 0 s) rs q) in
    let n : 0 + length (record_bytes (records_left s 0)) ≡ length s = read_to_end (reads s) (sound_uncut (rules_of b) [] (records_from 0 0 s) rs q) (omega arith) in
    (is, a, record { to_end = n; short = subst AllShort (sym is) (short_brief rs a) })

pub record Sound (b : Bool) (s : List ℕ) (total : ℕ) : Type 0 where
  pub reads : sheet_of b s ≡ sound (records_left s 0)
  pub total_is : total ≡ length (option_bytes (records_left s 0))
  pub brief : AllBrief (records_left s 0)
  pub left : Whole s 0

pub is_sound : (b : Bool) (s : List ℕ) (total : ℕ) → judged_by (Ok total) ≡ judge_of (sheet_of b s) → Sound b s total
is_sound b s total e = go (sheet_of b s) refl
  where
    go : (x : Sheet) → sheet_of b s ≡ x → Sound b s total
    go (faulty n p) q = absurd (sheet_number b s n p q (sym (ap (λ (x : Judged). x.number) (e ∙ ap judge_of q))))
    go (sound rs) q =
        let t = sound_as b s rs q in
        record {
          reads = q ∙ ap sound (sym t.0);
          total_is = ap (λ (x : Judged). x.total) (e ∙ ap judge_of q) ∙ ap (λ (l : List Rec). length (option_bytes l)) (sym t.0);
          brief = subst AllBrief (sym t.0) t.1;
          left = t.2;
        }

-- ---- What is given, by the verdict

module _ (b : Bool) (s out : List ℕ) where
  pub fills_16 : (r : Refusal) → r ≡ record { rule = SheetTooLong; place = length s } → 4096 < length s → Fills (write_value b s out) (Err r) out
  fills_16 r q h = fills_unfilled (write_value b s out) r SheetTooLong (length s) out q (rw (lt-ltb 4096 (length s) h) refl)

  module _ (l : length s ≤ 4096) where
    given_is : write_value b s out ≡ sheet_given (sheet_of b s) out
    given_is = rw (le-ltb 4096 (length s) l) refl

    pub fills_record : (r : Refusal) → judged_by (Err r) ≡ judge_of (sheet_of b s) → (number_of r.rule ≡ 0 → ⊥) → Fills (write_value b s out) (Err r) out
    fills_record r e h = fills_refusal (write_value b s out) r out (given_is ∙ go (sheet_of b s) e)
      where
        go : (x : Sheet) → judged_by (Err r) ≡ judge_of x → sheet_given x out ≡ unfilled (number_of r.rule) r.place out
        go (faulty n p) q = ap₂ (λ (k i : ℕ). unfilled k i out) (sym (ap (λ (x : Judged). x.number) q)) (sym (ap (λ (x : Judged). x.place) q))
        go (sound rs) q = absurd (h (ap (λ (x : Judged). x.number) q))

    module _ (total : ℕ) (v : Sound b s total) where
      -- the tests of the room
      by : (x y : Bool) → ltb 255 total ≡ x → ltb (length out) total ≡ y
          → write_value b s out ≡ cond x (unfilled 11 (length out) out) (cond y (unfilled 11 (length out) out) (record { answer = given (length (option_bytes (records_left s 0))); buffer = option_bytes (records_left s 0) ++ drop (length (option_bytes (records_left s 0))) out }))
      by x y p q = given_is ∙ rw (v.reads, ← v.total_is, p, q) refl

      pub fills_11 : (r : Refusal) → r ≡ record { rule = NoRoom; place = length out } → either (ltb 255 total) (ltb (length out) total) ≡ true → Fills (write_value b s out) (Err r) out
      fills_11 r e h = fills_unfilled (write_value b s out) r NoRoom (length out) out e (go (ltb 255 total) (ltb (length out) total) refl refl h)
        where
          go : (x y : Bool) → ltb 255 total ≡ x → ltb (length out) total ≡ y → either x y ≡ true → write_value b s out ≡ unfilled 11 (length out) out
          go true y p q z = by true y p q
          go false true p q z = by false true p q
          go false false p q z = clash (cc)

      pub fills_given : either (ltb 255 total) (ltb (length out) total) ≡ false → (r : ℕ) (after : List ℕ) → Written out 0 (option_bytes (records_left s 0)) r after → Fills (write_value b s out) (Ok r) after
      fills_given h r after p =
          let n = neither (ltb 255 total) (ltb (length out) total) h in
          let q = written_front p in
          rw (by false false n.0 n.1, q.0, q.1) (record { answer = refl; buffer = refl })

      pub room_in : either (ltb 255 total) (ltb (length out) total) ≡ false → length (option_bytes (records_left s 0)) ≤ length out
      room_in h = omega (arith, v.total_is, ltb-false (length out) total (neither (ltb 255 total) (ltb (length out) total) h).1)

-- ---- Vendor information

pub vendor_is : (s out : List ℕ) → vendor_write_value s out ≡ write_value true s out
unfolding vendor_write_value
vendor_is s out = refl

-- ---- Relay information

-- no sub-options at all
pub relay_8 : (s out : List ℕ) (r : Refusal) → r ≡ record { rule = BadLength; place = 0 } → length s ≡ 0 → Fills (relay_write_value s out) (Err r) out
unfolding relay_write_value relay_sheet
relay_8 [] out r q e = fills_unfilled (relay_write_value [] out) r BadLength 0 out q refl
relay_8 (x ∷ s) out r q e = absurd (omega arith)

-- a sheet that is not empty has a record
some_given : (s out : List ℕ) → (length s ≡ 0 → ⊥) → relay_given (sheet_of false s) out ≡ sheet_given (sheet_of false s) out
unfolding record_bytes
some_given s out h = go (sheet_of false s) refl
  where
    none : (length (record_bytes (records_left s 0)) ≡ length s) → records_left s 0 ≡ [] → length s ≡ 0
    none q z = sym q ∙ ap (λ (l : List Rec). length (record_bytes l)) z ∙ refl

    go : (x : Sheet) → sheet_of false s ≡ x → relay_given x out ≡ sheet_given x out
    go (faulty n p) q = refl
    go (sound []) q = let t = sound_as false s [] q in absurd (h (none (omega (arith, t.2.to_end)) t.0))
    go (sound (r ∷ rs)) q = refl

pub relay_is : (s out : List ℕ) → (length s ≡ 0 → ⊥) → relay_write_value s out ≡ write_value false s out
unfolding relay_write_value
relay_is s out some = ap (λ (w : Filled). cond (ltb 4096 (length s)) (unfilled 16 (length s) out) w) (some_given s out some)
