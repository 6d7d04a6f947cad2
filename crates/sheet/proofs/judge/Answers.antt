-- `sheet::judge` meets its contract: at each turn what is left of the sheet gives the verdict on the whole. Assumes nothing.
use borrow.Author.Rules.{rules}
use borrow.Author.Tests.{lt-ltb, le-ltb, ne_eqb}
use mathlib.Core.Path.{◌≡◌, refl, sym, ap, ◌∙◌}
use mathlib.Core.Bool.{Bool, true, false, cond, not}
use mathlib.Core.List.{List}
use Prim.Native.Nat.{ℕ, ◌+◌, ◌-◌, ◌^◌, ◌≤◌, ◌<◌, min}
use Rattle.std.specs.Prelude.{Result, Ok, Err}
use Rattle.std.specs.Result.{IsErr, IsErrAnd}
use native.Mathlib.Decide.{dec_lt}
use native.Mathlib.Omega.{arith}
use lib.Dec.{ltb}
use lib.ListN.{length, take, drop}
use Rattle.options.specs.CodeSet.{marked, with_mark}
use Rattle.options.specs.Reading.{among}
use Rattle.options.specs.SheetWalk.{records_from}
use Rattle.refusal.specs.Refused.{number_of}
use Rattle.refusal.specs.declared.Refusal.{Refusal}
use Rattle.kinds.specs.Numbers.{fault_of}
use Rattle.sheet.specs.Steps.{step_of}
use Rattle.sheet.specs.Judge.{judge_of, judged_by, faulty_at}
use Rattle.sheet.specs.Parts.{no_tags, met_number, further, lower, counted, three_after_value, one_after_value, relay_after_value}
use Rattle.sheet.specs.declared.Judged.{Judged}
use Rattle.sheet.specs.declared.Tags.{Tags}
use Rattle.sheet.specs.declared.Step.TheVariants.{Record}
use Rattle.sheet.proofs.Judging.{Judging, begins, ends, cut_off, too_long, room, refuses, moves}
use Rattle.sheet.proofs.ThreeOne.{sums}
use Rattle.sheet.proofs.judge.Goals as goal
use Rattle.sheet.proofs.judge.Goals.{then-size-gt255+else-size-gt-MOST, else-size-gt255, then-tag-gt-LAST+in_ok-relay-in-Record, else-tag-gt-LAST+in_ok-tags-in-Record}

some_number : (b : Bool) → cond {A = ℕ} b 10 7 ≡ 0 → ⊥
some_number true z = omega arith
some_number false z = omega arith

-- a record of at most 255 bytes is one piece
no_further : (t n : ℕ) → n ≤ 255 → t ≡ t + further n
no_further t n h = omega arith

least_is : (a b : ℕ) → min b a ≡ lower a b
least_is a b = go (dec_lt a b)
  where
    go : Dec (a < b) → min b a ≡ lower a b
    go (yes h) = rw (lt-ltb a b h) (omega arith)
    go (no h) = rw (le-ltb a b (omega arith)) (omega arith)

-- what putting a tag into the set says of it
met : (m b : Bool) → b ≡ not m → b ≡ false → true ≡ m
met true b e z = refl
met false b e z = sym e ∙ z

fresh : (m b : Bool) → b ≡ not m → b ≡ true → false ≡ m
fresh true b e z = sym e ∙ z
fresh false b e z = refl

-- ---- A record with tag c and n bytes of data, at `at`
module _ {s w : List ℕ} {three : ℕ} {one : Bool} {total single relay at : ℕ} (f : Judging s w three one (sums total single relay) at) {c n : ℕ} (e : Record c n ≡ step_of (records_from at 0 (drop at s))) where
  abbrev body : List ℕ
  body = take n (drop (at + 3) s)

  abbrev relay_now : ℕ
  relay_now = relay_after_value relay c (at + 1) (ltb (at + (3 + n)) (length s))

  -- a tag up to 76 is not 82
  relay_low : c ≤ 76 → relay ≡ relay_now
  relay_low h = rw (ne_eqb c 82 (λ q. omega (arith, q, h)))

  module _ (short : n ≤ 1024) (small : c < 256) where
    again : true ≡ marked w c → faulty_at (met_number c) at ≡ judge_of s
    again m = refuses f e short small (met_number c) (rw (sym m)) (some_number (among c no_tags))

    module _ (m : false ≡ marked w c) where
      refused : (r : Refusal) → (number_of r.rule ≡ fault_of c body) × ((1 ≤ fault_of c body) × (r.place ≡ at)) → faulty_at (number_of r.rule) r.place ≡ judge_of s
      refused r t = rw (t.0, t.1.1) (refuses f e short small (fault_of c body) (rw (sym m)) (λ z. omega (arith, z, t.1.0)))

      settled : fault_of c body ≡ 0
          → (w' : List ℕ) → w' ≡ with_mark w c
          → (t g : ℕ) → t ≡ total + further n → g ≡ cond (ltb 255 n) (lower at single) single
          → (three' : ℕ) (one' : Bool) (relay' : ℕ) → three' ≡ three_after_value three one c (at + 1) → one' ≡ one_after_value one c → relay' ≡ relay_now
          → Judging s w' three' one' (sums (t - 1) g relay') (at + (n + 3))
      settled z w' i t g p r three' one' relay' a b d =
          let next : at + 3 + n ≡ at + (n + 3) = omega arith in
          rw (i, p, r, a, b, d, sym next) (moves f e short small (fault_of c body) (rw (sym m)) z)

-- a tag above 76 is neither 3 nor 1
three_high : (three : ℕ) (one : Bool) (c at : ℕ) → 76 < c → three ≡ three_after_value three one c at
three_high three one c at h = rw (ne_eqb c 3 (λ q. omega (arith, q, h)))

one_high : (one : Bool) (c : ℕ) → 76 < c → one ≡ one_after_value one c
one_high one c h = rw (ne_eqb c 1 (λ q. omega (arith, q, h)))

-- what `?` hands on
told : (g : Result Judged Refusal) (r : Refusal) → IsErr g × IsErrAnd g (λ e. e ≡ r) → judged_by g ≡ faulty_at (number_of r.rule) r.place
told (Ok j) r h = absurd h.1
told (Err e) r h = rw h.1

-- ---- The answers

pub loop-tag-init : goal.loop-tag-init
loop-tag-init c = begins c.args.s.now

pub returns-in-End : goal.returns-in-End
returns-in-End c = c.in_order.ensures ∙ ends c.loop-tag.invariant c.in-End.ensures

pub returns-in-Cut : goal.returns-in-Cut
returns-in-Cut c = rw c.at.ensures (cut_off c.loop-tag.invariant c.in-Cut.ensures)

pub returns-then-size-gt-MOST : goal.returns-then-size-gt-MOST
returns-then-size-gt-MOST c = rw (c.at-then-size-gt-MOST.ensures, c.long_fault.ensures) (too_long c.loop-tag.invariant c.in-Record.ensures (omega arith))

pub overflow_add-total : goal.overflow_add-total
overflow_add-total c =
    let bound : length c.args.s.now < 2 ^ 63 = search rules in
    omega (arith, bound, room c.loop-tag.invariant c.in-Record.ensures, c.loop-tag.invariant.most, c.further-total.ensures.1)

pub returns-then-not-insert : goal.returns-then-not-insert
returns-then-not-insert c = let short : c.in-Record.size ≤ 1024 = elim c.if-size-gt255.branch [ then-size-gt255+else-size-gt-MOST w ↦ w.if-size-gt-MOST.false | else-size-gt255 w ↦ omega (arith, w.if-size-gt255.false) ] in
    rw (c.at-then-not-insert.ensures, c.met_fault.ensures) (again c.loop-tag.invariant c.in-Record.ensures short (search rules) (met _ _ c.insert.ensures.first c.if-not-insert.true))

pub high_record-requires : goal.high_record-requires
high_record-requires c = (omega arith, room c.loop-tag.invariant c.in-Record.ensures)

pub returns-in_err-relay-in-Record : goal.returns-in_err-relay-in-Record
returns-in_err-relay-in-Record c = let short : c.in-Record.size ≤ 1024 = elim c.if-size-gt255.branch [ then-size-gt255+else-size-gt-MOST w ↦ w.if-size-gt-MOST.false | else-size-gt255 w ↦ omega (arith, w.if-size-gt255.false) ] in
    let r : Refusal = c.in_err-relay-in-Record.field-0.0 in
    told _ r c.from_residual.ensures ∙ refused c.loop-tag.invariant c.in-Record.ensures short (search rules) (fresh _ _ c.insert.ensures.first c.if-not-insert.false) r c.in_err-relay-in-Record.ensures

pub low_record-requires : goal.low_record-requires
low_record-requires c = room c.loop-tag.invariant c.in-Record.ensures

pub returns-in_err-tags-in-Record : goal.returns-in_err-tags-in-Record
returns-in_err-tags-in-Record c = let short : c.in-Record.size ≤ 1024 = elim c.if-size-gt255.branch [ then-size-gt255+else-size-gt-MOST w ↦ w.if-size-gt-MOST.false | else-size-gt255 w ↦ omega (arith, w.if-size-gt255.false) ] in
    let r : Refusal = c.in_err-tags-in-Record.field-0.0 in
    told _ r c.from_residual-in_err-tags-in-Record.ensures ∙ refused c.loop-tag.invariant c.in-Record.ensures short (search rules) (fresh _ _ c.insert.ensures.first c.if-not-insert.false) r c.in_err-tags-in-Record.ensures

pub overflow_sub-total : goal.overflow_sub-total
overflow_sub-total c = let more : c.if-size-gt255.total ≡ c.loop-tag.total + further c.in-Record.size = elim c.if-size-gt255.branch [ then-size-gt255+else-size-gt-MOST w ↦ w.total-is ∙ ap (λ (k : ℕ). c.loop-tag.total + k) w.further-total.ensures.0 | else-size-gt255 w ↦ w.total-is ∙ no_further _ _ w.if-size-gt255.false ] in
    omega (arith, room c.loop-tag.invariant c.in-Record.ensures, c.loop-tag.invariant.least, more)

pub loop-tag-smaller : goal.loop-tag-smaller
loop-tag-smaller c = omega (arith, room c.loop-tag.invariant c.in-Record.ensures)

pub loop-tag-preserved : goal.loop-tag-preserved
loop-tag-preserved c = let short : c.in-Record.size ≤ 1024 = elim c.if-size-gt255.branch [ then-size-gt255+else-size-gt-MOST w ↦ w.if-size-gt-MOST.false | else-size-gt255 w ↦ omega (arith, w.if-size-gt255.false) ] in
    let more : c.if-size-gt255.total ≡ c.loop-tag.total + further c.in-Record.size = elim c.if-size-gt255.branch [ then-size-gt255+else-size-gt-MOST w ↦ w.total-is ∙ ap (λ (k : ℕ). c.loop-tag.total + k) w.further-total.ensures.0 | else-size-gt255 w ↦ w.total-is ∙ no_further _ _ w.if-size-gt255.false ] in
    let single : c.if-size-gt255.single ≡ cond (ltb 255 c.in-Record.size) (lower c.loop-tag.at c.loop-tag.single) c.loop-tag.single = elim c.if-size-gt255.branch [ then-size-gt255+else-size-gt-MOST w ↦ rw (lt-ltb 255 c.in-Record.size w.if-size-gt255.true) (w.single-is ∙ w.min-single.ensures ∙ least_is _ _) | else-size-gt255 w ↦ rw (le-ltb 255 c.in-Record.size w.if-size-gt255.false) w.single-is ] in
    elim c.if-tag-gt-LAST.branch [
      | then-tag-gt-LAST+in_ok-relay-in-Record w ↦
          settled c.loop-tag.invariant c.in-Record.ensures short (search rules) (fresh _ _ c.insert.ensures.first c.if-not-insert.false) w.in_ok-relay-in-Record.ensures.0 _ c.insert.ensures.new _ _ more single _ _ _
          (ap (λ (t : Tags). counted t.three) w.tags-is ∙ three_high _ _ _ _ w.if-tag-gt-LAST.true) (ap (λ (t : Tags). t.one) w.tags-is ∙ one_high _ _ w.if-tag-gt-LAST.true) (ap counted w.relay-is ∙ w.in_ok-relay-in-Record.ensures.1)
      | else-tag-gt-LAST+in_ok-tags-in-Record w ↦
          settled c.loop-tag.invariant c.in-Record.ensures short (search rules) (fresh _ _ c.insert.ensures.first c.if-not-insert.false) w.in_ok-tags-in-Record.ensures.0 _ c.insert.ensures.new _ _ more single _ _ _
          (ap (λ (t : Tags). counted t.three) w.tags-is ∙ w.in_ok-tags-in-Record.ensures.1.0) (ap (λ (t : Tags). t.one) w.tags-is ∙ w.in_ok-tags-in-Record.ensures.1.1) (ap counted w.relay-is ∙ relay_low c.loop-tag.invariant c.in-Record.ensures w.if-tag-gt-LAST.false)
    ]
