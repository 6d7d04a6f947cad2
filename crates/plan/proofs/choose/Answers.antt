-- `plan::choose` meets its contract: the tests in the order of `writer`, then the plans. Assumes nothing.
use mathlib.Core.Path.{◌≡◌, sym, ap, ◌∙◌}
use mathlib.Core.List.{List}
use Prim.Native.Nat.{ℕ}
use lib.ListN.{length}
use Rattle.std.proofs.lemmas.Result.{err_from_is_err_and}
use Rattle.refusal.proofs.Rules.{never_0}
use Rattle.writing_theorems.proofs.PieceSteps.{pieces_at_record, between_records}
use Rattle.sheet.specs.Judge.{Verdict}
use Rattle.sheet.proofs.Verdicts.{Accepted, accepted}
use Rattle.plan.specs.Steps.{sizes}
use Rattle.plan.proofs.Counting.{begins_single}
use Rattle.plan.proofs.Trying.{refused_as, too_short, too_long, no_such, sheet_long, faulty_sheet, sound_sheet}
use Rattle.plan.proofs.choose.Goals as goal

pub returns-then-len-lt240 : goal.returns-then-len-lt240
returns-then-len-lt240 c = λ (m : List ℕ) (e : length m ≡ c.args.len). refused_as c.at.ensures ∙ too_short c.args.s.now c.args.len c.args.permission c.if-len-lt240.true m e

pub returns-then-len-gt1472 : goal.returns-then-len-gt1472
returns-then-len-gt1472 c = λ (m : List ℕ) (e : length m ≡ c.args.len).
    refused_as c.at-then-len-gt1472.ensures ∙ too_long c.args.s.now c.args.len c.args.permission c.if-len-lt240.false c.if-len-gt1472.true m e

pub returns-then-permission-gt3 : goal.returns-then-permission-gt3
returns-then-permission-gt3 c = λ (m : List ℕ) (e : length m ≡ c.args.len).
    refused_as c.at-then-permission-gt3.ensures ∙ no_such c.args.s.now c.args.len c.args.permission c.if-len-lt240.false c.if-len-gt1472.false c.if-permission-gt3.true m e

pub returns-then-s-gt4096 : goal.returns-then-s-gt4096
returns-then-s-gt4096 c = λ (m : List ℕ) (e : length m ≡ c.args.len).
    refused_as c.at-then-s-gt4096.ensures ∙ sheet_long c.args.s.now c.args.len c.args.permission c.if-len-lt240.false c.if-len-gt1472.false c.if-permission-gt3.false c.if-s-gt4096.true m e

pub returns-in_err-judged : goal.returns-in_err-judged
returns-in_err-judged c = let j = c.in_err-judged.ensures in
    let q = err_from_is_err_and c.from_residual.result c.from_residual.ensures.1 in
    rw (q.1, q.2) (faulty_sheet c.args.s.now c.args.len c.args.permission c.if-len-lt240.false c.if-len-gt1472.false c.if-permission-gt3.false c.if-s-gt4096.false _ _
    (ap (λ (v : Verdict). v.number) j) (ap (λ (v : Verdict). v.place) j) (never_0 c.in_err-judged.field-0.0.rule))

pub choose_judged-requires : goal.choose_judged-requires
choose_judged-requires c = let s = c.args.s.now in
    let j = c.in_ok-judged.ensures in
    let a : Accepted s = accepted s (sym (ap (λ (v : Verdict). v.number) j)) in (
      c.if-len-lt240.false,
      between_records s 0 a.whole,
      begins_single s _ (ap (λ (v : Verdict). v.single) j ∙ a.single),
      ap (λ (v : Verdict). v.total) j ∙ a.total ∙ ap sizes (sym (pieces_at_record s 0)),
    )

pub returns : goal.returns
returns c = let j = c.in_ok-judged.ensures in
    sound_sheet c.args.s.now c.args.len c.args.permission c.if-len-lt240.false c.if-len-gt1472.false c.if-permission-gt3.false c.if-s-gt4096.false
    (accepted c.args.s.now (sym (ap (λ (v : Verdict). v.number) j))) _ (ap (λ (v : Verdict). v.single) j) _ c.choose_judged.ensures
