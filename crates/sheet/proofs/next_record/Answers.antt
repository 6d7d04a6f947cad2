-- `sheet::next_record` meets its contract: its three tests are those of the walk. Assumes nothing.
use mathlib.Core.Path.{◌≡◌, sym, ap, ◌∙◌}
use Prim.Native.Nat.{◌+◌, ◌*◌, ◌≤◌}
use native.Mathlib.Omega.{arith}
use lib.ListN.{length, get_or}
use Rattle.writing_theorems.proofs.SheetSteps.{size_at, body_size, step_none, step_head, step_cut, step_record}
use Rattle.sheet.specs.Steps.{step_of}
use Rattle.sheet.specs.declared.Step.TheVariants.{Record}
use Rattle.sheet.proofs.next_record.Goals as goal

pub returns-then-at-s : goal.returns-then-at-s
returns-then-at-s c = ap step_of (sym (step_head c.args.s.now c.args.at c.if-at-s.true (omega (arith, c.if-saturating_sub-at.true, c.saturating_sub.ensures))))

pub returns-then-saturating_sub-at : goal.returns-then-saturating_sub-at
returns-then-saturating_sub-at c = ap step_of (sym (step_none c.args.s.now c.args.at c.if-at-s.false))

pub returns-then-s-at : goal.returns-then-s-at
returns-then-s-at c = let head : c.args.at + 3 ≤ length c.args.s.now = omega arith in
    ap step_of (sym (step_cut c.args.s.now c.args.at head (omega arith)))

pub returns : goal.returns
returns c = let head : c.args.at + 3 ≤ length c.args.s.now = omega arith in
    let room : c.args.at + 3 + size_at c.args.s.now c.args.at ≤ length c.args.s.now = omega arith in
    let size : 256 * c.wide.result + c.wide-2.result ≡ size_at c.args.s.now c.args.at = omega arith in
    ap (Record (get_or c.args.s.now c.args.at 0)) (size ∙ sym (body_size c.args.s.now c.args.at head room)) ∙ ap step_of (sym (step_record c.args.s.now c.args.at head room))
