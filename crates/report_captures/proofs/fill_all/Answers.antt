-- `report_captures::fill_all` meets its contract. Assumes nothing.
use Rattle.std.proofs.Common.{rules, refl, ◌∙◌}
use Rattle.message.proofs.Callers.{all_bytes}
use Rattle.report_captures.specs.Filled.{Stopped}
use Rattle.report_captures.proofs.Fillings.{filled_first, filled_more}
use Rattle.report_captures.proofs.fill_all.Goals as goal

pub loop-init : goal.loop-init
loop-init c = (record { verdicts_same = refl; held_same = refl; bytes_same = refl }, filled_first _ _ _ _ _ _ c.begin-p.ensures c.requires)

pub returns-in_err-size-clause-err : goal.returns-in_err-size-clause-err
returns-in_err-size-clause-err c =
    let s : Stopped c.args.kept.now c.args.tally.now.verdicts.now c.args.tally.now.held.now c.args.tally.now.bytes.now c.loop.kept c.loop.tally.verdicts.now c.loop.tally.held.now c.loop.tally.bytes.now = (c.loop.input.total, c.loop.p, c.loop.invariant.1) in
    search (rules, s)

pub loop-preserved : goal.loop-preserved
loop-preserved c =
    let before = c.loop.invariant in
    let e = c.take_filling-p.ensures in
    let part = c.fill.new.part in (
      record { verdicts_same = e.same.verdicts_same ∙ before.0.verdicts_same; held_same = e.same.held_same ∙ before.0.held_same; bytes_same = e.same.bytes_same ∙ before.0.bytes_same },
      filled_more c.args.kept.now c.args.tally.now.verdicts.now c.args.tally.now.held.now c.args.tally.now.bytes.now before.1 part c.in_ok-size.size (all_bytes part (λ i. search rules)) c.in_ok-size.ensures.ok.0 _ c.in_ok-size.ensures.ok.1 e.feeds,
    )
