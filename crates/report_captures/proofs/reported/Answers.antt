-- `report_captures::reported` meets its contract. Assumes nothing.
use Rattle.std.proofs.Common.{rules, ℕ, replicate, refl, sym, arith}
use lib.ListN.{length-replicate}
use Rattle.report.specs.Printed.{Reports}
use Rattle.report_captures.proofs.Fillings.{printed}
use Rattle.report_captures.proofs.reported.Goals as goal

pub returns-clause-ok : goal.returns-clause-ok
returns-clause-ok c =
    let v = sym c.fill_all.ensures.same.verdicts_same in
    let h = sym c.fill_all.ensures.same.held_same in
    let b = sym c.fill_all.ensures.same.bytes_same in
    let k = c.fill_all.new.tally in
    let t : Reports c.in_ok-p.p k.verdicts.now k.held.now k.bytes.now c.args.text.now c.report.result c.report.new.out = (let r = c.report.ensures.text in search (rules, r)) in
    printed (replicate 1472 0) (replicate 8 0) (replicate 256 0) (replicate 256 0) (omega (arith, length-replicate {A = ℕ} 1472 0)) refl refl refl c.in_ok-p.ensures.ok _ _ _ c.report.ensures.size t
