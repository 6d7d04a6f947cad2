-- `records::records` meets its contract. Assumes nothing.
use borrow.Author.Rules.{rules}
use native.Mathlib.Omega.{arith}
use mathlib.Core.Path.{sym, ap, ◌∙◌}
use borrow.Author.Tests.{ltb-true, ltb-false}
use Rattle.std.proofs.lemmas.Result.{err_from_is_err_and}
use Rattle.options.specs.CodeSet.{count_of}
use Rattle.message.proofs.Callers.{all_bytes}
use Rattle.records.proofs.Outcomes.{told_here, told_used, refused_records, fills_declined}
use Rattle.records.proofs.records.Goals as goal

pub returns-in_err-t : goal.returns-in_err-t
returns-in_err-t c =
    let p = err_from_is_err_and c.from_residual.result c.from_residual.ensures.1 in
    rw (p.1, p.2) (refused_records c.args.m.now c.args.out.now _ _ c.in_err-t.ensures)

pub too_small-requires : goal.too_small-requires
too_small-requires c = let u = told_used (told_here c.args.m.now c.in_ok-t.t c.count-codes.result (all_bytes c.args.m.now (λ i. omega (arith, c.type_inv.m i))) c.in_ok-t.ensures.is (c.count-codes.ensures ∙ ap count_of c.in_ok-t.ensures.codes)) in (search rules, u.0, u.1, u.2)

pub returns-then-too_small : goal.returns-then-too_small
returns-then-too_small c = fills_declined (told_here c.args.m.now c.in_ok-t.t c.count-codes.result (all_bytes c.args.m.now (λ i. omega (arith, c.type_inv.m i))) c.in_ok-t.ensures.is (c.count-codes.ensures ∙ ap count_of c.in_ok-t.ensures.codes)) c.args.out.now (ltb-true _ _ (sym c.too_small.ensures ∙ c.if-too_small.true)) _ c.at.ensures

pub put_records-requires : goal.put_records-requires
put_records-requires c = (c.in_ok-t.ensures.is, c.count-codes.ensures ∙ ap count_of c.in_ok-t.ensures.codes, ltb-false _ _ (sym c.too_small.ensures ∙ c.if-too_small.false))
