-- `index_copy::copy` meets its contract. Assumes nothing.
use mathlib.Core.Path.{◌≡◌, sym, ◌∙◌}
use mathlib.Core.Logic.{inl, inr}
use Prim.Native.Nat.{ℕ, ◌<◌}
use native.Mathlib.Omega.{arith}
use Rattle.std.proofs.lemmas.Result.{err_from_is_err_and}
use Rattle.message.proofs.Readings.{fit_length}
use Rattle.index_copy.proofs.Copying.{no_code_fills, unfit_fills, count_fills, nothing_fills, by_pieces, by_place}
use Rattle.index_copy.proofs.copy.Goals as goal
use Rattle.index_copy.proofs.copy.Goals.{then-code-eq0-via-then-code-eq0, then-code-eq0-via-else-code-eq0+then-code-eq255}

pub returns-then-code-eq0 : goal.returns-then-code-eq0
returns-then-code-eq0 c = no_code_fills c.args.m.now c.args.index.now c.args.code c.args.out.now
    (elim c.then-code-eq0.branch [
      | then-code-eq0-via-then-code-eq0 w ↦ inl w.if-code-eq0.true
      | then-code-eq0-via-else-code-eq0+then-code-eq255 w ↦ inr (w.if-code-eq0.false, w.if-code-eq255.true)
    ])
    c.at.result c.at.ensures

pub returns-in_err-fit : goal.returns-in_err-fit
returns-in_err-fit c = let p = err_from_is_err_and c.from_residual.result c.from_residual.ensures.1 in
    rw (p.1, p.2)
    (unfit_fills c.args.m.now c.args.index.now c.args.code c.args.out.now c.if-code-eq0.false c.if-code-eq255.false c.in_err-fit.field-0.0 c.in_err-fit.ensures.number c.in_err-fit.ensures.place)

pub returns-then-n-ne256 : goal.returns-then-n-ne256
returns-then-n-ne256 c =
    count_fills c.args.m.now c.args.index.now c.args.code c.args.out.now c.if-code-eq0.false c.if-code-eq255.false (sym c.in_ok-fit.ensures.number) c.if-n-ne256.true
    c.at-then-n-ne256.result c.at-then-n-ne256.ensures

pub returns-then-entry-eq0 : goal.returns-then-entry-eq0
returns-then-entry-eq0 c = nothing_fills c.args.m.now c.args.index.now c.args.code c.args.out.now c.if-code-eq0.false c.if-code-eq255.false (sym c.in_ok-fit.ensures.number) c.if-n-ne256.false c.wide.result c.wide.ensures.0 c.if-entry-eq0.true c.at-then-entry-eq0.result c.at-then-entry-eq0.ensures

pub returns-then-entry : goal.returns-then-entry
returns-then-entry c = rw (by_pieces c.args.m.now c.args.index.now c.args.code c.args.out.now c.if-code-eq0.false c.if-code-eq255.false (sym c.in_ok-fit.ensures.number) c.if-n-ne256.false c.wide.result c.wide.ensures.0 c.if-entry-eq0.false c.if-entry.true) c.copy.ensures

pub copy_entry-requires : goal.copy_entry-requires
copy_entry-requires c = ((fit_length c.args.m.now (sym c.in_ok-fit.ensures.number)).0, omega (arith, c.from.ensures, (c.type_inv.index c.wide.result).fits))

pub returns : goal.returns
returns c = rw (by_place c.args.m.now c.args.index.now c.args.code c.args.out.now c.if-code-eq0.false c.if-code-eq255.false (sym c.in_ok-fit.ensures.number) c.if-n-ne256.false c.wide.result c.wide.ensures.0 c.if-entry-eq0.false c.if-entry.false, ← c.from.ensures) c.copy_entry.ensures
