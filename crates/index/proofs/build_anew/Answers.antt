-- `index::build_anew` meets its contract. Assumes nothing.
use mathlib.Core.Path.{◌≡◌, refl, sym}
use Prim.Native.Nat.{ℕ}
use lib.ListN.{length, replicate, length-replicate}
use Rattle.std.proofs.lemmas.Result.{err_from_is_err_and}
use Rattle.index.proofs.Built.{build_unfit, build_refused, build_done}
use Rattle.index.proofs.build_anew.Goals as goal

count : length (replicate {A = ℕ} 256 0) ≡ 256
count = length-replicate {A = ℕ} 256 0

pub returns-in_err-fit : goal.returns-in_err-fit
returns-in_err-fit c = let p = err_from_is_err_and c.from_residual.result c.from_residual.ensures.1 in
    rw (p.1, p.2) (build_unfit c.args.m.now (replicate 256 0) c.in_err-fit.field-0.0 c.in_err-fit.ensures.number c.in_err-fit.ensures.place)

pub returns-in-Err : goal.returns-in-Err
returns-in-Err c = build_refused c.args.m.now (replicate 256 0) (sym c.in_ok-fit.ensures.number) count (Unit {0}) c.in-Err.refusal c.enter.new.index c.in-Err.ensures

pub returns : goal.returns
returns c = build_done c.args.m.now (replicate 256 0) (sym c.in_ok-fit.ensures.number) count (tt {0}) c.enter.new.index c.in_default.ensures _ refl
