-- `routes::cleared` meets its contract. Assumes nothing.
use Prim.Native.Nat.{ℕ, ◌-◌, ◌^◌}
use native.Mathlib.Nat.{div-mul-le_self}
use native.Mathlib.Omega.{arith}
use mir.Syntax.{w32}
use mir.Val.{Fits}
use Rattle.routes.proofs.Clearing.{none_past, shifted}
use borrow.Author.Rules.{rules}
use Rattle.routes.proofs.cleared.Goals as goal

pub returns-then-w-ge32 : goal.returns-then-w-ge32
returns-then-w-ge32 c = none_past c.args.w c.args.x c.if-w-ge32.true

pub overflow_cast-result-4 : goal.overflow_cast-result-4
overflow_cast-result-4 c = let k : ℕ = 32 - c.args.w in
    let h : Fits w32 c.args.x = search rules in
    rw (shifted c.args.x k h.fits (omega arith)) (record { fits = omega (arith, div-mul-le_self c.args.x (2 ^ k)) })

pub returns : goal.returns
returns c = let h : Fits w32 c.args.x = search rules in
    shifted c.args.x (32 - c.args.w) h.fits (omega arith)
