-- `records::put_record` meets its contract. Assumes nothing.
use native.Mathlib.Omega.{arith}
use mathlib.Core.Path.{refl, ◌∙◌}
use mathlib.Core.List.{List, [], ◌∷◌}
use Prim.Native.Nat.{ℕ, ◌+◌}
use lib.ListN.{length, set, length-set}
use Rattle.buffer.proofs.Writing.{laid_three, laid_laid, laid_copied}
use Rattle.records.proofs.put_record.Goals as goal

pub bounds-out-at-2 : goal.bounds-out-at-2
bounds-out-at-2 c = simp length-set (omega arith)

pub bounds-out-at-3 : goal.bounds-out-at-3
bounds-out-at-3 c = simp length-set (omega arith)

pub slice_bounds-copy-end : goal.slice_bounds-copy-end
slice_bounds-copy-end c = simp length-set (omega arith)

pub shape_of-out : goal.shape_of-out
shape_of-out c = c.out-1.given.1 ∙ simp length-set

pub returns : goal.returns
returns c = let n : ℕ = length c.args.body.now in
    let x : List ℕ = set (set (set c.args.out.now c.args.at c.args.code) (c.args.at + 1) 0) (c.args.at + 2) n in
    laid_copied x (c.args.at + 3) (c.args.at + 3 + n) c.copy.new.dst c.args.body.now refl (simp length-set c.requires.0) c.copy.ensures
    ∙ rw (laid_three c.args.out.now c.args.at c.args.code 0 n (omega (arith, c.requires.0))) (laid_laid c.args.out.now c.args.at (c.args.code ∷ 0 ∷ n ∷ []) c.args.body.now)
