-- `buffer::copy_ends` meets its contract. Assumes nothing.
use mathlib.Core.Path.{◌≡◌, refl, ap, ◌∙◌}
use mathlib.Core.List.{List}
use Prim.Native.Nat.{ℕ, ◌-◌}
use native.Mathlib.Omega.{arith}
use lib.ListN.{length, take, drop}
use Rattle.buffer.proofs.Laws.{front, front_part, front_before, front_after, front_all}
use Rattle.buffer.proofs.copy_ends.Goals as goal

pub returns : goal.returns
returns c = let dst : List ℕ = c.args.dst.now in
    let src : List ℕ = c.args.src.now in
    let k : ℕ = c.args.k in
    let n : ℕ = length src in
    let last : ℕ = n - k in
    let e : _ ≡ front k dst src = front_part dst src dst c.copy_block.new.dst 0 k (omega arith) refl refl c.copy_block.ensures in
    front_part dst src _ c.copy_block-2.new.dst last n (omega arith)
    (ap (take last) e ∙ front_before dst src k c.requires.1 last (omega arith))
    (ap (drop n) e ∙ front_after dst src k c.requires.1 n (omega arith))
    c.copy_block-2.ensures
    ∙ front_all dst src n refl
