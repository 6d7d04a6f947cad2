-- `buffer::copy_blocks` meets its contract. Assumes nothing.
use mathlib.Core.Path.{◌≡◌, refl, ap, ◌∙◌}
use mathlib.Core.List.{List}
use Prim.Native.Nat.{ℕ, ◌+◌, ◌-◌, ◌≤◌, ◌<◌, min}
use native.Mathlib.Omega.{arith}
use lib.ListN.{take, drop}
use borrow.Rule.Slice.PartMut.{put_mid}
use Rattle.buffer.proofs.Laws.{front, front_part, front_before, front_after, front_all}
use Rattle.buffer.proofs.copy_blocks.Goals as goal

nearer : (at last next : ℕ) → at ≤ last → (at ≡ last → ⊥) → next ≡ min (at + 128) last → last - next < last - at
nearer at last next l z e = omega arith

pub loop-at-init : goal.loop-at-init
loop-at-init c = (omega arith, refl, refl, refl)

pub shape_of-dst-then-at-last : goal.shape_of-dst-then-at-last
shape_of-dst-then-at-last c = c.dst-1.given.1 ∙ c.loop-at.invariant.3

pub returns-then-at-last : goal.returns-then-at-last
returns-then-at-last c = (let step₁ : (put_mid c.loop-at.at (c.loop-at.at + 128 - c.loop-at.at) c.loop-at.dst c.copy_block.new.dst) ≡ front (c.loop-at.at + 128) c.args.dst.now c.args.src.now = front_part c.args.dst.now c.args.src.now c.loop-at.dst c.copy_block.new.dst c.loop-at.at (c.loop-at.at + 128) (omega arith) c.loop-at.invariant.1 c.loop-at.invariant.2 c.copy_block.ensures in step₁) ∙ front_all c.args.dst.now c.args.src.now (c.loop-at.at + 128) (omega arith)

pub loop-at-smaller : goal.loop-at-smaller
loop-at-smaller c = nearer _ _ c.min-at.result c.loop-at.invariant.0 c.if-at-last.false c.min-at.ensures

pub loop-at-preserved : goal.loop-at-preserved
loop-at-preserved c = let dst : List ℕ = c.args.dst.now in
    let src : List ℕ = c.args.src.now in
    let n : ℕ = c.loop-at.at + 128 in
    let at : ℕ = c.min-at.result in (
      omega arith,
      ap (take at) ((let step₁ : (put_mid c.loop-at.at (c.loop-at.at + 128 - c.loop-at.at) c.loop-at.dst c.copy_block.new.dst) ≡ front (c.loop-at.at + 128) c.args.dst.now c.args.src.now = front_part c.args.dst.now c.args.src.now c.loop-at.dst c.copy_block.new.dst c.loop-at.at (c.loop-at.at + 128) (omega arith) c.loop-at.invariant.1 c.loop-at.invariant.2 c.copy_block.ensures in step₁)) ∙ front_before dst src n (omega arith) at (omega arith),
      ap (drop (at + 128)) ((let step₁ : (put_mid c.loop-at.at (c.loop-at.at + 128 - c.loop-at.at) c.loop-at.dst c.copy_block.new.dst) ≡ front (c.loop-at.at + 128) c.args.dst.now c.args.src.now = front_part c.args.dst.now c.args.src.now c.loop-at.dst c.copy_block.new.dst c.loop-at.at (c.loop-at.at + 128) (omega arith) c.loop-at.invariant.1 c.loop-at.invariant.2 c.copy_block.ensures in step₁)) ∙ front_after dst src n (omega arith) (at + 128) (omega (arith, c.if-at-last.false)),
      c.dst-1.given.1 ∙ c.loop-at.invariant.3,
    )
