-- `lookup::put_both` meets its contract. Assumes nothing.
use native.Mathlib.Omega.{arith}
use mathlib.Core.Path.{◌≡◌, refl, ap, ◌∙◌}
use mathlib.Core.List.{List}
use Prim.Native.Nat.{ℕ, ◌+◌, ◌-◌}
use lib.ListN.{length}
use borrow.Rule.Slice.PartMut.{put_mid}
use Rattle.buffer.specs.Written.{Written, laid}
use Rattle.buffer.proofs.Writing.{laid_length, laid_copied, written_more}
use Rattle.lookup.proofs.put_both.Goals as goal

pub returns : goal.returns
returns c = let a : List ℕ = c.args.a.now in
    let b : List ℕ = c.args.b.now in
    let old : List ℕ = c.args.out.now in
    let n : ℕ = length a in
    let x : List ℕ = put_mid 0 (n - 0) old c.copy.new.dst in
    let f : x ≡ laid old 0 a = laid_copied old 0 n c.copy.new.dst a (omega arith) (omega (arith, c.requires)) c.copy.ensures in
    let l : length x ≡ length old = ap length f ∙ laid_length old 0 a (omega (arith, c.requires)) in
    let u : Written old 0 a n x = record { next = omega arith; buffer = f } in
    written_more u (record { next = refl; buffer = laid_copied x n (n + length b) c.copy-2.new.dst b refl (omega (arith, l, c.requires)) c.copy-2.ensures })
