-- `buffer::put` meets its contract. Assumes nothing.
use borrow.Author.Rules.{rules}
use native.Mathlib.Omega.{arith}
use mathlib.Core.Path.{◌≡◌, sym, ap, ◌∙◌}
use mathlib.Core.List.{List, ◌++◌}
use Prim.Native.Nat.{ℕ}
use lib.ListN.{length, drop, length-append}
use Rattle.buffer.specs.Copy.{whole}
use Rattle.buffer.proofs.Copied.{copied_not, put_both}
use Rattle.buffer.proofs.put.Goals as goal

pub returns-then-room-body : goal.returns-then-room-body
returns-then-room-body g c = sym (copied_not c.args.room.now (c.args.head.now ++ c.args.body.now) (omega (arith, length-append c.args.head.now c.args.body.now)))

-- what was copied, where its length is known
whole_as : (dst src x : List ℕ) (n : ℕ) → length src ≡ n → x ≡ whole dst src → x ≡ src ++ drop n dst
whole_as dst src x n z e = e ∙ ap (λ (k : ℕ). src ++ drop k dst) z

pub returns : goal.returns
returns g c =
    let n : length c.args.head.now ≡ g.row.HEAD = search rules in
    put_both c.args.room.now c.args.head.now c.args.body.now _ c.copy.new.dst g.row.HEAD n (omega (arith, n)) (whole_as c.args.room.now c.args.head.now _ g.row.HEAD n c.copy_bytes.ensures) c.copy.ensures
