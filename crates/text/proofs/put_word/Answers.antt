-- `text::put_word` meets its contract. Assumes nothing.
use mathlib.Core.List.{List}
use mathlib.Core.Path.{◌≡◌, sym, ap, ◌∙◌}
use Prim.Native.Nat.{ℕ, ◌+◌, ◌-◌, ◌<◌, min}
use native.Mathlib.Omega.{arith}
use native.Mathlib.Decide.{dec_lt}
use lib.ListN.{length, take}
use lib.Seq.{length-take-le, take_all}
use Rattle.buffer.specs.Written.{laid}
use Rattle.buffer.proofs.Copied.{put_copied}
use Rattle.text.proofs.Putting.{puts_nowhere}
use Rattle.text.proofs.put_word.Goals as goal

pub returns-then-out-at : goal.returns-then-out-at
returns-then-out-at c = puts_nowhere c.args.out.now c.args.at c.args.word.now c.if-out-at.true

take_fewer : (xs : List ℕ) (k n : ℕ) → n ≡ min (length xs) k → take n xs ≡ take k xs
take_fewer xs k n e = go (dec_lt (length xs) k)
  where
    go : Dec (length xs < k) → take n xs ≡ take k xs
    go (yes h) = take_all n xs (omega arith) ∙ sym (take_all k xs (omega arith))
    go (no h) = let z : n ≡ k = omega arith in ap (λ (j : ℕ). take j xs) z

pub returns : goal.returns
returns c =
    let n : ℕ = c.min-n.result in
    let e = take_fewer c.args.word.now (length c.args.out.now - c.args.at) n c.min-n.ensures in
    let l : length (take n c.args.word.now) ≡ n = length-take-le n c.args.word.now (omega arith) in
    record {
      written =
          record {
            next = ap (λ (k : ℕ). c.args.at + k) (sym l ∙ ap length e);
            buffer = put_copied c.args.at c.args.out.now c.copy.new.dst (take n c.args.word.now) (omega (arith, l)) c.copy.ensures ∙ ap (laid c.args.out.now c.args.at) e;
          };
    }
