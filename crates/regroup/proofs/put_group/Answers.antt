-- `regroup::put_group` meets its contract. Assumes nothing.
use mathlib.Core.Path.{◌≡◌, refl, sym, ap, ◌∙◌}
use mathlib.Core.List.{List, [], ◌∷◌, ◌++◌}
use Prim.Native.Nat.{ℕ, suc, ◌+◌, ◌/◌, ◌%◌, ◌≤◌}
use native.Mathlib.Omega.{arith}
use lib.ListN.{length, set, length-set}
use Rattle.options.specs.Answers.{filled_with}
use Rattle.options.specs.Grouped.{in_group}
use Rattle.buffer.specs.Written.{laid}
use Rattle.buffer.proofs.Writing.{laid_laid, laid_copied, written_front}
use Rattle.filled.proofs.Answers.{fills_small, fills_enough}
use Rattle.regroup.proofs.Laws.{laid_four}
use Rattle.regroup.proofs.put_group.Goals as goal

pub returns-then-room-n : goal.returns-then-room-n
returns-then-room-n c = fills_small (filled_with (in_group c.args.s.now) c.args.out.now) (in_group c.args.s.now) c.args.out.now refl c.at.result c.at.ensures (omega (arith, c.if-room-n.true))

pub bounds-out-1 : goal.bounds-out-1
bounds-out-1 c = simp length-set (omega arith)

pub bounds-out-2 : goal.bounds-out-2
bounds-out-2 c = simp length-set (omega arith)

pub bounds-out-3 : goal.bounds-out-3
bounds-out-3 c = simp length-set (omega arith)

pub returns : goal.returns
returns c = let room = c.if-room-n.false in
    let s = c.args.s.now in
    let old = c.args.out.now in
    let h : ℕ = (length s + 1) / 256 in
    let l : ℕ = (length s + 1) % 256 in
    let head : List ℕ = 0 ∷ h ∷ l ∷ 0 ∷ [] in
    let x : List ℕ = set (set (set (set old 0 0) 1 h) 2 l) 3 0 in
    let one : length s + 1 ≡ suc (length s) = omega arith in
    let all : head ++ s ≡ in_group s = ap (λ (k : ℕ). 0 ∷ k / 256 ∷ k % 256 ∷ 0 ∷ s) one in
    let n : length (in_group s) ≡ length s + 4 = omega arith in
    let stored : x ≡ laid old 0 head = laid_four old 0 h l 0 (omega (arith, room)) in
    let size : length s + 4 ≤ length x = simp length-set (omega (arith, room)) in
    let front = written_front {b = old} {xs = in_group s} {r = length s + 4}
    (record {
      next = omega (arith, n);
      buffer = laid_copied x 4 (length s + 4) c.copy.new.dst s (omega arith) size c.copy.ensures ∙ ap (λ (b : List ℕ). laid b 4 s) stored ∙ laid_laid old 0 head s ∙ ap (laid old 0) all;
    }) in
    fills_enough (filled_with (in_group s) old) (in_group s) old refl (length s + 4) _ (omega (arith, room, n)) (sym n) front.1
