-- `console::sum` meets its contract. Assumes nothing.
use Rattle.std.proofs.Common.{◌≡◌, ℕ, suc, ◌+◌, ◌*◌, ◌%◌, ◌<◌, ◌≤◌, List, length, get_or, drop, sym, ap, ◌∙◌, arith, drop_of_length-le, drop-cons, rules}
use Rattle.console.specs.Sum.{sum_of}
use Rattle.console.proofs.sum.Goals as goal

step : (s : List ℕ) (t i j : ℕ) → i < length s → j ≡ suc i → sum_of t (drop i s) ≡ sum_of ((t * 31 + get_or s i 0) % 1000003) (drop j s)
unfolding sum_of
step s t i j h e = ap (sum_of t) (drop-cons s i 0 h) ∙ ap (λ (k : ℕ). sum_of ((t * 31 + get_or s i 0) % 1000003) (drop k s)) (sym e)

ends : (s : List ℕ) (t i : ℕ) → length s ≤ i → sum_of t (drop i s) ≡ t
unfolding sum_of
ends s t i h = ap (sum_of t) (drop_of_length-le s h)

pub loop-x-preserved : goal.loop-x-preserved
loop-x-preserved c =
    let l = c.loop-x in
    record { small = search rules; same = rw c.from.ensures (sym (step c.args.s.now l.t l.x-index (l.x-index + 1) c.loop-x-test.true (omega arith))) ∙ l.invariant.same }

pub returns : goal.returns
returns c = sym (ends c.args.s.now c.loop-x.t c.loop-x.x-index c.loop-x-test.false) ∙ c.loop-x.invariant.same
