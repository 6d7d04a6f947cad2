-- `console::fill`: the bytes that are filled, and the next. Assumes nothing.
use Rattle.std.proofs.Common.{◌≡◌, ◌+◌, ◌%◌, ◌<◌, ℕ, get_or}
use Rattle.console.proofs.fill.Given as goal

abbrev pub invariant-loop-b : goal.invariant-loop-b
invariant-loop-b l = record {
  next : l.x ≡ (l.first + l.b-index) % 256;
  bytes : (k : ℕ) → k < l.b-index → get_or l.b-items k 0 ≡ (l.first + k) % 256;
}
