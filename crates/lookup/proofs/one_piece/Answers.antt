-- `lookup::one_piece` meets its contract. Assumes nothing.
use native.Mathlib.Omega.{arith}
use mathlib.Core.Path.{sym, ◌∙◌}
use Rattle.message.proofs.Callers.{all_bytes}
use Rattle.lookup.proofs.Laws.{right_code, last_fits}
use Rattle.lookup.proofs.one_piece.Goals as goal

pub overflow_add-w : goal.overflow_add-w
overflow_add-w c = omega (arith, last_fits c.args.m.now c.args.code (right_code c.args.code _ (sym c.in-Ok.is ∙ c.check_code.ensures)) c.in-Ok-find.w (all_bytes c.args.m.now (λ i. omega (arith, c.type_inv.m i))) (rw c.in-Ok-find.is at c.find.ensures))
