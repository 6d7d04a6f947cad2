-- `lookup::found_in` meets its contract. Assumes nothing.
use native.Mathlib.Omega.{arith}
use native.Mathlib.Nat.{add-sub_cancel_left}
use mathlib.Core.Path.{ap₂, ◌∙◌}
use Rattle.options.specs.CodeSet.{marked}
use Rattle.options.specs.Answers as asked
use Rattle.message.proofs.Callers.{all_bytes}
use Rattle.lookup.proofs.Laws.{last_fits, pieces_of, within_of, absent_of, several_of, one_of}
use Rattle.lookup.proofs.found_in.Goals as goal

pub returns-then-start-eq0 : goal.returns-then-start-eq0
returns-then-start-eq0 c = absent_of c.args.m.now c.args.code c.requires.0 c.args.w (all_bytes c.args.m.now (λ i. omega (arith, c.type_inv.m i))) c.requires.1 (marked c.args.known) c.if-start-eq0.true

pub overflow_add-w : goal.overflow_add-w
overflow_add-w c = omega (arith, last_fits c.args.m.now c.args.code c.requires.0 c.args.w (all_bytes c.args.m.now (λ i. omega (arith, c.type_inv.m i))) c.requires.1)

pub in_pieces-requires : goal.in_pieces-requires
in_pieces-requires c = pieces_of c.args.m.now c.args.code c.requires.0 c.args.w (all_bytes c.args.m.now (λ i. omega (arith, c.type_inv.m i))) c.requires.1 c.if-start-eq0.false c.if-w-start.true

pub returns-then-w-start : goal.returns-then-w-start
returns-then-w-start c = rw c.row_of-row.ensures at c.in_pieces.ensures ∙ several_of c.args.m.now c.args.code c.requires.0 c.args.w (all_bytes c.args.m.now (λ i. omega (arith, c.type_inv.m i))) c.requires.1 (marked c.args.known) c.if-start-eq0.false c.if-w-start.true

pub overflow_add-end : goal.overflow_add-end
overflow_add-end c = omega (arith, (within_of c.args.m.now c.args.code c.requires.0 c.args.w (all_bytes c.args.m.now (λ i. omega (arith, c.type_inv.m i))) c.requires.1 c.if-start-eq0.false c.if-w-start.false).1)

pub origin_at-origin-requires : goal.origin_at-origin-requires
origin_at-origin-requires c = omega (arith, (within_of c.args.m.now c.args.code c.requires.0 c.args.w (all_bytes c.args.m.now (λ i. omega (arith, c.type_inv.m i))) c.requires.1 c.if-start-eq0.false c.if-w-start.false).0)

pub slice_bounds-judge-end : goal.slice_bounds-judge-end
slice_bounds-judge-end c = omega (arith, (within_of c.args.m.now c.args.code c.requires.0 c.args.w (all_bytes c.args.m.now (λ i. omega (arith, c.type_inv.m i))) c.requires.1 c.if-start-eq0.false c.if-w-start.false).1)

pub returns : goal.returns
returns c = ap₂ asked.Found c.origin_at-origin.ensures (rw (add-sub_cancel_left, c.row_of-row.ensures) at c.judge-content.ensures)
    ∙ one_of c.args.m.now c.args.code c.requires.0 c.args.w (all_bytes c.args.m.now (λ i. omega (arith, c.type_inv.m i))) c.requires.1 (marked c.args.known) c.if-start-eq0.false c.if-w-start.false
