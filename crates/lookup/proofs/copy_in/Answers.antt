-- `lookup::copy_in` meets its contract. Assumes nothing.
use native.Mathlib.Omega.{arith}
use mathlib.Core.Path.{◌∙◌}
use Rattle.refusal.specs.declared.Rule.TheVariants.{NoRoom}
use Rattle.filled.proofs.Answers.{fills_unfilled, fills_small}
use Rattle.message.proofs.Callers.{all_bytes}
use Rattle.text.proofs.Putting.{puts_as}
use Rattle.lookup.proofs.Laws.{last_fits, pieces_of, copy_absent, copy_of, joined_whole, joined_one, filled_of}
use Rattle.lookup.proofs.copy_in.Goals as goal

pub returns-then-w-eq0 : goal.returns-then-w-eq0
returns-then-w-eq0 c = fills_unfilled _ _ NoRoom 0 _ c.at.ensures (copy_absent c.args.m.now c.args.code c.requires.0 c.args.w (all_bytes c.args.m.now (λ i. omega (arith, c.type_inv.m i))) c.requires.1 c.args.out.now c.if-w-eq0.true)

pub returns-then-room-w : goal.returns-then-room-w
returns-then-room-w c = fills_small _ _ c.args.out.now (copy_of c.args.m.now c.args.code c.requires.0 c.args.w (all_bytes c.args.m.now (λ i. omega (arith, c.type_inv.m i))) c.requires.1 c.args.out.now c.if-w-eq0.false) _ c.at-then-room-w.ensures (omega (arith, joined_whole c.args.m.now c.args.code c.requires.0 c.args.w (all_bytes c.args.m.now (λ i. omega (arith, c.type_inv.m i))) c.requires.1, c.if-room-w.true))

pub overflow_add-w : goal.overflow_add-w
overflow_add-w c = omega (arith, last_fits c.args.m.now c.args.code c.requires.0 c.args.w (all_bytes c.args.m.now (λ i. omega (arith, c.type_inv.m i))) c.requires.1)

pub returns-then-w : goal.returns-then-w
returns-then-w c = filled_of c.args.m.now c.args.code c.requires.0 c.args.w (all_bytes c.args.m.now (λ i. omega (arith, c.type_inv.m i))) c.requires.1 c.args.out.now c.if-w-eq0.false (omega (arith, c.if-room-w.false)) _ _
    (puts_as (c.part.ensures.0 ∙ joined_one c.args.m.now c.args.code c.requires.0 c.args.w (all_bytes c.args.m.now (λ i. omega (arith, c.type_inv.m i))) c.requires.1 c.if-w-eq0.false c.if-w.true) c.put_word.ensures)

pub put_pieces-requires : goal.put_pieces-requires
put_pieces-requires c = (pieces_of c.args.m.now c.args.code c.requires.0 c.args.w (all_bytes c.args.m.now (λ i. omega (arith, c.type_inv.m i))) c.requires.1 c.if-w-eq0.false c.if-w.false, omega (arith, c.if-room-w.false))

pub returns : goal.returns
returns c = filled_of c.args.m.now c.args.code c.requires.0 c.args.w (all_bytes c.args.m.now (λ i. omega (arith, c.type_inv.m i))) c.requires.1 c.args.out.now c.if-w-eq0.false (omega (arith, c.if-room-w.false)) _ _ c.put_pieces.ensures
