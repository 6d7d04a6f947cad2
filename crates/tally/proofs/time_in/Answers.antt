-- `tally::time_in` meets its contract. Assumes nothing.
use Rattle.std.proofs.Common.{arith}
use Rattle.message.proofs.Callers.{all_bytes}
use Rattle.tally.proofs.Times.{no_time_in, last_early, pieces_apart, time_joined, start_within, time_in_one}
use Rattle.tally.proofs.time_in.Goals as goal

pub returns-then-w-ne4 : goal.returns-then-w-ne4
returns-then-w-ne4 c = no_time_in c.args.m.now c.args.w c.requires (all_bytes c.args.m.now (λ i. (c.type_inv.m i).fits)) c.if-w-ne4.true

pub overflow_add-w : goal.overflow_add-w
overflow_add-w c = omega (arith, last_early c.args.m.now c.args.w c.requires (all_bytes c.args.m.now (λ i. (c.type_inv.m i).fits)))

pub joined_time-requires : goal.joined_time-requires
joined_time-requires c = pieces_apart c.args.m.now c.args.w c.requires (all_bytes c.args.m.now (λ i. (c.type_inv.m i).fits)) c.if-w-ne4.false c.if-w-start.true

pub returns-then-w-start : goal.returns-then-w-start
returns-then-w-start c = time_joined c.args.m.now c.args.w c.requires (all_bytes c.args.m.now (λ i. (c.type_inv.m i).fits)) c.if-w-ne4.false c.joined_time.result c.joined_time.ensures

pub overflow_add-end : goal.overflow_add-end
overflow_add-end c = omega (arith, start_within c.args.m.now c.args.w c.requires (all_bytes c.args.m.now (λ i. (c.type_inv.m i).fits)) c.if-w-ne4.false c.if-w-start.false)

pub slice_bounds-first32-end : goal.slice_bounds-first32-end
slice_bounds-first32-end c = omega (arith, start_within c.args.m.now c.args.w c.requires (all_bytes c.args.m.now (λ i. (c.type_inv.m i).fits)) c.if-w-ne4.false c.if-w-start.false)

pub returns : goal.returns
returns c = time_in_one c.args.m.now c.args.w c.requires (all_bytes c.args.m.now (λ i. (c.type_inv.m i).fits)) c.if-w-ne4.false c.if-w-start.false c.first32.result c.first32.ensures
