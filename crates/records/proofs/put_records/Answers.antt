-- `records::put_records` meets its contract. Assumes nothing.
use native.Mathlib.Omega.{arith}
use mathlib.Core.Path.{sym, ap}
use lib.ListN.{length}
use Rattle.message.proofs.Callers.{all_bytes}
use Rattle.buffer.proofs.Writing.{written_as}
use Rattle.records.proofs.Outcomes.{told_here, told_fits, told_short, fills_given, told_once, told_long, told_ends, told_small}
use Rattle.records.proofs.put_records.Goals as goal

pub put_active-requires : goal.put_active-requires
put_active-requires c = let k = (told_here c.args.m.now c.args.t c.args.codes (all_bytes c.args.m.now (λ i. omega (arith, c.type_inv.m i))) c.requires.0 c.requires.1) in
    (told_long k, told_ends k (all_bytes c.args.m.now (λ i. omega (arith, c.type_inv.m i))), omega (arith, told_fits k (length c.args.out.now) c.requires.2, ap length (told_once k c.if-t-codes.true)))

pub returns-then-t-codes : goal.returns-then-t-codes
returns-then-t-codes c = let k = (told_here c.args.m.now c.args.t c.args.codes (all_bytes c.args.m.now (λ i. omega (arith, c.type_inv.m i))) c.requires.0 c.requires.1) in
    fills_given k c.args.out.now c.put_active.result c.put_active.new.out c.requires.2 (written_as (sym (told_once k c.if-t-codes.true)) c.put_active.ensures)

pub put_split-requires : goal.put_split-requires
put_split-requires c = let k = (told_here c.args.m.now c.args.t c.args.codes (all_bytes c.args.m.now (λ i. omega (arith, c.type_inv.m i))) c.requires.0 c.requires.1) in (told_ends k (all_bytes c.args.m.now (λ i. omega (arith, c.type_inv.m i))), told_small k, told_fits k (length c.args.out.now) c.requires.2, told_short k)

pub returns : goal.returns
returns c = fills_given (told_here c.args.m.now c.args.t c.args.codes (all_bytes c.args.m.now (λ i. omega (arith, c.type_inv.m i))) c.requires.0 c.requires.1) c.args.out.now c.put_split.result c.put_split.new.out c.requires.2 c.put_split.ensures
