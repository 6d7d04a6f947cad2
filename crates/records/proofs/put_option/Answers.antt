-- `records::put_option` meets its contract. Assumes nothing.
use native.Mathlib.Omega.{arith}
use borrow.Author.Tests.{eq-eqb, ne_eqb}
use Rattle.buffer.proofs.Writing.{written_none}
use Rattle.records.proofs.put_option.Goals as goal

pub returns-then-code-eq52 : goal.returns-then-code-eq52
returns-then-code-eq52 c = rw (eq-eqb c.args.code 52 c.if-code-eq52.true) (written_none c.args.out.now c.args.at)

pub put_record-requires : goal.put_record-requires
put_record-requires c = let h = rw (ne_eqb c.args.code 52 c.if-code-eq52.false) at c.requires.0 in
    (omega (arith, h), c.requires.1)

pub returns : goal.returns
returns c = rw (ne_eqb c.args.code 52 c.if-code-eq52.false) (record { next = omega arith; buffer = c.put_record.ensures })
