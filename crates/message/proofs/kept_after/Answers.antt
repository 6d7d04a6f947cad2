-- `message::kept_after` meets its contract. Assumes nothing.
use borrow.Author.Tests.{eq-eqb, ne_eqb}
use Rattle.message.proofs.kept_after.Goals as goal

pub returns-then-want-c : goal.returns-then-want-c
returns-then-want-c c = rw (ne_eqb c.args.want c.args.c c.if-want-c.true, c.over_after-over.ensures)

pub returns-then-k-ne0 : goal.returns-then-k-ne0
returns-then-k-ne0 c = rw (eq-eqb c.args.want c.args.c c.if-want-c.false, ne_eqb c.args.k.start 0 c.if-k-ne0.true, c.over_after-over.ensures)

pub returns : goal.returns
returns c = rw (eq-eqb c.args.want c.args.c c.if-want-c.false, eq-eqb c.args.k.start 0 c.if-k-ne0.false, c.over_after-over.ensures)
