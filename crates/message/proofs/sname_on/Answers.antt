-- `message::sname_on` meets its contract. Assumes nothing.
use borrow.Author.Tests.{eq-eqb, ne_eqb}
use Rattle.message.proofs.sname_on.Goals as goal

pub returns-then-v-eq2 : goal.returns-then-v-eq2
returns-then-v-eq2 c = rw (eq-eqb _ _ c.if-v-eq2.true)

pub returns-else-v-eq2 : goal.returns-else-v-eq2
returns-else-v-eq2 c = rw (ne_eqb _ _ c.if-v-eq2.false)
