-- `gather::gather` meets its contract: at each turn what is put, with the pieces that are left, makes the whole. Assumes nothing.
use Rattle.cursor.proofs.Steps.{Over}
use Rattle.text.proofs.Putting.{Left}
use Rattle.gather.specs.Joined.{joined_from}
use Rattle.gather.proofs.gather.Given as goal

abbrev pub invariant-loop-item : goal.invariant-loop-item
invariant-loop-item l = record {
  over : Over l.over l.m l.item-iterator;
  left : Left l.fn.out l.at (joined_from l.over l.m l.fn.begin l.code) l.out l.o (joined_from l.over l.m l.item-iterator.at l.code);
}
