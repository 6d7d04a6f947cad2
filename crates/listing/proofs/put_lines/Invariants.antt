-- `listing::put_lines` meets its contract: at each turn what is put, with the lines of the options that are left, makes the whole. Assumes nothing.
use Rattle.options.specs.Answers.{lines_of}
use Rattle.message.specs.Active.{active_options}
use Rattle.cursor.specs.Cursor.{left}
use Rattle.cursor.proofs.Steps.{Over}
use Rattle.text.proofs.Putting.{Left}
use Rattle.listing.proofs.put_lines.Given as goal

abbrev pub invariant-loop-item : goal.invariant-loop-item
invariant-loop-item l = record {
  over : Over l.over l.m l.item-iterator;
  left : Left l.fn.out l.at (lines_of (active_options l.over l.m)) l.out l.o (lines_of (left l.over l.m l.item-iterator.at));
}
