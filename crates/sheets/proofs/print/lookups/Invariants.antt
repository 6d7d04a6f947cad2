-- `sheets::print::lookups` ends. The measure is what is left of the records. Assumes nothing.
use Rattle.std.proofs.Common.{length}
use Rattle.sheets.proofs.print.lookups.Given as goal

abbrev pub decreases-loop-records : goal.decreases-loop-records
decreases-loop-records l = length l.records
