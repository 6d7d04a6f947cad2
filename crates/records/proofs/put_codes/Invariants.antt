-- `records::put_codes` meets its contract: at each turn what is laid, with the records that are left, makes the whole. Assumes nothing.
use Rattle.options.specs.Answers.{record_bytes}
use Rattle.message.specs.Active.{active_options}
use Rattle.records.specs.JoinedRecords.{sheet_by}
use Rattle.records.specs.Places.{bytes_left}
use Rattle.records.proofs.Joining.{Putting}
use Rattle.records.proofs.put_codes.Given as goal

abbrev pub invariant-loop-table : goal.invariant-loop-table
invariant-loop-table l = Putting l.over l.m l.initial.out (record_bytes (sheet_by l.initial.table (active_options l.over l.m))) l.table l.out l.o l.i

abbrev pub decreases-loop-table : goal.decreases-loop-table
decreases-loop-table l = bytes_left l.m l.i
