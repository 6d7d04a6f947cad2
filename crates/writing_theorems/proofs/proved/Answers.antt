-- `writing_theorems::proved` meets its contract: each statement by its proof. Assumes nothing.
use Rattle.writing_theorems.proofs.Ruled.{record_bytes_right, ruled_right}
use Rattle.writing_theorems.proofs.Options.{option_bytes_right, with_52_right, says_52}
use Rattle.writing_theorems.proofs.WriterOnly.{option_takes, writer_numbers, writer_is_correct, buffer_left}
use Rattle.writing_theorems.proofs.Splitting.{split_right}
use Rattle.writing_theorems.proofs.Writer.{writer_writes, plan_two_unused}
use Rattle.writing_theorems.proofs.Declined.{refuses_by_the_table, declined_iff}
use Rattle.writing_theorems.proofs.Tries.{plan_two_never_first, file_for_sname, plan_two_needless, tries_right}
use Rattle.writing_theorems.proofs.Trying.{tried_only, tried_in_order}
use Rattle.writing_theorems.proofs.Cuttings.{holding_iff_cutting}
use Rattle.writing_theorems.proofs.Room.{no_room_means_no_room, eleven_is_no_room, plan_is_lowest}
use Rattle.writing_theorems.proofs.Demand.{written_is_accepted, sheet_comes_back, demand_3_known, demand_3_others, demand_3, demand_3_of_kinds}
use Rattle.writing_theorems.proofs.IndexedDemand.{indexed_demand_3, indexed_demand_3_of_kinds}
use Rattle.writing_theorems.proofs.LongRecords.{long_cases_hold}
use Rattle.writing_theorems.proofs.proved.Goals as goal

pub returns : goal.returns
returns c = (
  record_bytes_right,
  ruled_right,
  option_bytes_right,
  option_takes,
  split_right,
  with_52_right,
  writer_writes,
  says_52,
  refuses_by_the_table,
  declined_iff,
  writer_numbers,
  writer_is_correct,
  buffer_left,
  plan_two_never_first,
  file_for_sname,
  plan_two_unused,
  plan_two_needless,
  tries_right,
  tried_only,
  tried_in_order,
  holding_iff_cutting,
  no_room_means_no_room,
  eleven_is_no_room,
  plan_is_lowest,
  written_is_accepted,
  sheet_comes_back,
  demand_3_known,
  demand_3_others,
  demand_3,
  demand_3_of_kinds,
  indexed_demand_3,
  indexed_demand_3_of_kinds,
  long_cases_hold,
)
