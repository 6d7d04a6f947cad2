-- `relay_theorems::proved` meets its contract. Assumes nothing.
use Rattle.relay_theorems.proofs.proved.Goals as goal
use Rattle.relay_theorems.proofs.Reading.{relay_reader_is_correct}
use Rattle.relay_theorems.proofs.Row.{relay_reads_the_row}
use Rattle.relay_theorems.proofs.Writing.{relay_writer_is_correct, relay_comes_back, written_keeps_the_row}
use Rattle.relay_theorems.proofs.Numbers.{relay_room_is_enough, relay_write_room_is_enough, relay_numbers}
use Rattle.relay_theorems.proofs.Rowless.{rowless_codes}
use Rattle.relay_theorems.proofs.Alike.{walked_alike}
use Rattle.relay_theorems.proofs.RelayCases.{relay_cases_hold}

pub returns : goal.returns
returns c = (relay_reader_is_correct, relay_reads_the_row, relay_room_is_enough, relay_writer_is_correct, relay_write_room_is_enough, relay_numbers, relay_comes_back, written_keeps_the_row, relay_cases_hold, relay_cases_hold.2, rowless_codes, walked_alike)
