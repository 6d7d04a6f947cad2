-- `vendor_theorems::proved` meets its contract: each statement by its proof. Assumes nothing.
use Rattle.vendor_theorems.proofs.Items.{vendor_reader_is_correct, vendor_room_is_enough}
use Rattle.vendor_theorems.proofs.Writing.{vendor_writer_is_correct, vendor_comes_back}
use Rattle.vendor_theorems.proofs.Numbers.{vendor_write_room_is_enough, vendor_numbers}
use Rattle.vendor_theorems.proofs.VendorCases.{vendor_cases_hold}
use Rattle.vendor_theorems.proofs.proved.Goals as goal

pub returns : goal.returns
returns c = (
  vendor_reader_is_correct,
  vendor_room_is_enough,
  vendor_writer_is_correct,
  vendor_write_room_is_enough,
  vendor_numbers,
  vendor_comes_back,
  vendor_cases_hold,
)
