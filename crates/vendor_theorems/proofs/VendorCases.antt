-- The cases of vendor information, by computing them. Assumes nothing.
use mathlib.Core.Path.{refl}
use Rattle.options.specs.Reading.{parse}
use Rattle.options.specs.Answers.{record_bytes}
use Rattle.options.specs.SheetWalk.{records_from, ruled}
use Rattle.options.specs.Writing.{option_bytes}
use Rattle.options.specs.Vendor.{items_in, item_records, vendor_records_value, vendor_sheet, vendor_write_value}
use Rattle.options.specs.VendorCases.{VendorCasesHold}

pub vendor_cases_hold : VendorCasesHold
unfolding parse record_bytes option_bytes items_in item_records records_from ruled vendor_records_value vendor_sheet vendor_write_value
vendor_cases_hold = refl
