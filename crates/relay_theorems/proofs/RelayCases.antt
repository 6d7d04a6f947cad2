-- The cases of request 09, computed. Assumes nothing.
use mathlib.Core.Path.{refl}
use Rattle.options.specs.Answers.{record_bytes}
use Rattle.options.specs.SubOptions.{sub_options}
use Rattle.options.specs.SheetWalk.{records_from, ruled}
use Rattle.options.specs.Writing.{option_bytes}
use Rattle.options.specs.Vendor.{items_in, item_records}
use Rattle.options.specs.Relay.{relay_records_value, relay_sheet, relay_write_value}
use Rattle.relay_theorems.specs.Cases.{RelayCasesHold}

pub relay_cases_hold : RelayCasesHold
unfolding sub_options record_bytes option_bytes items_in item_records records_from ruled relay_records_value relay_sheet relay_write_value
relay_cases_hold = (refl, refl, record { last = refl; not_last = refl; first_14 = refl })
