-- The cases of the report of captures, by computing them. Assumes nothing.
use mathlib.Core.Path.{refl}
use Rattle.options.specs.Message.{end_to_end}
use Rattle.options.specs.Reading.{parse, judge, items, overload, all_fields, read_message, pieces}
use Rattle.options.specs.Kinds.{row_of, value_fault_value, fault, meaning, judged, addresses_of, numbers_of, rising, no_zero_first, trimmed, all_text}
use Rattle.options.specs.Answers.{decimal_in, accepted_line, refused_line}
use Rattle.options.specs.SheetWalk.{records_from}
use Rattle.options.specs.Captures.{captured, capture_of, table, total, lease_span, tally_of, raised, noted_as, step, fed, fed_by, messages_line, refusals_line, refusals_lines, code_line, code_lines, lease_line, report_of, report}
use Rattle.options.specs.CaptureCases.{CaptureCasesHold}

pub capture_cases_hold : CaptureCasesHold
unfolding end_to_end parse judge items overload all_fields read_message pieces row_of value_fault_value fault meaning judged addresses_of numbers_of rising no_zero_first trimmed all_text decimal_in accepted_line refused_line records_from captured capture_of table total lease_span tally_of raised noted_as step fed fed_by messages_line refusals_line refusals_lines code_line code_lines lease_line report_of report
capture_cases_hold = (refl, refl, refl, refl, refl, refl, refl, refl, refl, refl, refl)
