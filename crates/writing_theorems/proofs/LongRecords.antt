-- The cases of long records, by computing them. Assumes nothing.
use mathlib.Core.Path.{refl}
use Rattle.options.specs.Message.{end_to_end}
use Rattle.options.specs.Reading.{parse, judge, items, overload, all_fields, read_message, pieces}
use Rattle.options.specs.Kinds.{row_of, value_fault_value, fault, meaning, judged, trimmed, all_text}
use Rattle.options.specs.SheetWalk.{records_from, ruled}
use Rattle.options.specs.Answers.{lookup, record_bytes, but52, further_data, joined_records, sheet_records, records, copy}
use Rattle.options.specs.Writing.{split_up, split_all, option_bytes, fits, field_bytes_value, in_options, past_options, in_file, past_file, in_sname, past_sname, written, plan_fits, sheet, try_plans, writer}
use Rattle.options.specs.LongCases.{LongCasesHold}

pub long_cases_hold : LongCasesHold
unfolding split_up records_from ruled sheet writer split_all option_bytes fits field_bytes_value in_options past_options in_file past_file in_sname past_sname written plan_fits try_plans row_of value_fault_value fault meaning judged trimmed all_text parse judge items overload all_fields read_message pieces end_to_end lookup copy further_data joined_records sheet_records record_bytes but52 records
long_cases_hold = (refl, refl, refl, refl, refl, refl, refl)
