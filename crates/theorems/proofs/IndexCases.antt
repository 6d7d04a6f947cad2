-- The cases of an index, by computing them. Assumes nothing.
use mathlib.Core.Path.{refl}
use Rattle.options.specs.Message.{end_to_end}
use Rattle.options.specs.Reading.{parse, judge, items, overload, all_fields, read_message, pieces}
use Rattle.options.specs.Kinds.{row_of, value_fault_value, fault, meaning, judged, addresses_of, numbers_of, rising, no_zero_first, trimmed, all_text}
use Rattle.options.specs.Answers.{lookup}
use Rattle.options.specs.Index.{entries_from, index_of, used_entry, build, by_entry, lookup_by}
use Rattle.options.specs.IndexCases.{IndexCasesHold}

pub index_cases_hold : IndexCasesHold
unfolding end_to_end parse judge items overload all_fields read_message pieces row_of value_fault_value fault meaning judged addresses_of numbers_of rising no_zero_first trimmed all_text lookup entries_from index_of used_entry build by_entry lookup_by
index_cases_hold = (refl, refl, refl, refl, refl, refl, refl, refl, refl, refl, refl, refl, refl, refl, refl, refl, refl, refl, refl, refl, refl, refl, refl, refl, refl, refl)
