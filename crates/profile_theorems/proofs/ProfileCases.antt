-- The cases of the reply profile, by computing them. Assumes nothing.
use mathlib.Core.Path.{refl}
use Rattle.options.specs.Message.{end_to_end}
use Rattle.options.specs.Reading.{parse, judge, items, overload, all_fields, read_message, pieces}
use Rattle.options.specs.Kinds.{row_of, value_fault_value, fault, meaning, judged, addresses_of, numbers_of, rising, no_zero_first, trimmed, all_text}
use Rattle.options.specs.Profile.{out_of_order_value, broken_set, profile_of, profile}
use Rattle.options.specs.ProfileCases.{ProfileCasesHold}

pub profile_cases_hold : ProfileCasesHold
unfolding end_to_end parse judge items overload all_fields read_message pieces row_of value_fault_value fault meaning judged addresses_of numbers_of rising no_zero_first trimmed all_text out_of_order_value broken_set profile_of profile
profile_cases_hold = (refl, refl, refl, refl, refl, refl, refl, refl, refl, refl, refl, refl, refl, refl, refl, refl, refl, refl, refl, refl, refl, refl, refl, refl, refl, refl)
