-- The cases of classless routes, computed. Assumes nothing.
use mathlib.Core.Path.{refl}
use Rattle.options.specs.Message.{end_to_end}
use Rattle.options.specs.Reading.{parse, judge, items, overload, all_fields, read_message, pieces}
use Rattle.options.specs.Kinds.{row_of, value_fault_value, fault, meaning, judged, routes_fault_value}
use Rattle.options.specs.Answers.{lookup}
use Rattle.options.specs.Routes.{route_in, route_step, is_faulty_value, faulty_from, first_faulty, route_bytes, write_routes, ignored}
use Rattle.options.specs.RouteCases.{RouteCasesHold}

pub route_cases_hold : RouteCasesHold
unfolding end_to_end parse judge items overload all_fields read_message pieces row_of value_fault_value fault meaning judged routes_fault_value lookup route_in route_step is_faulty_value faulty_from first_faulty route_bytes write_routes ignored
route_cases_hold = refl
