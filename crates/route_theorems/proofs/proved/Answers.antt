-- `route_theorems::proved` meets its contract. Assumes nothing.
use Rattle.route_theorems.proofs.proved.Goals as goal
use Rattle.route_theorems.proofs.Steps.{cleared_bits, steps_give_the_routes, step_is_the_route, done_is_where, walk_ends}
use Rattle.route_theorems.proofs.Written.{route_writer_is_correct, routes_walk_back}
use Rattle.route_theorems.proofs.Ignored.{routes_fill_the_data, ignored_as_looked_up, ignored_is_correct}
use Rattle.route_theorems.proofs.Numbers.{routes_room_is_enough, route_numbers}
use Rattle.route_theorems.proofs.Cases.{route_cases_hold}

pub returns : goal.returns
returns c = (routes_fill_the_data, cleared_bits, steps_give_the_routes, step_is_the_route, done_is_where, walk_ends, route_writer_is_correct, routes_room_is_enough, routes_walk_back, ignored_as_looked_up, ignored_is_correct, route_numbers, route_cases_hold)
