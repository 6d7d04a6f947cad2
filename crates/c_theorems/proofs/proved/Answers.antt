-- `c_theorems::proved` meets its contract. Assumes nothing.
use Rattle.c_theorems.proofs.Fills.{records_refused, copy_refused, vendor_records_refused, vendor_write_refused, build_refused, choose_refused, group_refused, ungroup_refused}
use Rattle.c_theorems.proofs.Calls.{lookup_refused, index_lookup_refused, data_refused, text_refused, present_refused, write_refused, no_room_for_c, check_refused}
use Rattle.c_theorems.proofs.RelayRefused.{relay_records_refused, relay_write_refused}
use Rattle.c_theorems.proofs.Shown.{lookup_for_c, absent_for_c, index_lookup_for_c, data_for_c, copy_for_c, present_for_c, addresses_for_c}
use Rattle.c_theorems.proofs.Profiled.{profile_refused, profile_for_c, same_named_for_c}
use Rattle.c_theorems.proofs.Written.{sheet_back_for_c, demand_3_for_c, others_for_c}
use Rattle.c_theorems.proofs.Routed.{routes_write_refused, ignored_refused, ignored_for_c, route_step_for_c, routes_for_c, routes_back_for_c}
use Rattle.c_theorems.proofs.proved.Goals as goal

pub returns : goal.returns
returns c = (
  lookup_refused,
  index_lookup_refused,
  data_refused,
  text_refused,
  present_refused,
  records_refused,
  copy_refused,
  vendor_records_refused,
  build_refused,
  write_refused,
  no_room_for_c,
  vendor_write_refused,
  check_refused,
  choose_refused,
  group_refused,
  ungroup_refused,
  relay_records_refused,
  relay_write_refused,
  lookup_for_c,
  absent_for_c,
  index_lookup_for_c,
  data_for_c,
  copy_for_c,
  present_for_c,
  addresses_for_c,
  profile_refused,
  profile_for_c,
  same_named_for_c,
  sheet_back_for_c,
  demand_3_for_c,
  others_for_c,
  routes_write_refused,
  ignored_refused,
  ignored_for_c,
  route_step_for_c,
  routes_for_c,
  routes_back_for_c,
)
