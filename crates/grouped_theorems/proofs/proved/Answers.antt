-- `grouped_theorems::proved` meets its contract: each statement by its proof. Assumes nothing.
use Rattle.grouped_theorems.proofs.Rows.{check_is_correct}
use Rattle.grouped_theorems.proofs.Calls.{choice_is_correct, chosen_is_short, back_is_correct, goes_back_iff}
use Rattle.grouped_theorems.proofs.Moving.{move_is_correct, empty_moves}
use Rattle.grouped_theorems.proofs.Numbers.{grouped_room_is_enough, grouped_numbers}
use Rattle.grouped_theorems.proofs.Rounds.{moved_comes_back, moved_is_chosen, back_moves_again}
use Rattle.grouped_theorems.proofs.Demands.{records_are_chosen, chosen_comes_back, chosen_demand_3}
use Rattle.grouped_theorems.proofs.Cases.{cases_hold, checks_hold}
use Rattle.grouped_theorems.proofs.proved.Goals as goal

pub returns : goal.returns
returns c = (
  check_is_correct,
  choice_is_correct,
  chosen_is_short,
  move_is_correct,
  empty_moves,
  back_is_correct,
  grouped_room_is_enough,
  grouped_numbers,
  moved_comes_back,
  moved_is_chosen,
  back_moves_again,
  goes_back_iff,
  records_are_chosen,
  chosen_comes_back,
  chosen_demand_3,
  cases_hold,
  checks_hold,
)
