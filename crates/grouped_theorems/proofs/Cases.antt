-- The cases of grouped sheets, computed. Assumes nothing.
use mathlib.Core.Path.{refl}
use Rattle.options.specs.Answers.{record_bytes}
use Rattle.options.specs.SheetWalk.{records_from, ruled}
use Rattle.options.specs.Grouped.{members, body, file_of, fault_of, check, chosen, choice, move, go_back}
use Rattle.options.specs.GroupedCases.{run, CasesHold, ChecksHold}

pub cases_hold : CasesHold
unfolding run record_bytes records_from ruled members body file_of fault_of check chosen choice move go_back
cases_hold = refl

pub checks_hold : ChecksHold
unfolding records_from members body file_of fault_of check
checks_hold = refl
