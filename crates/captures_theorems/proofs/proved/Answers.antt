-- `captures_theorems::proved` meets its contract. Assumes nothing.
use Rattle.captures_theorems.proofs.Files.{capture_is_correct}
use Rattle.captures_theorems.proofs.Sums.{sum_is_messages}
use Rattle.captures_theorems.proofs.Tallies.{tally_is_correct}
use Rattle.captures_theorems.proofs.Runs.{however_filled, fed_by_parts, prints_the_report, no_sum_wraps}
use Rattle.captures_theorems.proofs.Reports.{report_is_correct}
use Rattle.captures_theorems.proofs.CaptureCases.{capture_cases_hold}
use Rattle.captures_theorems.proofs.proved.Goals as goal

pub returns : goal.returns
returns c =
    (capture_is_correct, (tally_is_correct, (sum_is_messages, (however_filled, (fed_by_parts, (no_sum_wraps, (report_is_correct, (prints_the_report, capture_cases_hold))))))))
