-- `profile_theorems::proved` meets its contract: each statement by its proof. Assumes nothing.
use Rattle.profile_theorems.proofs.Profiles.{profile_is_correct}
use Rattle.profile_theorems.proofs.Invariance.{named_pieces_right, same_named_same_answer}
use Rattle.profile_theorems.proofs.ProfileCases.{profile_cases_hold}
use Rattle.profile_theorems.proofs.proved.Goals as goal

pub returns : goal.returns
returns c = (profile_is_correct, named_pieces_right, same_named_same_answer, profile_cases_hold)
