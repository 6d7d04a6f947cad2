-- `dhcpopt_profile::proved` meets its contract. Assumes nothing.
use Rattle.dhcpopt_profile.proofs.Kept.{profile_by_case, profile_given_by_case, profile_kept}
use Rattle.dhcpopt_profile.proofs.proved.Goals as goal

pub returns : goal.returns
returns c = (profile_by_case, profile_given_by_case, profile_kept)
