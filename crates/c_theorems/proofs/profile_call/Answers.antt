-- `c_theorems::profile_call` meets its contract. Assumes nothing.
use Rattle.c_theorems.proofs.Profiled.{profile_refused, profile_for_c}
use Rattle.c_theorems.proofs.profile_call.Goals as goal

pub returns : goal.returns
returns c = let m = c.args.m.now in
    let e = c.dhcpopt_profile.ensures in
    (profile_refused m _ e, λ a y. (profile_for_c m _ a y).0 e)
