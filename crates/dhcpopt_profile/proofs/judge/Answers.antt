-- `dhcpopt_profile::judge` meets its contract. Assumes nothing.
use mathlib.Core.Path.{◌≡◌, sym}
use Prim.Native.Nat.{ℕ}
use lib.ListN.{length, replicate, length-replicate}
use Rattle.std.proofs.lemmas.Result.{err_from_is_err_and}
use Rattle.dhcpopt_profile.proofs.Calls.{profile_refused, is_built, profile_built}
use Rattle.dhcpopt_profile.proofs.judge.Goals as goal

-- the numbers as `build_anew` takes them
long : length (replicate {A = ℕ} 256 0) ≡ 256
long = length-replicate {A = ℕ} 256 0

pub returns-in_err-build_anew : goal.returns-in_err-build_anew
returns-in_err-build_anew c = let p = err_from_is_err_and c.from_residual.result c.from_residual.ensures.1 in
    rw (p.1, p.2) (profile_refused c.args.m.now _ _ long c.in_err-build_anew.field-0.0 c.in_err-build_anew.ensures)

pub slice_bounds-judged-end : goal.slice_bounds-judged-end
slice_bounds-judged-end c = sym (is_built c.args.m.now _ _ long _ c.in_ok-build_anew.ensures).numbers

pub judged-requires : goal.judged-requires
judged-requires c = is_built c.args.m.now _ _ long _ c.in_ok-build_anew.ensures

pub returns : goal.returns
returns c = profile_built c.args.m.now (replicate 256 0) c.build_anew.new.index long (is_built c.args.m.now _ _ long _ c.in_ok-build_anew.ensures) c.judged.result c.judged.ensures
