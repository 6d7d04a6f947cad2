-- `kinds::is_list` meets its contract, arm by arm. Assumes nothing.
use native.Mathlib.Omega.{arith}
use mathlib.Core.Path.{sym}
use Prim.Native.Nat.{◌%◌}
use mir.Syntax.{Arms}
use Rattle.kinds.proofs.Entries.{arms_of, unlisted}
use Rattle.kinds.proofs.ByKind.{list_3, list_7, list_10, list_12, list_13, listless, no_list}
use Rattle.kinds.proofs.is_list.Lts as lts
use Rattle.kinds.proofs.is_list.Goals as goal

-- as the code has them
abbrev arms : Arms
arms = arms_of lts.body

pub returns-in-3 : goal.returns-in-3
returns-in-3 c = sym (list_3 _ (omega arith) c.in-3.is)

pub returns-in-7 : goal.returns-in-7
returns-in-7 c = sym (list_7 _ (omega arith) c.in-7.is)

pub returns-in-10 : goal.returns-in-10
returns-in-10 c = sym (list_10 _ (omega arith) c.in-10.is)

pub returns-in-12 : goal.returns-in-12
returns-in-12 c = sym (list_12 _ (omega arith) c.in-12.is)

pub returns-in-13 : goal.returns-in-13
returns-in-13 c = sym (list_13 _ (omega arith) c.in-13.is)

pub returns-in_default : goal.returns-in_default
returns-in_default c = let n = c.args.row in
    sym (no_list n (omega arith) (unlisted listless arms (n % 16) tt (omega arith) c.in_default.in_default-own.rest))
