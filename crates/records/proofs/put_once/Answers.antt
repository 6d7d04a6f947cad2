-- `records::put_once` meets its contract. Assumes nothing.
use native.Mathlib.Omega.{arith}
use mathlib.Core.Path.{refl}
use Rattle.records.proofs.put_once.Goals as goal

pub returns : goal.returns
returns c = rw c.wide.ensures.0 (record { next = omega arith; buffer = c.put_record.ensures }, refl)
