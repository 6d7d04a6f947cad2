-- `kinds::number_fault` meets its contract, arm by arm. Assumes nothing.
use native.Mathlib.Omega.{arith}
use mathlib.Core.Path.{◌≡◌, ap, ◌∙◌}
use Prim.Native.Nat.{◌%◌}
use mir.Syntax.{Arms}
use Rattle.options.specs.Kinds.{from_to_value, or_nine_value, value_fault_value}
use Rattle.kinds.proofs.Entries.{arms_of, unlisted}
use Rattle.kinds.proofs.ByKind.{list_4, list_5, list_6, value_4, octet_rule, number16_rule, numberless, no_number}
use Rattle.kinds.proofs.number_fault.Lts as lts
use Rattle.kinds.proofs.number_fault.Goals as goal

-- as the code has them
abbrev arms : Arms
arms = arms_of lts.body

pub returns-in-4 : goal.returns-in-4
unfolding value_fault_value
returns-in-4 c = let k = c.in-4.is in
    let e : c.from_to.result ≡ from_to_value 0 1 c.byte.result = c.from_to.ensures in
    rw (list_4 _ (omega arith) k, value_4 _ (omega arith) k, ← c.byte.ensures) (c.or_nine.ensures ∙ ap or_nine_value e)

pub returns-in-5 : goal.returns-in-5
returns-in-5 c = rw (list_5 c.args.row (omega arith) c.in-5.is, octet_rule c.args.row (omega arith) c.in-5.is c.args.d.now, ← c.byte-in-5.ensures, ← c.octet_fits.ensures) c.or_nine-in-5.ensures

pub returns-in-6 : goal.returns-in-6
returns-in-6 c = rw (list_6 c.args.row (omega arith) c.in-6.is, number16_rule c.args.row (omega arith) c.in-6.is c.args.d.now, ← c.first16.ensures, ← c.number16_fits.ensures) c.or_nine-in-6.ensures

pub returns-in_default : goal.returns-in_default
returns-in_default c = no_number c.args.row (omega arith) (unlisted numberless arms (c.args.row % 16) tt (omega arith) c.in_default.in_default-own.rest) c.args.d.now
