-- `field_writer::close` meets its contract. Assumes nothing.
use Rattle.std.proofs.Common.{◌≡◌, length, arith, rules}
use Prim.Native.Nat.{suc}
use Rattle.field_writer.proofs.Bytes.{some_end, no_end}
use Rattle.field_writer.proofs.close.Goals as goal

pub returns-in-Some : goal.returns-in-Some
returns-in-Some c =
    let n : length c.args.room.now ≡ suc (length c.in-Some.rest.now) = omega (arith, c.in-Some.ensures.cases.1) in
    rw n (some_end _ _ (c.fill.ensures.after (λ y e. search rules)))

pub returns-in_default : goal.returns-in_default
returns-in_default c = no_end c.args.room.now (search rules)
