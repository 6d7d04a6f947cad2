-- `dhcpopt_reader::from_signed` meets its contract. Assumes nothing.
use borrow.Author.Rules.{rules}
use native.Mathlib.Omega.{arith}
use mir.Syntax.{w32, w64}
use mir.Val.{SFits}
use mir.ValLaws.{to_z-of_z}
use Rattle.dhcpopt_reader.proofs.from_signed.Goals as goal

pub overflow_cast-result : goal.overflow_cast-result
overflow_cast-result c = rw (to_z-of_z w32 c.args.z ((let fits32₁ : SFits w32 c.args.z = search rules in fits32₁))) ((let fits64₁ : SFits w64 c.args.z = record { sfits = omega (arith, ((let fits32₁ : SFits w32 c.args.z = search rules in fits32₁)).sfits) } in fits64₁))

pub returns : goal.returns
returns c = rw (to_z-of_z w32 c.args.z ((let fits32₁ : SFits w32 c.args.z = search rules in fits32₁))) (to_z-of_z w64 c.args.z ((let fits64₁ : SFits w64 c.args.z = record { sfits = omega (arith, ((let fits32₁ : SFits w32 c.args.z = search rules in fits32₁)).sfits) } in fits64₁)))
