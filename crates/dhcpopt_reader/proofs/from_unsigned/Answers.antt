-- `dhcpopt_reader::from_unsigned` meets its contract. Assumes nothing.
use borrow.Author.Rules.{rules}
use native.Mathlib.Omega.{arith}
use mir.Syntax.{w32, w64}
use mir.Val.{Fits}
use mir.ValLaws.{to_z_pos}
use Rattle.dhcpopt_reader.proofs.from_unsigned.Goals as goal

pub returns : goal.returns
returns c = let h : Fits w32 c.args.n = search rules in to_z_pos w64 c.args.n (omega (arith, h.fits))
