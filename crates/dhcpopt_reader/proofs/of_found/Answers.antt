-- `dhcpopt_reader::of_found` meets its contract. Assumes nothing.
use mathlib.Core.Path.{◌≡◌}
use mir.Syntax.{w64}
use mir.Val.{to_z, of_z}
use mir.ValLaws.{to_z-of_z}
use Rattle.lookup.specs.Shown.{origin_of}
use Rattle.dhcpopt_reader.proofs.Laws.{found_is}
use Rattle.dhcpopt_reader.proofs.of_found.Goals as goal

pub returns : goal.returns
returns c = let e : to_z w64 (of_z w64 c.from-c.result.number) ≡ c.from-c.result.number = to_z-of_z w64 _ (record { sfits = c.struct_told-1.given.1.1.1.0.1 }) in
    found_is (origin_of c.args.found.origin) c.from-c.result _ _ _ _ _ _ _ c.from-c.ensures c.field_number.ensures c.base.ensures.0
    c.place_of.ensures e c.whole_of.ensures c.several_of.ensures
