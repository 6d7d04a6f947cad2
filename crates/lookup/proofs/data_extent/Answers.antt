-- `lookup::data_extent` meets its contract. Assumes nothing.
use native.Mathlib.Omega.{arith}
use mathlib.Core.Path.{ap, ◌∙◌}
use Rattle.message.proofs.Callers.{all_bytes}
use Rattle.lookup.specs.Found.{part_given}
use Rattle.lookup.proofs.Laws.{data_part}
use Rattle.lookup.proofs.data_extent.Goals as goal

pub returns : goal.returns
returns c = c.clip.ensures ∙ ap part_given c.one_piece.ensures ∙ data_part c.args.m.now c.args.code (all_bytes c.args.m.now (λ i. omega (arith, c.type_inv.m i)))
