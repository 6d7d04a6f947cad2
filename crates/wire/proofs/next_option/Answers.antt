-- `wire::next_option` meets its contract: what is left of the field gives the same answer as the whole. Assumes nothing.
use mathlib.Core.Path.{ap, ◌∙◌}
use Rattle.wire.specs.Ahead.{next_of}
use Rattle.wire.proofs.Skips.{code_found, none_found}
use Rattle.wire.proofs.next_option.Goals as goal

pub returns-in_err-code_at : goal.returns-in_err-code_at
returns-in_err-code_at c = rw c.from_residual.ensures (none_found c.args.f.now c.args.from c.in_err-code_at.ensures)

pub item_at-requires : goal.item_at-requires
item_at-requires c = let y = code_found c.args.f.now c.args.from c.in_ok-code_at.field-0 c.in_ok-code_at.ensures in (y.inside, y.code)

pub returns : goal.returns
returns c = let y = code_found c.args.f.now c.args.from c.in_ok-code_at.field-0 c.in_ok-code_at.ensures in c.item_at.ensures ∙ ap next_of y.same
