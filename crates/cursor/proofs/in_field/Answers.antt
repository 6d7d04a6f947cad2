-- `cursor::in_field` meets its contract. Assumes nothing.
use mathlib.Core.Path.{sym, ◌∙◌}
use Rattle.std.proofs.Common.{rules}
use Rattle.cursor.proofs.Fields.{step_inactive, step_active}
use Rattle.cursor.proofs.in_field.Goals as goal

pub returns-then-not-active : goal.returns-then-not-active
returns-then-not-active c = step_inactive c.args.over c.args.m.now c.args.field c.args.from (sym c.active.ensures ∙ c.if-not-active.true)

pub returns : goal.returns
returns c = rw (sym (step_active c.args.over c.args.m.now c.args.field c.args.from c.next_option.result _ (sym c.active.ensures ∙ c.if-not-active.false) c.field_bytes.ensures c.next_option.ensures)) (search rules)
