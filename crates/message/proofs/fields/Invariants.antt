-- `message::fields` meets its contract: at each turn the fields that are left give the same as all. Assumes nothing.
use Rattle.message.proofs.Turns.{Turning}
use denote.Param.{number}
use Rattle.message.specs.contracts.fields.{MARKED-type}
use Rattle.message.proofs.fields.Given as goal

abbrev pub invariant-loop-field : goal.invariant-loop-field
invariant-loop-field g l = Turning l.watched (MARKED-type (number g.row.MARKED)) l.want l.first l.m l.initial.set l.field-index l.s l.set
