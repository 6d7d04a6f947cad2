-- `message::last` meets its contract. Assumes nothing.
use mathlib.Core.Path.{ap, ◌∙◌}
use Rattle.refusal.specs.declared.Refusal.{Refusal}
use Rattle.refusal.specs.Refused.{number_of}
use Rattle.message.specs.Walk.{stopped_at}
use Rattle.message.proofs.Walks.{last_none, last_end, last_pad, last_cut}
use borrow.Author.Rules.{rules}
use Rattle.message.proofs.last.Goals as goal

pub returns-then-f-i : goal.returns-then-f-i
returns-then-f-i c = c.ran_out.ensures ∙ last_none c.args.f.now c.args.i c.args.base c.args.met.used c.args.met.count c.args.met.kept c.if-f-i.true

pub returns-in-255 : goal.returns-in-255
returns-in-255 c = last_end c.args.f.now c.args.i c.args.base c.args.met.used c.args.met.count c.args.met.kept c.if-f-i.false c.in-255.is

pub returns-in-0 : goal.returns-in-0
returns-in-0 c = c.ran_out-in-0.ensures ∙ last_pad c.args.f.now c.args.i c.args.base c.args.met.used c.args.met.count c.args.met.kept c.if-f-i.false c.requires.3 c.in-0.is

pub returns-in_default : goal.returns-in_default
returns-in_default c =
    ap (λ (r : Refusal). stopped_at (number_of r.rule) r.place) c.at.ensures
    ∙ last_cut c.args.f.now c.args.i c.args.base c.args.met.used c.args.met.count c.args.met.kept c.if-f-i.false c.requires.3 (search rules) (search rules)
