-- `dhcpopt_writer::dhcpopt_write` meets its contract. Assumes nothing.
use mathlib.Core.Path.{ap, ◌∙◌}
use Rattle.options.specs.Kinds.{kinds}
use Rattle.options.specs.Writing as options
use Rattle.plan.specs.Answer.{single_of}
use Rattle.dhcpopt_writer.specs.Plain.{plain_of}
use Rattle.dhcpopt_writer.proofs.Laws.{plain_answer_lem}
use Rattle.dhcpopt_writer.proofs.dhcpopt_write.Goals as goal

pub returns : goal.returns
returns c = let written = c.write.ensures in
    let w : options.Wrote = options.writer kinds c.args.s.now c.args.m.now c.args.permission in
    (c.from.ensures ∙ ap plain_of written.answer ∙ plain_answer_lem (single_of c.args.s.now) w, written.buffer)
