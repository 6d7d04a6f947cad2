-- `dhcpopt_reader::dhcpopt_lookup` meets its contract. Assumes nothing.
use mathlib.Core.Path.{ap, ◌∙◌}
use mathlib.Core.List.{[], ◌∷◌}
use Rattle.options.specs.CodeSet.{marked}
use Rattle.dhcpopt_reader.specs.Plain.{plain_answer}
use Rattle.dhcpopt_reader.proofs.Laws.{answer_near}
use Rattle.dhcpopt_reader.proofs.dhcpopt_lookup.Goals as goal

pub of_answer-requires : goal.of_answer-requires
of_answer-requires c = answer_near (marked (c.args.k0 ∷ c.args.k1 ∷ c.args.k2 ∷ c.args.k3 ∷ [])) c.args.m.now c.args.code _ c.lookup.ensures

pub returns : goal.returns
returns c = c.of_answer.ensures ∙ ap plain_answer c.lookup.ensures
