-- `kinds::kind` meets its contract: by the number of the code's row. Assumes nothing.
use mathlib.Core.Path.{ap, ◌∙◌}
use Rattle.options.specs.Kinds.{kind_of}
use Rattle.kinds.specs.Numbers.{kind_numbered, kind_from}
use Rattle.kinds.proofs.Numbering.{kind_numbered_lem, numbers_keep_the_kind}
use Rattle.kinds.proofs.kind.Goals as goal

pub returns : goal.returns
returns c = c.kind_in.ensures ∙ ap (λ n. kind_from (kind_numbered n)) c.row.ensures ∙ ap kind_from (kind_numbered_lem c.args.c) ∙ numbers_keep_the_kind (kind_of c.args.c)
