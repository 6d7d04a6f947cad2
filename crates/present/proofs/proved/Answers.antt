-- `present::proved` meets its contract. Assumes nothing.
use Rattle.present.proofs.Kept.{refused_by_a_number, codes_by_case, shown_by_case}
use Rattle.present.proofs.proved.Goals as goal

pub returns : goal.returns
returns c = (codes_by_case, shown_by_case, refused_by_a_number)
