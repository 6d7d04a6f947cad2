-- `kinds::text_fits` meets its contract: each byte of the text is judged by itself. Assumes nothing.
use Rattle.std.proofs.Common.{rules, tests}
use native.Mathlib.Omega.{arith}
use mathlib.Core.Path.{ap, ◌∙◌}
use lib.ListN.{take}
use lib.Seq.{length-take-le}
use Rattle.std.proofs.lemmas.Iterator.{YieldsList-from_slice}
use Rattle.std.proofs.lemmas.Iterator.Search.{all_from_yields_List}
use Rattle.options.specs.Kinds.{all_text, from_to_value}
use Rattle.kinds.proofs.Walks.{trimmed_within, all_is_text}
use Rattle.kinds.proofs.text_fits.Goals as goal

pub slice_bounds-iter-end : goal.slice_bounds-iter-end
slice_bounds-iter-end c = omega (arith, length-take-le c.text_len.result c.args.t.now (omega (arith, c.text_len.ensures, trimmed_within c.args.t.now)))

pub returns : goal.returns
returns c =
    let xs = take c.text_len.result c.args.t.now in
    all_from_yields_List (from_to_value 1 127) _ _ _ c.all.ensures.ran (YieldsList-from_slice xs cc) (λ x b q k. search (rules, tests))
    ∙ all_is_text xs
    ∙ ap (λ n. all_text (take n c.args.t.now)) c.text_len.ensures
