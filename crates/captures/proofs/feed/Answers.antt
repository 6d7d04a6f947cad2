-- `captures::feed` meets its contract. Assumes nothing.
use Rattle.std.proofs.Common.{refl, ◌∙◌}
use Rattle.captures.proofs.Runs.{feeding_first, feeding_more}
use Rattle.captures.proofs.feed.Goals as goal

pub loop-rest-init : goal.loop-rest-init
loop-rest-init c = (record { verdicts_same = refl; held_same = refl; bytes_same = refl }, feeding_first _ _ _ _ _ _)

pub loop-rest-preserved : goal.loop-rest-preserved
loop-rest-preserved c = let before = c.loop-rest.invariant in
    let e = c.take_run-q.ensures in (
      record { verdicts_same = e.same.verdicts_same ∙ before.0.verdicts_same; held_same = e.same.held_same ∙ before.0.held_same; bytes_same = e.same.bytes_same ∙ before.0.bytes_same },
      rw c.split_at.ensures.back (feeding_more before.1 c.run_length.result _ _ _ _ _ (rw c.split_at.ensures.front at e.takes)),
    )
