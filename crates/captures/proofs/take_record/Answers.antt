-- `captures::take_record` meets its contract. Assumes nothing.
use Rattle.captures.specs.Standing.{told_by}
use Rattle.captures.proofs.Stages.{body_of, record_size, record_long, takes_record}
use Rattle.captures.proofs.take_record.Goals as goal

pub returns-clause-takes : goal.returns-clause-takes
returns-clause-takes c = let w = c.requires.2 in
    λ message. rw c.behind.ensures (takes_record c.args.run.now (told_by c.args.p) message _ _ _ w c.requires.0 c.requires.1 _ (record_size w) _ _ _ _ (rw (body_of w) at c.note-time.ensures.notes))
