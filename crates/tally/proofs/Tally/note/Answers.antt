-- `tally::Tally::note` meets its contract. Assumes nothing.
use Rattle.message.proofs.Callers.{all_bytes}
use Rattle.tally.proofs.Noting.{noted_refused, noted_accepted, fields_end}
use Rattle.tally.proofs.Tally.note.Goals as goal

pub count_options-requires : goal.count_options-requires
count_options-requires c = fields_end c.args.m.now c.in-Ok.w c.in-Ok.ensures (all_bytes c.args.m.now (λ i. (c.type_inv.m i).fits))

pub returns-in-Ok-clause-notes : goal.returns-in-Ok-clause-notes
returns-in-Ok-clause-notes c = noted_accepted c.args.m.now _ _ _ _ c.in-Ok.w c.in-Ok.ensures (all_bytes c.args.m.now (λ i. (c.type_inv.m i).fits)) c.raise.ensures _ _ c.count_options.ensures _ c.time_in.ensures

pub returns-in-Err-clause-notes : goal.returns-in-Err-clause-notes
returns-in-Err-clause-notes c = let e = c.refuse.ensures.raises in
    rw (e.1, e.2) (noted_refused c.args.m.now _ _ _ _ c.in-Err.refusal.rule c.in-Err.refusal.place c.in-Err.ensures e.0)
