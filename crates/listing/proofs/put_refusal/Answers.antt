-- `listing::put_refusal` meets its contract. Assumes nothing.
use Rattle.text.proofs.Putting.{puts_as, puts_more}
use Rattle.listing.proofs.Lines.{refused_made}
use Rattle.listing.proofs.put_refusal.Goals as goal

pub returns : goal.returns
returns c = rw (← c.number.ensures) (puts_as (refused_made _ c.args.refusal.place)
    (puts_more (puts_more (puts_more (puts_more c.put_word-a.ensures c.put_decimal-b.ensures) c.put_byte-c.ensures)
    c.put_decimal-d.ensures) c.put_byte.ensures))
