-- `listing::put_count` meets its contract. Assumes nothing.
use Rattle.text.proofs.Putting.{puts_as, puts_more}
use Rattle.listing.proofs.Lines.{accepted_made}
use Rattle.listing.proofs.put_count.Goals as goal

pub returns : goal.returns
returns c = puts_as (accepted_made c.args.n) (puts_more (puts_more c.put_word-a.ensures c.put_decimal-b.ensures) c.put_byte.ensures)
