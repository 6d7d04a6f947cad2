-- `listing::put_line` meets its contract. Assumes nothing.
use Rattle.message.specs.Fields.{field_of}
use Rattle.text.proofs.Putting.{puts_as, puts_more}
use Rattle.listing.proofs.Lines.{line_made}
use Rattle.listing.proofs.put_line.Goals as goal

pub returns : goal.returns
returns c = let numbers =
    puts_more (puts_more (puts_more (puts_more c.put_decimal-a.ensures c.put_byte-b.ensures) c.put_decimal-c.ensures) c.put_byte-d.ensures) c.put_decimal-e.ensures in
    puts_as (line_made c.args.code c.args.start c.args.len (field_of c.args.field))
    (puts_more (puts_more (puts_more numbers c.put_byte-f.ensures) c.put_name-g.ensures) c.put_byte.ensures)
