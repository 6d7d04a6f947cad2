-- `text::put_decimal` meets its contract, by recursion on the number. Assumes nothing.
use mathlib.Core.Path.{sym}
use Rattle.text.proofs.Putting.{puts_as, puts_more}
use Rattle.text.proofs.Digits.{decimal_one, decimal_more}
use Rattle.text.proofs.+put_decimal.Goals as goal

pub returns-then-n-lt10 : goal.returns-then-n-lt10
returns-then-n-lt10 t c = puts_as (sym (decimal_one c.args.n c.if-n-lt10.true)) c.put_byte.ensures

pub returns : goal.returns
returns t c =
    puts_as (sym (decimal_more c.args.n c.if-n-lt10.false c.ranges.n.fits))
    (puts_more c.put_decimal-last.ensures c.put_byte-2.ensures)
