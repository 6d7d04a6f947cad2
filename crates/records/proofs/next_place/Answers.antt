-- `records::next_place` meets its contract. Assumes nothing.
use native.Mathlib.Omega.{arith}
use mathlib.Core.Path.{sym, ◌∙◌}
use borrow.Author.Tests.{le-leb, lt-leb}
use Rattle.records.specs.Places.{field_at}
use Rattle.records.proofs.next_place.Goals as goal

pub returns-then-i-lt108 : goal.returns-then-i-lt108
unfolding field_at
returns-then-i-lt108 c = let i = c.args.i in rw (lt-leb 240 i (omega (arith, c.if-i-lt108.true)), lt-leb 108 i c.if-i-lt108.true)

pub returns-then-i-lt240 : goal.returns-then-i-lt240
unfolding field_at
returns-then-i-lt240 c = let i = c.args.i in
    rw (lt-leb 240 i c.if-i-lt240.true, le-leb 108 i (omega (arith, c.if-i-lt108.false))) c.sname_place.ensures

pub returns-then-file_on : goal.returns-then-file_on
unfolding field_at
returns-then-file_on c = let i = c.args.i in
    rw (le-leb 240 i (omega (arith, c.if-i-lt240.false)), sym c.file_on.ensures ∙ c.if-file_on.true)

pub returns : goal.returns
unfolding field_at
returns c = let i = c.args.i in
    rw (le-leb 240 i (omega (arith, c.if-i-lt240.false)), sym c.file_on.ensures ∙ c.if-file_on.false) c.sname_place-2.ensures
