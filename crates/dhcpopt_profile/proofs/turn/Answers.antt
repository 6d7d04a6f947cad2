use mathlib.Core.Path.{refl}
use native.Mathlib.Omega.{arith}
use borrow.Author.Tests.{le-leb, lt-leb}
use Rattle.dhcpopt_profile.proofs.turn.Goals as goal

-- src/lib.rt:128:9
pub returns-then-place-ge240 : goal.returns-then-place-ge240
returns-then-place-ge240 c = rw (le-leb 240 c.args.place c.if-place-ge240.true) refl

-- src/lib.rt:124:1
pub returns-then-place-ge108 : goal.returns-then-place-ge108
returns-then-place-ge108 c = let p = c.args.place in
    rw (lt-leb 240 p (omega (arith, c.if-place-ge240.false)), le-leb 108 p c.if-place-ge108.true) refl

-- src/lib.rt:124:1
pub returns-else-place-ge108 : goal.returns-else-place-ge108
returns-else-place-ge108 c = let p = c.args.place in
    rw (lt-leb 240 p (omega (arith, c.if-place-ge240.false)), lt-leb 108 p (omega (arith, c.if-place-ge108.false))) refl
