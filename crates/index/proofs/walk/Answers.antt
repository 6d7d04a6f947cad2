-- `index::walk` meets its contract. Assumes nothing.
use mathlib.Core.Path.{◌≡◌, refl}
use native.Mathlib.Omega.{arith}
use Rattle.options.specs.Message.{options, file, sname, start}
use Rattle.options.specs.Message as asked
use Rattle.message.specs.Fields.{field_of}
use Rattle.index.proofs.Looked.{walking_first, walking_on, walking_none}
use Rattle.index.proofs.walk.Goals as goal

not_first : (fd : asked.Field) → start fd ≡ 0 → ⊥
not_first options e = omega arith
not_first file e = omega arith
not_first sname e = omega arith

pub loop-i-preserved-in-Some : goal.loop-i-preserved-in-Some
loop-i-preserved-in-Some c = rw (c.wide.ensures.0, c.base-base.ensures.0)
    (walking_first c.loop-i.invariant (not_first (field_of c.args.field)) c.loop-i-test.true c.in-Some.e c.in-Some.ensures)

pub loop-i-smaller : goal.loop-i-smaller
loop-i-smaller c = let x = rw c.in-Some-2.is at c.in_ok-next.ensures in omega (arith, x.onward, c.loop-i-test.true)

pub loop-i-preserved : goal.loop-i-preserved
loop-i-preserved c = walking_on c.loop-i.invariant c.in-Some-2.next.at c.in-Some-2.next.over c.look.new.index (rw c.in-Some-2.is at c.in_ok-next.ensures)

pub returns : goal.returns
returns c = walking_none c.loop-i.invariant (omega (arith, c.loop-i-test.false)) c.at.result (rw c.at.ensures refl) (rw (c.at.ensures, c.base-base.ensures.0) refl)
