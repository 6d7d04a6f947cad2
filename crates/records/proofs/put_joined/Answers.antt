-- `records::put_joined` meets its contract. Assumes nothing.
use native.Mathlib.Omega.{arith}
use mathlib.Core.Path.{◌≡◌}
use Prim.Native.Nat.{◌+◌, ◌-◌}
use lib.ListN.{length, length-set}
use Rattle.records.specs.Places.{joined_at}
use Rattle.records.proofs.Joining.{put_length, put_size, put_next, headed}
use Rattle.records.proofs.put_joined.Goals as goal

pub overflow_sub-n : goal.overflow_sub-n
overflow_sub-n c = put_next c.args.out.now c.args.at c.args.code (joined_at c.args.over c.args.m.now c.args.from c.args.code) c.join-e.new.out c.join-e.result c.requires.2 c.join-e.ensures

pub overflow_cast-out : goal.overflow_cast-out
overflow_cast-out c = record { fits = omega (arith, (let size₁ : c.join-e.result - (c.args.at + 3) ≡ length (joined_at c.args.over c.args.m.now c.args.from c.args.code) = put_size c.args.out.now c.args.at c.args.code (joined_at c.args.over c.args.m.now c.args.from c.args.code) c.join-e.new.out c.join-e.result c.requires.2 c.join-e.ensures in size₁), c.requires.3) }

pub bounds-out-at-2 : goal.bounds-out-at-2
bounds-out-at-2 c = simp length-set (omega (arith, (let long₁ : length c.join-e.new.out ≡ length c.args.out.now = put_length c.args.out.now c.args.at c.args.code (joined_at c.args.over c.args.m.now c.args.from c.args.code) c.join-e.new.out c.join-e.result c.requires.2 c.join-e.ensures in long₁), c.requires.2))

pub bounds-out-at-3 : goal.bounds-out-at-3
bounds-out-at-3 c = simp length-set (omega (arith, (let long₁ : length c.join-e.new.out ≡ length c.args.out.now = put_length c.args.out.now c.args.at c.args.code (joined_at c.args.over c.args.m.now c.args.from c.args.code) c.join-e.new.out c.join-e.result c.requires.2 c.join-e.ensures in long₁), c.requires.2))

pub returns : goal.returns
returns c = headed c.args.out.now c.args.at c.args.code (joined_at c.args.over c.args.m.now c.args.from c.args.code) c.join-e.new.out c.join-e.result c.requires.2 c.join-e.ensures
