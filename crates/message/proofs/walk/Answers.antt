-- `message::walk` meets its contract: at each turn what is left of the field gives the same as the whole. Assumes nothing.
use native.Mathlib.Omega.{arith}
use borrow.Author.Rules.{rules}
use mathlib.Core.Path.{refl, ap}
use Prim.Native.Nat.{ℕ, ◌+◌}
use borrow.Author.Tests.{not-true, not-false}
use Rattle.message.proofs.Walks.{going_begins, going_passes, going_last, going_end, going_pads, going_long, going_stop, going_on, body_size}
use Rattle.std.specs.Prelude.{Ok}
use Rattle.refusal.specs.declared.Refusal.{Refusal}
use Rattle.refusal.specs.Refused.{number_of}
use Rattle.message.specs.Walk.{ending_of, stopped_at}
use Rattle.message.proofs.Rules.{has_number, no_rule}
use Rattle.message.proofs.walk.Goals as goal

pub loop-s-init : goal.loop-s-init
loop-s-init g c = going_begins c.args.watched.now _ c.args.options c.args.want c.args.base c.args.f.now (ending_of (Ok c.args.s)) c.args.set.now

pub pass-p-requires : goal.pass-p-requires
pass-p-requires g c = (c.loop-s.invariant.at_in, c.requires.1, refl, c.requires.3, c.requires.4)

pub overflow_add-count : goal.overflow_add-count
overflow_add-count g c = let g = going_passes c.loop-s.invariant c.pass-p.result c.pass-p.new.set c.pass-p.ensures in
    omega (arith, g.few_count, g.at_in, c.requires.1, c.requires.5.count)

pub overflow_sub-met : goal.overflow_sub-met
overflow_sub-met g c = let g = going_passes c.loop-s.invariant c.pass-p.result c.pass-p.new.set c.pass-p.ensures in
    omega (arith, g.pads_in)

pub overflow_add-met : goal.overflow_add-met
overflow_add-met g c = let g = going_passes c.loop-s.invariant c.pass-p.result c.pass-p.new.set c.pass-p.ensures in
    omega (arith, g.at_in, c.requires.1, c.requires.5.used)

pub last-requires : goal.last-requires
last-requires g c = let g = going_passes c.loop-s.invariant c.pass-p.result c.pass-p.new.set c.pass-p.ensures in
    (g.at_in, c.requires.1, c.requires.2, c.pass-p.ensures.last (not-true c.pass-p.result.watched c.if-not-p.true))

pub returns-then-not-p : goal.returns-then-not-p
returns-then-not-p g c = let g = going_passes c.loop-s.invariant c.pass-p.result c.pass-p.new.set c.pass-p.ensures in
    going_last g (c.pass-p.ensures.last (not-true c.pass-p.result.watched c.if-not-p.true)) _ c.last.ensures

pub bounds-f-i : goal.bounds-f-i
bounds-f-i g c = let g = going_passes c.loop-s.invariant c.pass-p.result c.pass-p.new.set c.pass-p.ensures in
    omega (arith, (c.pass-p.ensures.here (not-false c.pass-p.result.watched c.if-not-p.false)).0)

pub overflow_add-i : goal.overflow_add-i
overflow_add-i g c = let g = going_passes c.loop-s.invariant c.pass-p.result c.pass-p.new.set c.pass-p.ensures in
    omega (arith, (c.pass-p.ensures.here (not-false c.pass-p.result.watched c.if-not-p.false)).0, c.requires.1)

pub after_pads-j-requires : goal.after_pads-j-requires
after_pads-j-requires g c = let g = going_passes c.loop-s.invariant c.pass-p.result c.pass-p.new.set c.pass-p.ensures in
    omega (arith, (c.pass-p.ensures.here (not-false c.pass-p.result.watched c.if-not-p.false)).0)

pub overflow_sub-pads : goal.overflow_sub-pads
overflow_sub-pads g c = let g = going_passes c.loop-s.invariant c.pass-p.result c.pass-p.new.set c.pass-p.ensures in
    omega (arith, c.after_pads-j.ensures.0)

pub overflow_add-pads : goal.overflow_add-pads
overflow_add-pads g c = let g = going_passes c.loop-s.invariant c.pass-p.result c.pass-p.new.set c.pass-p.ensures in
    omega (arith, c.after_pads-j.ensures.0, c.after_pads-j.ensures.1, g.pads_in, c.requires.1)

pub loop-s-smaller-in-0 : goal.loop-s-smaller-in-0
loop-s-smaller-in-0 g c = let g = going_passes c.loop-s.invariant c.pass-p.result c.pass-p.new.set c.pass-p.ensures in
    omega (arith, c.after_pads-j.ensures.0, c.after_pads-j.ensures.1, c.pass-p.ensures.passing.not_back)

pub loop-s-preserved-in-0 : goal.loop-s-preserved-in-0
loop-s-preserved-in-0 g c = let g = going_passes c.loop-s.invariant c.pass-p.result c.pass-p.new.set c.pass-p.ensures in
    going_pads g (c.pass-p.ensures.here (not-false c.pass-p.result.watched c.if-not-p.false)).0 c.in-0.is c.after_pads-j.result c.after_pads-j.ensures.0 c.after_pads-j.ensures.1 c.after_pads-j.ensures.2

pub returns-in-255 : goal.returns-in-255
returns-in-255 g c = let g = going_passes c.loop-s.invariant c.pass-p.result c.pass-p.new.set c.pass-p.ensures in
    going_end g (c.pass-p.ensures.here (not-false c.pass-p.result.watched c.if-not-p.false)).0 c.in-255.is _ refl

pub overflow_add-j : goal.overflow_add-j
overflow_add-j g c = let g = going_passes c.loop-s.invariant c.pass-p.result c.pass-p.new.set c.pass-p.ensures in
    omega (arith, g.at_in, c.requires.1)

pub overflow_add-i-in_default : goal.overflow_add-i-in_default
overflow_add-i-in_default g c = let g = going_passes c.loop-s.invariant c.pass-p.result c.pass-p.new.set c.pass-p.ensures in
    omega (arith, g.at_in, c.requires.1)

pub bounds-f-i-in_default : goal.bounds-f-i-in_default
bounds-f-i-in_default g c = let g = going_passes c.loop-s.invariant c.pass-p.result c.pass-p.new.set c.pass-p.ensures in
    omega (arith, (c.pass-p.ensures.here (not-false c.pass-p.result.watched c.if-not-p.false)).0)

pub overflow_add-e : goal.overflow_add-e
overflow_add-e g c = let g = going_passes c.loop-s.invariant c.pass-p.result c.pass-p.new.set c.pass-p.ensures in
    omega (arith, g.at_in, c.requires.1, c.from.ensures, (c.type_inv.f (c.pass-p.result.at + 1)).fits)

pub overflow_add-base : goal.overflow_add-base
overflow_add-base g c = let g = going_passes c.loop-s.invariant c.pass-p.result c.pass-p.new.set c.pass-p.ensures in
    omega (arith, g.at_in, c.requires.1, c.requires.2)

pub returns-then-f-e : goal.returns-then-f-e
returns-then-f-e g c = let g = going_passes c.loop-s.invariant c.pass-p.result c.pass-p.new.set c.pass-p.ensures in
    going_long g (c.pass-p.ensures.here (not-false c.pass-p.result.watched c.if-not-p.false)).0 (search rules) (search rules) (omega (arith, c.if-f-e.true, c.from.ensures)) _ (ap (λ (r : Refusal). stopped_at (number_of r.rule) r.place) c.at.ensures)

pub overflow_add-base-in-Err : goal.overflow_add-base-in-Err
overflow_add-base-in-Err g c = let g = going_passes c.loop-s.invariant c.pass-p.result c.pass-p.new.set c.pass-p.ensures in
    omega (arith, g.at_in, c.requires.1, c.requires.2)

pub returns-in-Err : goal.returns-in-Err
returns-in-Err g c = let g = going_passes c.loop-s.invariant c.pass-p.result c.pass-p.new.set c.pass-p.ensures in
    let here = c.pass-p.ensures.here (not-false c.pass-p.result.watched c.if-not-p.false) in
    going_stop g here.0 (search rules) (search rules) here.1 _ (ap (λ (n : ℕ). c.pass-p.result.at + 2 + n) c.from.ensures) (omega (arith, c.if-f-e.false)) (number_of c.in-Err.rule) c.in-Err.ensures (has_number c.in-Err.rule)
    _ (ap (λ (r : Refusal). stopped_at (number_of r.rule) r.place) c.at-in-Err.ensures)

pub kept_after-k-requires : goal.kept_after-k-requires
kept_after-k-requires g c = let g = going_passes c.loop-s.invariant c.pass-p.result c.pass-p.new.set c.pass-p.ensures in
    (omega (arith, g.few_whole, g.at_in, c.requires.1, c.requires.5.whole), omega (arith, body_size g (c.pass-p.ensures.here (not-false c.pass-p.result.watched c.if-not-p.false)).0 (search rules) (search rules) (c.pass-p.ensures.here (not-false c.pass-p.result.watched c.if-not-p.false)).1 _ (ap (λ (n : ℕ). c.pass-p.result.at + 2 + n) c.from.ensures) (omega (arith, c.if-f-e.false)), c.requires.1, c.if-f-e.false), c.requires.2, omega (arith, (c.pass-p.ensures.here (not-false c.pass-p.result.watched c.if-not-p.false)).0, c.requires.1))

pub overflow_add-count-in_default : goal.overflow_add-count-in_default
overflow_add-count-in_default g c = let g = going_passes c.loop-s.invariant c.pass-p.result c.pass-p.new.set c.pass-p.ensures in
    omega (arith, g.few_count, g.at_in, c.requires.1, c.requires.5.count)

pub loop-s-smaller : goal.loop-s-smaller
loop-s-smaller g c = let g = going_passes c.loop-s.invariant c.pass-p.result c.pass-p.new.set c.pass-p.ensures in
    omega (arith, c.if-f-e.false, c.pass-p.ensures.passing.not_back)

pub loop-s-preserved : goal.loop-s-preserved
loop-s-preserved g c = let g = going_passes c.loop-s.invariant c.pass-p.result c.pass-p.new.set c.pass-p.ensures in
    going_on g (c.pass-p.ensures.here (not-false c.pass-p.result.watched c.if-not-p.false)).0 (search rules) (search rules) (c.pass-p.ensures.here (not-false c.pass-p.result.watched c.if-not-p.false)).1 _ (ap (λ (n : ℕ). c.pass-p.result.at + 2 + n) c.from.ensures) (omega (arith, c.if-f-e.false)) (no_rule c.over_stop.result _ c.over_stop.ensures c.in_default-over_stop.not-Err) c.kept_after-k.result c.kept_after-k.ensures
