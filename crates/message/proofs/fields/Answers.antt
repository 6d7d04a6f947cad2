-- `message::fields` meets its contract: at each turn the fields that are left give the same as all. Assumes nothing.
use native.Mathlib.Omega.{arith}
use mathlib.Core.Path.{sym, ◌∙◌}
use Rattle.std.proofs.lemmas.Result.{err_from_is_err_and}
use Rattle.message.proofs.Turns.{nth_is, is_main, turning_begins, turning_ends, turning_over, fd_part, in_bounds, inside, turning_refused, turning_on}
use Rattle.message.proofs.fields.Goals as goal
use Rattle.message.proofs.fields.Goals.{then-active+in_ok-s, else-active}

pub loop-field-init : goal.loop-field-init
loop-field-init g c = turning_begins c.args.watched.now _ c.args.want c.args.first c.args.m.now c.args.set.now

pub slice_bounds-f-count : goal.slice_bounds-f-count
slice_bounds-f-count g c = let z = in_bounds c.args.watched.now _ c.args.want c.args.first c.args.m.now c.loop-field.invariant c.loop-field-test.true c.requires.4 _ (nth_is c.loop-field.field-index _ c.loop-field-test.true) (sym c.active.ensures ∙ c.if-active.true) c.requires.0 in
    omega (arith, z.0, z.1, c.base_from-from.ensures, c.end_from.ensures)

pub slice_bounds-f-start : goal.slice_bounds-f-start
slice_bounds-f-start g c = let z = in_bounds c.args.watched.now _ c.args.want c.args.first c.args.m.now c.loop-field.invariant c.loop-field-test.true c.requires.4 _ (nth_is c.loop-field.field-index _ c.loop-field-test.true) (sym c.active.ensures ∙ c.if-active.true) c.requires.0 in
    omega (arith, z.0, z.1, c.base_from-from.ensures, c.end_from.ensures)

pub slice_bounds-f-end : goal.slice_bounds-f-end
slice_bounds-f-end g c = let z = in_bounds c.args.watched.now _ c.args.want c.args.first c.args.m.now c.loop-field.invariant c.loop-field-test.true c.requires.4 _ (nth_is c.loop-field.field-index _ c.loop-field-test.true) (sym c.active.ensures ∙ c.if-active.true) c.requires.0 in
    omega (arith, z.0, z.1, c.base_from-from.ensures, c.end_from.ensures)

pub walk-requires : goal.walk-requires
walk-requires g c =
    let z = inside c.args.watched.now _ c.args.want c.args.first c.args.m.now c.loop-field.invariant c.loop-field-test.true c.requires.4 _ (nth_is c.loop-field.field-index _ c.loop-field-test.true) (sym c.active.ensures ∙ c.if-active.true) c.requires.0 c.requires.1 in
    rw (c.base_from-from.ensures, c.end_from.ensures, fd_part) (z.0, z.1, z.2, c.requires.2, c.requires.3, z.3)

pub returns-in_err-s : goal.returns-in_err-s
returns-in_err-s g c =
    let p = err_from_is_err_and c.from_residual.result c.from_residual.ensures.1 in
    rw (p.1, p.2)
    (turning_refused c.args.watched.now _ c.args.want c.args.first c.args.m.now c.loop-field.invariant c.loop-field-test.true c.requires.4 _ (nth_is c.loop-field.field-index _ c.loop-field-test.true) (sym c.active.ensures ∙ c.if-active.true) c.in_err-s.field-0.0 c.walk.new.set
    (rw (c.base_from-from.ensures, c.end_from.ensures, fd_part, c.eq.ensures, is_main) at c.in_err-s.ensures))

pub loop-field-preserved : goal.loop-field-preserved
loop-field-preserved g c = elim c.if-active.branch [
  | then-active+in_ok-s w ↦
      rw (w.s-is, w.set-is)
      (turning_on c.args.watched.now _ c.args.want c.args.first c.args.m.now c.loop-field.invariant c.loop-field-test.true c.requires.4 _ (nth_is c.loop-field.field-index _ c.loop-field-test.true) (sym c.active.ensures ∙ w.if-active.true) w.in_ok-s.s w.walk.new.set
      (rw (w.base_from-from.ensures, w.end_from.ensures, fd_part, w.eq.ensures, is_main) at w.in_ok-s.ensures))
  | else-active w ↦
      rw (w.s-is, w.set-is)
      (turning_over c.args.watched.now _ c.args.want c.args.first c.args.m.now c.loop-field.invariant c.loop-field-test.true c.requires.4 _ (nth_is c.loop-field.field-index _ c.loop-field-test.true) (sym c.active.ensures ∙ w.if-active.false))
]

pub returns : goal.returns
returns g c = turning_ends c.args.watched.now _ c.args.want c.args.first c.args.m.now c.loop-field.invariant (omega arith)
