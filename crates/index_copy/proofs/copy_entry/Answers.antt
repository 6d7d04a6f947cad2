-- `index_copy::copy_entry` meets its contract. Assumes nothing.
use mathlib.Core.Path.{refl, sym, ◌∙◌}
use Prim.Native.Nat.{◌+◌}
use native.Mathlib.Omega.{arith}
use native.Mathlib.Nat.{add-sub_cancel_left}
use lib.ListN.{get_or, take, drop}
use Rattle.dhcpopt_index.proofs.Used.{no_span, passes_end, passes_code, used, end_within}
use Rattle.index_copy.proofs.Copying.{entry_unused, entry_used}
use Rattle.index_copy.proofs.copy_entry.Goals as goal

pub returns-in_default : goal.returns-in_default
returns-in_default c =
    entry_unused c.args.m.now c.args.code c.args.place c.args.out.now (no_span c.args.m.now c.requires.0 c.args.code c.args.place (sym c.span_at.ensures ∙ c.in_default.is)) c.at.result c.at.ensures

pub returns-then-s-start : goal.returns-then-s-start
returns-then-s-start c = let m = c.args.m.now in
    entry_unused m c.args.code c.args.place c.args.out.now
    (λ u. absurd (omega (arith, passes_end m c.requires.0 c.args.code c.args.place c.in-Some.s (sym c.span_at.ensures ∙ c.in-Some.is) u, c.if-s-start.true))) c.at-then-s-start.result c.at-then-s-start.ensures

pub bounds-m-place : goal.bounds-m-place
bounds-m-place c = omega (arith, c.if-s-start.false, end_within c.args.m.now c.requires.0 c.args.place c.in-Some.s (sym c.span_at.ensures ∙ c.in-Some.is))

pub returns-then-m-place : goal.returns-then-m-place
returns-then-m-place c = let m = c.args.m.now in
    entry_unused m c.args.code c.args.place c.args.out.now
    (λ u. c.if-m-place.true (passes_code m c.requires.0 c.args.code c.args.place c.in-Some.s (sym c.span_at.ensures ∙ c.in-Some.is) u)) c.at-then-m-place.result c.at-then-m-place.ensures

pub bounds-m-place-2 : goal.bounds-m-place-2
bounds-m-place-2 c = omega (arith, c.if-s-start.false, end_within c.args.m.now c.requires.0 c.args.place c.in-Some.s (sym c.span_at.ensures ∙ c.in-Some.is))

pub returns-then-s-e : goal.returns-then-s-e
returns-then-s-e c = let m = c.args.m.now in
    entry_unused m c.args.code c.args.place c.args.out.now
    (λ u. absurd (omega (arith, passes_end m c.requires.0 c.args.code c.args.place c.in-Some.s (sym c.span_at.ensures ∙ c.in-Some.is) u, c.wide.ensures.0, c.if-s-e.true))) c.at-then-s-e.result c.at-then-s-e.ensures

pub slice_bounds-give-end : goal.slice_bounds-give-end
slice_bounds-give-end c = omega (arith, c.if-s-e.false, end_within c.args.m.now c.requires.0 c.args.place c.in-Some.s (sym c.span_at.ensures ∙ c.in-Some.is))

pub returns : goal.returns
returns c = let m = c.args.m.now in
    let n = get_or m (c.args.place + 1) 0 in
    let u = used m c.requires.0 c.args.code c.args.place n c.in-Some.s (sym c.span_at.ensures ∙ c.in-Some.is) (omega (arith, c.wide.ensures.0, c.if-s-e.false)) c.if-m-place.false refl in
    rw (← entry_used m c.args.code c.args.place c.args.out.now u.option (take n (drop (c.args.place + 2) m)) u.is_used u.body_is)
    (rw (add-sub_cancel_left, c.wide.ensures.0) at c.give.ensures)
