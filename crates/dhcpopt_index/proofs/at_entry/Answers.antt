-- `dhcpopt_index::at_entry` meets its contract. Assumes nothing.
use mathlib.Core.Path.{◌≡◌, refl, sym, ap, ◌∙◌}
use mathlib.Core.List.{List}
use Prim.Native.Nat.{ℕ, ◌+◌}
use native.Mathlib.Omega.{arith}
use native.Mathlib.Nat.{add-sub_cancel_left}
use lib.ListN.{length, get_or, take, drop}
use Rattle.options.specs.CodeSet.{marked}
use Rattle.lookup.specs.Found.{content_by}
use Rattle.lookup.proofs.Verdicts.{by_row}
use Rattle.dhcpopt_reader.specs.Plain.{plain_content}
use Rattle.dhcpopt_index.proofs.Used.{no_span, passes_end, passes_code, used, unused_answer, end_within, base_before, found_used}
use Rattle.dhcpopt_index.proofs.at_entry.Goals as goal

pub returns-in_default : goal.returns-in_default
returns-in_default c = c.refused.ensures ∙ unused_answer c.args.m.now (marked c.args.known) c.args.code c.args.place (no_span c.args.m.now c.requires.0 c.args.code c.args.place (sym c.requires.2 ∙ c.in_default.is))

pub returns-then-s-start : goal.returns-then-s-start
returns-then-s-start c = let m = c.args.m.now in
    c.refused-then-s-start.ensures ∙ unused_answer m (marked c.args.known) c.args.code c.args.place
    (λ u. absurd (omega (arith, passes_end m c.requires.0 c.args.code c.args.place c.in-Some.s (sym c.requires.2 ∙ c.in-Some.is) u, c.if-s-start.true)))

pub bounds-m-place : goal.bounds-m-place
bounds-m-place c = omega (arith, c.if-s-start.false, end_within c.args.m.now c.requires.0 c.args.place c.in-Some.s (sym c.requires.2 ∙ c.in-Some.is))

pub returns-then-m-place : goal.returns-then-m-place
returns-then-m-place c = let m = c.args.m.now in
    c.refused-then-m-place.ensures ∙ unused_answer m (marked c.args.known) c.args.code c.args.place
    (λ u. c.if-m-place.true (passes_code m c.requires.0 c.args.code c.args.place c.in-Some.s (sym c.requires.2 ∙ c.in-Some.is) u))

pub bounds-m-place-2 : goal.bounds-m-place-2
bounds-m-place-2 c = omega (arith, c.if-s-start.false, end_within c.args.m.now c.requires.0 c.args.place c.in-Some.s (sym c.requires.2 ∙ c.in-Some.is))

pub returns-then-s-end : goal.returns-then-s-end
returns-then-s-end c = let m = c.args.m.now in
    c.refused-then-s-end.ensures ∙ unused_answer m (marked c.args.known) c.args.code c.args.place
    (λ u. absurd (omega (arith, passes_end m c.requires.0 c.args.code c.args.place c.in-Some.s (sym c.requires.2 ∙ c.in-Some.is) u, c.wide.ensures.0, c.if-s-end.true)))

pub slice_bounds-content-end : goal.slice_bounds-content-end
slice_bounds-content-end c = omega (arith, c.if-s-end.false, end_within c.args.m.now c.requires.0 c.args.place c.in-Some.s (sym c.requires.2 ∙ c.in-Some.is))

pub found-requires : goal.found-requires
found-requires c = (base_before c.args.m.now c.requires.0 c.args.place c.in-Some.s (sym c.requires.2 ∙ c.in-Some.is), c.requires.1)

pub returns : goal.returns
returns c = let m = c.args.m.now in
    let n = get_or m (c.args.place + 1) 0 in
    let u = used m c.requires.0 c.args.code c.args.place n c.in-Some.s (sym c.requires.2 ∙ c.in-Some.is) (omega (arith, c.wide.ensures.0, c.if-s-end.false)) c.if-m-place.false refl in
    let d : List ℕ = take n (drop (c.args.place + 2) m) in
    let e : c.content.result ≡ plain_content (content_by c.known_row-row.result d) = (rw (add-sub_cancel_left, c.wide.ensures.0) at c.content.ensures) in
    c.found.ensures
    ∙ found_used m c.requires.0 (marked c.args.known) c.args.code c.args.place n c.in-Some.s u c.content.result
    (e ∙ ap plain_content (ap (λ (r : ℕ). content_by r d) c.known_row-row.ensures ∙ by_row (marked c.args.known) c.args.code d))
