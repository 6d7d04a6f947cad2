-- `lookup::text_piece` meets its contract. Assumes nothing.
use native.Mathlib.Omega.{arith}
use native.Mathlib.Nat.{add-sub_cancel_left}
use mathlib.Core.Path.{◌≡◌, sym, ◌∙◌}
use borrow.Author.Tests.{eqb-false}
use Rattle.options.specs.CodeSet.{marked}
use Rattle.message.proofs.Callers.{all_bytes}
use Rattle.lookup.specs.Found.{known_row_value}
use Rattle.lookup.proofs.Rows.{a_fault, no_fault}
use Rattle.lookup.proofs.Laws.{text_none, part_within, part_not_kind, part_broken, part_text}
use Rattle.lookup.proofs.Verdicts.{other_row, unmarked_row, known_text}
use Rattle.lookup.proofs.text_piece.Goals as goal

pub returns-in_err-e : goal.returns-in_err-e
returns-in_err-e c = rw c.from_residual.ensures (text_none c.args.m.now c.args.code (all_bytes c.args.m.now (λ i. omega (arith, c.type_inv.m i))) (marked c.args.known) (sym c.in_err-e.was ∙ c.one_piece.ensures))

pub returns-then-not-is_text : goal.returns-then-not-is_text
returns-then-not-is_text c = part_not_kind c.args.code c.args.m.now (all_bytes c.args.m.now (λ i. omega (arith, c.type_inv.m i))) c.in_ok-e.e (sym c.in_ok-e.was ∙ c.one_piece.ensures) (marked c.args.known) (other_row (marked c.args.known) c.args.code (eqb-false _ _ (sym c.is_text.ensures ∙ c.if-not-is_text.true)))

pub returns-then-not-contains : goal.returns-then-not-contains
returns-then-not-contains c = part_not_kind c.args.code c.args.m.now (all_bytes c.args.m.now (λ i. omega (arith, c.type_inv.m i))) c.in_ok-e.e (sym c.in_ok-e.was ∙ c.one_piece.ensures) (marked c.args.known) (unmarked_row (marked c.args.known) c.args.code (sym c.contains.ensures ∙ c.if-not-contains.true))

pub overflow_add-end : goal.overflow_add-end
overflow_add-end c = omega (arith, part_within c.args.code c.args.m.now (all_bytes c.args.m.now (λ i. omega (arith, c.type_inv.m i))) c.in_ok-e.e (sym c.in_ok-e.was ∙ c.one_piece.ensures))

pub slice_bounds-t-end : goal.slice_bounds-t-end
slice_bounds-t-end c = omega (arith, part_within c.args.code c.args.m.now (all_bytes c.args.m.now (λ i. omega (arith, c.type_inv.m i))) c.in_ok-e.e (sym c.in_ok-e.was ∙ c.one_piece.ensures))

pub returns-then-is_some : goal.returns-then-is_some
returns-then-is_some c =
    let row : known_row_value (marked c.args.known) c.args.code ≡ 10 = known_text (marked c.args.known) c.args.code (omega arith) (sym c.contains.ensures ∙ c.if-not-contains.false) (sym c.is_text.ensures ∙ c.if-not-is_text.false) in
    part_broken c.args.code c.args.m.now (all_bytes c.args.m.now (λ i. omega (arith, c.type_inv.m i))) c.in_ok-e.e (sym c.in_ok-e.was ∙ c.one_piece.ensures) (marked c.args.known) (rw row (λ z. a_fault _ (sym c.is_some.ensures ∙ c.if-is_some.true) (rw add-sub_cancel_left at c.fault_in.ensures ∙ z)))

pub returns : goal.returns
returns c =
    let row : known_row_value (marked c.args.known) c.args.code ≡ 10 = known_text (marked c.args.known) c.args.code (omega arith) (sym c.contains.ensures ∙ c.if-not-contains.false) (sym c.is_text.ensures ∙ c.if-not-is_text.false) in
    rw (c.text_len.ensures, add-sub_cancel_left)
    (part_text c.args.code c.args.m.now (all_bytes c.args.m.now (λ i. omega (arith, c.type_inv.m i))) c.in_ok-e.e (sym c.in_ok-e.was ∙ c.one_piece.ensures) (marked c.args.known) (rw row) (rw row (sym (rw add-sub_cancel_left at c.fault_in.ensures) ∙ no_fault _ (sym c.is_some.ensures ∙ c.if-is_some.false))))
