-- `dhcpopt_index::dhcpopt_index_lookup` meets its contract. Assumes nothing.
use mathlib.Core.Path.{◌≡◌, sym, ap, ◌∙◌}
use mathlib.Core.Bool.{Bool, true}
use mathlib.Core.List.{List, [], ◌∷◌}
use Prim.Native.Nat.{ℕ, ◌<◌}
use native.Mathlib.Omega.{arith}
use Rattle.options.specs.CodeSet.{marked}
use Rattle.message.proofs.Readings.{fit_length}
use Rattle.dhcpopt_reader.specs.Plain.{plain_answer}
use Rattle.dhcpopt_index.proofs.Through.{of_zero, of_end, is_unfit, is_fit, of_unfit, of_count, by_nothing, by_pieces, by_place}
use Rattle.dhcpopt_index.proofs.dhcpopt_index_lookup.Goals as goal
use Rattle.dhcpopt_index.proofs.dhcpopt_index_lookup.Goals.{then-code-eq0-via-then-code-eq0, then-code-eq0-via-else-code-eq0+then-code-eq255}

abbrev set : (k0 k1 k2 k3 : ℕ) → ℕ → Bool
set k0 k1 k2 k3 = marked (k0 ∷ k1 ∷ k2 ∷ k3 ∷ [])

pub returns-then-code-eq0 : goal.returns-then-code-eq0
returns-then-code-eq0 c = c.refused.ensures ∙ ap plain_answer (sym (elim c.then-code-eq0.branch [
  | then-code-eq0-via-then-code-eq0 w ↦ of_zero (set c.args.k0 c.args.k1 c.args.k2 c.args.k3) c.args.m.now c.args.index.now c.args.code w.if-code-eq0.true
  | then-code-eq0-via-else-code-eq0+then-code-eq255 w ↦ of_end (set c.args.k0 c.args.k1 c.args.k2 c.args.k3) c.args.m.now c.args.index.now c.args.code w.if-code-eq0.false w.if-code-eq255.true
]))

pub returns-then-is_err : goal.returns-then-is_err
returns-then-is_err c = c.dhcpopt_lookup-a.ensures
    ∙ ap plain_answer (sym (of_unfit (set c.args.k0 c.args.k1 c.args.k2 c.args.k3) c.args.m.now c.args.index.now c.args.code c.if-code-eq0.false c.if-code-eq255.false (λ z. is_unfit c.fit.result c.if-is_err.ensures.value (c.fit.ensures.number ∙ z))))

pub returns-then-n-ne256 : goal.returns-then-n-ne256
returns-then-n-ne256 c = c.refused-then-n-ne256.ensures
    ∙ ap plain_answer (sym (of_count (set c.args.k0 c.args.k1 c.args.k2 c.args.k3) c.args.m.now c.args.index.now c.args.code c.if-code-eq0.false c.if-code-eq255.false (sym c.fit.ensures.number ∙ is_fit c.fit.result c.if-is_err.ensures.value) c.if-n-ne256.true))

pub returns-then-entry-eq0 : goal.returns-then-entry-eq0
returns-then-entry-eq0 c = c.of_refusal.ensures
    ∙ ap plain_answer (sym (by_nothing (set c.args.k0 c.args.k1 c.args.k2 c.args.k3) c.args.m.now c.args.index.now c.args.code c.if-code-eq0.false c.if-code-eq255.false (sym c.fit.ensures.number ∙ is_fit c.fit.result c.if-is_err.ensures.value) c.if-n-ne256.false c.wide.result c.wide.ensures.0 c.if-entry-eq0.true))

pub returns-then-entry : goal.returns-then-entry
returns-then-entry c = c.dhcpopt_lookup-a-then-entry.ensures
    ∙ ap plain_answer (sym (by_pieces (set c.args.k0 c.args.k1 c.args.k2 c.args.k3) c.args.m.now c.args.index.now c.args.code c.if-code-eq0.false c.if-code-eq255.false (sym c.fit.ensures.number ∙ is_fit c.fit.result c.if-is_err.ensures.value) c.if-n-ne256.false c.wide.result c.wide.ensures.0 c.if-entry-eq0.false c.if-entry.true))

pub at_entry-requires : goal.at_entry-requires
at_entry-requires c = ((fit_length c.args.m.now (sym c.fit.ensures.number ∙ is_fit c.fit.result c.if-is_err.ensures.value)).0, omega (arith, (c.type_inv.index c.wide.result).fits), c.span_at-span.ensures)

pub returns : goal.returns
returns c = c.at_entry.ensures
    ∙ ap plain_answer (sym (by_place (set c.args.k0 c.args.k1 c.args.k2 c.args.k3) c.args.m.now c.args.index.now c.args.code c.if-code-eq0.false c.if-code-eq255.false (sym c.fit.ensures.number ∙ is_fit c.fit.result c.if-is_err.ensures.value) c.if-n-ne256.false c.wide.result c.wide.ensures.0 c.if-entry-eq0.false c.if-entry.false))
