-- `dhcpopt_index::content` meets its contract. Assumes nothing.
use borrow.Author.Tests.{eq-eqb}
use mathlib.Core.Path.{◌≡◌, refl, sym, ap, ◌∙◌}
use Prim.Native.Nat.{ℕ, ◌%◌}
use native.Mathlib.Omega.{arith}
use lib.ListN.{length}
use Rattle.options.specs.Kinds.{text, relay, routes, suboptions, routed, Value, value_fault_value, meaning}
use Rattle.options.specs.Answers as asked
use Rattle.kinds.proofs.ByKind.{value_10, value_12, value_13}
use Rattle.lookup.specs.Found.{content_by}
use Rattle.lookup.proofs.Verdicts.{broken_by_lem}
use Rattle.dhcpopt_reader.specs.Plain.{plain_content}
use Rattle.dhcpopt_index.proofs.Told.{numbered, part_is, fault_not}
use Rattle.dhcpopt_index.proofs.Used.{by_rules}
use Rattle.dhcpopt_index.proofs.content.Goals as goal

pub returns-then-row-eq0 : goal.returns-then-row-eq0
unfolding content_by
returns-then-row-eq0 c = rw (eq-eqb _ 0 c.if-row-eq0.true) c.of_part.ensures

pub returns-then-not-length_fits : goal.returns-then-not-length_fits
returns-then-not-length_fits c = rw (by_rules c.args.row c.args.d.now c.if-row-eq0.false, sym c.length_fits.ensures ∙ c.if-not-length_fits.true) c.broken.ensures

pub returns-in-Some-Text : goal.returns-in-Some-Text
returns-in-Some-Text c = let q : c.args.row % 16 ≡ 10 = numbered _ text (rw c.in-Some-Text.field-0-is at c.in-Some-Text.ensures) in
    rw (by_rules c.args.row c.args.d.now c.if-row-eq0.false, sym c.length_fits.ensures ∙ c.if-not-length_fits.false, value_10 c.args.row (omega arith) q, q) c.text_content.ensures

pub returns-in-Some-Relay : goal.returns-in-Some-Relay
unfolding value_fault_value meaning
returns-in-Some-Relay c = let q : c.args.row % 16 ≡ 12 = numbered _ relay (rw c.in-Some-Relay.field-0-is at c.in-Some-Relay.ensures) in
    rw (by_rules c.args.row c.args.d.now c.if-row-eq0.false, sym c.length_fits.ensures ∙ c.if-not-length_fits.false, value_12 c.args.row (omega arith) q, q, ← c.suboptions_fault.ensures)
    (c.part.ensures ∙ part_is _ 12 (length c.args.d.now) _ refl)

pub returns-in-Some-Routes : goal.returns-in-Some-Routes
unfolding value_fault_value meaning
returns-in-Some-Routes c = let q : c.args.row % 16 ≡ 13 = numbered _ routes (rw c.in-Some-Routes.field-0-is at c.in-Some-Routes.ensures) in
    rw (by_rules c.args.row c.args.d.now c.if-row-eq0.false, sym c.length_fits.ensures ∙ c.if-not-length_fits.false, value_13 c.args.row (omega arith) q, q, ← c.first_fault.ensures)
    (c.part-in-Some-Routes.ensures ∙ part_is _ 13 (length c.args.d.now) _ refl)

pub returns-in-Some : goal.returns-in-Some
returns-in-Some c = rw (by_rules c.args.row c.args.d.now c.if-row-eq0.false, sym c.length_fits.ensures ∙ c.if-not-length_fits.false, ← c.in-Some.ensures)
    (c.broken-in-Some.ensures ∙ ap (λ (x : Value). plain_content (asked.known x)) (broken_by_lem _ _ (fault_not c.in-Some.fault)))

pub returns-in-None : goal.returns-in-None
returns-in-None c = rw (by_rules c.args.row c.args.d.now c.if-row-eq0.false, sym c.length_fits.ensures ∙ c.if-not-length_fits.false, ← c.in-None.ensures) c.value.ensures
