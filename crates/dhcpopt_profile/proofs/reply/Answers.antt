use mathlib.Core.Path.{◌≡◌, refl, ap, ◌∙◌}
use native.Mathlib.Omega.{arith}
use lib.Dec.{eqb}
use lib.ListN.{get_or}
use borrow.Author.Tests.{eq-eqb, ne_eqb}
use Prim.Native.Nat.{◌+◌}
use Rattle.options.specs.Reading.{either}
use Rattle.dhcpopt_profile.specs.Judging.{reply_by}
use Rattle.dhcpopt_profile.proofs.Entries.{One, type_entry, type_absent, type_of_size, type_of_byte}
use Rattle.dhcpopt_profile.proofs.reply.Goals as goal

-- src/lib.rt:94:9
pub returns-then-entry-eq0 : goal.returns-then-entry-eq0
returns-then-entry-eq0 c = type_absent c.args.m.now c.args.index.now c.requires c.if-entry-eq0.true

-- src/lib.rt:97:9
pub returns-then-entry : goal.returns-then-entry
returns-then-entry c = c.reply_in.ensures ∙ ap reply_by c.look.ensures

-- src/lib.rt:99:14
pub overflow_cast-at : goal.overflow_cast-at
overflow_cast-at c = record { fits = omega (arith, (c.shared_slice_known-3-1.given 53).fits) }

-- src/lib.rt:100:10
pub overflow_add-at : goal.overflow_add-at
overflow_add-at c = omega (arith, (c.shared_slice_known-3-1.given 53).fits)

-- src/lib.rt:100:8
pub bounds-m-at : goal.bounds-m-at
bounds-m-at c = omega (arith, ((let one₁ : One c.args.m.now c.requires.is_accepted.options 53 (get_or c.args.index.now 53 0) = type_entry c.args.m.now c.args.index.now c.requires c.if-entry-eq0.false c.if-entry.false in one₁)).within)

-- src/lib.rt:101:9
pub returns-then-m-at-ne1 : goal.returns-then-m-at-ne1
returns-then-m-at-ne1 c = type_of_size c.args.m.now c.args.index.now c.requires ((let one₁ : One c.args.m.now c.requires.is_accepted.options 53 (get_or c.args.index.now 53 0) = type_entry c.args.m.now c.args.index.now c.requires c.if-entry-eq0.false c.if-entry.false in one₁)) c.if-m-at-ne1.true

-- src/lib.rt:103:18
pub overflow_add-kind : goal.overflow_add-kind
overflow_add-kind c = omega (arith, (c.shared_slice_known-3-1.given 53).fits)

-- src/lib.rt:103:16
pub bounds-m-at-2 : goal.bounds-m-at-2
bounds-m-at-2 c = let x = (let one₁ : One c.args.m.now c.requires.is_accepted.options 53 (get_or c.args.index.now 53 0) = type_entry c.args.m.now c.args.index.now c.requires c.if-entry-eq0.false c.if-entry.false in one₁) in
    omega (arith, x.within, x.size, c.if-m-at-ne1.false)

-- src/lib.rt:88:1
pub returns-then-kind-eq2 : goal.returns-then-kind-eq2
returns-then-kind-eq2 c = let v = get_or c.args.m.now (get_or c.args.index.now 53 0 + 2) 0 in
    let z : eqb v 2 ≡ either (eqb v 2) (eqb v 5) = rw (eq-eqb v 2 c.if-kind-eq2.true) refl in
    z ∙ type_of_byte c.args.m.now c.args.index.now c.requires ((let one₁ : One c.args.m.now c.requires.is_accepted.options 53 (get_or c.args.index.now 53 0) = type_entry c.args.m.now c.args.index.now c.requires c.if-entry-eq0.false c.if-entry.false in one₁)) c.if-m-at-ne1.false

-- src/lib.rt:88:1
pub returns-else-kind-eq2 : goal.returns-else-kind-eq2
returns-else-kind-eq2 c = let v = get_or c.args.m.now (get_or c.args.index.now 53 0 + 2) 0 in
    let z : eqb v 5 ≡ either (eqb v 2) (eqb v 5) = rw (ne_eqb v 2 c.if-kind-eq2.false) refl in
    z ∙ type_of_byte c.args.m.now c.args.index.now c.requires ((let one₁ : One c.args.m.now c.requires.is_accepted.options 53 (get_or c.args.index.now 53 0) = type_entry c.args.m.now c.args.index.now c.requires c.if-entry-eq0.false c.if-entry.false in one₁)) c.if-m-at-ne1.false
