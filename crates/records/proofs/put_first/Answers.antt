-- `records::put_first` meets its contract. Assumes nothing.
use native.Mathlib.Omega.{arith}
use mathlib.Core.Path.{◌≡◌, refl, sym, ap, ◌∙◌}
use lib.ListN.{get_or, set}
use lib.Seq.{set-get_or}
use borrow.Author.Tests.{eq-eqb, ne_eqb}
use Rattle.buffer.proofs.Writing.{written_none}
use Rattle.records.proofs.put_first.Goals as goal

pub returns-then-table-k-eq0 : goal.returns-then-table-k-eq0
returns-then-table-k-eq0 c = let t = c.args.table.now in
    let z : get_or t c.args.code 0 ≡ 0 = rw c.wide-k.ensures.0 at c.if-table-k-eq0.true in
    (rw (eq-eqb (get_or t c.args.code 0) 0 z) (written_none c.args.out.now c.args.at), sym (set-get_or t c.args.code 0) ∙ ap (set t c.args.code) z)

pub put_joined-requires : goal.put_joined-requires
put_joined-requires c = let f = ne_eqb (get_or c.args.table.now c.args.code 0) 0 ((let waits₁ : get_or c.args.table.now c.args.code 0 ≡ 0 → ⊥ = rw c.wide-k.ensures.0 at c.if-table-k-eq0.false in waits₁)) in
    let room = rw f at c.requires.3 in
    let small = rw f at c.requires.4 in
    (c.requires.0, c.requires.1, omega (arith, room), omega (arith, small))

pub returns : goal.returns
returns c = rw (ne_eqb (get_or c.args.table.now c.args.code 0) 0 ((let waits₁ : get_or c.args.table.now c.args.code 0 ≡ 0 → ⊥ = rw c.wide-k.ensures.0 at c.if-table-k-eq0.false in waits₁)), c.wide-k.ensures.0) (c.put_joined.ensures, refl)
