-- `wire::item_at` meets its contract. Assumes nothing.
use native.Mathlib.Omega.{arith}
use mathlib.Core.Path.{◌≡◌, sym, ◌∙◌}
use Prim.Native.Nat.{◌+◌, ◌<◌, ◌≤◌}
use lib.ListN.{length, get_or}
use borrow.Author.Tests.{ltb-true, ltb-false}
use Rattle.std.proofs.lemmas.Grind.{get_or_default_zero}
use Rattle.wire.proofs.Laws.{rest_end, rest_last, rest_long, rest_found, body_length}
use Rattle.wire.proofs.item_at.Goals as goal

pub returns-then-code : goal.returns-then-code
returns-then-code c = rw (rest_end c.args.f.now c.args.i c.requires.0 c.if-code.true)

pub returns-in_err-get : goal.returns-in_err-get
returns-in_err-get c =
    let l : length c.args.f.now ≤ c.args.i + 1 = ltb-false _ _ (sym c.in_err-get.ensures.lookup.0) in
    rw (c.from_residual.ensures, rest_last c.args.f.now c.args.i c.requires.0 c.requires.1 c.if-code.false l)

pub returns-then-f-i : goal.returns-then-f-i
returns-then-f-i c =
    let l : c.args.i + 1 < length c.args.f.now = ltb-true _ _ (sym c.in_ok-get.ensures.lookup.0) in
    let e : c.from-len.result ≡ get_or c.args.f.now (c.args.i + 1) 0 = c.from-len.ensures ∙ c.in_ok-get.ensures.lookup.1 ∙ get_or_default_zero _ _ _ l in
    let n : length c.args.f.now < c.args.i + 2 + get_or c.args.f.now (c.args.i + 1) 0 = omega (arith, c.if-f-i.true, e) in
    rw (rest_long c.args.f.now c.args.i c.requires.0 c.requires.1 c.if-code.false l n)

pub returns : goal.returns
returns c =
    let l : c.args.i + 1 < length c.args.f.now = ltb-true _ _ (sym c.in_ok-get.ensures.lookup.0) in
    let e : c.from-len.result ≡ get_or c.args.f.now (c.args.i + 1) 0 = c.from-len.ensures ∙ c.in_ok-get.ensures.lookup.1 ∙ get_or_default_zero _ _ _ l in
    let n : c.args.i + 2 + get_or c.args.f.now (c.args.i + 1) 0 ≤ length c.args.f.now = omega (arith, c.if-f-i.false, e) in
    rw (rest_found c.args.f.now c.args.i c.requires.0 c.requires.1 c.if-code.false l n, body_length c.args.f.now c.args.i (get_or c.args.f.now (c.args.i + 1) 0) n, e)
