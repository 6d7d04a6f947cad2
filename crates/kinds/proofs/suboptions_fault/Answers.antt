-- `kinds::suboptions_fault` meets its contract: the sub-options that are left are judged as all are. Assumes nothing.
use borrow.Author.Rules.{rules}
use native.Mathlib.Omega.{arith}
use mathlib.Core.Path.{◌≡◌, sym, ap, ◌∙◌}
use mathlib.Core.List.{List}
use Prim.Native.Nat.{ℕ, ◌+◌, ◌≤◌, ◌<◌}
use lib.ListN.{length, get_or, drop, length-take, length-drop}
use Rattle.options.specs.SubOptions.{sub_options, fill_fault}
use Rattle.kinds.proofs.Walks.{subs_end, subs_cut, subs_past, subs_rest, rest_behind}
use Rattle.kinds.proofs.suboptions_fault.Goals as goal

pub returns-then-more-size : goal.returns-then-more-size
returns-then-more-size c = sym (subs_past c.loop-rest.rest.now 0 (omega arith) (omega (arith, c.wide-size.ensures, c.if-more-size.true, length-take {A = ℕ}, length-drop {A = ℕ}))) ∙ c.loop-rest.invariant

pub loop-rest-preserved : goal.loop-rest-preserved
loop-rest-preserved c =
    let f : List ℕ = c.loop-rest.rest.now in
    let n : ℕ = c.wide-size.result in
    let within : n + 2 ≤ length f = omega (arith, c.if-more-size.false, length-take {A = ℕ}, length-drop {A = ℕ}) in
    let e : n + 2 ≡ 0 + (get_or f (0 + 1) 0 + 2) = omega (arith, c.wide-size.ensures) in
    ap (λ (xs : List ℕ). fill_fault (sub_options 0 0 xs)) (rest_behind f n _ _ (omega arith) (omega (arith, length-take {A = ℕ}, length-drop {A = ℕ})))
    ∙ ap (λ (k : ℕ). fill_fault (sub_options 0 0 (drop k f))) e
    ∙ sym (subs_rest f 0 (omega arith) (omega (arith, within, c.wide-size.ensures)))
    ∙ c.loop-rest.invariant

pub returns-then-is_empty : goal.returns-then-is_empty
returns-then-is_empty c = sym (subs_end c.loop-rest.rest.now 0 (search rules)) ∙ c.loop-rest.invariant

pub returns-else-is_empty : goal.returns-else-is_empty
returns-else-is_empty c = let some : 0 < length c.loop-rest.rest.now = search rules in
    sym (subs_cut c.loop-rest.rest.now 0 some (omega arith)) ∙ c.loop-rest.invariant
