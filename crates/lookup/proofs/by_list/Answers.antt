-- `lookup::by_list` meets its contract. Assumes nothing.
use native.Mathlib.Omega.{arith}
use mathlib.Core.Path.{◌≡◌, sym, ap, ◌∙◌}
use mathlib.Core.List.{List}
use Prim.Native.Nat.{ℕ}
use lib.ListN.{length, length-replicate}
use lib.Seq.{length-take-le, take_all}
use Rattle.options.specs.Answers as asked
use Rattle.cursor.specs.Cursor.{first_position}
use Rattle.gather.specs.Joined.{joined_from}
use Rattle.lookup.proofs.Laws.{Front, gathered}
use Rattle.lookup.proofs.Verdicts.{length_broken, length_kept, by_all}
use Rattle.lookup.proofs.by_list.Goals as goal

pub returns-then-not-length_fits : goal.returns-then-not-length_fits
returns-then-not-length_fits c = let d : List ℕ = joined_from c.args.w.over c.args.m.now first_position c.args.code in
    ap asked.known (length_broken _ _ _ d (rw c.requires.1.whole at (sym c.length_fits.ensures ∙ c.if-not-length_fits.true)) ∙ by_all d c.args.row c.requires.0)

pub put_pieces-n-requires : goal.put_pieces-n-requires
put_pieces-n-requires c = (c.requires.1, omega (arith, c.requires.1.short, length-replicate {A = ℕ} 1472 0))

pub slice_bounds-joined-end : goal.slice_bounds-joined-end
slice_bounds-joined-end c = (gathered 1472 c.put_pieces-n.ensures).room

pub slice_bounds-d-end : goal.slice_bounds-d-end
slice_bounds-d-end c = sym (length-take-le _ _ (gathered 1472 c.put_pieces-n.ensures).room)

pub returns : goal.returns
returns c = let d : List ℕ = joined_from c.args.w.over c.args.m.now first_position c.args.code in
    let f : Front d c.put_pieces-n.new.out c.put_pieces-n.result = rw (take_all 1472 d (omega (arith, c.requires.1.whole, c.requires.1.short))) at (gathered 1472 c.put_pieces-n.ensures) in
    let n : c.put_pieces-n.result ≡ length d = sym (length-take-le _ _ f.room) ∙ ap length f.front in
    rw (c.list_fault.ensures, f.front, n) at c.judge_joined.ensures
    ∙ ap asked.known (length_kept _ _ _ d (rw c.requires.1.whole at (sym c.length_fits.ensures ∙ c.if-not-length_fits.false)) ∙ by_all d c.args.row c.requires.0)
