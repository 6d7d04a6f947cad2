-- `message::scan` meets its contract. Assumes nothing.
use borrow.Author.Rules.{rules}
use mathlib.Core.Path.{◌≡◌, refl, sym, ap}
use mathlib.Core.Bool.{cond}
use borrow.Author.Tests.{ne_eqb}
use Prim.Native.Nat.{◌<◌}
use Rattle.std.proofs.lemmas.Result.{err_from_is_err_and}
use Rattle.refusal.specs.declared.Refusal.{Refusal}
use Rattle.refusal.specs.Refused.{number_of}
use Rattle.std.specs.Prelude.{Ok, Err}
use Rattle.message.specs.Scan.{refused_at}
use Rattle.message.specs.Walk.{ending_of}
use Rattle.message.proofs.Rules.{has_number}
use Rattle.message.specs.Walking.{unfit_of}
use Rattle.message.proofs.Twin.{all_bytes}
use Rattle.message.proofs.Bare.{judged_fit, not_judged, tells_unfit, tells_short, walkable, tells_walked}
use Rattle.message.proofs.scan.Goals as goal
use Rattle.message.proofs.scan.Goals.{then-not-bare+in_ok-fit, else-not-bare}

pub returns-in_err-fit : goal.returns-in_err-fit
returns-in_err-fit g c =
    let p = err_from_is_err_and c.from_residual.result c.from_residual.ensures.1 in
    rw (p.1, p.2)
    (tells_unfit _ c.args.want c.args.m.now c.args.set.now c.args.bare c.if-not-bare.true c.in_err-fit.field-0.0 c.in_err-fit.ensures.number c.in_err-fit.ensures.place)

pub returns-then-m-first : goal.returns-then-m-first
returns-then-m-first g c =
    let u : cond c.args.bare 0 (unfit_of c.args.m.now) ≡ 0 = elim c.if-not-bare.branch [
      | then-not-bare+in_ok-fit w ↦ judged_fit c.args.bare (unfit_of c.args.m.now) (sym w.in_ok-fit.ensures.number)
      | else-not-bare w ↦ not_judged c.args.bare (unfit_of c.args.m.now) w.if-not-bare.false
    ] in
    tells_short _ c.args.want c.args.m.now c.args.set.now c.args.bare c.requires u c.first_place-first.result c.first_place-first.ensures c.if-m-first.true
    _ (ap (λ (r : Refusal). refused_at (number_of r.rule) r.place) c.at.ensures)

pub fields-requires : goal.fields-requires
fields-requires g c =
    let u : cond c.args.bare 0 (unfit_of c.args.m.now) ≡ 0 = elim c.if-not-bare.branch [
      | then-not-bare+in_ok-fit w ↦ judged_fit c.args.bare (unfit_of c.args.m.now) (sym w.in_ok-fit.ensures.number)
      | else-not-bare w ↦ not_judged c.args.bare (unfit_of c.args.m.now) w.if-not-bare.false
    ] in
    let l : c.args.want < 256 = search rules in
    let z = walkable _ c.args.want c.args.m.now c.args.set.now c.args.bare c.requires u c.low_codes.result c.first_place-first.result c.low_codes.ensures c.first_place-first.ensures c.if-m-first.false l in
    rw (c.insert.ensures.new) (z.0, search rules, z.1, z.2, z.3)

pub returns-in_err-s : goal.returns-in_err-s
returns-in_err-s g c =
    let p = err_from_is_err_and c.from_residual-in_err-s.result c.from_residual-in_err-s.ensures.1 in
    let u : cond c.args.bare 0 (unfit_of c.args.m.now) ≡ 0 = elim c.if-not-bare.branch [
      | then-not-bare+in_ok-fit w ↦ judged_fit c.args.bare (unfit_of c.args.m.now) (sym w.in_ok-fit.ensures.number)
      | else-not-bare w ↦ not_judged c.args.bare (unfit_of c.args.m.now) w.if-not-bare.false
    ] in
    let l : c.args.want < 256 = search rules in
    let g = rw (c.insert.ensures.new) at c.in_err-s.ensures in
    rw (p.1, p.2)
    (tells_walked _ c.args.want c.args.m.now c.args.set.now c.args.bare c.requires (all_bytes c.args.m.now (λ i. (c.type_inv.m i).fits)) u
    c.low_codes.result c.first_place-first.result c.low_codes.ensures c.first_place-first.ensures l
    (ending_of (Err c.in_err-s.field-0.0)) c.fields.new.set g _ (rw (ne_eqb (number_of c.in_err-s.field-0.0.rule) 0 (has_number c.in_err-s.field-0.0.rule)) refl))

pub returns : goal.returns
returns g c =
    let u : cond c.args.bare 0 (unfit_of c.args.m.now) ≡ 0 = elim c.if-not-bare.branch [
      | then-not-bare+in_ok-fit w ↦ judged_fit c.args.bare (unfit_of c.args.m.now) (sym w.in_ok-fit.ensures.number)
      | else-not-bare w ↦ not_judged c.args.bare (unfit_of c.args.m.now) w.if-not-bare.false
    ] in
    let l : c.args.want < 256 = search rules in
    let g = rw (c.insert.ensures.new) at c.in_ok-s.ensures in
    tells_walked _ c.args.want c.args.m.now c.args.set.now c.args.bare c.requires (all_bytes c.args.m.now (λ i. (c.type_inv.m i).fits)) u
    c.low_codes.result c.first_place-first.result c.low_codes.ensures c.first_place-first.ensures l
    (ending_of (Ok c.in_ok-s.s)) c.fields.new.set g _ c.told.ensures
