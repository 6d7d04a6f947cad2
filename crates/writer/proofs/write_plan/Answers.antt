-- `writer::write_plan` meets its contract: the parts that were lent, put back one after the other, are the buffer that the plan leaves. Assumes nothing.
use mathlib.Core.Path.{◌≡◌, ap, ◌∙◌}
use mathlib.Core.List.{List, []}
use mathlib.Core.Bool.{cond}
use Prim.Native.Nat.{ℕ, ◌-◌, ◌≤◌, ◌<◌}
use native.Mathlib.Omega.{arith}
use lib.ListN.{length, take, drop, length-drop}
use Rattle.options.specs.Message.{Rec}
use Rattle.options.specs.Reading.{file_in, sname_in}
use Rattle.options.specs.Writing.{with52, fits_if, past_options}
use Rattle.writer.specs.Fill.{filled, pieces_at}
use Rattle.writer.proofs.Plans.{plan_written}
use Rattle.writer.proofs.Parts.{is4, lent_options, lent_file, lent_sname, file_long, sname_long, some_room, field_eq, join5_eq, dropped}
use Rattle.writer.proofs.write_plan.Goals as goal

pub fill_if-b-requires : goal.fill_if-b-requires
fill_if-b-requires c = c.fill_options-a.ensures.1.spot_is

pub fill_if-requires : goal.fill_if-requires
fill_if-requires c = c.fill_if-b.ensures.1.spot_is

pub returns : goal.returns
returns c = let m : List ℕ = c.args.m.now in
    let s : List ℕ = c.args.s.now in
    let p : ℕ = c.args.choice.plan in
    let n : ℕ = length m - 240 in
    let rs : List Rec = pieces_at s 0 in
    let os : List Rec = pieces_at s c.fill_options-a.result in
    let fs : List Rec = pieces_at s c.fill_if-b.result in
    let hm : 240 ≤ length m = c.requires.0 in
    let some : 0 < n = some_room p n c.requires.1 in
    let lc : length c.put_cookie.new.room ≡ 4 = ap length c.put_cookie.ensures in
    let ff : ◌≡◌ {A = ℕ} _ 128 = file_long m c.put_cookie.new.room c.fill_options-a.new.field [] [] hm lc in
    let lf : length c.fill_if-b.new.field ≡ 128 = c.fill_if-b.auto.field ∙ ff in
    let sl : ◌≡◌ {A = ℕ} _ 64 = sname_long m c.put_cookie.new.room c.fill_options-a.new.field c.fill_if-b.new.field [] hm lc lf in
    let room : ◌≡◌ {A = ℕ} _ n = ap length (lent_options m c.put_cookie.new.room [] [] [] hm lc) ∙ length-drop 240 m in
    let old-file : _ ≡ take 128 (drop 108 m) = lent_file m c.put_cookie.new.room c.fill_options-a.new.field [] [] hm lc in
    let old-sname : _ ≡ take 64 (drop 44 m) = lent_sname m c.put_cookie.new.room c.fill_options-a.new.field c.fill_if-b.new.field [] hm lc lf in
    let when_in_options : c.fill_options-a.new.field ≡ filled n (with52 p rs) = c.fill_options-a.ensures.0 ∙ ap (λ (k : ℕ). filled k (with52 p rs)) room in
    let when_past_options : os ≡ past_options p n rs = c.fill_options-a.ensures.1.pieces ∙ ap (λ (k : ℕ). past_options p k rs) room in
    let when_in_file : c.fill_if-b.new.field ≡ cond (file_in p) (filled 128 os) (take 128 (drop 108 m)) = field_eq os c.fill_if-b.ensures.0 c.uses_file.ensures ff old-file in
    let when_past_file : fs ≡ drop (fits_if (file_in p) 128 os) os = c.fill_if-b.ensures.1.pieces ∙ dropped _ _ _ _ os c.uses_file.ensures ff in
    let when_in_sname : c.fill_if.new.field ≡ cond (sname_in p) (filled 64 fs) (take 64 (drop 44 m)) = field_eq fs c.fill_if.ensures.0 c.uses_sname.ensures sl old-sname in
    is4 m c.put_cookie.new.room c.fill_options-a.new.field c.fill_if-b.new.field c.fill_if.new.field hm lc lf
    ∙ join5_eq (take 44 m) _ _ _ _ _ _ _ _ when_in_sname when_in_file c.put_cookie.ensures when_in_options
    ∙ plan_written p m rs (omega arith) os fs when_past_options when_past_file
