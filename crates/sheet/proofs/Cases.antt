-- What the code gives of a sheet, case by case, and that nothing is lost. Assumes nothing.
use mathlib.Core.Path.{◌≡◌, refl, sym, ap}
use Rattle.std.specs.Prelude.{Result, Ok, Err}
use Rattle.refusal.specs.declared.Refusal.{Refusal}
use Rattle.refusal.proofs.Rules.{never_0, same_refusal}
use Rattle.sheet.specs.declared.Judged.{Judged}
use Rattle.sheet.specs.Judge.{Verdict, judged_by, JudgedByCase}

same : (a b : Result Judged Refusal) → judged_by a ≡ judged_by b → a ≡ b
same (Ok j) (Ok k) e = ap (λ (x : Verdict). Ok (record { total = x.total; single = x.single })) e
same (Ok j) (Err s) e = absurd (never_0 s.rule (sym (ap (λ (x : Verdict). x.number) e)))
same (Err r) (Ok k) e = absurd (never_0 r.rule (ap (λ (x : Verdict). x.number) e))
same (Err r) (Err s) e = ap Err (same_refusal r s (ap (λ (x : Verdict). x.number) e) (ap (λ (x : Verdict). x.place) e))

pub judged_by_case : JudgedByCase
judged_by_case = (λ j. refl, λ r. refl, same)
