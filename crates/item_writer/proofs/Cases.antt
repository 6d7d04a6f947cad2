-- What the code gives of a sheet, case by case, and that nothing is lost. Assumes nothing.
use mathlib.Core.Path.{◌≡◌, refl, sym, ap}
use Prim.Native.Nat.{ℕ}
use Rattle.std.specs.Prelude.{Result, Ok, Err}
use Rattle.refusal.specs.declared.Refusal.{Refusal}
use Rattle.refusal.proofs.Rules.{never_0, same_refusal}
use Rattle.item_writer.specs.Judge.{Judged, judged_by, JudgedByCase}

same : (a b : Result ℕ Refusal) → judged_by a ≡ judged_by b → a ≡ b
same (Ok n) (Ok k) e = ap (λ (x : Judged). Ok x.total) e
same (Ok n) (Err s) e = absurd (never_0 s.rule (sym (ap (λ (x : Judged). x.number) e)))
same (Err r) (Ok k) e = absurd (never_0 r.rule (ap (λ (x : Judged). x.number) e))
same (Err r) (Err s) e = ap Err (same_refusal r s (ap (λ (x : Judged). x.number) e) (ap (λ (x : Judged). x.place) e))

pub judged_by_case : JudgedByCase
judged_by_case = (λ n. refl, λ r. refl, same)
