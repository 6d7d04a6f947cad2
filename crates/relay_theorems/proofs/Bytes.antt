-- The relations on bytes have one solution: the definitions' own. Assumes nothing.
use mathlib.Core.Path.{◌≡◌, refl, ap, ap₂, ◌∙◌}
use mathlib.Core.List.{List, [], ◌∷◌, ◌++◌}
use Prim.Native.Nat.{ℕ, ◌/◌, ◌%◌}
use native.Mathlib.Omega.{arith}
use lib.ListN.{length}
use Rattle.options.specs.Message.{Rec}
use Rattle.options.specs.Answers.{record_bytes}
use Rattle.options.specs.RelayClaims.{RecordsAre, no_record, one_record}

pub records_are : (rs : List Rec) → RecordsAre rs (record_bytes rs)
unfolding record_bytes
records_are [] = no_record
records_are (r ∷ rs) = one_record {c = r.tag} {d = r.body} (length r.body / 256) (length r.body % 256) (omega arith) (omega arith) (records_are rs)

pub the_records : {rs : List Rec} {b : List ℕ} → RecordsAre rs b → b ≡ record_bytes rs
unfolding record_bytes
the_records no_record = refl
the_records (one_record {c = c} {d = d} {rest = rest} high low small size more) =
    let hi : high ≡ length d / 256 = omega (arith, size) in
    let lo : low ≡ length d % 256 = omega (arith, size) in
    ap₂ (λ (h l : ℕ). c ∷ h ∷ l ∷ (d ++ rest)) hi lo ∙ ap (λ (l : List ℕ). c ∷ length d / 256 ∷ length d % 256 ∷ (d ++ l)) (the_records more)
