-- Which codes the table of kinds has no row for. Assumes nothing.
use mathlib.Core.Path.{◌≡◌, refl}
use mathlib.Core.Bool.{true, false}
use mathlib.Core.Option.{Option, none, some}
use mathlib.Core.Logic.{◌↔◌}
use Prim.Native.Nat.{ℕ}
use Rattle.options.specs.Kinds.{Kind, has_row, kind_of}
use Rattle.theorems.proofs.View.{clash}
use Rattle.theorems.proofs.KindTable.{codes_without_row}
use Rattle.relay_theorems.specs.Rowless.{RowlessCodes}

no_row : (o : Option Kind) → has_row o ≡ false → o ≡ none
no_row none e = refl
no_row (some k) e = clash (cc)

pub rowless_codes : RowlessCodes
rowless_codes c = ((λ e. (codes_without_row c).0 (no_row (kind_of c) e)), (λ h. rw ((codes_without_row c).1 h) refl))
