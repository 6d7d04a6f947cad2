-- The plain numbers, case by case; no refusal has the number 0. Assumes nothing.
use mathlib.Core.Path.{refl}
use mathlib.Core.List.{List}
use Prim.Native.Nat.{ℕ, ◌≤◌}
use native.Mathlib.Omega.{arith}
use Rattle.options.specs.Refusals.{When, Row, row_1, row_2, row_3, row_4, row_5, row_6, row_7}
use Rattle.theorems.proofs.Reading.{refused_by_the_table}
use Rattle.present.specs.Marked.{RefusedByANumber, CodesByCase, ShownByCase}

rows : {m : List ℕ} {n p : ℕ} {w : When} → Row m n p w → 1 ≤ n
rows (row_1 h) = omega arith
rows (row_2 h) = omega arith
rows (row_3 h) = omega arith
rows (row_4 fd a b c) = omega arith
rows (row_5 fd a b) = omega arith
rows (row_6 fd a b c) = omega arith
rows (row_7 fd a b c) = omega arith

pub refused_by_a_number : RefusedByANumber
refused_by_a_number m n p e = rows ((refused_by_the_table m n p).0 e).applies

pub codes_by_case : CodesByCase
codes_by_case words count lowest n p = (refl, refl)

pub shown_by_case : ShownByCase
shown_by_case = (λ c. refl, λ r. refl)
