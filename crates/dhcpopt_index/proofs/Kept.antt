-- No refusal of building has the number 0, and none changes a number. Assumes nothing.
use mathlib.Core.Path.{◌≡◌, refl}
use mathlib.Core.List.{List}
use Prim.Native.Nat.{ℕ}
use native.Mathlib.Omega.{arith}
use Rattle.options.specs.Refusals.{When, Row, row_1, row_2, row_3, row_4, row_5, row_6, row_7, First}
use Rattle.options.specs.Answers.{Filled}
use Rattle.options.specs.Index.{build}
use Rattle.options.specs.IndexClaims.{HeadRow, of_message, row_18, Builds, refused_head, refused_reader, builds}
use Rattle.theorems.proofs.Indexes.{build_is_right}
use Rattle.filled.specs.Plain.{Kept}
use Rattle.filled.proofs.Kept.{declined_kept, given_is_kept}
use Rattle.dhcpopt_index.specs.Built.{BuildKept}

row_not : {m : List ℕ} {n p : ℕ} {w : When} → Row m n p w → n ≡ 0 → ⊥
row_not (row_1 h) e = omega arith
row_not (row_2 h) e = omega arith
row_not (row_3 h) e = omega arith
row_not (row_4 fd x y z) e = omega arith
row_not (row_5 fd x y) e = omega arith
row_not (row_6 fd x y z) e = omega arith
row_not (row_7 fd x y z) e = omega arith

head_not : {m idx : List ℕ} {n p : ℕ} → HeadRow m idx n p → n ≡ 0 → ⊥
head_not (of_message l f) e = row_not f.applies e
head_not (row_18 h n) e = omega arith

kept : {m old : List ℕ} {w : Filled} → Builds m old w → Kept w old
kept {old = old} (refused_head {n = n} {p = p} h) = declined_kept n p old (head_not h)
kept {old = old} (refused_reader {n = n} {p = p} r e f) = declined_kept n p old (row_not f.applies)
kept {old = old} (builds {idx = idx} e b) = given_is_kept 512 idx old

pub build_kept : BuildKept
build_kept m old = kept ((build_is_right m old (build m old)).0 refl)
