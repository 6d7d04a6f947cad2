-- BUILDING, as C gets it. Its struct is told case by case in crate filled (FilledByCase), that of a lookup in crate dhcpopt_reader (AnswerByCase). Assumes nothing.
use Rattle.std.specs.Prelude.{List, ℕ}
use Rattle.options.specs.Index.{build}
use Rattle.filled.specs.Plain.{Kept}

-- no refusal has number 0, and none changes a number
abbrev pub BuildKept : Type 0
BuildKept = (m old : List ℕ) → Kept (build m old) old
