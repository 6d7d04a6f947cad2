-- THE ANSWERS OF THE CALLS ON GROUPED SHEETS AS PLAIN NUMBERS, for C. They are `plain_filled` of crate filled, and for the check `plain_checked` of crate groups, each
-- told case by case there (FilledByCase, CheckedByCase); the check's refusals are numbered by CheckKept. Assumes nothing.
use Rattle.std.specs.Prelude.{List, ℕ}
use Rattle.options.specs.KindClaims.{AllBytes}
use Rattle.options.specs.Grouped.{choice, move, go_back}
use Rattle.filled.specs.Plain.{Kept}

-- no refusal has number 0, and none changes a byte, of a file and a sheet of bytes
abbrev pub ChoiceKept : Type 0
ChoiceKept = (f class old : List ℕ) → AllBytes f → Kept (choice f class old) old

abbrev pub MoveKept : Type 0
MoveKept = (s old : List ℕ) → AllBytes s → Kept (move s old) old

abbrev pub BackKept : Type 0
BackKept = (f old : List ℕ) → AllBytes f → Kept (go_back f old) old
