-- WHAT THE FILLINGS OF THE READING BUFFER COME TO. Which bytes the system puts there nothing says; that the file is all of them, one filling after the other, is what the program's
-- functions say between the read and the write. Assumes nothing.
use Rattle.std.specs.Prelude.{◌≡◌, ℕ, ◌%◌, ◌^◌, ◌≤◌, List, ◌++◌, length, drop, replicate}
use Rattle.options.specs.KindClaims.{AllBytes}
use Rattle.options.specs.Captures.{begun, fed, report}
use Rattle.captures.specs.declared.Progress.{Progress}
use Rattle.captures.specs.Standing.{Stands}

-- [H5] begun with zeros, and a buffer of 1,472 bytes or more: the numbers stand for the running tally of a file of as many bytes as were read, so none of them was left out or taken twice
abbrev pub Filled : List ℕ → List ℕ → List ℕ → List ℕ → ℕ → Progress → List ℕ → List ℕ → List ℕ → List ℕ → Type 0
Filled message verdicts held bytes total p message' verdicts' held' bytes' =
    1472 ≤ length message → verdicts ≡ replicate 8 0 → held ≡ replicate 256 0 → bytes ≡ replicate 256 0
    → (f : List ℕ) × AllBytes f × (total ≡ length f % 2 ^ 64) × Stands (fed begun f) p message' verdicts' held' bytes'

-- the same where reading stopped: the numbers stand for the running tally of some file, the one that was taken before
abbrev pub Stopped : List ℕ → List ℕ → List ℕ → List ℕ → List ℕ → List ℕ → List ℕ → List ℕ → Type 0
Stopped message verdicts held bytes message' verdicts' held' bytes' = (total : ℕ) × (p : Progress) × Filled message verdicts held bytes total p message' verdicts' held' bytes'

-- [H6] what is printed is the report of a file of as many bytes as were read
abbrev pub Printed : ℕ → List ℕ → ℕ → List ℕ → Type 0
Printed total old r after =
    (f : List ℕ) × AllBytes f × (total ≡ length f % 2 ^ 64) × (r ≡ length (report f)) × (after ≡ report f ++ drop (length (report f)) old) × (r ≤ length after)
