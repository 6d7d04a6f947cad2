-- THE REPORT AS TEXT, from the numbers that the code holds. Assumes nothing.
use Rattle.std.specs.Prelude.{◌≡◌, Bool, true, cond, List, [], ◌∷◌, ◌++◌, ℕ, eqb, length, get_or, drop}
use Rattle.options.specs.Answers.{decimal, blank, newline, accepted_line, refused_line}
use Rattle.options.specs.Captures.{messages_line, refusals_lines, code_lines, lease_line, Run, begun, fed, report, report_so_far}
use Rattle.tally.specs.Noted.{lease_of}
use Rattle.captures.specs.declared.Progress.{Progress}
use Rattle.captures.specs.Standing.{is_inside, tidied, Stands}

-- [H6] whatever the numbers stand for, with any Progress: its report is put at the front of the buffer, and nothing else is
abbrev pub Reports : Progress → List ℕ → List ℕ → List ℕ → List ℕ → ℕ → List ℕ → Type 0
Reports p verdicts held bytes old r after =
    (s : Run) (message : List ℕ) → Stands s (tidied p) message verdicts held bytes
    → (r ≡ length (report_so_far s)) × (after ≡ report_so_far s ++ drop (length (report_so_far s)) old)

-- and where it is that of a file, the report is the file's
abbrev pub FileIsReported : Type 0
FileIsReported = (f : List ℕ) → report_so_far (fed begun f) ≡ report f

-- ---- Internals

-- a line: a word and numbers, one after another
abbrev pub more_text : List ℕ → List ℕ
more_text [] = newline ∷ []
more_text (n ∷ ns) = blank ∷ (decimal n ++ more_text ns)

abbrev pub line_text : List ℕ → ℕ → List ℕ → List ℕ
line_text word n ns = word ++ (decimal n ++ more_text ns)

-- a record is not whole, or was refused
abbrev pub is_open_value : Progress → Bool
is_open_value p = cond (eqb p.stage 0) (is_inside p) true

abbrev pub last_text : Progress → List ℕ
last_text p = cond (is_open_value p) (refused_line 24 p.began) []

-- whatever the numbers stand for
unfoldable pub text_of : Progress → List ℕ → List ℕ → List ℕ → List ℕ
unfolding messages_line accepted_line refusals_lines code_lines lease_line refused_line
text_of p verdicts held bytes =
    messages_line p.messages
    ++ (accepted_line (get_or verdicts 0 0) ++ (refusals_lines 1 (drop 1 verdicts) ++ (code_lines 0 held bytes ++ (lease_line (lease_of p.lease) ++ last_text p))))
