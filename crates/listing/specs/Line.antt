-- The line of an option, from what the code has of it. Assumes nothing.
use Rattle.std.specs.Prelude.{List, [], ◌∷◌, ◌++◌, ℕ}
use Rattle.options.specs.Message.{Field}
use Rattle.options.specs.Answers.{decimal, blank, newline, field_name}

-- `51 110 4 file`: the code c, whose n data bytes start at s, in the field fd
abbrev pub line_text : ℕ → ℕ → ℕ → Field → List ℕ
line_text c s n fd = decimal c ++ (blank ∷ (decimal s ++ (blank ∷ (decimal n ++ (blank ∷ (field_name fd ++ (newline ∷ [])))))))
