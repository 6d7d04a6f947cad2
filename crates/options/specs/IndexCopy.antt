-- THE COPY OF A CODE THROUGH AN INDEX: request 02's copy, where request 07's index says where the code stands (docs/RULES.md, I8). Assumes nothing.
use Rattle.std.specs.Prelude.{List, cond, ℕ, get_or, eqb}
use Rattle.std.proofs.Math.Option.{Option, none, some}
use Rattle.options.specs.Message.{Opt}
use Rattle.options.specs.Answers.{no_code, Filled, unfilled, filled_with, copy}
use Rattle.options.specs.Index.{head_or, used_entry}

-- [I8, R11, R19] the bytes of the option that an entry is used for, "bytes beyond them kept"; or "19 for an unusable entry, the entry being the place"
abbrev pub entry_copy : ℕ → Option Opt → List ℕ → Filled
entry_copy e none old = unfilled 19 e old
entry_copy e (some o) old = filled_with o.item.body old

-- [I8, I4] "0 says absent", and an absent code is refused by 11 at 0; "65,535 uses the plain walk, any other entry is used only if .."
unfoldable pub copy_by_entry : List ℕ → ℕ → ℕ → List ℕ → Filled
unfolding used_entry copy
copy_by_entry m c e old =
    let walked : Filled = copy m c old in
    cond (eqb e 0) (unfilled 11 0 old) (cond (eqb e 65535) walked (entry_copy e (used_entry m c e) old))

-- [I8, I5] "18 .. after 10, 1, 2, 3": the copy of c in m through the index idx, into the buffer `old`
unfoldable pub copy_by : List ℕ → List ℕ → ℕ → List ℕ → Filled
unfolding copy_by_entry
copy_by m idx c old =
    let used : Filled = copy_by_entry m c (get_or idx c 0) old in
    cond (no_code c) (unfilled 10 0 old) (head_or (λ n p. unfilled n p old) m idx used)
