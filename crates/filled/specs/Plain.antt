-- WHAT IS GIVEN IN A LENT BUFFER, AS PLAIN NUMBERS FOR C. The calls for C that fill a buffer rest on this. Assumes nothing.
use Rattle.std.specs.Prelude.{◌≡◌, List, ℕ}
use Rattle.options.specs.Answers as asked
use Rattle.filled.specs.declared.PlainFilled.{PlainFilled}

-- the bytes given, or number and place of a refusal
abbrev pub plain_filled : asked.Given → PlainFilled
plain_filled (asked.given n) = record { refusal = 0; size = n; place = 0 }
plain_filled (asked.declined n p) = record { refusal = n; size = 0; place = p }

-- each case with its own numbers, and 0 for what it does not give: so the struct tells which case it is, and all of it
abbrev pub FilledByCase : Type 0
FilledByCase = (n p : ℕ) → (plain_filled (asked.given n) ≡ record { refusal = 0; size = n; place = 0 }) × (plain_filled (asked.declined n p) ≡ record { refusal = n; size = 0; place = p })

-- no refusal has number 0, so that 0 can stand for none; and a refusal "changes no byte lent to the call", which lent the buffer `old`
abbrev pub Kept : asked.Filled → List ℕ → Type 0
Kept w old = (n p : ℕ) → w.answer ≡ asked.declined n p → (n ≡ 0 → ⊥) × (w.buffer ≡ old)
