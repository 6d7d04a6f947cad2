-- THE JOINED BYTES OF A CODE, from a position of a message on (document 02, request 02). Assumes nothing.
use Rattle.std.specs.Prelude.{List, ℕ}
use Rattle.options.specs.Message.{end_to_end}
use Rattle.options.specs.Reading.{pieces}
use Rattle.cursor.specs.declared.Position.{Position}
use Rattle.cursor.specs.Cursor.{left}

-- "pieces with one code, in reading order, join into one option": those from a position on, in a message whose option 52 has the value v (0: it has none)
unfoldable pub joined_from : ℕ → List ℕ → Position → ℕ → List ℕ
unfolding pieces end_to_end
joined_from v m p c = end_to_end (pieces c (left v m p))
