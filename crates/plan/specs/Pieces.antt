-- THE NEXT PIECE OF A SHEET: "splits a record over 255 bytes into pieces of 255 and a last of 1 to 255, in order". Assumes nothing.
use Rattle.std.specs.Prelude.{List, cond, ℕ, ◌+◌, ◌-◌, ◌*◌, get_or, ltb}
use Rattle.options.specs.Writing.{piece_size}
use Rattle.plan.specs.declared.Piece.{Piece}

-- the size of the data of the record at a place: "two-byte length"
abbrev pub size_of : List ℕ → ℕ → ℕ
size_of s at = 256 * get_or s (at + 1) 0 + get_or s (at + 2) 0

-- of a record of n bytes, `done` of which were in the pieces before: the size of the next one, and how far the place of the record moves behind it,
-- with the bytes done there
abbrev pub piece_of : (n done : ℕ) → Piece
piece_of n done =
    record { size = piece_size (n - done); ahead = cond (ltb 255 (n - done)) 0 (3 + n); done = cond (ltb 255 (n - done)) (done + 255) 0 }
