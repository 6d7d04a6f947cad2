-- What a lent buffer holds after a record was written at its start. Assumes nothing.
use Rattle.std.specs.Prelude.{List, ◌∷◌, ◌++◌, cond, ℕ, ◌+◌, ◌/◌, ◌%◌, length, drop, ltb}

-- "one-byte tag (the code), two-byte length, data", the high byte first
abbrev pub record_of : ℕ → List ℕ → List ℕ
record_of tag body = tag ∷ length body / 256 ∷ length body % 256 ∷ body

-- where the length takes more than two bytes, or the record does not fit, the room stays as it was
unfoldable pub with_record : List ℕ → ℕ → List ℕ → List ℕ
with_record room tag body =
    cond (ltb 65535 (length body)) room
    (cond (ltb (length room) (length body + 3)) room (record_of tag body ++ drop (length body + 3) room))
