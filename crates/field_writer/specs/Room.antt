-- What the room left in a field holds after an option was written at its start, or END. Assumes nothing.
use Rattle.std.specs.Prelude.{List, [], ◌∷◌, ◌++◌, cond, ℕ, zero, suc, ◌+◌, length, drop, replicate, ltb}

-- an option: code, length byte, data; where the length takes more than a byte, or the option does not fit, the room stays as it was
unfoldable pub with_option : List ℕ → ℕ → List ℕ → List ℕ
with_option room code body =
    cond (ltb 255 (length body)) room
    (cond (ltb (length room) (length body + 2)) room ((code ∷ length body ∷ body) ++ drop (length body + 2) room))

-- "its END; the rest of that field becomes zero", of n bytes
unfoldable pub end_and_zeros : ℕ → List ℕ
end_and_zeros zero = []
end_and_zeros (suc n) = 255 ∷ replicate n 0
