-- WHAT THE LISTING IN A LENT BUFFER MUST SATISFY. Proved in crate dhcpopt_extra. Assumes nothing.
use Rattle.std.specs.Prelude.{◌≡◌, List, ◌++◌, ◌↔◌, ℕ, ◌^◌, ◌≤◌, ◌<◌, length, drop}
use Rattle.options.specs.Answers.{given, Filled, unfilled, listing}
use Rattle.options.specs.KindClaims.{AllBytes}
use Rattle.options.specs.AnswerClaims.{ListingIs}
use Rattle.options.specs.Listed.{listed}

-- [L4, O8] the listing xs of m: all of it at the front of the buffer, and "bytes past what is given stay"; or [R11] document 01: "lent sheet too small", at its length, and then "changes no byte"
pub data ListsInto (m old : List ℕ) : Filled → Type 0 where
  gives : {xs : List ℕ} → ListingIs m xs → length xs ≤ length old → ListsInto m old (record { answer = given (length xs); buffer = xs ++ drop (length xs) old })
  too_small : {xs : List ℕ} → ListingIs m xs → length old < length xs → ListsInto m old (unfilled 11 (length old) old)

-- the one outcome; of every message whose length is a 64-bit number, as every slice's is (as ListingIsCorrect)
abbrev pub ListedIsRight : Type 0
ListedIsRight = (m old : List ℕ) (w : Filled) → AllBytes m → length m < 2 ^ 64 → listed m old ≡ w ↔ ListsInto m old w

-- [L4] 16,384 bytes of room are always enough
abbrev pub ListingRoomIsEnough : Type 0
ListingRoomIsEnough = (m old : List ℕ) → AllBytes m → 16384 ≤ length old → (listed m old).answer ≡ given (length (listing m))
