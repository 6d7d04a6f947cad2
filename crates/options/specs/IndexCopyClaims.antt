-- WHAT A COPY THROUGH AN INDEX MUST SATISFY, in the words of requests 02 and 07. Proved in crate index_copy. Assumes nothing.
use Rattle.std.specs.Prelude.{◌≡◌, List, ◌++◌, ◌⊎◌, ◌↔◌, ℕ, ◌≤◌, ◌<◌, length, get_or, drop}
use Rattle.options.specs.Answers.{given, Filled, unfilled, copy}
use Rattle.options.specs.ReadingClaims.{IsAccepted}
use Rattle.options.specs.AnswerClaims.{JoinedBytes, CopyRow}
use Rattle.options.specs.IndexClaims.{BuiltFrom, HeadRight, HeadRow, Usable}
use Rattle.options.specs.IndexCopy.{copy_by}

-- the bytes d at the front of the buffer `old`, "bytes beyond them kept", and how many they are
abbrev pub copied : List ℕ → List ℕ → Filled
copied d old = record { answer = given (length d); buffer = d ++ drop (length d) old }

-- [Q17, O9] the copy of request 02: the joined bytes, or a refusal, which changes no byte
pub data PlainCopy (m : List ℕ) (c : ℕ) (old : List ℕ) : Filled → Type 0 where
  copies : {d : List ℕ} → IsAccepted m → JoinedBytes m c d → length d ≤ length old → PlainCopy m c old (copied d old)
  refuses : {n p : ℕ} → CopyRow m c old n p → PlainCopy m c old (unfilled n p old)

-- [I8] what an entry e of the code c comes to
pub data EntryCopy (m : List ℕ) (c e : ℕ) (old : List ℕ) : Filled → Type 0 where
  -- "0 says absent": "11 (absent: place 0 ..)"
  says_absent : e ≡ 0 → EntryCopy m c e old (unfilled 11 0 old)
  -- "65,535 uses the plain walk"
  plain_walk : {w : Filled} → e ≡ 65535 → PlainCopy m c old w → EntryCopy m c e old w
  -- "any other entry is used only if it lies in one of the three fields, that byte is the code, and length and data lie in that field"
  is_used : (e ≡ 65535 → ⊥) → (u : Usable m c e) → length u.body ≤ length old → EntryCopy m c e old (copied u.body old)
  -- "11 (.. buffer too small: its length)"
  too_small : (e ≡ 65535 → ⊥) → (u : Usable m c e) → length old < length u.body → EntryCopy m c e old (unfilled 11 (length old) old)
  -- "19 for an unusable entry, the entry being the place"
  refused_19 : (e ≡ 0 → ⊥) → (e ≡ 65535 → ⊥) → (Usable m c e → ⊥) → EntryCopy m c e old (unfilled 19 e old)

-- [I8, I5] "10, 1, 2, 3", 18, and then by the entry
pub data Copies (m idx : List ℕ) (c : ℕ) (old : List ℕ) : Filled → Type 0 where
  refused_10 : (c ≡ 0) ⊎ (c ≡ 255) → Copies m idx c old (unfilled 10 0 old)
  refused_head : {n p : ℕ} → 1 ≤ c → c ≤ 254 → HeadRow m idx n p → Copies m idx c old (unfilled n p old)
  when_by_entry : {w : Filled} → 1 ≤ c → c ≤ 254 → HeadRight m → length idx ≡ 256 → EntryCopy m c (get_or idx c 0) old w → Copies m idx c old w

-- for every message, index, code and buffer: the one outcome
abbrev pub CopiesByTheWords : Type 0
CopiesByTheWords = (m idx : List ℕ) (c : ℕ) (old : List ℕ) (w : Filled) → c ≤ 255 → copy_by m idx c old ≡ w ↔ Copies m idx c old w

-- [I8] with an index that was built from the same bytes: the plain copy, its answer and every byte of the buffer
abbrev pub CopiesAsPlain : Type 0
CopiesAsPlain = (m idx : List ℕ) (c : ℕ) (old : List ℕ) → c ≤ 255 → BuiltFrom m idx → copy_by m idx c old ≡ copy m c old
