-- WHAT THE PLACE OF END MUST SATISFY, and that a message cut off behind it reads the same. Proved in crate trim. Assumes nothing.
use Rattle.std.specs.Prelude.{◌≡◌, List, ◌++◌, ◌↔◌, ℕ, ◌+◌, ◌≤◌, length, take, drop}
use Rattle.options.specs.Message.{EndAt, Begins}
use Rattle.options.specs.Refusals.{First}
use Rattle.options.specs.Reading.{read_message}
use Rattle.options.specs.ReadingClaims.{IsAccepted}
use Rattle.options.specs.Trim.{EndAnswer, ends_at, without_end, options_end_value}

-- [Q19, M11, M12] the byte at the place p is the options field's END: it is 255, and before it, from 240 on, stand pads and whole options alone, so it is no data byte
pub record EndPlace (m : List ℕ) (p : ℕ) : Type 0 where
  pub offset : ℕ
  pub is_place : p ≡ 240 + offset
  pub begins : Begins (drop 240 m) offset
  pub is_end : EndAt (drop 240 m) offset

-- [Q19] of an accepted message the place of END; else "number and place" of its first fault
pub data EndsRight (m : List ℕ) : EndAnswer → Type 0 where
  ends : {p : ℕ} → IsAccepted m → EndPlace m p → EndsRight m (ends_at p)
  refuses : {n p : ℕ} → First m n p → EndsRight m (without_end n p)

-- the one answer, for every message
abbrev pub OptionsEndIsRight : Type 0
OptionsEndIsRight = (m : List ℕ) (x : EndAnswer) → options_end_value m ≡ x ↔ EndsRight m x

-- there is one such place
abbrev pub OneEndPlace : Type 0
OneEndPlace = (m : List ℕ) (p q : ℕ) → EndPlace m p → EndPlace m q → p ≡ q

-- [Q20, M11] "255 is END, and what follows it is not read": whatever bytes follow END, or none, the message is read as before: the same options at the same places.
-- Of every accepted message, as long as the new one is not over 1,472 bytes
abbrev pub BehindEndIsNotRead : Type 0
BehindEndIsNotRead = (m r : List ℕ) (p : ℕ) → options_end_value m ≡ ends_at p → p + 1 + length r ≤ 1472 → read_message (take (p + 1) m ++ r) ≡ read_message m

-- [Q20] so it may be cut off right behind END: it is then p + 1 bytes long, is read as before, and END is its last byte
pub record CutBehindEnd (m : List ℕ) (p : ℕ) : Type 0 where
  pub size : length (take (p + 1) m) ≡ p + 1
  pub reads : read_message (take (p + 1) m) ≡ read_message m
  pub still_ends : options_end_value (take (p + 1) m) ≡ ends_at p

abbrev pub CutReadsTheSame : Type 0
CutReadsTheSame = (m : List ℕ) (p : ℕ) → options_end_value m ≡ ends_at p → CutBehindEnd m p
