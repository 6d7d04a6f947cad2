-- WHAT THE READER AND THE WRITER OF RELAY INFORMATION MUST SATISFY (document 02, request 09). Sub-options have neither pads nor END, so that bytes which they fill
-- are those of a list, end to end (`SubOptionsAre` of KindClaims): the relations do not walk. Proved in crate relay_theorems. Assumes nothing.
use Rattle.std.specs.Prelude.{◌≡◌, List, [], ◌∷◌, ◌++◌, ◌⊎◌, ◌↔◌, ℕ, ◌+◌, ◌*◌, ◌≤◌, ◌<◌, length, take}
use Rattle.options.specs.Message.{Rec}
use Rattle.options.specs.Kinds.{relay, Value, broken, part, kinds}
use Rattle.options.specs.KindClaims.{OneOf, FromTo, AllBytes, SubOptionsAre}
use Rattle.options.specs.Answers.{given, declined, Filled}
use Rattle.options.specs.Sheet.{RecordBegins, Listed}
use Rattle.options.specs.SheetRefusals.{RecordBeyond}
use Rattle.options.specs.WriterClaims.{Has}
use Rattle.options.specs.VendorClaims.{filled}
use Rattle.options.specs.Relay.{Id, absent, named, RelayRead, relay_records_value, relay_write_value}

-- [W1, M15] records, "end to end: one-byte tag (the code), two-byte length, data", "the high byte first", whatever the tag, 0 and 255 too; a low byte below 256 leaves one high byte
pub data RecordsAre : List Rec → List ℕ → Type 0 where
  no_record : RecordsAre [] []
  one_record : {c : ℕ} {d rest : List ℕ} {rs : List Rec} (high low : ℕ) → low < 256 → 256 * high + low ≡ length d
      → RecordsAre rs rest → RecordsAre (record { tag = c; body = d } ∷ rs) (c ∷ high ∷ low ∷ (d ++ rest))

-- [R0] "Every refusal gives number and place and changes no byte lent to the call"
abbrev pub refused_write : (number place : ℕ) (out : List ℕ) → Filled
refused_write n p out = record { answer = declined n p; buffer = out }

-- and of the reader it names no id
abbrev pub refused_read : (number place : ℕ) (old : List ℕ) → RelayRead
refused_read n p old = record { filled = record { answer = declined n p; buffer = old }; circuit = absent; remote = absent }

-- ---- The reader

-- the bytes begin with a sub-option that runs past them: its length byte is missing, or bytes of its data
pub data RunsPast : List ℕ → Type 0 where
  code_alone : {c : ℕ} → RunsPast (c ∷ [])
  data_short : {c n : ℕ} {r : List ℕ} → length r < n → RunsPast (c ∷ n ∷ r)

-- [R8] "8 at the sub-option's code stands for 17": whole ones stand before it
pub record PastAt (f : List ℕ) (i : ℕ) : Type 0 where
  pub before : List Rec
  pub head : List ℕ
  pub rest : List ℕ
  pub reads : f ≡ head ++ rest
  pub whole : SubOptionsAre before head
  pub place : i ≡ length head
  pub runs_past : RunsPast rest

-- [Y3] "each absent or the first of that code, as its data's start and length in the bytes given": `head` are the bytes of those before it
pub data IdOf (c : ℕ) (rs : List Rec) : Id → Type 0 where
  none_has : ((r : Rec) → Has r rs → r.tag ≡ c → ⊥) → IdOf c rs absent
  first_has : (before : List Rec) (head d : List ℕ) (after : List Rec) → rs ≡ before ++ (record { tag = c; body = d } ∷ after) → SubOptionsAre before head
      → ((r : Rec) → Has r before → r.tag ≡ c → ⊥) → IdOf c rs (named (length head + 2) (length d))

-- [Y1, Y2, Y3, O12] 8 at 0 for none, 8 where one runs past, then 11; else the records b of those that fill the bytes, circuit id (1) and remote id (2). A refusal names none
pub data ReadsRelay (f old : List ℕ) : RelayRead → Type 0 where
  read_none : f ≡ [] → ReadsRelay f old (refused_read 8 0 old)
  read_8 : {i : ℕ} → PastAt f i → ReadsRelay f old (refused_read 8 i old)
  read_11 : (r : Rec) (rs : List Rec) (b : List ℕ) → SubOptionsAre (r ∷ rs) f → RecordsAre (r ∷ rs) b → length old < length b → ReadsRelay f old (refused_read 11 (length old) old)
  reads : (r : Rec) (rs : List Rec) (b : List ℕ) {x y : Id} → SubOptionsAre (r ∷ rs) f → RecordsAre (r ∷ rs) b → length b ≤ length old
      → IdOf 1 (r ∷ rs) x → IdOf 2 (r ∷ rs) y → ReadsRelay f old (record { filled = filled b old; circuit = x; remote = y })

-- no other answer is right
abbrev pub RelayReaderIsCorrect : Type 0
RelayReaderIsCorrect = (f old : List ℕ) (w : RelayRead) → relay_records_value f old ≡ w ↔ ReadsRelay f old w

-- [K15] the reader gives 8, at some place, exactly where the bytes as an option 82 are broken by 8
abbrev pub RelayReadsTheRow : Type 0
RelayReadsTheRow = (f old : List ℕ) → ((i : ℕ) × ((relay_records_value f old).filled.answer ≡ declined 8 i)) ↔ (kinds.value 82 f ≡ broken 8)

-- "A room of 2 * size is always enough": so include/dhcpopt.h promises
abbrev pub RelayRoomIsEnough : Type 0
RelayRoomIsEnough = (f old : List ℕ) (r : Rec) (rs : List Rec) (b : List ℕ) → SubOptionsAre (r ∷ rs) f → RecordsAre (r ∷ rs) b → 2 * length f ≤ length old → (relay_records_value f old).filled ≡ filled b old

-- ---- The writer

-- [O13] `RelayRow s n i rank`: row n applies to the record whose tag byte is at place i of the sheet s; "no tag is a 10", so that 12 and 13 are left
pub data RelayRow (s : List ℕ) : ℕ → ℕ → ℕ → Type 0 where
  row_12 : {i : ℕ} → RecordBegins s i → RecordBeyond s i → RelayRow s 12 i 0
  row_13 : {i c : ℕ} {d : List ℕ} → Listed s i c d → 255 < length d → RelayRow s 13 i 1

-- row n applies to the record at i, and no row applies to an earlier record, or to this one earlier in their order
pub record FirstRelayRow (s : List ℕ) (n i : ℕ) : Type 0 where
  pub rank : ℕ
  pub applies : RelayRow s n i rank
  pub none_before : {k j q : ℕ} → RelayRow s k j q → (i < j) ⊎ ((i ≡ j) × (rank ≤ q))

-- the records of a sheet that no row applies to
pub record RightRelay (s : List ℕ) (rs : List Rec) : Type 0 where
  pub is_sheet : RecordsAre rs s
  pub no_row : (n i rank : ℕ) → RelayRow s n i rank → ⊥

-- [Y4, O13] 16, record by record 12 and 13, 8 at 0 for no record, 11 where the sub-options exceed the output or 255 bytes; else their bytes b are given
pub data WritesRelay (s out : List ℕ) : Filled → Type 0 where
  write_16 : 4096 < length s → WritesRelay s out (refused_write 16 (length s) out)
  write_record : {n i : ℕ} → length s ≤ 4096 → FirstRelayRow s n i → WritesRelay s out (refused_write n i out)
  write_8 : s ≡ [] → WritesRelay s out (refused_write 8 0 out)
  write_11 : (r : Rec) (rs : List Rec) (b : List ℕ) → length s ≤ 4096 → RightRelay s (r ∷ rs) → SubOptionsAre (r ∷ rs) b
      → (length out < length b) ⊎ (255 < length b) → WritesRelay s out (refused_write 11 (length out) out)
  writes : (r : Rec) (rs : List Rec) (b : List ℕ) → length s ≤ 4096 → RightRelay s (r ∷ rs) → SubOptionsAre (r ∷ rs) b
      → length b ≤ length out → length b ≤ 255 → WritesRelay s out (filled b out)

-- no other answer is right, for a sheet of bytes, as every sheet handed to the code is
abbrev pub RelayWriterIsCorrect : Type 0
RelayWriterIsCorrect = (s out : List ℕ) (w : Filled) → AllBytes s → relay_write_value s out ≡ w ↔ WritesRelay s out w

-- "No more room than DHCPOPT_LONGEST_RELAY is needed": so include/dhcpopt.h promises
abbrev pub RelayWriteRoomIsEnough : Type 0
RelayWriteRoomIsEnough =
    (s out : List ℕ) (r : Rec) (rs : List Rec) (b : List ℕ) → AllBytes s → length s ≤ 4096 → RightRelay s (r ∷ rs) → SubOptionsAre (r ∷ rs) b → length b ≤ 255 → 255 ≤ length out → relay_write_value s out ≡ filled b out

-- "dhcpopt_relay_records gives 8 and 11, dhcpopt_relay_write 8, 11 to 13 and 16": so include/dhcpopt.h promises
abbrev pub RelayNumbers : Type 0
RelayNumbers =
    ((f old : List ℕ) (n p : ℕ) → (relay_records_value f old).filled.answer ≡ declined n p → OneOf n (8 ∷ 11 ∷ []))
    × ((s out : List ℕ) (n p : ℕ) → AllBytes s → (relay_write_value s out).answer ≡ declined n p → OneOf n (8 ∷ 16 ∷ []) ⊎ FromTo 11 13 n)

-- ---- What was given: n bytes, at the start of w

-- [Y5] "Written, then read with room enough, the records come back", byte for byte
abbrev pub RelayComesBack : Type 0
RelayComesBack =
    (s out : List ℕ) (n : ℕ) (w old : List ℕ) → AllBytes s → relay_write_value s out ≡ record { answer = given n; buffer = w } → length s ≤ length old
    → (relay_records_value (take n w) old).filled ≡ filled s old

-- [K15] it keeps the row of 82
abbrev pub WrittenKeepsTheRow : Type 0
WrittenKeepsTheRow =
    (s out : List ℕ) (n : ℕ) (w : List ℕ) → AllBytes s → relay_write_value s out ≡ record { answer = given n; buffer = w } → kinds.value 82 (take n w) ≡ part relay n
