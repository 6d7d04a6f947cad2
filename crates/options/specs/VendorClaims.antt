-- WHAT THE READER AND THE WRITER OF VENDOR INFORMATION MUST SATISFY (document 02, request 05). What begins, stands and runs past in the bytes is what does so in a field:
-- the relations of Message and Refusals. Only what an end means is said here: nothing asks for END. Proved in crate vendor_theorems. Assumes nothing.
use Rattle.std.specs.Prelude.{◌≡◌, List, [], ◌∷◌, ◌++◌, ◌⊎◌, ◌↔◌, ℕ, ◌+◌, ◌*◌, ◌≤◌, ◌<◌, length, take, drop}
use Rattle.options.specs.Message.{Rec, Begins, Stands}
use Rattle.options.specs.Refusals.{Beyond}
use Rattle.options.specs.KindClaims.{OneOf, FromTo, AllBytes}
use Rattle.options.specs.Answers.{record_bytes, given, declined, Filled}
use Rattle.options.specs.Sheet.{RecordBegins, Listed}
use Rattle.options.specs.SheetRefusals.{RecordBeyond}
use Rattle.options.specs.Writing.{option_bytes}
use Rattle.options.specs.Vendor.{Item, vendor_records_value, vendor_write_value}

-- ---- Every item once, in order

-- [R17] "an item running past, at its code"
pub record RunsPast (f : List ℕ) (i : ℕ) : Type 0 where
  pub begins : Begins f i
  pub beyond : Beyond f i

abbrev pub InItems : Item → List Item → Type 0
InItems x [] = ⊥
InItems x (y ∷ ys) = (x ≡ y) ⊎ InItems x ys

-- x stands before y in the list
abbrev pub ItemPrecedes : Item → Item → List Item → Type 0
ItemPrecedes x y [] = ⊥
ItemPrecedes x y (z ∷ zs) = ((x ≡ z) × InItems y zs) ⊎ ItemPrecedes x y zs

-- [V2, V3] xs are the items of f: no item runs past, and they are those that stand in f, by their offsets; END or none, and any code, 52 too. They "may repeat, order kept"
pub record ItemsOf (f : List ℕ) (xs : List Item) : Type 0 where
  pub none_past : (i : ℕ) → RunsPast f i → ⊥
  pub lists : (x : Item) → InItems x xs ↔ Stands f x.offset x.item.tag x.item.body
  pub in_order : (x y : Item) → ItemPrecedes x y xs → x.offset < y.offset

-- [O8] the bytes xs given at the start of a lent buffer (document 01: "bytes of the lent sheet, or of any other lent output, past what is given stay")
abbrev pub filled : List ℕ → List ℕ → Filled
filled xs old = record { answer = given (length xs); buffer = xs ++ drop (length xs) old }

-- ---- The reader

-- [V4, W1, M15] "lists items as records": document 01's, "end to end: one-byte tag (the code), two-byte length, data", "the high byte first".
-- Every item has its record, in order; a low byte below 256 leaves one high byte
pub data RecordsAre : List Item → List ℕ → Type 0 where
  no_item : RecordsAre [] []
  one_item : {x : Item} {xs : List Item} {rest : List ℕ} (high low : ℕ) → low < 256 → 256 * high + low ≡ length x.item.body
      → RecordsAre xs rest → RecordsAre (x ∷ xs) (x.item.tag ∷ high ∷ low ∷ (x.item.body ++ rest))

-- [V4, R17, O10] "the reader 17, then 11"; else the records b of the items xs
pub data ReadsItems (f old : List ℕ) : Filled → Type 0 where
  read_17 : {i : ℕ} → RunsPast f i → ReadsItems f old (record { answer = declined 17 i; buffer = old })
  read_11 : (xs : List Item) (b : List ℕ) → ItemsOf f xs → RecordsAre xs b → length old < length b → ReadsItems f old (record { answer = declined 11 (length old); buffer = old })
  reads : (xs : List Item) (b : List ℕ) → ItemsOf f xs → RecordsAre xs b → length b ≤ length old → ReadsItems f old (filled b old)

-- no other answer is right
abbrev pub VendorReaderIsCorrect : Type 0
VendorReaderIsCorrect = (f old : List ℕ) (w : Filled) → vendor_records_value f old ≡ w ↔ ReadsItems f old w

-- "A room of 2 * size is always enough": so include/dhcpopt.h promises
abbrev pub VendorRoomIsEnough : Type 0
VendorRoomIsEnough = (f old : List ℕ) (xs : List Item) (b : List ℕ) → ItemsOf f xs → RecordsAre xs b → 2 * length f ≤ length old → vendor_records_value f old ≡ filled b old

-- ---- The writer

-- [O11] `VendorRow s n i rank`: row n applies to the record whose tag byte is at place i of the sheet s; "record by record 12, 10, 13" is the rank
pub data VendorRow (s : List ℕ) : ℕ → ℕ → ℕ → Type 0 where
  row_12 : {i : ℕ} → RecordBegins s i → RecordBeyond s i → VendorRow s 12 i 0
  -- [R10] "tag 0 or 255"
  row_10 : {i c : ℕ} {d : List ℕ} → Listed s i c d → (c ≡ 0) ⊎ (c ≡ 255) → VendorRow s 10 i 1
  -- [R13] "over 255"
  row_13 : {i c : ℕ} {d : List ℕ} → Listed s i c d → 255 < length d → VendorRow s 13 i 2

-- row n applies to the record at i, and no row applies to an earlier record, or to this one earlier in their order
pub record FirstVendorRow (s : List ℕ) (n i : ℕ) : Type 0 where
  pub rank : ℕ
  pub applies : VendorRow s n i rank
  pub none_before : {k j q : ℕ} → VendorRow s k j q → (i < j) ⊎ ((i ≡ j) × (rank ≤ q))

-- the records of a sheet that no row applies to
pub record RightSheet (s : List ℕ) (rs : List Rec) : Type 0 where
  pub is_sheet : s ≡ record_bytes rs
  pub no_row : (n i rank : ℕ) → VendorRow s n i rank → ⊥

-- [V5, R16, R11] "the writer gives 16, record by record .., then 11 with the output's length where the items exceed it or 255"; else the items, "without END"
pub data WritesItems (s out : List ℕ) : Filled → Type 0 where
  write_16 : 4096 < length s → WritesItems s out (record { answer = declined 16 (length s); buffer = out })
  write_record : {n i : ℕ} → length s ≤ 4096 → FirstVendorRow s n i → WritesItems s out (record { answer = declined n i; buffer = out })
  write_11 : (rs : List Rec) → length s ≤ 4096 → RightSheet s rs
      → (length out < length (option_bytes rs)) ⊎ (255 < length (option_bytes rs)) → WritesItems s out (record { answer = declined 11 (length out); buffer = out })
  writes : (rs : List Rec) → length s ≤ 4096 → RightSheet s rs
      → length (option_bytes rs) ≤ length out → length (option_bytes rs) ≤ 255 → WritesItems s out (filled (option_bytes rs) out)

-- no other answer is right, for a sheet of bytes, as every sheet handed to the code is
abbrev pub VendorWriterIsCorrect : Type 0
VendorWriterIsCorrect = (s out : List ℕ) (w : Filled) → AllBytes s → vendor_write_value s out ≡ w ↔ WritesItems s out w

-- "No more room than DHCPOPT_LONGEST_VENDOR is needed", which is 255: so include/dhcpopt.h promises
abbrev pub VendorWriteRoomIsEnough : Type 0
VendorWriteRoomIsEnough =
    (s out : List ℕ) (rs : List Rec) → AllBytes s → length s ≤ 4096 → RightSheet s rs → length (option_bytes rs) ≤ 255 → 255 ≤ length out
    → vendor_write_value s out ≡ filled (option_bytes rs) out

-- "dhcpopt_vendor_records gives 11 and 17, dhcpopt_vendor_write 10 to 13 and 16": so include/dhcpopt.h promises
abbrev pub VendorNumbers : Type 0
VendorNumbers =
    ((f old : List ℕ) (n p : ℕ) → (vendor_records_value f old).answer ≡ declined n p → OneOf n (11 ∷ 17 ∷ []))
    × ((s out : List ℕ) (n p : ℕ) → AllBytes s → (vendor_write_value s out).answer ≡ declined n p → FromTo 10 13 n ⊎ (n ≡ 16))

-- ---- [V6] "Written, then read with room enough, the records come back": n bytes were given, at the start of w; they come back byte for byte

abbrev pub VendorComesBack : Type 0
VendorComesBack =
    (s out : List ℕ) (n : ℕ) (w old : List ℕ) → AllBytes s → vendor_write_value s out ≡ record { answer = given n; buffer = w } → length s ≤ length old
    → vendor_records_value (take n w) old ≡ filled s old
