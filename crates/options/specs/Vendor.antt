-- INSIDE VENDOR INFORMATION, option 43 (document 02, request 05; RFC 2132, 8.4; docs/RULES.md, V): its items read as records, and written from records, as definitions.
-- VendorClaims ties them to the relations of Message, Refusals and Sheet. Assumes nothing.
use Rattle.std.specs.Prelude.{List, [], ◌∷◌, cond, ℕ, length, ltb}
use Rattle.options.specs.Message.{Rec}
use Rattle.options.specs.Reading.{Parse, ended, ran_out_value, beyond, found, parse}
use Rattle.options.specs.Answers.{record_bytes, Filled, unfilled, filled_with}
use Rattle.options.specs.SheetWalk.{records_from, Sheet, sound, faulty, Rule, ruled, wrong_tag_value, longer_than}
use Rattle.options.specs.Writing.{option_bytes, longest_sheet}

-- ---- Reading

-- [V1] an item: the offset of its code byte, and its code with its data
pub record Item : Type 0 where
  pub offset : ℕ
  pub item : Rec

abbrev pub item_at : ℕ → ℕ → List ℕ → Item
item_at i c d = record { offset = i; item = record { tag = c; body = d } }

-- the items in order, or the offset of the one that runs past
pub data Items : Type 0 where
  listed : List Item → Items
  past : (offset : ℕ) → Items

abbrev pub also : Item → Items → Items
also x (listed xs) = listed (x ∷ xs)
also x (past i) = past i

-- [V2, V3] what an end means: "255 ends; the bytes running out between items also ends"; codes "may repeat, order kept"
unfoldable pub items_in : Parse → Items
items_in ended = listed []
items_in (ran_out_value i) = listed []
items_in (beyond i) = past i
items_in (found i x rest) = also (record { offset = i; item = x }) (items_in rest)

unfoldable pub item_records : List Item → List Rec
item_records [] = []
item_records (x ∷ xs) = x.item ∷ item_records xs

-- [R17, O10] "17 for an item running past, at its code"; "the reader 17, then 11"
abbrev pub vendor_in : Items → List ℕ → Filled
vendor_in (past i) old = unfilled 17 i old
vendor_in (listed xs) old = filled_with (record_bytes (item_records xs)) old

-- [V1, V4] the items of the bytes f, walked as those of a field are: "lists items as records into a lent sheet" (document 01 calls a buffer of records so), the buffer `old`
unfoldable pub vendor_records_value : List ℕ → List ℕ → Filled
unfolding parse items_in item_records record_bytes
vendor_records_value f old = vendor_in (items_in (parse 0 0 f)) old

-- ---- Writing

-- [O11] "record by record 12, 10 (tag 0 or 255), 13 (over 255)": 12 is the walk's
abbrev pub vendor_rules : List Rule
vendor_rules = wrong_tag_value (0 ∷ 255 ∷ []) ∷ longer_than 255 ∷ []

-- [V5] "gives at most 255 bytes"
abbrev pub longest_vendor : ℕ
longest_vendor = 255

-- [V5, R11] the items of the records, "without END"; "11 with the output's length where the items exceed it or 255"
abbrev pub items_given : List Rec → List ℕ → Filled
items_given rs out = cond (ltb longest_vendor (length (option_bytes rs))) (unfilled 11 (length out) out) (filled_with (option_bytes rs) out)

abbrev pub sheet_given : Sheet → List ℕ → Filled
sheet_given (faulty n p) out = unfilled n p out
sheet_given (sound rs) out = items_given rs out

unfoldable pub vendor_sheet : List ℕ → Sheet
unfolding records_from ruled
vendor_sheet s = ruled vendor_rules [] (records_from 0 0 s)

-- [V5, O11] "the writer takes such records"; it "gives 16, record by record .., then 11": those of the sheet s, into the buffer `out`
unfoldable pub vendor_write_value : List ℕ → List ℕ → Filled
unfolding option_bytes vendor_sheet
vendor_write_value s out = cond (ltb longest_sheet (length s)) (unfilled 16 (length s) out) (sheet_given (vendor_sheet s) out)
