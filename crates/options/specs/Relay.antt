-- INSIDE RELAY INFORMATION, option 82 (document 02, request 09; RFC 3046; docs/RULES.md, Y): its sub-options read as records, and written from records, as definitions.
-- RelayClaims ties them to relations that do not walk. Assumes nothing.
use Rattle.std.specs.Prelude.{List, [], ◌∷◌, cond, ℕ, ◌+◌, length, drop, ltb, eqb}
use Rattle.options.specs.SubOptions.{sub_options}
use Rattle.options.specs.Answers.{record_bytes, Filled, unfilled, filled_with}
use Rattle.options.specs.SheetWalk.{records_from, Sheet, sound, faulty, Rule, ruled, longer_than}
use Rattle.options.specs.Writing.{option_bytes, longest_sheet}
use Rattle.options.specs.Vendor.{Item, Items, listed, past, items_in, item_records, items_given}

-- ---- Reading

-- [Y3] "each absent or the first of that code, as its data's start and length in the bytes given"; of length 0 it is not absent
pub data Id : Type 0 where
  absent : Id
  named : (start length : ℕ) → Id

abbrev pub id_in : ℕ → List Item → Id
id_in c [] = absent
id_in c (x ∷ xs) = cond (eqb x.item.tag c) (named (x.offset + 2) (length x.item.body)) (id_in c xs)

-- [Y3] what the reader answers: the records in the lent buffer, "circuit id (1) and remote id (2)"
pub record RelayRead : Type 0 where
  pub filled : Filled
  pub circuit : Id
  pub remote : Id

-- a refusal names none
abbrev pub no_relay : ℕ → ℕ → List ℕ → RelayRead
no_relay n p old = record { filled = unfilled n p old; circuit = absent; remote = absent }

-- [Y2, R8, O12] "8 at the sub-option's code stands for 17"; then 11
abbrev pub relay_in : Items → List ℕ → RelayRead
relay_in (past i) old = no_relay 8 i old
relay_in (listed xs) old =
    cond (ltb (length old) (length (record_bytes (item_records xs)))) (no_relay 11 (length old) old)
    (record { filled = filled_with (record_bytes (item_records xs)) old; circuit = id_in 1 xs; remote = id_in 2 xs })

-- [Y2, R8] the sub-options of the bytes f as records in the lent buffer `old`; "no sub-options at all give 8 at 0"
unfoldable pub relay_records_value : List ℕ → List ℕ → RelayRead
unfolding sub_options items_in item_records record_bytes
relay_records_value [] old = no_relay 8 0 old
relay_records_value (b ∷ bs) old = relay_in (items_in (sub_options 0 0 (b ∷ bs))) old

-- ---- Writing

-- [O13] "as Req 05's do, save that no tag is a 10": 12 is the walk's, 13 over 255
abbrev pub relay_rules : List Rule
relay_rules = longer_than 255 ∷ []

unfoldable pub relay_sheet : List ℕ → Sheet
unfolding records_from ruled
relay_sheet s = ruled relay_rules [] (records_from 0 0 s)

-- [R8, O13] "no sub-options at all give 8 at 0"; then 11 where they exceed the output, or 255 bytes
abbrev pub relay_given : Sheet → List ℕ → Filled
relay_given (faulty n p) out = unfilled n p out
relay_given (sound []) out = unfilled 8 0 out
relay_given (sound (r ∷ rs)) out = items_given (r ∷ rs) out

-- [Y4, O13] the sub-options of the records of the sheet s, into the buffer `out`
unfoldable pub relay_write_value : List ℕ → List ℕ → Filled
unfolding option_bytes relay_sheet
relay_write_value s out = cond (ltb longest_sheet (length s)) (unfilled 16 (length s) out) (relay_given (relay_sheet s) out)
