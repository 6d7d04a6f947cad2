-- CASES OF AN INDEX, computed (document 02, request 07): codes in one piece and in two, each kind of entry, and indexes of other bytes. Assumes nothing.
use Rattle.std.specs.Prelude.{◌≡◌, List, [], ◌∷◌, ◌++◌, map, ℕ, pos, length, get_or, replicate}
use Rattle.options.specs.Message.{Field, options, file, sname}
use Rattle.options.specs.Kinds.{kinds, octet, text, opaque, unsigned32, broken, number, part}
use Rattle.options.specs.CodeSet.{marked}
use Rattle.options.specs.Answers.{Content, unknown, known, Answer, Absent, Refused, Found, given, declined}
use Rattle.options.specs.Cases.{message_of, all_codes, whole, in_several}
use Rattle.options.specs.Index.{build, lookup_by}

-- 43 in two pieces, a text of one letter between them, 52 for file, and there a lease time. Behind END stands a lease time of 1; sname is not active
abbrev pub message : List ℕ
message = message_of (51 ∷ 4 ∷ 0 ∷ 0 ∷ 14 ∷ 16 ∷ 255 ∷ []) (43 ∷ 1 ∷ 7 ∷ 12 ∷ 2 ∷ 97 ∷ 0 ∷ 43 ∷ 2 ∷ 8 ∷ 9 ∷ 52 ∷ 1 ∷ 1 ∷ 255 ∷ 51 ∷ 4 ∷ 0 ∷ 0 ∷ 0 ∷ 1 ∷ 51 ∷ 1 ∷ [])

-- its index, built over other numbers
abbrev pub built : List ℕ
built = (build message (replicate 256 7)).buffer

abbrev pub through_built : ℕ → Answer
through_built c = lookup_by kinds (marked all_codes) message built c

-- an index whose entries are all e
abbrev pub through_entry : ℕ → ℕ → Answer
through_entry e c = lookup_by kinds (marked all_codes) message (replicate 256 e) c

abbrev pub at : Field → ℕ → Content → Answer
at fd i x = Found (whole fd i) x

-- a message with bytes that look like options where none stand: a header of 12s; in sname, which is not active, a 52 of two bytes, one of the value 4, a 12 whose
-- data run on into file, and a 12 that ends with the field, whose last byte is 12 again; a 12 as the last byte of file; and an empty 12 without END behind it
abbrev pub crafted : List ℕ
crafted =
    replicate 44 12 ++ (52 ∷ 2 ∷ 1 ∷ 1 ∷ 52 ∷ 1 ∷ 4 ∷ []) ++ replicate 9 0 ++ (12 ∷ 47 ∷ []) ++ replicate 38 0
    ++ (12 ∷ 6 ∷ 97 ∷ 98 ∷ 99 ∷ 100 ∷ 101 ∷ 12 ∷ []) ++ replicate 127 0 ++ (12 ∷ 99 ∷ 130 ∷ 83 ∷ 99 ∷ []) ++ (12 ∷ 0 ∷ [])

abbrev pub through_crafted : ℕ → ℕ → Answer
through_crafted e c = lookup_by kinds (marked all_codes) crafted (replicate 256 e) c

abbrev pub IndexCasesHold : Type 0
IndexCasesHold =
    -- [R18, I5] 255 and 257 numbers: their count; after 1, and before the reader's 5
    (build message (replicate 255 7) ≡ record { answer = declined 18 255; buffer = replicate 255 7 })
    × (build message (replicate 257 7) ≡ record { answer = declined 18 257; buffer = replicate 257 7 })
    × (build [] (replicate 255 7) ≡ record { answer = declined 1 0; buffer = replicate 255 7 })
    × (build (message_of [] []) (replicate 255 7) ≡ record { answer = declined 18 255; buffer = replicate 255 7 })
    × (build (message_of [] []) (replicate 256 7) ≡ record { answer = declined 5 240; buffer = replicate 256 7 })
    × (build (replicate 240 0) (replicate 255 7) ≡ record { answer = declined 3 236; buffer = replicate 255 7 })
    -- [I1, I2] the entries; "how many bytes it gave"
    × ((build message (replicate 256 7)).answer ≡ given 512)
    × (map (λ c. get_or built c 1) (0 ∷ 12 ∷ 43 ∷ 51 ∷ 52 ∷ 53 ∷ 255 ∷ []) ≡ 0 ∷ 243 ∷ 65535 ∷ 108 ∷ 251 ∷ 0 ∷ 0 ∷ [])
    × (get_or (build (message_of [] (80 ∷ 0 ∷ 255 ∷ [])) (replicate 256 7)).buffer 80 1 ≡ 240)
    -- [I3] as the plain lookup
    × (map through_built (0 ∷ 12 ∷ 43 ∷ 51 ∷ 52 ∷ 53 ∷ 255 ∷ [])
    ≡ Refused 10 0
    ∷ at options 3 (known (part text 1))
    ∷ Found (in_several options 0 3) (known (part opaque 3))
    ∷ at file 0 (known (number unsigned32 (pos 3600)))
    ∷ at options 11 (known (number octet (pos 1)))
    ∷ Absent
    ∷ Refused 10 0
    ∷ [])
    -- [R18] a lookup's 18, after 10
    × (map (lookup_by kinds (marked all_codes) message (replicate 255 0)) (255 ∷ 12 ∷ []) ≡ Refused 10 0 ∷ Refused 18 255 ∷ [])
    × (lookup_by kinds (marked all_codes) (replicate 240 0) (replicate 255 0) 12 ≡ Refused 3 236)
    -- [R19, I4] another byte than the code, wherever the entry points: 19 with the entry
    × (map (λ e. through_entry e 12) (1 ∷ 43 ∷ 44 ∷ 236 ∷ 240 ∷ 263 ∷ 65534 ∷ [])
    ≡ Refused 19 1 ∷ Refused 19 43 ∷ Refused 19 44 ∷ Refused 19 236 ∷ Refused 19 240 ∷ Refused 19 263 ∷ Refused 19 65534 ∷ [])
    -- data past its field, and no length byte: `33 01` as the last bytes, and `01` as the last
    × (through_entry 261 51 ≡ Refused 19 261)
    × (through_entry 262 1 ≡ Refused 19 262)
    -- the code's byte is there, but in the header, with data past its field, as the last byte of a field, and in the cookie
    × (map (λ e. through_crafted e 12) (1 ∷ 43 ∷ 60 ∷ 107 ∷ 235 ∷ []) ≡ Refused 19 1 ∷ Refused 19 43 ∷ Refused 19 60 ∷ Refused 19 107 ∷ Refused 19 235 ∷ [])
    × (through_crafted 239 99 ≡ Refused 19 239)
    -- in a field that is not active, up to its last byte; a 52 that no message is accepted with; in a message without END; and of a code that is not known
    × (through_crafted 100 12 ≡ at sname 56 (known (part text 6)))
    × (map (λ e. through_crafted e 52) (44 ∷ 48 ∷ []) ≡ at sname 0 (known (broken 8)) ∷ at sname 4 (known (broken 9)) ∷ [])
    × (through_crafted 240 12 ≡ at options 0 (known (broken 8)))
    × (lookup_by kinds (marked (0 ∷ 0 ∷ 0 ∷ 0 ∷ [])) crafted (replicate 256 100) 12 ≡ at sname 56 (unknown 6))
    -- the second piece of 43, and a lease time behind END, are used
    × (through_entry 247 43 ≡ at options 7 (known (part opaque 2)))
    × (through_entry 255 51 ≡ at options 15 (known (number unsigned32 (pos 1))))
    -- "65,535 uses the plain walk", "0 says absent"
    × (map (through_entry 65535) (12 ∷ 99 ∷ []) ≡ at options 3 (known (part text 1)) ∷ Absent ∷ [])
    × (through_entry 0 12 ≡ Absent)
    -- of a message with a fault: 0 says absent all the same, and the plain walk refuses
    × (map (λ e. lookup_by kinds (marked all_codes) (message_of [] []) (replicate 256 e) 12) (0 ∷ 65535 ∷ []) ≡ Absent ∷ Refused 5 240 ∷ [])
