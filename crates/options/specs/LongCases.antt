-- CASES of long records (document 02, request 02), computed: split, written, read and taken back. Assumes nothing.
use Rattle.std.specs.Prelude.{◌≡◌, List, [], ◌∷◌, ◌++◌, map, true, ℕ, length, replicate}
use Rattle.options.specs.Message.{Rec, options}
use Rattle.options.specs.Kinds.{opaque, part, kinds}
use Rattle.options.specs.Answers.{in_pieces, known, Found, lookup, given, records, copy}
use Rattle.options.specs.Writing.{split_up, wrote, declined, writer}

abbrev pub sizes : List Rec → List ℕ
sizes rs = map (λ (r : Rec). length r.body) rs

-- 257 bytes: the first piece in options, behind 52; the last, of two bytes, in file
abbrev pub long : List ℕ
long = replicate 255 7 ++ (9 ∷ 8 ∷ [])

abbrev pub left : List ℕ
left = replicate 108 0 ++ ((43 ∷ 2 ∷ 9 ∷ 8 ∷ 255 ∷ replicate 123 0) ++ (99 ∷ 130 ∷ 83 ∷ 99 ∷ 52 ∷ 1 ∷ 1 ∷ 43 ∷ 255 ∷ (replicate 255 7 ++ (255 ∷ []))))

abbrev pub LongCasesHold : Type 0
LongCasesHold =
    -- pieces of 255 and a last of 1 to 255; a record of at most 255 bytes is its only piece
    (map (λ (n : ℕ). sizes (split_up n 43 (replicate n 7))) (0 ∷ 255 ∷ 256 ∷ 510 ∷ 511 ∷ 1024 ∷ []) ≡ (0 ∷ []) ∷ (255 ∷ []) ∷ (255 ∷ 1 ∷ []) ∷ (255 ∷ 255 ∷ []) ∷ (255 ∷ 255 ∷ 1 ∷ []) ∷ (255 ∷ 255 ∷ 255 ∷ 255 ∷ 4 ∷ []) ∷ [])
    -- 13 for 1,025 bytes, at the tag
    × (writer kinds (43 ∷ 4 ∷ 1 ∷ replicate 1025 7) (replicate 300 0) 3 ≡ declined 13 0)
    -- with 1,024 bytes it takes 1,034: 11 in a field of 1,034
    × (writer kinds (43 ∷ 4 ∷ 0 ∷ replicate 1024 7) (replicate 1274 0) 0 ≡ declined 11 1274)
    × (writer kinds (43 ∷ 1 ∷ 1 ∷ long) (replicate 501 0) 1 ≡ wrote 1 left)
    -- the answer names the first piece, says that there are several, and judges the joined bytes
    × (lookup kinds (λ c. true) left 43 ≡ Found (record { field = options; offset = 3; wholeness = in_pieces 257 }) (known (part opaque 257)))
    × (copy left 43 (replicate 258 170) ≡ record { answer = given 257; buffer = long ++ (170 ∷ []) })
    -- and the sheet comes back
    × (records left (replicate 261 170) ≡ record { answer = given 260; buffer = (43 ∷ 1 ∷ 1 ∷ long) ++ (170 ∷ []) })
