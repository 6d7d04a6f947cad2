-- CASES of grouped sheets (document 02, request 08): a table for the calls that fill a buffer, and one for the check, each proved by a single statement in crate grouped_theorems. Assumes nothing.
use Rattle.std.specs.Prelude.{◌≡◌, List, [], ◌∷◌, ◌++◌, map, ℕ, zero, suc, replicate}
use Rattle.options.specs.Answers.{Verdict, passed, refused_with, Given, given, declined, Filled}
use Rattle.options.specs.Grouped.{check, choice, move, go_back}

pub data Call : Type 0 where
  choose : (file class : List ℕ) → Call
  moving : (sheet : List ℕ) → Call
  going_back : (file : List ℕ) → Call

pub record Case : Type 0 where
  pub call : Call
  pub room : ℕ
  pub answer : Given
  pub bytes : List ℕ

-- the lent buffer holds 170 everywhere
unfoldable pub run : Call → List ℕ → Filled
unfolding choice move go_back
run (choose f class) old = choice f class old
run (moving s) old = move s old
run (going_back f) old = go_back f old

abbrev pub outcome : Case → Filled
outcome c = run c.call (replicate c.room 170)

abbrev pub expected : Case → Filled
expected c = record { answer = c.answer; buffer = c.bytes }

-- a nameless outermost group: record 53, group A with record 51, group B with record 1, record 12
abbrev pub two : List ℕ
two = 0 ∷ 0 ∷ 25 ∷ 0 ∷ 53 ∷ 0 ∷ 1 ∷ 5 ∷ 0 ∷ 0 ∷ 6 ∷ 1 ∷ 65 ∷ 51 ∷ 0 ∷ 1 ∷ 9 ∷ 0 ∷ 0 ∷ 5 ∷ 1 ∷ 66 ∷ 1 ∷ 0 ∷ 0 ∷ 12 ∷ 0 ∷ 0 ∷ []

-- groups in groups, four deep and five deep
abbrev pub four : List ℕ
four = 0 ∷ 0 ∷ 16 ∷ 0 ∷ 0 ∷ 0 ∷ 12 ∷ 0 ∷ 0 ∷ 0 ∷ 8 ∷ 0 ∷ 0 ∷ 0 ∷ 4 ∷ 0 ∷ 23 ∷ 0 ∷ 0 ∷ []

abbrev pub five : List ℕ
five = 0 ∷ 0 ∷ 17 ∷ 0 ∷ 0 ∷ 0 ∷ 13 ∷ 0 ∷ 0 ∷ 0 ∷ 9 ∷ 0 ∷ 0 ∷ 0 ∷ 5 ∷ 0 ∷ 0 ∷ 0 ∷ 1 ∷ 0 ∷ []

-- a group A that holds a nameless group with record 23: another class does not enter it
abbrev pub nested : List ℕ
nested = 0 ∷ 0 ∷ 13 ∷ 0 ∷ 0 ∷ 0 ∷ 9 ∷ 1 ∷ 65 ∷ 0 ∷ 0 ∷ 4 ∷ 0 ∷ 23 ∷ 0 ∷ 0 ∷ []

-- an outermost group A with record 23
abbrev pub named : List ℕ
named = 0 ∷ 0 ∷ 5 ∷ 1 ∷ 65 ∷ 23 ∷ 0 ∷ 0 ∷ []

-- an outermost group AB with record 23
abbrev pub named_aB : List ℕ
named_aB = 0 ∷ 0 ∷ 6 ∷ 2 ∷ 65 ∷ 66 ∷ 23 ∷ 0 ∷ 0 ∷ []

-- an outermost group ABC with record 23
abbrev pub named_aBC : List ℕ
named_aBC = 0 ∷ 0 ∷ 7 ∷ 3 ∷ 65 ∷ 66 ∷ 67 ∷ 23 ∷ 0 ∷ 0 ∷ []

-- four deep: nameless, nameless, one with n bytes of name, the byte x or none, and in it one named A with record 23
abbrev pub deep : ℕ → ℕ → List ℕ
deep zero x = 0 ∷ 0 ∷ 17 ∷ 0 ∷ 0 ∷ 0 ∷ 13 ∷ 0 ∷ 0 ∷ 0 ∷ 9 ∷ 0 ∷ 0 ∷ 0 ∷ 5 ∷ 1 ∷ 65 ∷ 23 ∷ 0 ∷ 0 ∷ []
deep (suc n) x = 0 ∷ 0 ∷ 18 ∷ 0 ∷ 0 ∷ 0 ∷ 14 ∷ 0 ∷ 0 ∷ 0 ∷ 10 ∷ 1 ∷ x ∷ 0 ∷ 0 ∷ 5 ∷ 1 ∷ 65 ∷ 23 ∷ 0 ∷ 0 ∷ []

-- nothing is given: the lent bytes stay
abbrev pub nothing : Call → Case
nothing c = record { call = c; room = 3; answer = given 0; bytes = replicate 3 170 }

-- refused: the lent bytes stay
abbrev pub kept : Call → ℕ → ℕ → ℕ → Case
kept c room n p = record { call = c; room = room; answer = declined n p; bytes = replicate room 170 }

abbrev pub cases : List Case
cases =
    record { call = choose two (65 ∷ []); room = 12; answer = given 11; bytes = 53 ∷ 0 ∷ 1 ∷ 5 ∷ 51 ∷ 0 ∷ 1 ∷ 9 ∷ 12 ∷ 0 ∷ 0 ∷ 170 ∷ [] }
    ∷ record { call = choose two (66 ∷ []); room = 10; answer = given 10; bytes = 53 ∷ 0 ∷ 1 ∷ 5 ∷ 1 ∷ 0 ∷ 0 ∷ 12 ∷ 0 ∷ 0 ∷ [] }
    ∷ record { call = choose two []; room = 7; answer = given 7; bytes = 53 ∷ 0 ∷ 1 ∷ 5 ∷ 12 ∷ 0 ∷ 0 ∷ [] }
    ∷ kept (choose two (65 ∷ [])) 10 11 10
    ∷ record { call = choose nested (65 ∷ []); room = 3; answer = given 3; bytes = 23 ∷ 0 ∷ 0 ∷ [] }
    ∷ record { call = choose nested (66 ∷ []); room = 0; answer = given 0; bytes = [] }
    ∷ record { call = choose named (65 ∷ []); room = 4; answer = given 3; bytes = 23 ∷ 0 ∷ 0 ∷ 170 ∷ [] }
    ∷ record { call = choose named (66 ∷ []); room = 1; answer = given 0; bytes = 170 ∷ [] }
    -- a name is compared whole: not by its beginning, nor by the beginning of the class, nor by its first byte, nor in another case
    ∷ nothing (choose named (65 ∷ 66 ∷ []))
    ∷ nothing (choose named (97 ∷ []))
    ∷ nothing (choose named_aB (65 ∷ []))
    ∷ nothing (choose named_aB (65 ∷ 67 ∷ []))
    ∷ record { call = choose named_aB (65 ∷ 66 ∷ []); room = 3; answer = given 3; bytes = 23 ∷ 0 ∷ 0 ∷ [] }
    -- not but for a byte in its middle, its last byte, a high bit, trailing zeros or trailing blanks
    ∷ record { call = choose named_aBC (65 ∷ 66 ∷ 67 ∷ []); room = 3; answer = given 3; bytes = 23 ∷ 0 ∷ 0 ∷ [] }
    ∷ nothing (choose named_aBC (65 ∷ 64 ∷ 67 ∷ []))
    ∷ nothing (choose named_aBC (65 ∷ 66 ∷ 66 ∷ []))
    ∷ nothing (choose named_aBC (65 ∷ 66 ∷ 195 ∷ []))
    ∷ nothing (choose named_aBC (193 ∷ 66 ∷ 67 ∷ []))
    ∷ nothing (choose named_aBC (65 ∷ 66 ∷ 67 ∷ 0 ∷ []))
    ∷ nothing (choose named_aBC (65 ∷ 66 ∷ 67 ∷ 32 ∷ []))
    ∷ nothing (choose (0 ∷ 0 ∷ 6 ∷ 2 ∷ 65 ∷ 0 ∷ 23 ∷ 0 ∷ 0 ∷ []) (65 ∷ []))
    ∷ nothing (choose (0 ∷ 0 ∷ 6 ∷ 2 ∷ 65 ∷ 32 ∷ 23 ∷ 0 ∷ 0 ∷ []) (65 ∷ []))
    ∷ nothing (choose (0 ∷ 0 ∷ 5 ∷ 1 ∷ 0 ∷ 23 ∷ 0 ∷ 0 ∷ []) [])
    -- the name of the innermost of four counts, and that of each group around it
    ∷ record { call = choose (deep 0 0) (65 ∷ []); room = 3; answer = given 3; bytes = 23 ∷ 0 ∷ 0 ∷ [] }
    ∷ nothing (choose (deep 0 0) (66 ∷ []))
    ∷ nothing (choose (deep 0 0) [])
    ∷ record { call = choose (deep 1 65) (65 ∷ []); room = 3; answer = given 3; bytes = 23 ∷ 0 ∷ 0 ∷ [] }
    ∷ nothing (choose (deep 1 66) (65 ∷ []))
    ∷ nothing (choose (deep 1 66) (66 ∷ []))
    ∷ record { call = choose four []; room = 3; answer = given 3; bytes = 23 ∷ 0 ∷ 0 ∷ [] }
    ∷ kept (choose five []) 3 21 16
    ∷ kept (choose [] []) 3 20 0
    ∷ kept (choose (52 ∷ 0 ∷ 0 ∷ []) []) 3 20 0
    ∷ kept (choose (0 ∷ 0 ∷ 0 ∷ []) []) 3 20 0
    ∷ kept (choose (0 ∷ 0 ∷ 1 ∷ 0 ∷ 7 ∷ []) []) 3 20 4
    ∷ kept (choose (0 ∷ 0 ∷ 4 ∷ 0 ∷ 52 ∷ 0 ∷ 0 ∷ []) []) 3 10 4
    ∷ kept (choose (0 ∷ 0 ∷ 4 ∷ 0 ∷ 255 ∷ 0 ∷ 1 ∷ []) []) 3 20 4
    ∷ kept (choose (0 ∷ 0 ∷ 6 ∷ 0 ∷ 0 ∷ 0 ∷ 2 ∷ 2 ∷ 65 ∷ []) []) 3 20 4
    -- in groups that are not entered too: a tag 255, a fifth depth
    ∷ kept (choose (0 ∷ 0 ∷ 9 ∷ 0 ∷ 0 ∷ 0 ∷ 5 ∷ 1 ∷ 65 ∷ 255 ∷ 0 ∷ 0 ∷ []) []) 3 10 9
    ∷ kept (choose (0 ∷ 0 ∷ 18 ∷ 0 ∷ 0 ∷ 0 ∷ 14 ∷ 1 ∷ 65 ∷ 0 ∷ 0 ∷ 9 ∷ 0 ∷ 0 ∷ 0 ∷ 5 ∷ 0 ∷ 0 ∷ 0 ∷ 1 ∷ 0 ∷ []) []) 3 21 17
    ∷ kept (choose (replicate 4101 0) []) 3 16 4101
    ∷ kept (going_back (replicate 4101 0)) 3 16 4101
    ∷ record { call = moving []; room = 5; answer = given 4; bytes = 0 ∷ 0 ∷ 1 ∷ 0 ∷ 170 ∷ [] }
    ∷ record { call = moving (53 ∷ 0 ∷ 1 ∷ 5 ∷ []); room = 8; answer = given 8; bytes = 0 ∷ 0 ∷ 5 ∷ 0 ∷ 53 ∷ 0 ∷ 1 ∷ 5 ∷ [] }
    ∷ kept (moving (53 ∷ 0 ∷ 1 ∷ 5 ∷ [])) 7 11 7
    ∷ kept (moving (53 ∷ 0 ∷ 1 ∷ 5 ∷ 51 ∷ 0 ∷ [])) 7 12 4
    ∷ kept (moving (0 ∷ 0 ∷ 1 ∷ 0 ∷ [])) 7 10 0
    -- 16, 12, 10 in this order, record by record
    ∷ kept (moving (52 ∷ 0 ∷ 1 ∷ [])) 7 12 0
    ∷ kept (moving (52 ∷ 0 ∷ 0 ∷ 9 ∷ [])) 7 10 0
    ∷ kept (moving (replicate 4097 0)) 7 16 4097
    ∷ kept (moving (replicate 4096 0)) 7 10 0
    ∷ record { call = going_back (0 ∷ 0 ∷ 5 ∷ 0 ∷ 53 ∷ 0 ∷ 1 ∷ 5 ∷ []); room = 5; answer = given 4; bytes = 53 ∷ 0 ∷ 1 ∷ 5 ∷ 170 ∷ [] }
    ∷ kept (going_back (0 ∷ 0 ∷ 5 ∷ 0 ∷ 53 ∷ 0 ∷ 1 ∷ 5 ∷ [])) 3 11 3
    ∷ kept (going_back two) 64 22 0
    ∷ kept (going_back named) 64 22 0
    -- a fault of the file before 22, and 22 before 11
    ∷ kept (going_back (0 ∷ 0 ∷ 5 ∷ 1 ∷ 65 ∷ 52 ∷ 0 ∷ 0 ∷ [])) 64 10 5
    ∷ kept (going_back two) 0 22 0
    ∷ record { call = going_back (0 ∷ 0 ∷ 1 ∷ 0 ∷ []); room = 0; answer = given 0; bytes = [] }
    ∷ []

abbrev pub CasesHold : Type 0
CasesHold = map outcome cases ≡ map expected cases

-- ---- The check

pub record Checked : Type 0 where
  pub file : List ℕ
  pub verdict : Verdict

abbrev pub sound : List ℕ → Checked
sound f = record { file = f; verdict = passed }

abbrev pub refused : List ℕ → ℕ → ℕ → Checked
refused f n p = record { file = f; verdict = refused_with n p }

-- in written order; at one item 20, 10, 21; in groups with a name as in the others; bytes behind the outermost group last
abbrev pub checks : List Checked
checks =
    sound (0 ∷ 0 ∷ 1 ∷ 0 ∷ [])
    ∷ sound two
    ∷ sound four
    ∷ sound nested
    ∷ sound named
    ∷ sound (0 ∷ 0 ∷ 2 ∷ 1 ∷ 52 ∷ [])
    ∷ refused [] 20 0
    ∷ refused (53 ∷ 0 ∷ 1 ∷ 5 ∷ []) 20 0
    ∷ refused (0 ∷ 0 ∷ 1 ∷ 1 ∷ []) 20 0
    ∷ refused (0 ∷ 0 ∷ 2 ∷ 0 ∷ []) 20 0
    ∷ refused five 21 16
    ∷ refused (0 ∷ 0 ∷ 16 ∷ 0 ∷ 0 ∷ 0 ∷ 12 ∷ 0 ∷ 0 ∷ 0 ∷ 8 ∷ 0 ∷ 0 ∷ 0 ∷ 4 ∷ 0 ∷ 0 ∷ 0 ∷ 0 ∷ []) 20 16
    -- a fifth group that is too short for its name, or runs past: 20 and not 21, at one item
    ∷ refused (0 ∷ 0 ∷ 17 ∷ 0 ∷ 0 ∷ 0 ∷ 13 ∷ 0 ∷ 0 ∷ 0 ∷ 9 ∷ 0 ∷ 0 ∷ 0 ∷ 5 ∷ 0 ∷ 0 ∷ 0 ∷ 1 ∷ 1 ∷ []) 20 16
    ∷ refused (0 ∷ 0 ∷ 17 ∷ 0 ∷ 0 ∷ 0 ∷ 13 ∷ 0 ∷ 0 ∷ 0 ∷ 9 ∷ 0 ∷ 0 ∷ 0 ∷ 5 ∷ 0 ∷ 0 ∷ 0 ∷ 2 ∷ 0 ∷ []) 20 16
    -- a fifth group that is whole: 21, whatever it holds
    ∷ refused (0 ∷ 0 ∷ 20 ∷ 0 ∷ 0 ∷ 0 ∷ 16 ∷ 0 ∷ 0 ∷ 0 ∷ 12 ∷ 0 ∷ 0 ∷ 0 ∷ 8 ∷ 0 ∷ 0 ∷ 0 ∷ 4 ∷ 0 ∷ 255 ∷ 0 ∷ 9 ∷ []) 21 16
    ∷ refused (0 ∷ 0 ∷ 9 ∷ 0 ∷ 0 ∷ 0 ∷ 5 ∷ 1 ∷ 65 ∷ 255 ∷ 0 ∷ 0 ∷ []) 10 9
    ∷ refused (0 ∷ 0 ∷ 6 ∷ 0 ∷ 52 ∷ 0 ∷ 0 ∷ 7 ∷ 0 ∷ []) 10 4
    ∷ refused (0 ∷ 0 ∷ 4 ∷ 0 ∷ 52 ∷ 0 ∷ 1 ∷ 7 ∷ []) 20 4
    ∷ refused (0 ∷ 0 ∷ 4 ∷ 0 ∷ 52 ∷ 0 ∷ 0 ∷ 7 ∷ []) 10 4
    ∷ refused (two ++ (0 ∷ 0 ∷ 1 ∷ 0 ∷ [])) 20 28
    ∷ refused (replicate 4100 0) 20 0
    ∷ refused (replicate 4101 0) 16 4101
    ∷ []

abbrev pub ChecksHold : Type 0
ChecksHold = map (λ (c : Checked). check c.file) checks ≡ map (λ (c : Checked). c.verdict) checks
