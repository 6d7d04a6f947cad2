-- CASES OF THE REPORT OF CAPTURES, computed (document 02, request 11). Assumes nothing.
use Rattle.std.specs.Prelude.{◌≡◌, List, [], ◌∷◌, ◌++◌, ℕ, replicate}
use Rattle.options.specs.Answers.{accepted_line, refused_line}
use Rattle.options.specs.Cases.{message_of}
use Rattle.options.specs.Captures.{begun, fed_by, no_lease, leases, messages_line, refusals_line, code_line, lease_line, report, report_so_far}

-- 250 bytes: 51 is 3600, and 53
abbrev pub one : List ℕ
one = 1 ∷ 0 ∷ 250 ∷ message_of [] (51 ∷ 4 ∷ 0 ∷ 0 ∷ 14 ∷ 16 ∷ 53 ∷ 1 ∷ 5 ∷ 255 ∷ [])

-- 51 in two pieces: 60; 52 for file, and there 80 without data
abbrev pub two : List ℕ
two = 1 ∷ 0 ∷ 252 ∷ message_of (80 ∷ 0 ∷ 255 ∷ []) (51 ∷ 2 ∷ 0 ∷ 0 ∷ 52 ∷ 1 ∷ 1 ∷ 51 ∷ 2 ∷ 0 ∷ 60 ∷ 255 ∷ [])

-- 51 of three bytes, which is broken
abbrev pub three : List ℕ
three = 1 ∷ 0 ∷ 246 ∷ message_of [] (51 ∷ 3 ∷ 0 ∷ 0 ∷ 1 ∷ 255 ∷ [])

-- 53, and no END: 5
abbrev pub four : List ℕ
four = 1 ∷ 0 ∷ 243 ∷ message_of [] (53 ∷ 1 ∷ 5 ∷ [])

-- the lines up to `refusals 7`, of these messages, accepted, and refused by 1, 2 and 5; then `more`
abbrev pub up_to : ℕ → ℕ → ℕ → ℕ → ℕ → List ℕ → List ℕ
up_to n a r1 r2 r5 more =
    messages_line n
    ++ (accepted_line a
    ++ (refusals_line 1 r1 ++ (refusals_line 2 r2 ++ (refusals_line 3 0 ++ (refusals_line 4 0 ++ (refusals_line 5 r5 ++ (refusals_line 6 0 ++ (refusals_line 7 0 ++ more))))))))

-- of the four messages
abbrev pub four_report : List ℕ
four_report =
    up_to 4 3 0 0 1 (code_line 51 3 11 ++ (code_line 52 1 1 ++ (code_line 53 1 1 ++ (code_line 80 1 0 ++ lease_line (leases 60 3600)))))

abbrev pub CaptureCasesHold : Type 0
CaptureCasesHold =
    -- an empty file
    (report [] ≡ up_to 0 0 0 0 0 (lease_line no_lease))
    -- three messages that are accepted, one that is refused
    × (report (one ++ (two ++ (three ++ four))) ≡ four_report)
    -- an empty message; then another tag, at 3
    × (report (1 ∷ 0 ∷ 0 ∷ 2 ∷ []) ≡ up_to 1 0 1 0 0 (lease_line no_lease ++ refused_line 24 3))
    -- [R24] a record cut short: after its tag, and in its message; its place is that of its tag
    × (report (1 ∷ []) ≡ up_to 0 0 0 0 0 (lease_line no_lease ++ refused_line 24 0))
    × (report (1 ∷ 0 ∷ 2 ∷ 7 ∷ []) ≡ up_to 0 0 0 0 0 (lease_line no_lease ++ refused_line 24 0))
    -- a message of 1,500 bytes, and one of 1,473
    × (report ((1 ∷ 5 ∷ 220 ∷ replicate 1500 0) ++ (1 ∷ 5 ∷ 193 ∷ replicate 1473 0)) ≡ up_to 2 0 0 2 0 (lease_line no_lease))
    -- [H5] the four messages in parts, of which one ends in a length, and one is empty
    × (report_so_far (fed_by begun ((one ++ (two ++ (1 ∷ 0 ∷ []))) ∷ [] ∷ (246 ∷ message_of [] (51 ∷ 3 ∷ 0 ∷ [])) ∷ ((0 ∷ 1 ∷ 255 ∷ []) ++ four) ∷ [])) ≡ four_report)
    -- `messages 0`, and `lease none`
    × (messages_line 0 ≡ 109 ∷ 101 ∷ 115 ∷ 115 ∷ 97 ∷ 103 ∷ 101 ∷ 115 ∷ 32 ∷ 48 ∷ 10 ∷ [])
    × (lease_line no_lease ≡ 108 ∷ 101 ∷ 97 ∷ 115 ∷ 101 ∷ 32 ∷ 110 ∷ 111 ∷ 110 ∷ 101 ∷ 10 ∷ [])
    -- `refusals 1 0`, `code 80 1 0`
    × (refusals_line 1 0 ≡ 114 ∷ 101 ∷ 102 ∷ 117 ∷ 115 ∷ 97 ∷ 108 ∷ 115 ∷ 32 ∷ 49 ∷ 32 ∷ 48 ∷ 10 ∷ [])
    × (code_line 80 1 0 ≡ 99 ∷ 111 ∷ 100 ∷ 101 ∷ 32 ∷ 56 ∷ 48 ∷ 32 ∷ 49 ∷ 32 ∷ 48 ∷ 10 ∷ [])
