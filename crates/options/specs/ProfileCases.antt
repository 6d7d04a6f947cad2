-- CASES OF THE REPLY PROFILE, computed (document 02, request 13). Assumes nothing.
use Rattle.std.specs.Prelude.{◌≡◌, List, [], ◌∷◌, ◌++◌, ℕ}
use Rattle.options.specs.Cases.{message_of, sname_message}
use Rattle.options.specs.Profile.{Profile, trusted, distrusted, declined, profile}

abbrev pub of : List ℕ → Profile
of options = profile (message_of [] options)

-- 51, 54, 1 and 3, as they should be
abbrev pub lease : List ℕ
lease = 51 ∷ 4 ∷ 0 ∷ 0 ∷ 14 ∷ 16 ∷ []

abbrev pub server : List ℕ
server = 54 ∷ 4 ∷ 10 ∷ 0 ∷ 0 ∷ 1 ∷ []

abbrev pub mask : List ℕ
mask = 1 ∷ 4 ∷ 255 ∷ 255 ∷ 255 ∷ 0 ∷ []

abbrev pub router : List ℕ
router = 3 ∷ 4 ∷ 10 ∷ 0 ∷ 0 ∷ 1 ∷ []

abbrev pub ProfileCasesHold : Type 0
ProfileCasesHold =
    -- an offer and an acknowledgement that keep every rule
    (of (53 ∷ 1 ∷ 2 ∷ (lease ++ (server ++ (mask ++ (router ++ (255 ∷ [])))))) ≡ trusted)
    × (of (53 ∷ 1 ∷ 5 ∷ (mask ++ (router ++ (lease ++ (server ++ (255 ∷ [])))))) ≡ trusted)
    -- [P3] 3 before 1: bit 7
    × (of (53 ∷ 1 ∷ 5 ∷ (router ++ (mask ++ (lease ++ (server ++ (255 ∷ [])))))) ≡ distrusted 128)
    -- 1 in two pieces, 3 between them: the first piece of 1 comes first
    × (of (53 ∷ 1 ∷ 5 ∷ 1 ∷ 2 ∷ 255 ∷ 255 ∷ (router ++ (1 ∷ 2 ∷ 255 ∷ 0 ∷ (lease ++ (server ++ (255 ∷ [])))))) ≡ trusted)
    -- 3 in two pieces, of which the first stands before 1
    × (of (53 ∷ 1 ∷ 5 ∷ 3 ∷ 2 ∷ 10 ∷ 0 ∷ (mask ++ (3 ∷ 2 ∷ 0 ∷ 1 ∷ (lease ++ (server ++ (255 ∷ [])))))) ≡ distrusted 128)
    -- 1 in options, 3 in file or sname, which lie before options and are read after it
    × (profile (message_of (router ++ (255 ∷ [])) (53 ∷ 1 ∷ 5 ∷ 52 ∷ 1 ∷ 1 ∷ (mask ++ (lease ++ (server ++ (255 ∷ [])))))) ≡ trusted)
    × (profile (sname_message (router ++ (255 ∷ [])) (53 ∷ 1 ∷ 5 ∷ 52 ∷ 1 ∷ 2 ∷ (mask ++ (lease ++ (server ++ (255 ∷ [])))))) ≡ trusted)
    -- 3 in options, 1 in sname
    × (profile (sname_message (mask ++ (255 ∷ [])) (53 ∷ 1 ∷ 5 ∷ 52 ∷ 1 ∷ 2 ∷ (router ++ (lease ++ (server ++ (255 ∷ [])))))) ≡ distrusted 128)
    -- nothing but 53: 51, 54, 1 and 3 are missing
    × (of (53 ∷ 1 ∷ 5 ∷ 255 ∷ []) ≡ distrusted 99)
    -- [P4] one rule, and sets of two: no 51; no 54; neither; no 51 and a 50; a 50 without data; a 55; a 57; a 55 and a 57; no 1; no 3
    × (of (53 ∷ 1 ∷ 5 ∷ (server ++ (mask ++ (router ++ (255 ∷ []))))) ≡ distrusted 1)
    × (of (53 ∷ 1 ∷ 5 ∷ (lease ++ (mask ++ (router ++ (255 ∷ []))))) ≡ distrusted 2)
    × (of (53 ∷ 1 ∷ 5 ∷ (mask ++ (router ++ (255 ∷ [])))) ≡ distrusted 3)
    × (of (53 ∷ 1 ∷ 5 ∷ 50 ∷ 4 ∷ 10 ∷ 0 ∷ 0 ∷ 5 ∷ (server ++ (mask ++ (router ++ (255 ∷ []))))) ≡ distrusted 5)
    × (of (53 ∷ 1 ∷ 5 ∷ 50 ∷ 0 ∷ (lease ++ (server ++ (mask ++ (router ++ (255 ∷ [])))))) ≡ distrusted 4)
    × (of (53 ∷ 1 ∷ 5 ∷ 55 ∷ 1 ∷ 1 ∷ (lease ++ (server ++ (mask ++ (router ++ (255 ∷ [])))))) ≡ distrusted 8)
    × (of (53 ∷ 1 ∷ 5 ∷ 57 ∷ 2 ∷ 2 ∷ 64 ∷ (lease ++ (server ++ (mask ++ (router ++ (255 ∷ [])))))) ≡ distrusted 16)
    × (of (53 ∷ 1 ∷ 5 ∷ 55 ∷ 1 ∷ 1 ∷ 57 ∷ 0 ∷ (lease ++ (server ++ (mask ++ (router ++ (255 ∷ [])))))) ≡ distrusted 24)
    × (of (53 ∷ 1 ∷ 5 ∷ (lease ++ (server ++ (router ++ (255 ∷ []))))) ≡ distrusted 32)
    × (of (53 ∷ 1 ∷ 5 ∷ (lease ++ (server ++ (mask ++ (255 ∷ []))))) ≡ distrusted 64)
    -- [P4] all rules: 51 and 54 too short, 50, 55 and 57 there, 3 empty and before 1, 1 too long
    × (of (53 ∷ 1 ∷ 5 ∷ 51 ∷ 1 ∷ 0 ∷ 54 ∷ 1 ∷ 0 ∷ 50 ∷ 0 ∷ 55 ∷ 0 ∷ 57 ∷ 0 ∷ 3 ∷ 0 ∷ 1 ∷ 5 ∷ 0 ∷ 0 ∷ 0 ∷ 0 ∷ 0 ∷ 255 ∷ []) ≡ distrusted 255)
    -- [R25] 53 in two pieces is broken by its length; absent; 9; of another type; and a message that is refused
    × (of (53 ∷ 1 ∷ 5 ∷ 53 ∷ 1 ∷ 5 ∷ 255 ∷ []) ≡ declined 25 0)
    × (of (255 ∷ []) ≡ declined 25 0)
    × (of (53 ∷ 1 ∷ 9 ∷ 255 ∷ []) ≡ declined 25 0)
    × (of (53 ∷ 1 ∷ 3 ∷ 255 ∷ []) ≡ declined 25 0)
    × (of (53 ∷ 1 ∷ 3 ∷ []) ≡ declined 5 243)
    -- 53 in a piece of one byte and an empty one is whole
    × (of (53 ∷ 1 ∷ 5 ∷ 53 ∷ 0 ∷ 255 ∷ []) ≡ distrusted 99)
