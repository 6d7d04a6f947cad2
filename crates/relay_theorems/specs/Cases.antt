-- CASES OF REQUEST 09, worked by hand. Assumes nothing.
use Rattle.std.specs.Prelude.{◌≡◌, List, [], ◌∷◌, ◌++◌, ℕ, replicate}
use Rattle.options.specs.Message.{Rec}
use Rattle.options.specs.Answers.{given, Filled}
use Rattle.options.specs.RelayClaims.{refused_write}
use Rattle.options.specs.SheetWalk.{Sheet, sound, faulty}
use Rattle.options.specs.Writing.{order_rules, ordered}
use Rattle.options.specs.Relay.{Id, absent, named, RelayRead, relay_records_value, relay_write_value}

abbrev pub whole : ℕ → List ℕ → Filled
whole n xs = record { answer = given n; buffer = xs }

-- what is asked, each with what is to be given
pub record ReadCase : Type 0 where
  pub asked : RelayRead
  pub answered : RelayRead

abbrev pub reads : List ℕ → List ℕ → Filled → Id → Id → ReadCase
reads f old w c r = record { asked = relay_records_value f old; answered = record { filled = w; circuit = c; remote = r } }

pub record WriteCase : Type 0 where
  pub asked : Filled
  pub answered : Filled

abbrev pub writes : List ℕ → List ℕ → Filled → WriteCase
writes s out w = record { asked = relay_write_value s out; answered = w }

abbrev pub read_cases : List ReadCase
read_cases =
    -- both ids, the second of length 0: it is there
    reads (1 ∷ 2 ∷ 65 ∷ 66 ∷ 2 ∷ 0 ∷ []) (5 ∷ 5 ∷ 5 ∷ 5 ∷ 5 ∷ 5 ∷ 5 ∷ 5 ∷ 5 ∷ []) (whole 8 (1 ∷ 0 ∷ 2 ∷ 65 ∷ 66 ∷ 2 ∷ 0 ∷ 0 ∷ 5 ∷ [])) (named 2 2) (named 6 0)
    -- 0 is no pad and 255 no END; neither id
    ∷ reads (0 ∷ 0 ∷ 255 ∷ 1 ∷ 9 ∷ []) (5 ∷ 5 ∷ 5 ∷ 5 ∷ 5 ∷ 5 ∷ 5 ∷ []) (whole 7 (0 ∷ 0 ∷ 0 ∷ 255 ∷ 0 ∷ 1 ∷ 9 ∷ [])) absent absent
    -- the first of two circuit ids; a remote id before it
    ∷ reads (2 ∷ 0 ∷ 1 ∷ 1 ∷ 7 ∷ 1 ∷ 1 ∷ 8 ∷ []) (5 ∷ 5 ∷ 5 ∷ 5 ∷ 5 ∷ 5 ∷ 5 ∷ 5 ∷ 5 ∷ 5 ∷ 5 ∷ []) (whole 11 (2 ∷ 0 ∷ 0 ∷ 1 ∷ 0 ∷ 1 ∷ 7 ∷ 1 ∷ 0 ∷ 1 ∷ 8 ∷ [])) (named 4 1) (named 2 0)
    -- no sub-options at all
    ∷ reads [] (5 ∷ []) (refused_write 8 0 (5 ∷ [])) absent absent
    -- a code alone; then behind a whole one, before 11
    ∷ reads (1 ∷ []) [] (refused_write 8 0 []) absent absent
    ∷ reads (1 ∷ 0 ∷ 2 ∷ []) [] (refused_write 8 2 []) absent absent
    ∷ reads (1 ∷ 0 ∷ 3 ∷ 2 ∷ 9 ∷ []) (5 ∷ []) (refused_write 8 2 (5 ∷ [])) absent absent
    -- no room: no id is named
    ∷ reads (1 ∷ 1 ∷ 7 ∷ []) (5 ∷ 5 ∷ 5 ∷ []) (refused_write 11 3 (5 ∷ 5 ∷ 5 ∷ [])) absent absent
    -- with more room: 8 behind two that are whole, and 11 at the room
    ∷ reads (1 ∷ 0 ∷ 2 ∷ 0 ∷ 3 ∷ []) (5 ∷ 6 ∷ 7 ∷ 8 ∷ 9 ∷ []) (refused_write 8 4 (5 ∷ 6 ∷ 7 ∷ 8 ∷ 9 ∷ [])) absent absent
    ∷ reads (1 ∷ 1 ∷ 7 ∷ 2 ∷ 0 ∷ []) (5 ∷ 6 ∷ 7 ∷ 8 ∷ 9 ∷ []) (refused_write 11 5 (5 ∷ 6 ∷ 7 ∷ 8 ∷ 9 ∷ [])) absent absent
    ∷ []

abbrev pub write_cases : List WriteCase
write_cases =
    -- tags 0 and 255 are codes like any other
    writes (0 ∷ 0 ∷ 1 ∷ 7 ∷ 255 ∷ 0 ∷ 0 ∷ []) (5 ∷ 5 ∷ 5 ∷ 5 ∷ 5 ∷ 5 ∷ []) (whole 5 (0 ∷ 1 ∷ 7 ∷ 255 ∷ 0 ∷ 5 ∷ []))
    -- a code twice, in order
    ∷ writes (1 ∷ 0 ∷ 1 ∷ 7 ∷ 1 ∷ 0 ∷ 1 ∷ 8 ∷ []) (5 ∷ 5 ∷ 5 ∷ 5 ∷ 5 ∷ 5 ∷ []) (whole 6 (1 ∷ 1 ∷ 7 ∷ 1 ∷ 1 ∷ 8 ∷ []))
    -- no sub-options at all, before 11
    ∷ writes [] [] (refused_write 8 0 [])
    -- 12, before 11; 11
    ∷ writes (1 ∷ 0 ∷ 0 ∷ 1 ∷ 0 ∷ []) [] (refused_write 12 3 [])
    ∷ writes (1 ∷ 0 ∷ 0 ∷ []) (5 ∷ []) (refused_write 11 1 (5 ∷ []))
    -- 13, for 256 bytes of data; 11, for 256 bytes of sub-options, with output enough; 255 are given
    ∷ writes (1 ∷ 1 ∷ 0 ∷ replicate 256 7) [] (refused_write 13 0 [])
    ∷ writes (1 ∷ 0 ∷ 254 ∷ replicate 254 7) (replicate 257 5) (refused_write 11 257 (replicate 257 5))
    ∷ writes (1 ∷ 0 ∷ 253 ∷ replicate 253 7) (replicate 257 5) (whole 255 (1 ∷ 253 ∷ (replicate 253 7 ++ (5 ∷ 5 ∷ []))))
    ∷ []

abbrev pub reads_got : List ReadCase → List RelayRead
reads_got [] = []
reads_got (c ∷ cs) = c.asked ∷ reads_got cs

abbrev pub reads_wanted : List ReadCase → List RelayRead
reads_wanted [] = []
reads_wanted (c ∷ cs) = c.answered ∷ reads_wanted cs

abbrev pub writes_got : List WriteCase → List Filled
writes_got [] = []
writes_got (c ∷ cs) = c.asked ∷ writes_got cs

abbrev pub writes_wanted : List WriteCase → List Filled
writes_wanted [] = []
writes_wanted (c ∷ cs) = c.answered ∷ writes_wanted cs

-- records by their tags alone, each with two bytes of data
abbrev pub tags : List ℕ → List Rec
tags [] = []
tags (c ∷ cs) = record { tag = c; body = 1 ∷ 0 ∷ [] } ∷ tags cs

-- 23 at 82's tag, where it is not the last; 14 comes first, though 82 stands before tag 3
pub record OrderCases : Type 0 where
  pub last : ordered order_rules (tags (12 ∷ 82 ∷ [])) ≡ sound (tags (12 ∷ 82 ∷ []))
  pub not_last : ordered order_rules (tags (12 ∷ 82 ∷ 15 ∷ [])) ≡ faulty 23 5
  pub first_14 : ordered order_rules (tags (82 ∷ 3 ∷ 1 ∷ [])) ≡ faulty 14 5

abbrev pub RelayCasesHold : Type 0
RelayCasesHold = (reads_got read_cases ≡ reads_wanted read_cases) × (writes_got write_cases ≡ writes_wanted write_cases) × OrderCases
