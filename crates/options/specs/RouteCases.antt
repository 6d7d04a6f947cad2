-- CASES OF CLASSLESS ROUTES (document 02, request 14): data, steps and routes to write, as one table and one statement about the definitions. Assumes nothing.
use Rattle.std.specs.Prelude.{◌≡◌, List, [], ◌∷◌, map, true, false, ℕ, replicate}
use Rattle.options.specs.Kinds.{routes, Value, broken, part, kinds}
use Rattle.options.specs.CodeSet.{marked, no_codes}
use Rattle.options.specs.Answers.{given, Filled, unfilled}
use Rattle.options.specs.Cases.{message_of, all_codes}
use Rattle.options.specs.Routes.{Route, RouteStep, next, done, route_step, write_routes, Ignored, says, unsaid, ignored}

pub data RouteCase : Type 0 where
  -- what the row of 121 makes of data
  row_case : (bytes : List ℕ) → Value → RouteCase
  -- the step at a place of data
  step_case : (bytes : List ℕ) (at : ℕ) → RouteStep → RouteCase
  -- nine bytes a route, into an output of so many bytes 7
  write_case : (nines : List ℕ) (room : ℕ) → Filled → RouteCase
  -- the options of a message, and the known set: whether 3 and 33 are ignored
  ignored_case : (in_options words : List ℕ) → Ignored → RouteCase

abbrev pub sevens : ℕ → List ℕ
sevens n = replicate n 7

abbrev pub route_cases : List RouteCase
route_cases =
    -- nothing; a length under 5 comes before a wide width
    row_case [] (broken 8)
    ∷ row_case (33 ∷ []) (broken 8)
    ∷ row_case (33 ∷ 0 ∷ 0 ∷ 0 ∷ []) (broken 8)
    ∷ row_case (33 ∷ 0 ∷ 0 ∷ 0 ∷ 0 ∷ []) (broken 9)
    -- the default route: five bytes
    ∷ row_case (0 ∷ 10 ∷ 0 ∷ 0 ∷ 1 ∷ []) (part routes 5)
    -- 10.0.0.0/8: a byte short, whole, and followed by a byte
    ∷ row_case (8 ∷ 10 ∷ 1 ∷ 2 ∷ 3 ∷ []) (broken 8)
    ∷ row_case (8 ∷ 10 ∷ 1 ∷ 2 ∷ 3 ∷ 4 ∷ []) (part routes 6)
    ∷ row_case (8 ∷ 10 ∷ 1 ∷ 2 ∷ 3 ∷ 4 ∷ 32 ∷ []) (broken 8)
    ∷ row_case (8 ∷ 10 ∷ 1 ∷ 2 ∷ 3 ∷ 4 ∷ 33 ∷ []) (broken 9)
    -- a begun byte: 17 bits take three
    ∷ row_case (17 ∷ 10 ∷ 1 ∷ 128 ∷ 1 ∷ 2 ∷ 3 ∷ 4 ∷ []) (part routes 8)
    ∷ row_case (17 ∷ 10 ∷ 1 ∷ 128 ∷ 1 ∷ 2 ∷ 3 ∷ []) (broken 8)
    -- the earlier route first: cut short, whatever its bytes; bits past the width are no fault of the row
    ∷ row_case (32 ∷ 33 ∷ 33 ∷ 33 ∷ 33 ∷ 33 ∷ []) (broken 8)
    ∷ row_case (7 ∷ 255 ∷ 1 ∷ 2 ∷ 3 ∷ 4 ∷ []) (part routes 6)
    -- bits past the width are cleared
    ∷ step_case (7 ∷ 255 ∷ 1 ∷ 2 ∷ 3 ∷ 4 ∷ []) 0 (next (record { destination = 4261412864; width = 7; router = 16909060 }) 6)
    ∷ step_case (9 ∷ 10 ∷ 255 ∷ 1 ∷ 2 ∷ 3 ∷ 4 ∷ []) 0 (next (record { destination = 176160768; width = 9; router = 16909060 }) 7)
    ∷ step_case (0 ∷ 255 ∷ 255 ∷ 255 ∷ 255 ∷ []) 0 (next (record { destination = 0; width = 0; router = 4294967295 }) 5)
    ∷ step_case (32 ∷ 255 ∷ 255 ∷ 255 ∷ 255 ∷ 0 ∷ 0 ∷ 0 ∷ 1 ∷ []) 0 (next (record { destination = 4294967295; width = 32; router = 1 }) 9)
    -- the place behind a route, where another, a wide one or a cut one follows
    ∷ step_case (0 ∷ 10 ∷ 0 ∷ 0 ∷ 1 ∷ 8 ∷ 10 ∷ 1 ∷ 2 ∷ 3 ∷ 4 ∷ []) 0 (next (record { destination = 0; width = 0; router = 167772161 }) 5)
    ∷ step_case (0 ∷ 10 ∷ 0 ∷ 0 ∷ 1 ∷ 200 ∷ []) 0 (next (record { destination = 0; width = 0; router = 167772161 }) 5)
    ∷ step_case (8 ∷ 10 ∷ 1 ∷ 2 ∷ 3 ∷ 4 ∷ 32 ∷ 0 ∷ []) 0 (next (record { destination = 167772160; width = 8; router = 16909060 }) 6)
    -- done at the end, at a faulty route, and past the end
    ∷ step_case (0 ∷ 10 ∷ 0 ∷ 0 ∷ 1 ∷ []) 5 done
    ∷ step_case (0 ∷ 10 ∷ 0 ∷ 0 ∷ 1 ∷ 33 ∷ 0 ∷ 0 ∷ 0 ∷ 0 ∷ 0 ∷ 0 ∷ 0 ∷ 0 ∷ 0 ∷ []) 5 done
    ∷ step_case (8 ∷ 10 ∷ 1 ∷ 2 ∷ 3 ∷ []) 0 done
    ∷ step_case [] 9 done
    -- 10.0.0.0/8 by 1.2.3.4: the bytes past what is given stay; a byte too few is 11
    ∷ write_case (8 ∷ 10 ∷ 0 ∷ 0 ∷ 0 ∷ 1 ∷ 2 ∷ 3 ∷ 4 ∷ []) 8 (record { answer = given 6; buffer = 8 ∷ 10 ∷ 1 ∷ 2 ∷ 3 ∷ 4 ∷ 7 ∷ 7 ∷ [] })
    ∷ write_case (8 ∷ 10 ∷ 0 ∷ 0 ∷ 0 ∷ 1 ∷ 2 ∷ 3 ∷ 4 ∷ []) 5 (unfilled 11 5 (sevens 5))
    -- no route, a set bit, a wide width, a route cut short: 26, before 11
    ∷ write_case [] 0 (unfilled 26 0 [])
    ∷ write_case (8 ∷ 10 ∷ 0 ∷ 0 ∷ 1 ∷ 1 ∷ 2 ∷ 3 ∷ 4 ∷ []) 0 (unfilled 26 0 [])
    ∷ write_case (0 ∷ 0 ∷ 0 ∷ 0 ∷ 0 ∷ 1 ∷ 2 ∷ 3 ∷ 4 ∷ 33 ∷ 0 ∷ 0 ∷ 0 ∷ 0 ∷ 1 ∷ 2 ∷ 3 ∷ 4 ∷ []) 9 (unfilled 26 1 (sevens 9))
    ∷ write_case (0 ∷ 0 ∷ 0 ∷ 0 ∷ 0 ∷ 1 ∷ 2 ∷ 3 ∷ 4 ∷ 0 ∷ []) 9 (unfilled 26 1 (sevens 9))
    -- 121 right, not known, absent, broken, in two pieces; a message that is refused
    ∷ ignored_case (121 ∷ 5 ∷ 0 ∷ 10 ∷ 0 ∷ 0 ∷ 1 ∷ 255 ∷ []) all_codes (says true)
    ∷ ignored_case (121 ∷ 5 ∷ 0 ∷ 10 ∷ 0 ∷ 0 ∷ 1 ∷ 255 ∷ []) no_codes (says false)
    ∷ ignored_case (3 ∷ 4 ∷ 10 ∷ 0 ∷ 0 ∷ 1 ∷ 255 ∷ []) all_codes (says false)
    ∷ ignored_case (53 ∷ 1 ∷ 5 ∷ 121 ∷ 4 ∷ 0 ∷ 10 ∷ 0 ∷ 0 ∷ 255 ∷ []) all_codes (unsaid 8 243)
    ∷ ignored_case (121 ∷ 5 ∷ 33 ∷ 10 ∷ 0 ∷ 0 ∷ 1 ∷ 255 ∷ []) all_codes (unsaid 9 240)
    ∷ ignored_case (121 ∷ 2 ∷ 0 ∷ 10 ∷ 121 ∷ 3 ∷ 0 ∷ 0 ∷ 1 ∷ 255 ∷ []) all_codes (says true)
    ∷ ignored_case (121 ∷ 5 ∷ 0 ∷ 10 ∷ 0 ∷ 0 ∷ 1 ∷ []) all_codes (unsaid 5 247)
    ∷ []

abbrev pub run_route : RouteCase → RouteCase
run_route (row_case d v) = row_case d (kinds.value 121 d)
run_route (step_case d i s) = step_case d i (route_step d i)
run_route (write_case s n w) = write_case s n (write_routes s (sevens n))
run_route (ignored_case os ws x) = ignored_case os ws (ignored (marked ws) (message_of [] os))

abbrev pub RouteCasesHold : Type 0
RouteCasesHold = map run_route route_cases ≡ route_cases
