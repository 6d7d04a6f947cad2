-- GROUPED SHEETS (document 02, request 08), as definitions: the items of a file, the check, the choice for a class, the move of an old sheet and the way back.
-- The contracts of the code cite them; GroupedClaims ties them to the relations of GroupedFile. Assumes nothing.
use Rattle.std.specs.Prelude.{List, [], ◌∷◌, ◌++◌, Bool, true, false, cond, ℕ, zero, suc, ◌+◌, ◌/◌, ◌%◌, length, take, drop, ltb, eqb}
use Rattle.options.specs.Message.{Rec}
use Rattle.options.specs.Reading.{among, same}
use Rattle.options.specs.Answers.{record_bytes, Verdict, passed, refused_with, Filled, unfilled, filled_with}
use Rattle.options.specs.SheetWalk.{Walk, all_read, cut_at, read_at, records_from, Sheet, sound, faulty, Rule, ruled, wrong_tag_value}
use Rattle.options.specs.Writing.{longest_sheet}

-- ---- The items of a file

-- records and groups mixed, each with the place of its tag; a group has its name, the items inside it and those after it; a fault ends them
pub data Items : Type 0 where
  none : Items
  fault : (number place : ℕ) → Items
  rec : (place : ℕ) → Rec → Items → Items
  grp : (place : ℕ) (name : List ℕ) (inside after : Items) → Items

-- what a group's members are: of the group whose tag is at the first place, from the second place on
abbrev pub Body : Type 0
Body = ℕ → ℕ → List ℕ → Items

-- [G2, R20] the group with its tag at p and these bytes behind its length: "a group too short for n and name"
abbrev pub group_of : Body → ℕ → List ℕ → Items → Items
group_of deeper p [] rest = fault 20 p
group_of deeper p (n ∷ ds) rest = cond (ltb (length ds) n) (fault 20 p) (grp p (take n ds) (deeper p (p + 4 + n) (drop n ds)) rest)

-- [R10] a whole record or group at p: "10 for tag 52 or 255"
abbrev pub item_of : Body → ℕ → Rec → Items → Items
item_of deeper p r rest = cond (eqb r.tag 0) (group_of deeper p r.body rest) (cond (among r.tag (52 ∷ 255 ∷ [])) (fault 10 p) (rec p r rest))

-- [G2, R20] "records and groups mixed", walked as the records of a sheet are; "a group or record that doesn't fit its surroundings"
unfoldable pub members : Body → Walk → Items
members deeper all_read = none
members deeper (cut_at p) = fault 20 p
members deeper (read_at p r rest) = item_of deeper p r (members deeper rest)

-- [G3, R21] by the depths left: "21 for a fifth depth"
unfoldable pub body : ℕ → ℕ → ℕ → List ℕ → Items
unfolding members records_from
body zero p at bs = fault 21 p
body (suc d) p at bs = members (body d) (records_from at 0 bs)

-- [R20] "20 also .. at the first byte after the outermost group"
abbrev pub behind : ℕ → List ℕ → Items
behind p [] = none
behind p (x ∷ xs) = fault 20 p

-- [G1, G3] "a file is exactly one group"; "four deep counting the outermost"; "20 also at 0 for an empty file or a first tag other than 0"
abbrev pub outermost : List ℕ → Walk → Items
outermost f all_read = fault 20 0
outermost f (cut_at p) = fault 20 0
outermost f (read_at p r rest) = cond (eqb r.tag 0) (group_of (body 4) 0 r.body (behind (3 + length r.body) (drop (3 + length r.body) f))) (fault 20 0)

-- [G1] the items of a file
unfoldable pub file_of : List ℕ → Items
unfolding body records_from
file_of f = outermost f (records_from 0 0 f)

-- ---- The check

-- the second, where the first has passed
abbrev pub and_then : Verdict → Verdict → Verdict
and_then passed v = v
and_then (refused_with n p) v = refused_with n p

-- [G8] the first faulty item "in written order"
unfoldable pub fault_of : Items → Verdict
fault_of none = passed
fault_of (fault n p) = refused_with n p
fault_of (rec p r rest) = fault_of rest
fault_of (grp p name inside rest) = and_then (fault_of inside) (fault_of rest)

-- [R16] "over 4,100 bytes"
abbrev pub longest_file : ℕ
longest_file = 4100

-- [G8] "Refusals, over the whole file in written order after 16": the verdict on a file
unfoldable pub check : List ℕ → Verdict
unfolding file_of fault_of
check f = cond (ltb longest_file (length f)) (refused_with 16 (length f)) (fault_of (file_of f))

-- a call that fills a lent buffer with xs, where a verdict lets it: "changes no byte lent to the call" otherwise
abbrev pub filled_if : Verdict → List ℕ → List ℕ → Filled
filled_if passed xs old = filled_with xs old
filled_if (refused_with n p) xs old = unfilled n p old

-- ---- The choice for a class

-- [G4] "whose name is empty or equals the class"
abbrev pub reached : List ℕ → List ℕ → Bool
reached class [] = true
reached class (x ∷ xs) = same (x ∷ xs) class

-- [G4] "the records, in written order, of each group reached .., not entering the others"
unfoldable pub chosen : List ℕ → Items → List Rec
chosen class none = []
chosen class (fault n p) = []
chosen class (rec p r rest) = r ∷ chosen class rest
chosen class (grp p name inside rest) = cond (reached class name) (chosen class inside) [] ++ chosen class rest

-- [G4, G8] the records for a class as one sheet (the paper's flat sheet), into the caller's buffer `old`
unfoldable pub choice : List ℕ → List ℕ → List ℕ → Filled
unfolding check file_of chosen record_bytes
choice f class old = filled_if (check f) (record_bytes (chosen class (file_of f))) old

-- ---- The move of an old sheet into a nameless outermost group

-- [G9] "12 and 10 as the writer does": 12 is the walk's, 10 of a tag 0, 52 or 255
abbrev pub move_rules : List Rule
move_rules = wrong_tag_value (0 ∷ 52 ∷ 255 ∷ []) ∷ []

abbrev pub verdict_on : Sheet → Verdict
verdict_on (sound rs) = passed
verdict_on (faulty n p) = refused_with n p

-- [G5] "a nameless outermost group"
abbrev pub in_group : List ℕ → List ℕ
in_group s = 0 ∷ suc (length s) / 256 ∷ suc (length s) % 256 ∷ 0 ∷ s

-- [G9] "Moving an old sheet gives 16, then 12 and 10 as the writer does, then 11"
unfoldable pub move : List ℕ → List ℕ → Filled
unfolding records_from ruled
move s old = cond (ltb longest_sheet (length s)) (unfilled 16 (length s) old) (filled_if (verdict_on (ruled move_rules [] (records_from 0 0 s))) (in_group s) old)

-- ---- The way back

abbrev pub no_group : Items → Bool
no_group none = true
no_group (fault n p) = true
no_group (rec p r rest) = no_group rest
no_group (grp p name inside rest) = false

-- [G6, R22] "only if it is one nameless group with no group inside"; "22 at 0 for no way back"
abbrev pub way_back : Items → Verdict
way_back none = refused_with 22 0
way_back (fault n p) = refused_with 22 0
way_back (rec p r rest) = refused_with 22 0
way_back (grp p [] inside rest) = cond (no_group inside) passed (refused_with 22 0)
way_back (grp p (x ∷ xs) inside rest) = refused_with 22 0

-- [G8] the file's refusals, "22 at 0 for no way back; 11 last"
unfoldable pub go_back : List ℕ → List ℕ → Filled
unfolding check file_of
go_back f old = filled_if (and_then (check f) (way_back (file_of f))) (drop 4 f) old
