-- What the functions below `group` and `ungroup` are held to. No public contract rests on it. Assumes nothing.
use Rattle.std.specs.Prelude.{List, [], ◌∷◌, Bool, true, false, cond, ℕ, get_or, drop, eqb}
use Rattle.options.specs.Reading.{among}
use Rattle.options.specs.Answers.{Verdict, passed, refused_with}
use Rattle.options.specs.SheetWalk.{Walk, all_read, cut_at, read_at, records_from}

-- "12 and 10 as the writer does": the first faulty record of a sheet that is to move
unfoldable pub movable : Walk → Verdict
movable all_read = passed
movable (cut_at i) = refused_with 12 i
movable (read_at i r rest) = cond (among r.tag (0 ∷ 52 ∷ 255 ∷ [])) (refused_with 10 i) (movable rest)

-- no record has the tag of a group
unfoldable pub none_group : Walk → Bool
none_group all_read = true
none_group (cut_at i) = true
none_group (read_at i r rest) = cond (eqb r.tag 0) false (none_group rest)

-- an accepted file: no name, and no group among what is behind it
unfoldable pub plain_in : List ℕ → Bool
unfolding none_group records_from
plain_in f = cond (eqb (get_or f 3 0) 0) (none_group (records_from 4 0 (drop 4 f))) false
