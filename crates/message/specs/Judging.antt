-- WHAT A MESSAGE'S LENGTH, ITS COOKIE AND AN OPTION 52 ARE JUDGED BY: the contracts of `fit`, `over_stop` and `over_after`. Assumes nothing.
use Rattle.std.specs.Prelude.{Bool, true, cond, not, List, ℕ, eqb, ltb, length, get_or, take, drop}
use Rattle.options.specs.Message.{cookie, shortest, longest}
use Rattle.options.specs.Reading.{same, right52}

-- 1, 2 or 3 where length or cookie are refused, else 0
abbrev pub unfit_of : List ℕ → ℕ
unfit_of m =
    cond (ltb (length m) shortest) 1 (cond (ltb longest (length m)) 2 (cond (same (take 4 (drop 236 m)) cookie) 0 3))

-- how a walk ends at an option with the code c and the data d, or 0 where it goes on; over: the value of the option 52 before, or 0.
-- 3: option 52 where it may not stand, "or with a length not 1 or a value not 1 to 3"; 4: a second one
abbrev pub over_stop_value : Bool → ℕ → ℕ → List ℕ → ℕ
over_stop_value main over c d = cond (eqb c 52) (cond (cond main (not (right52 d)) true) 3 (cond (eqb over 0) 0 4)) 0

-- the value of option 52 after that option, the first that stands
abbrev pub over_after_value : ℕ → ℕ → List ℕ → ℕ
over_after_value over c d = cond (eqb c 52) (cond (eqb over 0) (get_or d 0 0) over) over

-- the number of the refusal that an end is: 1 no END, 2 an option that runs past, 3 and 4 as above
abbrev pub number_of : ℕ → ℕ
number_of end = cond (eqb end 1) 5 (cond (eqb end 2) 4 (cond (eqb end 3) 6 7))

-- the same where an option 52 may be refused: 0 where it is not
abbrev pub stop_number : ℕ → ℕ
stop_number end = cond (eqb end 0) 0 (number_of end)
