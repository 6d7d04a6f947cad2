-- WHAT A WALK OVER A MESSAGE TELLS, as it follows from the reading: the contracts of `find` and `codes`. Assumes nothing.
use Rattle.std.specs.Prelude.{◌≡◌, Bool, true, false, cond, List, [], ◌∷◌, ℕ, ◌+◌, length, Result, Ok, Err}
use Rattle.options.specs.Message.{Opt, place, data_start, end_to_end}
use Rattle.options.specs.Reading.{Reading, accepted, refused, items, overload, read_message, pieces}
use Rattle.options.specs.Answers.{present}
use Rattle.refusal.specs.declared.Refusal.{Refusal}
use Rattle.refusal.specs.declared.Rule.{Rule}
use Rattle.refusal.specs.declared.Rule.TheVariants.{MessageTooShort, MessageTooLong, BadCookie, OptionTruncated, NoEnd, BadOverload, Duplicate}
use Rattle.refusal.specs.Refused.{number_of}
use Rattle.message.specs.declared.Scanned.{Scanned}

-- what is told of a message: of the wanted code where the data of its first piece start, where its last piece stands and the bytes of all; the bytes that the options take
-- and their number; the value of option 52; number and place of a refusal
pub record Scan : Type 0 where
  pub start : ℕ
  pub last : ℕ
  pub whole : ℕ
  pub used : ℕ
  pub count : ℕ
  pub place : ℕ
  pub over : ℕ
  pub number : ℕ

-- where the data of the first piece start, or 0 where there is none
abbrev pub first_start : List Opt → ℕ
first_start [] = 0
first_start (o ∷ os) = data_start o

-- where the last of them stands, or p where there is none
unfoldable pub place_after : ℕ → List Opt → ℕ
place_after p [] = p
place_after p (o ∷ os) = place_after (place o) os

-- what options take in their fields: "One option takes 2 bytes more than its data"
unfoldable pub used_by : List Opt → ℕ
used_by [] = 0
used_by (o ∷ os) = 2 + length o.item.body + used_by os

-- a refusal tells nothing of what was met before it
abbrev pub refused_at : ℕ → ℕ → Scan
refused_at n p = record { start = 0; last = 0; whole = 0; used = 0; count = 0; place = p; over = 0; number = n }

-- the pieces of the wanted code; what is counted of all options is told only where they are marked
abbrev pub scan_in : Bool → ℕ → Reading → Scan
scan_in marks want (refused n p) = refused_at n p
scan_in marks want (accepted os) =
    record {
      start = first_start (pieces want os);
      last = place_after 0 (pieces want os);
      whole = length (end_to_end (pieces want os));
      used = cond marks (used_by os) 0;
      count = cond marks (length os) 0;
      place = 0;
      over = overload (items os);
      number = 0;
    }

-- "Every answer names the first piece"
unfoldable pub scan_of : ℕ → List ℕ → Scan
unfolding pieces end_to_end place_after used_by items overload read_message
scan_of want m = scan_in false want (read_message m)

-- the size and number of all options, and option 52
unfoldable pub survey_of : List ℕ → Scan
unfolding pieces end_to_end place_after used_by items overload read_message
survey_of m = scan_in true 52 (read_message m)

-- r is what is told of m, and w its codes as four words (document 01: the roll call)
pub record Surveys (m : List ℕ) (r : Scan) (w : List ℕ) : Type 0 where
  pub is : r ≡ survey_of m
  pub codes : w ≡ (present m).words

-- what the code tells, case by case: of an accepted message neither number nor place, of a refused one nothing else
abbrev pub told_of : Scanned → Scan
told_of w = record { start = w.start; last = w.last; whole = w.whole; used = w.used; count = w.count; place = 0; over = w.over; number = 0 }

abbrev pub told_by : Result Scanned Refusal → Scan
told_by (Ok w) = told_of w
told_by (Err r) = refused_at (number_of r.rule) r.place

-- each case, member by member; nothing is lost
abbrev pub ToldByCase : Type 0
ToldByCase =
    ((w : Scanned) → told_by (Ok w) ≡ record { start = w.start; last = w.last; whole = w.whole; used = w.used; count = w.count; place = 0; over = w.over; number = 0 })
    × ((r : Refusal) → told_by (Err r) ≡ record { start = 0; last = 0; whole = 0; used = 0; count = 0; place = r.place; over = 0; number = number_of r.rule })
    × ((a b : Result Scanned Refusal) → told_by a ≡ told_by b → a ≡ b)

-- the rules that a message is refused by, with their numbers
pub data OfMessage : Rule → ℕ → Type 0 where
  too_short : OfMessage MessageTooShort 1
  too_long : OfMessage MessageTooLong 2
  wrong_cookie : OfMessage BadCookie 3
  runs_past : OfMessage OptionTruncated 4
  no_end : OfMessage NoEnd 5
  wrong_52 : OfMessage BadOverload 6
  second_52 : OfMessage Duplicate 7

-- by these and no others a message is refused, by each with its number
abbrev pub RefusedByCase : Type 0
RefusedByCase =
    (m : List ℕ) (r : Refusal) → ((want : ℕ) → told_by (Err r) ≡ scan_of want m → OfMessage r.rule (scan_of want m).number)
    × ((w : List ℕ) → Surveys m (told_by (Err r)) w → OfMessage r.rule (survey_of m).number)
