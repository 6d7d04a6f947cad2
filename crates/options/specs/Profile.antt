-- THE METER'S REPLY PROFILE (document 02, request 13; docs/RULES.md, P), over the options of an accepted message in reading order. Assumes nothing.
use Rattle.std.specs.Prelude.{List, [], ◌∷◌, Bool, true, false, cond, not, ℕ, zero, suc, ◌+◌, ◌*◌, eqb}
use Rattle.std.proofs.Math.Option.{Option, none, some}
use Rattle.options.specs.Message.{Opt, end_to_end}
use Rattle.options.specs.Reading.{either, Reading, accepted, refused, read_message, pieces}
use Rattle.options.specs.Kinds.{broken, number, part, kinds}
use Rattle.options.specs.Answers.{unknown, known, Answer, Absent, Refused, Found, shown, every_code, shown_number}

-- ---- One code

abbrev pub any_piece : List Opt → Bool
any_piece [] = false
any_piece (o ∷ os) = true

-- "well-formed": its kind is answered
abbrev pub is_formed : Answer → Bool
is_formed Absent = false
is_formed (Refused n p) = false
is_formed (Found g (unknown n)) = false
is_formed (Found g (known (broken n))) = false
is_formed (Found g (known (number k z))) = true
is_formed (Found g (known (part k n))) = true

-- what is answered for the code c, "every code known"
abbrev pub answer_for : ℕ → List Opt → Answer
answer_for c os = shown kinds every_code c (pieces c os)

-- [P1] "for message types 2 (offer) and 5 (acknowledge to a request)"
abbrev pub is_type : Option ℕ → Bool
is_type none = false
is_type (some n) = either (eqb n 2) (eqb n 5)

-- both codes are there, and the first piece of b is read before that of a
unfoldable pub out_of_order_value : ℕ → ℕ → List Opt → Bool
unfolding pieces
out_of_order_value a b [] = false
out_of_order_value a b (o ∷ os) = cond (eqb a o.item.tag) false (cond (eqb b o.item.tag) (any_piece (pieces a os)) (out_of_order_value a b os))

-- ---- [P2, P3] The rules

pub data ReplyRule : Type 0 where
  well_formed_value : (code : ℕ) → ReplyRule
  missing : (code : ℕ) → ReplyRule
  in_plan_order : (first second : ℕ) → ReplyRule

-- [P4] "bits 0 to 7 being 51, 54, 50, 55, 57, 1, 3 and that last order"
abbrev pub reply_rules : List ReplyRule
reply_rules =
    well_formed_value 51 ∷ well_formed_value 54 ∷ missing 50 ∷ missing 55 ∷ missing 57 ∷ well_formed_value 1 ∷ well_formed_value 3 ∷ in_plan_order 1 3 ∷ []

abbrev pub breaks_rule : List Opt → ReplyRule → Bool
breaks_rule os (well_formed_value c) = not (is_formed (answer_for c os))
breaks_rule os (missing c) = any_piece (pieces c os)
breaks_rule os (in_plan_order a b) = out_of_order_value a b os

-- [P4] "the full set of rules broken": the first rule is bit 0
unfoldable pub broken_set : List Opt → List ReplyRule → ℕ
unfolding pieces end_to_end out_of_order_value
broken_set os [] = 0
broken_set os (r ∷ more) = cond (breaks_rule os r) 1 0 + 2 * broken_set os more

-- ---- The answer

-- [P4] "yes, or the full set of rules broken"
pub data Profile : Type 0 where
  trusted : Profile
  distrusted : (broken : ℕ) → Profile
  declined : (number place : ℕ) → Profile

abbrev pub yes_or : ℕ → Profile
yes_or zero = trusted
yes_or (suc s) = distrusted (suc s)

-- [R25] "25 for 53 absent, broken or of another type, at 0"
unfoldable pub profile_of : List Opt → Profile
unfolding pieces end_to_end broken_set
profile_of os = cond (is_type (shown_number (answer_for 53 os))) (yes_or (broken_set os reply_rules)) (declined 25 0)

-- [R25] "Refusals: those of reading, then 25"
abbrev pub profile_in : Reading → Profile
profile_in (refused n p) = declined n p
profile_in (accepted os) = profile_of os

unfoldable pub profile : List ℕ → Profile
unfolding profile_of read_message
profile m = profile_in (read_message m)
