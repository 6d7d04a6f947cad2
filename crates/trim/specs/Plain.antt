-- WHERE THE OPTIONS FIELD ENDS, AS THE CODE GIVES IT AND AS PLAIN NUMBERS FOR C. Assumes nothing.
use Rattle.std.specs.Prelude.{◌≡◌, cond, List, ◌↔◌, ℕ, eqb, Result, Ok, Err}
use Rattle.options.specs.Trim.{EndAnswer, ends_at, without_end, options_end_value}
use Rattle.refusal.specs.declared.Refusal.{Refusal}
use Rattle.refusal.specs.Refused.{number_of}
use Rattle.trim.specs.declared.PlainEnd.{PlainEnd}

-- the place of END, or number and place of the refusal
abbrev pub ended_by : Result ℕ Refusal → EndAnswer
ended_by (Ok p) = ends_at p
ended_by (Err r) = without_end (number_of r.rule) r.place

-- case by case: the place is given, or number and place are those of the definition's refusal
abbrev pub EndGivenByCase : Type 0
EndGivenByCase =
    (e : EndAnswer) → ((p : ℕ) → (ended_by (Ok p) ≡ e) ↔ (e ≡ ends_at p)) × ((r : Refusal) → (ended_by (Err r) ≡ e) ↔ (e ≡ without_end (number_of r.rule) r.place))

-- refusal 0 and the place of END; or number and place of the refusal
abbrev pub plain_end : EndAnswer → PlainEnd
plain_end (ends_at p) = record { refusal = 0; place = p }
plain_end (without_end n p) = record { refusal = n; place = p }

-- each case with its own numbers
abbrev pub EndByCase : Type 0
EndByCase = (n p : ℕ) → (plain_end (ends_at p) ≡ record { refusal = 0; place = p }) × (plain_end (without_end n p) ≡ record { refusal = n; place = p })

-- and back: refusal 0 is no refusal's number
abbrev pub end_from : PlainEnd → EndAnswer
end_from r = cond (eqb r.refusal 0) (ends_at r.place) (without_end r.refusal r.place)

-- nothing of the answer is lost
abbrev pub EndKept : Type 0
EndKept = (m : List ℕ) → end_from (plain_end (options_end_value m)) ≡ options_end_value m
