-- What the functions below `judge` are held to. No public contract rests on it. Assumes nothing.
use Rattle.std.specs.Prelude.{◌≡◌, ◌≤◌, Bool, cond, List, [], ◌∷◌, ℕ, ◌+◌, ◌-◌, ◌*◌, ◌/◌, eqb, ltb, Option, Some, None, Result, Ok, Err}
use Rattle.options.specs.Reading.{either, among}
use Rattle.kinds.specs.Numbers.{fault_of}
use Rattle.refusal.specs.Refused.{number_of}
use Rattle.refusal.specs.declared.Refusal.{Refusal}
use Rattle.sheet.specs.Judge.{Verdict, faulty_at, sound_with}

-- 10: "tag is 0, 52 or 255"
abbrev pub no_tags : List ℕ
no_tags = 0 ∷ 52 ∷ 255 ∷ []

-- the first rule broken by a record of more than 1,024 bytes
abbrev pub long_broken : ℕ → ℕ
long_broken c = cond (among c no_tags) 10 13

-- the first rule broken by a record of at most 1,024 whose tag may not stand, or was met before
abbrev pub met_number : ℕ → ℕ
met_number c = cond (among c no_tags) 10 7

-- the first rule broken by one of at most 1,024, where `met` says that of its tag; 0: none
abbrev pub met_broken : Bool → ℕ → List ℕ → ℕ
met_broken met c d = cond met (met_number c) (fault_of c d)

-- two bytes for each piece behind the first, of a record with n bytes of data
abbrev pub further : ℕ → ℕ
further n = 2 * ((n - 1) / 255)

abbrev pub lower : ℕ → ℕ → ℕ
lower a b = cond (ltb a b) a b

-- the place of a tag 3 that no tag 1 stands before, counted from 1 (0: none), after a record with tag c at a place so counted
abbrev pub three_after_value : ℕ → Bool → ℕ → ℕ → ℕ
three_after_value three one c here = cond (eqb c 3) (cond one three (cond (eqb three 0) here three)) three

-- whether tag 1 was met
abbrev pub one_after_value : Bool → ℕ → Bool
one_after_value one c = either (eqb c 1) one

-- the place of the first tag 82, counted from 1, where it is not the last (0: none), after a record with tag c at a place so counted; `more`: bytes follow it
abbrev pub relay_after_value : ℕ → ℕ → ℕ → (more : Bool) → ℕ
relay_after_value relay c here more = cond (eqb c 82) (cond (eqb relay 0) (cond more here 0) relay) relay

-- a place as the last definitions have it, counted from 1, and 0 for none
abbrev pub counted : Option ℕ → ℕ
counted None = 0
counted (Some p) = p + 1

-- by a record that stands at `at`, and whose data breaks a rule with number k, or none with 0, the sheet is refused at it, or what is then met has the property
abbrev pub Tells : {A : Type 0} → (k at : ℕ) → (A → Type 0) → Result A Refusal → Type 0
Tells k at Met (Ok x) = (k ≡ 0) × Met x
Tells k at Met (Err r) = (number_of r.rule ≡ k) × ((1 ≤ k) × (r.place ≡ at))

-- what is counted of the records: the bytes of the options, where each record before is counted so and each one behind by its own bytes; and the place
-- of the first that was several pieces, or the sheet's end; beside them, what was met of tag 82
pub record Sums : Type 0 where
  pub total : ℕ
  pub single : ℕ
  pub relay : ℕ

-- after a record with tag c and n bytes of data at a place of a sheet of `len` bytes: an option's head is one byte shorter than a record's
abbrev pub sums_after : (len : ℕ) → Sums → ℕ → ℕ → ℕ → Sums
sums_after len x at c n =
    record { total = x.total + further n - 1; single = cond (ltb 255 n) (lower at x.single) x.single; relay = relay_after_value x.relay c (at + 1) (ltb (at + (3 + n)) len) }

-- 23: "82 not last, at its tag"
abbrev pub last_of : Sums → Verdict
last_of x = cond (eqb x.relay 0) (sound_with x.total x.single) (faulty_at 23 (x.relay - 1))

-- 14: "tag 3 stands before tag 1; tag 3's byte"; 23 "after 14"
abbrev pub order_of : ℕ → Bool → Sums → Verdict
order_of three one x = cond one (cond (eqb three 0) (last_of x) (faulty_at 14 (three - 1))) (last_of x)
