-- WHAT THE CODE ASKS OF AN INDEX, code by code. Internals: the contract of the call does not rest on these. Assumes nothing.
use Rattle.std.specs.Prelude.{◌≡◌, Bool, true, false, cond, not, List, [], ◌∷◌, ℕ, ◌+◌, ◌%◌, ◌≤◌, eqb, ltb, leb, Result}
use Rattle.std.specs.Int.{w64}
use Rattle.std.proofs.Common.{of_z}
use Rattle.options.specs.Reading.{either}
use Rattle.options.specs.Kinds.{both, kinds}
use Rattle.options.specs.CodeSet.{marked}
use Rattle.options.specs.Answers.{Origin, Found, content_of, every_code}
use Rattle.options.specs.Index.{lookup_by}
use Rattle.options.specs.IndexClaims.{BuiltFrom}
use Rattle.options.specs.Profile.{is_formed, profile_of}
use Rattle.dhcpopt_reader.specs.Plain.{plain_answer}
use Rattle.dhcpopt_reader.specs.declared.PlainAnswer.{PlainAnswer}
use Rattle.refusal.specs.declared.Refusal.{Refusal}
use Rattle.dhcpopt_profile.specs.Plain.{plain_profile, plain_by}

abbrev pub every : List ℕ
every = 18446744073709551615 ∷ 18446744073709551615 ∷ 18446744073709551615 ∷ 18446744073709551615 ∷ []

-- what a lookup of c through the index gives C, every code known
abbrev pub got : List ℕ → List ℕ → ℕ → PlainAnswer
got m index c = plain_answer (lookup_by kinds (marked every) m index c)

abbrev pub formed_by : PlainAnswer → Bool
formed_by a = either (eqb a.status 3) (eqb a.status 4)

abbrev pub there_by : PlainAnswer → Bool
there_by a = not (eqb a.field 0)

abbrev pub reply_by : PlainAnswer → Bool
reply_by a = cond (eqb a.status 3) (either (eqb (of_z w64 a.number) 2) (eqb (of_z w64 a.number) 5)) false

abbrev pub before_by : PlainAnswer → PlainAnswer → Bool
before_by a b =
    cond (eqb a.field 0) false
    (cond (eqb b.field 0) false (cond (eqb a.field b.field) (ltb a.offset b.offset) (ltb a.field b.field)))

-- four bytes; or, of a list, four times so many as there are addresses
abbrev pub size_fits_value : Bool → ℕ → Bool
size_fits_value list n = cond list (cond (ltb n 4) false (eqb (n % 4) 0)) (eqb n 4)

-- of the code c the length alone says whether it is well-formed
pub record ByLength (c : ℕ) (list : Bool) : Type 0 where
  pub from_1 : 1 ≤ c
  pub to_254 : c ≤ 254
  pub when_known : marked every c ≡ true
  pub formed : (g : Origin) (d : List ℕ) → is_formed (Found g (content_of kinds every_code c d)) ≡ size_fits_value list (lib.ListN.length d)

-- the turn of the field that holds a place: options, file, sname
abbrev pub turn_at : ℕ → ℕ
turn_at p = cond (leb 240 p) 1 (cond (leb 108 p) 2 3)

-- which of two places is read first
abbrev pub read_before_value : ℕ → ℕ → Bool
read_before_value a b = cond (eqb (turn_at a) (turn_at b)) (ltb a b) (ltb (turn_at a) (turn_at b))

abbrev pub bit_if : Bool → ℕ → ℕ
bit_if b n = cond b n 0

-- what is judged through an index of an accepted message
abbrev pub Judges : List ℕ → List ℕ → Result ℕ Refusal → Type 0
Judges m index r = (b : BuiltFrom m index) → plain_by r ≡ plain_profile (profile_of b.is_accepted.options)
