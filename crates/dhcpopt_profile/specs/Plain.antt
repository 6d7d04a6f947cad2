-- THE REPLY PROFILE AS PLAIN NUMBERS, FOR C. The contract of the call rests on `plain_profile`. Assumes nothing.
use Rattle.std.specs.Prelude.{◌≡◌, List, ◌⊎◌, ℕ, ◌<◌, Result, Ok, Err}
use Rattle.refusal.specs.declared.Refusal.{Refusal}
use Rattle.refusal.specs.Refused.{number_of}
use Rattle.options.specs.KindClaims.{FromTo}
use Rattle.options.specs.Profile.{Profile, trusted, distrusted, declined, profile}
use Rattle.dhcpopt_profile.specs.declared.PlainProfile.{PlainProfile}

-- [P4] "yes, or the full set of rules broken"; [R25] number and place of a refusal
abbrev pub plain_profile : Profile → PlainProfile
plain_profile trusted = record { broken = 0; refusal = 0; place = 0 }
plain_profile (distrusted s) = record { broken = s; refusal = 0; place = 0 }
plain_profile (declined n p) = record { broken = 0; refusal = n; place = p }

-- the same as the code gives it: the rules that are broken, 0 for none; or number and place of a refusal
abbrev pub plain_by : Result ℕ Refusal → PlainProfile
plain_by (Ok s) = record { broken = s; refusal = 0; place = 0 }
plain_by (Err r) = record { broken = 0; refusal = number_of r.rule; place = r.place }

abbrev pub ProfileGivenByCase : Type 0
ProfileGivenByCase =
    (plain_by (Ok 0) ≡ plain_profile trusted)
    × ((s : ℕ) → plain_by (Ok s) ≡ plain_profile (distrusted s))
    × ((r : Refusal) → plain_by (Err r) ≡ plain_profile (declined (number_of r.rule) r.place))

-- each case with its own numbers, in every member
abbrev pub ProfileByCase : Type 0
ProfileByCase =
    (plain_profile trusted ≡ record { broken = 0; refusal = 0; place = 0 })
    × ((s : ℕ) → plain_profile (distrusted s) ≡ record { broken = s; refusal = 0; place = 0 })
    × ((n p : ℕ) → plain_profile (declined n p) ≡ record { broken = 0; refusal = n; place = p })

-- nothing is lost in these numbers: a refusal is numbered 1 to 7 or 25, and a set of broken rules is 1 to 255, so that 0 can stand for none
abbrev pub ProfileKept : Type 0
ProfileKept =
    ((m : List ℕ) (n p : ℕ) → profile m ≡ declined n p → FromTo 1 7 n ⊎ ((n ≡ 25) × (p ≡ 0)))
    × ((m : List ℕ) (s : ℕ) → profile m ≡ distrusted s → FromTo 1 255 s)
