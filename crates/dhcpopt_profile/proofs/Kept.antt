-- Each answer has its own numbers for C, and none is lost. Assumes nothing.
use mathlib.Core.Path.{◌≡◌, refl}
use mathlib.Core.List.{List}
use mathlib.Core.Logic.{◌⊎◌, inl, inr}
use Prim.Native.Nat.{ℕ, ◌<◌}
use native.Mathlib.Omega.{arith}
use Rattle.options.specs.Refusals.{When, Row, row_1, row_2, row_3, row_4, row_5, row_6, row_7}
use Rattle.options.specs.KindClaims.{FromTo}
use Rattle.options.specs.Profile.{Profile, distrusted, declined, profile}
use Rattle.options.specs.ProfileClaims.{ProfileIs, of_reading, row_25, trusts, distrusts}
use Rattle.theorems.proofs.View.{clash}
use Rattle.profile_theorems.proofs.Profiles.{profile_is_correct}
use Rattle.dhcpopt_profile.specs.Plain.{ProfileByCase, ProfileGivenByCase, ProfileKept}

pub profile_by_case : ProfileByCase
profile_by_case = (refl, (λ s. refl), (λ n p. refl))

pub profile_given_by_case : ProfileGivenByCase
profile_given_by_case = (refl, (λ s. refl), (λ r. refl))

row_from_1 : {m : List ℕ} {n p : ℕ} {w : When} → Row m n p w → FromTo 1 7 n
row_from_1 (row_1 h) = (omega arith, omega arith)
row_from_1 (row_2 h) = (omega arith, omega arith)
row_from_1 (row_3 h) = (omega arith, omega arith)
row_from_1 (row_4 fd x y z) = (omega arith, omega arith)
row_from_1 (row_5 fd x y) = (omega arith, omega arith)
row_from_1 (row_6 fd x y z) = (omega arith, omega arith)
row_from_1 (row_7 fd x y z) = (omega arith, omega arith)

numbered : {m : List ℕ} {n p : ℕ} → ProfileIs m (declined n p) → FromTo 1 7 n ⊎ ((n ≡ 25) × (p ≡ 0))
numbered (of_reading f) = inl (row_from_1 f.applies)
numbered (row_25 a f) = inr (refl, refl)

not_empty : {m : List ℕ} {s : ℕ} → ProfileIs m (distrusted s) → FromTo 1 255 s
not_empty (distrusts a y n l f) = (omega (arith, n), omega (arith, l))

pub profile_kept : ProfileKept
profile_kept = ((λ m n p e. numbered ((profile_is_correct m (declined n p)).0 e)), (λ m s e. not_empty ((profile_is_correct m (distrusted s)).0 e)))
