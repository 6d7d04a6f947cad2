-- WHICH CODES THE TABLE OF KINDS HAS NO ROW FOR, said of the table itself (`Kinds.kinds`), as the lookup and the writer ask it. Assumes nothing.
use Rattle.std.specs.Prelude.{◌≡◌, false, [], ◌∷◌, ◌⊎◌, ◌↔◌, ℕ, ◌≤◌}
use Rattle.options.specs.Kinds.{kinds}
use Rattle.options.specs.KindClaims.{OneOf}

-- [K12] "Codes 62, 63 and 77 to 254 have no row", but for 82 and 121, to which requests 09 and 14 give one; nor have 8, 10 and 34, "Retire the rows" (request 10), nor 0 and 255, which are no codes
abbrev pub RowlessCodes : Type 0
RowlessCodes = (c : ℕ) → kinds.row c ≡ false ↔ ((c ≡ 0) ⊎ (OneOf c (8 ∷ 10 ∷ 34 ∷ 62 ∷ 63 ∷ []) ⊎ ((77 ≤ c) × (OneOf c (82 ∷ 121 ∷ []) → ⊥))))
