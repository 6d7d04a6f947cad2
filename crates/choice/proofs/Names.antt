-- Whether a group is reached: its name is empty, or it is the class byte by byte. Assumes nothing.
use mathlib.Core.Path.{◌≡◌, refl}
use mathlib.Core.List.{List, [], ◌∷◌}
use mathlib.Core.Bool.{Bool, true, false, cond, ◌&&◌}
use Prim.Native.Nat.{ℕ}
use lib.Dec.{eqb}
use lib.Pointwise.{pointwise}
use lib.ListN.{length}
use Rattle.options.specs.Reading.{same}
use Rattle.options.specs.Grouped.{reached}

alike : (a b : List ℕ) → pointwise eqb a b ≡ same a b
alike [] [] = refl
alike [] (y ∷ ys) = refl
alike (x ∷ xs) [] = refl
alike (x ∷ xs) (y ∷ ys) = go (eqb x y) (alike xs ys)
  where
    go : (t : Bool) → pointwise eqb xs ys ≡ same xs ys → (t && pointwise eqb xs ys) ≡ cond t (same xs ys) false
    go true e = e
    go false e = refl

pub reached_same : (class name : List ℕ) → false ≡ eqb (length name) 0 → pointwise eqb name class ≡ reached class name
reached_same class [] e = absurd (cc)
reached_same class (x ∷ xs) e = alike (x ∷ xs) class
