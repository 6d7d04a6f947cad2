-- FOR CALLERS: what C gets of a filled buffer, case by case; and what a refusal leaves. Assumes nothing.
use mathlib.Core.Path.{◌≡◌, refl, ◌∙◌}
use mathlib.Core.Bool.{Bool, true, false, cond}
use mathlib.Core.List.{List, ◌++◌}
use Prim.Native.Nat.{ℕ}
use native.Mathlib.Omega.{arith}
use lib.Dec.{ltb}
use lib.ListN.{length, drop}
use Rattle.options.specs.Answers as asked
use Rattle.filled.specs.Plain.{plain_filled, FilledByCase, Kept}

pub filled_by_case : FilledByCase
filled_by_case n p = (refl, refl)

pub declined_kept : (n p : ℕ) (old : List ℕ) → (n ≡ 0 → ⊥) → Kept (asked.unfilled n p old) old
declined_kept n p old h k q e = ((λ z. h (let i : n ≡ k = cc in i ∙ z)), refl)

pub given_is_kept : (n : ℕ) (b old : List ℕ) → Kept (record { answer = asked.given n; buffer = b }) old
given_is_kept n b old k q e = let z : ◌≡◌ {A = ℕ} 0 1 = cc in absurd (omega arith)

pub either_kept : (b : Bool) (x y : asked.Filled) (old : List ℕ) → Kept x old → Kept y old → Kept (cond b x y) old
either_kept true x y old k l = k
either_kept false x y old k l = l

-- what is given in a buffer, or 11
pub given_kept : (xs old : List ℕ) → Kept (asked.filled_with xs old) old
given_kept xs old =
    either_kept (ltb (length old) (length xs)) (asked.unfilled 11 (length old) old) (record { answer = asked.given (length xs); buffer = xs ++ drop (length xs) old }) old
    (declined_kept 11 (length old) old (λ z. omega arith)) (given_is_kept (length xs) (xs ++ drop (length xs) old) old)
