-- `kinds::long_list_fault` meets its contract, arm by arm. Assumes nothing.
use borrow.Author.Tests.{le-leb, lt-leb}
use native.Mathlib.Omega.{arith}
use mathlib.Core.Path.{◌≡◌, refl}
use mathlib.Core.Bool.{Bool, true, false, cond, ◌||◌}
use mathlib.Core.Logic.{inl, inr}
use lib.Dec.{T, ltb, leb}
use borrow.Author.Tests.{ltb-true}
use mir.Facts.{or_yes}
use Prim.Native.Nat.{ℕ, ◌%◌}
use mir.Syntax.{Arms}
use Rattle.options.specs.Kinds.{value_fault_value}
use Rattle.kinds.proofs.Entries.{arms_of, unlisted}
use Rattle.kinds.proofs.ByKind.{list_12, list_13, value_12, value_13, listless, no_list}
use Rattle.kinds.proofs.long_list_fault.Lts as lts
use Rattle.kinds.proofs.long_list_fault.Goals as goal

-- as the code has them
abbrev arms : Arms
arms = arms_of lts.body

cond_same : (b : Bool) → cond {A = ℕ} b 0 0 ≡ 0
cond_same true = refl
cond_same false = refl

-- the rows of no list, and the lists of the kinds below 12
abbrev others : ℕ → Bool
others k = listless k || ltb k 12

pub returns-in-12 : goal.returns-in-12
unfolding value_fault_value
returns-in-12 c = let n = c.args.row in
    let k = c.in-12.is in
    rw (le-leb 12 (n % 16) (omega (arith, k)), list_12 n (omega arith) k, value_12 n (omega arith) k) c.suboptions_fault.ensures

pub returns-in-13 : goal.returns-in-13
unfolding value_fault_value
returns-in-13 c = let n = c.args.row in
    let k = c.in-13.is in
    rw (le-leb 12 (n % 16) (omega (arith, k)), list_13 n (omega arith) k, value_13 n (omega arith) k) c.first_fault.ensures

pub returns-in_default : goal.returns-in_default
returns-in_default c = let n = c.args.row in
    elim (or_yes (listless (n % 16)) (ltb (n % 16) 12) (unlisted others arms (n % 16) tt (omega arith) c.in_default.in_default-own.rest)) [
      | inl h ↦ rw (no_list n (omega arith) h, cond_same (leb 12 (n % 16)))
      | inr h ↦ rw (lt-leb 12 (n % 16) (ltb-true (n % 16) 12 (true_of (ltb (n % 16) 12) h)))
    ]
  where
    true_of : (b : Bool) → T b → b ≡ true
    true_of true t = refl
    true_of false t = absurd t
