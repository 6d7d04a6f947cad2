-- `kinds::short_list_fault` meets its contract, arm by arm. Assumes nothing.
use borrow.Author.Tests.{ne_eqb, lt-leb}
use native.Mathlib.Omega.{arith}
use mathlib.Core.Path.{◌≡◌, refl}
use mathlib.Core.Bool.{Bool, true, false, cond, ◌||◌}
use mathlib.Core.Logic.{inl, inr}
use lib.Dec.{T, leb}
use mir.Facts.{or_yes}
use Prim.Native.Nat.{ℕ, ◌%◌, ◌<◌}
use mir.Syntax.{Arms}
use Rattle.options.specs.Kinds.{value_fault_value}
use Rattle.kinds.specs.Numbers.{row_at}
use Rattle.kinds.proofs.Entries.{arms_of, unlisted}
use Rattle.kinds.proofs.ByKind.{list_3, list_7, list_10, value_7, value_10, listless, no_list}
use Rattle.kinds.proofs.short_list_fault.Lts as lts
use Rattle.kinds.proofs.short_list_fault.Goals as goal

-- of the kinds below 12, the list's fault
short : (n k : ℕ) → n % 16 ≡ k → k < 12 → leb 12 (n % 16) ≡ false
short n k e z = lt-leb 12 (n % 16) (omega arith)

-- as the code has them
abbrev arms : Arms
arms = arms_of lts.body

cond_same : (b : Bool) → cond {A = ℕ} b 0 0 ≡ 0
cond_same true = refl
cond_same false = refl

-- the rows of no list, and those from 12 on
abbrev others : ℕ → Bool
others k = listless k || leb 12 k

pub returns-then-row-eq-ROW_33 : goal.returns-then-row-eq-ROW_33
unfolding row_at value_fault_value
returns-then-row-eq-ROW_33 c = let e : c.args.row ≡ 19 = omega (arith, c.if-row-eq-ROW_33.true) in
    rw (e, ← c.destinations_fit.ensures) c.or_nine.ensures

pub returns-else-row-eq-ROW_33 : goal.returns-else-row-eq-ROW_33
returns-else-row-eq-ROW_33 c = let n = c.args.row in
    rw (short n 3 c.in-3.is (omega arith), list_3 n (omega arith) c.in-3.is, ne_eqb n 19 (λ e. omega (arith, c.if-row-eq-ROW_33.false, c.in-3.is, e)))

pub returns-in-7 : goal.returns-in-7
unfolding value_fault_value
returns-in-7 c = let k = c.in-7.is in
    rw (short _ 7 k (omega arith), list_7 _ (omega arith) k, value_7 _ (omega arith) k, ← c.never_falling.ensures) c.or_nine-in-7.ensures

pub returns-in-10 : goal.returns-in-10
unfolding value_fault_value
returns-in-10 c = let k = c.in-10.is in
    rw (short _ 10 k (omega arith), list_10 _ (omega arith) k, value_10 _ (omega arith) k, ← c.text_fits.ensures) c.or_nine-in-10.ensures

pub returns-in_default : goal.returns-in_default
returns-in_default c = let n = c.args.row in
    elim (or_yes (listless (n % 16)) (leb 12 (n % 16)) (unlisted others arms (n % 16) tt (omega arith) c.in_default.in_default-own.rest)) [
      | inl h ↦ rw (no_list n (omega arith) h, cond_same (leb 12 (n % 16)))
      | inr h ↦ rw (true_of (leb 12 (n % 16)) h)
    ]
  where
    true_of : (b : Bool) → T b → b ≡ true
    true_of true t = refl
    true_of false t = absurd t
