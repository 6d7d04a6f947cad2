-- Bits past the width, found by one shift. Assumes nothing.
use mathlib.Core.Path.{◌≡◌, refl, sym, ap, ◌∙◌}
use mathlib.Core.Bool.{Bool, true, false}
use Prim.Native.Nat.{ℕ, ◌+◌, ◌-◌, ◌*◌, ◌/◌, ◌%◌, ◌^◌, ◌≤◌, ◌<◌}
use native.Mathlib.Nat.{add-zero, zero-mul, mul-mod_left}
use native.Mathlib.Omega.{arith}
use lib.Dec.{eqb}
use lib.Pow.{shl_exact, shl-shr, split, mod-pow-add}
use borrow.Author.Tests.{eqb-true, eqb-false, eq-eqb, ne_eqb}
use Rattle.options.specs.Routes.{cleared}

-- of what is moved up, the low 32 bits are those past the width
past_is : (w x : ℕ) → w ≤ 32 → x * 2 ^ w % 2 ^ 32 ≡ x % 2 ^ (32 - w) * 2 ^ w
past_is w x h =
    let e : 32 - w + w ≡ 32 = omega arith in
    let none : x * 2 ^ w % 2 ^ w ≡ 0 = mul-mod_left x (2 ^ w) in
    ap (λ (n : ℕ). x * 2 ^ w % 2 ^ n) (sym e) ∙ mod-pow-add (x * 2 ^ w) (32 - w) w ∙ rw (shl-shr x w, none, add-zero)

module _ (w x : ℕ) (h : w ≤ 32) (f : x < 2 ^ 32) where
  abbrev low : ℕ
  low = x * 2 ^ w % 2 ^ 64 % 2 ^ 32

  low_is : low ≡ x % 2 ^ (32 - w) * 2 ^ w
  low_is = ap (λ (n : ℕ). n % 2 ^ 32) (shl_exact 32 w 64 f (omega arith)) ∙ past_is w x h

  same : low ≡ 0 → cleared w x ≡ x
  same e =
      let z : x % 2 ^ (32 - w) ≡ 0 = sym (shl-shr (x % 2 ^ (32 - w)) w) ∙ ap (λ (n : ℕ). n / 2 ^ w) (sym low_is ∙ e) ∙ ap (λ (n : ℕ). n / 2 ^ w) (sym (zero-mul (2 ^ w))) ∙ shl-shr 0 w in
      omega (arith, z, split x (32 - w))

  none_there : cleared w x ≡ x → low ≡ 0
  none_there e =
      let z : x % 2 ^ (32 - w) ≡ 0 = omega (arith, e, split x (32 - w)) in
      low_is ∙ ap (λ (n : ℕ). n * 2 ^ w) z ∙ zero-mul (2 ^ w)

  pub past_set_lem : eqb low 0 ≡ eqb (cleared w x) x
  past_set_lem = by (eqb low 0) refl
    where
      by : (b : Bool) → eqb low 0 ≡ b → eqb low 0 ≡ eqb (cleared w x) x
      by true e = e ∙ sym (eq-eqb (cleared w x) x (same (eqb-true low 0 e)))
      by false e = e ∙ sym (ne_eqb (cleared w x) x (λ q. eqb-false low 0 e (none_there q)))
