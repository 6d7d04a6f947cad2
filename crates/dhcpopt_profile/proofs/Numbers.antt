-- What the negation of a test says. Assumes nothing.
use mathlib.Core.Path.{◌≡◌, sym}
use mathlib.Core.Bool.{Bool, true, false, not}
use Rattle.theorems.proofs.View.{clash}

pub not_false : (x y : Bool) → not x ≡ true → x ≡ y → y ≡ false
not_false true y h e = clash (cc)
not_false false y h e = sym e

pub not_true : (x y : Bool) → not x ≡ false → x ≡ y → y ≡ true
not_true true y h e = sym e
not_true false y h e = clash (cc)
