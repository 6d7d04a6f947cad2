-- Parts of a message. Assumes nothing.
use mathlib.Core.Path.{◌≡◌, refl, sym, ◌∙◌}
use mathlib.Core.Bool.{Bool, true, false, cond}
use mathlib.Core.List.{List, [], ◌∷◌}
use Prim.Native.Nat.{ℕ, ◌-◌, ◌≤◌, ◌<◌}
use native.Mathlib.Omega.{arith}
use lib.ListN.{length, get_or, take, drop, length-drop}
use lib.Seq.{drop-cons, take_all}
use lib.Dec.{eqb}
use borrow.Author.Tests.{eq-eqb, ne_eqb, eqb-true, eqb-false}
use mir.Syntax.{w32}
use Rattle.std.specs.Int.{from_le_bytes}
use Rattle.options.specs.Message.{cookie}
use Rattle.options.specs.Reading.{same}
use Rattle.options.specs.Kinds.{word32}

-- a part that reaches past the end, and one up to the end
pub take_past : (m : List ℕ) (start len : ℕ) → length m - start ≤ len → take (length m - start) (drop start m) ≡ take len (drop start m)
take_past m start len h =
    let e : length (drop start m) ≤ length m - start = rw length-drop (omega arith) in
    let g : length (drop start m) ≤ len = rw length-drop h in
    take_all (length m - start) (drop start m) e ∙ sym (take_all len (drop start m) g)

-- the part from an offset on
pub take_rest : (m : List ℕ) (a : ℕ) → take (length m - a) (drop a m) ≡ drop a m
take_rest m a = take_all (length m - a) (drop a m) (rw length-drop (omega arith))

pub take_more : (m : List ℕ) (a : ℕ) → take (length m) (drop a m) ≡ drop a m
take_more m a = take_all (length m) (drop a m) (rw length-drop (omega arith))

-- the cookie's four bytes
pub four : (m : List ℕ) → 240 ≤ length m → take 4 (drop 236 m) ≡ get_or m 236 0 ∷ get_or m 237 0 ∷ get_or m 238 0 ∷ get_or m 239 0 ∷ []
four m h =
    let a : 236 < length m = omega arith in
    let b : 237 < length m = omega arith in
    let c : 238 < length m = omega arith in
    let d : 239 < length m = omega arith in
    rw (drop-cons m 236 0 a, drop-cons m 237 0 b, drop-cons m 238 0 c, drop-cons m 239 0 d)

-- four bytes as one number, the low byte first
pub low_first : (a b c d : ℕ) → from_le_bytes w32 (a ∷ b ∷ c ∷ d ∷ []) ≡ word32 d c b a
low_first a b c d = omega arith

-- the cookie as one number, the low byte first
pub cookie_word : (a b c d : ℕ) → a < 256 → b < 256 → c < 256 → d < 256 → eqb (word32 d c b a) 1666417251 ≡ same (a ∷ b ∷ c ∷ d ∷ []) cookie
cookie_word a b c d ha hb hc hd = go (eqb a 99) (eqb b 130) (eqb c 83) (eqb d 99) refl refl refl refl
  where
    go : (p q r s : Bool) → eqb a 99 ≡ p → eqb b 130 ≡ q → eqb c 83 ≡ r → eqb d 99 ≡ s → eqb (word32 d c b a) 1666417251 ≡ cond p (cond q (cond r (cond s true false) false) false) false
    go true true true true x y z w = eq-eqb (word32 d c b a) 1666417251 (omega (arith, eqb-true a 99 x, eqb-true b 130 y, eqb-true c 83 z, eqb-true d 99 w))
    go true true true false x y z w = ne_eqb (word32 d c b a) 1666417251 (λ e. eqb-false d 99 w (omega arith))
    go true true false s x y z w = ne_eqb (word32 d c b a) 1666417251 (λ e. eqb-false c 83 z (omega arith))
    go true false r s x y z w = ne_eqb (word32 d c b a) 1666417251 (λ e. eqb-false b 130 y (omega arith))
    go false q r s x y z w = ne_eqb (word32 d c b a) 1666417251 (λ e. eqb-false a 99 x (omega arith))
