-- The rows of the codes that the profile names: of 51, 54, 1 and 3 the length decides, of 53 the length and the byte. Assumes nothing.
use mathlib.Core.Path.{◌≡◌, refl, sym, ap, ◌∙◌}
use mathlib.Core.Bool.{Bool, true, false, cond}
use mathlib.Core.List.{List, [], ◌∷◌}
use Prim.Native.Nat.{ℕ, zero, suc, ◌%◌, ◌≤◌, ◌<◌}
use native.Mathlib.Omega.{arith}
use native.Mathlib.Decide.{dec_lt}
use lib.Dec.{eqb, ltb, leb}
use lib.ListN.{length, get_or}
use borrow.Author.Tests.{lt-ltb, le-ltb, lt-leb, le-leb, eqb-true, ne_eqb, eqb-false}
use Rattle.options.specs.Reading.{either}
use Rattle.options.specs.Kinds.{both, from_to_value, or_nine_value, address, addresses, octet, unsigned32, kinds, row_of, fault, value_fault_value, meaning, judged, unless}
use Rattle.options.specs.Answers.{Origin, known, Found, content_of, every_code, shown_number}
use Rattle.options.specs.Profile.{is_formed, is_type}
use Rattle.theorems.proofs.View.{clash}
use Rattle.dhcpopt_profile.specs.Judging.{size_fits_value, ByLength}

-- ---- 51, 54, 1 and 3

formed_51 : (g : Origin) (d : List ℕ) → is_formed (Found g (content_of kinds every_code 51 d)) ≡ eqb (length d) 4
unfolding row_of judged fault value_fault_value meaning
formed_51 g d = go (eqb (length d) 4)
  where
    go : (b : Bool) → is_formed (Found g (known (unless (cond b 0 8) (meaning unsigned32 d)))) ≡ b
    go true = refl
    go false = refl

formed_address : (g : Origin) (d : List ℕ) (b : Bool) → is_formed (Found g (known (unless (cond b 0 8) (meaning address d)))) ≡ b
unfolding meaning
formed_address g d true = refl
formed_address g d false = refl

formed_54 : (g : Origin) (d : List ℕ) → is_formed (Found g (content_of kinds every_code 54 d)) ≡ eqb (length d) 4
unfolding row_of judged fault value_fault_value
formed_54 g d = formed_address g d (eqb (length d) 4)

formed_1 : (g : Origin) (d : List ℕ) → is_formed (Found g (content_of kinds every_code 1 d)) ≡ eqb (length d) 4
unfolding row_of judged fault value_fault_value
formed_1 g d = formed_address g d (eqb (length d) 4)

list_size : (n : ℕ) → both (leb 4 n) (eqb (n % 4) 0) ≡ size_fits_value true n
list_size n = go (dec_lt n 4)
  where
    go : Dec (n < 4) → both (leb 4 n) (eqb (n % 4) 0) ≡ size_fits_value true n
    go (yes l) = rw (lt-leb 4 n l, lt-ltb n 4 l)
    go (no f) = rw (le-leb 4 n (omega (arith, f)), le-ltb n 4 (omega (arith, f)))

formed_3 : (g : Origin) (d : List ℕ) → is_formed (Found g (content_of kinds every_code 3 d)) ≡ size_fits_value true (length d)
unfolding row_of judged fault value_fault_value meaning
formed_3 g d = go (both (leb 4 (length d)) (eqb (length d % 4) 0)) ∙ list_size (length d)
  where
    go : (b : Bool) → is_formed (Found g (known (unless (cond b 0 8) (meaning addresses d)))) ≡ b
    go true = refl
    go false = refl

pub by_51 : ByLength 51 false
by_51 = record { from_1 = omega arith; to_254 = omega arith; when_known = refl; formed = formed_51 }

pub by_54 : ByLength 54 false
by_54 = record { from_1 = omega arith; to_254 = omega arith; when_known = refl; formed = formed_54 }

pub by_1 : ByLength 1 false
by_1 = record { from_1 = omega arith; to_254 = omega arith; when_known = refl; formed = formed_1 }

pub by_3 : ByLength 3 true
by_3 = record { from_1 = omega arith; to_254 = omega arith; when_known = refl; formed = formed_3 }

-- ---- 53

-- what is said of 53 with the data d
abbrev pub type_of : Origin → List ℕ → Bool
type_of g d = is_type (shown_number (Found g (content_of kinds every_code 53 d)))

pub type_long : (g : Origin) (d : List ℕ) → (length d ≡ 1 → ⊥) → type_of g d ≡ false
unfolding row_of judged fault value_fault_value meaning
type_long g d n = rw (ne_eqb (length d) 1 n)

type_byte : (g : Origin) (x : ℕ) → type_of g (x ∷ []) ≡ either (eqb x 2) (eqb x 5)
unfolding row_of judged fault value_fault_value meaning
type_byte g x = go (eqb x 2) (eqb x 5) refl refl
  where
    no : (k : ℕ) → is_type (shown_number (Found g (known (unless k (meaning octet (x ∷ [])))))) ≡ true → either (eqb x 2) (eqb x 5) ≡ true
    no zero e = e
    no (suc k) e = clash (cc)

    settle : (b : Bool) → (b ≡ true → either (eqb x 2) (eqb x 5) ≡ true) → either (eqb x 2) (eqb x 5) ≡ false → b ≡ either (eqb x 2) (eqb x 5)
    settle true f e = sym (f refl)
    settle false f e = sym e

    go : (a b : Bool) → eqb x 2 ≡ a → eqb x 5 ≡ b → type_of g (x ∷ []) ≡ either (eqb x 2) (eqb x 5)
    go true b p q = let e : x ≡ 2 = eqb-true x 2 p in rw e refl
    go false true p q = let e : x ≡ 5 = eqb-true x 5 q in rw e refl
    go false false p q = settle (type_of g (x ∷ [])) (no (or_nine_value (from_to_value 1 8 x))) (rw (p, q) refl)

pub type_one : (g : Origin) (d : List ℕ) → length d ≡ 1 → type_of g d ≡ either (eqb (get_or d 0 0) 2) (eqb (get_or d 0 0) 5)
type_one g [] l = absurd (omega arith)
type_one g (x ∷ []) l = type_byte g x
type_one g (x ∷ y ∷ d) l = absurd (omega arith)
