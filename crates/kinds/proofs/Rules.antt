-- The rules of the rows, by the rows' numbers: each is computed over all bytes. Assumes nothing.
use mathlib.Core.Path.{◌≡◌, refl, sym, ap, ap₂, ◌∙◌}
use mathlib.Core.Bool.{Bool, true, false, not, cond, ◌&&◌, ◌||◌}
use mathlib.Core.List.{List, [], ◌∷◌}
use mathlib.Core.Option.{Option, none, some}
use Prim.Native.Nat.{ℕ, ◌%◌, ◌<◌}
use native.Mathlib.Omega.{arith}
use borrow.Author.Tests.{eq-eqb}
use lib.Dec.{T, eqb, eqb→eq}
use lib.ListN.{get_or}
use mir.Facts.{and_yes}
use Rattle.options.specs.Reading.{among}
use Rattle.options.specs.Kinds.{Row, rows, Lengths, exactly, multiples, Values, any, between, one_of, at_least, rising_from, destinations, ascii, suboptions, routed, value_fault_value, or_nine_value, first16}
use Rattle.ranges.specs.Rows.{number_of, row_from}
use Rattle.kinds.specs.Numbers.{kind_at, or_else, row_at, lengths_of, values_of, breaks_value, value_fault_in, is_list_value, number_fault_value}
use Rattle.kinds.specs.Parts.{keeps_octet, octet_fits_value, keeps_number16, number16_fits_value}
use Rattle.kinds.proofs.Entries.{all_below, all_below_lem}

-- the row with a number, to be computed
abbrev pub row_as : ℕ → Option Row
row_as n = or_else (row_from [] rows n) (row_from [] rows (n % 16))

-- ---- Equal things, as tests

abbrev pub same_list : List ℕ → List ℕ → Bool
same_list [] [] = true
same_list [] (y ∷ ys) = false
same_list (x ∷ xs) [] = false
same_list (x ∷ xs) (y ∷ ys) = eqb x y && same_list xs ys

same_list_lem : (xs ys : List ℕ) → T (same_list xs ys) → xs ≡ ys
same_list_lem [] [] t = refl
same_list_lem [] (y ∷ ys) t = absurd t
same_list_lem (x ∷ xs) [] t = absurd t
same_list_lem (x ∷ xs) (y ∷ ys) t =
    let p = and_yes (eqb x y) (same_list xs ys) t in
    ap₂ (λ (a : ℕ) (b : List ℕ). a ∷ b) (eqb→eq x y p.0) (same_list_lem xs ys p.1)

abbrev pub as_numbers : Option Lengths → List ℕ
as_numbers none = []
as_numbers (some (exactly k)) = k ∷ []
as_numbers (some (multiples least unit)) = least ∷ unit ∷ []

abbrev from_numbers : List ℕ → Option Lengths
from_numbers [] = none
from_numbers (k ∷ []) = some (exactly k)
from_numbers (a ∷ u ∷ xs) = some (multiples a u)

numbers_back : (o : Option Lengths) → from_numbers (as_numbers o) ≡ o
numbers_back none = refl
numbers_back (some (exactly k)) = refl
numbers_back (some (multiples least unit)) = refl

abbrev pub same_lengths : Option Lengths → Option Lengths → Bool
same_lengths a b = same_list (as_numbers a) (as_numbers b)

same_lengths_lem : (a b : Option Lengths) → T (same_lengths a b) → b ≡ a
same_lengths_lem a b t = sym (numbers_back b) ∙ ap from_numbers (sym (same_list_lem (as_numbers a) (as_numbers b) t)) ∙ numbers_back a

-- a rule of value as a list of numbers
abbrev pub as_list : Option Values → List ℕ
as_list none = []
as_list (some any) = 1 ∷ []
as_list (some (between a b)) = 2 ∷ a ∷ b ∷ []
as_list (some (one_of vs)) = 3 ∷ vs
as_list (some (at_least a)) = 4 ∷ a ∷ []
as_list (some (rising_from a)) = 5 ∷ a ∷ []
as_list (some destinations) = 6 ∷ []
as_list (some ascii) = 7 ∷ []
as_list (some suboptions) = 8 ∷ []
as_list (some routed) = 9 ∷ []

-- and back
abbrev from_list : List ℕ → Option Values
from_list [] = none
from_list (t ∷ xs) =
    cond (eqb t 1) (some any)
    (cond (eqb t 2) (some (between (get_or xs 0 0) (get_or xs 1 0)))
    (cond (eqb t 3) (some (one_of xs))
    (cond (eqb t 4) (some (at_least (get_or xs 0 0))) (cond (eqb t 5) (some (rising_from (get_or xs 0 0))) (cond (eqb t 6) (some destinations) (cond (eqb t 7) (some ascii) (cond (eqb t 8) (some suboptions) (some routed))))))))

list_back : (o : Option Values) → from_list (as_list o) ≡ o
list_back none = refl
list_back (some any) = refl
list_back (some (between a b)) = refl
list_back (some (one_of vs)) = refl
list_back (some (at_least a)) = refl
list_back (some (rising_from a)) = refl
list_back (some destinations) = refl
list_back (some ascii) = refl
list_back (some suboptions) = refl
list_back (some routed) = refl

same_values : (a b : Option Values) → T (same_list (as_list a) (as_list b)) → b ≡ a
same_values a b t = sym (list_back b) ∙ ap from_list (sym (same_list_lem (as_list a) (as_list b) t)) ∙ list_back a

abbrev pub same_bool : Bool → Bool → Bool
same_bool true b = b
same_bool false b = not b

same_bool_lem : (a b : Bool) → T (same_bool a b) → b ≡ a
same_bool_lem true true t = refl
same_bool_lem false false t = refl
same_bool_lem true false t = absurd t
same_bool_lem false true t = absurd t

-- ---- Rules of value by their forms

abbrev pub is_any : Option Values → Bool
is_any none = true
is_any (some any) = true
is_any (some (between a b)) = false
is_any (some (one_of vs)) = false
is_any (some (at_least a)) = false
is_any (some (rising_from a)) = false
is_any (some destinations) = false
is_any (some ascii) = false
is_any (some suboptions) = false
is_any (some routed) = false

abbrev pub unruled : Bool → Option Values → Bool
unruled true v = true
unruled false v = is_any v

no_rule : (v : Option Values) (d : List ℕ) → T (is_any v) → breaks_value v d ≡ 0
unfolding value_fault_value
no_rule none d t = refl
no_rule (some any) d t = refl
no_rule (some (between a b)) d t = absurd t
no_rule (some (one_of vs)) d t = absurd t
no_rule (some (at_least a)) d t = absurd t
no_rule (some (rising_from a)) d t = absurd t
no_rule (some destinations) d t = absurd t
no_rule (some ascii) d t = absurd t
no_rule (some suboptions) d t = absurd t
no_rule (some routed) d t = absurd t

abbrev pub is_octet : Option Values → Bool
is_octet none = true
is_octet (some any) = true
is_octet (some (between a b)) = true
is_octet (some (one_of vs)) = true
is_octet (some (at_least a)) = false
is_octet (some (rising_from a)) = false
is_octet (some destinations) = false
is_octet (some ascii) = false
is_octet (some suboptions) = false
is_octet (some routed) = false

octet_fault : (v : Option Values) (d : List ℕ) → T (is_octet v) → breaks_value v d ≡ or_nine_value (keeps_octet v (get_or d 0 0))
unfolding value_fault_value
octet_fault none d t = refl
octet_fault (some any) d t = refl
octet_fault (some (between a b)) d t = refl
octet_fault (some (one_of vs)) d t = refl
octet_fault (some (at_least a)) d t = absurd t
octet_fault (some (rising_from a)) d t = absurd t
octet_fault (some destinations) d t = absurd t
octet_fault (some ascii) d t = absurd t
octet_fault (some suboptions) d t = absurd t
octet_fault (some routed) d t = absurd t

abbrev pub is_number16 : Option Values → Bool
is_number16 none = true
is_number16 (some any) = true
is_number16 (some (between a b)) = false
is_number16 (some (one_of vs)) = false
is_number16 (some (at_least a)) = true
is_number16 (some (rising_from a)) = false
is_number16 (some destinations) = false
is_number16 (some ascii) = false
is_number16 (some suboptions) = false
is_number16 (some routed) = false

number16_fault : (v : Option Values) (d : List ℕ) → T (is_number16 v) → breaks_value v d ≡ or_nine_value (keeps_number16 v (first16 d))
unfolding value_fault_value
number16_fault none d t = refl
number16_fault (some any) d t = refl
number16_fault (some (between a b)) d t = absurd t
number16_fault (some (one_of vs)) d t = absurd t
number16_fault (some (at_least a)) d t = refl
number16_fault (some (rising_from a)) d t = absurd t
number16_fault (some destinations) d t = absurd t
number16_fault (some ascii) d t = absurd t
number16_fault (some suboptions) d t = absurd t
number16_fault (some routed) d t = absurd t

-- ---- Where a test holds

holds : (a b : Bool) → T (not a || b) → a ≡ true → T b
holds true b t e = t
holds false b t e = absurd (let z : ◌≡◌ {A = ℕ} 0 1 = cc in omega arith)

true_of : (b : Bool) → T b → b ≡ true
true_of true t = refl
true_of false t = absurd t

module _ (test : ℕ → Bool) (n : ℕ) (h : n < 256) (y : test n ≡ true) where
  at_where : (f : ℕ → Bool) → T (all_below (λ m. not (test m) || f m) 256) → T (f n)
  at_where f t = holds (test n) (f n) (all_below_lem (λ m. not (test m) || f m) 256 t n h) y

  lengths_where : (l : Option Lengths) → T (all_below (λ m. not (test m) || same_lengths l (lengths_of (row_as m))) 256) → lengths_of (row_at n) ≡ l
  unfolding row_at
  lengths_where l t = same_lengths_lem l (lengths_of (row_as n)) (at_where (λ m. same_lengths l (lengths_of (row_as m))) t)

  values_where : (v : Option Values) → T (all_below (λ m. not (test m) || same_list (as_list v) (as_list (values_of (row_as m)))) 256) → values_of (row_at n) ≡ v
  unfolding row_at
  values_where v t = same_values v (values_of (row_as n)) (at_where (λ m. same_list (as_list v) (as_list (values_of (row_as m)))) t)

  lists_where : (f : ℕ → Bool) → T (all_below (λ m. not (test m) || same_bool (f m) (is_list_value (row_as m))) 256) → is_list_value (row_at n) ≡ f n
  unfolding row_at
  lists_where f t = same_bool_lem (f n) (is_list_value (row_as n)) (at_where (λ m. same_bool (f m) (is_list_value (row_as m))) t)

-- of the rows of the kind k, but for those with the numbers xs
abbrev pub except : ℕ → List ℕ → ℕ → Bool
except k xs n = eqb (n % 16) k && not (among n xs)

is_except : (k : ℕ) (xs : List ℕ) (n : ℕ) → n % 16 ≡ k → among n xs ≡ false → except k xs n ≡ true
is_except k xs n e a = rw (eq-eqb (n % 16) k e, a)

module _ (k : ℕ) (xs : List ℕ) (n : ℕ) (h : n < 256) (e : n % 16 ≡ k) (a : among n xs ≡ false) where
  pub lengths_of_lem : (l : Lengths) → T (all_below (λ m. not (except k xs m) || same_lengths (some l) (lengths_of (row_as m))) 256) → lengths_of (row_at n) ≡ some l
  lengths_of_lem l t = lengths_where (except k xs) n h (is_except k xs n e a) (some l) t

  pub values_of_lem : (v : Values) → T (all_below (λ m. not (except k xs m) || same_list (as_list (some v)) (as_list (values_of (row_as m)))) 256) → values_of (row_at n) ≡ some v
  values_of_lem v t = values_where (except k xs) n h (is_except k xs n e a) (some v) t

  pub lists_of : (f : ℕ → Bool) → T (all_below (λ m. not (except k xs m) || same_bool (f m) (is_list_value (row_as m))) 256) → is_list_value (row_at n) ≡ f n
  lists_of f t = lists_where (except k xs) n h (is_except k xs n e a) f t

  -- the rule of a byte, or that of a 16-bit number
  pub octets_of : (d : List ℕ) → T (all_below (λ m. not (except k xs m) || is_octet (values_of (row_as m))) 256)
      → value_fault_in (row_at n) d ≡ or_nine_value (octet_fits_value (row_at n) (get_or d 0 0))
  unfolding row_at
  octets_of d t = octet_fault (values_of (row_as n)) d (at_where (except k xs) n h (is_except k xs n e a) (λ m. is_octet (values_of (row_as m))) t)

  pub numbers16_of : (d : List ℕ) → T (all_below (λ m. not (except k xs m) || is_number16 (values_of (row_as m))) 256)
      → value_fault_in (row_at n) d ≡ or_nine_value (number16_fits_value (row_at n) (first16 d))
  unfolding row_at
  numbers16_of d t = number16_fault (values_of (row_as n)) d (at_where (except k xs) n h (is_except k xs n e a) (λ m. is_number16 (values_of (row_as m))) t)

-- where a test of the kind holds
module _ (test : ℕ → Bool) (n : ℕ) (h : n < 256) (t : T (test (n % 16))) where
  pub lengths_by : (l : Option Lengths) → T (all_below (λ m. not (test (m % 16)) || same_lengths l (lengths_of (row_as m))) 256) → lengths_of (row_at n) ≡ l
  lengths_by l c = lengths_where (λ m. test (m % 16)) n h (true_of (test (n % 16)) t) l c

  pub lists_by : T (all_below (λ m. not (test (m % 16)) || same_bool false (is_list_value (row_as m))) 256) → is_list_value (row_at n) ≡ false
  lists_by c = lists_where (λ m. test (m % 16)) n h (true_of (test (n % 16)) t) (λ m. false) c

  -- no rule of value, or that of a list
  pub unruled_by : (d : List ℕ) → T (all_below (λ m. not (test (m % 16)) || unruled (is_list_value (row_as m)) (values_of (row_as m))) 256) → 0 ≡ number_fault_value (row_at n) d
  unfolding row_at
  unruled_by d c = go (is_list_value (row_as n)) (at_where (λ m. test (m % 16)) n h (true_of (test (n % 16)) t) (λ m. unruled (is_list_value (row_as m)) (values_of (row_as m))) c)
    where
      go : (b : Bool) → T (unruled b (values_of (row_as n))) → 0 ≡ cond b 0 (breaks_value (values_of (row_as n)) d)
      go true y = refl
      go false y = sym (no_rule (values_of (row_as n)) d y)

-- ---- Where there is no row, the kind counts as opaque

abbrev pub opaque_right : Option Row → ℕ → Bool
opaque_right none k = eqb (number_of (kind_at k)) 11
opaque_right (some r) k = true

pub opaque_else : (k : ℕ) → k < 16 → row_from [] rows k ≡ none → number_of (kind_at k) ≡ 11
opaque_else k h e = go (row_from [] rows k) e (all_below_lem (λ m. opaque_right (row_from [] rows m) m) 16 tt k h)
  where
    go : (o : Option Row) → o ≡ none → T (opaque_right o k) → number_of (kind_at k) ≡ 11
    go none q t = eqb→eq (number_of (kind_at k)) 11 t
    go (some r) q t = absurd (let z : ◌≡◌ {A = ℕ} 0 1 = cc in omega arith)
