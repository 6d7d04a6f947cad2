-- The rules of each kind's rows, each computed once over all bytes. Assumes nothing.
use mathlib.Core.Path.{◌≡◌, refl}
use mathlib.Core.Bool.{Bool, true, false, not, ◌||◌}
use mathlib.Core.List.{List, [], ◌∷◌}
use mathlib.Core.Option.{none, some}
use Prim.Native.Nat.{ℕ, ◌%◌, ◌<◌}
use lib.Dec.{T, eqb, ltb}
use lib.ListN.{get_or}
use Rattle.options.specs.Reading.{among}
use Rattle.options.specs.Kinds.{exactly, multiples, between, any, rising_from, ascii, suboptions, routed, or_nine_value, first16}
use Rattle.kinds.specs.Numbers.{row_at, lengths_of, values_of, value_fault_in, is_list_value, number_fault_value}
use Rattle.kinds.specs.Parts.{octet_fits_value, number16_fits_value}
use Rattle.kinds.proofs.Rules.{lengths_of_lem, lengths_by, values_of_lem, lists_of, lists_by, octets_of, numbers16_of, unruled_by}

module _ (n : ℕ) (h : n < 256) where
  -- the rule of length, by the number of the kind
  pub length_1 : n % 16 ≡ 1 → lengths_of (row_at n) ≡ some (exactly 4)
  length_1 e = lengths_of_lem 1 [] n h e refl (exactly 4) tt

  pub length_2 : n % 16 ≡ 2 → among n (18 ∷ []) ≡ false → lengths_of (row_at n) ≡ some (multiples 4 4)
  length_2 e a = lengths_of_lem 2 (18 ∷ []) n h e a (multiples 4 4) tt

  pub length_3 : n % 16 ≡ 3 → lengths_of (row_at n) ≡ some (multiples 8 8)
  length_3 e = lengths_of_lem 3 [] n h e refl (multiples 8 8) tt

  pub length_4 : n % 16 ≡ 4 → lengths_of (row_at n) ≡ some (exactly 1)
  length_4 e = lengths_of_lem 4 [] n h e refl (exactly 1) tt

  pub length_5 : n % 16 ≡ 5 → lengths_of (row_at n) ≡ some (exactly 1)
  length_5 e = lengths_of_lem 5 [] n h e refl (exactly 1) tt

  pub length_6 : n % 16 ≡ 6 → lengths_of (row_at n) ≡ some (exactly 2)
  length_6 e = lengths_of_lem 6 [] n h e refl (exactly 2) tt

  pub length_7 : n % 16 ≡ 7 → lengths_of (row_at n) ≡ some (multiples 2 2)
  length_7 e = lengths_of_lem 7 [] n h e refl (multiples 2 2) tt

  pub length_8 : n % 16 ≡ 8 → lengths_of (row_at n) ≡ some (exactly 4)
  length_8 e = lengths_of_lem 8 [] n h e refl (exactly 4) tt

  pub length_9 : n % 16 ≡ 9 → lengths_of (row_at n) ≡ some (exactly 4)
  length_9 e = lengths_of_lem 9 [] n h e refl (exactly 4) tt

  pub length_10 : n % 16 ≡ 10 → lengths_of (row_at n) ≡ some (multiples 1 1)
  length_10 e = lengths_of_lem 10 [] n h e refl (multiples 1 1) tt

  pub length_11 : n % 16 ≡ 11 → among n (27 ∷ []) ≡ false → lengths_of (row_at n) ≡ some (multiples 1 1)
  length_11 e a = lengths_of_lem 11 (27 ∷ []) n h e a (multiples 1 1) tt

  pub length_12 : n % 16 ≡ 12 → lengths_of (row_at n) ≡ some (multiples 2 1)
  length_12 e = lengths_of_lem 12 [] n h e refl (multiples 2 1) tt

  pub length_13 : n % 16 ≡ 13 → lengths_of (row_at n) ≡ some (multiples 5 1)
  length_13 e = lengths_of_lem 13 [] n h e refl (multiples 5 1) tt

  -- whether it is a list
  pub list_3 : n % 16 ≡ 3 → is_list_value (row_at n) ≡ eqb n 19
  list_3 e = lists_of 3 [] n h e refl (λ m. eqb m 19) tt

  pub list_7 : n % 16 ≡ 7 → is_list_value (row_at n) ≡ true
  list_7 e = lists_of 7 [] n h e refl (λ m. true) tt

  pub list_10 : n % 16 ≡ 10 → is_list_value (row_at n) ≡ true
  list_10 e = lists_of 10 [] n h e refl (λ m. true) tt

  pub list_12 : n % 16 ≡ 12 → is_list_value (row_at n) ≡ true
  list_12 e = lists_of 12 [] n h e refl (λ m. true) tt

  pub list_13 : n % 16 ≡ 13 → is_list_value (row_at n) ≡ true
  list_13 e = lists_of 13 [] n h e refl (λ m. true) tt

  pub list_4 : n % 16 ≡ 4 → is_list_value (row_at n) ≡ false
  list_4 e = lists_of 4 [] n h e refl (λ m. false) tt

  pub list_5 : n % 16 ≡ 5 → is_list_value (row_at n) ≡ false
  list_5 e = lists_of 5 [] n h e refl (λ m. false) tt

  pub list_6 : n % 16 ≡ 6 → is_list_value (row_at n) ≡ false
  list_6 e = lists_of 6 [] n h e refl (λ m. false) tt

  -- the rule of value
  pub value_7 : n % 16 ≡ 7 → values_of (row_at n) ≡ some (rising_from 68)
  value_7 e = values_of_lem 7 [] n h e refl (rising_from 68) tt

  pub value_10 : n % 16 ≡ 10 → values_of (row_at n) ≡ some (ascii)
  value_10 e = values_of_lem 10 [] n h e refl (ascii) tt

  pub value_12 : n % 16 ≡ 12 → values_of (row_at n) ≡ some (suboptions)
  value_12 e = values_of_lem 12 [] n h e refl (suboptions) tt

  pub value_13 : n % 16 ≡ 13 → values_of (row_at n) ≡ some (routed)
  value_13 e = values_of_lem 13 [] n h e refl (routed) tt

  pub value_4 : n % 16 ≡ 4 → values_of (row_at n) ≡ some (between 0 1)
  value_4 e = values_of_lem 4 [] n h e refl (between 0 1) tt

  pub value_5 : n % 16 ≡ 5 → among n (21 ∷ 37 ∷ 53 ∷ []) ≡ false → values_of (row_at n) ≡ some (between 1 255)
  value_5 e a = values_of_lem 5 (21 ∷ 37 ∷ 53 ∷ []) n h e a (between 1 255) tt

  pub value_6 : n % 16 ≡ 6 → among n (22 ∷ 38 ∷ []) ≡ false → values_of (row_at n) ≡ some (any)
  value_6 e a = values_of_lem 6 (22 ∷ 38 ∷ []) n h e a (any) tt

  pub octet_rule : n % 16 ≡ 5 → (d : List ℕ) → value_fault_in (row_at n) d ≡ or_nine_value (octet_fits_value (row_at n) (get_or d 0 0))
  octet_rule e d = octets_of 5 [] n h e refl d tt

  pub number16_rule : n % 16 ≡ 6 → (d : List ℕ) → value_fault_in (row_at n) d ≡ or_nine_value (number16_fits_value (row_at n) (first16 d))
  number16_rule e d = numbers16_of 6 [] n h e refl d tt

-- ---- For the last arm of a `match` on the kind

-- no kind has this number; no list, but for those of 33; no rule of a number
abbrev pub kindless : ℕ → Bool
kindless k = eqb k 0 || ltb 13 k

abbrev pub listless : ℕ → Bool
listless k = not (among k (3 ∷ 7 ∷ 10 ∷ 12 ∷ 13 ∷ []))

abbrev pub numberless : ℕ → Bool
numberless k = not (among k (4 ∷ 5 ∷ 6 ∷ []))

module _ (n : ℕ) (h : n < 256) where
  pub no_length : T (kindless (n % 16)) → lengths_of (row_at n) ≡ none
  no_length t = lengths_by kindless n h t none tt

  pub no_list : T (listless (n % 16)) → is_list_value (row_at n) ≡ false
  no_list t = lists_by listless n h t tt

  pub no_number : T (numberless (n % 16)) → (d : List ℕ) → 0 ≡ number_fault_value (row_at n) d
  no_number t d = unruled_by numberless n h t d tt
