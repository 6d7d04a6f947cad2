-- In a field that has its END, what is met from an offset on is within the field. Assumes nothing.
use mathlib.Core.Path.{◌≡◌, refl, sym, ap, ◌∙◌}
use mathlib.Core.Bool.{true, false}
use mathlib.Core.List.{List}
use Prim.Native.Nat.{ℕ, ◌+◌, ◌≤◌, ◌<◌}
use native.Mathlib.Omega.{arith}
use native.Mathlib.Decide.{dec_lt}
use lib.ListN.{length, get_or}
use Rattle.options.specs.Reading.{Parse, ran_out_value, beyond, found}
use Rattle.theorems.proofs.View.{clash}
use Rattle.wire.specs.Walk.{item_at}
use Rattle.wire.proofs.Laws.{rest, rest_none, rest_pad, rest_last, rest_long, rest_found}
use Rattle.records.specs.FieldRecords.{has_end}

module _ (f : List ℕ) (i : ℕ) (h : has_end (rest f i) ≡ true) where
  -- another end is not met
  no_other : (p : Parse) → has_end p ≡ false → rest f i ≡ p → ⊥
  no_other p e q = let z : false ≡ true = sym e ∙ ap has_end (sym q) ∙ h in clash (cc)

  pub inside : i < length f
  unfolding has_end
  inside = go (dec_lt i (length f))
    where
      go : Dec (i < length f) → i < length f
      go (yes a) = a
      go (no a) = absurd (no_other (ran_out_value i) refl (rest_none f i (omega arith)))

  pub pad_ends : get_or f i 0 ≡ 0 → has_end (rest f (i + 1)) ≡ true
  pad_ends z = ap has_end (sym (rest_pad f i inside z)) ∙ h

  module _ (z : get_or f i 0 ≡ 0 → ⊥) (e : get_or f i 0 ≡ 255 → ⊥) where
    pub option_within : i + 2 + get_or f (i + 1) 0 ≤ length f
    unfolding has_end
    option_within = go (dec_lt (i + 1) (length f)) (dec_lt (length f) (i + 2 + get_or f (i + 1) 0))
      where
        go : Dec (i + 1 < length f) → Dec (length f < i + 2 + get_or f (i + 1) 0) → i + 2 + get_or f (i + 1) 0 ≤ length f
        go (no a) b = absurd (no_other (beyond i) refl (rest_last f i inside z e (omega arith)))
        go (yes a) (yes b) = absurd (no_other (beyond i) refl (rest_long f i inside z e a b))
        go (yes a) (no b) = omega arith

    pub option_found : rest f i ≡ found i (item_at (get_or f i 0) (get_or f (i + 1) 0) f i) (rest f (i + 2 + get_or f (i + 1) 0))
    option_found = rest_found f i inside z e (omega (arith, option_within)) option_within

    pub option_ends : has_end (rest f (i + 2 + get_or f (i + 1) 0)) ≡ true
    unfolding has_end
    option_ends = ap has_end (sym option_found) ∙ h
