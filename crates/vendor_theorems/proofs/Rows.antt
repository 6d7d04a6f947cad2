-- The rules of the writer of vendor information are its rows. Assumes nothing.
use mathlib.Core.Path.{◌≡◌, refl, sym, ap, ap₂, ◌∙◌, subst}
use mathlib.Core.List.{List, [], ◌∷◌}
use mathlib.Core.Bool.{Bool, true, false}
use mathlib.Core.Logic.{◌⊎◌, inl, inr, ⊎_elim}
use Prim.Native.Nat.{ℕ, ◌≤◌, ◌<◌}
use native.Mathlib.Omega.{arith}
use lib.ListN.{length}
use lib.Dec.{eqb}
use borrow.Author.Tests.{eqb-true, ltb-true, lt-ltb}
use Rattle.options.specs.Message.{Rec}
use Rattle.options.specs.Reading.{either, among}
use Rattle.options.specs.Answers.{record_bytes}
use Rattle.options.specs.KindClaims.{AllBytes}
use Rattle.options.specs.SheetWalk.{records_from, Sheet, sound, faulty, ruled}
use Rattle.options.specs.RuleClaims.{nth_first, nth_next, RuleRow, cut_row, rule_row, CorrectSheet}
use Rattle.options.specs.Vendor.{vendor_rules, vendor_sheet}
use Rattle.options.specs.VendorClaims.{VendorRow, row_12, row_10, row_13, FirstVendorRow, RightSheet}
use Rattle.theorems.proofs.View.{clash}
use Rattle.writing_theorems.proofs.Ruled.{nth_some, ruled_correct}
use Rattle.writing_theorems.proofs.SheetRows.{reached_begins, reaches}
use Rattle.writing_theorems.proofs.SheetView.{same_sheet}

bad_tag : (c : ℕ) → among c (0 ∷ 255 ∷ []) ≡ true → (c ≡ 0) ⊎ (c ≡ 255)
bad_tag c e = go (eqb c 0) (eqb c 255) refl refl e
  where
    go : (a b : Bool) → eqb c 0 ≡ a → eqb c 255 ≡ b → either a (either b false) ≡ true → (c ≡ 0) ⊎ (c ≡ 255)
    go true b x y z = inl (eqb-true c 0 x)
    go false true x y z = inr (eqb-true c 255 y)
    go false false x y z = clash (cc)

tag_bad : (c : ℕ) → (c ≡ 0) ⊎ (c ≡ 255) → among c (0 ∷ 255 ∷ []) ≡ true
tag_bad c (inl z) = rw z
tag_bad c (inr z) = rw z

module _ {s : List ℕ} where
  to_row : {n i q : ℕ} → RuleRow vendor_rules s n i q → VendorRow s n i q
  to_row (cut_row r x) = row_12 (reached_begins r) x
  to_row (rule_row {c = c} r o nth_first b) = row_10 (record { begins = reached_begins r; is_record = o }) (bad_tag c b)
  to_row (rule_row {d = d} r o (nth_next nth_first) b) = row_13 (record { begins = reached_begins r; is_record = o }) (ltb-true 255 (length d) b)
  to_row (rule_row r o (nth_next (nth_next n)) b) = absurd (nth_some n refl)

  of_row : {n i q : ℕ} → VendorRow s n i q → RuleRow vendor_rules s n i q
  of_row (row_12 b x) = cut_row (reaches b).reached x
  of_row (row_10 {c = c} l x) = rule_row (reaches l.begins).reached l.is_record nth_first (tag_bad c x)
  of_row (row_13 {d = d} l x) = rule_row (reaches l.begins).reached l.is_record (nth_next nth_first) (lt-ltb 255 (length d) x)

abbrev pub Judges : List ℕ → Sheet → Type 0
Judges s (faulty n p) = FirstVendorRow s n p
Judges s (sound rs) = RightSheet s rs

judges_of : (s : List ℕ) (x : Sheet) → CorrectSheet vendor_rules s x → Judges s x
judges_of s (faulty n p) g = record { rank = g.rank; applies = to_row g.applies; none_before = λ r. g.none_before (of_row r) }
judges_of s (sound rs) g = record { is_sheet = g.0; no_row = λ n i q r. g.1 n i q (of_row r) }

pub judges : (s : List ℕ) → AllBytes s → Judges s (vendor_sheet s)
unfolding vendor_sheet
judges s all = judges_of s (ruled vendor_rules [] (records_from 0 0 s)) (ruled_correct vendor_rules s all)

-- ---- a sheet has one first row, or one list of records

-- the number is told by the rank
row_number : {s : List ℕ} {n m i j q : ℕ} → VendorRow s n i q → VendorRow s m j q → n ≡ m
row_number (row_12 b x) (row_12 c y) = refl
row_number (row_10 b x) (row_10 c y) = refl
row_number (row_13 b x) (row_13 c y) = refl

pub first_once : {s : List ℕ} {n m i j : ℕ} → FirstVendorRow s n i → FirstVendorRow s m j → (n ≡ m) × (i ≡ j)
first_once {s} {n} {m} {i} {j} f g = go (f.none_before g.applies) (g.none_before f.applies)
  where
    go : (i < j) ⊎ ((i ≡ j) × (f.rank ≤ g.rank)) → (j < i) ⊎ ((j ≡ i) × (g.rank ≤ f.rank)) → (n ≡ m) × (i ≡ j)
    go (inl a) (inl b) = absurd (omega arith)
    go (inl a) (inr b) = absurd (omega (arith, b.0))
    go (inr a) (inl b) = absurd (omega (arith, a.0))
    go (inr a) (inr b) =
        let r : g.rank ≡ f.rank = omega (arith, a.1, b.1) in
        (row_number f.applies (subst (VendorRow s m j) r g.applies), a.0)

pub sheet_once : {s : List ℕ} {rs ts : List Rec} → RightSheet s rs → RightSheet s ts → rs ≡ ts
sheet_once {s} {rs} {ts} a b = same_sheet rs ts (sym a.is_sheet ∙ b.is_sheet)

pub row_or_sheet : {s : List ℕ} {n i : ℕ} {rs : List Rec} → FirstVendorRow s n i → RightSheet s rs → ⊥
row_or_sheet {s} {n} {i} f h = h.no_row n i f.rank f.applies
