-- The rules of the writer of relay information are its rows. Assumes nothing.
use mathlib.Core.Path.{◌≡◌, refl, sym, ap, ap₂, ◌∙◌, subst}
use mathlib.Core.List.{List, [], ◌∷◌}
use mathlib.Core.Logic.{◌⊎◌, inl, inr, ⊎_elim}
use Prim.Native.Nat.{ℕ, ◌≤◌, ◌<◌}
use native.Mathlib.Omega.{arith}
use lib.ListN.{length}
use borrow.Author.Tests.{ltb-true, lt-ltb}
use Rattle.options.specs.Message.{Rec}
use Rattle.options.specs.Answers.{record_bytes}
use Rattle.options.specs.KindClaims.{AllBytes}
use Rattle.options.specs.SheetWalk.{records_from, Sheet, sound, faulty, ruled}
use Rattle.options.specs.RuleClaims.{nth_first, nth_next, RuleRow, cut_row, rule_row, CorrectSheet}
use Rattle.options.specs.Relay.{relay_rules, relay_sheet}
use Rattle.options.specs.RelayClaims.{RecordsAre, RelayRow, row_12, row_13, FirstRelayRow, RightRelay}
use Rattle.writing_theorems.proofs.Ruled.{nth_some, ruled_correct}
use Rattle.writing_theorems.proofs.SheetRows.{reached_begins, reaches}
use Rattle.writing_theorems.proofs.SheetView.{same_sheet}
use Rattle.relay_theorems.proofs.Bytes.{records_are, the_records}

module _ {s : List ℕ} where
  to_row : {n i q : ℕ} → RuleRow relay_rules s n i q → RelayRow s n i q
  to_row (cut_row r x) = row_12 (reached_begins r) x
  to_row (rule_row {d = d} r o nth_first b) = row_13 (record { begins = reached_begins r; is_record = o }) (ltb-true 255 (length d) b)
  to_row (rule_row r o (nth_next n) b) = absurd (nth_some n refl)

  of_row : {n i q : ℕ} → RelayRow s n i q → RuleRow relay_rules s n i q
  of_row (row_12 b x) = cut_row (reaches b).reached x
  of_row (row_13 {d = d} l x) = rule_row (reaches l.begins).reached l.is_record nth_first (lt-ltb 255 (length d) x)

abbrev pub Judges : List ℕ → Sheet → Type 0
Judges s (faulty n p) = FirstRelayRow s n p
Judges s (sound rs) = RightRelay s rs

judges_of : (s : List ℕ) (x : Sheet) → CorrectSheet relay_rules s x → Judges s x
judges_of s (faulty n p) g = record { rank = g.rank; applies = to_row g.applies; none_before = λ r. g.none_before (of_row r) }
judges_of s (sound rs) g = record { is_sheet = subst (RecordsAre rs) (sym g.0) (records_are rs); no_row = λ n i q r. g.1 n i q (of_row r) }

pub judges : (s : List ℕ) → AllBytes s → Judges s (relay_sheet s)
unfolding relay_sheet
judges s all = judges_of s (ruled relay_rules [] (records_from 0 0 s)) (ruled_correct relay_rules s all)

-- ---- a sheet has one first row, or one list of records

-- the number is told by the rank
row_number : {s : List ℕ} {n m i j q : ℕ} → RelayRow s n i q → RelayRow s m j q → n ≡ m
row_number (row_12 b x) (row_12 c y) = refl
row_number (row_13 b x) (row_13 c y) = refl

pub first_once : {s : List ℕ} {n m i j : ℕ} → FirstRelayRow s n i → FirstRelayRow s m j → (n ≡ m) × (i ≡ j)
first_once {s} {n} {m} {i} {j} f g = go (f.none_before g.applies) (g.none_before f.applies)
  where
    go : (i < j) ⊎ ((i ≡ j) × (f.rank ≤ g.rank)) → (j < i) ⊎ ((j ≡ i) × (g.rank ≤ f.rank)) → (n ≡ m) × (i ≡ j)
    go (inl a) (inl b) = absurd (omega arith)
    go (inl a) (inr b) = absurd (omega (arith, b.0))
    go (inr a) (inl b) = absurd (omega (arith, a.0))
    go (inr a) (inr b) =
        let r : g.rank ≡ f.rank = omega (arith, a.1, b.1) in
        (row_number f.applies (subst (RelayRow s m j) r g.applies), a.0)

pub sheet_once : {s : List ℕ} {rs ts : List Rec} → RightRelay s rs → RightRelay s ts → rs ≡ ts
sheet_once {s} {rs} {ts} a b = same_sheet rs ts (sym (the_records a.is_sheet) ∙ the_records b.is_sheet)

pub row_or_sheet : {s : List ℕ} {n i : ℕ} {rs : List Rec} → FirstRelayRow s n i → RightRelay s rs → ⊥
row_or_sheet {s} {n} {i} f h = h.no_row n i f.rank f.applies
