-- The reader, and the row of 82: both give 8 on the same bytes. Assumes nothing.
use mathlib.Core.Path.{◌≡◌, refl, sym, ap, ◌∙◌, subst}
use mathlib.Core.List.{List, [], ◌∷◌, ◌++◌}
use mathlib.Core.Bool.{Bool, true, false, cond}
use mathlib.Core.Logic.{◌⊎◌, ◌↔◌, inl, inr}
use Prim.Native.Nat.{ℕ, ◌+◌, ◌≤◌, ◌<◌}
use native.Mathlib.Omega.{arith}
use lib.ListN.{length, length-append}
use lib.Dec.{ltb}
use Rattle.options.specs.Message.{Rec}
use Rattle.options.specs.SubOptions.{sub_options, fill_fault}
use Rattle.options.specs.Kinds.{relay, multiples, is_length, row_of, value_fault_value, fault, unless, meaning, judged, Value, broken, part, kinds}
use Rattle.options.specs.Answers.{record_bytes, unfilled, Given, given, declined}
use Rattle.options.specs.Writing.{option_bytes}
use Rattle.options.specs.Vendor.{Items, listed, past, items_in}
use Rattle.options.specs.VendorClaims.{filled}
use Rattle.options.specs.Relay.{RelayRead, no_relay, id_in, relay_records_value}
use Rattle.options.specs.RelayClaims.{RelayReadsTheRow}
use Rattle.theorems.proofs.View.{clash}
use Rattle.theorems.proofs.KindLengths.{in_ones}
use Rattle.theorems.proofs.SubOptionRow.{are, the_bytes, fault_none, none_fault, eight_or_none}
use Rattle.vendor_theorems.proofs.Writing.{placed}
use Rattle.relay_theorems.proofs.Subs.{filled_walk, past_walk, Past, Either, some_end}
use Rattle.relay_theorems.proofs.Reading.{gives_past, gives_listed}

-- ---- What the row says

value_82 : (d : List ℕ) → kinds.value 82 d ≡ unless (cond (is_length (multiples 2 1) (length d)) (fill_fault (sub_options 0 0 d)) 8) (part relay (length d))
unfolding row_of judged fault value_fault_value meaning
value_82 d = refl

long_enough : (r : Rec) (rs : List Rec) → 2 ≤ length (option_bytes (r ∷ rs))
unfolding option_bytes
long_enough r rs = omega arith

pub whole_value : (r : Rec) (rs : List Rec) → kinds.value 82 (option_bytes (r ∷ rs)) ≡ part relay (length (option_bytes (r ∷ rs)))
whole_value r rs =
    value_82 (option_bytes (r ∷ rs))
    ∙ rw ((in_ones 2 (length (option_bytes (r ∷ rs)))).1 (long_enough r rs), none_fault (option_bytes (r ∷ rs)) (r ∷ rs) (are (r ∷ rs)))

eight : (b : Bool) → cond {A = ℕ} b 8 8 ≡ 8
eight true = refl
eight false = refl

past_value : (f : List ℕ) → Past f → kinds.value 82 f ≡ broken 8
past_value f p = go (eight_or_none (sub_options 0 0 f))
  where
    -- the walk cannot find both
    never : (rs : List Rec) → f ≡ option_bytes rs → ⊥
    never rs e =
        let a : listed (placed 0 rs) ≡ items_in (sub_options 0 0 f) = sym (ap (λ (xs : List ℕ). items_in (sub_options 0 0 xs)) e ∙ filled_walk 0 rs) in
        let b : items_in (sub_options 0 0 f) ≡ past (0 + length (option_bytes p.before)) = ap (λ (xs : List ℕ). items_in (sub_options 0 0 xs)) p.reads ∙ past_walk 0 p.before p.rest p.runs_past in
        let c : listed (placed 0 rs) ≡ past (0 + length (option_bytes p.before)) = a ∙ b in
        clash (cc)

    go : (fill_fault (sub_options 0 0 f) ≡ 0) ⊎ (fill_fault (sub_options 0 0 f) ≡ 8) → kinds.value 82 f ≡ broken 8
    go (inl z) = let w = fault_none f z in absurd (never w.0 (the_bytes w.1))
    go (inr z) = value_82 f ∙ rw (z, eight (is_length (multiples 2 1) (length f)))

-- ---- And the reader

none_given : {n i : ℕ} → given n ≡ declined 8 i → ⊥
none_given e = clash (cc)

other_number : {p i : ℕ} → declined 11 p ≡ declined 8 i → ⊥
other_number {p} {i} e = let z : ◌≡◌ {A = ℕ} 11 8 = cc in omega (arith, z)

module _ (f old : List ℕ) where
  not_filled : (r : Rec) (rs : List Rec) → f ≡ option_bytes (r ∷ rs) → {i : ℕ} → (relay_records_value f old).filled.answer ≡ declined 8 i → ⊥
  not_filled r rs e {i} q = go (ltb (length old) (length (record_bytes (r ∷ rs)))) (sym (ap (λ (x : RelayRead). x.filled.answer) (gives_listed f old r rs e)) ∙ q)
    where
      go : (a : Bool)
          → (cond a (no_relay 11 (length old) old) (record { filled = cond a (unfilled 11 (length old) old) (filled (record_bytes (r ∷ rs)) old); circuit = id_in 1 (placed 0 (r ∷ rs)); remote = id_in 2 (placed 0 (r ∷ rs)) })).filled.answer ≡ declined 8 i
          → ⊥
      go true z = other_number z
      go false z = none_given z

  to_row : Either f → (i : ℕ) × ((relay_records_value f old).filled.answer ≡ declined 8 i) → kinds.value 82 f ≡ broken 8
  unfolding row_of judged fault value_fault_value meaning option_bytes
  to_row (inl ([], e)) q = ap (kinds.value 82) e
  to_row (inl (r ∷ rs, e)) q = absurd (not_filled r rs e q.1)
  to_row (inr p) q = past_value f p

  of_row : Either f → kinds.value 82 f ≡ broken 8 → (i : ℕ) × ((relay_records_value f old).filled.answer ≡ declined 8 i)
  unfolding relay_records_value option_bytes
  of_row (inl ([], e)) q = (0, ap (λ (xs : List ℕ). (relay_records_value xs old).filled.answer) e)
  of_row (inl (r ∷ rs, e)) q = absurd (other (sym (ap (kinds.value 82) e ∙ whole_value r rs) ∙ q))
    where
      other : part relay (length (option_bytes (r ∷ rs))) ≡ broken 8 → ⊥
      other z = clash (cc)
  of_row (inr p) q = (length (option_bytes p.before), ap (λ (x : RelayRead). x.filled.answer) (gives_past f old p.before p.rest p.reads p.runs_past))

pub relay_reads_the_row : RelayReadsTheRow
relay_reads_the_row f old = (to_row f old (some_end f), of_row f old (some_end f))
