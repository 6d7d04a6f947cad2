-- The row of 82: no fault is found exactly where sub-options fill the data. Assumes nothing.
use mathlib.Core.Path.{◌≡◌, refl, sym, ap, ap₂, ◌∙◌, subst}
use mathlib.Core.Bool.{Bool, true, false, cond}
use mathlib.Core.List.{List, [], ◌∷◌, ◌++◌}
use mathlib.Core.Logic.{◌⊎◌, inl, inr}
use Prim.Native.Nat.{ℕ, zero, suc, ◌+◌, ◌-◌, ◌≤◌, ◌<◌}
use native.Mathlib.Omega.{arith}
use lib.ListN.{length, get_or, take, drop, length-append, length-drop, take-append-drop}
use lib.Seq.{take_at, drop_at, length-take-le}
use lib.Dec.{ltb}
use borrow.Author.Tests.{lt-ltb, le-ltb, ltb-true, ltb-false}
use Rattle.options.specs.Message.{Rec}
use Rattle.options.specs.Reading.{Parse, ended, ran_out_value, beyond, found, cut, record_of}
use Rattle.options.specs.SubOptions.{sub_options, fill_fault}
use Rattle.options.specs.Writing.{option_bytes}
use Rattle.options.specs.KindClaims.{SubOptionsAre, no_more, one_more}

-- bytes that belong to the sub-option before are passed over
pub skipped : (at k : ℕ) (xs : List ℕ) → k ≤ length xs → sub_options at k xs ≡ sub_options (at + k) 0 (drop k xs)
unfolding sub_options
skipped at zero xs h = ap (λ (i : ℕ). sub_options i 0 xs) (omega arith)
skipped at (suc k) [] h = absurd (omega arith)
skipped at (suc k) (x ∷ xs) h = skipped (at + 1) k xs (omega arith) ∙ ap (λ (i : ℕ). sub_options i 0 (drop k xs)) (omega arith)

-- a sub-option that stands
pub stands : (at c : ℕ) (d rest : List ℕ) → sub_options at 0 (c ∷ length d ∷ (d ++ rest)) ≡ found at (record { tag = c; body = d }) (sub_options (at + (2 + length d)) 0 rest)
unfolding sub_options
stands at c d rest =
    let l : ltb (length (d ++ rest)) (length d) ≡ false = le-ltb (length (d ++ rest)) (length d) (omega (arith, length-append d rest)) in
    let z : at + 1 + 1 + length d ≡ at + (2 + length d) = omega arith in
    let s : sub_options (at + 1 + 1) (length d) (d ++ rest) ≡ sub_options (at + (2 + length d)) 0 rest =
    skipped (at + 1 + 1) (length d) (d ++ rest) (omega (arith, length-append d rest)) ∙ ap₂ (λ (i : ℕ) (xs : List ℕ). sub_options i 0 xs) z (drop_at d rest (length d) refl) in
    rw (l, take_at d rest (length d) refl, s)

-- the same, by the bytes
pub stands_in : (at b n : ℕ) (ds : List ℕ) → n ≤ length ds → sub_options at 0 (b ∷ n ∷ ds) ≡ found at (record { tag = b; body = take n ds }) (sub_options (at + (2 + n)) 0 (drop n ds))
unfolding sub_options
stands_in at b n ds h =
    let z : at + 1 + 1 + n ≡ at + (2 + n) = omega arith in
    let s : sub_options (at + 1 + 1) n ds ≡ sub_options (at + (2 + n)) 0 (drop n ds) = skipped (at + 1 + 1) n ds h ∙ ap (λ (i : ℕ). sub_options i 0 (drop n ds)) z in
    rw (le-ltb (length ds) n h, s)

-- one that runs past
pub past_head : (at b : ℕ) → sub_options at 0 (b ∷ []) ≡ beyond at
unfolding sub_options
past_head at b = refl

pub past_data : (at b n : ℕ) (ds : List ℕ) → length ds < n → sub_options at 0 (b ∷ n ∷ ds) ≡ beyond at
unfolding sub_options
past_data at b n ds h = rw (lt-ltb (length ds) n h)

-- ---- Filled exactly

pub filled_right : (at : ℕ) (rs : List Rec) → fill_fault (sub_options at 0 (option_bytes rs)) ≡ 0
unfolding sub_options fill_fault option_bytes
filled_right at [] = refl
filled_right at (r ∷ rs) = ap fill_fault (stands at r.tag r.body (option_bytes rs)) ∙ filled_right (at + (2 + length r.body)) rs

abbrev Filled : List ℕ → Type 0
Filled d = (rs : List Rec) × (d ≡ option_bytes rs)

-- one sub-option, and what is behind it
one_filled : (at : ℕ) (d : List ℕ) → ((i : ℕ) (e : List ℕ) → length e < length d → fill_fault (sub_options i 0 e) ≡ 0 → Filled e) → fill_fault (sub_options at 0 d) ≡ 0 → Filled d
unfolding fill_fault option_bytes
one_filled at [] ih e = ([], refl)
one_filled at (b ∷ []) ih e = absurd (let z : ◌≡◌ {A = ℕ} 8 0 = ap fill_fault (sym (past_head at b)) ∙ e in omega (arith, z))
one_filled at (b ∷ n ∷ ds) ih e = go (ltb (length ds) n) refl
  where
    go : (x : Bool) → ltb (length ds) n ≡ x → Filled (b ∷ n ∷ ds)
    go true q = absurd (let z : ◌≡◌ {A = ℕ} 8 0 = ap fill_fault (sym (past_data at b n ds (ltb-true (length ds) n q))) ∙ e in omega (arith, z))
    go false q =
        let l : n ≤ length ds = ltb-false (length ds) n q in
        let f = ih (at + (2 + n)) (drop n ds) (omega (arith, length-drop n ds)) (ap fill_fault (sym (stands_in at b n ds l)) ∙ e) in
        let k : n ≡ length (take n ds) = sym (length-take-le n ds l) in
        (record { tag = b; body = take n ds } ∷ f.0, ap₂ (λ (i : ℕ) (xs : List ℕ). b ∷ i ∷ xs) k (sym (take-append-drop n ds) ∙ ap (λ (xs : List ℕ). take n ds ++ xs) f.1))

right_filled : (most at : ℕ) (d : List ℕ) → length d ≤ most → fill_fault (sub_options at 0 d) ≡ 0 → Filled d
right_filled zero at d h e = one_filled at d (λ i x l y. absurd (omega (arith, l, h))) e
right_filled (suc most) at d h e = one_filled at d (λ i x l y. right_filled most i x (omega (arith, l, h)) y) e

-- ---- The relation is the bytes of the list

pub are : (rs : List Rec) → SubOptionsAre rs (option_bytes rs)
unfolding option_bytes
are [] = no_more
are (r ∷ rs) = one_more (are rs)

pub the_bytes : {rs : List Rec} {d : List ℕ} → SubOptionsAre rs d → d ≡ option_bytes rs
unfolding option_bytes
the_bytes no_more = refl
the_bytes (one_more {c = c} {d = d} h) = ap (λ (x : List ℕ). c ∷ length d ∷ (d ++ x)) (the_bytes h)

pub fault_none : (d : List ℕ) → fill_fault (sub_options 0 0 d) ≡ 0 → (rs : List Rec) × SubOptionsAre rs d
fault_none d e =
    let f = right_filled (length d) 0 d (omega arith) e in
    (f.0, subst (SubOptionsAre f.0) (sym f.1) (are f.0))

pub none_fault : (d : List ℕ) (rs : List Rec) → SubOptionsAre rs d → fill_fault (sub_options 0 0 d) ≡ 0
none_fault d rs h = ap (λ (xs : List ℕ). fill_fault (sub_options 0 0 xs)) (the_bytes h) ∙ filled_right 0 rs

-- no other fault is given
pub eight_or_none : (p : Parse) → (fill_fault p ≡ 0) ⊎ (fill_fault p ≡ 8)
unfolding fill_fault
eight_or_none ended = inl refl
eight_or_none (ran_out_value i) = inl refl
eight_or_none (beyond i) = inr refl
eight_or_none (found i x rest) = eight_or_none rest
