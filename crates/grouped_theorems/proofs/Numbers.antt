-- Room enough for the calls on grouped sheets, and which numbers they give: GroupedRoomIsEnough and GroupedNumbers, proved. Assumes nothing.
use mathlib.Core.Path.{◌≡◌, refl, subst}
use mathlib.Core.List.{List, [], ◌∷◌}
use mathlib.Core.Logic.{◌⊎◌, inl, inr}
use Prim.Native.Nat.{ℕ, ◌+◌, ◌≤◌, ◌<◌}
use native.Mathlib.Omega.{arith}
use lib.ListN.{length}
use Rattle.options.specs.Refusals.{When, Before, by_part}
use Rattle.options.specs.Kinds.{kinds}
use Rattle.options.specs.KindClaims.{OneOf, AllBytes}
use Rattle.options.specs.Answers.{Given, declined, Filled, refused_with}
use Rattle.options.specs.SheetRefusals.{SheetRow, row_12, row_10, row_13, row_7, row_8_9}
use Rattle.options.specs.GroupedFile.{Group, Faulty, unfit, too_short, wrong_tag, fifth_depth, at, FileRow, row_16, when_no_group, faulty, behind, FirstOf, NoneOf, Plain}
use Rattle.options.specs.Grouped.{check, choice, move, go_back}
use Rattle.options.specs.GroupedClaims.{CorrectFillBy, CorrectFill, ChosenSheet, ChoiceRow, MoveRow, BackRow, row_22, GroupedRoomIsEnough, GroupedNumbers}
use Rattle.options.specs.GroupedClaims as claims
use Rattle.grouped_theorems.proofs.View.{item_length, group_length}
use Rattle.grouped_theorems.proofs.Rows.{check_is_correct}
use Rattle.grouped_theorems.proofs.Calls.{choice_is_correct, chosen_is_short, back_is_correct}
use Rattle.grouped_theorems.proofs.Moving.{move_is_correct}

-- a call that refuses does so by its first row
refused_by : (R : ℕ → ℕ → When → Type 0) (B : List ℕ → Type 0) (old : List ℕ) (w : Filled) (n p : ℕ) → CorrectFill R B old w → w.answer ≡ declined n p → FirstOf R n p
refused_by R B old w n p c e = (subst (λ (x : Given). CorrectFillBy R B old x w.buffer) e c).0

-- ---- the file's rows: their numbers, and their part in the order

of_item : {names : List (List ℕ)} {bs : List ℕ} {n rank : ℕ} → Faulty names bs n rank → OneOf n (10 ∷ 16 ∷ 20 ∷ 21 ∷ [])
of_item (unfit u) = inr (inr (inl refl))
of_item (too_short i s) = inr (inr (inl refl))
of_item (wrong_tag e t) = inl refl
of_item (fifth_depth i d) = inr (inr (inr (inl refl)))

of_file : {f : List ℕ} {n p : ℕ} {w : When} → FileRow f n p w → OneOf n (10 ∷ 16 ∷ 20 ∷ 21 ∷ []) × (w.part < 5)
of_file (row_16 l) = (inr (inl refl), omega arith)
of_file (when_no_group h) = (inr (inr (inl refl)), omega arith)
of_file (faulty x y) = (of_item y, omega arith)
of_file (behind i) = (inr (inr (inl refl)), omega arith)

not_11 : {n : ℕ} → OneOf n (10 ∷ 16 ∷ 20 ∷ 21 ∷ []) → n ≡ 11 → ⊥
not_11 (inl z) e = omega arith
not_11 (inr (inl z)) e = omega arith
not_11 (inr (inr (inl z))) e = omega arith
not_11 (inr (inr (inr (inl z)))) e = omega arith
not_11 (inr (inr (inr (inr x5)))) e = elim x5 [ ]

-- with 11 there
with_11 : {n : ℕ} → OneOf n (10 ∷ 16 ∷ 20 ∷ 21 ∷ []) → OneOf n (10 ∷ 11 ∷ 16 ∷ 20 ∷ 21 ∷ [])
with_11 (inl z) = inl z
with_11 (inr z) = inr (inr z)

-- and 22
with_22 : {n : ℕ} → OneOf n (10 ∷ 16 ∷ 20 ∷ 21 ∷ []) → OneOf n (10 ∷ 11 ∷ 16 ∷ 20 ∷ 21 ∷ 22 ∷ [])
with_22 (inl z) = inl z
with_22 (inr (inl z)) = inr (inr (inl z))
with_22 (inr (inr (inl z))) = inr (inr (inr (inl z)))
with_22 (inr (inr (inr (inl z)))) = inr (inr (inr (inr (inl z))))
with_22 (inr (inr (inr (inr x4)))) = elim x4 [ ]

-- ---- the choice

choice_number : {f class old : List ℕ} {n p : ℕ} {w : When} → ChoiceRow f class old n p w → OneOf n (10 ∷ 11 ∷ 16 ∷ 20 ∷ 21 ∷ [])
choice_number (claims.ChoiceRow.of_file r) = with_11 (of_file r).0
choice_number (claims.ChoiceRow.row_11 c l) = inr (inl refl)

choice_11 : {f class old : List ℕ} {n p : ℕ} {w : When} → ChoiceRow f class old n p w → n ≡ 11 → (w.part ≡ 5) × ((s : List ℕ) × ChosenSheet f class s × (length old < length s))
choice_11 (claims.ChoiceRow.of_file r) e = absurd (not_11 (of_file r).0 e)
choice_11 (claims.ChoiceRow.row_11 {s = s} c l) e = (refl, (s, c, l))

choice_room : (f class old : List ℕ) (p : ℕ) → AllBytes f → 4096 ≤ length old → (choice f class old).answer ≡ declined 11 p → ⊥
choice_room f class old p a l e =
    let r = refused_by (ChoiceRow f class old) (ChosenSheet f class) old (choice f class old) 11 p ((choice_is_correct f class old (choice f class old) a).0 refl) e in
    let x = choice_11 r.applies refl in
    let none : NoneOf (FileRow f) = λ n q w y. r.none_before n q w (claims.ChoiceRow.of_file y) (by_part (omega (arith, (of_file y).1, x.0))) in
    omega (arith, chosen_is_short f class x.1.0 a none x.1.1, x.1.2)

-- ---- the way back

back_number : {f old : List ℕ} {n p : ℕ} {w : When} → BackRow f old n p w → OneOf n (10 ∷ 11 ∷ 16 ∷ 20 ∷ 21 ∷ 22 ∷ [])
back_number (claims.BackRow.of_file r) = with_22 (of_file r).0
back_number (row_22 h) = inr (inr (inr (inr (inr (inl refl)))))
back_number (claims.BackRow.row_11 c l) = inr (inl refl)

back_11 : {f old : List ℕ} {n p : ℕ} {w : When} → BackRow f old n p w → n ≡ 11 → (w.part ≡ 5) × ((s : List ℕ) × Plain f s × (length old < length s))
back_11 (claims.BackRow.of_file r) e = absurd (not_11 (of_file r).0 e)
back_11 (row_22 h) e = absurd (omega arith)
back_11 (claims.BackRow.row_11 {s = s} c l) e = (refl, (s, c, l))

back_room : (f old : List ℕ) (p : ℕ) → AllBytes f → 4096 ≤ length old → (go_back f old).answer ≡ declined 11 p → ⊥
back_room f old p a l e =
    let r = refused_by (BackRow f old) (Plain f) old (go_back f old) 11 p ((back_is_correct f old (go_back f old) a).0 refl) e in
    let x = back_11 r.applies refl in
    let n : length f ≡ 4 + length x.1.0 = omega (arith, item_length x.1.1.nameless, group_length [] x.1.0) in
    let long : 4100 < length f = omega (arith, x.1.2) in
    r.none_before 16 (length f) (at 1 (length f) 0) (claims.BackRow.of_file (row_16 long)) (by_part (omega (arith, x.0)))

-- ---- the move

move_11 : {s old : List ℕ} {n p : ℕ} {w : When} → MoveRow s old n p w → n ≡ 11 → (w.part ≡ 5) × ((f : List ℕ) × Group f [] s [] × (length old < length f))
move_11 (claims.MoveRow.row_16 l) e = absurd (omega arith)
move_11 (claims.MoveRow.when_of_writer r k) e = absurd (none r k e)
  where
    none : {s : List ℕ} {n i q : ℕ} → SheetRow kinds s n i q → q ≤ 1 → n ≡ 11 → ⊥
    none (row_12 b x) l z = omega arith
    none (row_10 b x y) l z = omega arith
    none (row_13 b x) l z = omega arith
    none (row_7 b h c) l z = omega arith
    none (row_8_9 b x y) l z = omega arith
move_11 (claims.MoveRow.row_11 {f = f} g l) e = (refl, (f, g, l))

move_number_lem : {s old : List ℕ} {n p : ℕ} {w : When} → MoveRow s old n p w → OneOf n (10 ∷ 11 ∷ 12 ∷ 16 ∷ [])
move_number_lem (claims.MoveRow.row_16 l) = inr (inr (inr (inl refl)))
move_number_lem (claims.MoveRow.when_of_writer r k) = two r k
  where
    two : {s : List ℕ} {n i q : ℕ} → SheetRow kinds s n i q → q ≤ 1 → OneOf n (10 ∷ 11 ∷ 12 ∷ 16 ∷ [])
    two (row_12 b x) l = inr (inr (inl refl))
    two (row_10 b x y) l = inl refl
    two (row_13 b x) l = absurd (omega arith)
    two (row_7 b h c) l = absurd (omega arith)
    two (row_8_9 b x y) l = absurd (omega arith)
move_number_lem (claims.MoveRow.row_11 g l) = inr (inl refl)

move_room : (s old : List ℕ) (p : ℕ) → AllBytes s → 4100 ≤ length old → (move s old).answer ≡ declined 11 p → ⊥
move_room s old p a l e =
    let r = refused_by (MoveRow s old) (λ f. Group f [] s []) old (move s old) 11 p ((move_is_correct s old (move s old) a).0 refl) e in
    let x = move_11 r.applies refl in
    let n : length x.1.0 ≡ 4 + length s = omega (arith, item_length x.1.1, group_length [] s) in
    let long : 4096 < length s = omega (arith, x.1.2) in
    r.none_before 16 (length s) (at 1 (length s) 0) (claims.MoveRow.row_16 long) (by_part (omega (arith, x.0)))

pub grouped_room_is_enough : GroupedRoomIsEnough
grouped_room_is_enough = (choice_room, move_room, back_room)

pub grouped_numbers : GroupedNumbers
grouped_numbers = (
  (λ f n p a e. (of_file ((check_is_correct f (refused_with n p) a).0 e).applies).0),
  (λ f class old n p a e. choice_number (refused_by (ChoiceRow f class old) (ChosenSheet f class) old (choice f class old) n p ((choice_is_correct f class old (choice f class old) a).0 refl) e).applies),
  (λ s old n p a e. move_number_lem (refused_by (MoveRow s old) (λ f. Group f [] s []) old (move s old) n p ((move_is_correct s old (move s old) a).0 refl) e).applies),
  (λ f old n p a e. back_number (refused_by (BackRow f old) (Plain f) old (go_back f old) n p ((back_is_correct f old (go_back f old) a).0 refl) e).applies),
)
