-- The move of an old sheet into a nameless outermost group. Assumes nothing.
use mathlib.Core.Path.{◌≡◌, refl, sym, ap, ap₂, ◌∙◌, subst}
use mathlib.Core.List.{List, [], ◌∷◌, ◌++◌, append-nil}
use mathlib.Core.Bool.{Bool, true, false, cond}
use mathlib.Core.Logic.{◌⊎◌, inl, inr, ⊎_elim}
use Prim.Native.Nat.{ℕ, suc, ◌/◌, ◌%◌, ◌≤◌, ◌<◌}
use native.Mathlib.Omega.{arith}
use lib.ListN.{length}
use lib.Dec.{ltb, eqb}
use borrow.Author.Tests.{ltb-true, ltb-false, le-ltb}
use Rattle.options.specs.Kinds.{kinds}
use Rattle.options.specs.KindClaims.{AllBytes}
use Rattle.options.specs.Refusals.{When, Before, by_part, by_offset, by_number}
use Rattle.options.specs.Answers.{unfilled}
use Rattle.options.specs.Sheet.{RecordAt}
use Rattle.options.specs.SheetRefusals.{RecordBeyond, SheetRow, row_12, row_10, row_13, row_7, row_8_9}
use Rattle.options.specs.SheetWalk.{records_from, Sheet, sound, faulty, ruled}
use Rattle.options.specs.RuleClaims.{nth_first, nth_next, RuleRow, cut_row, rule_row, CorrectSheet}
use Rattle.options.specs.GroupedFile.{group_data, Group, at, FirstOf}
use Rattle.options.specs.Grouped.{filled_if, move_rules, verdict_on, in_group, move}
use Rattle.options.specs.GroupedClaims.{CorrectFill, MoveRow, row_16, when_of_writer, MoveIsCorrect, EmptyMoves}
use Rattle.options.specs.GroupedClaims as claims
use Rattle.writing_theorems.proofs.SheetView.{nothing, whole_or_cut}
use Rattle.writing_theorems.proofs.Ruled.{nth_some, ruled_correct}
use Rattle.writing_theorems.proofs.SheetRows.{reached_begins, reaches, bad_tag, tag_bad}
use Rattle.grouped_theorems.proofs.View.{item_bytes_lem}
use Rattle.grouped_theorems.proofs.Calls.{fill_only, filled_says}

-- ---- The two rules of a move, and the writer's rows of the two lowest ranks

to_row : {s : List ℕ} {n i rank : ℕ} → RuleRow move_rules s n i rank → SheetRow kinds s n i rank × (rank ≤ 1)
to_row (cut_row r x) = (row_12 (reached_begins r) x, omega arith)
to_row (rule_row {c = c} r o nth_first b) = (row_10 (reached_begins r) o.reads (bad_tag c b), omega arith)
to_row (rule_row r o (nth_next n) b) = absurd (nth_some n refl)

-- at the place of a row a rule is broken, of no higher rank: of a cut record 12 comes before its tag's 10
record Broken (s : List ℕ) (i q : ℕ) : Type 0 where
  number : ℕ
  rank : ℕ
  row : RuleRow move_rules s number i rank
  no_higher : rank ≤ q

of_row : {s : List ℕ} {n i rank : ℕ} → AllBytes s → SheetRow kinds s n i rank → rank ≤ 1 → Broken s i rank
of_row all (row_12 b x) l = record { number = 12; rank = 0; row = cut_row (reaches b).reached x; no_higher = omega arith }
of_row {s} all (row_10 {i = i} {c = c} {r = r} b e t) l = go (whole_or_cut s i c r all e)
  where
    go : RecordBeyond s i ⊎ ((d : List ℕ) × RecordAt s i c d) → Broken s i 1
    go (inl x) = record { number = 12; rank = 0; row = cut_row (reaches b).reached x; no_higher = omega arith }
    go (inr x) = record { number = 10; rank = 1; row = rule_row (reaches b).reached x.1 nth_first (tag_bad c t); no_higher = omega arith }
of_row all (row_13 b l) m = absurd (omega arith)
of_row all (row_7 b l c) m = absurd (omega arith)
of_row all (row_8_9 b l c) m = absurd (omega arith)

-- ---- The call

move_number : When → ℕ
move_number w = cond (eqb w.part 1) 16 (cond (eqb w.part 2) (cond (eqb w.number 0) 12 10) 11)

writer_number : {s : List ℕ} {n i rank : ℕ} → SheetRow kinds s n i rank → rank ≤ 1 → n ≡ cond (eqb rank 0) 12 10
writer_number (row_12 b x) l = refl
writer_number (row_10 b e t) l = refl
writer_number (row_13 b l) m = absurd (omega arith)
writer_number (row_7 b l c) m = absurd (omega arith)
writer_number (row_8_9 b l c) m = absurd (omega arith)

move_number_lem : {s old : List ℕ} {n p : ℕ} {w : When} → MoveRow s old n p w → (n ≡ move_number w) × (p ≡ w.offset)
unfolding move_number
move_number_lem (row_16 h) = (refl, refl)
move_number_lem (when_of_writer x l) = (writer_number x l, refl)
move_number_lem (claims.MoveRow.row_11 g l) = (refl, refl)

move_same : {s old : List ℕ} (n p k q : ℕ) (w : When) → MoveRow s old n p w → MoveRow s old k q w → (n ≡ k) × (p ≡ q)
move_same n p k q w x y = let a = move_number_lem x in let b = move_number_lem y in (a.0 ∙ sym b.0, a.1 ∙ sym b.1)

-- a sheet stands in one nameless group
pub one_group : (s xs ys : List ℕ) → Group xs [] s [] → Group ys [] s [] → xs ≡ ys
one_group s xs ys a b =
    let x = a.whole in
    let y = b.whole in
    let h : x.high ≡ y.high = omega (arith, x.size, y.size, x.low_byte, y.low_byte) in
    let l : x.low ≡ y.low = omega (arith, x.size, y.size, x.low_byte, y.low_byte) in
    item_bytes_lem a ∙ ap₂ (λ (i j : ℕ). 0 ∷ i ∷ j ∷ (group_data [] s ++ [])) h l ∙ sym (item_bytes_lem b)

pub in_group_is : (s : List ℕ) → length s ≤ 4096 → Group (in_group s) [] s []
in_group_is s l =
    record {
      whole = record {
        high = suc (length s) / 256;
        low = suc (length s) % 256;
        after = [];
        reads = ap (λ (r : List ℕ). 0 ∷ suc (length s) / 256 ∷ suc (length s) % 256 ∷ 0 ∷ r) (sym (append-nil s));
        high_byte = omega arith;
        low_byte = omega arith;
        size = omega arith;
      };
      behind = refl;
    }

module _ (s old : List ℕ) (all : AllBytes s) where
  over_says : 4096 < length s → FirstOf (MoveRow s old) 16 (length s)
  over_says l = record { when = at 1 (length s) 0; applies = row_16 l; none_before = none_before }
    where
      part_1 : (k q : ℕ) (w : When) → MoveRow s old k q w → w.part ≤ 1 → (w.offset ≡ length s) × (w.number ≡ 0) × (w.part ≡ 1)
      part_1 k q w (row_16 h) e = (refl, refl, refl)
      part_1 k q w (when_of_writer x m) e = absurd (omega arith)
      part_1 k q w (claims.MoveRow.row_11 g m) e = absurd (omega arith)

      none_before : (k q : ℕ) (w : When) → MoveRow s old k q w → Before w (at 1 (length s) 0) → ⊥
      none_before k q w x (by_part m) = omega (arith, (part_1 k q w x (omega arith)).2)
      none_before k q w x (by_offset e m) = omega (arith, (part_1 k q w x (omega arith)).0)
      none_before k q w x (by_number e d m) = omega arith

  module _ (l : length s ≤ 4096) where
    at_least_2 : (k q : ℕ) (w : When) → MoveRow s old k q w → 2 ≤ w.part
    at_least_2 k q w (row_16 h) = absurd (omega arith)
    at_least_2 k q w (when_of_writer x m) = omega arith
    at_least_2 k q w (claims.MoveRow.row_11 g m) = omega arith

    -- a row of a record, as a broken rule
    broken : {k q : ℕ} {w : When} → MoveRow s old k q w → w.part ≡ 2 → Broken s w.offset w.number
    broken (row_16 h) e = absurd (omega arith)
    broken (when_of_writer x m) e = of_row all x m
    broken (claims.MoveRow.row_11 g m) e = absurd (omega arith)

    sheet_says : (x : Sheet) → CorrectSheet move_rules s x → CorrectFill (MoveRow s old) (λ f. Group f [] s []) old (filled_if (verdict_on x) (in_group s) old)
    sheet_says (sound rs) c =
        filled_says (MoveRow s old) (λ f. Group f [] s []) old (in_group s) (in_group_is s l) (λ ys b. one_group s ys (in_group s) b (in_group_is s l)) (λ x b m. claims.MoveRow.row_11 b m) only
      where
        only : (n p : ℕ) (w : When) → MoveRow s old n p w → (w ≡ at 5 (length old) 0) × ((f : List ℕ) × Group f [] s [] × (length old < length f))
        only n p w (row_16 h) = absurd (omega arith)
        only n p w (when_of_writer {i = i} x m) = let b = of_row all x m in absurd (c.1 b.number i b.rank b.row)
        only n p w (claims.MoveRow.row_11 {f = f} b m) = (refl, (f, b, m))
    sheet_says (faulty n p) c = (record { when = at 2 p c.rank; applies = when_of_writer (to_row c.applies).0 (to_row c.applies).1; none_before = none_before }, refl)
      where
        least : {k q : ℕ} {w : When} → MoveRow s old k q w → w.part ≡ 2 → (p < w.offset) ⊎ ((p ≡ w.offset) × (c.rank ≤ w.number))
        least {k} {q} {w} x e =
            let b = broken x e in
            ⊎_elim (λ (z : p < w.offset). inl z) (λ (z : (p ≡ w.offset) × (c.rank ≤ b.rank)). inr (z.0, omega (arith, z.1, b.no_higher))) (c.none_before b.row)

        none_before : (k q : ℕ) (w : When) → MoveRow s old k q w → Before w (at 2 p c.rank) → ⊥
        none_before k q w x (by_part m) = omega (arith, at_least_2 k q w x)
        none_before k q w x (by_offset e m) = ⊎_elim (λ (z : p < w.offset). omega arith) (λ (z : (p ≡ w.offset) × (c.rank ≤ w.number)). omega (arith, z.0)) (least x e)
        none_before k q w x (by_number e d m) = ⊎_elim (λ (z : p < w.offset). omega arith) (λ (z : (p ≡ w.offset) × (c.rank ≤ w.number)). omega (arith, z.1)) (least x e)

move_says : (s old : List ℕ) → AllBytes s → CorrectFill (MoveRow s old) (λ f. Group f [] s []) old (move s old)
unfolding move
move_says s old a = go (ltb 4096 (length s)) refl
  where
    go : (t : Bool) → ltb 4096 (length s) ≡ t
        → CorrectFill (MoveRow s old) (λ f. Group f [] s []) old (cond t (unfilled 16 (length s) old) (filled_if (verdict_on (ruled move_rules [] (records_from 0 0 s))) (in_group s) old))
    go true e = (over_says s old a (ltb-true 4096 (length s) e), refl)
    go false e = sheet_says s old a (ltb-false 4096 (length s) e) (ruled move_rules [] (records_from 0 0 s)) (ruled_correct move_rules s a)

pub move_is_correct : MoveIsCorrect
move_is_correct s old w a = (
  λ e. subst (CorrectFill (MoveRow s old) (λ f. Group f [] s []) old) e (move_says s old a),
  λ c. fill_only (MoveRow s old) (λ f. Group f [] s []) old move_same (one_group s) (move s old) w (move_says s old a) c,
)

pub empty_moves : EmptyMoves
unfolding move records_from ruled
empty_moves old l = rw (le-ltb (length old) 4 l)
