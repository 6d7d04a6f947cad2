-- Request 12 of the writer: NoRoomMeansNoRoom, ElevenIsNoRoom and PlanIsLowest, proved. Assumes nothing.
use mathlib.Core.Path.{◌≡◌, refl, sym, ap, ◌∙◌, subst}
use mathlib.Core.List.{List, [], ◌∷◌}
use mathlib.Core.Logic.{◌⊎◌, inl, inr}
use Prim.Native.Nat.{ℕ, ◌-◌, ◌<◌}
use native.Mathlib.Omega.{arith}
use native.Mathlib.Decide.{dec_lt}
use lib.ListN.{length}
use Rattle.options.specs.Message.{Rec}
use Rattle.options.specs.Refusals.{When, Before, by_part, by_offset, by_number}
use Rattle.options.specs.Kinds.{Table, kinds}
use Rattle.options.specs.KindClaims.{AllBytes}
use Rattle.options.specs.SheetRefusals.{SheetRow, row_12, row_10, row_13, row_7, row_8_9, row_14, row_23}
use Rattle.options.specs.Writing.{Wrote, wrote, declined, writer}
use Rattle.options.specs.WriterClaims.{SheetPieces, Permitted, step, WriteRow, write_1, write_2, write_15, write_16, write_record, write_order, write_11, FirstWriteRow, Holding, Cutting, EarlierPassed, NoCutting, NoRoomMeansNoRoom, ElevenIsNoRoom, LowestCutting, PlanIsLowest}
use Rattle.theorems.proofs.KindRules.{broken_8_or_9}
use Rattle.writing_theorems.proofs.Cuttings.{cut_of, cut_held}
use Rattle.writing_theorems.proofs.Writer.{writer_writes, same_pieces}
use Rattle.writing_theorems.proofs.Declined.{writer_correct, declined_iff}

-- ---- The rows

-- a row that does not come before 11 is that of 11
at_seven : {t : Table} {s m : List ℕ} {permission n p : ℕ} {x : When} → WriteRow t s m permission n p x → (x.part < 7 → ⊥) → (n ≡ 11) × (p ≡ length m) × NoCutting s m permission
at_seven (write_1 h) z = absurd (z (omega arith))
at_seven (write_2 h) z = absurd (z (omega arith))
at_seven (write_15 h) z = absurd (z (omega arith))
at_seven (write_16 h) z = absurd (z (omega arith))
at_seven (write_record h) z = absurd (z (omega arith))
at_seven (write_order h) z = absurd (z (omega arith))
at_seven {m = m} (write_11 x h) z = (refl, refl, record { of_sheet = x; none = λ p a c. h p a (cut_held p (length m - 240) x.pieces c) })

module _ (t : Table) (s m : List ℕ) (permission : ℕ) where
  row_11 : NoCutting s m permission → WriteRow t s m permission 11 (length m) (step 7)
  row_11 c = write_11 c.of_sheet (λ p a h. c.none p a (cut_of p (length m - 240) c.of_sheet.pieces h))

  first_11 : EarlierPassed t s m permission → NoCutting s m permission → FirstWriteRow t s m permission 11 (length m)
  first_11 early c = record { when = step 7; applies = row_11 c; none_before = λ x b. none x b }
    where
      none : {n p : ℕ} {x : When} → WriteRow t s m permission n p x → Before x (step 7) → ⊥
      none {n} {p} {x} y (by_part l) = early n p x y l
      none y (by_offset z l) = omega arith
      none y (by_number z d l) = omega arith

  -- a refusal, all earlier checks passed
  late : EarlierPassed t s m permission → {n p : ℕ} → FirstWriteRow t s m permission n p → (n ≡ 11) × (p ≡ length m) × NoCutting s m permission
  late early {n} {p} f = at_seven f.applies (early n p f.when f.applies)

pub no_room_means_no_room : NoRoomMeansNoRoom
no_room_means_no_room t s m permission all early = (
  (λ e. (late t s m permission early ((declined_iff t s m permission 11 (length m) all).0 e)).2),
  (λ c. (declined_iff t s m permission 11 (length m) all).1 (first_11 t s m permission early c)),
)

-- ---- 11 of the kinds

-- no record is refused with 11
not_eleven : {s : List ℕ} {n i q : ℕ} → SheetRow kinds s n i q → n ≡ 11 → ⊥
not_eleven (row_12 b x) e = omega arith
not_eleven (row_10 b x y) e = omega arith
not_eleven (row_13 b x) e = omega arith
not_eleven (row_7 b l c) e = omega arith
not_eleven (row_8_9 {c = c} {n = n} {d = d} b x y) e = go (broken_8_or_9 c d n y)
  where
    go : (n ≡ 8) ⊎ (n ≡ 9) → ⊥
    go (inl z) = omega arith
    go (inr z) = omega arith

eleven_seven : {s m : List ℕ} {permission n p : ℕ} {x : When} → WriteRow kinds s m permission n p x → n ≡ 11 → x.part ≡ 7
eleven_seven (write_1 h) e = absurd (omega arith)
eleven_seven (write_2 h) e = absurd (omega arith)
eleven_seven (write_15 h) e = absurd (omega arith)
eleven_seven (write_16 h) e = absurd (omega arith)
eleven_seven (write_record h) e = absurd (not_eleven h e)
eleven_seven (write_order (row_14 a b c)) e = absurd (omega arith)
eleven_seven (write_order (row_23 a b c)) e = absurd (omega arith)
eleven_seven (write_11 x h) e = refl

pub eleven_is_no_room : ElevenIsNoRoom
eleven_is_no_room s m permission place all = (to, λ x. subst (λ (p : ℕ). writer kinds s m permission ≡ declined 11 p) (sym x.0) ((no_room_means_no_room kinds s m permission all x.1).1 x.2))
  where
    to : writer kinds s m permission ≡ declined 11 place → (place ≡ length m) × EarlierPassed kinds s m permission × NoCutting s m permission
    to e =
        let f : FirstWriteRow kinds s m permission 11 place = (declined_iff kinds s m permission 11 place all).0 e in
        let q = eleven_seven f.applies refl in
        let g = at_seven f.applies (λ l. omega (arith, q)) in
        (g.1, (λ n p x r l. f.none_before r (by_part (omega (arith, q)))), g.2)

-- ---- The plan used

lowest_of_lem : (t : Table) (s m : List ℕ) (permission plan : ℕ) (w : List ℕ) → AllBytes s → writer t s m permission ≡ wrote plan w → LowestCutting s m permission plan
lowest_of_lem t s m permission plan w all e =
    let x = writer_writes t s m permission plan w all e in
    record {
      of_sheet = x.of_sheet;
      permitted = x.permitted;
      cutting = cut_of plan (length m - 240) x.of_sheet.pieces x.written_as.holding;
      none_lower = λ q a l c. x.none_lower q a l (cut_held q (length m - 240) x.of_sheet.pieces c);
    }

module _ (s m : List ℕ) (permission : ℕ) where
  -- a cutting of the one list of pieces is one of the other
  turned : (x y : SheetPieces s) (q : ℕ) → Cutting q (length m - 240) x.pieces → Cutting q (length m - 240) y.pieces
  turned x y q c = subst (Cutting q (length m - 240)) (same_pieces s x y) c

  -- there is one lowest
  one_lowest : (p q : ℕ) → LowestCutting s m permission p → LowestCutting s m permission q → p ≡ q
  one_lowest p q a b = by (dec_lt p q) (dec_lt q p)
    where
      by : Dec (p < q) → Dec (q < p) → p ≡ q
      by (yes l) z = absurd (b.none_lower p a.permitted l (turned a.of_sheet b.of_sheet p a.cutting))
      by (no l) (yes h) = absurd (a.none_lower q b.permitted h (turned b.of_sheet a.of_sheet q b.cutting))
      by (no l) (no h) = omega arith

  cut_somehow : (p : ℕ) → LowestCutting s m permission p → NoCutting s m permission → ⊥
  cut_somehow p a n = n.none p a.permitted (turned a.of_sheet n.of_sheet p a.cutting)

pub plan_is_lowest : PlanIsLowest
plan_is_lowest t s m permission plan all = (to, λ x. from (writer t s m permission) refl x.0 x.1)
  where
    to : (w : List ℕ) × (writer t s m permission ≡ wrote plan w) → EarlierPassed t s m permission × LowestCutting s m permission plan
    to x = ((λ n p y r l. (writer_correct t s m permission (wrote plan x.0) all x.1).0 n p y r), lowest_of_lem t s m permission plan x.0 all x.1)

    from : (x : Wrote) → writer t s m permission ≡ x → EarlierPassed t s m permission → LowestCutting s m permission plan → (w : List ℕ) × (writer t s m permission ≡ wrote plan w)
    from (wrote p w) e early low = (w, e ∙ ap (λ (q : ℕ). wrote q w) (one_lowest s m permission p plan (lowest_of_lem t s m permission p w all e) low))
    from (declined n p) e early low = absurd (cut_somehow s m permission plan low (late t s m permission early ((declined_iff t s m permission n p all).0 e)).2)
