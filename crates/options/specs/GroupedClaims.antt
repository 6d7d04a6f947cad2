-- WHAT THE CALLS ON GROUPED SHEETS MUST SATISFY (document 02, request 08). Proved in crate grouped_theorems. Assumes nothing.
-- The files and sheets are of bytes, as every one handed to the code is.
use Rattle.std.specs.Prelude.{◌≡◌, List, [], ◌∷◌, ◌++◌, Bool, true, false, ◌⊎◌, ◌↔◌, ℕ, ◌≤◌, ◌<◌, length, take, drop}
use Rattle.options.specs.Refusals.{When}
use Rattle.options.specs.Kinds.{Table, Proper, kinds}
use Rattle.options.specs.KindClaims.{OneOf, AllBytes}
use Rattle.options.specs.Answers.{Verdict, passed, refused_with, Given, given, declined, Filled, record_bytes, is_known, records}
use Rattle.options.specs.SheetRefusals.{SheetRow}
use Rattle.options.specs.Writing.{wrote, writer}
use Rattle.options.specs.WritingClaims.{RecordIn, ReadsTheSame, ReadsAsUnknown}
use Rattle.options.specs.GroupedFile.{Group, at, FileRow, FirstOf, NoneOf, Placed, Chosen, ChosenList, items_of, Plain}
use Rattle.options.specs.Grouped.{check, choice, move, go_back}

-- ---- [R0] The check: refused by the first row that applies, passed where none does

abbrev pub CorrectCheck : List ℕ → Verdict → Type 0
CorrectCheck f passed = NoneOf (FileRow f)
CorrectCheck f (refused_with n p) = FirstOf (FileRow f) n p

abbrev pub CheckIsCorrect : Type 0
CheckIsCorrect = (f : List ℕ) (v : Verdict) → AllBytes f → check f ≡ v ↔ CorrectCheck f v

-- ---- A call that fills a lent buffer `old`, with the rows R that concern it, and B saying which bytes it is to give

-- [R0, O8] "answers how many bytes it gave"; "bytes .. past what is given stay"; "Every refusal .. changes no byte lent to the call"
abbrev pub CorrectFillBy : (ℕ → ℕ → When → Type 0) → (List ℕ → Type 0) → List ℕ → Given → List ℕ → Type 0
CorrectFillBy R B old (given n) after = NoneOf R × ((xs : List ℕ) × B xs × (n ≡ length xs) × (after ≡ xs ++ drop (length xs) old))
CorrectFillBy R B old (declined n p) after = FirstOf R n p × (after ≡ old)

abbrev pub CorrectFill : (ℕ → ℕ → When → Type 0) → (List ℕ → Type 0) → List ℕ → Filled → Type 0
CorrectFill R B old w = CorrectFillBy R B old w.answer w.buffer

-- ---- [G4] "Choosing for a class gives a flat sheet"

pub record ChosenSheet (f class s : List ℕ) : Type 0 where
  pub chosen : List Placed
  pub all : ChosenList f class chosen
  pub is_sheet : s ≡ record_bytes (items_of chosen)

-- [G8, R11] the file's rows, then "11 last": the caller's buffer is too small for what is chosen
pub data ChoiceRow (f class old : List ℕ) : ℕ → ℕ → When → Type 0 where
  of_file : {n p : ℕ} {w : When} → FileRow f n p w → ChoiceRow f class old n p w
  row_11 : {s : List ℕ} → ChosenSheet f class s → length old < length s → ChoiceRow f class old 11 (length old) (at 5 (length old) 0)

abbrev pub ChoiceIsCorrect : Type 0
ChoiceIsCorrect =
    (f class old : List ℕ) (w : Filled) → AllBytes f → choice f class old ≡ w ↔ CorrectFill (ChoiceRow f class old) (ChosenSheet f class) old w

-- [W2] a sheet that is chosen from an accepted file has at most 4,096 bytes: the writer never refuses it by 16, and a room of DHCPOPT_LONGEST_SHEET is always enough
abbrev pub ChosenIsShort : Type 0
ChosenIsShort = (f class s : List ℕ) → AllBytes f → NoneOf (FileRow f) → ChosenSheet f class s → length s ≤ 4096

-- ---- [G5] "Old sheets move to a nameless outermost group"

-- [G9] "Moving an old sheet gives 16, then 12 and 10 as the writer does, then 11": of the writer's rows for a record those of the two lowest ranks, which are 12 and 10
pub data MoveRow (s old : List ℕ) : ℕ → ℕ → When → Type 0 where
  row_16 : 4096 < length s → MoveRow s old 16 (length s) (at 1 (length s) 0)
  when_of_writer : {n i rank : ℕ} → SheetRow kinds s n i rank → rank ≤ 1 → MoveRow s old n i (at 2 i rank)
  row_11 : {f : List ℕ} → Group f [] s [] → length old < length f → MoveRow s old 11 (length old) (at 5 (length old) 0)

abbrev pub MoveIsCorrect : Type 0
MoveIsCorrect = (s old : List ℕ) (w : Filled) → AllBytes s → move s old ≡ w ↔ CorrectFill (MoveRow s old) (λ f. Group f [] s []) old w

-- [G5] "The empty sheet becomes `00 00 01 00`"
abbrev pub EmptyMoves : Type 0
EmptyMoves = (old : List ℕ) → 4 ≤ length old → move [] old ≡ record { answer = given 4; buffer = 0 ∷ 0 ∷ 1 ∷ 0 ∷ drop 4 old }

-- ---- [G6] "a grouped file goes back only if it is one nameless group with no group inside"

-- [G8, R22] the file's rows, "22 at 0 for no way back; 11 last"
pub data BackRow (f old : List ℕ) : ℕ → ℕ → When → Type 0 where
  of_file : {n p : ℕ} {w : When} → FileRow f n p w → BackRow f old n p w
  row_22 : ((s : List ℕ) → Plain f s → ⊥) → BackRow f old 22 0 (at 4 0 0)
  row_11 : {s : List ℕ} → Plain f s → length old < length s → BackRow f old 11 (length old) (at 5 (length old) 0)

abbrev pub BackIsCorrect : Type 0
BackIsCorrect = (f old : List ℕ) (w : Filled) → AllBytes f → go_back f old ≡ w ↔ CorrectFill (BackRow f old) (Plain f) old w

-- ---- Room enough, and the numbers

-- "A room of DHCPOPT_LONGEST_SHEET is always enough", 4,096 bytes, for the choice and the way back, and for the move one of DHCPOPT_LONGEST_GROUPED, 4,100:
-- so include/dhcpopt.h promises. None is then refused by 11
abbrev pub GroupedRoomIsEnough : Type 0
GroupedRoomIsEnough =
    ((f class old : List ℕ) (p : ℕ) → AllBytes f → 4096 ≤ length old → (choice f class old).answer ≡ declined 11 p → ⊥)
    × ((s old : List ℕ) (p : ℕ) → AllBytes s → 4100 ≤ length old → (move s old).answer ≡ declined 11 p → ⊥)
    × ((f old : List ℕ) (p : ℕ) → AllBytes f → 4096 ≤ length old → (go_back f old).answer ≡ declined 11 p → ⊥)

-- "The calls on grouped sheets give 10, 11, 12, 16 and 20 to 22": so include/dhcpopt.h promises, call by call
abbrev pub GroupedNumbers : Type 0
GroupedNumbers =
    ((f : List ℕ) (n p : ℕ) → AllBytes f → check f ≡ refused_with n p → OneOf n (10 ∷ 16 ∷ 20 ∷ 21 ∷ []))
    × ((f class old : List ℕ) (n p : ℕ) → AllBytes f → (choice f class old).answer ≡ declined n p → OneOf n (10 ∷ 11 ∷ 16 ∷ 20 ∷ 21 ∷ []))
    × ((s old : List ℕ) (n p : ℕ) → AllBytes s → (move s old).answer ≡ declined n p → OneOf n (10 ∷ 11 ∷ 12 ∷ 16 ∷ []))
    × ((f old : List ℕ) (n p : ℕ) → AllBytes f → (go_back f old).answer ≡ declined n p → OneOf n (10 ∷ 11 ∷ 16 ∷ 20 ∷ 21 ∷ 22 ∷ []))

-- ---- There and back

-- [G5] "Old sheets move .. and, where that is accepted, come back byte for byte with room enough": the file is the n bytes that were given
abbrev pub MovedComesBack : Type 0
MovedComesBack =
    (s old old' after : List ℕ) (n : ℕ) → AllBytes s → move s old ≡ record { answer = given n; buffer = after } → length s ≤ length old'
    → go_back (take n after) old' ≡ record { answer = given (length s); buffer = s ++ drop (length s) old' }

-- [G4, G5] and from the file that it moved to every class has the whole sheet chosen, with room enough
abbrev pub MovedIsChosen : Type 0
MovedIsChosen =
    (s class old lent after : List ℕ) (n : ℕ) → AllBytes s → move s old ≡ record { answer = given n; buffer = after } → length s ≤ length lent
    → choice (take n after) class lent ≡ record { answer = given (length s); buffer = s ++ drop (length s) lent }

-- [G6] and a file that goes back, moved again with room enough, is the same file
abbrev pub BackMovesAgain : Type 0
BackMovesAgain =
    (f old old' after : List ℕ) (n : ℕ) → AllBytes f → go_back f old ≡ record { answer = given n; buffer = after } → length f ≤ length old'
    → move (take n after) old' ≡ record { answer = given (length f); buffer = f ++ drop (length f) old' }

-- [G6] an accepted file goes back exactly when it is plain, given room enough
abbrev pub GoesBackIff : Type 0
GoesBackIff =
    (f old : List ℕ) → AllBytes f → NoneOf (FileRow f) → length f ≤ length old
    → ((s : List ℕ) × Plain f s) ↔ ((n : ℕ) × (after : List ℕ) × (go_back f old ≡ record { answer = given n; buffer = after }))

-- ---- [G7] "Demands 2 and 3 are read of the chosen sheet, which the writer checks as usual"

-- the file f, with a class, has the record with tag c and data d chosen
pub record ChosenFor (f class : List ℕ) (c : ℕ) (d : List ℕ) : Type 0 where
  pub place : ℕ
  pub chosen : Chosen f class (record { place = place; item = record { tag = c; body = d } })

abbrev pub NoneChosen : List ℕ → List ℕ → ℕ → Type 0
NoneChosen f class c = (d : List ℕ) → ChosenFor f class c d → ⊥

-- [X5] "the same when neither .. has one, or both do with equal data", of two files, each with a class
abbrev pub SameChosen : ℕ → List ℕ → List ℕ → List ℕ → List ℕ → Type 0
SameChosen c f class f' class' =
    (NoneChosen f class c × NoneChosen f' class' c) ⊎ ((d : List ℕ) × ChosenFor f class c d × ChosenFor f' class' c d)

-- [X4] the records of the chosen sheet are those chosen
abbrev pub RecordsAreChosen : Type 0
RecordsAreChosen =
    (f class s : List ℕ) (c : ℕ) (d : List ℕ) → ChosenSheet f class s → RecordIn c d s ↔ ChosenFor f class c d

-- [D2] demand 2: chosen, written, and taken back with room enough, it is the chosen sheet byte for byte
abbrev pub ChosenComesBack : Type 0
ChosenComesBack =
    (t : Table) (f class lent after m : List ℕ) (n permission plan : ℕ) (w old : List ℕ) → AllBytes f
    → choice f class lent ≡ record { answer = given n; buffer = after } → writer t (take n after) m permission ≡ wrote plan w → n ≤ length old
    → ChosenSheet f class (take n after) × (records w old ≡ record { answer = given n; buffer = take n after ++ drop n old })

-- [D3] demand 3: of two files, each with a class, whose chosen records for the known codes are the same
abbrev pub ChosenDemand3 : Type 0
ChosenDemand3 =
    (t : Table) → Proper t → (set : ℕ → Bool) (f f' class class' s s' m m' : List ℕ) (permission permission' plan plan' : ℕ) (w w' : List ℕ) → AllBytes f → AllBytes f'
    → ChosenSheet f class s → ChosenSheet f' class' s'
    → writer t s m permission ≡ wrote plan w → writer t s' m' permission' ≡ wrote plan' w'
    → ((c : ℕ) → is_known t set c ≡ true → SameChosen c f class f' class')
    → (c : ℕ) → 1 ≤ c → c ≤ 254 → (c ≡ 52 → ⊥)
    → (is_known t set c ≡ true → ReadsTheSame t set c s s' w w') × (is_known t set c ≡ false → ReadsAsUnknown t set c s w × ReadsAsUnknown t set c s' w')
