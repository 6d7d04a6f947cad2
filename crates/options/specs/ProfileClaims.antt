-- WHAT THE REPLY PROFILE MUST SATISFY, in the words of request 13. Proved in crate profile_theorems. Assumes nothing.
use Rattle.std.specs.Prelude.{◌≡◌, List, [], ◌∷◌, true, ◌⊎◌, ◌↔◌, ℕ, ◌<◌, pos}
use Rattle.options.specs.Message.{Opt, Standing, Earlier, Holds, PiecesOf, In, Precedes, end_to_end}
use Rattle.options.specs.Reading.{items}
use Rattle.options.specs.Refusals.{First}
use Rattle.options.specs.Kinds.{Kind, Value, broken, number, kinds}
use Rattle.options.specs.KindClaims.{OneOf, BitSet}
use Rattle.options.specs.ReadingClaims.{IsAccepted}
use Rattle.options.specs.Profile.{Profile, trusted, distrusted, declined, profile}

-- ---- The rules, of a message

-- [P2] "present and well-formed", every code known: it has pieces and a row, and its joined bytes have the value v, which is not broken
pub record WellFormed (m : List ℕ) (c : ℕ) (v : Value) : Type 0 where
  pub first : Opt
  pub others : List Opt
  pub are_pieces : PiecesOf m c (first ∷ others)
  pub has_row : kinds.row c ≡ true
  pub value_is : kinds.value c (end_to_end (first ∷ others)) ≡ v
  pub not_broken : (n : ℕ) → v ≡ broken n → ⊥

-- "51 and 54 present and well-formed" fails of c: absent or broken
abbrev pub IllFormed : List ℕ → ℕ → Type 0
IllFormed m c = (v : Value) → WellFormed m c v → ⊥

-- the first piece of the code c
pub record FirstPiece (m : List ℕ) (c : ℕ) (o : Opt) : Type 0 where
  pub standing : Standing m o
  pub with_code : c ≡ o.item.tag
  pub none_earlier : (q : Opt) → Standing m q → c ≡ q.item.tag → Earlier q o → ⊥

-- both codes are there, and the first piece of a is read before that of b
pub record ReadBefore (m : List ℕ) (a b : ℕ) : Type 0 where
  pub one : Opt
  pub other : Opt
  pub is_first : FirstPiece m a one
  pub other_first : FirstPiece m b other
  pub earlier : Earlier one other

-- [P2, P3, P4] `Breaks m i`: the rule of bit i is broken. "51 and 54 present and well-formed; 50, 55 and 57 absent. Ours: 1 and 3 present and well-formed;
-- where both are there, the first piece of 1 read before that of 3"; "bits 0 to 7 being 51, 54, 50, 55, 57, 1, 3 and that last order"
pub data Breaks (m : List ℕ) : ℕ → Type 0 where
  of_51 : IllFormed m 51 → Breaks m 0
  of_54 : IllFormed m 54 → Breaks m 1
  of_50 : Holds m 50 → Breaks m 2
  of_55 : Holds m 55 → Breaks m 3
  of_57 : Holds m 57 → Breaks m 4
  of_1 : IllFormed m 1 → Breaks m 5
  of_3 : IllFormed m 3 → Breaks m 6
  of_order : ReadBefore m 3 1 → Breaks m 7

-- [P1] "message types 2 (offer) and 5 (acknowledge to a request)": 53 is there, not broken, and one of the two
pub record Reply (m : List ℕ) : Type 0 where
  pub kind : Kind
  pub when_is_type : WellFormed m 53 (number kind (pos 2)) ⊎ WellFormed m 53 (number kind (pos 5))

-- ---- The answer

pub data ProfileIs (m : List ℕ) : Profile → Type 0 where
  -- [R25] "those of reading, then 25 for 53 absent, broken or of another type, at 0"
  of_reading : {n p : ℕ} → First m n p → ProfileIs m (declined n p)
  row_25 : IsAccepted m → (Reply m → ⊥) → ProfileIs m (declined 25 0)
  -- "yes"
  trusts : IsAccepted m → Reply m → ((i : ℕ) → Breaks m i → ⊥) → ProfileIs m trusted
  -- [P4] "the full set of rules broken": bit i is set exactly when the rule of bit i is broken; there is no other bit
  distrusts : {s : ℕ} → IsAccepted m → Reply m → (s ≡ 0 → ⊥) → s < 256 → ((i : ℕ) → i < 8 → BitSet s i ↔ Breaks m i) → ProfileIs m (distrusted s)

-- the one answer
abbrev pub ProfileIsCorrect : Type 0
ProfileIsCorrect = (m : List ℕ) (w : Profile) → profile m ≡ w ↔ ProfileIs m w

-- ---- [P5] "Accepted messages whose pieces of 53 and the codes named have the same codes and bytes in the same reading order, whatever stands between, get the
-- same answer or refusal"

abbrev pub named_codes : List ℕ
named_codes = 53 ∷ 51 ∷ 54 ∷ 50 ∷ 55 ∷ 57 ∷ 1 ∷ 3 ∷ []

-- xs are the pieces of 53 and the codes named, in reading order
pub record NamedPieces (m : List ℕ) (xs : List Opt) : Type 0 where
  pub lists : (o : Opt) → In o xs ↔ (Standing m o × OneOf o.item.tag named_codes)
  pub in_order : (o q : Opt) → Precedes o q xs → Earlier o q

-- an accepted message has one such list
abbrev pub NamedPiecesRight : Type 0
NamedPiecesRight = (m : List ℕ) → IsAccepted m → (xs : List Opt) × (NamedPieces m xs × ((ys : List Opt) → NamedPieces m ys → xs ≡ ys))

abbrev pub SameNamedSameAnswer : Type 0
SameNamedSameAnswer =
    (m m' : List ℕ) (xs ys : List Opt) → IsAccepted m → IsAccepted m' → NamedPieces m xs → NamedPieces m' ys → items xs ≡ items ys → profile m ≡ profile m'
