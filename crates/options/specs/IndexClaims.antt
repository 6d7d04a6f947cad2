-- WHAT AN INDEX AND A LOOKUP THROUGH IT MUST SATISFY, in the words of request 07. Proved in crates theorems and writing_theorems. Assumes nothing.
use Rattle.std.specs.Prelude.{◌≡◌, List, [], ◌∷◌, ◌++◌, Bool, true, false, ◌⊎◌, ◌↔◌, ℕ, ◌+◌, ◌≤◌, ◌<◌, length, get_or, drop}
use Rattle.options.specs.Message.{Field, start, bytes, place, Holds, held_option}
use Rattle.options.specs.Refusals.{When, Row, First}
use Rattle.options.specs.Kinds.{Table, Proper, kinds}
use Rattle.options.specs.KindClaims.{OneOf, FromTo, AllBytes}
use Rattle.options.specs.CodeSet.{marked}
use Rattle.options.specs.Answers.{in_one, Content, Answer, Absent, Refused, Found, is_known, lookup, given, declined, Filled}
use Rattle.options.specs.ReadingClaims.{IsAccepted, ContentIs, CorrectAnswer}
use Rattle.options.specs.Writing.{wrote, writer}
use Rattle.options.specs.WritingClaims.{NoRecord, RecordIn, SameRecord, SameButPlace, IsKind, UnknownWith}
use Rattle.options.specs.Index.{build, lookup_by}

-- ---- [I1] What an index is

-- "entry c being the place of code c's byte, 0 if absent, 65,535 if it comes in pieces"
pub record Entry (m : List ℕ) (c e : ℕ) : Type 0 where
  pub if_absent : (Holds m c → ⊥) → e ≡ 0
  pub if_in_one : (h : Holds m c) → ((k : Holds m c) → held_option k ≡ held_option h) → e ≡ place (held_option h)
  pub if_in_pieces : (h k : Holds m c) → (held_option h ≡ held_option k → ⊥) → e ≡ 65535

-- "the index was built from the same bytes": idx has the entries of the message m, whoever put them there. Bytes that the reader refuses have no index
pub record BuiltFrom (m idx : List ℕ) : Type 0 where
  pub is_accepted : IsAccepted m
  pub numbers : length idx ≡ 256
  pub entries : (c : ℕ) → c < 256 → Entry m c (get_or idx c 0)

-- an index built from the same bytes is one list of numbers
abbrev pub OneIndex : Type 0
OneIndex = (m idx idx' : List ℕ) → BuiltFrom m idx → BuiltFrom m idx' → idx ≡ idx'

-- codes 0 and 255 are none, so their entries are 0
abbrev pub NoCodeNoEntry : Type 0
NoCodeNoEntry = (m idx : List ℕ) → BuiltFrom m idx → (get_or idx 0 0 ≡ 0) × (get_or idx 255 0 ≡ 0)

-- ---- [I5] The rows that concern both calls: 1, 2, 3, 18. idx are the numbers given

-- "after .. 1, 2, 3": none of these applies, that is, length and cookie are right
abbrev pub HeadRight : List ℕ → Type 0
HeadRight m = (n p : ℕ) (w : When) → Row m n p w → n ≤ 3 → ⊥

-- "18 for an index not of 256 numbers, with their count, after .. 1, 2, 3"
pub data HeadRow (m idx : List ℕ) : ℕ → ℕ → Type 0 where
  of_message : {n p : ℕ} → n ≤ 3 → First m n p → HeadRow m idx n p
  row_18 : HeadRight m → (length idx ≡ 256 → ⊥) → HeadRow m idx 18 (length idx)

-- ---- [I2] Building: "gives 1, 2, 3, 18, then the reader's"; "every refusal .. changes no byte lent to the call"; else the index, and no other numbers

pub data Builds (m old : List ℕ) : Filled → Type 0 where
  refused_head : {n p : ℕ} → HeadRow m old n p → Builds m old (record { answer = declined n p; buffer = old })
  refused_reader : {n p : ℕ} → HeadRight m → length old ≡ 256 → First m n p → Builds m old (record { answer = declined n p; buffer = old })
  builds : {idx : List ℕ} → length old ≡ 256 → BuiltFrom m idx → Builds m old (record { answer = given 512; buffer = idx })

-- the one outcome of building
abbrev pub BuildIsRight : Type 0
BuildIsRight = (m old : List ℕ) (w : Filled) → build m old ≡ w ↔ Builds m old w

-- ---- [I3] "A lookup through it answers as the plain lookup does whenever the index was built from the same bytes": in every member, for every code and set

abbrev pub AnswersAsPlain : Type 0
AnswersAsPlain = (t : Table) (set : ℕ → Bool) (m idx : List ℕ) (c : ℕ) → c ≤ 255 → BuiltFrom m idx → lookup_by t set m idx c ≡ lookup t set m c

-- ---- [I4] "With some other index": any at all

-- "it lies in one of the three fields, that byte is the code, and length and data lie in that field"
pub record Usable (m : List ℕ) (c e : ℕ) : Type 0 where
  pub field : Field
  pub offset : ℕ
  pub body : List ℕ
  pub after : List ℕ
  pub lies : e ≡ start field + offset
  pub reads : drop offset (bytes field m) ≡ c ∷ length body ∷ (body ++ after)

-- what is answered for an entry e of the code c
pub data EntryAnswer (t : Table) (set : ℕ → Bool) (m : List ℕ) (c e : ℕ) : Answer → Type 0 where
  -- "0 says absent"
  says_absent : e ≡ 0 → EntryAnswer t set m c e Absent
  -- "65,535 uses the plain walk", with its refusals
  plain_walk : {w : Answer} → e ≡ 65535 → CorrectAnswer t set m c w → EntryAnswer t set m c e w
  -- "any other entry is used only if .."
  is_used : {x : Content} → (e ≡ 65535 → ⊥) → (u : Usable m c e) → ContentIs t set c u.body x
      → EntryAnswer t set m c e (Found (record { field = u.field; offset = u.offset; wholeness = in_one }) x)
  -- "19 for an unusable entry, the entry being the place"
  refused_19 : (e ≡ 0 → ⊥) → (e ≡ 65535 → ⊥) → (Usable m c e → ⊥) → EntryAnswer t set m c e (Refused 19 e)

pub data Answers (t : Table) (set : ℕ → Bool) (m idx : List ℕ) (c : ℕ) : Answer → Type 0 where
  refused_10 : (c ≡ 0) ⊎ (c ≡ 255) → Answers t set m idx c (Refused 10 0)
  refused_head : {n p : ℕ} → 1 ≤ c → c ≤ 254 → HeadRow m idx n p → Answers t set m idx c (Refused n p)
  when_by_entry : {w : Answer} → 1 ≤ c → c ≤ 254 → HeadRight m → length idx ≡ 256 → EntryAnswer t set m c (get_or idx c 0) w → Answers t set m idx c w

-- for every message, index and code: the one answer
abbrev pub AnswersByTheWords : Type 0
AnswersByTheWords = (t : Table) (set : ℕ → Bool) (m idx : List ℕ) (c : ℕ) (w : Answer) → c ≤ 255 → lookup_by t set m idx c ≡ w ↔ Answers t set m idx c w

-- "with an index also 18 and 19": so include/dhcpopt.h promises
abbrev pub IndexNumbers : Type 0
IndexNumbers =
    ((m old : List ℕ) (n p : ℕ) → (build m old).answer ≡ declined n p → FromTo 1 7 n ⊎ (n ≡ 18))
    × ((t : Table) (set : ℕ → Bool) (m idx : List ℕ) (c n p : ℕ) → lookup_by t set m idx c ≡ Refused n p → FromTo 1 7 n ⊎ OneOf n (10 ∷ 18 ∷ 19 ∷ []))

-- ---- [I6] "Demands 2 and 3 are read of the plain lookup, and of this one where the index was built from the same bytes"

-- [D2] demand 2, and 1: which answer is the right one
abbrev pub IndexedLookupIsCorrect : Type 0
IndexedLookupIsCorrect =
    (t : Table) (set : ℕ → Bool) (m idx : List ℕ) (c : ℕ) (x : Answer) → c ≤ 255 → BuiltFrom m idx → lookup_by t set m idx c ≡ x ↔ CorrectAnswer t set m c x

-- [D3] demand 3: the answers of ReadsTheSame and ReadsAsUnknown (WritingClaims), each read through an index of its own message
pub record IndexedReadsTheSame (t : Table) (set : ℕ → Bool) (c : ℕ) (s s' w w' idx idx' : List ℕ) : Type 0 where
  pub same : SameButPlace w w' c (lookup_by t set w idx c) (lookup_by t set w' idx' c)
  pub absent_iff : lookup_by t set w idx c ≡ Absent ↔ (NoRecord c s × NoRecord c s')
  pub else_kind : (d : List ℕ) → RecordIn c d s → IsKind (lookup_by t set w idx c)

pub record IndexedReadsAsUnknown (t : Table) (set : ℕ → Bool) (c : ℕ) (s w idx : List ℕ) : Type 0 where
  pub absent_iff : lookup_by t set w idx c ≡ Absent ↔ NoRecord c s
  pub else_unknown : (d : List ℕ) → RecordIn c d s → UnknownWith w c d (lookup_by t set w idx c)

abbrev pub IndexedDemand3Of : Table → (ℕ → Bool) → Type 0
IndexedDemand3Of t set =
    (s s' m m' : List ℕ) (permission permission' plan plan' : ℕ) (w w' idx idx' : List ℕ) → AllBytes s → AllBytes s'
    → writer t s m permission ≡ wrote plan w → writer t s' m' permission' ≡ wrote plan' w'
    → BuiltFrom w idx → BuiltFrom w' idx'
    → ((c : ℕ) → is_known t set c ≡ true → SameRecord c s s')
    → (c : ℕ) → 1 ≤ c → c ≤ 254 → (c ≡ 52 → ⊥)
    → (is_known t set c ≡ true → IndexedReadsTheSame t set c s s' w w' idx idx')
    × (is_known t set c ≡ false → IndexedReadsAsUnknown t set c s w idx × IndexedReadsAsUnknown t set c s' w' idx')

abbrev pub IndexedDemand3 : Type 0
IndexedDemand3 = (t : Table) → Proper t → (set : ℕ → Bool) → IndexedDemand3Of t set

abbrev pub IndexedDemand3OfKinds : Type 0
IndexedDemand3OfKinds = (words : List ℕ) → IndexedDemand3Of kinds (marked words)
