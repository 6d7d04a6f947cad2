-- WHAT IS WRITTEN AND READ BACK THROUGH THE CALLS THAT C LINKS: the return of the sheet (demand 2), and demand 3. dhcpopt_write leaves w, its struct has refusal 0;
-- dhcpopt_lookup and dhcpopt_records are then asked of w. Assumes nothing.
use Rattle.std.specs.Prelude.{◌≡◌, List, ◌++◌, true, false, ◌⊎◌, ◌↔◌, ℕ, ◌≤◌, length, take, drop}
use Rattle.options.specs.Kinds.{kinds}
use Rattle.options.specs.KindClaims.{AllBytes}
use Rattle.options.specs.Answers.{is_known, lookup, records}
use Rattle.options.specs.AnswerClaims.{JoinedBytes}
use Rattle.options.specs.Writing.{writer, buffer_after}
use Rattle.options.specs.WritingClaims.{SameRecord, RecordIn, NoRecord, BytesOf}
use Rattle.filled.specs.Plain.{plain_filled}
use Rattle.filled.specs.declared.PlainFilled.{PlainFilled}
use Rattle.dhcpopt_reader.specs.Plain.{plain_answer}
use Rattle.dhcpopt_reader.specs.declared.PlainAnswer.{PlainAnswer}
use Rattle.dhcpopt_writer.specs.Plain.{plain_wrote}
use Rattle.c_theorems.specs.Refusals.{known}

-- "Let the writer accept each, in any buffer, whatever that held, and with any permission": dhcpopt_write with the sheet s and the buffer m has refusal 0, and leaves w
pub record Accepts (s m : List ℕ) (permission : ℕ) (w : List ℕ) : Type 0 where
  pub of_bytes : AllBytes s
  pub not_refused : (plain_wrote (writer kinds s m permission)).refusal ≡ 0
  pub leaves : w ≡ buffer_after m (writer kinds s m permission)

-- what dhcpopt_lookup answers of w
abbrev pub told : (k0 k1 k2 k3 : ℕ) → List ℕ → ℕ → PlainAnswer
told k0 k1 k2 k3 w c = plain_answer (lookup kinds (known k0 k1 k2 k3) w c)

-- "A sheet that the writer accepts, written and then taken back from the message with room enough, is the same byte for byte and in its order", by dhcpopt_records
abbrev pub SheetBackForC : Type 0
SheetBackForC =
    (s m old w : List ℕ) (permission : ℕ) (r : PlainFilled) (after : List ℕ) → Accepts s m permission w → length s ≤ length old
    → (r ≡ plain_filled (records w old).answer) × (after ≡ (records w old).buffer)
    → (r ≡ record { refusal = 0; size = length s; place = 0 }) × (after ≡ s ++ drop (length s) old)

-- "Only the place may differ", and "Demand 3 counts field and offset as place" (request 01): every member but field, offset and start. Nothing is refused or broken, so
-- refusal and place are 0; and where it is a part (status 4), its bytes are the same
pub record SameMembers (w w' : List ℕ) (c : ℕ) (a b : PlainAnswer) : Type 0 where
  pub status : a.status ≡ b.status
  pub kind : a.kind ≡ b.kind
  pub refusal : (a.refusal ≡ 0) × (b.refusal ≡ 0)
  pub number : a.number ≡ b.number
  pub place : (a.place ≡ 0) × (b.place ≡ 0)
  pub size : a.length ≡ b.length
  pub whole : a.whole ≡ b.whole
  pub several : a.several ≡ b.several
  pub bytes : a.status ≡ 4 → (bs : List ℕ) × BytesOf w c a.length bs × BytesOf w' c b.length bs

-- "absent exactly when neither sheet has a record for it, and otherwise the same kind": status 0, or 3 or 4
pub record ReadsTheSameForC (c : ℕ) (s s' w w' : List ℕ) (a b : PlainAnswer) : Type 0 where
  pub same : SameMembers w w' c a b
  pub absent_iff : a.status ≡ 0 ↔ (NoRecord c s × NoRecord c s')
  pub else_kind : (d : List ℕ) → RecordIn c d s → (a.status ≡ 3) ⊎ (a.status ≡ 4)

abbrev pub Demand3ForC : Type 0
Demand3ForC =
    (k0 k1 k2 k3 : ℕ) (s s' m m' w w' : List ℕ) (permission permission' : ℕ) → Accepts s m permission w → Accepts s' m' permission' w'
    → ((c : ℕ) → is_known kinds (known k0 k1 k2 k3) c ≡ true → SameRecord c s s')
    → (c : ℕ) → 1 ≤ c → c ≤ 254 → (c ≡ 52 → ⊥) → is_known kinds (known k0 k1 k2 k3) c ≡ true
    → ReadsTheSameForC c s s' w w' (told k0 k1 k2 k3 w c) (told k0 k1 k2 k3 w' c)

-- "unknown with exactly that record's bytes": status 1, and every member but those of the place
pub record ToldUnknown (w : List ℕ) (c : ℕ) (d : List ℕ) (a : PlainAnswer) : Type 0 where
  pub status : a.status ≡ 1
  pub kind : a.kind ≡ 0
  pub refusal : a.refusal ≡ 0
  pub place : a.place ≡ 0
  pub size : a.length ≡ length d
  pub joined : JoinedBytes w c d

-- "Any other code from 1 to 254, save 52, reads as absent exactly when the message's own sheet has no record for it, and otherwise as unknown with exactly that record's
-- bytes": for this half one sheet is enough
abbrev pub OthersForC : Type 0
OthersForC =
    (k0 k1 k2 k3 : ℕ) (s m w : List ℕ) (permission : ℕ) → Accepts s m permission w
    → (c : ℕ) → 1 ≤ c → c ≤ 254 → (c ≡ 52 → ⊥) → is_known kinds (known k0 k1 k2 k3) c ≡ false
    → ((told k0 k1 k2 k3 w c).status ≡ 0 ↔ NoRecord c s) × ((d : List ℕ) → RecordIn c d s → ToldUnknown w c d (told k0 k1 k2 k3 w c))
