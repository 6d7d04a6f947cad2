-- WHAT C IS TOLD OF A FILE WHILE IT IS TAKEN: every member of its struct and every lent number by the bytes of the file, in the request's words and numbers; and demand 1 for the calls on
-- captures. Proved here. Assumes nothing.
use Rattle.std.specs.Prelude.{◌≡◌, List, [], ◌∷◌, ◌++◌, ◌⊎◌, ◌↔◌, ℕ, ◌+◌, ◌*◌, ◌≤◌, ◌<◌, length, take, drop}
use Rattle.options.specs.KindClaims.{AllBytes}
use Rattle.options.specs.Sheet.{RecordAt}
use Rattle.options.specs.Captures.{Lease, no_lease, leases, Tally, stopped_at, begun, fed}
use Rattle.options.specs.CaptureClaims.{MessagesFrom, TallyIs, ReportIs}
use Rattle.captures.specs.Standing.{Stands}
use Rattle.report.specs.Printed.{Reports}
use Rattle.dhcpopt_captures.specs.Plain.{progress_of_value, plain_of, BeginsWith, FeedsPlain}
use Rattle.dhcpopt_captures.specs.declared.PlainProgress.{PlainProgress}

-- ---- The file, as far as it was taken

-- from place i on, where n messages were before: these messages, each in a record that is taken, up to the place j
pub data RecordsTo (f : List ℕ) : ℕ → ℕ → List (List ℕ) → ℕ → Type 0 where
  arrived : {i n : ℕ} → RecordsTo f i n [] i
  and_on : {i n j : ℕ} {m : List ℕ} {ms : List (List ℕ)} → n < 1000000 → RecordAt f i 1 m → RecordsTo f (i + 3 + length m) (n + 1) ms j → RecordsTo f i n (m ∷ ms) j

-- what was taken of the record behind n messages, at `began`: nothing; its tag; its tag and high length byte; these, its low length byte and some of its message; or that it is refused,
-- "another tag .. or message 1,000,001". What was read of a message of up to 1,472 bytes is at the front of the lent buffer
pub data PlaceTold (f : List ℕ) (n : ℕ) (message : List ℕ) (r : PlainProgress) : Type 0 where
  before_record : drop r.began f ≡ [] → r.stage ≡ 0 → r.high ≡ 0 → r.size ≡ 0 → r.read ≡ 0 → PlaceTold f n message r
  after_tag : n < 1000000 → drop r.began f ≡ 1 ∷ [] → r.stage ≡ 1 → r.high ≡ 0 → r.size ≡ 0 → r.read ≡ 0 → PlaceTold f n message r
  after_high : n < 1000000 → drop r.began f ≡ 1 ∷ r.high ∷ [] → r.stage ≡ 2 → r.size ≡ 0 → r.read ≡ 0 → PlaceTold f n message r
  in_message : {h l : ℕ} {kept : List ℕ} → n < 1000000 → drop r.began f ≡ 1 ∷ h ∷ l ∷ kept → r.stage ≡ 0 → r.high ≡ 0 → r.size ≡ 256 * h + l → r.read ≡ length kept → r.read < r.size
      → (r.size ≤ length message → take r.read message ≡ kept) → PlaceTold f n message r
  refused : {c : ℕ} {rest : List ℕ} → drop r.began f ≡ c ∷ rest → (c ≡ 1 → ⊥) ⊎ (1000000 ≤ n) → r.stage ≡ 3 → r.high ≡ 0 → r.size ≡ 0 → r.read ≡ 0 → PlaceTold f n message r

-- "smallest and largest lease time .., or none"
pub data LeaseTold (r : PlainProgress) : Lease → Type 0 where
  none_told : r.leases ≡ 0 → r.smallest ≡ 0 → r.largest ≡ 0 → LeaseTold r no_lease
  both_told : {s l : ℕ} → r.leases ≡ 1 → r.smallest ≡ s → r.largest ≡ l → LeaseTold r (leases s l)

-- every member of the struct, and every lent number, where the bytes f were taken
pub record ToldOf (f : List ℕ) (r : PlainProgress) (message verdicts held bytes : List ℕ) : Type 0 where
  pub seen : List (List ℕ)
  pub tally : Tally
  pub records_are : RecordsTo f 0 0 seen r.began
  pub tally_is : TallyIs seen tally
  pub messages_are : r.messages ≡ length seen
  pub verdicts_are : verdicts ≡ tally.accepts ∷ tally.refusals
  pub held_are : held ≡ tally.held
  pub bytes_are : bytes ≡ tally.bytes
  pub lease_is : LeaseTold r tally.lease
  pub place_is : PlaceTold f (length seen) message r

-- ---- The calls, one after another

-- what the calls give and leave where the bytes f were taken, in whatever parts
pub record After (f : List ℕ) (r : PlainProgress) (message verdicts held bytes : List ℕ) : Type 0 where
  pub stands : Stands (fed begun f) (progress_of_value r) message verdicts held bytes
  pub plain : r ≡ plain_of (progress_of_value r)

-- "begun empty": no byte was taken
abbrev pub BegunForC : Type 0
BegunForC = (r : PlainProgress) (message verdicts held bytes : List ℕ) → 1472 ≤ length message → BeginsWith r verdicts held bytes → After [] r message verdicts held bytes

-- "The running tally, begun empty, is the same however the reading buffer was filled": by its contract a call of feed comes from the bytes f to these and the part
abbrev pub FedForC : Type 0
FedForC =
    (f part : List ℕ) (p r : PlainProgress) (message verdicts held bytes message' verdicts' held' bytes' : List ℕ) → AllBytes f → AllBytes part → After f p message verdicts held bytes
    → FeedsPlain part p message verdicts held bytes r message' verdicts' held' bytes' → After (f ++ part) r message' verdicts' held' bytes'

-- the struct case by case
abbrev pub ProgressByCase : Type 0
ProgressByCase = (f : List ℕ) (r : PlainProgress) (message verdicts held bytes : List ℕ) → AllBytes f → After f r message verdicts held bytes → ToldOf f r message verdicts held bytes

-- and what is told is all that there is to know. The lent buffer has 1,472 bytes
abbrev pub ProgressByCaseBoth : Type 0
ProgressByCaseBoth =
    (f : List ℕ) (r : PlainProgress) (message verdicts held bytes : List ℕ) → AllBytes f → 1472 ≤ length message
    → After f r message verdicts held bytes ↔ ToldOf f r message verdicts held bytes

-- ---- Demand 1: "24 for another tag, a record cut short or message 1,000,001, at that record's first byte in the file"

-- the struct says 24, at p
abbrev pub Says24 : PlainProgress → ℕ → Type 0
Says24 r p = ((r.stage ≡ 0) × (r.size ≡ 0) → ⊥) × (r.began ≡ p)

-- once all of the file f was taken: exactly where its reading stops at p
abbrev pub CapturesRefusedForC : Type 0
CapturesRefusedForC =
    (f : List ℕ) (r : PlainProgress) (message verdicts held bytes : List ℕ) (p : ℕ) → AllBytes f → After f r message verdicts held bytes
    → Says24 r p ↔ ((ms : List (List ℕ)) × MessagesFrom f 0 0 ms (stopped_at p))

-- and the text of the report is the one report of the file, with its line `refused 24 P`; behind it the lent buffer is as it was
abbrev pub CapturesReportedForC : Type 0
CapturesReportedForC =
    (f : List ℕ) (p : PlainProgress) (message verdicts held bytes old : List ℕ) (r : ℕ) (after : List ℕ) → AllBytes f → After f p message verdicts held bytes
    → Reports (progress_of_value p) verdicts held bytes old r after → ReportIs f (take r after) × (after ≡ take r after ++ drop r old)
