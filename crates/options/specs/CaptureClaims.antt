-- WHAT THE TALLY OF CAPTURES AND ITS REPORT MUST SATISFY, in the words of request 11. Proved in crate captures_theorems. Assumes nothing.
use Rattle.std.specs.Prelude.{◌≡◌, List, [], ◌∷◌, ◌++◌, ◌⊎◌, ◌↔◌, ℕ, ◌+◌, ◌*◌, ◌-◌, ◌≤◌, ◌<◌, pos, length, get_or}
use Rattle.options.specs.Message.{Opt, Holds, PiecesOf, end_to_end}
use Rattle.options.specs.Refusals.{First}
use Rattle.options.specs.Kinds.{Kind, number, kinds}
use Rattle.options.specs.KindClaims.{AllBytes}
use Rattle.options.specs.Answers.{Origin, known, every_code}
use Rattle.options.specs.ReadingClaims.{IsAccepted, Shows}
use Rattle.options.specs.AnswerClaims.{DecimalRight}
use Rattle.options.specs.Sheet.{RecordAt}
use Rattle.options.specs.Captures.{Ending, at_end, stopped_at, Capture, capture_of, Lease, no_lease, leases, Tally, tally_of, Run, begun, fed, fed_by, ending_of, report, report_so_far}

-- ---- [H1, R24] The file, by places

-- from place i on, where n messages were before: these messages, and this ending. "24 for another tag, a record cut short or message 1,000,001, at that
-- record's first byte in the file"
pub data MessagesFrom (f : List ℕ) : ℕ → ℕ → List (List ℕ) → Ending → Type 0 where
  ends : {i n : ℕ} → i ≡ length f → MessagesFrom f i n [] at_end
  stops : {i n : ℕ} → i < length f → ((m : List ℕ) → RecordAt f i 1 m → ⊥) ⊎ (1000000 ≤ n) → MessagesFrom f i n [] (stopped_at i)
  goes_on : {i n : ℕ} {m : List ℕ} {ms : List (List ℕ)} {e : Ending} → n < 1000000 → RecordAt f i 1 m → MessagesFrom f (i + 3 + length m) (n + 1) ms e
      → MessagesFrom f i n (m ∷ ms) e

-- the one reading of a file
abbrev pub CaptureIsCorrect : Type 0
CaptureIsCorrect = (f : List ℕ) (w : Capture) → AllBytes f → capture_of f ≡ w ↔ MessagesFrom f 0 0 w.messages w.ending

-- ---- [H2] Counting, over a list of messages

pub data Counts (P : List ℕ → Type 0) : List (List ℕ) → ℕ → Type 0 where
  none : Counts P [] 0
  one_more : {m : List ℕ} {ms : List (List ℕ)} {n : ℕ} → P m → Counts P ms n → Counts P (m ∷ ms) (n + 1)
  passed_over : {m : List ℕ} {ms : List (List ℕ)} {n : ℕ} → (P m → ⊥) → Counts P ms n → Counts P (m ∷ ms) n

pub data Sums (S : List ℕ → ℕ → Type 0) : List (List ℕ) → ℕ → Type 0 where
  nothing : Sums S [] 0
  added : {m : List ℕ} {ms : List (List ℕ)} {k n : ℕ} → S m k → Sums S ms n → Sums S (m ∷ ms) (k + n)

abbrev pub Seen : List ℕ → List (List ℕ) → Type 0
Seen m [] = ⊥
Seen m (x ∷ xs) = (m ≡ x) ⊎ Seen m xs

-- "refused by each number"
abbrev pub RefusedBy : ℕ → List ℕ → Type 0
RefusedBy n m = (p : ℕ) × First m n p

-- "the accepted messages holding it"
abbrev pub AcceptedHolding : ℕ → List ℕ → Type 0
AcceptedHolding c m = IsAccepted m × Holds m c

-- "the sum of joined data bytes": what one message adds
pub data AddsBytes (c : ℕ) (m : List ℕ) : ℕ → Type 0 where
  when_if_accepted : {ps : List Opt} → IsAccepted m → PiecesOf m c ps → AddsBytes c m (length (end_to_end ps))
  if_refused : (IsAccepted m → ⊥) → AddsBytes c m 0

-- [H3] the message m has the well-formed lease time n, "every code known"
pub record LeaseTime (m : List ℕ) (n : ℕ) : Type 0 where
  pub origin : Origin
  pub kind : Kind
  pub shows : Shows kinds every_code m 51 origin (known (number kind (pos n)))

-- [H3] "smallest and largest lease time among well-formed ones, or none"
pub data LeaseIs (ms : List (List ℕ)) : Lease → Type 0 where
  lease_none : ((m : List ℕ) (n : ℕ) → Seen m ms → LeaseTime m n → ⊥) → LeaseIs ms no_lease
  lease_from_to : {s l : ℕ} → ((m : List ℕ) × Seen m ms × LeaseTime m s) → ((m : List ℕ) × Seen m ms × LeaseTime m l)
      → ((m : List ℕ) (n : ℕ) → Seen m ms → LeaseTime m n → (s ≤ n) × (n ≤ l)) → LeaseIs ms (leases s l)

-- "messages seen, accepted, refused by each number; for each code the accepted messages holding it and the sum of joined data bytes; .. lease time"
pub record TallyIs (ms : List (List ℕ)) (x : Tally) : Type 0 where
  pub messages : x.messages ≡ length ms
  pub accepts : Counts IsAccepted ms x.accepts
  pub seven : length x.refusals ≡ 7
  pub refusals : (n : ℕ) → 1 ≤ n → n ≤ 7 → Counts (RefusedBy n) ms (get_or x.refusals (n - 1) 0)
  pub held_all : length x.held ≡ 256
  pub held : (c : ℕ) → c < 256 → Counts (AcceptedHolding c) ms (get_or x.held c 0)
  pub bytes_all : length x.bytes ≡ 256
  pub bytes : (c : ℕ) → c < 256 → Sums (AddsBytes c) ms (get_or x.bytes c 0)
  pub lease : LeaseIs ms x.lease

-- the one tally of messages
abbrev pub TallyIsCorrect : Type 0
TallyIsCorrect = (ms : List (List ℕ)) (x : Tally) → tally_of ms ≡ x ↔ TallyIs ms x

abbrev pub sum : List ℕ → ℕ
sum [] = 0
sum (x ∷ xs) = x + sum xs

-- [H2] "Accepted and refusals, each by its own definition, sum to messages"
abbrev pub SumIsMessages : Type 0
SumIsMessages = (ms : List (List ℕ)) → (tally_of ms).accepts + sum (tally_of ms).refusals ≡ (tally_of ms).messages

-- ---- [H5] The running tally

abbrev pub concat : List (List ℕ) → List ℕ
concat [] = []
concat (xs ∷ more) = xs ++ concat more

-- the running tally is the tally of the whole file's messages, and the ending the file's
pub record RunIs (f : List ℕ) (s : Run) : Type 0 where
  pub tally : s.tally ≡ tally_of (capture_of f).messages
  pub ending : ending_of s ≡ (capture_of f).ending

-- "The running tally, begun empty, is the same however the reading buffer was filled"
abbrev pub HoweverFilled : Type 0
HoweverFilled = (parts : List (List ℕ)) → RunIs (concat parts) (fed_by begun parts)

-- in between too, and from any state
abbrev pub FedByParts : Type 0
FedByParts = (s : Run) (parts : List (List ℕ)) → fed_by s parts ≡ fed s (concat parts)

-- [H4] "At most 1,000,000 messages, so that no sum wraps": no number comes near 2 ^ 64, at the file's end or before it
pub record NoneWraps (s : Run) : Type 0 where
  pub messages : s.tally.messages ≤ 1000000
  pub accepts : s.tally.accepts ≤ 1000000
  pub refusals : (n : ℕ) → get_or s.tally.refusals n 0 ≤ 1000000
  pub held : (c : ℕ) → get_or s.tally.held c 0 ≤ 1000000
  pub bytes : (c : ℕ) → get_or s.tally.bytes c 0 ≤ 1472 * 1000000
  pub place : s.began ≤ 65538 * 1000000

abbrev pub NoSumWraps : Type 0
NoSumWraps = (f : List ℕ) → AllBytes f → NoneWraps (fed begun f)

-- ---- [H6] The report, by its lines

-- the words of the lines, in ASCII: "messages", "accepted", "refusals", "code", "lease" and "refused", each with a blank behind it; and "none"
abbrev messages_word_lem : List ℕ
messages_word_lem = 109 ∷ 101 ∷ 115 ∷ 115 ∷ 97 ∷ 103 ∷ 101 ∷ 115 ∷ 32 ∷ []

abbrev accepted_word_lem : List ℕ
accepted_word_lem = 97 ∷ 99 ∷ 99 ∷ 101 ∷ 112 ∷ 116 ∷ 101 ∷ 100 ∷ 32 ∷ []

abbrev refusals_word_lem : List ℕ
refusals_word_lem = 114 ∷ 101 ∷ 102 ∷ 117 ∷ 115 ∷ 97 ∷ 108 ∷ 115 ∷ 32 ∷ []

abbrev code_word_lem : List ℕ
code_word_lem = 99 ∷ 111 ∷ 100 ∷ 101 ∷ 32 ∷ []

abbrev lease_word_lem : List ℕ
lease_word_lem = 108 ∷ 101 ∷ 97 ∷ 115 ∷ 101 ∷ 32 ∷ []

abbrev refused_word_lem : List ℕ
refused_word_lem = 114 ∷ 101 ∷ 102 ∷ 117 ∷ 115 ∷ 101 ∷ 100 ∷ 32 ∷ []

abbrev none_word_lem : List ℕ
none_word_lem = 110 ∷ 111 ∷ 110 ∷ 101 ∷ []

-- numbers in decimal, with one blank between two, and a newline at the end
pub data Columns : List ℕ → List ℕ → Type 0 where
  last_column : {n : ℕ} {xs : List ℕ} → DecimalRight n xs → Columns (n ∷ []) (xs ++ (10 ∷ []))
  and_further : {n k : ℕ} {ks xs ys : List ℕ} → DecimalRight n xs → Columns (k ∷ ks) ys → Columns (n ∷ k ∷ ks) (xs ++ (32 ∷ ys))

-- a line: a word and its columns
pub data LineIs (word ns : List ℕ) : List ℕ → Type 0 where
  line_is : {xs : List ℕ} → Columns ns xs → LineIs word ns (word ++ xs)

-- "`refusals R N` for each R from 1 to 7": those from k on
pub data RefusalsFrom (x : Tally) : ℕ → List ℕ → Type 0 where
  no_more : RefusalsFrom x 8 []
  refused_by : {k : ℕ} {xs ys : List ℕ} → k ≤ 7 → LineIs refusals_word_lem (k ∷ get_or x.refusals (k - 1) 0 ∷ []) xs → RefusalsFrom x (k + 1) ys
      → RefusalsFrom x k (xs ++ ys)

-- "`code C N B` for each code held, rising": those from c on
pub data CodesFrom (x : Tally) : ℕ → List ℕ → Type 0 where
  no_more : CodesFrom x 256 []
  is_held : {c : ℕ} {xs ys : List ℕ} → c < 256 → 0 < get_or x.held c 0 → LineIs code_word_lem (c ∷ get_or x.held c 0 ∷ get_or x.bytes c 0 ∷ []) xs → CodesFrom x (c + 1) ys
      → CodesFrom x c (xs ++ ys)
  not_held : {c : ℕ} {ys : List ℕ} → c < 256 → get_or x.held c 0 ≡ 0 → CodesFrom x (c + 1) ys → CodesFrom x c ys

-- "`lease S L` or `lease none`"
pub data LeaseLineIs : Lease → List ℕ → Type 0 where
  none_line : LeaseLineIs no_lease (lease_word_lem ++ (none_word_lem ++ (10 ∷ [])))
  from_to_line : {s l : ℕ} {xs : List ℕ} → LineIs lease_word_lem (s ∷ l ∷ []) xs → LeaseLineIs (leases s l) xs

-- "the report up to there is printed, then `refused 24 P`"
pub data LastLineIs : Ending → List ℕ → Type 0 where
  nothing_last : LastLineIs at_end []
  refused_last : {p : ℕ} {xs : List ℕ} → LineIs refused_word_lem (24 ∷ p ∷ []) xs → LastLineIs (stopped_at p) xs

-- "Lines, in this order: `messages N`, `accepted N`, `refusals R N` for each R from 1 to 7, `code C N B` for each code held, rising, `lease S L` or `lease none`"
pub record LinesAre (x : Tally) (e : Ending) (xs : List ℕ) : Type 0 where
  pub messages : List ℕ
  pub accepts : List ℕ
  pub refusals : List ℕ
  pub codes : List ℕ
  pub lease : List ℕ
  pub last : List ℕ
  pub reads : xs ≡ messages ++ (accepts ++ (refusals ++ (codes ++ (lease ++ last))))
  pub messages_is : LineIs messages_word_lem (x.messages ∷ []) messages
  pub accepts_is : LineIs accepted_word_lem (x.accepts ∷ []) accepts
  pub refusals_are : RefusalsFrom x 1 refusals
  pub codes_are : CodesFrom x 0 codes
  pub lease_is : LeaseLineIs x.lease lease
  pub last_is : LastLineIs e last

-- xs is the report of the file f
pub record ReportIs (f xs : List ℕ) : Type 0 where
  pub messages : List (List ℕ)
  pub ending : Ending
  pub tally : Tally
  pub file_is : MessagesFrom f 0 0 messages ending
  pub tally_is : TallyIs messages tally
  pub lines_are : LinesAre tally ending xs

abbrev pub ReportIsCorrect : Type 0
ReportIsCorrect = (f xs : List ℕ) → AllBytes f → report f ≡ xs ↔ ReportIs f xs

-- what is printed at the end, however the reading buffer was filled
abbrev pub PrintsTheReport : Type 0
PrintsTheReport = (parts : List (List ℕ)) → report_so_far (fed_by begun parts) ≡ report (concat parts)
