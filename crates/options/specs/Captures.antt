-- A MONTH OF CAPTURES (document 02, request 11; docs/RULES.md, H): a file of messages, its tally, the running tally and the report. Assumes nothing.
use Rattle.std.specs.Prelude.{List, [], ◌∷◌, ◌++◌, cond, ℕ, zero, suc, ◌+◌, ◌*◌, min, max, length, eqb, ltb}
use Rattle.std.proofs.Math.Option.{Option, none, some}
use Rattle.options.specs.Message.{Opt, end_to_end}
use Rattle.options.specs.Reading.{Reading, accepted, refused, read_message, pieces}
use Rattle.options.specs.Kinds.{kinds}
use Rattle.options.specs.Answers.{answered, every_code, shown_number, decimal, decimal_in, blank, newline, accepted_line, refused_line}
use Rattle.options.specs.SheetWalk.{Walk, all_read, cut_at, read_at, records_from}

-- ---- [H1] The file: "records of tag 1, two-byte length, message". Its records are walked as a sheet's are

-- [H4] "At most 1,000,000 messages"
abbrev pub most_messages : ℕ
most_messages = 1000000

-- the file's end; or [R24] 24, "at that record's first byte in the file"
pub data Ending : Type 0 where
  at_end : Ending
  stopped_at : (place : ℕ) → Ending

-- the messages up to the end, or up to the record that is refused
pub record Capture : Type 0 where
  pub messages : List (List ℕ)
  pub ending : Ending

abbrev pub no_more : Ending → Capture
no_more e = record { messages = []; ending = e }

abbrev pub with_message : List ℕ → Capture → Capture
with_message m w = record { messages = m ∷ w.messages; ending = w.ending }

-- [R24] "24 for another tag, a record cut short or message 1,000,001"; `seen` messages were before
unfoldable pub captured : ℕ → Walk → Capture
captured seen all_read = no_more at_end
captured seen (cut_at i) = no_more (stopped_at i)
captured seen (read_at i r rest) =
    let next : Capture = captured (suc seen) rest in
    cond (eqb r.tag 1) (cond (ltb seen most_messages) (with_message r.body next) (no_more (stopped_at i))) (no_more (stopped_at i))

unfoldable pub capture_of : List ℕ → Capture
unfolding captured records_from
capture_of f = captured 0 (records_from 0 0 f)

-- ---- [H2] What one message counts for, by its reading

abbrev pub if_accepted : Reading → ℕ
if_accepted (accepted os) = 1
if_accepted (refused n p) = 0

abbrev pub if_refused_by : ℕ → Reading → ℕ
if_refused_by k (accepted os) = 0
if_refused_by k (refused n p) = cond (eqb k n) 1 0

abbrev pub one_if_any : List Opt → ℕ
one_if_any [] = 0
one_if_any (o ∷ os) = 1

-- "the accepted messages holding it"
abbrev pub if_holds : ℕ → Reading → ℕ
if_holds c (accepted os) = one_if_any (pieces c os)
if_holds c (refused n p) = 0

-- "the sum of joined data bytes"
abbrev pub joined_size : ℕ → Reading → ℕ
joined_size c (accepted os) = length (end_to_end (pieces c os))
joined_size c (refused n p) = 0

-- [H3] "lease time among well-formed ones": what a lookup of 51 answers
abbrev pub lease_time : Reading → Option ℕ
lease_time w = shown_number (answered kinds every_code 51 w)

-- [H3] "smallest and largest lease time .., or none"
pub data Lease : Type 0 where
  no_lease : Lease
  leases : (smallest largest : ℕ) → Lease

abbrev pub widened : Option ℕ → Lease → Lease
widened none w = w
widened (some x) no_lease = leases x x
widened (some x) (leases s l) = leases (min x s) (max x l)

-- ---- [H2] The tally of messages

pub record Tally : Type 0 where
  pub messages : ℕ
  pub accepts : ℕ
  -- by 1 to 7
  pub refusals : List ℕ
  -- by code, 0 to 255
  pub held : List ℕ
  pub bytes : List ℕ
  pub lease : Lease

-- f c, f (c + 1), .., n of them
unfoldable pub table : (ℕ → ℕ) → ℕ → ℕ → List ℕ
table f c zero = []
table f c (suc n) = f c ∷ table f (suc c) n

-- the sum over the messages of what each counts for
unfoldable pub total : (Reading → ℕ) → List (List ℕ) → ℕ
unfolding read_message
total f [] = 0
total f (m ∷ ms) = f (read_message m) + total f ms

unfoldable pub lease_span : List (List ℕ) → Lease
unfolding read_message pieces end_to_end
lease_span [] = no_lease
lease_span (m ∷ ms) = widened (lease_time (read_message m)) (lease_span ms)

unfoldable pub tally_of : List (List ℕ) → Tally
unfolding table total lease_span pieces end_to_end
tally_of ms =
    record {
      messages = length ms;
      accepts = total if_accepted ms;
      refusals = table (λ n. total (if_refused_by n) ms) 1 7;
      held = table (λ c. total (if_holds c) ms) 0 256;
      bytes = table (λ c. total (joined_size c) ms) 0 256;
      lease = lease_span ms;
    }

-- ---- [H5] The running tally: "begun empty", and fed the file byte after byte

-- each number of a table raised by what f says of its place
unfoldable pub raised : (ℕ → ℕ) → ℕ → List ℕ → List ℕ
raised f c [] = []
raised f c (x ∷ xs) = (x + f c) ∷ raised f (suc c) xs

-- one message more, by its reading
unfoldable pub noted_as : Reading → Tally → Tally
unfolding raised pieces end_to_end
noted_as w x =
    record {
      messages = x.messages + 1;
      accepts = x.accepts + if_accepted w;
      refusals = raised (λ n. if_refused_by n w) 1 x.refusals;
      held = raised (λ c. if_holds c w) 0 x.held;
      bytes = raised (λ c. joined_size c w) 0 x.bytes;
      lease = widened (lease_time w) x.lease;
    }

abbrev pub noted : List ℕ → Tally → Tally
noted m x = noted_as (read_message m) x

-- where reading is: before a record; after its tag; after its high length byte; in its message, of which `kept` were read, and more than `left` are still to come;
-- or a record was refused
pub data Stage : Type 0 where
  at_tag : Stage
  at_high : Stage
  at_low : (high : ℕ) → Stage
  inside : (left : ℕ) → (kept : List ℕ) → Stage
  stopped : Stage

pub record Run : Type 0 where
  -- the place of the record's first byte
  pub began : ℕ
  pub stage : Stage
  pub tally : Tally

abbrev pub begun : Run
begun = record { began = 0; stage = at_tag; tally = tally_of [] }

-- a message, all of it read
abbrev pub closed : ℕ → List ℕ → Tally → Run
closed i kept x = record { began = i + 3 + length kept; stage = at_tag; tally = noted kept x }

-- the message, with n bytes still to come
abbrev pub within : ℕ → ℕ → List ℕ → Tally → Run
within i zero kept x = closed i kept x
within i (suc n) kept x = record { began = i; stage = inside n kept; tally = x }

abbrev pub step_in : ℕ → Stage → Tally → ℕ → Run
step_in i at_tag x b =
    record { began = i; stage = cond (eqb b 1) (cond (ltb x.messages most_messages) at_high stopped) stopped; tally = x }
step_in i at_high x b = record { began = i; stage = at_low b; tally = x }
step_in i (at_low h) x b = within i (256 * h + b) [] x
step_in i (inside n kept) x b = within i n (kept ++ (b ∷ [])) x
step_in i stopped x b = record { began = i; stage = stopped; tally = x }

unfoldable pub step : Run → ℕ → Run
unfolding tally_of noted_as read_message
step s b = step_in s.began s.stage s.tally b

unfoldable pub fed : Run → List ℕ → Run
unfolding step
fed s [] = s
fed s (b ∷ bs) = fed (step s b) bs

-- one filling of the reading buffer after the other
unfoldable pub fed_by : Run → List (List ℕ) → Run
unfolding fed
fed_by s [] = s
fed_by s (bs ∷ more) = fed_by (fed s bs) more

-- how the file ends, if it ends here
abbrev pub ending_in : Stage → ℕ → Ending
ending_in at_tag i = at_end
ending_in at_high i = stopped_at i
ending_in (at_low h) i = stopped_at i
ending_in (inside n kept) i = stopped_at i
ending_in stopped i = stopped_at i

abbrev pub ending_of : Run → Ending
ending_of s = ending_in s.stage s.began

-- ---- [H6] The report

-- `messages `, `refusals `, `code `, `lease `, `none`
abbrev pub messages_word : List ℕ
messages_word = 109 ∷ 101 ∷ 115 ∷ 115 ∷ 97 ∷ 103 ∷ 101 ∷ 115 ∷ blank ∷ []

abbrev pub refusals_word : List ℕ
refusals_word = 114 ∷ 101 ∷ 102 ∷ 117 ∷ 115 ∷ 97 ∷ 108 ∷ 115 ∷ blank ∷ []

abbrev pub code_word : List ℕ
code_word = 99 ∷ 111 ∷ 100 ∷ 101 ∷ blank ∷ []

abbrev pub lease_word : List ℕ
lease_word = 108 ∷ 101 ∷ 97 ∷ 115 ∷ 101 ∷ blank ∷ []

abbrev pub none_word : List ℕ
none_word = 110 ∷ 111 ∷ 110 ∷ 101 ∷ []

-- `messages N`; `accepted N` is the listing's line
unfoldable pub messages_line : ℕ → List ℕ
unfolding decimal_in
messages_line n = messages_word ++ (decimal n ++ (newline ∷ []))

-- `refusals R N`
unfoldable pub refusals_line : ℕ → ℕ → List ℕ
unfolding decimal_in
refusals_line k n = refusals_word ++ (decimal k ++ (blank ∷ (decimal n ++ (newline ∷ []))))

-- "`refusals R N` for each R from 1 to 7": from k on
unfoldable pub refusals_lines : ℕ → List ℕ → List ℕ
unfolding refusals_line
refusals_lines k [] = []
refusals_lines k (n ∷ ns) = refusals_line k n ++ refusals_lines (suc k) ns

-- `code C N B`
unfoldable pub code_line : ℕ → ℕ → ℕ → List ℕ
unfolding decimal_in
code_line c n b = code_word ++ (decimal c ++ (blank ∷ (decimal n ++ (blank ∷ (decimal b ++ (newline ∷ []))))))

-- "`code C N B` for each code held, rising": from c on
unfoldable pub code_lines : ℕ → List ℕ → List ℕ → List ℕ
unfolding code_line
code_lines c [] bs = []
code_lines c (n ∷ ns) [] = []
code_lines c (n ∷ ns) (b ∷ bs) = let rest : List ℕ = code_lines (suc c) ns bs in cond (eqb n 0) rest (code_line c n b ++ rest)

-- "`lease S L` or `lease none`"
unfoldable pub lease_line : Lease → List ℕ
unfolding decimal_in
lease_line no_lease = lease_word ++ (none_word ++ (newline ∷ []))
lease_line (leases s l) = lease_word ++ (decimal s ++ (blank ∷ (decimal l ++ (newline ∷ []))))

-- "the report up to there is printed, then `refused 24 P`"
abbrev pub last_line : Ending → List ℕ
last_line at_end = []
last_line (stopped_at p) = refused_line 24 p

-- [H6] "Lines, in this order"
unfoldable pub report_of : Tally → Ending → List ℕ
unfolding messages_line refusals_lines code_lines lease_line accepted_line refused_line
report_of x e =
    messages_line x.messages ++ (accepted_line x.accepts ++ (refusals_lines 1 x.refusals ++ (code_lines 0 x.held x.bytes ++ (lease_line x.lease ++ last_line e))))

-- of a file
unfoldable pub report : List ℕ → List ℕ
unfolding report_of tally_of capture_of
report f = report_of (tally_of (capture_of f).messages) (capture_of f).ending

-- and of the running tally, if the file ends here
abbrev pub report_so_far : Run → List ℕ
report_so_far s = report_of s.tally (ending_of s)
