-- WHERE READING IS, AS THE CODE HOLDS IT: which running tally its numbers stand for, whatever they are. The public contracts rest on this file. Assumes nothing.
use Rattle.std.specs.Prelude.{◌≡◌, ℕ, zero, suc, ◌+◌, ◌-◌, ◌*◌, ◌%◌, ◌^◌, ◌<◌, ◌≤◌, min, Bool, false, cond, ◌⊎◌, List, [], ◌∷◌, ◌++◌, length, take, drop, replicate, ◌==◌, nat_le, nat_lt, slice_index}
use Rattle.options.specs.KindClaims.{AllBytes}
use Rattle.options.specs.Captures.{most_messages, Tally, noted, noted_as, Stage, at_tag, at_high, at_low, inside, stopped, Run, begun, within, step_in, fed}
use Rattle.options.specs.Reading.{read_message, refused}
use Rattle.std.specs.Prelude.{Option, None}
use Rattle.tally.specs.declared.Lease.{Lease}
use Rattle.tally.specs.Noted.{lease_of, lease_in, widened_by, Lent, Notes}
use Rattle.captures.specs.declared.Progress.{Progress}
use Rattle.captures.specs.declared.Standing as coded
use Rattle.captures.specs.declared.Stage as coded_stage
use Rattle.captures.specs.declared.Stage.TheVariants.{Tag, High, Low, Message, Stopped}

-- ---- Where reading is as a part is taken, in the numbers of `Progress`: its stage, case by case

pub record StageTold : Type 0 where
  pub stage : ℕ
  pub high : ℕ
  pub size : ℕ
  pub read : ℕ

abbrev pub told_at : coded_stage.Stage → StageTold
told_at Tag = record { stage = 0; high = 0; size = 0; read = 0 }
told_at High = record { stage = 1; high = 0; size = 0; read = 0 }
told_at (Low h) = record { stage = 2; high = h; size = 0; read = 0 }
told_at (Message n k) = record { stage = 0; high = 0; size = n; read = k }
told_at Stopped = record { stage = 3; high = 0; size = 0; read = 0 }

abbrev pub told_by : coded.Standing → Progress
told_by q =
    record {
      began = q.began;
      stage = (told_at q.stage).stage;
      high = (told_at q.stage).high;
      size = (told_at q.stage).size;
      read = (told_at q.stage).read;
      messages = q.messages;
      lease = q.lease;
    }

-- each stage with its own numbers, and the other members as they are
abbrev pub StandingByCase : Type 0
StandingByCase =
    (b m : ℕ) (l : Option Lease)
    → (told_by (record { began = b; stage = Tag; messages = m; lease = l }) ≡ record { began = b; stage = 0; high = 0; size = 0; read = 0; messages = m; lease = l })
    × (told_by (record { began = b; stage = High; messages = m; lease = l }) ≡ record { began = b; stage = 1; high = 0; size = 0; read = 0; messages = m; lease = l })
    × ((h : ℕ) → told_by (record { began = b; stage = Low h; messages = m; lease = l }) ≡ record { began = b; stage = 2; high = h; size = 0; read = 0; messages = m; lease = l })
    × ((n k : ℕ) → told_by (record { began = b; stage = Message n k; messages = m; lease = l }) ≡ record { began = b; stage = 0; high = 0; size = n; read = k; messages = m; lease = l })
    × (told_by (record { began = b; stage = Stopped; messages = m; lease = l }) ≡ record { began = b; stage = 3; high = 0; size = 0; read = 0; messages = m; lease = l })

-- ---- [H4, H5] The running tally of any numbers: as `Captures.fed`, but that what a message adds is kept in 64 bits

unfoldable pub wrap : List ℕ → List ℕ
wrap [] = []
wrap (x ∷ xs) = (x % 2 ^ 64) ∷ wrap xs

unfoldable pub wrapped : Tally → Tally
unfolding wrap
wrapped x =
    record {
      messages = x.messages % 2 ^ 64;
      accepts = x.accepts % 2 ^ 64;
      refusals = wrap x.refusals;
      held = wrap x.held;
      bytes = wrap x.bytes;
      lease = x.lease;
    }

-- a message, all of it read
abbrev pub closed64 : ℕ → List ℕ → Tally → Run
closed64 i kept x = record { began = (i + 3 + length kept) % 2 ^ 64; stage = at_tag; tally = wrapped (noted kept x) }

-- the message, with n bytes still to come
abbrev pub within64 : ℕ → ℕ → List ℕ → Tally → Run
within64 i zero kept x = closed64 i kept x
within64 i (suc n) kept x = within i (suc n) kept x

abbrev pub step_in64 : ℕ → Stage → Tally → ℕ → Run
step_in64 i at_tag x b = step_in i at_tag x b
step_in64 i at_high x b = step_in i at_high x b
step_in64 i (at_low h) x b = within64 i (256 * h + b) [] x
step_in64 i (inside n kept) x b = within64 i n (kept ++ (b ∷ [])) x
step_in64 i stopped x b = step_in i stopped x b

unfoldable pub fed64 : Run → List ℕ → Run
unfolding wrapped noted_as read_message
fed64 s [] = s
fed64 s (b ∷ bs) = fed64 (step_in64 s.began s.stage s.tally b) bs

-- "so that no sum wraps": of a file it is `Captures.fed`
abbrev pub NeverWraps : Type 0
NeverWraps = (f part : List ℕ) → AllBytes (f ++ part) → fed64 (fed begun f) part ≡ fed begun (f ++ part)

-- ---- What the numbers stand for: every member of Progress, and every number that is lent

-- the place of the record's first byte, and the tally of the messages before it
pub record Holds (i : ℕ) (x : Tally) (p : Progress) (verdicts held bytes : List ℕ) : Type 0 where
  pub began_is : p.began ≡ i
  pub messages_is : p.messages ≡ x.messages
  pub lease_is : p.lease ≡ lease_in x.lease
  pub verdicts_are : verdicts ≡ x.accepts ∷ x.refusals
  pub held_are : held ≡ x.held
  pub bytes_are : bytes ≡ x.bytes

-- the stage. In a message the buffer begins with the bytes that were read, where it has room for the message; its other bytes are never read
pub data StageIs (p : Progress) (message : List ℕ) : Stage → Type 0 where
  before_record : p.stage ≡ 0 → p.high ≡ 0 → p.size ≡ 0 → p.read ≡ 0 → StageIs p message at_tag
  after_tag : p.stage ≡ 1 → p.high ≡ 0 → p.size ≡ 0 → p.read ≡ 0 → StageIs p message at_high
  after_high : {high : ℕ} → p.stage ≡ 2 → p.high ≡ high → p.size ≡ 0 → p.read ≡ 0 → StageIs p message (at_low high)
  in_message : {left : ℕ} {kept : List ℕ} → p.stage ≡ 0 → p.high ≡ 0 → p.read ≡ length kept → p.size ≡ length kept + suc left → (p.size ≤ length message → take (length kept) message ≡ kept)
      → StageIs p message (inside left kept)
  was_refused : p.stage ≡ 3 → p.high ≡ 0 → p.size ≡ 0 → p.read ≡ 0 → StageIs p message stopped

-- the lent numbers have 64 bits each, as every u64 has
pub record Small (verdicts held bytes : List ℕ) : Type 0 where
  pub verdicts_small : (i : ℕ) → slice_index verdicts i < 2 ^ 64
  pub held_small : (i : ℕ) → slice_index held i < 2 ^ 64
  pub bytes_small : (i : ℕ) → slice_index bytes i < 2 ^ 64

-- the numbers, and a buffer of 1,472 bytes or more, stand for the running tally s
pub record Stands (s : Run) (p : Progress) (message verdicts held bytes : List ℕ) : Type 0 where
  pub holds : Holds s.began s.tally p verdicts held bytes
  pub stage_is : StageIs p message s.stage
  pub room : 1472 ≤ length message
  pub lent : Lent verdicts held bytes
  pub small : Small verdicts held bytes

-- ---- Any numbers

-- bytes of a message are still to come
abbrev pub is_inside : Progress → Bool
is_inside p = nat_lt p.read p.size

-- as any Progress is read: `stage` above 3 as 3; `size` and `read` in a message alone, and there no `stage`; `high` after the high byte alone
abbrev pub tidied : Progress → Progress
tidied p =
    record {
      began = p.began;
      stage = cond (is_inside p) 0 (min p.stage 3);
      high = cond (is_inside p) 0 (cond (p.stage == 2) p.high 0);
      size = cond (is_inside p) p.size 0;
      read = cond (is_inside p) p.read 0;
      messages = p.messages;
      lease = lease_in (lease_of p.lease);
    }

abbrev pub stage_numbered : (stage high : ℕ) → Stage
stage_numbered zero h = at_tag
stage_numbered (suc zero) h = at_high
stage_numbered (suc (suc zero)) h = at_low h
stage_numbered (suc (suc (suc n))) h = stopped

-- what was read of a message; of one that is longer than the buffer nothing counts but how much
abbrev pub kept_of : Progress → List ℕ → List ℕ
kept_of p message = cond (nat_le p.size (length message)) (take p.read message) (replicate p.read 0)

abbrev pub stage_of : Progress → List ℕ → Stage
stage_of p message = cond (is_inside p) (inside (p.size - p.read - 1) (kept_of p message)) (stage_numbered p.stage p.high)

-- the running tally that any numbers stand for
abbrev pub run_of : Progress → List ℕ → List ℕ → List ℕ → List ℕ → Run
run_of p message verdicts held bytes =
    record {
      began = p.began;
      stage = stage_of p message;
      tally = record { messages = p.messages; accepts = slice_index verdicts 0; refusals = drop 1 verdicts; held = held; bytes = bytes; lease = lease_of p.lease };
    }

abbrev pub EveryStateStands : Type 0
EveryStateStands =
    (p : Progress) (message verdicts held bytes : List ℕ) → 1472 ≤ length message → Lent verdicts held bytes → Small verdicts held bytes
    → Stands (run_of p message verdicts held bytes) (tidied p) message verdicts held bytes

-- where the numbers stand for a running tally they are read as they are
abbrev pub StandingIsTidy : Type 0
StandingIsTidy = (s : Run) (p : Progress) (message verdicts held bytes : List ℕ) → Stands s p message verdicts held bytes → tidied p ≡ p

-- ---- The contracts

-- whatever the numbers stand for: the bytes `part` are taken too
abbrev pub Takes : List ℕ → Progress → List ℕ → List ℕ → List ℕ → List ℕ → Progress → List ℕ → List ℕ → List ℕ → List ℕ → Type 0
Takes part p message verdicts held bytes p' message' verdicts' held' bytes' =
    (s : Run) → Stands s p message verdicts held bytes → Stands (fed64 s part) p' message' verdicts' held' bytes'

-- [H5] of any Progress
abbrev pub Feeds : List ℕ → Progress → List ℕ → List ℕ → List ℕ → List ℕ → Progress → List ℕ → List ℕ → List ℕ → List ℕ → Type 0
Feeds part p message verdicts held bytes p' message' verdicts' held' bytes' = Takes part (tidied p) message verdicts held bytes p' message' verdicts' held' bytes'

-- [H5] "begun empty": this, with lent numbers that are zeros
abbrev pub none_read : Progress
none_read = record { began = 0; stage = 0; high = 0; size = 0; read = 0; messages = 0; lease = None }

abbrev pub BegunEmpty : Type 0
BegunEmpty = (message : List ℕ) → 1472 ≤ length message → Stands begun none_read message (replicate 8 0) (replicate 256 0) (replicate 256 0)

-- ---- Internals

-- a record with this tag is taken where so many messages were before
abbrev pub taken_value : ℕ → ℕ → Bool
taken_value tag n = cond (tag == 1) (nat_lt n most_messages) false

-- what stands behind a message of n bytes, with this lease time: the next record begins there
abbrev pub behind_of : Progress → ℕ → Option ℕ → Progress
behind_of p n t =
    record {
      began = ((p.began + 3) % 2 ^ 64 + n) % 2 ^ 64;
      stage = 0;
      high = 0;
      size = 0;
      read = 0;
      messages = (p.messages + 1) % 2 ^ 64;
      lease = widened_by t p.lease;
    }

-- a message of n bytes is noted
pub record NotesKept (n : ℕ) (message verdicts held bytes : List ℕ) (t : Option ℕ) (verdicts' held' bytes' : List ℕ) : Type 0 where
  pub if_kept : n ≤ length message → Notes (read_message (take n message)) verdicts held bytes t verdicts' held' bytes'
  pub if_long : length message < n → (p : ℕ) → Notes (refused 2 p) verdicts held bytes t verdicts' held' bytes'

-- a message of n bytes is closed
abbrev pub Closes : ℕ → Progress → List ℕ → List ℕ → List ℕ → List ℕ → Progress → List ℕ → List ℕ → List ℕ → Type 0
Closes n p message verdicts held bytes p' verdicts' held' bytes' =
    (i : ℕ) (kept : List ℕ) (x : Tally) → n ≡ length kept → 1472 ≤ length message → (n ≤ length message → take n message ≡ kept) → Holds i x p verdicts held bytes → Lent verdicts held bytes
    → Small verdicts held bytes → Stands (closed64 i kept x) p' message verdicts' held' bytes'

-- a whole record, which is taken where so many messages were before
pub record Whole (messages : ℕ) (run : List ℕ) : Type 0 where
  pub high : ℕ
  pub low : ℕ
  pub body : List ℕ
  pub is : run ≡ 1 ∷ high ∷ low ∷ body
  pub size : length body ≡ 256 * high + low
  pub few : messages < 1000000

-- which bytes are taken at once: some of those that are still to come of a message; else a whole record, or one byte
pub record Fitting (p : Progress) (run : List ℕ) : Type 0 where
  pub some : 0 < length run
  pub of_message : p.read < p.size → length run ≤ p.size - p.read
  pub of_head : p.size ≤ p.read → (length run ≡ 1) ⊎ ((p.stage ≡ 0) × Whole p.messages run)

-- bytes of a message that are kept
pub record Keeps (size read : ℕ) (run old new : List ℕ) : Type 0 where
  pub same_length : length new ≡ length old
  pub kept : size ≤ length old → take (read + length run) new ≡ take read old ++ run
