-- WHAT ONE MESSAGE MORE ADDS, in the numbers that the caller lends. Assumes nothing.
use Rattle.std.specs.Prelude.{◌≡◌, ℕ, zero, suc, ◌+◌, ◌%◌, ◌^◌, ◌<◌, ◌≤◌, true, false, cond, List, [], ◌∷◌, length, ◌==◌, slice_index}
use Rattle.std.specs.Prelude as code
use Rattle.std.proofs.Math.Option.{Option, none, some}
use Rattle.options.specs.Message.{Opt, end_to_end}
use Rattle.options.specs.Reading.{Reading, pieces}
use Rattle.options.specs.Captures.{if_accepted, if_refused_by, one_if_any, if_holds, joined_size, lease_time, widened, Lease, no_lease, leases}
use Rattle.records.specs.Places.{Stands, left_at, bytes_left}
use Rattle.tally.specs.declared.Lease as coded
use Rattle.tally.specs.declared.Tally.{Tally}

-- the lease times as the code holds them
abbrev pub lease_of : code.Option coded.Lease → Lease
lease_of code.None = no_lease
lease_of (code.Some l) = leases l.smallest l.largest

-- and as it gives them
abbrev pub lease_in : Lease → code.Option coded.Lease
lease_in no_lease = code.None
lease_in (leases s l) = code.Some (record { smallest = s; largest = l })

-- the lease time of a message, as the code holds it and as it gives it
abbrev pub time_of : code.Option ℕ → Option ℕ
time_of code.None = none
time_of (code.Some n) = some n

abbrev pub time_in_value : Option ℕ → code.Option ℕ
time_in_value none = code.None
time_in_value (some n) = code.Some n

-- lease times with that of a message; without one they stay as they are
abbrev pub widened_by : code.Option ℕ → code.Option coded.Lease → code.Option coded.Lease
widened_by t l = lease_in (widened (time_of t) (lease_of l))

-- each number, of 64 bits as every one that is lent, is raised by what f says of its place, modulo 2 ^ 64. NoSumWraps says that no number of a file comes near that
pub record Raises (f : ℕ → ℕ) (xs ys : List ℕ) : Type 0 where
  pub same_length : length ys ≡ length xs
  pub each : (i : ℕ) → i < length xs → slice_index xs i < 2 ^ 64 → slice_index ys i ≡ (slice_index xs i + f i) % 2 ^ 64

-- accepted; and refused by n
abbrev pub verdict_count : Reading → ℕ → ℕ
verdict_count w zero = if_accepted w
verdict_count w (suc n) = if_refused_by (suc n) w

-- a message with the reading w is noted
pub record Notes (w : Reading) (verdicts held bytes : List ℕ) (t : code.Option ℕ) (verdicts' held' bytes' : List ℕ) : Type 0 where
  pub verdicts_raised : Raises (verdict_count w) verdicts verdicts'
  pub held_raised : Raises (λ c. if_holds c w) held held'
  pub bytes_raised : Raises (λ c. joined_size c w) bytes bytes'
  pub time_is : t ≡ time_in_value (lease_time w)

-- how many numbers are lent: of each verdict, 0 to 7; and twice of each code
pub record Lent (verdicts held bytes : List ℕ) : Type 0 where
  pub eight : length verdicts ≡ 8
  pub held_all : length held ≡ 256
  pub bytes_all : length bytes ≡ 256

-- with other numbers nothing is noted
pub record Noted (w : Reading) (verdicts held bytes : List ℕ) (t : code.Option ℕ) (verdicts' held' bytes' : List ℕ) : Type 0 where
  pub if_lent : Lent verdicts held bytes → Notes w verdicts held bytes t verdicts' held' bytes'
  pub if_not : (Lent verdicts held bytes → ⊥) → (t ≡ time_in_value none) × (verdicts' ≡ verdicts) × (held' ≡ held) × (bytes' ≡ bytes)

-- the numbers of t', whatever they are, are where those of t were
pub record StaysLent (t t' : Tally) : Type 0 where
  pub verdicts_same : t'.verdicts.ghost_name ≡ t.verdicts.ghost_name
  pub held_same : t'.held.ghost_name ≡ t.held.ghost_name
  pub bytes_same : t'.bytes.ghost_name ≡ t.bytes.ghost_name

-- ---- Internals

-- the one number at k raised by n
abbrev pub only_at : ℕ → ℕ → ℕ → ℕ
only_at k n i = cond (i == k) n 0

-- the set of 0 and 255, which are no codes
abbrev pub end_marks_value : List ℕ
end_marks_value = 1 ∷ 0 ∷ 0 ∷ 9223372036854775808 ∷ []

-- the walk over an accepted message comes from the place i to j, or stays, and passes no option between
pub record Reaches (v : ℕ) (m : List ℕ) (i j : ℕ) : Type 0 where
  pub stands : Stands v m j
  pub same : left_at v m i ≡ left_at v m j
  pub most : bytes_left m j ≤ bytes_left m i

-- by code, the messages that hold it, and the bytes of its pieces: of a message with these options
pub record CountsOptions (os : List Opt) (held held' bytes bytes' : List ℕ) : Type 0 where
  pub held_raised : Raises (λ c. one_if_any (pieces c os)) held held'
  pub bytes_raised : Raises (λ c. length (end_to_end (pieces c os))) bytes bytes'
