-- The answer of the reader of relay information as the code holds it: the public contract rests on this. Assumes nothing.
use Rattle.std.specs.Prelude.{◌≡◌, List, ℕ, Option, Some, None, Result, Ok, Err}
use Rattle.options.specs.Relay as asked
use Rattle.refusal.specs.declared.Refusal.{Refusal}
use Rattle.filled.specs.Fill.{Fills}
use Rattle.item_reader.specs.declared.Id.{Id}
use Rattle.item_reader.specs.declared.Read.{Read}
use Rattle.item_reader.specs.Walked.{id_of}

-- what is given, and each id: a refusal names none
abbrev pub given_in : Result Read Refusal → Result ℕ Refusal
given_in (Ok r) = Ok r.size
given_in (Err e) = Err e

abbrev pub circuit_in : Result Read Refusal → Option Id
circuit_in (Ok r) = r.circuit
circuit_in (Err e) = None

abbrev pub remote_in : Result Read Refusal → Option Id
remote_in (Ok r) = r.remote
remote_in (Err e) = None

-- the answer is x's, and the buffer is left as x says
pub record ReadAs (x : asked.RelayRead) (r : Result Read Refusal) (after : List ℕ) : Type 0 where
  pub fills : Fills x.filled (given_in r) after
  pub circuit_is : id_of (circuit_in r) ≡ x.circuit
  pub remote_is : id_of (remote_in r) ≡ x.remote

-- [Y3] "each absent or the first of that code, as its data's start and length in the bytes given"
pub data Tells : asked.Id → Option Id → Type 0 where
  tells_none : Tells asked.absent None
  tells_named : (s n : ℕ) → Tells (asked.named s n) (Some (record { start = s; length = n }))

-- circuit id and remote id are told by case, each in its own member
abbrev pub IdByCase : Type 0
IdByCase = (x : asked.RelayRead) (r : Result Read Refusal) (after : List ℕ) → ReadAs x r after → Tells x.circuit (circuit_in r) × Tells x.remote (remote_in r)
