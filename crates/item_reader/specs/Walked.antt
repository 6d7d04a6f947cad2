-- What the walk over sub-options tells. Assumes nothing.
use Rattle.std.specs.Prelude.{◌≡◌, IfErr, Bool, true, false, cond, ℕ, length, Option, Some, None, Result, Ok, Err}
use Rattle.options.specs.Answers.{record_bytes}
use Rattle.options.specs.Vendor.{Items, listed, past, item_records}
use Rattle.options.specs.Relay as asked
use Rattle.refusal.specs.declared.Refusal.{Refusal}
use Rattle.refusal.specs.declared.Rule.TheVariants.{BadLength}
use Rattle.item_reader.specs.declared.Id.{Id}
use Rattle.item_reader.specs.declared.Read.{Read}

-- an id as the code has it
abbrev pub id_of : Option Id → asked.Id
id_of None = asked.absent
id_of (Some i) = asked.named i.start i.length

-- the first of a code, after a sub-option of that code
abbrev pub first_id : asked.Id → asked.Id → asked.Id
first_id asked.absent here = here
first_id (asked.named s n) here = asked.named s n

-- an id after a sub-option, which has its code or not
abbrev pub id_after : asked.Id → Bool → ℕ → ℕ → asked.Id
id_after x met here n = cond met (first_id x (asked.named here n)) x

-- whether a sub-option runs past, and where; else the bytes of the records, and the two ids
pub record Walked : Type 0 where
  pub past : Bool
  pub place : ℕ
  pub size : ℕ
  pub circuit : asked.Id
  pub remote : asked.Id

abbrev pub past_at : ℕ → Walked
past_at i = record { past = true; place = i; size = 0; circuit = asked.absent; remote = asked.absent }

abbrev pub walked_with : ℕ → asked.Id → asked.Id → Walked
walked_with n c r = record { past = false; place = 0; size = n; circuit = c; remote = r }

abbrev pub walked_of : Items → Walked
walked_of (past i) = past_at i
walked_of (listed xs) = walked_with (length (record_bytes (item_records xs))) (asked.id_in 1 xs) (asked.id_in 2 xs)

-- the same as the code gives it
abbrev pub walked_by : Result Read Refusal → Walked
walked_by (Ok r) = walked_with r.size (id_of r.circuit) (id_of r.remote)
walked_by (Err e) = past_at e.place

-- each case, member by member, and of an id too; of refusals by the rule that sub-options are refused by nothing is lost
abbrev pub WalkedByCase : Type 0
WalkedByCase =
    (id_of None ≡ asked.absent) × ((i : Id) → id_of (Some i) ≡ asked.named i.start i.length)
    × ((r : Read) → walked_by (Ok r) ≡ record { past = false; place = 0; size = r.size; circuit = id_of r.circuit; remote = id_of r.remote })
    × ((e : Refusal) → walked_by (Err e) ≡ record { past = true; place = e.place; size = 0; circuit = asked.absent; remote = asked.absent })
    × ((a b : Result Read Refusal) → IfErr a (λ e. e.rule ≡ BadLength) → IfErr b (λ e. e.rule ≡ BadLength) → walked_by a ≡ walked_by b → a ≡ b)
