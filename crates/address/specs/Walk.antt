-- THE ADDRESS WALK (document 01, Address walk): the step that options defines, as this crate's types hold it, and what the steps of a reader give. Assumes nothing.
use Rattle.std.specs.Prelude.{◌≡◌, List, [], ◌∷◌, ℕ, drop, Option, Some, None}
use Rattle.options.specs.Kinds.{addresses_of}
use Rattle.options.specs.Answers.{AddressStep, next, done, address_step}
use Rattle.address.specs.declared.AddressReader.{AddressReader}
use Rattle.address.specs.declared.Entry.{Entry}

-- ---- What the contracts say

-- the step that is taken: "the next address, and the reader moved on, or done"
abbrev pub step_by : Option Entry → AddressStep
step_by None = done
step_by (Some e) = next e.address e.next

-- what the iterator gives of a step
abbrev pub address_in : AddressStep → Option ℕ
address_in (next address after) = Some address
address_in done = None

-- where it leaves a reader that was at the offset `at`
abbrev pub place_in : ℕ → AddressStep → ℕ
place_in at (next address after) = after
place_in at done = at

-- the reader's next address
abbrev pub address_of : AddressReader → Option ℕ
address_of r = address_in (address_step r.list.now r.at)

-- the reader moved on
abbrev pub moved : AddressReader → AddressReader
moved r = record { list = r.list; at = place_in r.at (address_step r.list.now r.at) }

-- the addresses from the reader's place on
abbrev pub left : AddressReader → List ℕ
left r = addresses_of (drop r.at r.list.now)

-- ---- What is proved of them

-- the steps of a reader give just these addresses, in order, each on the list that it was opened on; then none, and the reader stays where it is
pub data Gives : AddressReader → List ℕ → Type 0 where
  no_more : {r : AddressReader} → address_of r ≡ None → moved r ≡ r → Gives r []
  one_more : {r : AddressReader} {x : ℕ} {xs : List ℕ} → address_of r ≡ Some x → (moved r).list ≡ r.list → Gives (moved r) xs → Gives r (x ∷ xs)

-- a reader gives the addresses from its place on, and so all of them where it was just opened
abbrev pub ReaderGivesTheAddresses : Type 0
ReaderGivesTheAddresses = (r : AddressReader) → Gives r (addresses_of (drop r.at r.list.now))

-- the entry that holds a step
abbrev pub entry_of : AddressStep → Option Entry
entry_of (next address after) = Some (record { address = address; next = after })
entry_of done = None

-- an entry loses nothing of the step, and the step determines the entry
abbrev pub EntryKeepsTheStep : Type 0
EntryKeepsTheStep = ((s : AddressStep) → step_by (entry_of s) ≡ s) × ((e : Option Entry) → entry_of (step_by e) ≡ e)

-- done is no entry: it gives no address and leaves the place as it was
pub record NothingGiven (at : ℕ) : Type 0 where
  pub no_entry : (e : Option Entry) → step_by e ≡ done → e ≡ None
  pub no_address : address_in done ≡ None
  pub same_place : place_in at done ≡ at

abbrev pub DoneGivesNothing : Type 0
DoneGivesNothing = (at : ℕ) → NothingGiven at
