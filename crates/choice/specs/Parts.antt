-- What the functions below `choose` are held to. No public contract rests on it. Assumes nothing.
use Rattle.std.specs.Prelude.{◌≡◌, List, ◌++◌, ℕ, ◌+◌, ◌≤◌, length, drop, Option, Some, None, Result, Ok, Err}
use Rattle.options.specs.Message.{Rec}
use Rattle.options.specs.Answers.{passed, refused_with, record_bytes}
use Rattle.options.specs.SheetWalk.{all_read, records_from}
use Rattle.options.specs.Grouped.{Items, fault_of, chosen}
use Rattle.buffer.specs.Written.{Written}
use Rattle.refusal.specs.declared.Refusal.{Refusal}
use Rattle.refusal.specs.Refused.{number_of}
use Rattle.groups.specs.Parts.{items_from}
use Rattle.choice.specs.declared.Passed.{Passed}

-- no fault, and the chosen records are written over `old` from o on, not past `bound`; or the first fault
abbrev pub Chose : Items → (class old : List ℕ) → (o bound : ℕ) → Result ℕ Refusal → (after : List ℕ) → Type 0
Chose w class old o bound (Ok e) after = (fault_of w ≡ passed) × Written old o (record_bytes (chosen class w)) e after × (e ≤ bound)
Chose w class old o bound (Err r) after = fault_of w ≡ refused_with (number_of r.rule) r.place

-- an item without a fault, up to the place n: what is chosen of it is written up to e, and the rest is what is chosen from n on
pub record Item (d : ℕ) (class s : List ℕ) (at : ℕ) (old : List ℕ) (o n e : ℕ) (after : List ℕ) : Type 0 where
  pub on : at + 3 ≤ n
  pub within : n ≤ length s
  pub short : e ≤ n
  pub no_fault : fault_of (items_from s d at) ≡ fault_of (items_from s d n)
  pub records : List Rec
  pub first : chosen class (items_from s d at) ≡ records ++ chosen class (items_from s d n)
  pub written : Written old o (record_bytes records) e after

-- the item at a place, d depths being left for a group there: nothing more; an item, and what is passed of it; the first fault of one
abbrev pub Picks : (d : ℕ) (class s : List ℕ) (at : ℕ) (old : List ℕ) (o : ℕ) → Result (Option Passed) Refusal → (after : List ℕ) → Type 0
Picks d class s at old o (Ok None) after = (records_from at 0 (drop at s) ≡ all_read) × (after ≡ old)
Picks d class s at old o (Ok (Some p)) after = Item d class s at old o p.at p.end after
Picks d class s at old o (Err r) after = fault_of (items_from s d at) ≡ refused_with (number_of r.rule) r.place
