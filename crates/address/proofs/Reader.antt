-- The steps of a reader give the addresses of its list. Assumes nothing.
use Rattle.std.proofs.Common.{◌≡◌, refl, ap, List, [], ◌∷◌, ℕ, ◌+◌, drop, Option, Some, None}
use Rattle.std.proofs.Math.Seq.{drop-drop}
use Rattle.options.specs.Kinds.{addresses_of}
use Rattle.options.specs.Answers.{AddressStep, next, done, step_in, address_step}
use Rattle.address.specs.declared.AddressReader.{AddressReader}
use Rattle.address.specs.declared.Entry.{Entry}
use Rattle.address.specs.Walk.{step_by, address_in, place_in, moved, Gives, no_more, one_more, ReaderGivesTheAddresses, entry_of, EntryKeepsTheStep, DoneGivesNothing}

abbrev at_step : AddressReader → AddressStep → AddressReader
at_step r x = record { list = r.list; at = place_in r.at x }

-- no address is left
ends : (r : AddressReader) → address_step r.list.now r.at ≡ done → Gives r []
ends r e = no_more (ap address_in e) (ap (at_step r) e)

-- the bytes xs are left
from : (r : AddressReader) (xs : List ℕ) → drop r.at r.list.now ≡ xs → Gives r (addresses_of xs)
unfolding addresses_of address_step
from r [] h = ends r (ap (step_in r.at) h)
from r (a ∷ []) h = ends r (ap (step_in r.at) h)
from r (a ∷ b ∷ []) h = ends r (ap (step_in r.at) h)
from r (a ∷ b ∷ c ∷ []) h = ends r (ap (step_in r.at) h)
from r (a ∷ b ∷ c ∷ e ∷ xs) h =
    let s : address_step r.list.now r.at ≡ step_in r.at (a ∷ b ∷ c ∷ e ∷ xs) = ap (step_in r.at) h in
    let after : (moved r).at ≡ r.at + 4 = ap (place_in r.at) s in
    let left : drop (r.at + 4) r.list.now ≡ xs = rw (← drop-drop 4 r.at r.list.now, h) in
    one_more (ap address_in s) refl (from (moved r) xs (rw after left))

pub reader_gives_the_addresses : ReaderGivesTheAddresses
reader_gives_the_addresses r = from r (drop r.at r.list.now) refl

kept : (s : AddressStep) → step_by (entry_of s) ≡ s
kept (next a k) = refl
kept done = refl

back : (e : Option Entry) → entry_of (step_by e) ≡ e
back None = refl
back (Some x) = refl

pub entry_keeps_the_step : EntryKeepsTheStep
entry_keeps_the_step = (kept, back)

none : (e : Option Entry) → step_by e ≡ done → e ≡ None
none None e = refl
none (Some x) e = cc

pub done_gives_nothing : DoneGivesNothing
done_gives_nothing at = record { no_entry = none; no_address = refl; same_place = refl }
