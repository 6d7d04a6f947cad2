-- What the functions below `check` are held to. Assumes nothing.
use Rattle.std.specs.Prelude.{◌≡◌, List, [], ◌∷◌, cond, ℕ, ◌+◌, length, get_or, drop, eqb, ltb, Option, Some, None, Result, Ok, Err}
use Rattle.options.specs.Reading.{among}
use Rattle.options.specs.Answers.{Verdict, passed, refused_with}
use Rattle.options.specs.SheetWalk.{Walk, all_read, cut_at, read_at, records_from}
use Rattle.options.specs.Grouped.{Items, none, item_of, members, body, fault_of}
use Rattle.refusal.specs.declared.Refusal.{Refusal}
use Rattle.refusal.specs.Refused.{number_of}

-- what a place in a group's body has: nothing more; an item without a fault, and the place behind it; number and place of the first fault of one
pub data Item : Type 0 where
  End : Item
  Next : (at : ℕ) → Item
  Bad : (number place : ℕ) → Item

-- the same as the code gives it
abbrev pub item_told : Result (Option ℕ) Refusal → Item
item_told (Ok None) = End
item_told (Ok (Some n)) = Next n
item_told (Err r) = Bad (number_of r.rule) r.place

-- "one byte n, n bytes of class name": the place behind them, of the group with its tag at `tag` that ends with s; 0 where it is "too short for n and name"
unfoldable pub members_at_value : List ℕ → ℕ → ℕ
members_at_value s tag = cond (ltb (length s) (tag + 4 + get_or s (tag + 3) 0)) 0 (tag + 4 + get_or s (tag + 3) 0)

-- the size of the group that a walk begins with; 0: it begins with none
abbrev pub outermost_size : Walk → ℕ
outermost_size all_read = 0
outermost_size (cut_at p) = 0
outermost_size (read_at p r rest) = cond (eqb r.tag 0) (3 + length r.body) 0

-- the place behind the records that a walk from the place `at` begins with: of a group, of a wrong tag and of what is cut it is their own
unfoldable pub past_records_value : ℕ → Walk → ℕ
past_records_value at all_read = at
past_records_value at (cut_at p) = at
past_records_value at (read_at p r rest) = cond (among r.tag (0 ∷ 52 ∷ 255 ∷ [])) at (past_records_value (at + 3 + length r.body) rest)

-- no record is passed at the place `at`: the members end there, or a group, a wrong tag or what is cut begins
abbrev pub Stops : List ℕ → ℕ → Type 0
Stops s at = past_records_value at (records_from at 0 (drop at s)) ≡ at

abbrev pub given : ℕ → Verdict → Item
given next passed = Next next
given next (refused_with n p) = Bad n p

-- what a walk begins with: the item at its place, d depths being left for a group there
unfoldable pub item_given : ℕ → Walk → Item
unfolding body fault_of
item_given d all_read = End
item_given d (cut_at p) = Bad 20 p
item_given d (read_at p r rest) = given (p + 3 + length r.body) (fault_of (item_of (body d) p r none))

-- the items of a group that ends with s, from a place on, d depths being left for a group among them
abbrev pub items_from : List ℕ → ℕ → ℕ → Items
items_from s d i = members (body d) (records_from i 0 (drop i s))
