-- How the code fills an index, option after option: no public contract rests on this. While it is filled, the entries of 0, 52 and 255 hold a mark, so that
-- one test of an entry tells what needs a closer look: a pad, END, option 52, or a code that was met before. Assumes nothing.
use Rattle.std.specs.Prelude.{◌≡◌, cond, not, List, [], ◌∷◌, ℕ, ◌+◌, ◌≤◌, ◌<◌, length, get_or, set, replicate, drop, eqb, Option, Some, None, Result, Ok, Err}
use Rattle.options.specs.Message.{Field, Opt, place}
use Rattle.options.specs.Reading.{Reading, accepted, refused, items, overload, judge, parse}
use Rattle.options.specs.Index.{index_of}
use Rattle.refusal.specs.declared.Refusal.{Refusal}
use Rattle.refusal.specs.Refused.{number_of}
use Rattle.index.specs.declared.Next.{Next}

-- the entry e of the code c after an option with it, at the place p
abbrev pub entry_after_value : ℕ → ℕ → ℕ → ℕ
entry_after_value e c p = cond (eqb c 52) p (cond (eqb e 0) p 65535)

abbrev pub noted : List ℕ → ℕ → ℕ → List ℕ
noted idx c p = set idx c (entry_after_value (get_or idx c 0) c p)

unfoldable pub note_all : List ℕ → List Opt → List ℕ
note_all idx [] = idx
note_all idx (o ∷ os) = note_all (noted idx o.item.tag (place o)) os

-- the entries before the first option
abbrev pub blank : List ℕ
blank = set (set (set (replicate 256 0) 0 65535) 52 65535) 255 65535

-- the entry of 52 without its mark
abbrev pub unmarked : ℕ → ℕ
unmarked e = cond (eqb e 65535) 0 e

-- all without the marks
abbrev pub cleaned : List ℕ → List ℕ
cleaned idx = set (set (set idx 0 0) 52 (unmarked (get_or idx 52 0))) 255 0

pub record Marked (idx : List ℕ) : Type 0 where
  pub size : length idx ≡ 256
  pub pad_marked : get_or idx 0 0 ≡ 0 → ⊥
  pub over_marked : get_or idx 52 0 ≡ 0 → ⊥
  pub end_marked : get_or idx 255 0 ≡ 0 → ⊥

-- r is what is given of what w reads, and `last` the index that it leaves
abbrev pub Enters : {A : Type 0} → List ℕ → Reading → Result A Refusal → List ℕ → Type 0
Enters idx (refused n p) (Err r) last = (number_of r.rule ≡ n) × (r.place ≡ p)
Enters idx (refused n p) (Ok x) last = ⊥
Enters idx (accepted os) (Err r) last = ⊥
Enters idx (accepted os) (Ok x) last = last ≡ note_all idx os

-- and with the value of option 52 (0: not met), which was `over` before
abbrev pub over_from : ℕ → List Opt → ℕ
over_from over os = cond (eqb over 0) (overload (items os)) over

abbrev pub Notes : ℕ → List ℕ → Reading → Result ℕ Refusal → List ℕ → Type 0
Notes over idx (refused n p) (Err r) last = (number_of r.rule ≡ n) × (r.place ≡ p)
Notes over idx (refused n p) (Ok v) last = ⊥
Notes over idx (accepted os) (Err r) last = ⊥
Notes over idx (accepted os) (Ok v) last = (last ≡ note_all idx os) × (v ≡ over_from over os)

-- what is read of the field fd, whose bytes are f, from the offset i on, where option 52 had the value `over` before
abbrev pub reading : Field → List ℕ → ℕ → ℕ → Reading
reading fd f over i = judge fd (not (eqb over 0)) (parse i 0 (drop i f))

-- what is left from an offset j on, with the value `over'` and the index `idx'`, gives what is left from i on, with those before
abbrev pub Leads : Field → List ℕ → (i over : ℕ) → List ℕ → (j over' : ℕ) → List ℕ → Type 0
Leads fd f i over idx j over' idx' =
    (r : Result ℕ Refusal) (last : List ℕ) → Notes over' idx' (reading fd f over' j) r last → Notes over idx (reading fd f over i) r last

-- e is the first offset after the option at i, whose code has no entry yet
pub record FirstEnd (idx f : List ℕ) (i e : ℕ) : Type 0 where
  pub is_end : e ≡ i + 2 + get_or f (i + 1) 0
  pub within : e ≤ length f
  pub no_entry : get_or idx (get_or f i 0) 0 ≡ 0

-- the walk goes on from the offset i at j
pub record GoesOn (fd : Field) (f : List ℕ) (i over : ℕ) (idx : List ℕ) (j over' : ℕ) (idx' : List ℕ) : Type 0 where
  pub marks_kept : Marked idx'
  pub onward : i < j
  pub within : j ≤ length f
  pub leads : Leads fd f i over idx j over' idx'

-- or it ends
pub record Ends (fd : Field) (f : List ℕ) (i over : ℕ) (idx : List ℕ) (r : Result ℕ Refusal) (idx' : List ℕ) : Type 0 where
  pub marks_kept : Marked idx'
  pub notes : Notes over idx (reading fd f over i) r idx'

-- a closer look at the offset i comes to r
abbrev pub LooksAt : Field → List ℕ → (i over : ℕ) → List ℕ → Result (Option Next) Refusal → List ℕ → Type 0
LooksAt fd f i over idx (Ok (Some x)) idx' = GoesOn fd f i over idx x.at x.over idx'
LooksAt fd f i over idx (Ok None) idx' = Ends fd f i over idx (Ok over) idx'
LooksAt fd f i over idx (Err r) idx' = Ends fd f i over idx (Err r) idx'

-- the walk of a field from its first byte on
abbrev pub Walks : Field → List ℕ → List ℕ → Result ℕ Refusal → List ℕ → Type 0
Walks fd f idx r last = Ends fd f 0 0 idx r last

-- r is what is given of what w reads, and where that is accepted `last` is its index
abbrev pub Indexes : {A : Type 0} → Reading → Result A Refusal → List ℕ → Type 0
Indexes (refused n p) (Err r) last = (number_of r.rule ≡ n) × (r.place ≡ p)
Indexes (refused n p) (Ok x) last = ⊥
Indexes (accepted os) (Err r) last = ⊥
Indexes (accepted os) (Ok x) last = last ≡ index_of os
