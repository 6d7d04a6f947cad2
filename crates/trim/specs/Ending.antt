-- How the code walks a field to its END: no public contract rests on this. Assumes nothing.
use Rattle.std.specs.Prelude.{◌≡◌, List, ℕ, ◌+◌, ◌≤◌, ◌<◌, length, drop, Option, Some, None, Result, Ok, Err}
use Rattle.options.specs.Message.{Field}
use Rattle.options.specs.Reading.{Reading, accepted, refused}
use Rattle.options.specs.Trim.{before_end}
use Rattle.refusal.specs.declared.Refusal.{Refusal}
use Rattle.refusal.specs.Refused.{number_of}
use Rattle.index.specs.Filling.{over_from, reading}
use Rattle.trim.specs.declared.Next.{Next}

-- r is what is given of what w reads: the refusal; or END, at the offset e, and the value of option 52, which was `over` before
abbrev pub Gives : ℕ → Reading → ℕ → Result Next Refusal → Type 0
Gives over (refused n p) e (Err r) = (number_of r.rule ≡ n) × (r.place ≡ p)
Gives over (refused n p) e (Ok x) = ⊥
Gives over (accepted os) e (Err r) = ⊥
Gives over (accepted os) e (Ok x) = (x.at ≡ e) × (x.over ≡ over_from over os)

-- of the field fd, whose bytes are f, from the offset i on
abbrev pub Walks : Field → List ℕ → (over i : ℕ) → Result Next Refusal → Type 0
Walks fd f over i r = Gives over (reading fd f over i) (i + before_end 0 (drop i f)) r

-- the walk goes on from the offset i at j: what is left there gives what is left from i on
pub record GoesOn (fd : Field) (f : List ℕ) (i over j over' : ℕ) : Type 0 where
  pub onward : i < j
  pub within : j ≤ length f
  pub leads : (r : Result Next Refusal) → Walks fd f over' j r → Walks fd f over i r

-- a look at the offset i comes to r: the walk goes on, or it ends there
abbrev pub LooksAt : Field → List ℕ → (i over : ℕ) → Result (Option Next) Refusal → Type 0
LooksAt fd f i over (Ok (Some x)) = GoesOn fd f i over x.at x.over
LooksAt fd f i over (Ok None) = Walks fd f over i (Ok (record { at = i; over = over }))
LooksAt fd f i over (Err r) = Walks fd f over i (Err r)

-- r tells whether w is refused, and how
abbrev pub Judges : {A : Type 0} → Reading → Result A Refusal → Type 0
Judges (refused n p) (Err r) = (number_of r.rule ≡ n) × (r.place ≡ p)
Judges (refused n p) (Ok x) = ⊥
Judges (accepted os) (Err r) = ⊥
Judges (accepted os) (Ok x) = Unit {0}
