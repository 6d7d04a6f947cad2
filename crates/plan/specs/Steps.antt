-- What the private functions are held to, here and in `writer`: the pieces that a field leaves over, and the first plan that fits. Assumes nothing.
use Rattle.std.specs.Prelude.{◌≡◌, List, [], ◌∷◌, cond, ℕ, ◌<◌, ◌≤◌, length, drop, eqb}
use Rattle.options.specs.Message.{Rec}
use Rattle.options.specs.SheetWalk.{records_left}
use Rattle.options.specs.Writing.{option_bytes, fits, plan_fits, plans, try_plans, pieces_left, Between}
use Rattle.sheet.specs.Judge.{single_to}
use Rattle.plan.specs.Answer.{Choice, answer_of}
use Rattle.plan.specs.declared.Rest.{Rest}

-- the bytes that the options of the pieces take
abbrev pub sizes : List Rec → ℕ
sizes ps = length (option_bytes ps)

-- the pieces that a field of n bytes leaves over
abbrev pub left_over : ℕ → List Rec → List Rec
left_over n ps = drop (fits n ps) ps

-- a place in the sheet, `done` bytes into a record, from which on it is these pieces, to its end
pub record From (s : List ℕ) (ps : List Rec) (place done : ℕ) : Type 0 where
  pub pieces : pieces_left s place done ≡ ps
  pub between : Between s place done

-- a place before `single` is that of a record, and from there up to `single` each is one piece
abbrev pub Single : List ℕ → (single place done : ℕ) → Type 0
Single s single place done = place < single → (done ≡ 0) × (single ≡ single_to place (records_left s place))

-- where what a field of n bytes leaves over begins, and how much it is
pub record RestOf (n : ℕ) (s : List ℕ) (at done : ℕ) (r : Rest) : Type 0 where
  pub from : From s (left_over n (pieces_left s at done)) r.place r.done
  pub onward : at ≤ r.place
  pub total : r.total ≡ sizes (left_over n (pieces_left s at done))

-- the plans that are tried after plan 0
abbrev pub overloading : ℕ → List ℕ
overloading permission =
    cond (eqb permission 0) []
    (cond (eqb permission 1) (1 ∷ [])
    (cond (eqb permission 2) (2 ∷ []) (1 ∷ 3 ∷ [])))

-- the first of these plans that fits, the options field having n bytes; 0 where none does
unfoldable pub first_fit : List ℕ → ℕ → List Rec → ℕ
unfolding plan_fits
first_fit [] n ps = 0
first_fit (p ∷ qs) n ps = cond (plan_fits p n ps) p (first_fit qs n ps)

-- the answer for these pieces, and every buffer of n bytes
abbrev pub Tries : List Rec → ℕ → ℕ → ℕ → Choice → Type 0
Tries ps n permission single r = (m : List ℕ) → length m ≡ n → r ≡ answer_of single (try_plans (plans permission) m ps)
