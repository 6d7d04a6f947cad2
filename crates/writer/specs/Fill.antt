-- What the private functions are held to: a field filled with pieces. Assumes nothing.
use Rattle.std.specs.Prelude.{◌≡◌, List, [], cond, ℕ, ◌*◌, ◌/◌, ◌%◌, ◌≤◌, length, take, eqb}
use Rattle.options.specs.Message.{Rec}
use Rattle.options.specs.Writing.{fits, field_bytes_value, pieces_left, Between}
use Rattle.plan.specs.Steps.{Single}

-- a field of n bytes with the pieces that fit; one without a byte stays so
unfoldable pub filled : ℕ → List Rec → List ℕ
unfolding fits field_bytes_value
filled n ps = cond (eqb n 0) [] (field_bytes_value n (take (fits n ps) ps))

-- END, and option 52 where plan p has it
abbrev pub least_room : ℕ → ℕ
least_room p = cond (eqb p 0) 1 4

-- a place between two pieces in one number: that of their record, and 65,536 for each piece of 255 bytes before
abbrev pub place_in : ℕ → ℕ
place_in spot = spot % 65536

abbrev pub done_in : ℕ → ℕ
done_in spot = 255 * (spot / 65536)

abbrev pub pieces_at : List ℕ → ℕ → List Rec
pieces_at s spot = pieces_left s (place_in spot) (done_in spot)

pub record Spot (s : List ℕ) (single spot : ℕ) : Type 0 where
  pub few : length s ≤ 4096
  pub between : Between s (place_in spot) (done_in spot)
  pub singles : Single s single (place_in spot) (done_in spot)

-- such a place, from which on the sheet is these pieces
pub record Left (s : List ℕ) (single : ℕ) (ps : List Rec) (spot : ℕ) : Type 0 where
  pub pieces : pieces_at s spot ≡ ps
  pub spot_is : Spot s single spot
