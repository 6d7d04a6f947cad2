-- WHERE THE OPTIONS FIELD ENDS: the place of its END, behind which a sender may cut a message off. Assumes nothing.
use Rattle.std.specs.Prelude.{List, [], ◌∷◌, cond, ℕ, zero, suc, ◌+◌, eqb}
use Rattle.options.specs.Message.{options, start, bytes}
use Rattle.options.specs.Reading.{span, Reading, accepted, refused, read_message}

-- [Q19] how many bytes of a field stand before its END: pads and whole options. The next `skip` bytes belong to the option before; without END, all bytes do
unfoldable pub before_end : ℕ → List ℕ → ℕ
before_end zero [] = 0
before_end zero (b ∷ bs) =
    let more : ℕ = suc (before_end (span b bs) bs) in
    cond (eqb b 255) 0 more
before_end (suc skip) [] = 0
before_end (suc skip) (b ∷ bs) = suc (before_end skip bs)

-- [Q19, R0] the place of END, or number and place of the message's refusal
pub data EndAnswer : Type 0 where
  ends_at : (place : ℕ) → EndAnswer
  without_end : (number place : ℕ) → EndAnswer

abbrev pub end_in : List ℕ → Reading → EndAnswer
end_in m (refused n p) = without_end n p
end_in m (accepted os) = ends_at (start options + before_end 0 (bytes options m))

-- [Q19]
unfoldable pub options_end_value : List ℕ → EndAnswer
unfolding before_end read_message
options_end_value m = end_in m (read_message m)
