-- THE SUB-OPTIONS OF RELAY INFORMATION, option 82 (document 02, request 09; RFC 3046): "sub-options of code, length, data; no pads, no END; any sub-code, in order".
-- The row of 82 and the reader rest on this walk: KindsAreTheTable pins where it finds one that runs past, RelayReaderIsCorrect at which place, and the sub-options.
-- It is the walk of a field (`Reading.parse`) without pads and END. Assumes nothing.
use Rattle.std.specs.Prelude.{List, [], ◌∷◌, cond, ℕ, zero, suc, ◌+◌, get_or}
use Rattle.options.specs.Reading.{Parse, ended, ran_out_value, beyond, found, cut, record_of}

-- [Y1] the sub-option whose code b is at the offset `at`; bs are the bytes after b, and `rest` is what is found after it. Every code is one, 0 and 255 too
abbrev pub sub_option : ℕ → ℕ → List ℕ → Parse → Parse
sub_option at b bs rest = cond (cut bs) (beyond at) (found at (record_of b bs) rest)

-- the bytes from offset `at` on, of which the next `skip` belong to the sub-option before
unfoldable pub sub_options : ℕ → ℕ → List ℕ → Parse
sub_options at zero [] = ran_out_value at
sub_options at zero (b ∷ bs) = sub_option at b bs (sub_options (at + 1) (suc (get_or bs 0 0)) bs)
sub_options at (suc skip) [] = ran_out_value at
sub_options at (suc skip) (b ∷ bs) = sub_options (at + 1) skip bs

-- [K15, R8] 8 "where sub-options don't fill the data exactly"
unfoldable pub fill_fault : Parse → ℕ
fill_fault ended = 0
fill_fault (ran_out_value i) = 0
fill_fault (beyond i) = 8
fill_fault (found i x rest) = fill_fault rest
