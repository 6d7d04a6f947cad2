-- THE LISTING IN A LENT BUFFER (docs/RULES.md, L4). Assumes nothing.
use Rattle.std.specs.Prelude.{List, ℕ}
use Rattle.options.specs.Answers.{Filled, filled_with, listing}

-- [L4] the text of the listing, that of a refused message too, at the front of the buffer `old`; or 11 where that is too small
unfoldable pub listed : List ℕ → List ℕ → Filled
unfolding listing
listed m old = filled_with (listing m) old

-- [L4] the room that is always enough: DHCPOPT_LONGEST_LISTING of include/dhcpopt.h
abbrev pub longest_listing : ℕ
longest_listing = 16384
