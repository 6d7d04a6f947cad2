-- SUB-OPTIONS ARE WALKED AS THE ITEMS OF VENDOR INFORMATION ARE, BUT FOR PADS AND END (document 02, request 09: "sub-options of code, length, data; no pads, no END"): `SubOptions.sub_options` against
-- `Reading.parse`. Assumes nothing.
use Rattle.std.specs.Prelude.{◌≡◌, List, [], ◌∷◌, ℕ}
use Rattle.options.specs.Reading.{parse}
use Rattle.options.specs.SubOptions.{sub_options}
use Rattle.options.specs.Vendor.{Item, listed, items_in}

-- none has the code of a pad or of END
abbrev pub Unmarked : List Item → Type 0
Unmarked [] = Unit {0}
Unmarked (x ∷ xs) = (x.item.tag ≡ 0 → ⊥) × (x.item.tag ≡ 255 → ⊥) × Unmarked xs

-- [V1, Y1] sub-options with other codes are listed by both walks, at the same places
abbrev pub WalkedAlike : Type 0
WalkedAlike = (f : List ℕ) (xs : List Item) → items_in (sub_options 0 0 f) ≡ listed xs → Unmarked xs → items_in (parse 0 0 f) ≡ listed xs
