-- What the code's own functions are held to: no public contract rests on this. Assumes nothing.
use Rattle.std.specs.Prelude.{Bool, true, ℕ, leb}
use Rattle.std.proofs.Math.Option.{Option, none, some}
use Rattle.options.specs.Reading.{among}
use Rattle.options.specs.Kinds.{Row, Values, any, between, one_of, at_least, rising_from, destinations, ascii, suboptions, routed, from_to_value}
use Rattle.kinds.specs.Numbers.{values_of}

-- the rule of a byte, and that of a 16-bit number; other rules ask nothing of them
abbrev pub keeps_octet : Option Values → ℕ → Bool
keeps_octet none v = true
keeps_octet (some any) v = true
keeps_octet (some (between least most)) v = from_to_value least most v
keeps_octet (some (one_of vs)) v = among v vs
keeps_octet (some (at_least least)) v = true
keeps_octet (some (rising_from least)) v = true
keeps_octet (some destinations) v = true
keeps_octet (some ascii) v = true
keeps_octet (some suboptions) v = true
keeps_octet (some routed) v = true

abbrev pub octet_fits_value : Option Row → ℕ → Bool
octet_fits_value o v = keeps_octet (values_of o) v

abbrev pub keeps_number16 : Option Values → ℕ → Bool
keeps_number16 none v = true
keeps_number16 (some any) v = true
keeps_number16 (some (between least most)) v = true
keeps_number16 (some (one_of vs)) v = true
keeps_number16 (some (at_least least)) v = leb least v
keeps_number16 (some (rising_from least)) v = true
keeps_number16 (some destinations) v = true
keeps_number16 (some ascii) v = true
keeps_number16 (some suboptions) v = true
keeps_number16 (some routed) v = true

abbrev pub number16_fits_value : Option Row → ℕ → Bool
number16_fits_value o v = keeps_number16 (values_of o) v
