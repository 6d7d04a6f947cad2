-- THE KINDS AS NUMBERS: 1 to 11 in the order of document 01's table, 12 for relay information, 13 for classless routes, 0 for a code without a row; and the number of a fault, 8 or 9, or 0 for none.
-- Assumes nothing.
use Rattle.std.specs.Prelude.{◌≡◌, List, [], Bool, true, false, cond, ◌↔◌, ℕ, ◌%◌, ◌≤◌, eqb, leb}
use Rattle.std.proofs.Math.Option.{Option, none, some}
use Rattle.options.specs.Reading.{either}
use Rattle.options.specs.Kinds.{Kind, address, addresses, pairs, flag, octet, number16, numbers16, unsigned32, signed32, text, opaque, relay, routes, Lengths, is_length, Values, any, between, one_of, at_least, rising_from, destinations, ascii, suboptions, routed, value_fault_value, Row, rows, fault, Value, broken, number, part, kinds}
use Rattle.options.specs.Answers.{is_text_value}
use Rattle.ranges.specs.Rows.{number_of, row_from}

abbrev pub kind_number : Option Kind → ℕ
kind_number none = 0
kind_number (some k) = number_of k

-- the kind with a number; opaque for a number that no kind has
abbrev pub kind_at : ℕ → Kind
kind_at n =
    cond (eqb n 1) address
    (cond (eqb n 2) addresses
    (cond (eqb n 3) pairs
    (cond (eqb n 4) flag
    (cond (eqb n 5) octet
    (cond (eqb n 6) number16
    (cond (eqb n 7) numbers16
    (cond (eqb n 8) unsigned32
    (cond (eqb n 9) signed32
    (cond (eqb n 10) text (cond (eqb n 12) relay (cond (eqb n 13) routes opaque)))))))))))

-- the kind that a number stands for: none for 0, and for a number that no kind has
abbrev pub kind_from : ℕ → Option Kind
kind_from n =
    cond (eqb n 1) (some address)
    (cond (eqb n 2) (some addresses)
    (cond (eqb n 3) (some pairs)
    (cond (eqb n 4) (some flag)
    (cond (eqb n 5) (some octet)
    (cond (eqb n 6) (some number16)
    (cond (eqb n 7) (some numbers16)
    (cond (eqb n 8) (some unsigned32)
    (cond (eqb n 9) (some signed32)
    (cond (eqb n 10) (some text)
    (cond (eqb n 11) (some opaque) (cond (eqb n 12) (some relay) (cond (eqb n 13) (some routes) none))))))))))))

-- a number loses nothing of the row, and is one of 1 to 13, or 0 for none
abbrev pub NumbersKeepTheKind : Type 0
NumbersKeepTheKind = (o : Option Kind) → kind_from (kind_number o) ≡ o

abbrev pub number_of_fault : Value → ℕ
number_of_fault (broken n) = n
number_of_fault (number k z) = 0
number_of_fault (part k n) = 0

-- "8: length breaks the kind. 9: value breaks the kind": how the data d breaks the row of the code c, or 0
unfoldable pub fault_of : ℕ → List ℕ → ℕ
fault_of c d = number_of_fault (kinds.value c d)

-- ---- By the number of a row

-- the row with a number; a number that no row has counts as the first row of its kind, where it has a kind
abbrev pub or_else : Option Row → Option Row → Option Row
or_else (some r) o = some r
or_else none o = o

unfoldable pub row_at : ℕ → Option Row
row_at n = or_else (row_from [] rows n) (row_from [] rows (n % 16))

-- its kind as a number, and how the data d breaks it; no row is broken by nothing
abbrev pub kind_numbered : ℕ → ℕ
kind_numbered n = n % 16

abbrev pub fault_in_value : Option Row → List ℕ → ℕ
fault_in_value none d = 0
fault_in_value (some r) d = fault r d

unfoldable pub fault_numbered : ℕ → List ℕ → ℕ
unfolding row_at
fault_numbered n d = fault_in_value (row_at n) d

-- the rule of length, and the rule of value
abbrev pub lengths_of : Option Row → Option Lengths
lengths_of none = none
lengths_of (some r) = some r.lengths

abbrev pub keeps_length : Option Lengths → ℕ → Bool
keeps_length none n = true
keeps_length (some l) n = is_length l n

abbrev pub length_fits_value : Option Row → ℕ → Bool
length_fits_value o n = keeps_length (lengths_of o) n

abbrev pub values_of : Option Row → Option Values
values_of none = none
values_of (some r) = some r.values

abbrev pub breaks_value : Option Values → List ℕ → ℕ
breaks_value none d = 0
breaks_value (some v) d = value_fault_value v d

abbrev pub value_fault_in : Option Row → List ℕ → ℕ
value_fault_in o d = breaks_value (values_of o) d

-- the rules of value that look at every data byte; of the others no more than the first two are looked at
abbrev pub of_each : Values → Bool
of_each any = false
of_each (between least most) = false
of_each (one_of vs) = false
of_each (at_least least) = false
of_each (rising_from least) = true
of_each destinations = true
of_each ascii = true
of_each suboptions = true
of_each routed = true

-- the rows by which every data byte is looked at: by their rule of value, or for the meaning, where a text ends; for the meaning of another kind no more
-- than the first four are looked at
abbrev pub is_list_value : Option Row → Bool
is_list_value none = false
is_list_value (some r) = either (of_each r.values) (is_text_value r.kind)

-- the rule of value in two parts: that of these rows, and that of the others
abbrev pub list_fault_value : Option Row → List ℕ → ℕ
list_fault_value o d = cond (is_list_value o) (value_fault_in o d) 0

-- the first part in two: that of the kinds from 12 on, relay information and classless routes, and that of the others
abbrev pub long_list_fault_value : ℕ → List ℕ → ℕ
long_list_fault_value n d = cond (leb 12 (n % 16)) (list_fault_value (row_at n) d) 0

abbrev pub short_list_fault_value : ℕ → List ℕ → ℕ
short_list_fault_value n d = cond (leb 12 (n % 16)) 0 (list_fault_value (row_at n) d)

abbrev pub number_fault_value : Option Row → List ℕ → ℕ
number_fault_value o d = cond (is_list_value o) 0 (value_fault_in o d)

-- a fault's number tells how the data break the row; 0 tells that they don't
abbrev pub FaultsKeepTheNumber : Type 0
FaultsKeepTheNumber = (c : ℕ) (d : List ℕ) (n : ℕ) → kinds.value c d ≡ broken n ↔ ((1 ≤ n) × (fault_of c d ≡ n))
