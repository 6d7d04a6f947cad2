-- THE RULES THAT A CALL IS REFUSED BY, and their numbers (document 01, Numbers given on refusal; document 02, requests 05 to 14). Assumes nothing.
use Rattle.std.specs.Prelude.{◌≡◌, ℕ, ◌≤◌, Option, Some, None, Result, Ok, Err}
use Rattle.refusal.specs.declared.Fault.{Fault}
use Rattle.refusal.specs.declared.Fault.TheVariants.{Length, Value}
use Rattle.refusal.specs.declared.Rule.{Rule}
use Rattle.refusal.specs.declared.Rule.TheVariants.{MessageTooShort, MessageTooLong, BadCookie, OptionTruncated, NoEnd, BadOverload, Duplicate, BadLength, BadValue, BadCode, NoRoom, RecordTruncated, RecordTooLong, RouterBeforeMask, BadPermission, SheetTooLong, ItemTruncated, BadIndexCount, BadIndexEntry, BadGroup, TooDeep, NoWayBack, RelayNotLast, BadCapture, NoReply, BadRoute}
use Rattle.refusal.specs.declared.Refusal.{Refusal}

-- the number of a rule, as the tables have it
abbrev pub number_of : Rule → ℕ
number_of MessageTooShort = 1
number_of MessageTooLong = 2
number_of BadCookie = 3
number_of OptionTruncated = 4
number_of NoEnd = 5
number_of BadOverload = 6
number_of Duplicate = 7
number_of BadLength = 8
number_of BadValue = 9
number_of BadCode = 10
number_of NoRoom = 11
number_of RecordTruncated = 12
number_of RecordTooLong = 13
number_of RouterBeforeMask = 14
number_of BadPermission = 15
number_of SheetTooLong = 16
number_of ItemTruncated = 17
number_of BadIndexCount = 18
number_of BadIndexEntry = 19
number_of BadGroup = 20
number_of TooDeep = 21
number_of NoWayBack = 22
number_of RelayNotLast = 23
number_of BadCapture = 24
number_of NoReply = 25
number_of BadRoute = 26

-- no rule has the number 0, which stands for none, and none has one past 26
abbrev pub RulesAreNumbered : Type 0
RulesAreNumbered = (r : Rule) → (1 ≤ number_of r) × (number_of r ≤ 26)

-- a number tells the rule
abbrev pub NumbersTellRules : Type 0
NumbersTellRules = (r s : Rule) → number_of r ≡ number_of s → r ≡ s

-- "8: length breaks the kind. 9: value breaks the kind"
abbrev pub fault_number : Fault → ℕ
fault_number Length = 8
fault_number Value = 9

-- the same where there may be no fault: then 0
abbrev pub fault_or_none : Option Fault → ℕ
fault_or_none None = 0
fault_or_none (Some f) = fault_number f

-- a fault's rule has its number
abbrev pub rule_of : Fault → Rule
rule_of Length = BadLength
rule_of Value = BadValue

abbrev pub FaultsAreRules : Type 0
FaultsAreRules = (f : Fault) → number_of (rule_of f) ≡ fault_number f

-- the number and the place of a refusal where a call may give one; 0 and 0 where it gives none
abbrev pub number_in : {A : Type 0} → Result A Refusal → ℕ
number_in (Ok x) = 0
number_in (Err r) = number_of r.rule

abbrev pub place_in : {A : Type 0} → Result A Refusal → ℕ
place_in (Ok x) = 0
place_in (Err r) = r.place

-- the number of a rule where one may be broken; 0 where none is
abbrev pub rule_in : {A : Type 0} → Result A Rule → ℕ
rule_in (Ok x) = 0
rule_in (Err r) = number_of r

-- ---- Each case with its own number

abbrev pub NumbersByCase : Type 0
NumbersByCase =
    (number_of MessageTooShort ≡ 1) × (number_of MessageTooLong ≡ 2) × (number_of BadCookie ≡ 3) × (number_of OptionTruncated ≡ 4) × (number_of NoEnd ≡ 5)
    × (number_of BadOverload ≡ 6) × (number_of Duplicate ≡ 7) × (number_of BadLength ≡ 8) × (number_of BadValue ≡ 9) × (number_of BadCode ≡ 10)
    × (number_of NoRoom ≡ 11) × (number_of RecordTruncated ≡ 12) × (number_of RecordTooLong ≡ 13) × (number_of RouterBeforeMask ≡ 14) × (number_of BadPermission ≡ 15)
    × (number_of SheetTooLong ≡ 16) × (number_of ItemTruncated ≡ 17) × (number_of BadIndexCount ≡ 18) × (number_of BadIndexEntry ≡ 19) × (number_of BadGroup ≡ 20)
    × (number_of TooDeep ≡ 21) × (number_of NoWayBack ≡ 22) × (number_of RelayNotLast ≡ 23) × (number_of BadCapture ≡ 24) × (number_of NoReply ≡ 25)
    × (number_of BadRoute ≡ 26)

-- no fault is 0; nothing is lost
abbrev pub FaultsByCase : Type 0
FaultsByCase =
    (fault_or_none None ≡ 0) × (fault_or_none (Some Length) ≡ 8) × (fault_or_none (Some Value) ≡ 9)
    × ((a b : Option Fault) → fault_or_none a ≡ fault_or_none b → a ≡ b)

-- where nothing is refused 0 and 0, else the refusal's number and place, which tell all of it
abbrev pub RefusalsByCase : Type 0
RefusalsByCase =
    ((x : Unit {0}) → (number_in (Ok x) ≡ 0) × (place_in (Ok x) ≡ 0))
    × ((r : Refusal) → (number_in {A = Unit {0}} (Err r) ≡ number_of r.rule) × (place_in {A = Unit {0}} (Err r) ≡ r.place))
    × ((a b : Result (Unit {0}) Refusal) → number_in a ≡ number_in b → place_in a ≡ place_in b → a ≡ b)

-- where no rule is broken 0, else the number of the rule, which tells it
abbrev pub RulesByCase : Type 0
RulesByCase =
    ((x : Unit {0}) → rule_in (Ok x) ≡ 0)
    × ((r : Rule) → rule_in {A = Unit {0}} (Err r) ≡ number_of r)
    × ((a b : Result (Unit {0}) Rule) → rule_in a ≡ rule_in b → a ≡ b)
