-- THE WRITER'S ANSWER AS PLAIN NUMBERS, for C: each case with its values. Assumes nothing.
use Rattle.std.specs.Prelude.{◌≡◌, List, ℕ}
use Rattle.options.specs.Writing as options
use Rattle.options.specs.Vendor.{vendor_write_value}
use Rattle.options.specs.Relay.{relay_write_value}
use Rattle.filled.specs.Plain.{Kept}
use Rattle.plan.specs.Answer.{Choice, Plan, Refused}
use Rattle.dhcpopt_writer.specs.declared.PlainWrote.{PlainWrote}

-- the plan used, or number and place of a refusal
abbrev pub plain_wrote : options.Wrote → PlainWrote
plain_wrote (options.wrote p w) = record { refusal = 0; plan = p; place = 0 }
plain_wrote (options.declined n p) = record { refusal = n; plan = 0; place = p }

-- the same of the answer inside
abbrev pub plain_of : Choice → PlainWrote
plain_of (Plan p single) = record { refusal = 0; plan = p; place = 0 }
plain_of (Refused n p) = record { refusal = n; plan = 0; place = p }

-- each case with its own numbers, and 0 for what it does not give: a place where the sheet is written, a plan where it is refused
abbrev pub WroteByCase : Type 0
WroteByCase =
    (plan n p : ℕ) (w : List ℕ) → (plain_wrote (options.wrote plan w) ≡ record { refusal = 0; plan = plan; place = 0 }) × (plain_wrote (options.declined n p) ≡ record { refusal = n; plan = 0; place = p })

-- of the call for vendor information no refusal has number 0, and none changes a byte; its struct is told case by case in crate filled (FilledByCase), and of
-- the writer RefusalsAreNumbered of crate plan says the first
abbrev pub VendorKept : Type 0
VendorKept = (s out : List ℕ) → Kept (vendor_write_value s out) out

-- nor of that for relay information
abbrev pub RelayKept : Type 0
RelayKept = (s out : List ℕ) → Kept (relay_write_value s out) out
