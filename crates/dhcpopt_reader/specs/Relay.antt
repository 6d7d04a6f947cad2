-- WHAT IS READ OF RELAY INFORMATION, AS PLAIN NUMBERS FOR C. Assumes nothing.
use Rattle.std.specs.Prelude.{◌≡◌, List, ◌↔◌, ℕ}
use Rattle.options.specs.Answers as asked
use Rattle.options.specs.Relay.{Id, absent, named, RelayRead, relay_records_value}
use Rattle.filled.specs.Plain.{plain_filled, Kept}
use Rattle.dhcpopt_reader.specs.declared.PlainId.{PlainId}
use Rattle.dhcpopt_reader.specs.declared.PlainRelay.{PlainRelay}

abbrev pub plain_id : Id → PlainId
plain_id absent = record { start = 0; length = 0 }
plain_id (named s n) = record { start = s; length = n }

abbrev pub plain_relay : RelayRead → PlainRelay
plain_relay x =
    record {
      refusal = (plain_filled x.filled.answer).refusal;
      size = (plain_filled x.filled.answer).size;
      place = (plain_filled x.filled.answer).place;
      circuit = plain_id x.circuit;
      remote = plain_id x.remote;
    }

abbrev pub read_as : asked.Given → List ℕ → Id → Id → RelayRead
read_as g b c r = record { filled = record { answer = g; buffer = b }; circuit = c; remote = r }

-- each case with its own numbers, each member spelled out
pub record RelayByCase (b : List ℕ) (n p s l t m : ℕ) : Type 0 where
  pub both_named : plain_relay (read_as (asked.given n) b (named s l) (named t m)) ≡ record { refusal = 0; size = n; place = 0; circuit = record { start = s; length = l }; remote = record { start = t; length = m } }
  pub no_remote : plain_relay (read_as (asked.given n) b (named s l) absent) ≡ record { refusal = 0; size = n; place = 0; circuit = record { start = s; length = l }; remote = record { start = 0; length = 0 } }
  pub no_circuit : plain_relay (read_as (asked.given n) b absent (named t m)) ≡ record { refusal = 0; size = n; place = 0; circuit = record { start = 0; length = 0 }; remote = record { start = t; length = m } }
  pub neither : plain_relay (read_as (asked.given n) b absent absent) ≡ record { refusal = 0; size = n; place = 0; circuit = record { start = 0; length = 0 }; remote = record { start = 0; length = 0 } }
  pub refused : plain_relay (read_as (asked.declined n p) b absent absent) ≡ record { refusal = n; size = 0; place = p; circuit = record { start = 0; length = 0 }; remote = record { start = 0; length = 0 } }

abbrev pub RelayIsByCase : Type 0
RelayIsByCase = (b : List ℕ) (n p s l t m : ℕ) → RelayByCase b n p s l t m

-- an id is absent exactly where its start is 0, in every answer: one of length 0 is there
abbrev pub AbsentIffNoStart : Type 0
AbsentIffNoStart =
    (f old : List ℕ) → ((plain_relay (relay_records_value f old)).circuit.start ≡ 0 ↔ ((relay_records_value f old).circuit ≡ absent)) × ((plain_relay (relay_records_value f old)).remote.start ≡ 0 ↔ ((relay_records_value f old).remote ≡ absent))

-- no refusal has number 0, and none changes a byte
abbrev pub RelayKept : Type 0
RelayKept = (f old : List ℕ) → Kept (relay_records_value f old).filled old
