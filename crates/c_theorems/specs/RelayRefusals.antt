-- DEMAND 1 AT THE CALLS ON RELAY INFORMATION THAT C LINKS (document 02, request 09): as Refusals says it of the other calls. Assumes nothing.
use Rattle.std.specs.Prelude.{◌≡◌, List, ◌↔◌, ℕ}
use Rattle.options.specs.KindClaims.{AllBytes}
use Rattle.options.specs.Relay.{relay_records_value, relay_write_value}
use Rattle.options.specs.RelayClaims.{refused_read, refused_write, ReadsRelay, WritesRelay}
use Rattle.dhcpopt_reader.specs.Relay.{plain_relay}
use Rattle.dhcpopt_reader.specs.declared.PlainRelay.{PlainRelay}
use Rattle.c_theorems.specs.Refusals.{Says, RefusedOnlyBy}

-- "8 at the sub-option's code stands for 17, and no sub-options at all give 8 at 0"; "the reader 17, then 11" (request 05)
abbrev pub RelayReadRow : List ℕ → List ℕ → ℕ → ℕ → Type 0
RelayReadRow f old n p = ReadsRelay f old (refused_read n p old)

-- r is the struct that the call gives, `after` what it leaves in the lent buffer `old`
pub record RelayRefusedBy (f old : List ℕ) (r : PlainRelay) (after : List ℕ) : Type 0 where
  pub by_rows : (n p : ℕ) → Says r.refusal r.place n p ↔ RelayReadRow f old n p
  -- "changes no byte lent to the call"
  pub as_it_was : (r.refusal ≡ 0 → ⊥) → (r.size ≡ 0) × (after ≡ old)
  pub no_circuit : (r.refusal ≡ 0 → ⊥) → (r.circuit.start ≡ 0) × (r.circuit.length ≡ 0)
  pub no_remote : (r.refusal ≡ 0 → ⊥) → (r.remote.start ≡ 0) × (r.remote.length ≡ 0)
  pub else_no_place : r.refusal ≡ 0 → r.place ≡ 0

abbrev pub RelayRecordsRefusedForC : Type 0
RelayRecordsRefusedForC =
    (f old : List ℕ) (r : PlainRelay) (after : List ℕ) → (r ≡ plain_relay (relay_records_value f old)) × (after ≡ (relay_records_value f old).filled.buffer) → RelayRefusedBy f old r after

-- "The sub-option calls refuse as Req 05's do, save that no tag is a 10": 16, record by record 12 and 13, 8 at 0 for no record, then 11
abbrev pub RelayWriteRow : List ℕ → List ℕ → ℕ → ℕ → Type 0
RelayWriteRow s out n p = WritesRelay s out (refused_write n p out)

abbrev pub RelayWriteRefusedForC : Type 0
RelayWriteRefusedForC = (s out : List ℕ) → AllBytes s → RefusedOnlyBy (RelayWriteRow s out) out (relay_write_value s out)
