-- `sheet::high_record` meets its contract: of the tags from 77 on 82 and 121 have a row. Assumes nothing.
use borrow.Author.Tests.{ne_eqb}
use native.Mathlib.Omega.{arith}
use mathlib.Core.List.{List}
use mathlib.Core.Path.{◌≡◌, sym, ◌∙◌}
use Prim.Native.Nat.{ℕ, ◌≤◌, ◌<◌}
use Rattle.ranges.proofs.Computed.{no_row}
use Rattle.kinds.specs.Numbers.{fault_of}
use Rattle.kinds.proofs.Numbering.{fault_none, fault_numbered_lem}
use Rattle.sheet.proofs.high_record.Goals as goal

-- of the tags above 76 no others have one
rowless : (c : ℕ) (d : List ℕ) → 77 ≤ c → c < 256 → (c ≡ 82 → ⊥) → (c ≡ 121 → ⊥) → fault_of c d ≡ 0
rowless c d h k a b = sym (fault_none c d (sym (no_row c h k a b)) ∙ fault_numbered_lem c d)

pub returns-then-c-gt-ROUTES : goal.returns-then-c-gt-ROUTES
returns-then-c-gt-ROUTES c = (rowless c.args.c _ (omega arith) (omega arith) (λ e. omega (arith, e)) (λ e. omega (arith, e)), rw (ne_eqb c.args.c 82 (λ e. omega (arith, e))))

pub returns-else-c-eq-ROUTES : goal.returns-else-c-eq-ROUTES
returns-else-c-eq-ROUTES c = (rowless c.args.c _ (omega arith) (omega arith) c.if-c-eq-RELAY.false c.if-c-eq-ROUTES.false, rw (ne_eqb c.args.c 82 c.if-c-eq-RELAY.false))
