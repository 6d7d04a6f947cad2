-- The number of a kind that is told by its name; and what is answered of data that a fault may break. Assumes nothing.
use mathlib.Core.Path.{◌≡◌, refl, sym, ap, ◌∙◌}
use mathlib.Core.Bool.{Bool, true, false, cond}
use mathlib.Core.Option.{Option, none, some}
use Prim.Native.Nat.{ℕ}
use native.Mathlib.Omega.{arith}
use lib.Dec.{eqb}
use borrow.Author.Tests.{eqb-true, eqb-false}
use Rattle.lookup.proofs.Verdicts.{broken_by_lem}
use Rattle.options.specs.Kinds.{Kind, address, addresses, pairs, flag, octet, number16, numbers16, unsigned32, signed32, text, opaque, relay, routes, Value, broken, unless}
use Rattle.options.specs.Answers as asked
use Rattle.ranges.specs.Rows.{number_of}
use Rattle.refusal.specs.declared.Fault.{Fault}
use Rattle.refusal.specs.declared.Fault.TheVariants as faults
use Rattle.refusal.specs.Refused.{fault_number}
use Rattle.kinds.specs.Numbers.{kind_from}
use Rattle.dhcpopt_reader.specs.Plain.{plain_content, plain_part}
use Rattle.dhcpopt_index.specs.Found.{part_content}

pick : (b : Bool) (n j : ℕ) → eqb n j ≡ b → (k x : Kind) (o : Option Kind) → some k ≡ cond b (some x) o → number_of x ≡ j → (some k ≡ o → n ≡ number_of k) → n ≡ number_of k
pick true n j e k x o z q h = let w : x ≡ k = cc in eqb-true n j e ∙ sym q ∙ ap number_of w
pick false n j e k x o z q h = h z

-- a number that stands for a kind is the kind's
pub numbered : (n : ℕ) (k : Kind) → some k ≡ kind_from n → n ≡ number_of k
numbered n k e₁ =
    pick _ n 1 refl k address _ e₁ refl (λ e₂.
    pick _ n 2 refl k addresses _ e₂ refl (λ e₃.
    pick _ n 3 refl k pairs _ e₃ refl (λ e₄.
    pick _ n 4 refl k flag _ e₄ refl (λ e₅.
    pick _ n 5 refl k octet _ e₅ refl (λ e₆.
    pick _ n 6 refl k number16 _ e₆ refl (λ e₇.
    pick _ n 7 refl k numbers16 _ e₇ refl (λ e₈.
    pick _ n 8 refl k unsigned32 _ e₈ refl (λ e₉.
    pick _ n 9 refl k signed32 _ e₉ refl (λ e₁₀.
    pick _ n 10 refl k text _ e₁₀ refl (λ e₁₁.
    pick _ n 11 refl k opaque _ e₁₁ refl (λ e₁₂.
    pick _ n 12 refl k relay _ e₁₂ refl (λ e₁₃.
    pick _ n 13 refl k routes _ e₁₃ refl (λ e. absurd (cc))))))))))))))

-- of a part
pub part_is : (fault k n : ℕ) (v : Value) → plain_content (asked.known v) ≡ plain_part 4 k n → part_content fault k n ≡ plain_content (asked.known (unless fault v))
part_is fault k n v e = go (eqb fault 0) refl
  where
    go : (b : Bool) → eqb fault 0 ≡ b → cond b (plain_part 4 k n) (plain_content (asked.known (broken fault))) ≡ plain_content (asked.known (unless fault v))
    go true q = rw (eqb-true fault 0 q) (sym e)
    go false q = ap (λ (x : Value). plain_content (asked.known x)) (broken_by_lem fault v (eqb-false fault 0 q))

pub fault_not : (f : Fault) → fault_number f ≡ 0 → ⊥
fault_not faults.Length e = omega arith
fault_not faults.Value e = omega arith
