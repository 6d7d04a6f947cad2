-- The kind of a row by its name, and the row of a code that has one. Assumes nothing.
use mathlib.Core.Path.{◌≡◌, refl, sym, ap, ◌∙◌}
use mathlib.Core.Bool.{Bool, true, false, cond}
use mathlib.Core.Option.{none, some}
use mathlib.Core.Option as paper
use mathlib.Core.List.{List}
use lib.ListN.{length}
use native.Mathlib.Omega.{arith}
use Rattle.std.specs.Prelude.{Option, None, Some}
use Rattle.std.specs.Option.{is_some}
use Rattle.refusal.specs.declared.Fault.{Fault}
use Rattle.refusal.specs.declared.Fault.TheVariants.{Length, Value}
use Rattle.refusal.specs.Refused.{fault_or_none}
use Prim.Native.Nat.{ℕ}
use lib.Dec.{eqb}
use borrow.Author.Tests.{eqb-true}
use Rattle.options.specs.Kinds.{Kind, address, addresses, pairs, flag, octet, number16, numbers16, unsigned32, signed32, text, opaque, relay, routes, judged_by, unless}
use Rattle.options.specs.Answers as asked
use Rattle.kinds.specs.Numbers.{kind_at, kind_from, kind_numbered, row_at, fault_numbered}
use Rattle.kinds.proofs.Numbering.{judged_as}
use Rattle.lookup.specs.Found.{some_row, content_by, content_in, meaning_of}
use Rattle.lookup.proofs.Verdicts.{all_meaning}

abbrev or_opaque : paper.Option Kind → Kind
or_opaque none = opaque
or_opaque (some k) = k

first_ten : (a b c d e f g h i j : Bool) (x : Kind) (y : paper.Option Kind) → x ≡ or_opaque y
    → cond a address (cond b addresses (cond c pairs (cond d flag (cond e octet (cond f number16 (cond g numbers16 (cond h unsigned32 (cond i signed32 (cond j text x)))))))))
    ≡ or_opaque (cond a (some address) (cond b (some addresses) (cond c (some pairs) (cond d (some flag) (cond e (some octet) (cond f (some number16) (cond g (some numbers16) (cond h (some unsigned32) (cond i (some signed32) (cond j (some text) y))))))))))
first_ten true b c d e f g h i j x y z = refl
first_ten false true c d e f g h i j x y z = refl
first_ten false false true d e f g h i j x y z = refl
first_ten false false false true e f g h i j x y z = refl
first_ten false false false false true f g h i j x y z = refl
first_ten false false false false false true g h i j x y z = refl
first_ten false false false false false false true h i j x y z = refl
first_ten false false false false false false false true i j x y z = refl
first_ten false false false false false false false false true j x y z = refl
first_ten false false false false false false false false false true x y z = refl
first_ten false false false false false false false false false false x y z = z

-- a number that stands for no kind counts as opaque
pub kind_is : (n : ℕ) → kind_at n ≡ or_opaque (kind_from n)
kind_is n = first_ten _ _ _ _ _ _ _ _ _ _ _ _ (last (eqb n 11) refl)
  where
    others : (a b : Bool) → cond a relay (cond b routes opaque) ≡ or_opaque (cond a (some relay) (cond b (some routes) none))
    others true b = refl
    others false true = refl
    others false false = refl

    last : (t : Bool) → eqb n 11 ≡ t → cond (eqb n 12) relay (cond (eqb n 13) routes opaque) ≡ or_opaque (cond t (some opaque) (cond (eqb n 12) (some relay) (cond (eqb n 13) (some routes) none)))
    last true q = rw (eqb-true n 11 q) refl
    last false q = others (eqb n 12) (eqb n 13)

-- the kind that is found of a number is the number's
pub kind_told : (n : ℕ) {o : paper.Option Kind} → o ≡ kind_from n → kind_at n ≡ or_opaque o
kind_told n h = kind_is n ∙ ap or_opaque (sym h)

-- content by a row that may be there
pub by_some_row : (n : ℕ) (d : List ℕ) → content_in (some_row n) d ≡ content_by n d
unfolding content_by
by_some_row n d = go (eqb n 0)
  where
    go : (b : Bool) → content_in (cond b None (Some n)) d ≡ cond b (asked.unknown (length d)) (asked.known (judged_by (row_at n) d))
    go true = refl
    go false = refl

-- the verdict on all data of a row
pub judged_whole : (n : ℕ) (d : List ℕ) {f : ℕ} → f ≡ fault_numbered n d → unless f (meaning_of (kind_at (kind_numbered n)) (length d) d) ≡ judged_by (row_at n) d
judged_whole n d e = rw (e, all_meaning d (kind_at (kind_numbered n))) (sym (judged_as n d))

-- whether there is a fault, by its number
pub a_fault : (o : Option Fault) → is_some o ≡ true → fault_or_none o ≡ 0 → ⊥
a_fault None h = absurd (cc)
a_fault (Some Length) h = λ z. omega (arith, z)
a_fault (Some Value) h = λ z. omega (arith, z)

pub no_fault : (o : Option Fault) → is_some o ≡ false → fault_or_none o ≡ 0
no_fault None h = refl
no_fault (Some f) h = absurd (cc)
