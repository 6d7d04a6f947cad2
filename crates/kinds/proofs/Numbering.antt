-- Kinds and their numbers. Assumes nothing.
use mathlib.Core.Path.{◌≡◌, refl, sym, ap, ◌∙◌}
use mathlib.Core.Bool.{false, cond}
use mathlib.Core.List.{List, []}
use mathlib.Core.Option.{Option, none, some}
use Prim.Native.Nat.{ℕ, zero, suc, ◌+◌, ◌%◌, ◌≤◌}
use native.Mathlib.Omega.{arith}
use borrow.Author.Tests.{ne_eqb}
use lib.ListN.{length}
use Rattle.options.specs.SheetWalk.{is_broken}
use Rattle.options.specs.Kinds.{Kind, address, addresses, pairs, flag, octet, number16, numbers16, unsigned32, signed32, text, opaque, relay, routes, Value, broken, number, part, Row, rows, row_of, kind_by, kind_of, fault, unless, meaning, judged, judged_by, kinds}
use Rattle.ranges.specs.Rows.{number_of, row_from, row_number}
use Rattle.ranges.proofs.Kept.{numbers_keep_the_row, no_number, from_kind}
use Rattle.kinds.proofs.Rules.{opaque_else}
use Rattle.kinds.specs.Numbers.{kind_number, kind_at, kind_from, NumbersKeepTheKind, number_of_fault, fault_of, FaultsKeepTheNumber, or_else, row_at, kind_numbered, fault_in_value, fault_numbered, length_fits_value, value_fault_in}

pub named : (k : Kind) → kind_at (number_of k) ≡ k
named address = refl
named addresses = refl
named pairs = refl
named flag = refl
named octet = refl
named number16 = refl
named numbers16 = refl
named unsigned32 = refl
named signed32 = refl
named text = refl
named opaque = refl
named relay = refl
named routes = refl

pub numbered : (k : Kind) → number_of k ≡ 0 → ⊥
numbered k e =
    let p : k ≡ opaque = sym (named k) ∙ ap kind_at e in
    omega (arith, ap number_of p)

-- what the number of a code's kind says of its row
pub no_row : (o : Option Kind) (n : ℕ) → n ≡ kind_number o → n ≡ 0 → o ≡ none
no_row none n e z = refl
no_row (some k) n e z = absurd (numbered k (sym e ∙ z))

pub row : (o : Option Kind) (n : ℕ) → n ≡ kind_number o → (n ≡ 0 → ⊥) → o ≡ some (kind_at n)
row none n e z = absurd (z e)
row (some k) n e z = rw (e, named k)

pub kind_back : (k : Kind) → kind_from (number_of k) ≡ some k
kind_back address = refl
kind_back addresses = refl
kind_back pairs = refl
kind_back flag = refl
kind_back octet = refl
kind_back number16 = refl
kind_back numbers16 = refl
kind_back unsigned32 = refl
kind_back signed32 = refl
kind_back text = refl
kind_back opaque = refl
kind_back relay = refl
kind_back routes = refl

pub numbers_keep_the_kind : NumbersKeepTheKind
numbers_keep_the_kind none = refl
numbers_keep_the_kind (some k) = kind_back k

-- n is none of the k numbers from a on, as the last arm of a `match` has it
abbrev pub Outside : ℕ → ℕ → ℕ → Type 0
Outside a zero n = Unit {0}
Outside a (suc k) n = Outside a k n × (n ≡ a + k → ⊥)

pub else_opaque : (n : ℕ) → Outside 1 10 n → (n ≡ 12 → ⊥) → (n ≡ 13 → ⊥) → kind_at n ≡ opaque
else_opaque n h x y =
    rw (
      ne_eqb n 1 h.0.0.0.0.0.0.0.0.0.1,
      ne_eqb n 2 h.0.0.0.0.0.0.0.0.1,
      ne_eqb n 3 h.0.0.0.0.0.0.0.1,
      ne_eqb n 4 h.0.0.0.0.0.0.1,
      ne_eqb n 5 h.0.0.0.0.0.1,
      ne_eqb n 6 h.0.0.0.0.1,
      ne_eqb n 7 h.0.0.0.1,
      ne_eqb n 8 h.0.0.1,
      ne_eqb n 9 h.0.1,
      ne_eqb n 10 h.1,
      ne_eqb n 12 x,
      ne_eqb n 13 y,
    )

-- what a kind makes of data that keeps its rules is not broken, and so no fault
pub unbroken : (k : Kind) (d : List ℕ) → is_broken (meaning k d) ≡ false
unfolding meaning
unbroken address d = refl
unbroken addresses d = refl
unbroken pairs d = refl
unbroken flag d = refl
unbroken octet d = refl
unbroken number16 d = refl
unbroken numbers16 d = refl
unbroken unsigned32 d = refl
unbroken signed32 d = refl
unbroken text d = refl
unbroken opaque d = refl
unbroken relay d = refl
unbroken routes d = refl

no_fault : (v : Value) → is_broken v ≡ false → number_of_fault v ≡ 0
no_fault (broken n) e = absurd (let z : ◌≡◌ {A = ℕ} 0 1 = cc in omega arith)
no_fault (number k z) e = refl
no_fault (part k n) e = refl

pub meant : (k : Kind) (d : List ℕ) → number_of_fault (meaning k d) ≡ 0
meant k d = no_fault (meaning k d) (unbroken k d)

-- ---- What a fault's number says of the data, for callers

broken_by_lem : (v : Value) (n : ℕ) → n ≡ number_of_fault v → (n ≡ 0 → ⊥) → v ≡ broken n
broken_by_lem (broken m) n e z = ap broken (sym e)
broken_by_lem (number k x) n e z = absurd (z e)
broken_by_lem (part k x) n e z = absurd (z e)

pub fault_broken : (c : ℕ) (d : List ℕ) (n : ℕ) → n ≡ fault_of c d → (n ≡ 0 → ⊥) → kinds.value c d ≡ broken n
unfolding fault_of
fault_broken c d n e z = broken_by_lem (kinds.value c d) n e z

kept_by : (n : ℕ) (v : Value) → number_of_fault (unless n v) ≡ 0 → unless n v ≡ v
kept_by zero v e = refl
kept_by (suc n) v e = absurd (omega arith)

row_kind : (o : Option Row) (k : Kind) → kind_by o ≡ some k → (r : Row) × ((o ≡ some r) × (r.kind ≡ k))
row_kind none k e = let z : ◌≡◌ {A = ℕ} 0 1 = cc in absurd (omega arith)
row_kind (some r) k e = (r, (refl, cc))

pub fault_kept : (c : ℕ) (k : Kind) (d : List ℕ) → kind_of c ≡ some k → fault_of c d ≡ 0 → kinds.value c d ≡ meaning k d
unfolding fault_of judged
fault_kept c k d o e =
    let r = row_kind (row_of c) k o in
    rw (r.1.0, r.1.1) (kept_by (fault r.0 d) (meaning k d) (rw (r.1.0, r.1.1) at e))

-- data are broken by no number but a fault's
broken_number : (o : Option Row) (d : List ℕ) (n : ℕ) → judged_by o d ≡ broken n → 1 ≤ n
unfolding judged
broken_number none d n e = absurd (let z : ◌≡◌ {A = ℕ} 0 1 = cc in omega arith)
broken_number (some r) d n e = breaks (fault r d) (meaning r.kind d) (unbroken r.kind d) e
  where
    breaks : (f : ℕ) (v : Value) → is_broken v ≡ false → unless f v ≡ broken n → 1 ≤ n
    breaks zero (broken m) u q = absurd (let z : ◌≡◌ {A = ℕ} 0 1 = cc in omega arith)
    breaks zero (number k x) u q = absurd (let z : ◌≡◌ {A = ℕ} 0 1 = cc in omega arith)
    breaks zero (part k x) u q = absurd (let z : ◌≡◌ {A = ℕ} 0 1 = cc in omega arith)
    breaks (suc f) v u q = let z : suc f ≡ n = cc in omega arith

pub faults_keep_the_number : FaultsKeepTheNumber
unfolding fault_of
faults_keep_the_number c d n = (λ e. (broken_number (row_of c) d n e, ap number_of_fault e), λ h. fault_broken c d n (sym h.1) (λ z. omega (arith, h.0)))

-- ---- The number of a code's row, and the row with a number

at_row : (n : ℕ) (r : Row) → row_from [] rows n ≡ some r → row_at n ≡ some r
unfolding row_at
at_row n r q = rw q

pub row_zero : row_at 0 ≡ none
unfolding row_at
row_zero = refl

pub row_of_lem : (c : ℕ) → row_at (row_number c) ≡ row_of c
row_of_lem c = go (row_of c) refl
  where
    found : (r : Row) → row_from [] rows (row_number c) ≡ some r → row_at (row_number c) ≡ some r
    found r q = at_row (row_number c) r q

    go : (o : Option Row) → row_of c ≡ o → row_at (row_number c) ≡ o
    go none e = ap row_at (no_number c e) ∙ row_zero
    go (some r) e = found r (numbers_keep_the_row c ∙ e)

-- the number of a row's kind
pub kind_of_row : (n : ℕ) (r : Row) → row_at n ≡ some r → n % 16 ≡ number_of r.kind
unfolding row_at
kind_of_row n r e = go (row_from [] rows n) refl e
  where
    go : (o : Option Row) → row_from [] rows n ≡ o → or_else o (row_from [] rows (n % 16)) ≡ some r → n % 16 ≡ number_of r.kind
    go none q z = omega (arith, from_kind [] rows (n % 16) r z)
    go (some x) q z = from_kind [] rows n r (q ∙ z)

pub no_kind : (n : ℕ) → row_at n ≡ none → kind_at (n % 16) ≡ opaque
unfolding row_at
no_kind n e = go (row_from [] rows n) e
  where
    as_opaque : (k : Kind) → number_of k ≡ 11 → k ≡ opaque
    as_opaque k q = sym (named k) ∙ ap kind_at q

    go : (o : Option Row) → or_else o (row_from [] rows (n % 16)) ≡ none → kind_at (n % 16) ≡ opaque
    go none z = as_opaque (kind_at (n % 16)) (opaque_else (n % 16) (omega arith) z)
    go (some x) z = absurd (let y : ◌≡◌ {A = ℕ} 0 1 = cc in omega arith)

pub kind_numbered_lem : (c : ℕ) → kind_numbered (row_number c) ≡ kind_number (kind_of c)
kind_numbered_lem c = go (row_of c) refl
  where
    go : (o : Option Row) → row_of c ≡ o → kind_numbered (row_number c) ≡ kind_number (kind_by o)
    go none e = rw (no_number c e)
    go (some r) e = kind_of_row (row_number c) r (row_of_lem c ∙ e)

-- a row, or none, breaks data as its verdict says
fault_in : (o : Option Row) (d : List ℕ) → fault_in_value o d ≡ number_of_fault (judged_by o d)
unfolding judged
fault_in none d = refl
fault_in (some r) d = by (fault r d)
  where
    by : (n : ℕ) → n ≡ number_of_fault (unless n (meaning r.kind d))
    by zero = sym (meant r.kind d)
    by (suc n) = refl

pub fault_none : (c : ℕ) (d : List ℕ) → row_number c ≡ 0 → 0 ≡ fault_numbered (row_number c) d
unfolding fault_numbered
fault_none c d e = sym (ap (λ (n : ℕ). fault_in_value (row_at n) d) e ∙ ap (λ (o : Option Row). fault_in_value o d) row_zero)

pub fault_numbered_lem : (c : ℕ) (d : List ℕ) → fault_numbered (row_number c) d ≡ fault_of c d
unfolding fault_of fault_numbered
fault_numbered_lem c d = ap (λ (o : Option Row). fault_in_value o d) (row_of_lem c) ∙ fault_in (row_of c) d

-- ---- The rules of a row, for callers

pub fault_rules : (o : Option Row) (d : List ℕ) → cond (length_fits_value o (length d)) (value_fault_in o d) 8 ≡ fault_in_value o d
unfolding fault
fault_rules none d = refl
fault_rules (some r) d = refl

-- the verdict, by the fault and by the kind
pub judged_as : (n : ℕ) (d : List ℕ) → judged_by (row_at n) d ≡ unless (fault_numbered n d) (meaning (kind_at (kind_numbered n)) d)
unfolding fault_numbered judged meaning
judged_as n d = go (row_at n) refl
  where
    go : (o : Option Row) → row_at n ≡ o → judged_by o d ≡ unless (fault_in_value o d) (meaning (kind_at (n % 16)) d)
    go none e = rw (no_kind n e)
    go (some r) e = rw (kind_of_row n r e, named r.kind)
