-- The number of a code's row loses nothing of the row. Assumes nothing.
use mathlib.Core.Path.{◌≡◌, refl, ap, ◌∙◌}
use mathlib.Core.List.{List, [], ◌∷◌}
use mathlib.Core.Bool.{Bool, true, false, cond}
use mathlib.Core.Option.{Option, none, some}
use mathlib.Core.Logic.{◌⊎◌, inl, inr}
use Prim.Native.Nat.{ℕ, suc, ◌+◌, ◌*◌, ◌%◌, ◌≤◌, ◌<◌}
use native.Mathlib.Omega.{arith}
use borrow.Author.Tests.{eq-eqb, ne_eqb, eqb-true}
use lib.Dec.{eqb}
use Rattle.options.specs.Reading.{among}
use Rattle.options.specs.Kinds.{Kind, address, addresses, pairs, flag, octet, number16, numbers16, unsigned32, signed32, text, opaque, relay, routes, Row, rows, row_in, row_of}
use Rattle.ranges.specs.Rows.{number_of, of_kind, number, number_in, row_number, row_from, NumbersKeepTheRow}

-- the number of a kind has four bits, and is not 0
pub kind_low : (k : Kind) → (1 ≤ number_of k) × (number_of k < 16)
kind_low address = (omega arith, omega arith)
kind_low addresses = (omega arith, omega arith)
kind_low pairs = (omega arith, omega arith)
kind_low flag = (omega arith, omega arith)
kind_low octet = (omega arith, omega arith)
kind_low number16 = (omega arith, omega arith)
kind_low numbers16 = (omega arith, omega arith)
kind_low unsigned32 = (omega arith, omega arith)
kind_low signed32 = (omega arith, omega arith)
kind_low text = (omega arith, omega arith)
kind_low opaque = (omega arith, omega arith)
kind_low relay = (omega arith, omega arith)
kind_low routes = (omega arith, omega arith)

-- a number behind these rows: 0, or that of a kind with more rows before it than they have
pub record Behind (before : List Row) (n : ℕ) : Type 0 where
  pub kind : ℕ
  pub count : ℕ
  pub low : kind < 16
  pub least : 1 ≤ kind
  pub is : n ≡ kind + 16 * count
  pub more : of_kind kind before ≤ count

behind : (before rs : List Row) (c : ℕ) → (number_in before rs c ≡ 0) ⊎ Behind before (number_in before rs c)
behind before [] c = inl refl
behind before (r ∷ rs) c = by (among c r.codes) (behind (r ∷ before) rs c)
  where
    fewer : (b : Bool) (n m : ℕ) → cond b (suc n) n ≤ m → n ≤ m
    fewer true n m h = omega arith
    fewer false n m h = h

    by : (b : Bool) → (number_in (r ∷ before) rs c ≡ 0) ⊎ Behind (r ∷ before) (number_in (r ∷ before) rs c)
        → (cond b (number r before) (number_in (r ∷ before) rs c) ≡ 0) ⊎ Behind before (cond b (number r before) (number_in (r ∷ before) rs c))
    by true t =
        inr (record {
          kind = number_of r.kind;
          count = of_kind (number_of r.kind) before;
          low = (kind_low r.kind).1;
          least = (kind_low r.kind).0;
          is = refl;
          more = omega arith;
        })
    by false (inl e) = inl e
    by false (inr x) =
        inr (record {
          kind = x.kind;
          count = x.count;
          low = x.low;
          least = x.least;
          is = x.is;
          more = fewer (eqb (number_of r.kind) x.kind) (of_kind x.kind before) x.count x.more;
        })

-- so it is not that of a row among them
other : (r : Row) (before : List Row) (n : ℕ) → (n ≡ 0) ⊎ Behind (r ∷ before) n → n ≡ number r before → ⊥
other r before n (inl z) e = omega (arith, z, e, (kind_low r.kind).0)
other r before n (inr x) e =
    let k = number_of r.kind in
    let q : k ≡ x.kind = omega (arith, e, x.is, x.low, (kind_low r.kind).1) in
    let y : suc (of_kind x.kind before) ≤ x.count = rw (eq-eqb k x.kind q) at x.more in
    let z : of_kind k before ≡ of_kind x.kind before = ap (λ (j : ℕ). of_kind j before) q in
    omega (arith, e, x.is, q, y, z)

kept : (before rs : List Row) (c : ℕ) → row_from before rs (number_in before rs c) ≡ row_in rs c
kept before [] c = refl
kept before (r ∷ rs) c = by (among c r.codes) (kept (r ∷ before) rs c)
  where
    by : (b : Bool) → row_from (r ∷ before) rs (number_in (r ∷ before) rs c) ≡ row_in rs c
        → row_from before (r ∷ rs) (cond b (number r before) (number_in (r ∷ before) rs c)) ≡ cond b (some r) (row_in rs c)
    by true e = rw (eq-eqb (number r before) (number r before) refl)
    by false e = rw (ne_eqb (number_in (r ∷ before) rs c) (number r before) (other r before (number_in (r ∷ before) rs c) (behind (r ∷ before) rs c))) e

pub numbers_keep_the_row : NumbersKeepTheRow
unfolding row_number row_of
numbers_keep_the_row c = kept [] rows c

unnumbered : (before rs : List Row) (c : ℕ) → row_in rs c ≡ none → number_in before rs c ≡ 0
unnumbered before [] c e = refl
unnumbered before (r ∷ rs) c e = by (among c r.codes) (unnumbered (r ∷ before) rs c) e
  where
    by : (b : Bool) → (row_in rs c ≡ none → number_in (r ∷ before) rs c ≡ 0) → cond b (some r) (row_in rs c) ≡ none → cond b (number r before) (number_in (r ∷ before) rs c) ≡ 0
    by true h q = absurd (let z : ◌≡◌ {A = ℕ} 0 1 = cc in omega arith)
    by false h q = h q

-- a code without a row has the number 0
pub no_number : (c : ℕ) → row_of c ≡ none → row_number c ≡ 0
unfolding row_number row_of
no_number c e = unnumbered [] rows c e

-- the low four bits of a row's number are its kind's
low_bits : (k j n : ℕ) → k < 16 → n ≡ k + 16 * j → n % 16 ≡ k
low_bits k j n h e = omega arith

pub from_kind : (before rs : List Row) (n : ℕ) (r : Row) → row_from before rs n ≡ some r → n % 16 ≡ number_of r.kind
from_kind before [] n r e = absurd (let z : ◌≡◌ {A = ℕ} 0 1 = cc in omega arith)
from_kind before (x ∷ rs) n r e = by (eqb n (number x before)) refl e (from_kind (x ∷ before) rs n r)
  where
    by : (b : Bool) → eqb n (number x before) ≡ b → cond b (some x) (row_from (x ∷ before) rs n) ≡ some r → (row_from (x ∷ before) rs n ≡ some r → n % 16 ≡ number_of r.kind)
        → n % 16 ≡ number_of r.kind
    by true q z f =
        let y : x.kind ≡ r.kind = cc in
        low_bits (number_of x.kind) (of_kind (number_of x.kind) before) n (kind_low x.kind).1 (eqb-true n (number x before) q) ∙ ap number_of y
    by false q z f = f z
