-- The walk over sub-options: those that fill the bytes, or the one that runs past. Assumes nothing.
use mathlib.Core.Path.{◌≡◌, refl, sym, ap, ap₂, ◌∙◌}
use mathlib.Core.List.{List, [], ◌∷◌, ◌++◌, append_assoc}
use mathlib.Core.Bool.{Bool, true, false}
use mathlib.Core.Logic.{◌⊎◌, inl, inr}
use Prim.Native.Nat.{ℕ, zero, suc, ◌+◌, ◌≤◌, ◌<◌}
use native.Mathlib.Omega.{arith}
use lib.ListN.{length, take, drop, length-append, length-drop, take-append-drop}
use lib.Seq.{length-take-le}
use lib.Dec.{ltb}
use borrow.Author.Tests.{ltb-true, ltb-false}
use Rattle.options.specs.Message.{Rec}
use Rattle.options.specs.SubOptions.{sub_options}
use Rattle.options.specs.Writing.{option_bytes}
use Rattle.options.specs.Vendor.{Item, Items, listed, past, also, items_in}
use Rattle.options.specs.RelayClaims.{RunsPast, code_alone, data_short}
use Rattle.theorems.proofs.SubOptionRow.{stands, stands_in, past_head, past_data}
use Rattle.vendor_theorems.proofs.Writing.{placed}

-- ---- What a list of sub-options gives

abbrev one : ℕ → Rec → Item
one at r = record { offset = at; item = r }

next : (at n : ℕ) → at + (2 + n) ≡ at + 2 + n
next at n = omega arith

pub filled_walk : (at : ℕ) (rs : List Rec) → items_in (sub_options at 0 (option_bytes rs)) ≡ listed (placed at rs)
unfolding sub_options items_in option_bytes placed
filled_walk at [] = refl
filled_walk at (r ∷ rs) =
    ap items_in (stands at r.tag r.body (option_bytes rs))
    ∙ ap (λ (i : ℕ). also (one at r) (items_in (sub_options i 0 (option_bytes rs)))) (next at (length r.body))
    ∙ ap (also (one at r)) (filled_walk (at + 2 + length r.body) rs)

past_here : (at : ℕ) (rest : List ℕ) → RunsPast rest → items_in (sub_options at 0 rest) ≡ past at
unfolding items_in
past_here at rest (code_alone {c = c}) = ap items_in (past_head at c)
past_here at rest (data_short {c = c} {n = n} {r = r} l) = ap items_in (past_data at c n r l)

pub past_walk : (at : ℕ) (before : List Rec) (rest : List ℕ) → RunsPast rest → items_in (sub_options at 0 (option_bytes before ++ rest)) ≡ past (at + length (option_bytes before))
unfolding items_in option_bytes
past_walk at [] rest p = past_here at rest p ∙ ap past (omega arith)
past_walk at (r ∷ rs) rest p =
    let e : (r.body ++ option_bytes rs) ++ rest ≡ r.body ++ (option_bytes rs ++ rest) = append_assoc r.body (option_bytes rs) rest in
    let n : at + (2 + length r.body) + length (option_bytes rs) ≡ at + suc (suc (length (r.body ++ option_bytes rs))) = omega (arith, length-append r.body (option_bytes rs)) in
    ap (λ (xs : List ℕ). items_in (sub_options at 0 (r.tag ∷ length r.body ∷ xs))) e
    ∙ ap items_in (stands at r.tag r.body (option_bytes rs ++ rest))
    ∙ ap (also (one at r)) (past_walk (at + (2 + length r.body)) rs rest p)
    ∙ ap past n

-- ---- Any bytes are one or the other

pub record Past (d : List ℕ) : Type 0 where
  pub before : List Rec
  pub rest : List ℕ
  pub reads : d ≡ option_bytes before ++ rest
  pub runs_past : RunsPast rest

abbrev pub Either : List ℕ → Type 0
Either d = ((rs : List Rec) × (d ≡ option_bytes rs)) ⊎ Past d

one_more : (b n : ℕ) (ds : List ℕ) → n ≤ length ds → Either (drop n ds) → Either (b ∷ n ∷ ds)
unfolding option_bytes
one_more b n ds l (inl f) =
    let k : n ≡ length (take n ds) = sym (length-take-le n ds l) in
    inl (record { tag = b; body = take n ds } ∷ f.0, ap₂ (λ (i : ℕ) (xs : List ℕ). b ∷ i ∷ xs) k (sym (take-append-drop n ds) ∙ ap (λ (xs : List ℕ). take n ds ++ xs) f.1))
one_more b n ds l (inr p) =
    let k : n ≡ length (take n ds) = sym (length-take-le n ds l) in
    inr (record {
      before = record { tag = b; body = take n ds } ∷ p.before;
      rest = p.rest;
      reads = ap₂ (λ (i : ℕ) (xs : List ℕ). b ∷ i ∷ xs) k
          (sym (take-append-drop n ds) ∙ ap (λ (xs : List ℕ). take n ds ++ xs) p.reads ∙ sym (append_assoc (take n ds) (option_bytes p.before) p.rest));
      runs_past = p.runs_past;
    })

step : (d : List ℕ) → ((e : List ℕ) → length e < length d → Either e) → Either d
unfolding option_bytes
step [] ih = inl ([], refl)
step (b ∷ []) ih = inr (record { before = []; rest = b ∷ []; reads = refl; runs_past = code_alone })
step (b ∷ n ∷ ds) ih = go (ltb (length ds) n) refl
  where
    go : (x : Bool) → ltb (length ds) n ≡ x → Either (b ∷ n ∷ ds)
    go true q = inr (record { before = []; rest = b ∷ n ∷ ds; reads = refl; runs_past = data_short (ltb-true (length ds) n q) })
    go false q = one_more b n ds (ltb-false (length ds) n q) (ih (drop n ds) (omega (arith, length-drop n ds)))

either_of : (most : ℕ) (d : List ℕ) → length d ≤ most → Either d
either_of zero d h = step d (λ e l. absurd (omega (arith, l, h)))
either_of (suc most) d h = step d (λ e l. either_of most e (omega (arith, l, h)))

pub some_end : (d : List ℕ) → Either d
some_end d = either_of (length d) d (omega arith)
