-- The rules at a record of a sheet: the first that is broken, and what it says of the sheet. Assumes nothing.
use mathlib.Core.Path.{◌≡◌, refl, sym, ap, ◌∙◌}
use mathlib.Core.List.{List, [], ◌∷◌}
use mathlib.Core.Bool.{Bool, true, false, cond}
use mathlib.Core.Option.{Option, none, some}
use Prim.Native.Nat.{ℕ, zero, suc, ◌≤◌, ◌<◌}
use native.Mathlib.Omega.{arith}
use lib.ListN.{length}
use borrow.Author.Tests.{lt-ltb, le-ltb}
use Rattle.options.specs.Message.{Rec}
use Rattle.options.specs.Kinds.{Row, Value, broken, number, part, row_of, kind_by, has_row, fault, unless, judged_by, judged, meaning, kinds}
use Rattle.options.specs.Reading.{either, among}
use Rattle.options.specs.SheetWalk.{Sheet, faulty, Rule, tested, is_broken, broken_by, breaks_kind}
use Rattle.options.specs.Writing.{writer_rules}
use Rattle.theorems.proofs.View.{clash}
use Rattle.writing_theorems.proofs.SheetLaws.{Kept}
use Rattle.kinds.proofs.Numbering.{unbroken}
use Rattle.kinds.specs.Numbers.{number_of_fault, fault_of}
use Rattle.sheet.specs.Parts.{no_tags, long_broken, met_broken}

-- ---- The rule of the kind

by_kind : (o : Option Row) (d : List ℕ)
    → cond (cond (has_row (kind_by o)) (is_broken (judged_by o d)) false) (broken_by (judged_by o d)) 0 ≡ number_of_fault (judged_by o d)
by_kind none d = refl
by_kind (some r) d = own (judged r d)
  where
    own : (v : Value) → cond (is_broken v) (broken_by v) 0 ≡ number_of_fault v
    own (broken n) = refl
    own (number k n) = refl
    own (part k n) = refl

kind_fault : (c : ℕ) (d : List ℕ) → cond (breaks_kind kinds c d) (broken_by (kinds.value c d)) 0 ≡ fault_of c d
unfolding fault_of
kind_fault c d = by_kind (row_of c) d

-- no fault of a kind has number 0
kind_sure : (o : Option Row) (d : List ℕ) → cond (has_row (kind_by o)) (is_broken (judged_by o d)) false ≡ true → broken_by (judged_by o d) ≡ 0 → ⊥
unfolding judged
kind_sure none d q e = clash (cc)
kind_sure (some r) d q e = sure_of (fault r d) q e
  where
    sure_of : (n : ℕ) → is_broken (unless n (meaning r.kind d)) ≡ true → broken_by (unless n (meaning r.kind d)) ≡ 0 → ⊥
    sure_of zero z y = clash (let x : is_broken (meaning r.kind d) ≡ false = unbroken r.kind d in cc)
    sure_of (suc n) z y = omega arith

-- ---- The first rule that is broken

-- its number, or 0
abbrev pub first_broken : List Rule → List ℕ → Rec → ℕ
first_broken [] seen r = 0
first_broken (x ∷ xs) seen r = cond (x.breaks seen r) (x.gives r) (first_broken xs seen r)

-- what the code tests, with the tags that may not stand among those met, is what the rules say
met_is : (wrong again : Bool) (k : ℕ) → cond (either wrong again) (cond wrong 10 7) k ≡ cond wrong 10 (cond again 7 k)
met_is true again k = refl
met_is false true k = refl
met_is false false k = refl

pub met_first : (seen : List ℕ) (r : Rec) → length r.body ≤ 1024
    → met_broken (either (among r.tag no_tags) (among r.tag seen)) r.tag r.body ≡ first_broken (writer_rules kinds) seen r
met_first seen r h =
    let k : cond (breaks_kind kinds r.tag r.body) (broken_by (kinds.value r.tag r.body)) 0 ≡ fault_of r.tag r.body = kind_fault r.tag r.body in
    met_is (among r.tag no_tags) (among r.tag seen) (fault_of r.tag r.body)
    ∙ ap (λ (x : ℕ). cond (among r.tag no_tags) 10 (cond (among r.tag seen) 7 x)) (sym k)
    ∙ ap (λ (b : Bool). cond (among r.tag no_tags) 10 (cond b 13 (cond (among r.tag seen) 7 (cond (breaks_kind kinds r.tag r.body) (broken_by (kinds.value r.tag r.body)) 0))))
    (sym (le-ltb 1024 (length r.body) h))

pub long_first : (seen : List ℕ) (r : Rec) → 1024 < length r.body → long_broken r.tag ≡ first_broken (writer_rules kinds) seen r
long_first seen r h = rw (lt-ltb 1024 (length r.body) h)

-- ---- The first rule that is broken, and the sheet

module _ (seen : List ℕ) (r : Rec) where
  pub tested_faulty : (xs : List Rule) (at : ℕ) (w : Sheet) (k : ℕ) → k ≡ first_broken xs seen r → (k ≡ 0 → ⊥) → tested xs seen at r w ≡ faulty k at
  tested_faulty [] at w k e n = absurd (n e)
  tested_faulty (x ∷ xs) at w k e n = go (x.breaks seen r) (tested_faulty xs at w k) e
    where
      go : (b : Bool) → (k ≡ first_broken xs seen r → (k ≡ 0 → ⊥) → tested xs seen at r w ≡ faulty k at) → k ≡ cond b (x.gives r) (first_broken xs seen r)
          → cond b (faulty (x.gives r) at) (tested xs seen at r w) ≡ faulty k at
      go true ih q = ap (λ (z : ℕ). faulty z at) (sym q)
      go false ih q = ih q n

  pub tested_kept : (xs : List Rule) (at : ℕ) (w : Sheet) → Kept xs seen r → tested xs seen at r w ≡ w
  tested_kept [] at w k = refl
  tested_kept (x ∷ xs) at w k = rw k.0 (tested_kept xs at w k.1)

-- no rule gives 0 where it is broken
abbrev pub Sure : List Rule → Type 0
Sure [] = Unit {0}
Sure (x ∷ xs) = ((seen : List ℕ) (r : Rec) → x.breaks seen r ≡ true → x.gives r ≡ 0 → ⊥) × Sure xs

pub all_kept : (xs : List Rule) (seen : List ℕ) (r : Rec) → Sure xs → first_broken xs seen r ≡ 0 → Kept xs seen r
all_kept [] seen r s e = tt
all_kept (x ∷ xs) seen r s e = go (x.breaks seen r) refl (all_kept xs seen r s.1) e
  where
    go : (b : Bool) → x.breaks seen r ≡ b → (first_broken xs seen r ≡ 0 → Kept xs seen r) → cond b (x.gives r) (first_broken xs seen r) ≡ 0 → (x.breaks seen r ≡ false) × Kept xs seen r
    go true q ih z = absurd (s.0 seen r q z)
    go false q ih z = (q, ih z)

pub sure : Sure (writer_rules kinds)
sure = (λ seen r q e. omega arith, (λ seen r q e. omega arith, (λ seen r q e. omega arith, (λ seen r q e. kind_sure (row_of r.tag) r.body q e, tt))))
