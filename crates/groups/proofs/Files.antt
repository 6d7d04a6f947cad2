-- The file: its outermost group, and what is behind that. Assumes nothing.
use mathlib.Core.Path.{◌≡◌, refl, sym, ap, ◌∙◌, subst}
use mathlib.Core.List.{List}
use mathlib.Core.Bool.{Bool, true, false, cond}
use Prim.Native.Nat.{ℕ, ◌+◌, ◌≤◌, ◌<◌}
use native.Mathlib.Omega.{arith}
use lib.ListN.{length, get_or, take, drop, drop_of_length-le}
use lib.Seq.{drop-cons}
use lib.Dec.{eqb}
use borrow.Author.Tests.{eq-eqb, ne_eqb, lt-ltb, le-ltb}
use Rattle.options.specs.Answers.{Verdict, refused_with}
use Rattle.options.specs.SheetWalk.{Walk, records_from}
use Rattle.options.specs.Grouped.{none, fault, group_of, body, behind, outermost, file_of, and_then, fault_of, check}
use Rattle.writing_theorems.proofs.SheetSteps.{size_at, record_here, At, at_end_lem, at_cut, at_record, at_place}
use Rattle.sheet.specs.Steps.{step_of, walk_by}
use Rattle.sheet.specs.declared.Step.{Step}
use Rattle.sheet.specs.declared.Step.TheVariants.{Record}
use Rattle.sheet.proofs.Steps as steps
use Rattle.groups.specs.Parts.{outermost_size}
use Rattle.groups.proofs.Laws.{data_there, group_then}

-- ---- The size of the outermost group

module _ (f : List ℕ) where
  pub outer_by : (x : Step) → x ≡ step_of (records_from 0 0 f) → outermost_size (records_from 0 0 f) ≡ outermost_size (walk_by f 0 x)
  outer_by x e = ap outermost_size (steps.stepped f 0 x e).0

  module _ (tag size : ℕ) (e : Record tag size ≡ step_of (records_from 0 0 f)) where
    pub outer_room : size + 3 ≤ length f
    outer_room = let h = (steps.stepped f 0 (Record tag size) e).1.0 in omega (arith, h)

    pub outer_group : tag ≡ 0 → size + 3 ≡ outermost_size (records_from 0 0 f)
    outer_group z =
        let n : length (take size (drop 3 f)) ≡ size = (steps.stepped f 0 (Record tag size) e).1.1 in
        let q : size + 3 ≡ 3 + size = omega arith in
        q ∙ sym (outer_by (Record tag size) e ∙ rw (eq-eqb tag 0 z) (ap (λ (k : ℕ). 3 + k) n))

    pub outer_other : (tag ≡ 0 → ⊥) → 0 ≡ outermost_size (records_from 0 0 f)
    outer_other z = sym (outer_by (Record tag size) e ∙ rw (ne_eqb tag 0 z))

-- ---- The file by it

-- of n bytes, where it is not 0
pub record Outer (f : List ℕ) (n : ℕ) : Type 0 where
  pub within : n ≤ length f
  pub is_group : file_of f ≡ group_of (body 4) 0 (drop 3 (take n f)) (behind n (drop n f))

abbrev Begins : List ℕ → ℕ → Type 0
Begins f n = (n ≡ 0 → file_of f ≡ fault 20 0) × ((n ≡ 0 → ⊥) → Outer f n)

begins_at : (f : List ℕ) {w : Walk} → At f 0 w → records_from 0 0 f ≡ w → Begins f (outermost_size w)
unfolding file_of
begins_at f (at_end_lem h) e = (λ z. ap (outermost f) e, λ z. absurd (z refl))
begins_at f (at_cut h) e = (λ z. ap (outermost f) e, λ z. absurd (z refl))
begins_at f (at_record h len) e = go (eqb (get_or f 0 0) 0) refl
  where
    n : ℕ
    n = 3 + length (record_here f 0).body

    size : 3 + length (record_here f 0).body ≡ 0 + 3 + size_at f 0
    size = omega (arith, len)

    there : take (size_at f 0) (drop 3 f) ≡ drop 3 (take (3 + length (record_here f 0).body) f)
    there = sym (data_there f 0 (size_at f 0) h) ∙ ap (λ (k : ℕ). drop 3 (take k f)) (sym size)

    go : (t : Bool) → eqb (get_or f 0 0) 0 ≡ t → Begins f (cond t (3 + length (record_here f 0).body) 0)
    go true q = (
      λ z. absurd (omega arith),
      λ z. record {
        within = omega (arith, size);
        is_group = ap (outermost f) e ∙ rw q (ap (λ (l : List ℕ). group_of (body 4) 0 l (behind (3 + length (record_here f 0).body) (drop (3 + length (record_here f 0).body) f))) there);
      },
    )
    go false q = (λ z. ap (outermost f) e ∙ rw q, λ z. absurd (z refl))

module _ (f : List ℕ) (n : ℕ) (e : n ≡ outermost_size (records_from 0 0 f)) where
  begins : Begins f n
  begins = subst (Begins f) (sym e) (begins_at f (at_place f 0) refl)

  pub no_outer : n ≡ 0 → file_of f ≡ fault 20 0
  no_outer z = begins.0 z

  pub outer : (n ≡ 0 → ⊥) → Outer f n
  outer z = begins.1 z

-- what is behind the outermost group
pub behind_some : (f : List ℕ) (n : ℕ) → n < length f → behind n (drop n f) ≡ fault 20 n
behind_some f n h = ap (behind n) (drop-cons f n 0 h)

pub behind_none : (f : List ℕ) (n : ℕ) → length f ≤ n → behind n (drop n f) ≡ none
behind_none f n h = ap (behind n) (drop_of_length-le f h)

-- ---- The verdict

pub check_long : (f : List ℕ) → 4100 < length f → check f ≡ refused_with 16 (length f)
unfolding check
check_long f h = rw (lt-ltb 4100 (length f) h)

module _ (f : List ℕ) (l : length f ≤ 4100) where
  pub check_short : check f ≡ fault_of (file_of f)
  unfolding check
  check_short = rw (le-ltb 4100 (length f) l)

  module _ (n : ℕ) (e : n ≡ outermost_size (records_from 0 0 f)) where
    pub check_none : n ≡ 0 → check f ≡ refused_with 20 0
    unfolding fault_of
    check_none z = check_short ∙ ap fault_of (no_outer f n e z)

    module _ (z : n ≡ 0 → ⊥) where
      pub check_group_lem : check f ≡ and_then (fault_of (group_of (body 4) 0 (drop 3 (take n f)) none)) (fault_of (behind n (drop n f)))
      check_group_lem = check_short ∙ ap fault_of (outer f n e z).is_group ∙ group_then (body 4) 0 (drop 3 (take n f)) (behind n (drop n f))

      -- by what the check of the group gave
      pub check_after : (v : Verdict) → v ≡ fault_of (group_of (body 4) 0 (drop 3 (take n f)) none) → check f ≡ and_then v (fault_of (behind n (drop n f)))
      check_after v q = check_group_lem ∙ ap (λ (y : Verdict). and_then y (fault_of (behind n (drop n f)))) (sym q)
