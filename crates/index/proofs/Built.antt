-- What building comes to, by the tests that the code makes. Assumes nothing.
use mathlib.Core.Path.{◌≡◌, refl, sym, ap, ap₂, ◌∙◌}
use mathlib.Core.Bool.{cond}
use mathlib.Core.List.{List}
use Prim.Native.Nat.{ℕ}
use native.Mathlib.Omega.{arith}
use lib.Dec.{eqb}
use lib.ListN.{length}
use Rattle.std.specs.Prelude.{Result, Ok, Err}
use Rattle.options.specs.Reading.{Reading, accepted, refused, all_fields, read_message}
use Rattle.options.specs.Answers.{Filled, unfilled}
use Rattle.options.specs.Index.{built_in, build}
use Rattle.refusal.specs.declared.Refusal.{Refusal}
use Rattle.refusal.specs.declared.Rule.{Rule}
use Rattle.refusal.specs.Refused.{number_of}
use Rattle.filled.specs.Fill.{Fills}
use Rattle.filled.proofs.Answers.{fills_refusal}
use Rattle.message.specs.Judging.{unfit_of}
use Rattle.message.proofs.Readings.{read_fit}
use Rattle.index.specs.Filling.{blank, cleaned, Enters, Indexes}
use Rattle.index.proofs.Entries.{filled_is}
use Rattle.index.proofs.Heads.{head_unfit, head_count, head_fit}

pub rule_not : (k : Rule) → number_of k ≡ 0 → ⊥
rule_not k e = grind arith

-- what is entered, without the marks
module _ (m : List ℕ) (f : unfit_of m ≡ 0) where
  pub entered : {A : Type 0} (r : Result A Refusal) (last : List ℕ) → Enters blank (all_fields m) r last → Indexes (all_fields m) r (cleaned last)
  entered {A = A} r last x = go (all_fields m) refl r x
    where
      go : (w : Reading) → all_fields m ≡ w → (r : Result A Refusal) → Enters blank w r last → Indexes w r (cleaned last)
      go (refused n p) e (Ok x) y = y
      go (refused n p) e (Err r) y = y
      go (accepted os) e (Ok x) y = ap cleaned y ∙ filled_is m (record { options = os; reads = read_fit m f ∙ e })
      go (accepted os) e (Err r) y = y

module _ (m idx : List ℕ) where
  abbrev refuse : ℕ → ℕ → Filled
  refuse n p = unfilled n p idx

  pub build_unfit : (r : Refusal) → number_of r.rule ≡ unfit_of m → r.place ≡ cond (eqb (unfit_of m) 3) 236 (length m) → Fills (build m idx) (Err r) idx
  unfolding build
  build_unfit r e q =
      fills_refusal (build m idx) r idx
      (head_unfit refuse m idx (built_in (read_message m) idx) (λ y. rule_not r.rule (e ∙ y)) ∙ ap₂ (λ (n p : ℕ). unfilled n p idx) (sym e) (sym q))

  module _ (f : unfit_of m ≡ 0) where
    pub build_count : (length idx ≡ 256 → ⊥) → build m idx ≡ unfilled 18 (length idx) idx
    unfolding build
    build_count n = head_count refuse m idx (built_in (read_message m) idx) f n

    module _ (n : length idx ≡ 256) where
      built_as : (w : Reading) → all_fields m ≡ w → build m idx ≡ built_in w idx
      unfolding build
      built_as w e = head_fit refuse m idx (built_in (read_message m) idx) f n ∙ ap (λ (x : Reading). built_in x idx) (read_fit m f ∙ e)

      pub build_refused : (A : Type 0) (r : Refusal) (last : List ℕ) → Indexes {A = A} (all_fields m) (Err r) last → Fills (build m idx) (Err r) idx
      build_refused A r last x = go (all_fields m) refl x
        where
          go : (w : Reading) → all_fields m ≡ w → Indexes {A = A} w (Err r) last → Fills (build m idx) (Err r) idx
          go (accepted os) e y = absurd y
          go (refused k p) e y = fills_refusal (build m idx) r idx (built_as (refused k p) e ∙ ap₂ (λ (a b : ℕ). unfilled a b idx) (sym y.0) (sym y.1))

      pub build_done : {A : Type 0} (u : A) (last : List ℕ) → Indexes (all_fields m) (Ok u) last → (after : List ℕ) → after ≡ last → Fills (build m idx) (Ok 512) after
      build_done u last x after q = go (all_fields m) refl x
        where
          go : (w : Reading) → all_fields m ≡ w → Indexes w (Ok u) last → Fills (build m idx) (Ok 512) after
          go (refused a p) e y = absurd y
          go (accepted os) e y =
              let b : build m idx ≡ built_in (accepted os) idx = built_as (accepted os) e in
              record { answer = sym (ap (λ (x : Filled). x.answer) b); buffer = q ∙ y ∙ sym (ap (λ (x : Filled). x.buffer) b) }
