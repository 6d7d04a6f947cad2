-- The head of both calls, by the tests that the code makes. Assumes nothing.
use mathlib.Core.Path.{◌≡◌, refl}
use mathlib.Core.Bool.{Bool, true, false, cond}
use mathlib.Core.List.{List}
use Prim.Native.Nat.{ℕ}
use native.Mathlib.Omega.{arith}
use lib.Dec.{eqb, ltb}
use lib.ListN.{length, take, drop}
use borrow.Author.Tests.{eq-eqb, ne_eqb}
use Rattle.options.specs.Message.{cookie, shortest, longest}
use Rattle.options.specs.Reading.{same}
use Rattle.options.specs.Answers.{no_code}
use Rattle.options.specs.Index.{head_or}
use Rattle.message.specs.Walking.{unfit_of}

module _ {A : Type 0} (refuse : ℕ → ℕ → A) (m idx : List ℕ) (next : A) where
  abbrev head_by : Bool → Bool → Bool → Bool → A
  head_by t u v w = cond t (refuse 1 (length m)) (cond u (refuse 2 (length m)) (cond v (cond w next (refuse 18 (length idx))) (refuse 3 236)))

  abbrev unfit_by : Bool → Bool → Bool → ℕ
  unfit_by t u v = cond t 1 (cond u 2 (cond v 0 3))

  pub head_unfit : (unfit_of m ≡ 0 → ⊥) → head_or refuse m idx next ≡ refuse (unfit_of m) (cond (eqb (unfit_of m) 3) 236 (length m))
  head_unfit h = go (ltb (length m) shortest) (ltb longest (length m)) (same (take 4 (drop 236 m)) cookie) (eqb (length idx) 256) h
    where
      go : (t u v w : Bool) → (unfit_by t u v ≡ 0 → ⊥) → head_by t u v w ≡ refuse (unfit_by t u v) (cond (eqb (unfit_by t u v) 3) 236 (length m))
      go true u v w z = refl
      go false true v w z = refl
      go false false true w z = absurd (z refl)
      go false false false w z = refl

  head_right : unfit_of m ≡ 0 → (w : Bool) → eqb (length idx) 256 ≡ w → head_or refuse m idx next ≡ cond w next (refuse 18 (length idx))
  head_right h w e = rw e (go (ltb (length m) shortest) (ltb longest (length m)) (same (take 4 (drop 236 m)) cookie) h)
    where
      go : (t u v : Bool) → unfit_by t u v ≡ 0 → head_by t u v w ≡ cond w next (refuse 18 (length idx))
      go true u v z = absurd (omega arith)
      go false true v z = absurd (omega arith)
      go false false true z = refl
      go false false false z = absurd (omega arith)

  pub head_count : unfit_of m ≡ 0 → (length idx ≡ 256 → ⊥) → head_or refuse m idx next ≡ refuse 18 (length idx)
  head_count h n = head_right h false (ne_eqb (length idx) 256 n)

  pub head_fit : unfit_of m ≡ 0 → length idx ≡ 256 → head_or refuse m idx next ≡ next
  head_fit h n = head_right h true (eq-eqb (length idx) 256 n)

-- a code that is asked for
pub no_code_lem : (c : ℕ) → (c ≡ 0 → ⊥) → c ≡ 255 → no_code c ≡ true
no_code_lem c z e = rw (ne_eqb c 0 z, eq-eqb c 255 e)

pub code : (c : ℕ) → (c ≡ 0 → ⊥) → (c ≡ 255 → ⊥) → no_code c ≡ false
code c z e = rw (ne_eqb c 0 z, ne_eqb c 255 e)
