-- A plan fits exactly where the options that are left for its last field, and END, fit there. Assumes nothing.
use mathlib.Core.Path.{◌≡◌, refl, sym, ap, ◌∙◌}
use mathlib.Core.List.{List, [], ◌∷◌}
use mathlib.Core.Bool.{Bool, true, false, cond}
use Prim.Native.Nat.{ℕ, suc, ◌+◌, ◌-◌, ◌<◌, ◌≤◌}
use native.Mathlib.Omega.{arith}
use lib.ListN.{drop}
use lib.Dec.{ltb, leb}
use borrow.Author.Tests.{ltb-true, ltb-false, lt-ltb, le-ltb, le-leb, leb-true, leb-false, ne_eqb}
use Rattle.options.specs.Message.{Rec}
use Rattle.options.specs.Writing.{size, option_bytes, fits, is_nil, past_options, past_file, past_sname, plan_fits}
use Rattle.plan.specs.Steps.{sizes, left_over}
use Rattle.plan.proofs.Counting.{sizes_more}

shift : (a b k : ℕ) → a < k → ltb b (k - a) ≡ ltb (a + b) k
shift a b k l = same (ltb b (k - a)) refl
  where
    same : (x : Bool) → ltb b (k - a) ≡ x → x ≡ ltb (a + b) k
    same true q = sym (lt-ltb (a + b) k (omega (arith, ltb-true b (k - a) q)))
    same false q = sym (le-ltb (a + b) k (omega (arith, ltb-false b (k - a) q)))

-- none is left over
all_fit : (n : ℕ) (rs : List Rec) → 0 < n → is_nil (left_over n rs) ≡ ltb (sizes rs) n
unfolding fits option_bytes
all_fit n [] h = sym (lt-ltb 0 n h)
all_fit n (r ∷ rs) h = go (ltb (size r) n) refl (λ l. all_fit (n - size r) rs l) ∙ ap (λ (k : ℕ). ltb k n) (sym (sizes_more r rs))
  where
    go : (b : Bool) → ltb (size r) n ≡ b → (0 < n - size r → is_nil (left_over (n - size r) rs) ≡ ltb (sizes rs) (n - size r))
        → is_nil (drop (cond b (suc (fits (n - size r) rs)) 0) (r ∷ rs)) ≡ ltb (size r + sizes rs) n
    go true t ih =
        let l : size r < n = ltb-true (size r) n t in
        ih (omega arith) ∙ shift (size r) (sizes rs) n l
    go false t ih = sym (le-ltb (size r + sizes rs) n (omega (arith, ltb-false (size r) n t)))

-- ---- Each plan

pub fits_0 : (n : ℕ) (rs : List Rec) → plan_fits 0 n rs ≡ ltb (sizes rs) n
unfolding plan_fits past_sname past_file past_options
fits_0 n rs = go (leb 1 n) refl
  where
    go : (b : Bool) → leb 1 n ≡ b → cond b (is_nil (left_over n rs)) false ≡ ltb (sizes rs) n
    go true q = all_fit n rs (leb-true 1 n q)
    go false q = sym (le-ltb (sizes rs) n (omega (arith, leb-false 1 n q)))

-- the options take too much for plan 0
pub not_0 : (n : ℕ) (rs : List Rec) → n ≤ sizes rs → plan_fits 0 n rs ≡ false
not_0 n rs l = fits_0 n rs ∙ le-ltb (sizes rs) n l

module _ (n : ℕ) (rs : List Rec) (l : 4 ≤ n) where
  -- what options leaves over beside option 52, and file after it
  abbrev pub after_options_value : List Rec
  after_options_value = left_over (n - 3) rs

  abbrev pub after_file_value : List Rec
  after_file_value = left_over 128 after_options_value

  pub past : (p : ℕ) → (p ≡ 0 → ⊥) → past_options p n rs ≡ after_options_value
  unfolding past_options fits
  past p z = rw (ne_eqb p 0 z, lt-ltb 3 n l)

  pub fits_1 : plan_fits 1 n rs ≡ ltb (sizes after_options_value) 128
  unfolding plan_fits past_sname past_file
  fits_1 =
      ap (λ (b : Bool). cond b (is_nil (past_sname 1 n rs)) false) (le-leb 4 n l)
      ∙ ap (λ (ts : List Rec). is_nil (left_over 128 ts)) (past 1 (λ e. omega arith))
      ∙ all_fit 128 after_options_value (omega arith)

  pub fits_2 : plan_fits 2 n rs ≡ ltb (sizes after_options_value) 64
  unfolding plan_fits past_sname past_file
  fits_2 =
      ap (λ (b : Bool). cond b (is_nil (past_sname 2 n rs)) false) (le-leb 4 n l)
      ∙ ap (λ (ts : List Rec). is_nil (left_over 64 ts)) (past 2 (λ e. omega arith))
      ∙ all_fit 64 after_options_value (omega arith)

  pub fits_3 : plan_fits 3 n rs ≡ ltb (sizes after_file_value) 64
  unfolding plan_fits past_sname past_file
  fits_3 =
      ap (λ (b : Bool). cond b (is_nil (past_sname 3 n rs)) false) (le-leb 4 n l)
      ∙ ap (λ (ts : List Rec). is_nil (left_over 64 (left_over 128 ts))) (past 3 (λ e. omega arith))
      ∙ all_fit 64 after_file_value (omega arith)
