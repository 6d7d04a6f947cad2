-- The code's cases are the paper's; and FOR CALLERS: what a call gives, by the test that it makes. Assumes nothing.
use mathlib.Core.Path.{◌≡◌, sym, ap, ap₂, ◌∙◌}
use mathlib.Core.List.{List, ◌++◌}
use Prim.Native.Nat.{ℕ, ◌≤◌, ◌<◌}
use lib.ListN.{length, drop}
use borrow.Author.Tests.{lt-ltb, le-ltb}
use Rattle.options.specs.Answers.{given, Filled, unfilled, filled_with}
use Rattle.options.specs.Answers as answers
use Rattle.std.specs.Prelude.{Result, Ok, Err}
use Rattle.refusal.specs.declared.Refusal.{Refusal}
use Rattle.refusal.specs.declared.Rule.{Rule}
use Rattle.refusal.specs.declared.Rule.TheVariants.{NoRoom}
use Rattle.refusal.specs.Refused.{number_of}
use Rattle.filled.specs.Fill.{given_of, Fills, FillsByCase}

-- a refusal
pub fills_refusal : (w : Filled) (r : Refusal) (old : List ℕ) → w ≡ unfilled (number_of r.rule) r.place old → Fills w (Err r) old
fills_refusal w r old e = record { answer = sym (ap (λ (x : Filled). x.answer) e); buffer = sym (ap (λ (x : Filled). x.buffer) e) }

filled_by : (w : Filled) (r : Result ℕ Refusal) (after : List ℕ) → Fills w r after → w ≡ record { answer = given_of r; buffer = after }
filled_by w r after f = ap₂ (λ (g : answers.Given) (b : List ℕ). record { answer = g; buffer = b }) (sym f.answer) (sym f.buffer)

pub fills_by_case : FillsByCase
fills_by_case w after = (
  (λ n. (filled_by w (Ok n) after, λ e. record { answer = sym (ap (λ (x : Filled). x.answer) e); buffer = sym (ap (λ (x : Filled). x.buffer) e) })),
  (λ r. (filled_by w (Err r) after, fills_refusal w r after)),
)

-- the same, of a refusal by a rule at a place
pub fills_unfilled : (w : Filled) (r : Refusal) (k : Rule) (p : ℕ) (old : List ℕ) → r ≡ record { rule = k; place = p } → w ≡ unfilled (number_of k) p old → Fills w (Err r) old
fills_unfilled w r k p old q e = fills_refusal w r old (e ∙ sym (ap (λ (x : Refusal). unfilled (number_of x.rule) x.place old) q))

module _ (w : Filled) (xs old : List ℕ) (e : w ≡ filled_with xs old) where
  -- too small
  pub fills_small : (r : Refusal) → r ≡ record { rule = NoRoom; place = length old } → length old < length xs → Fills w (Err r) old
  fills_small r q l = fills_unfilled w r NoRoom (length old) old q (e ∙ rw (lt-ltb (length old) (length xs) l))

  -- large enough
  pub fills_enough : (r : ℕ) (after : List ℕ) → length xs ≤ length old → r ≡ length xs → after ≡ xs ++ drop (length xs) old → Fills w (Ok r) after
  fills_enough r after l q b =
      let z : w ≡ record { answer = given (length xs); buffer = xs ++ drop (length xs) old } = e ∙ rw (le-ltb (length old) (length xs) l) in
      record { answer = ap given q ∙ sym (ap (λ (x : Filled). x.answer) z); buffer = b ∙ sym (ap (λ (x : Filled). x.buffer) z) }
