-- Pads passed over: what is left of a field gives the same as the whole. Assumes nothing.
use mathlib.Core.Path.{◌≡◌, refl, sym, ap, ◌∙◌}
use mathlib.Core.Bool.{Bool, true, false, cond, not}
use mathlib.Core.List.{List, [], ◌∷◌}
use Prim.Native.Nat.{ℕ, ◌+◌, ◌≤◌, ◌<◌}
use native.Mathlib.Omega.{arith}
use lib.Dec.{eqb, ltb}
use lib.ListN.{length, get_or, drop, length-drop}
use lib.Seq.{drop-drop}
use borrow.Author.Tests.{eqb-true, ltb-false}
use Rattle.std.specs.Prelude.{Option, Some, None, option_map}
use Rattle.std.specs.List.{position_or_len}
use Rattle.std.specs.Option.{unwrap_or}
use Rattle.std.proofs.lemmas.List.Sums.{prefix_len-le-length}
use Rattle.std.proofs.lemmas.List.{get_or-drop}
use Rattle.std.proofs.lemmas.List.Quantifiers.{position-Some}
use Rattle.options.specs.Reading.{parse}
use Rattle.wire.specs.Ahead.{next_of, code_from}
use Rattle.wire.proofs.Laws.{rest, rest_none, head_pad}

abbrev pub no_pad : ℕ → Bool
no_pad x = not (eqb x 0)

-- as many pads as there are in front
abbrev pub in_front : List ℕ → ℕ
in_front xs = position_or_len no_pad xs

skip : (xs : List ℕ) (i : ℕ) → parse i 0 xs ≡ parse (i + in_front xs) 0 (drop (in_front xs) xs)
skip [] i = ap (λ (a : ℕ). parse a 0 []) (omega arith)
skip (x ∷ xs) i = go (eqb x 0) refl (skip xs (i + 1))
  where
    go : (b : Bool) → eqb x 0 ≡ b → parse (i + 1) 0 xs ≡ parse (i + 1 + in_front xs) 0 (drop (in_front xs) xs) → parse i 0 (x ∷ xs) ≡ parse (i + cond (not (not b)) (1 + in_front xs) 0) 0 (drop (cond (not (not b)) (1 + in_front xs) 0) (x ∷ xs))
    go true e ih =
        let q : i + 1 + in_front xs ≡ i + (1 + in_front xs) = omega arith in
        head_pad x xs i (eqb-true x 0 e) ∙ ih ∙ ap (λ (a : ℕ). parse a 0 (drop (in_front xs) xs)) q ∙ ap (λ (l : List ℕ). parse (i + (1 + in_front xs)) 0 l) (drop-drop (in_front xs) 1 (x ∷ xs))
    go false e ih = ap (λ (a : ℕ). parse a 0 (x ∷ xs)) (omega arith)

module _ (f : List ℕ) (from : ℕ) where
  abbrev n : ℕ
  n = in_front (drop from f)

  -- what is left once pads are passed over
  pub rest_skip : rest f from ≡ rest f (from + n)
  rest_skip = skip (drop from f) from ∙ ap (λ (l : List ℕ). parse (from + n) 0 l) (drop-drop n from f)

  -- a code byte stands at the offset that is found, and what is left from it on is what is left from the first on
  pub record Found (i : ℕ) : Type 0 where
    pub onward : from ≤ i
    pub inside : i < length f
    pub code : get_or f i 0 ≡ 0 → ⊥
    pub same : rest f i ≡ rest f from

  pub code_found : (i : ℕ) → Some i ≡ code_from from (drop from f) → Found i
  code_found i e = go (ltb n (length (drop from f))) refl e
    where
      go : (b : Bool) → ltb n (length (drop from f)) ≡ b → Some i ≡ option_map (λ (k : ℕ). from + k) (cond b (Some n) None) → Found i
      go true h z =
          let q : i ≡ from + n = cc in
          let p = position-Some no_pad (drop from f) n 0 (rw h refl) in
          record {
            onward = omega (arith, q);
            inside = omega (arith, p.0, q, length-drop from f);
            code = λ o. cc (p.1, get_or-drop from f n 0, q, o);
            same = ap (rest f) q ∙ sym rest_skip;
          }
      go false h z = absurd (cc)

  pub none_found : None ≡ code_from from (drop from f) → None ≡ next_of (rest f from)
  none_found e = go (ltb n (length (drop from f))) refl e
    where
      go : (b : Bool) → ltb n (length (drop from f)) ≡ b → None ≡ option_map (λ (k : ℕ). from + k) (cond b (Some n) None) → None ≡ next_of (rest f from)
      go true h z = absurd (cc)
      go false h z =
          let l : length f ≤ from + n = omega (arith, ltb-false n (length (drop from f)) h, length-drop from f) in
          rw (rest_skip, rest_none f (from + n) l) refl

  -- pads up to the end
  all_pads : from ≤ length f → None ≡ code_from from (drop from f) → rest f from ≡ rest f (length f)
  all_pads l e = go (ltb n (length (drop from f))) refl e
    where
      go : (b : Bool) → ltb n (length (drop from f)) ≡ b → None ≡ option_map (λ (k : ℕ). from + k) (cond b (Some n) None) → rest f from ≡ rest f (length f)
      go true h z = absurd (cc)
      go false h z =
          let q : from + n ≡ length f = omega (arith, ltb-false n (length (drop from f)) h, length-drop from f, prefix_len-le-length (λ (x : ℕ). not (no_pad x)) (drop from f)) in
          rest_skip ∙ ap (rest f) q

  -- the offset that is found, or the end
  pub passed : from ≤ length f → (o : Option ℕ) → o ≡ code_from from (drop from f)
      → (from ≤ unwrap_or o (length f)) × (unwrap_or o (length f) ≤ length f) × (rest f (unwrap_or o (length f)) ≡ rest f from)
  passed l (Some i) e = let y = code_found i e in (y.onward, omega (arith, y.inside), y.same)
  passed l None e = (l, omega arith, sym (all_pads l e))
