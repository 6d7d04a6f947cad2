-- The walk of a field to its END: one law for each way through it. Assumes nothing.
use mathlib.Core.Path.{◌≡◌, refl, sym, ap, ◌∙◌}
use mathlib.Core.Bool.{Bool, true, false, cond, not}
use mathlib.Core.List.{List, [], ◌∷◌}
use Prim.Native.Nat.{ℕ, zero, suc, ◌+◌, ◌≤◌, ◌<◌}
use native.Mathlib.Nat.{le_of_suc-le-suc, not-suc-le-zero}
use native.Mathlib.Omega.{arith}
use lib.Dec.{eqb}
use lib.ListN.{length, get_or, take, drop, length-drop}
use lib.Seq.{drop-cons, drop-drop}
use borrow.Author.Tests.{eq-eqb, ne_eqb}
use Rattle.std.specs.Prelude.{Result, Ok, Err}
use Rattle.options.specs.Message.{Field, start, Rec, Opt}
use Rattle.options.specs.Reading.{Parse, found, span, Reading, accepted, refused, more, is_options_value, judge}
use Rattle.options.specs.Trim.{before_end}
use Rattle.wire.specs.Walk.{item_at}
use Rattle.wire.proofs.Laws.{rest, rest_pad, rest_end, rest_found, two}
use Rattle.message.specs.Walk.{over_stop_value, over_after_value}
use Rattle.message.specs.Judging.{stop_number}
use Rattle.refusal.specs.declared.Refusal.{Refusal}
use Rattle.refusal.specs.Refused.{number_of}
use Rattle.index.specs.Filling.{over_from, reading}
use Rattle.index.proofs.Steps.{over_none, here, judge_passes, at_last, at_long, at_stop, at_none}
use Rattle.trim.specs.declared.Next.{Next}
use Rattle.trim.specs.Ending.{Gives, Walks, GoesOn}

-- ---- the bytes before END

-- passing n bytes of data
pub end_skip : (n : ℕ) (ys : List ℕ) → n ≤ length ys → before_end n ys ≡ n + before_end 0 (drop n ys)
unfolding before_end
end_skip zero ys h = omega arith
end_skip (suc n) [] h = absurd (not-suc-le-zero h)
end_skip (suc n) (y ∷ ys) h = omega (arith, end_skip n ys (le_of_suc-le-suc h))

pub head_end : (x : ℕ) (xs : List ℕ) → x ≡ 255 → before_end 0 (x ∷ xs) ≡ 0
unfolding before_end
head_end x xs e = rw (eq-eqb x 255 e)

pub head_pad : (x : ℕ) (xs : List ℕ) → x ≡ 0 → before_end 0 (x ∷ xs) ≡ suc (before_end 0 xs)
unfolding before_end
head_pad x xs e = rw (ne_eqb x 255 (omega arith), eq-eqb x 0 e)

pub head_option : (x n : ℕ) (ys : List ℕ) → (x ≡ 0 → ⊥) → (x ≡ 255 → ⊥) → n ≤ length ys → before_end 0 (x ∷ n ∷ ys) ≡ 2 + n + before_end 0 (drop n ys)
unfolding before_end
head_option x n ys z e h = rw (ne_eqb x 255 e, ne_eqb x 0 z) (omega (arith, end_skip n ys h))

module _ (f : List ℕ) (i : ℕ) (h : i < length f) where
  pad_before : get_or f i 0 ≡ 0 → before_end 0 (drop i f) ≡ suc (before_end 0 (drop (i + 1) f))
  pad_before e =
      let p : suc i ≡ i + 1 = omega arith in
      ap (before_end 0) (drop-cons f i 0 h) ∙ head_pad (get_or f i 0) (drop (suc i) f) e ∙ ap (λ (k : ℕ). suc (before_end 0 (drop k f))) p

  end_before : get_or f i 0 ≡ 255 → before_end 0 (drop i f) ≡ 0
  end_before e = ap (before_end 0) (drop-cons f i 0 h) ∙ head_end (get_or f i 0) (drop (suc i) f) e

  option_before : (z : get_or f i 0 ≡ 0 → ⊥) (e : get_or f i 0 ≡ 255 → ⊥) (g : i + 1 < length f) → i + 2 + get_or f (i + 1) 0 ≤ length f
      → before_end 0 (drop i f) ≡ 2 + get_or f (i + 1) 0 + before_end 0 (drop (i + 2 + get_or f (i + 1) 0) f)
  option_before z e g l =
      let n : ℕ = get_or f (i + 1) 0 in
      let u : n ≤ length (drop (i + 2) f) = omega (arith, length-drop (i + 2) f) in
      ap (before_end 0) (two f i h z e g) ∙ head_option (get_or f i 0) n (drop (i + 2) f) z e u
      ∙ ap (λ (l : List ℕ). 2 + n + before_end 0 l) (drop-drop n (i + 2) f)

-- END stands within the field, or there is none
pub before_short : (k : ℕ) (xs : List ℕ) → before_end k xs ≤ length xs
unfolding before_end
before_short zero [] = omega arith
before_short zero (b ∷ bs) = go (eqb b 255) (before_short (span b bs) bs)
  where
    go : (t : Bool) → before_end (span b bs) bs ≤ length bs → cond t 0 (suc (before_end (span b bs) bs)) ≤ suc (length bs)
    go true h = omega arith
    go false h = omega arith
before_short (suc k) [] = omega arith
before_short (suc k) (b ∷ bs) = omega (arith, before_short k bs)

-- ---- what is left of a field

more_gives : (o : Opt) (w : Reading) (over over' e : ℕ) → ((os : List Opt) → over_from over' os ≡ over_from over (o ∷ os))
    → (r : Result Next Refusal) → Gives over' w e r → Gives over (more o w) e r
more_gives o (accepted os) over over' e h (Ok x) t = (t.0, t.1 ∙ h os)
more_gives o (accepted os) over over' e h (Err r) t = t
more_gives o (refused n p) over over' e h (Ok x) t = t
more_gives o (refused n p) over over' e h (Err r) t = t

as_read : {v w : Reading} {d e : ℕ} (over : ℕ) (r : Result Next Refusal) → w ≡ v → e ≡ d → Gives over v d r → Gives over w e r
as_read over r a b t = rw (a, b) t

module _ (fd : Field) (f : List ℕ) (i over : ℕ) where
  refused_here : (n : ℕ) → reading fd f over i ≡ refused n (start fd + i) → (r : Refusal) → number_of r.rule ≡ n → r.place ≡ start fd + i → Walks fd f over i (Err r)
  refused_here n e r a b = as_read over (Err r) e refl (a, b)

  -- no byte is left
  pub walk_none : length f ≡ i → (r : Refusal) → number_of r.rule ≡ 5 → r.place ≡ start fd + i → Walks fd f over i (Err r)
  walk_none l = refused_here 5 (at_none fd f i over l)

  module _ (h : i < length f) where
    pub look_pad : get_or f i 0 ≡ 0 → GoesOn fd f i over (i + 1) over
    look_pad z =
        let q : i + before_end 0 (drop i f) ≡ i + 1 + before_end 0 (drop (i + 1) f) = omega (arith, pad_before f i h z) in
        record { onward = omega arith; within = omega arith; leads = λ r. as_read over r (ap (judge fd (not (eqb over 0))) (rest_pad f i h z)) q }

    pub look_end : get_or f i 0 ≡ 255 → Walks fd f over i (Ok (record { at = i; over = over }))
    unfolding judge
    look_end e =
        let q : i ≡ i + before_end 0 (drop i f) = omega (arith, end_before f i h e) in
        as_read over (Ok (record { at = i; over = over })) (ap (judge fd (not (eqb over 0))) (rest_end f i h e)) refl (q, over_none over)

    module _ (z : get_or f i 0 ≡ 0 → ⊥) (e : get_or f i 0 ≡ 255 → ⊥) where
      pub look_last : length f < i + 2 → (r : Refusal) → number_of r.rule ≡ 4 → r.place ≡ start fd + i → Walks fd f over i (Err r)
      look_last l = refused_here 4 (at_last fd f i over [] h z e (omega arith))

      module _ (g : i + 2 ≤ length f) (n : ℕ) (q : n ≡ get_or f (i + 1) 0) where
        l_of : i + 1 < length f
        l_of = omega arith

        pub look_long : length f < i + 2 + n → (r : Refusal) → number_of r.rule ≡ 4 → r.place ≡ start fd + i → Walks fd f over i (Err r)
        look_long l = refused_here 4 (at_long fd f i over [] h z e l_of (omega (arith, q)))

        abbrev body : List ℕ
        body = take n (drop (i + 2) f)

        body_is : body ≡ take (get_or f (i + 1) 0) (drop (i + 2) f)
        body_is = ap (λ (x : ℕ). take x (drop (i + 2) f)) q

        module _ (l : i + 2 + n ≤ length f) where
          fits : i + 2 + get_or f (i + 1) 0 ≤ length f
          fits = omega (arith, q)

          abbrev item : Rec
          item = item_at (get_or f i 0) (get_or f (i + 1) 0) f i

          abbrev onward : Parse
          onward = rest f (i + 2 + get_or f (i + 1) 0)

          found_is : reading fd f over i ≡ judge fd (not (eqb over 0)) (found i item onward)
          found_is = ap (judge fd (not (eqb over 0))) (rest_found f i h z e l_of fits)

          pub look_stop : (s : ℕ) → s ≡ stop_number (over_stop_value (is_options_value fd) over (get_or f i 0) body) → (s ≡ 0 → ⊥)
              → (r : Refusal) → number_of r.rule ≡ s → r.place ≡ start fd + i → Walks fd f over i (Err r)
          look_stop s w d =
              refused_here s
              (at_stop fd f i over [] h z e l_of fits s (w ∙ ap (λ (b : List ℕ). stop_number (over_stop_value (is_options_value fd) over (get_or f i 0) b)) body_is) d)

          pub look_option : over_stop_value (is_options_value fd) over (get_or f i 0) body ≡ 0 → GoesOn fd f i over (i + 2 + n) (over_after_value over (get_or f i 0) body)
          look_option w =
              let y : over_stop_value (is_options_value fd) over (get_or f i 0) item.body ≡ 0 = ap (over_stop_value (is_options_value fd) over (get_or f i 0)) (sym body_is) ∙ w in
              let p = judge_passes fd over i item onward y in
              let v : ℕ = over_after_value over (get_or f i 0) item.body in
              let b : i + before_end 0 (drop i f) ≡ i + 2 + get_or f (i + 1) 0 + before_end 0 (drop (i + 2 + get_or f (i + 1) 0) f) = omega (arith, option_before f i h z e l_of fits) in
              record {
                onward = omega arith;
                within = l;
                leads = λ r t.
                    as_read over r (found_is ∙ p.more_is) b
                    (more_gives (here fd over i item onward) (judge fd (not (eqb v 0)) onward) over v (i + 2 + get_or f (i + 1) 0 + before_end 0 (drop (i + 2 + get_or f (i + 1) 0) f)) p.over_is r (rw (← q) t));
              }

-- ---- the loop

-- where the walk has come from the first byte on: what is left gives what the whole gives
pub record Walking (fd : Field) (f : List ℕ) (over i : ℕ) : Type 0 where
  pub at_in : i ≤ length f
  pub leads : (r : Result Next Refusal) → Walks fd f over i r → Walks fd f 0 0 r

module _ {fd : Field} {f : List ℕ} {over i : ℕ} (y : Walking fd f over i) where
  pub walking_on : (j over' : ℕ) → GoesOn fd f i over j over' → Walking fd f over' j
  walking_on j over' x = record { at_in = x.within; leads = λ r t. y.leads r (x.leads r t) }

  pub walking_none : length f ≤ i → (r : Refusal) → number_of r.rule ≡ 5 → r.place ≡ start fd + length f → Walks fd f 0 0 (Err r)
  walking_none l r a b =
      let e : length f ≡ i = omega (arith, y.at_in) in
      y.leads (Err r) (walk_none fd f i over e r a (b ∙ ap (λ (k : ℕ). start fd + k) e))
