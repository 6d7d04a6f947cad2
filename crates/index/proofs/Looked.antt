-- A closer look at an offset, and the loop over a field, by the tests that the code makes. Assumes nothing.
use mathlib.Core.Path.{◌≡◌, sym, ap, ap₂, ◌∙◌}
use mathlib.Core.List.{List}
use Prim.Native.Nat.{ℕ, ◌+◌, ◌≤◌, ◌<◌}
use native.Mathlib.Omega.{arith}
use lib.ListN.{length, get_or, set, take, drop}
use Rattle.options.specs.Message.{Field, options, file, sname, start}
use Rattle.options.specs.Reading.{is_options_value}
use Rattle.message.specs.Walk.{over_stop_value, over_after_value}
use Rattle.message.specs.Judging.{stop_number}
use Rattle.std.specs.Prelude.{Result, Ok, Err}
use Rattle.options.specs.Reading.{refused}
use Rattle.refusal.specs.declared.Refusal.{Refusal}
use Rattle.refusal.specs.Refused.{number_of}
use Rattle.index.specs.Filling.{noted, Marked, reading, Leads, FirstEnd, GoesOn, Ends, Walks}
use Rattle.index.proofs.Steps.{marked_set, marked_noted, no_mark, at_pad, at_end_lem, at_last, at_long, at_stop, at_option, at_first, at_none, notes_refused}

module _ (fd : Field) (f : List ℕ) (i over : ℕ) (idx : List ℕ) where
  refused_here : (n : ℕ) → reading fd f over i ≡ refused n (start fd + i) → Marked idx
      → (r : Refusal) → number_of r.rule ≡ n → r.place ≡ start fd + i → Ends fd f i over idx (Err r) idx
  refused_here n e k r a b = record { marks_kept = k; notes = notes_refused over idx (reading fd f over i) r (e ∙ ap₂ refused (sym a) (sym b)) }

  module _ (k : Marked idx) (h : i < length f) where
    pub look_pad : get_or f i 0 ≡ 0 → GoesOn fd f i over idx (i + 1) over idx
    look_pad z = record { marks_kept = k; onward = omega arith; within = omega arith; leads = at_pad fd f i over idx h z }

    pub look_end : get_or f i 0 ≡ 255 → Ends fd f i over idx (Ok over) idx
    look_end e = record { marks_kept = k; notes = at_end_lem fd f i over idx h e }

    module _ (z : get_or f i 0 ≡ 0 → ⊥) (e : get_or f i 0 ≡ 255 → ⊥) where
      pub look_last : length f < i + 2 → (r : Refusal) → number_of r.rule ≡ 4 → r.place ≡ start fd + i → Ends fd f i over idx (Err r) idx
      look_last l = refused_here 4 (at_last fd f i over idx h z e (omega arith)) k

      module _ (g : i + 2 ≤ length f) (n : ℕ) (q : n ≡ get_or f (i + 1) 0) where
        l_of : i + 1 < length f
        l_of = omega arith

        pub look_long : length f < i + 2 + n → (r : Refusal) → number_of r.rule ≡ 4 → r.place ≡ start fd + i → Ends fd f i over idx (Err r) idx
        look_long l = refused_here 4 (at_long fd f i over idx h z e l_of (omega (arith, q))) k

        abbrev body : List ℕ
        body = take n (drop (i + 2) f)

        body_is : body ≡ take (get_or f (i + 1) 0) (drop (i + 2) f)
        body_is = ap (λ (x : ℕ). take x (drop (i + 2) f)) q

        module _ (l : i + 2 + n ≤ length f) where
          fits : i + 2 + get_or f (i + 1) 0 ≤ length f
          fits = omega (arith, q)

          pub look_stop : (s : ℕ) → s ≡ stop_number (over_stop_value (is_options_value fd) over (get_or f i 0) body) → (s ≡ 0 → ⊥)
              → (r : Refusal) → number_of r.rule ≡ s → r.place ≡ start fd + i → Ends fd f i over idx (Err r) idx
          look_stop s w d =
              refused_here s
              (at_stop fd f i over idx h z e l_of fits s (w ∙ ap (λ (b : List ℕ). stop_number (over_stop_value (is_options_value fd) over (get_or f i 0) b)) body_is) d) k

          pub look_option : over_stop_value (is_options_value fd) over (get_or f i 0) body ≡ 0
              → GoesOn fd f i over idx (i + 2 + n) (over_after_value over (get_or f i 0) body) (noted idx (get_or f i 0) (start fd + i))
          look_option w =
              record {
                marks_kept = marked_noted k (get_or f i 0) (start fd + i) (low fd);
                onward = omega arith;
                within = l;
                leads = λ r last t.
                    at_option fd f i over idx h z e l_of fits (ap (λ (y : List ℕ). over_stop_value (is_options_value fd) over (get_or f i 0) y) (sym body_is) ∙ w) r last
                    (rw (← q) t);
              }
            where
              low : (fd : Field) → start fd + i ≡ 0 → ⊥
              low options y = omega arith
              low file y = omega arith
              low sname y = omega arith

-- ---- the loop

-- where the walk has come from the first byte on: what is left gives what the whole gives
pub record Walking (fd : Field) (f idx₀ : List ℕ) (idx : List ℕ) (over i : ℕ) : Type 0 where
  pub at_in : i ≤ length f
  pub marks : Marked idx
  pub leads : Leads fd f 0 0 idx₀ i over idx

module _ {fd : Field} {f idx₀ idx : List ℕ} {over i : ℕ} (y : Walking fd f idx₀ idx over i) where
  pub walking_first : (start fd ≡ 0 → ⊥) → i < length f → (e : ℕ) → FirstEnd idx f i e → Walking fd f idx₀ (set idx (get_or f i 0) (start fd + i)) over e
  walking_first b h e x =
      let d = no_mark y.marks (get_or f i 0) x.no_entry in
      record {
        at_in = x.within;
        marks = marked_set y.marks (get_or f i 0) (start fd + i) (λ z. b (omega arith));
        leads = λ r last t.
            y.leads r last
            (at_first fd f i over idx h d.0 d.2 (omega (arith, x.is_end, x.within)) (omega (arith, x.is_end, x.within)) d.1 x.no_entry r last
            (rw (← x.is_end) t));
      }

  pub walking_on : (j over' : ℕ) (idx' : List ℕ) → GoesOn fd f i over idx j over' idx' → Walking fd f idx₀ idx' over' j
  walking_on j over' idx' x = record { at_in = x.within; marks = x.marks_kept; leads = λ s last t. y.leads s last (x.leads s last t) }

  pub walking_ends : (r : Result ℕ Refusal) (idx' : List ℕ) → Ends fd f i over idx r idx' → Walks fd f idx₀ r idx'
  walking_ends r idx' x = record { marks_kept = x.marks_kept; notes = y.leads r idx' x.notes }

  pub walking_none : length f ≤ i → (r : Refusal) → number_of r.rule ≡ 5 → r.place ≡ start fd + length f → Walks fd f idx₀ (Err r) idx
  walking_none l r a b =
      let e : length f ≡ i = omega (arith, y.at_in) in
      walking_ends (Err r) idx (refused_here fd f i over idx 5 (at_none fd f i over e) y.marks r a (b ∙ ap (λ (k : ℕ). start fd + k) e))

pub walking_begins : (fd : Field) (f idx : List ℕ) → Marked idx → Walking fd f idx idx 0 0
walking_begins fd f idx k = record { at_in = omega arith; marks = k; leads = λ r last t. t }
