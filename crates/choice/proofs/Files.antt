-- The choice from a whole file, by what its outermost group gave. Assumes nothing.
use mathlib.Core.Path.{◌≡◌, sym, ap, ◌∙◌}
use mathlib.Core.List.{List}
use Prim.Native.Nat.{ℕ, ◌≤◌, ◌<◌}
use lib.ListN.{length, take, drop}
use lib.Seq.{take_at}
use Rattle.options.specs.Answers.{Verdict, passed, refused_with, record_bytes, unfilled, filled_with}
use Rattle.options.specs.SheetWalk.{records_from}
use Rattle.options.specs.Grouped.{Items, none, group_of, body, behind, file_of, and_then, fault_of, check, filled_if, chosen, choice}
use Rattle.buffer.proofs.Writing.{written_front}
use Rattle.groups.specs.Parts.{outermost_size}
use Rattle.groups.proofs.Files.{outer, behind_some, behind_none, check_long, check_none, check_group_lem}
use Rattle.choice.specs.Parts.{Chose}
use Rattle.std.specs.Prelude.{Ok, Err}
use Rattle.refusal.specs.declared.Refusal.{Refusal}
use Rattle.refusal.specs.Refused.{number_of}

module _ (f class old : List ℕ) where
  pub choice_refused : (n p : ℕ) → check f ≡ refused_with n p → choice f class old ≡ unfilled n p old
  unfolding choice
  choice_refused n p e = ap (λ (v : Verdict). filled_if v (record_bytes (chosen class (file_of f))) old) e

  choice_passed : check f ≡ passed → choice f class old ≡ filled_with (record_bytes (chosen class (file_of f))) old
  unfolding choice
  choice_passed e = ap (λ (v : Verdict). filled_if v (record_bytes (chosen class (file_of f))) old) e

  pub choice_long : 4100 < length f → choice f class old ≡ unfilled 16 (length f) old
  choice_long h = choice_refused 16 (length f) (check_long f h)

  module _ (l : length f ≤ 4100) (n : ℕ) (e : n ≡ outermost_size (records_from 0 0 f)) where
    pub choice_none : n ≡ 0 → choice f class old ≡ unfilled 20 0 old
    choice_none z = choice_refused 20 0 (check_none f l n e z)

    module _ (z : n ≡ 0 → ⊥) (sheet : List ℕ) (bound : ℕ) (after : List ℕ) where
      abbrev group : Items
      group = group_of (body 4) 0 (drop 3 (take n f)) none

      pub choice_bad : (r : Refusal) → Chose group class sheet 0 bound (Err r) after → choice f class old ≡ unfilled (number_of r.rule) r.place old
      choice_bad r c = choice_refused (number_of r.rule) r.place (check_group_lem f l n e z ∙ ap (λ (v : Verdict). and_then v (fault_of (behind n (drop n f)))) c)

      module _ (end : ℕ) (c : Chose group class sheet 0 bound (Ok end) after) where
        then_behind : check f ≡ fault_of (behind n (drop n f))
        then_behind = check_group_lem f l n e z ∙ ap (λ (v : Verdict). and_then v (fault_of (behind n (drop n f)))) c.0

        pub choice_behind : n < length f → choice f class old ≡ unfilled 20 n old
        unfolding fault_of
        choice_behind h = choice_refused 20 n (then_behind ∙ ap fault_of (behind_some f n h))

        -- what is lent on is what is chosen
        laid : take end after ≡ record_bytes (chosen class group)
        laid = let w = written_front c.1 in ap (take end) w.1 ∙ take_at (record_bytes (chosen class group)) (drop (length (record_bytes (chosen class group))) sheet) end (sym w.0)

        pub choice_given : length f ≤ n → choice f class old ≡ filled_with (take end after) old
        unfolding fault_of
        choice_given h =
            let q : file_of f ≡ group = (outer f n e z).is_group ∙ ap (group_of (body 4) 0 (drop 3 (take n f))) (behind_none f n h) in
            choice_passed (then_behind ∙ ap fault_of (behind_none f n h))
            ∙ ap (λ (xs : List ℕ). filled_with xs old) (ap (λ (w : Items). record_bytes (chosen class w)) q ∙ sym laid)
