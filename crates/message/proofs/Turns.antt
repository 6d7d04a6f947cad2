-- The walk field after field. Assumes nothing.
use mathlib.Core.Path.{◌≡◌, refl, sym, ap, ap₂, ◌∙◌}
use mathlib.Core.Bool.{Bool, true, false}
use mathlib.Core.List.{List, [], ◌∷◌}
use mathlib.Core.Logic.{◌⊎◌, inl, inr}
use Prim.Native.Nat.{ℕ, zero, suc, ◌+◌, ◌-◌, ◌*◌, ◌≤◌, ◌<◌}
use native.Mathlib.Omega.{arith}
use borrow.Author.Tests.{ne_eqb}
use lib.ListN.{length, get_or, take, drop, length-drop}
use lib.Seq.{length-take-le}
use Rattle.options.specs.Message.{Field, options, file, sname}
use Rattle.options.specs.Reading.{is_options_value, file_in, sname_in, parse}
use Rattle.options.specs.CodeSet.{marked}
use Rattle.std.specs.Prelude.{Ok, Err}
use Rattle.std.proofs.lemmas.List.{length-take}
use Rattle.refusal.specs.declared.Refusal.{Refusal}
use Rattle.message.specs.declared.Walked.{Walked}
use Rattle.message.specs.declared.Field as coded
use Rattle.message.specs.declared.Field.TheVariants.{Options, File, Sname}
use Rattle.message.specs.contracts.Field.{the_type}
use denote.Enum.Bare.{sameb}
use Rattle.message.specs.Fields.{field_of}
use Rattle.theorems.proofs.View.{clash}
use Rattle.message.specs.Active.{active_in}
use Rattle.message.specs.Walk.{Ending, Walk, nothing, done, walked_of, ending_of, run_of, Few, Walks}
use Rattle.message.specs.Walking.{start_from, end_place, bytes_from, walk_field, step, all_walked, Gives, Laid, in_message, in_none}
use Rattle.message.proofs.Laws.{take_rest}
use Rattle.message.proofs.Rules.{has_number}
use Rattle.message.proofs.Walks.{walk_no_over}

-- the fields in their order
abbrev pub nth : ℕ → Field
nth zero = options
nth (suc zero) = file
nth (suc (suc n)) = sname

pub nth_is : (n : ℕ) (d : coded.Field) → n < 3 → field_of (get_or (Options ∷ File ∷ Sname ∷ []) n d) ≡ nth n
nth_is zero d h = refl
nth_is (suc zero) d h = refl
nth_is (suc (suc zero)) d h = refl
nth_is (suc (suc (suc n))) d h = absurd (omega arith)

pub is_main : (f : coded.Field) → sameb the_type f Options ≡ is_options_value (field_of f)
is_main Options = refl
is_main File = refl
is_main Sname = refl

pub fd_part : (first : ℕ) (m : List ℕ) (fd : Field) → take (end_place (length m) fd - start_from first fd) (drop (start_from first fd) m) ≡ bytes_from first fd m
fd_part first m options = take_rest m first
fd_part first m file = refl
fd_part first m sname = refl

module _ (w : List ℕ) (marks : Bool) (want first : ℕ) (m : List ℕ) where
  -- what the fields from the nth on give, on top of k
  abbrev pub from_nth : ℕ → Walk → Walk
  from_nth zero k = step w marks want first m sname (step w marks want first m file (step w marks want first m options k))
  from_nth (suc zero) k = step w marks want first m sname (step w marks want first m file k)
  from_nth (suc (suc zero)) k = step w marks want first m sname k
  from_nth (suc (suc (suc n))) k = k

  next_nth : (n : ℕ) → n < 3 → (k : Walk) → from_nth (n + 1) (step w marks want first m (nth n) k) ≡ from_nth n k
  next_nth zero h k = refl
  next_nth (suc zero) h k = refl
  next_nth (suc (suc zero)) h k = refl
  next_nth (suc (suc (suc n))) h k = absurd (omega arith)

  refused_nth : (n : ℕ) (k : Walk) → (k.end ≡ 0 → ⊥) → from_nth n k ≡ k
  refused_nth zero k h = rw (ne_eqb k.end 0 h, ne_eqb k.end 0 h, ne_eqb k.end 0 h) refl
  refused_nth (suc zero) k h = rw (ne_eqb k.end 0 h, ne_eqb k.end 0 h) refl
  refused_nth (suc (suc zero)) k h = rw (ne_eqb k.end 0 h) refl
  refused_nth (suc (suc (suc n))) k h = refl

  ended_nth : (n : ℕ) (k : Walk) → 3 ≤ n → from_nth n k ≡ k
  ended_nth zero k h = absurd (omega arith)
  ended_nth (suc zero) k h = absurd (omega arith)
  ended_nth (suc (suc zero)) k h = absurd (omega arith)
  ended_nth (suc (suc (suc n))) k h = refl

  abbrev met : Walked → List ℕ → Walk
  met s set = done (run_of set (ending_of (Ok s))) 0 0

  -- n fields are walked: s and set' are what they gave
  pub record Turning (set : List ℕ) (n : ℕ) (s : Walked) (set' : List ℕ) : Type 0 where
    pub no_over : marked w 52 ≡ false → s.kept.over ≡ 0
    pub few : n ≡ 0 ⊎ (length m ≤ 1472) → Few (65536 * n) (ending_of (Ok s))
    pub same : from_nth n (met s set') ≡ all_walked w marks want first m set

  pub turning_begins : (set : List ℕ) → Turning set 0 (record { kept = nothing; used = 0; count = 0 }) set
  unfolding all_walked
  turning_begins set =
      record { no_over = λ _. refl; few = λ _. record { whole = omega arith; used = omega arith; count = omega arith }; same = refl }

  module _ {set : List ℕ} {n : ℕ} {s : Walked} {set' : List ℕ} (y : Turning set n s set') where
    pub turning_ends : 3 ≤ n → Gives w marks want first m set (ending_of (Ok s)) set'
    turning_ends h =
        let e = sym (ended_nth n (met s set') h) ∙ y.same in
        record { is = ap walked_of e; codes = ap (λ (x : Walk). x.run.set) e }

    module _ (h : n < 3) (l : Laid w first m) (fd : Field) (q : fd ≡ nth n) where
      few_more : (s' : Walked) → (length m ≤ 1472 → Few (65536 * (n + 1)) (ending_of (Ok s'))) → n + 1 ≡ 0 ⊎ (length m ≤ 1472) → Few (65536 * (n + 1)) (ending_of (Ok s'))
      few_more s' f (inl e) = absurd (omega arith)
      few_more s' f (inr b) = f b

      -- a field that is not active
      pub turning_over : active_in s.kept.over fd ≡ false → Turning set (n + 1) s set'
      turning_over a =
          record {
            no_over = y.no_over;
            few = few_more s (λ b. let f = y.few (inr b) in record { whole = omega (arith, f.whole); used = omega (arith, f.used); count = omega (arith, f.count) });
            same = ap (from_nth (n + 1)) (sym (rw (← q, a) refl)) ∙ next_nth n h (met s set') ∙ y.same;
          }

      module _ (a : active_in s.kept.over fd ≡ true) where
        abbrev k : Walk
        k = walk_field w marks want first m fd (run_of set' (ending_of (Ok s)))

        on : from_nth (n + 1) k ≡ all_walked w marks want first m set
        on = ap (from_nth (n + 1)) (sym (rw (← q, a) refl)) ∙ next_nth n h (met s set') ∙ y.same

        -- a further field is a message's
        in_a_message : (fd ≡ options → ⊥) → (first ≡ 240) × (length m ≤ 1472)
        in_a_message o = go l fd o a
          where
            go : Laid w first m → (f : Field) → (f ≡ options → ⊥) → active_in s.kept.over f ≡ true → (first ≡ 240) × (length m ≤ 1472)
            go (in_message e b) f o z = (e, b)
            go (in_none e b) options o z = absurd (o refl)
            go (in_none e b) file o z = let u : true ≡ false = sym z ∙ ap file_in (y.no_over b) in absurd (cc)
            go (in_none e b) sname o z = let u : true ≡ false = sym z ∙ ap sname_in (y.no_over b) in absurd (cc)

        first_low : first ≤ 240
        first_low = go l
          where
            go : Laid w first m → first ≤ 240
            go (in_message e b) = omega arith
            go (in_none e b) = omega arith

        pub in_bounds : first < length m → (start_from first fd ≤ end_place (length m) fd) × (end_place (length m) fd ≤ length m)
        in_bounds g = go fd refl
          where
            go : (f : Field) → fd ≡ f → (start_from first f ≤ end_place (length m) f) × (end_place (length m) f ≤ length m)
            go options e = (omega arith, omega arith)
            go file e = let z = in_a_message (λ o. clash (cc)) in (omega arith, omega (arith, g, z.0))
            go sname e = let z = in_a_message (λ o. clash (cc)) in (omega arith, omega (arith, g, z.0))

        pub inside : first < length m → length m ≤ 9223372036854775808
            → (0 < length (bytes_from first fd m)) × (length (bytes_from first fd m) ≤ 9223372036854775808) × (start_from first fd ≤ 240) × Few 1000000 (ending_of (Ok s))
        inside g b = go fd refl
          where
            few_here : n ≡ 0 ⊎ (length m ≤ 1472) → Few 1000000 (ending_of (Ok s))
            few_here e = let f = y.few e in record { whole = omega (arith, f.whole); used = omega (arith, f.used); count = omega (arith, f.count) }

            at_first : (k : ℕ) → nth k ≡ options → k ≡ 0
            at_first zero e = refl
            at_first (suc zero) e = clash (cc)
            at_first (suc (suc k)) e = clash (cc)

            go : (f : Field) → fd ≡ f → (0 < length (bytes_from first f m)) × (length (bytes_from first f m) ≤ 9223372036854775808) × (start_from first f ≤ 240) × Few 1000000 (ending_of (Ok s))
            go options e = (omega (arith, length-drop first m), omega (arith, length-drop first m), first_low, few_here (inl (at_first n (sym q ∙ e))))
            go file e =
                let z = in_a_message (λ o. clash (cc)) in
                let c : length (take 128 (drop 108 m)) ≡ 128 = length-take-le 128 (drop 108 m) (omega (arith, length-drop 108 m, z.0)) in
                (omega (arith, c), omega (arith, c), omega arith, few_here (inr z.1))
            go sname e =
                let z = in_a_message (λ o. clash (cc)) in
                let c : length (take 64 (drop 44 m)) ≡ 64 = length-take-le 64 (drop 44 m) (omega (arith, length-drop 44 m, z.0)) in
                (omega (arith, c), omega (arith, c), omega arith, few_here (inr z.1))

        -- what the walk of the field gave
        pub turning_refused : (r : Refusal) (set'' : List ℕ) → Walks w marks (is_options_value fd) want (start_from first fd) (bytes_from first fd m) (ending_of (Ok s)) set' (ending_of (Err r)) set''
            → Gives w marks want first m set (ending_of (Err r)) set''
        unfolding walk_field
        turning_refused r set'' z =
            let o : k.end ≡ 0 → ⊥ = λ e. has_number r.rule (ap (λ (x : Ending). x.end) z.is ∙ e) in
            let e = sym (refused_nth (n + 1) k o) ∙ on in
            record { is = z.is ∙ ap walked_of e; codes = z.codes ∙ ap (λ (x : Walk). x.run.set) e }

        pub turning_on : (s' : Walked) (set'' : List ℕ) → Walks w marks (is_options_value fd) want (start_from first fd) (bytes_from first fd m) (ending_of (Ok s)) set' (ending_of (Ok s')) set''
            → Turning set (n + 1) s' set''
        unfolding walk_field
        turning_on s' set'' z =
            record {
              no_over = λ b. ap (λ (x : Ending). x.kept.over) z.is ∙ walk_no_over w marks (is_options_value fd) want (start_from first fd) b (parse 0 0 (bytes_from first fd m)) (run_of set' (ending_of (Ok s))) (y.no_over b);
              few = few_more s' more;
              same = ap (from_nth (n + 1)) (ap₂ (λ (x : Ending) (c : List ℕ). record { run = run_of c x; end = x.end; place = x.place }) z.is z.codes) ∙ on;
            }
          where
            size : (f : Field) → length m ≤ 1472 → length (bytes_from first f m) ≤ 1472
            size options b = omega (arith, length-drop first m)
            size file b = omega (arith, length-take 128 (drop 108 m))
            size sname b = omega (arith, length-take 64 (drop 44 m))

            more : length m ≤ 1472 → Few (65536 * (n + 1)) (ending_of (Ok s'))
            more b =
                let f = z.few (65536 * n) (y.few (inr b)) in
                let c = size fd b in
                record { whole = omega (arith, f.whole); used = omega (arith, f.used); count = omega (arith, f.count) }
