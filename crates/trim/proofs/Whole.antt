-- The place of END in a message, field after field, by the tests that the code makes. Assumes nothing.
use mathlib.Core.Path.{◌≡◌, refl, sym, ap, ap₂, ◌∙◌}
use mathlib.Core.Bool.{Bool, true, false, cond}
use mathlib.Core.List.{List, []}
use Prim.Native.Nat.{ℕ, ◌+◌, ◌≤◌}
use native.Mathlib.Omega.{arith}
use lib.Dec.{eqb}
use lib.ListN.{length}
use Rattle.std.specs.Prelude.{Result, Ok, Err}
use Rattle.options.specs.Message.{Field, options, file, sname, bytes, Opt}
use Rattle.options.specs.Reading.{parse, Reading, accepted, refused, judge, items, overload, file_in, sname_in, and_then, extend, all_fields, read_message}
use Rattle.options.specs.Trim.{before_end, ends_at, options_end_value}
use Rattle.theorems.proofs.Lengths.{field_le}
use Rattle.refusal.specs.declared.Refusal.{Refusal}
use Rattle.refusal.specs.Refused.{number_of}
use Rattle.message.specs.Active.{active_in}
use Rattle.message.specs.Judging.{unfit_of}
use Rattle.message.proofs.Readings.{read_fit, read_unfit}
use Rattle.index.specs.Filling.{reading}
use Rattle.index.proofs.Steps.{refused_stays}
use Rattle.index.proofs.Built.{rule_not}
use Rattle.trim.specs.declared.Next.{Next}
use Rattle.trim.specs.Plain.{ended_by}
use Rattle.trim.specs.Ending.{Gives, Walks, Judges}
use Rattle.trim.proofs.Steps.{before_short}
use Rattle.trim.proofs.Ends.{first_read, all_is, all_refused, end_is}

module _ (m : List ℕ) where
  -- a further field, where it is active
  then_judges : {A : Type 0} (b : Bool) (fd : Field) (os : List Opt) (r : Result A Refusal) → Judges (cond b (reading fd (bytes fd m) 0 0) (accepted [])) r → Judges (extend b fd m (accepted os)) r
  then_judges false fd os (Ok x) t = t
  then_judges false fd os (Err r) t = t
  then_judges {A = A} true fd os r t = go (judge fd false (parse 0 0 (bytes fd m))) r t
    where
      go : (w : Reading) (r : Result A Refusal) → Judges w r → Judges (and_then os w) r
      go (accepted ps) (Ok x) t = t
      go (accepted ps) (Err r) t = t
      go (refused n p) (Ok x) t = t
      go (refused n p) (Err r) t = t

  as_refused : (r : Refusal) → read_message m ≡ refused (number_of r.rule) r.place → ended_by (Err r) ≡ options_end_value m
  as_refused r e = sym (end_is m (refused (number_of r.rule) r.place) e)

  pub end_unfit : (r : Refusal) → number_of r.rule ≡ unfit_of m → r.place ≡ cond (eqb (unfit_of m) 3) 236 (length m) → ended_by (Err r) ≡ options_end_value m
  end_unfit r e q = as_refused r (read_unfit m (λ y. rule_not r.rule (e ∙ y)) ∙ ap₂ refused (sym e) (sym q))

  module _ (f : unfit_of m ≡ 0) where
    refused_as : (r : Refusal) (n p : ℕ) → (number_of r.rule ≡ n) × (r.place ≡ p) → all_fields m ≡ refused n p → ended_by (Err r) ≡ options_end_value m
    refused_as r n p t e = as_refused r (read_fit m f ∙ e ∙ ap₂ refused (sym t.0) (sym t.1))

    pub end_first : (r : Refusal) → Walks options (bytes options m) 0 0 (Err r) → ended_by (Err r) ≡ options_end_value m
    end_first r h = go (first_read m) refl h
      where
        go : (w : Reading) → first_read m ≡ w → Gives 0 w (0 + before_end 0 (bytes options m)) (Err r) → ended_by (Err r) ≡ options_end_value m
        go (accepted os) e t = absurd t
        go (refused n p) e t = refused_as r n p t (all_refused m n p e)

    module _ (x : Next) (h : Walks options (bytes options m) 0 0 (Ok x)) where
      record Read : Type 0 where
        os : List Opt
        is : first_read m ≡ accepted os
        over_is : x.over ≡ overload (items os)
        at_is : x.at ≡ 0 + before_end 0 (bytes options m)

      read : Read
      read = go (first_read m) refl h
        where
          go : (w : Reading) → first_read m ≡ w → Gives 0 w (0 + before_end 0 (bytes options m)) (Ok x) → Read
          go (accepted os) e t = record { os = os; is = e; over_is = t.1; at_is = t.0 }
          go (refused n p) e t = absurd t

      pub at_short : x.at ≤ length m
      at_short = omega (arith, read.at_is, before_short 0 (bytes options m), field_le options m)

      abbrev v : ℕ
      v = overload (items read.os)

      abbrev two : Reading
      two = extend (file_in v) file m (accepted read.os)

      abbrev all : Reading
      all = extend (sname_in v) sname m two

      all_as : all_fields m ≡ all
      all_as = all_is m (accepted read.os) read.is

      file_judges : {A : Type 0} (r : Result A Refusal) → Judges (cond (active_in x.over file) (reading file (bytes file m) 0 0) (accepted [])) r → Judges two r
      file_judges r t = then_judges (file_in v) file read.os r (rw read.over_is at t)

      pub end_file : (A : Type 0) (r : Refusal) → Judges {A = A} (cond (active_in x.over file) (reading file (bytes file m) 0 0) (accepted [])) (Err r) → ended_by (Err r) ≡ options_end_value m
      end_file A r t = go two refl (file_judges {A = A} (Err r) t)
        where
          go : (w : Reading) → two ≡ w → Judges {A = A} w (Err r) → ended_by (Err r) ≡ options_end_value m
          go (accepted ps) e t = absurd t
          go (refused n p) e t = refused_as r n p t (all_as ∙ ap (extend (sname_in v) sname m) e ∙ refused_stays (sname_in v) sname m n p)

      module _ {A : Type 0} (u : A) (k : Judges (cond (active_in x.over file) (reading file (bytes file m) 0 0) (accepted [])) (Ok u)) where
        sname_judges : (r : Result A Refusal) → Judges (cond (active_in x.over sname) (reading sname (bytes sname m) 0 0) (accepted [])) r → Judges all r
        sname_judges r t = go two (file_judges (Ok u) k)
          where
            go : (w : Reading) → Judges w (Ok u) → Judges (extend (sname_in v) sname m w) r
            go (accepted ps) y = then_judges (sname_in v) sname ps r (rw read.over_is at t)
            go (refused n p) y = absurd y

        pub end_sname : (r : Refusal) → Judges {A = A} (cond (active_in x.over sname) (reading sname (bytes sname m) 0 0) (accepted [])) (Err r) → ended_by (Err r) ≡ options_end_value m
        end_sname r t = go all all_as (sname_judges (Err r) t)
          where
            go : (w : Reading) → all_fields m ≡ w → Judges {A = A} w (Err r) → ended_by (Err r) ≡ options_end_value m
            go (accepted ps) e t = absurd t
            go (refused n p) e t = refused_as r n p t e

        pub end_found : (y : A) → Judges (cond (active_in x.over sname) (reading sname (bytes sname m) 0 0) (accepted [])) (Ok y) → ended_by (Ok (240 + x.at)) ≡ options_end_value m
        end_found y t = go all all_as (sname_judges (Ok y) t)
          where
            go : (w : Reading) → all_fields m ≡ w → Judges w (Ok y) → ended_by (Ok (240 + x.at)) ≡ options_end_value m
            go (accepted ps) e t =
                let b : 240 + x.at ≡ 240 + before_end 0 (bytes options m) = omega (arith, read.at_is) in
                ap ends_at b ∙ sym (end_is m (accepted ps) (read_fit m f ∙ e))
            go (refused n p) e t = absurd t
