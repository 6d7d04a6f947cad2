-- Every active field of an accepted message has its END. Assumes nothing.
use mathlib.Core.Path.{◌≡◌, refl}
use mathlib.Core.Bool.{Bool, true, false, cond}
use mathlib.Core.List.{List, []}
use Prim.Native.Nat.{ℕ, ◌+◌}
use lib.Dec.{eqb}
use Rattle.options.specs.Message.{Field, options, file, sname, start, bytes, Opt}
use Rattle.options.specs.Reading.{Parse, ended, ran_out_value, beyond, found, parse, either, wrong52, second52, more, judge, Reading, accepted, refused, items, and_then, extend, overload, overload_of, file_in, sname_in, all_fields, read_message}
use Rattle.options.specs.KindClaims.{AllBytes}
use Rattle.theorems.proofs.View.{clash}
use Rattle.message.proofs.Callers.{first_field, passed, over_all}
use Rattle.records.specs.FieldRecords.{has_end, field_ends, ActiveEnds}

-- ---- one field

more_was : (o : Opt) (w : Reading) (os : List Opt) → more o w ≡ accepted os → (ps : List Opt) × (w ≡ accepted ps)
more_was o (refused n p) os e = clash (cc)
more_was o (accepted ps) os e = (ps, refl)

judge_ends : (fd : Field) (met : Bool) (p : Parse) (os : List Opt) → judge fd met p ≡ accepted os → has_end p ≡ true
unfolding judge has_end
judge_ends fd met ended os e = refl
judge_ends fd met (ran_out_value i) os e = clash (cc)
judge_ends fd met (beyond i) os e = clash (cc)
judge_ends fd met (found i x p) os e = go (wrong52 fd x) (second52 met x) e (judge_ends fd (either (eqb x.tag 52) met) p)
  where
    go : (t u : Bool)
        → cond t (refused 6 (start fd + i)) (cond u (refused 7 (start fd + i)) (more (record { field = fd; offset = i; item = x }) (judge fd (either (eqb x.tag 52) met) p))) ≡ accepted os
        → ((ps : List Opt) → judge fd (either (eqb x.tag 52) met) p ≡ accepted ps → has_end p ≡ true)
        → has_end p ≡ true
    go true u z ih = clash (cc)
    go false true z ih = clash (cc)
    go false false z ih = let w = more_was (record { field = fd; offset = i; item = x }) (judge fd (either (eqb x.tag 52) met) p) os z in ih w.0 w.1

-- ---- the message

-- w, with a field more where it is active, has been accepted
record Extended (on : Bool) (fd : Field) (m : List ℕ) (w : Reading) : Type 0 where
  before : List Opt
  was : w ≡ accepted before
  ends : field_ends on (bytes fd m) ≡ true

extended : (on : Bool) (fd : Field) (m : List ℕ) (w : Reading) (qs : List Opt) → extend on fd m w ≡ accepted qs → Extended on fd m w
unfolding field_ends
extended false fd m w qs e = record { before = qs; was = e; ends = refl }
extended true fd m (refused n p) qs e = clash (cc)
extended true fd m (accepted os) qs e = go (judge fd false (parse 0 0 (bytes fd m))) (judge_ends fd false (parse 0 0 (bytes fd m))) e
  where
    go : (w : Reading) → ((ps : List Opt) → w ≡ accepted ps → has_end (parse 0 0 (bytes fd m)) ≡ true) → and_then os w ≡ accepted qs → Extended true fd m (accepted os)
    go (refused n p) ih z = clash (cc)
    go (accepted ps) ih z = record { before = os; was = refl; ends = ih ps refl }

module _ (m : List ℕ) (os : List Opt) (b : AllBytes m) (e : read_message m ≡ accepted os) where
  abbrev v : ℕ
  v = overload_of (first_field m)

  all : Extended (sname_in v) sname m (extend (file_in v) file m (extend true options m (accepted [])))
  unfolding all_fields first_field
  all = extended (sname_in v) sname m (extend (file_in v) file m (extend true options m (accepted []))) os (passed m os e).fields

  with_file : Extended (file_in v) file m (extend true options m (accepted []))
  with_file = extended (file_in v) file m (extend true options m (accepted [])) all.before all.was

  pub active_ends : ActiveEnds (overload (items os)) m
  active_ends =
      rw (over_all m os e)
      (record { of_options = (extended true options m (accepted []) with_file.before with_file.was).ends; of_file = with_file.ends; of_sname = all.ends })
