-- The walk over a message is its reading. Assumes nothing.
use mathlib.Core.Path.{◌≡◌, refl, sym, ap, ◌∙◌}
use mathlib.Core.Bool.{Bool, true, false, cond, not}
use mathlib.Core.List.{List, [], ◌∷◌, ◌++◌}
use Prim.Native.Nat.{ℕ, ◌≤◌}
use native.Mathlib.Omega.{arith}
use lib.Dec.{eqb, ltb}
use lib.ListN.{length, get_or, take, drop, drop_of_length-le}
use borrow.Author.Tests.{eq-eqb, ne_eqb, ltb-false}
use Rattle.options.specs.Message.{Field, options, file, sname, start, bytes, cookie, shortest, longest, Opt, end_to_end}
use Rattle.options.specs.Reading.{parse, is_options_value, judge, Reading, accepted, refused, items, and_then, extend, overload, overload_of, file_in, sname_in, all_fields, same, read_message, pieces}
use Rattle.options.specs.KindClaims.{AllBytes}
use Rattle.theorems.proofs.View.{clash}
use Rattle.theorems.proofs.CodesPresent.{all_field}
use Rattle.message.specs.Active.{active_in}
use Rattle.message.specs.Scan.{Scan, first_start, place_after, used_by, refused_at, scan_in}
use Rattle.message.specs.Walk.{Ending, Run, Walk, nothing, begun, walked_of}
use Rattle.message.specs.Walking.{unfit_of, scanned_of, start_from, bytes_from, walk_field, step, all_walked, others_in, Gives, Scans}
use Rattle.message.proofs.Twin.{No52, first_from, Adds, adds_then, parse_codes, Watching, OverIs, Judged, twin}

-- without an option 52 in them, further options leave its value
over_append : (os ps : List Opt) → No52 ps → overload (items (os ++ ps)) ≡ overload (items os)
unfolding overload items
over_append [] [] n = refl
over_append [] (p ∷ ps) n = rw n.0 (over_append [] ps n.1)
over_append (o ∷ os) ps n = ap (cond (eqb o.item.tag 52) (get_or o.item.body 0 0)) (over_append os ps n)

-- a message's options field begins at 240
start_240 : (fd : Field) → start_from 240 fd ≡ start fd
start_240 options = refl
start_240 file = refl
start_240 sname = refl

bytes_240 : (fd : Field) (m : List ℕ) → bytes_from 240 fd m ≡ bytes fd m
bytes_240 options m = refl
bytes_240 file m = refl
bytes_240 sname m = refl

module _ (w : List ℕ) (marks : Bool) (want : ℕ) (y : Watching w want) (m : List ℕ) (b : AllBytes m) where
  field_judged : (fd : Field) (seen : Bool) (s : Run) → (is_options_value fd ≡ true → seen ≡ not (eqb s.kept.over 0))
      → Judged marks want fd s (judge fd seen (parse 0 0 (bytes fd m))) (walk_field w marks want 240 m fd s)
  unfolding walk_field
  field_judged fd seen s h = rw (start_240 fd, bytes_240 fd m) (twin w marks want y fd (parse 0 0 (bytes fd m)) (parse_codes 0 0 (bytes fd m) (all_field fd m b)) seen s h)

  and_nil : (s : Run) (j : Reading) (k : Walk) → Judged marks want options s j k → Judged marks want options s (and_then [] j) k
  and_nil s (accepted os) k x = x
  and_nil s (refused n p) k x = x

  -- the fields that are not options
  further_over : (fd : Field) → is_options_value fd ≡ false → (s r : Run) (ps : List Opt) → OverIs fd s ps r → (r.kept.over ≡ s.kept.over) × No52 ps
  further_over options e s r ps o = clash (cc)
  further_over file e s r ps o = o
  further_over sname e s r ps o = o

  module _ (s : Run) (fd : Field) (f : is_options_value fd ≡ false) (k : Walk) (os : List Opt) (a : Adds marks want s os k.run) (o : OverIs options s os k.run) where
    then_judged : (j : Reading) (k' : Walk) → Judged marks want fd k.run j k' → Judged marks want options s (and_then os j) k'
    then_judged (accepted ps) k' x =
        let z = further_over fd f k.run k'.run ps x.2 in
        (x.0, adds_then a x.1, z.0 ∙ o ∙ ap (λ (n : ℕ). cond (eqb s.kept.over 0) n s.kept.over) (sym (over_append os ps z.1)))
    then_judged (refused n p) k' x = x

    then_over : (j : Reading) (k' : Walk) → Judged marks want fd k.run j k' → (qs : List Opt) → and_then os j ≡ accepted qs → k'.run.kept.over ≡ k.run.kept.over
    then_over (accepted ps) k' x qs e = (further_over fd f k.run k'.run ps x.2).0
    then_over (refused n p) k' x qs e = clash (cc)

  -- one more field: what it gives, and that it leaves the value of option 52
  record More (s : Run) (fd : Field) (on : Bool) (r : Reading) (k : Walk) : Type 0 where
    judged : Judged marks want options s (extend on fd m r) (step w marks want 240 m fd k)
    over_kept : (qs : List Opt) → extend on fd m r ≡ accepted qs → (step w marks want 240 m fd k).run.kept.over ≡ k.run.kept.over

  more_field : (s : Run) (fd : Field) → is_options_value fd ≡ false → (on : Bool) (r : Reading) (k : Walk) → Judged marks want options s r k
      → ((os : List Opt) → r ≡ accepted os → active_in k.run.kept.over fd ≡ on) → More s fd on r k
  more_field s fd f false (refused n p) k x h = record { judged = rw (ne_eqb k.end 0 x.0) x; over_kept = λ qs e. clash (cc) }
  more_field s fd f true (refused n p) k x h = record { judged = rw (ne_eqb k.end 0 x.0) x; over_kept = λ qs e. clash (cc) }
  more_field s fd f false (accepted os) k x h =
      let a = h os refl in
      record { judged = rw (eq-eqb k.end 0 x.0, a) x; over_kept = λ qs e. rw (eq-eqb k.end 0 x.0, a) refl }
  more_field s fd f true (accepted os) k x h =
      let a = h os refl in
      let no : is_options_value fd ≡ true → false ≡ not (eqb k.run.kept.over 0) = λ q. clash (cc) in
      let j = field_judged fd false k.run no in
      record {
        judged = rw (eq-eqb k.end 0 x.0, a) (then_judged s fd f k os x.1 x.2 (judge fd false (parse 0 0 (bytes fd m))) (walk_field w marks want 240 m fd k.run) j);
        over_kept = λ qs e. rw (eq-eqb k.end 0 x.0, a) (then_over s fd f k os x.1 x.2 (judge fd false (parse 0 0 (bytes fd m))) (walk_field w marks want 240 m fd k.run) j qs e);
      }

  -- the value that was kept in options
  kept_over : (set : List ℕ) (r : Reading) (k : Walk) → Judged marks want options (begun set) r k → (os : List Opt) → r ≡ accepted os → k.run.kept.over ≡ overload_of r
  kept_over set (accepted ps) k x os e = x.2
  kept_over set (refused n p) k x os e = clash (cc)

  was_accepted : (on : Bool) (fd : Field) (r : Reading) (qs : List Opt) → extend on fd m r ≡ accepted qs → (os : List Opt) × (r ≡ accepted os)
  was_accepted on fd (accepted os) qs e = (os, refl)
  was_accepted true fd (refused n p) qs e = clash (cc)
  was_accepted false fd (refused n p) qs e = clash (cc)

  pub all_judged : (set : List ℕ) → Judged marks want options (begun set) (all_fields m) (all_walked w marks want 240 m set)
  unfolding all_fields all_walked
  all_judged set = snames.judged
    where
      r₀ : Reading
      r₀ = extend true options m (accepted [])

      k₀ : Walk
      k₀ = walk_field w marks want 240 m options (begun set)

      first : Judged marks want options (begun set) r₀ k₀
      first = and_nil (begun set) (judge options false (parse 0 0 (bytes options m))) k₀ (field_judged options false (begun set) (λ _. refl))

      files : More (begun set) file (file_in (overload_of r₀)) r₀ k₀
      files = more_field (begun set) file refl (file_in (overload_of r₀)) r₀ k₀ first (λ os e. ap file_in (kept_over set r₀ k₀ first os e))

      r₁ : Reading
      r₁ = extend (file_in (overload_of r₀)) file m r₀

      k₁ : Walk
      k₁ = step w marks want 240 m file k₀

      snames : More (begun set) sname (sname_in (overload_of r₀)) r₁ k₁
      snames =
          more_field (begun set) sname refl (sname_in (overload_of r₀)) r₁ k₁ files.judged
          (λ qs e. let z = was_accepted (file_in (overload_of r₀)) file r₀ qs e in ap sname_in (files.over_kept qs e ∙ kept_over set r₀ k₀ first z.0 z.1))

  -- ---- what is told

  first_is : (k : ℕ) (ps : List Opt) → k ≡ first_from (nothing) ps → k ≡ first_start ps
  first_is k [] e = e
  first_is k (o ∷ os) e = e

  told_is : (set : List ℕ) (r : Reading) (k : Walk) → Judged marks want options (begun set) r k → scanned_of marks (walked_of k) ≡ scan_in marks want r
  told_is set (refused n p) k x = rw (ne_eqb k.end 0 x.0, x.1, x.2) refl
  told_is set (accepted os) k x =
      let a = x.1 in
      let c : k.run.kept.start ≡ first_start (pieces want os) = first_is k.run.kept.start (pieces want os) a.start_is in
      let d : k.run.kept.whole ≡ length (end_to_end (pieces want os)) = omega (arith, a.whole_is) in
      let e : k.run.kept.last ≡ place_after 0 (pieces want os) = a.last_is in
      let u : k.run.used ≡ used_by os = omega (arith, a.used_is) in
      let n : cond marks k.run.count 0 ≡ cond marks (length os) 0 = counted marks refl a in
      rw (eq-eqb k.end 0 x.0, c, d, e, u, n, x.2) refl
    where
      counted : (t : Bool) → marks ≡ t → Adds marks want (begun set) os k.run → cond t k.run.count 0 ≡ cond t (length os) 0
      counted true q a = let z = a.count_is q in omega arith
      counted false q a = refl

-- ---- the message

abbrev unfit_by : Bool → Bool → Bool → ℕ
unfit_by t u v = cond t 1 (cond u 2 (cond v 0 3))

pub fit_length : (m : List ℕ) → unfit_of m ≡ 0 → (240 ≤ length m) × (length m ≤ 1472)
fit_length m e = go (ltb (length m) shortest) refl (ltb longest (length m)) refl e
  where
    go : (t : Bool) → ltb (length m) shortest ≡ t → (u : Bool) → ltb longest (length m) ≡ u → unfit_by t u (same (take 4 (drop 236 m)) cookie) ≡ 0 → (240 ≤ length m) × (length m ≤ 1472)
    go true a u c z = absurd (omega arith)
    go false a true c z = absurd (omega arith)
    go false a false c z = (ltb-false (length m) 240 a, ltb-false 1472 (length m) c)

pub read_fit : (m : List ℕ) → unfit_of m ≡ 0 → read_message m ≡ all_fields m
unfolding read_message
read_fit m e = go (ltb (length m) shortest) (ltb longest (length m)) (same (take 4 (drop 236 m)) cookie) e
  where
    go : (t u v : Bool) → unfit_by t u v ≡ 0 → cond t (refused 1 (length m)) (cond u (refused 2 (length m)) (cond v (all_fields m) (refused 3 236))) ≡ all_fields m
    go true u v z = absurd (omega arith)
    go false true v z = absurd (omega arith)
    go false false true z = refl
    go false false false z = absurd (omega arith)

pub read_unfit : (m : List ℕ) → (unfit_of m ≡ 0 → ⊥) → read_message m ≡ refused (unfit_of m) (cond (eqb (unfit_of m) 3) 236 (length m))
unfolding read_message
read_unfit m h = go (ltb (length m) shortest) (ltb longest (length m)) (same (take 4 (drop 236 m)) cookie) h
  where
    go : (t u v : Bool) → (unfit_by t u v ≡ 0 → ⊥)
        → cond t (refused 1 (length m)) (cond u (refused 2 (length m)) (cond v (all_fields m) (refused 3 236))) ≡ refused (unfit_by t u v) (cond (eqb (unfit_by t u v) 3) 236 (length m))
    go true u v z = refl
    go false true v z = refl
    go false false true z = absurd (z refl)
    go false false false z = refl

-- a message that ends with its cookie has no END
pub read_bare : (m : List ℕ) → unfit_of m ≡ 0 → length m ≡ 240 → read_message m ≡ refused 5 240
unfolding all_fields judge parse
read_bare m e h = let z : drop 240 m ≡ [] = drop_of_length-le m {i = 240} (omega arith) in read_fit m e ∙ rw z refl

module _ (marks : Bool) (want : ℕ) (m set : List ℕ) where
  -- where nothing is told but a refusal
  pub scans_refused : (n p : ℕ) → read_message m ≡ refused n p → (r : Scan) → r ≡ refused_at n p → Scans marks want m set r set
  scans_refused n p e r q = record { is = q ∙ ap (scan_in marks want) (sym e); codes = λ _ _ os f. clash (cc) }

  pub scans_walked : (w : List ℕ) (y : Watching w want) (b : AllBytes m) → unfit_of m ≡ 0 → (s : Ending) (set' : List ℕ) → Gives w marks want 240 m set s set' → (r : Scan) → r ≡ scanned_of marks s → Scans marks want m set r set'
  scans_walked w y b e s set' g r q =
      let j = all_judged w marks want y m b set in
      record {
        is = q ∙ ap (scanned_of marks) g.is ∙ told_is w marks want y m b set (all_fields m) (all_walked w marks want 240 m set) j ∙ ap (scan_in marks want) (sym (read_fit m e));
        codes = λ a c os f. g.codes ∙ marked_in (all_fields m) (all_walked w marks want 240 m set) j os (sym (read_fit m e) ∙ f) a c;
      }
    where
      marked_in : (v : Reading) (k : Walk) → Judged marks want options (begun set) v k → (os : List Opt) → v ≡ accepted os → marks ≡ true → want ≡ 52 → k.run.set ≡ others_in set os
      marked_in (accepted ps) k x os f a c = let z : ps ≡ os = cc in x.1.set_is a c ∙ ap (others_in set) z
      marked_in (refused n p) k x os f a c = clash (cc)
