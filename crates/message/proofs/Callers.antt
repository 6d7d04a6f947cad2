-- FOR CALLERS: what `find` and `codes` tell of a message, and that its options are all that are found in its active fields. Assumes nothing.
use mathlib.Core.Path.{◌≡◌, refl, sym, ap, ap₂, ◌∙◌}
use mathlib.Core.Bool.{Bool, true, false, cond}
use mathlib.Core.List.{List, [], ◌∷◌, ◌++◌, append_assoc, append-nil}
use Prim.Native.Nat.{ℕ, suc, ◌+◌, ◌≤◌, ◌<◌}
use native.Mathlib.Omega.{arith}
use lib.Dec.{eqb, ltb}
use lib.ListN.{length, get_or, take, drop}
use Rattle.options.specs.Message.{Field, options, file, sname, start, bytes, cookie, Opt}
use Rattle.options.specs.Refusals.{When, Row, row_1, row_2, row_3, row_4, row_5, row_6, row_7}
use Rattle.options.specs.Reading.{either, Parse, ended, ran_out_value, beyond, found, parse, wrong52, second52, judge, more, Reading, accepted, refused, items, and_then, extend, overload, overload_of, file_in, sname_in, all_fields, same, read_message}
use Rattle.options.specs.KindClaims.{AllBytes}
use Rattle.theorems.proofs.View.{clash}
use Rattle.theorems.proofs.Reading.{refused_by_the_table}
use borrow.Author.Tests.{ltb-false}
use Rattle.std.specs.Prelude.{Ok, Err}
use Rattle.refusal.specs.declared.Refusal.{Refusal}
use Rattle.refusal.specs.Refused.{number_of}
use Rattle.message.specs.declared.Scanned.{Scanned}
use Rattle.message.specs.Scan.{Scan, refused_at, scan_in, scan_of, survey_of, Surveys, told_of, told_by}
use Rattle.message.specs.Judging.{unfit_of}
use Rattle.message.proofs.Readings.{fit_length, read_fit, read_unfit}
use Rattle.message.proofs.Rules.{has_number}
use Rattle.message.specs.Active.{options_in, field_from, options_from, active_options}

-- the bytes of a slice
pub all_bytes : (xs : List ℕ) → ((i : ℕ) → get_or xs i 0 < 256) → AllBytes xs
all_bytes [] f = tt
all_bytes (x ∷ xs) f = (f 0, all_bytes xs (λ i. f (suc i)))

-- ---- a field that is accepted gives all its options

more_is : (o : Opt) (w : Reading) (ps os : List Opt) → ((qs : List Opt) → w ≡ accepted qs → qs ≡ ps) → more o w ≡ accepted os → os ≡ o ∷ ps
more_is o (refused n p) ps os h e = clash (cc)
more_is o (accepted qs) ps os h e = let q : qs ≡ ps = h qs refl in cc

judge_all : (fd : Field) (met : Bool) (p : Parse) (os : List Opt) → judge fd met p ≡ accepted os → os ≡ options_in fd p
unfolding judge options_in
judge_all fd met ended os e = cc
judge_all fd met (ran_out_value i) os e = clash (cc)
judge_all fd met (beyond i) os e = clash (cc)
judge_all fd met (found i x p) os e = go (wrong52 fd x) (second52 met x) e (judge_all fd (either (eqb x.tag 52) met) p)
  where
    go : (t u : Bool)
        → cond t (refused 6 (start fd + i)) (cond u (refused 7 (start fd + i)) (more (record { field = fd; offset = i; item = x }) (judge fd (either (eqb x.tag 52) met) p))) ≡ accepted os
        → ((qs : List Opt) → judge fd (either (eqb x.tag 52) met) p ≡ accepted qs → qs ≡ options_in fd p)
        → os ≡ record { field = fd; offset = i; item = x } ∷ options_in fd p
    go true u z ih = clash (cc)
    go false true z ih = clash (cc)
    go false false z ih = more_is (record { field = fd; offset = i; item = x }) (judge fd (either (eqb x.tag 52) met) p) (options_in fd p) os ih z

-- what was tested before the fields of an accepted message were read: "Lengths 240 to 1,472 are handled"
pub record Passed (m : List ℕ) (os : List Opt) : Type 0 where
  pub least : 240 ≤ length m
  pub most : length m ≤ 1472
  pub fields : all_fields m ≡ accepted os

pub record ToldAccepted (marks : Bool) (want : ℕ) (m : List ℕ) (r : Scan) (os : List Opt) : Type 0 where
  pub reads : read_message m ≡ accepted os
  pub is : r ≡ scan_in marks want (accepted os)
  pub options_are : os ≡ active_options r.over m

and_then_is : (os : List Opt) (w : Reading) (ps qs : List Opt) → ((rs : List Opt) → w ≡ accepted rs → rs ≡ ps) → and_then os w ≡ accepted qs → qs ≡ os ++ ps
and_then_is os (refused n p) ps qs h e = clash (cc)
and_then_is os (accepted rs) ps qs h e = let q : rs ≡ ps = h rs refl in cc

extend_is : (on : Bool) (fd : Field) (m : List ℕ) (w : Reading) (qs : List Opt) → extend on fd m w ≡ accepted qs
    → (os : List Opt) × (w ≡ accepted os) × (qs ≡ os ++ cond on (options_in fd (parse 0 0 (bytes fd m))) [])
extend_is false fd m w qs e = (qs, e, sym (append-nil qs))
extend_is true fd m (refused n p) qs e = clash (cc)
extend_is true fd m (accepted os) qs e = (
  os,
  refl,
  and_then_is os (judge fd false (parse 0 0 (bytes fd m))) (options_in fd (parse 0 0 (bytes fd m))) qs (judge_all fd false (parse 0 0 (bytes fd m))) e,
)

-- the options field alone
unfoldable pub first_field : List ℕ → Reading
first_field m = extend true options m (accepted [])

fields_split : (m : List ℕ) (os : List Opt) → all_fields m ≡ accepted os → os ≡ active_options (overload_of (first_field m)) m
unfolding all_fields first_field options_from field_from items
fields_split m os e =
    let v : ℕ = overload_of (first_field m) in
    let s = extend_is (sname_in v) sname m (extend (file_in v) file m (first_field m)) os e in
    let f = extend_is (file_in v) file m (first_field m) s.0 s.1 in
    let o = extend_is true options m (accepted []) f.0 f.1 in
    let n : o.0 ≡ [] = unwrap o.0 o.1 in
    s.2 ∙ ap (λ (l : List Opt). l ++ field_from v m sname 0) f.2
    ∙ append_assoc f.0 (field_from v m file 0) (field_from v m sname 0)
    ∙ ap (λ (l : List Opt). l ++ (field_from v m file 0 ++ field_from v m sname 0))
    (o.2 ∙ ap (λ (l : List Opt). l ++ field_from v m options 0) n)
  where
    unwrap : (qs : List Opt) → accepted [] ≡ accepted qs → qs ≡ []
    unwrap qs z = cc

pub passed : (m : List ℕ) (os : List Opt) → read_message m ≡ accepted os → Passed m os
unfolding read_message
passed m os e = go (ltb (length m) 240) refl (ltb 1472 (length m)) refl (same (take 4 (drop 236 m)) cookie) e
  where
    go : (a : Bool) → ltb (length m) 240 ≡ a → (b : Bool) → ltb 1472 (length m) ≡ b → (c : Bool)
        → cond a (refused 1 (length m)) (cond b (refused 2 (length m)) (cond c (all_fields m) (refused 3 236))) ≡ accepted os → Passed m os
    go true p b q c z = clash (cc)
    go false p true q c z = clash (cc)
    go false p false q true z = record { least = ltb-false (length m) 240 p; most = ltb-false 1472 (length m) q; fields = z }
    go false p false q false z = clash (cc)

over_append : (os ps : List Opt) → overload (items ps) ≡ 0 → overload (items (os ++ ps)) ≡ overload (items os)
unfolding overload items
over_append [] ps h = h
over_append (o ∷ os) ps h = ap (cond (eqb o.item.tag 52) (get_or o.item.body 0 0)) (over_append os ps h)

over_more : (o : Opt) (w : Reading) (ps : List Opt) → ((qs : List Opt) → w ≡ accepted qs → overload (items qs) ≡ 0) → eqb o.item.tag 52 ≡ false → more o w ≡ accepted ps → overload (items ps) ≡ 0
unfolding overload items
over_more o (refused n p) ps h t e = clash (cc)
over_more o (accepted qs) ps h t e = let q : o ∷ qs ≡ ps = cc in rw (← q) (rw t (h qs refl))

-- no option 52 in another field
over_none : (fd : Field) (met : Bool) (p : Parse) (ps : List Opt) → (fd ≡ options → ⊥) → judge fd met p ≡ accepted ps → overload (items ps) ≡ 0
unfolding judge overload items
over_none fd met ended ps f e = let q : [] ≡ ps = cc in rw (← q) refl
over_none fd met (ran_out_value i) ps f e = clash (cc)
over_none fd met (beyond i) ps f e = clash (cc)
over_none options met (found i x p) ps f e = absurd (f refl)
over_none file met (found i x p) ps f e = go (eqb x.tag 52) refl (second52 met x) e (λ qs. over_none file (either (eqb x.tag 52) met) p qs f)
  where
    go : (t : Bool) → eqb x.tag 52 ≡ t → (u : Bool)
        → cond (cond t true false) (refused 6 (start file + i)) (cond u (refused 7 (start file + i)) (more (record { field = file; offset = i; item = x }) (judge file (either (eqb x.tag 52) met) p))) ≡ accepted ps
        → ((qs : List Opt) → judge file (either (eqb x.tag 52) met) p ≡ accepted qs → overload (items qs) ≡ 0)
        → overload (items ps) ≡ 0
    go true q u z ih = clash (cc)
    go false q true z ih = clash (cc)
    go false q false z ih = over_more (record { field = file; offset = i; item = x }) (judge file (either (eqb x.tag 52) met) p) ps ih q z
over_none sname met (found i x p) ps f e = go (eqb x.tag 52) refl (second52 met x) e (λ qs. over_none sname (either (eqb x.tag 52) met) p qs f)
  where
    go : (t : Bool) → eqb x.tag 52 ≡ t → (u : Bool)
        → cond (cond t true false) (refused 6 (start sname + i)) (cond u (refused 7 (start sname + i)) (more (record { field = sname; offset = i; item = x }) (judge sname (either (eqb x.tag 52) met) p))) ≡ accepted ps
        → ((qs : List Opt) → judge sname (either (eqb x.tag 52) met) p ≡ accepted qs → overload (items qs) ≡ 0)
        → overload (items ps) ≡ 0
    go true q u z ih = clash (cc)
    go false q true z ih = clash (cc)
    go false q false z ih = over_more (record { field = sname; offset = i; item = x }) (judge sname (either (eqb x.tag 52) met) p) ps ih q z

over_then : (os : List Opt) (w : Reading) (ps : List Opt) → ((qs : List Opt) → w ≡ accepted qs → overload (items qs) ≡ 0) → and_then os w ≡ accepted ps → overload (items ps) ≡ overload (items os)
over_then os (refused n p) ps h e = clash (cc)
over_then os (accepted qs) ps h e = let q : os ++ qs ≡ ps = cc in rw (← q) (over_append os qs (h qs refl))

over_extend : (on : Bool) (fd : Field) (m : List ℕ) (w : Reading) (ps : List Opt) → (fd ≡ options → ⊥) → extend on fd m w ≡ accepted ps → overload (items ps) ≡ overload_of w
over_extend false fd m w ps f e = rw e refl
over_extend true fd m (refused n p) ps f e = clash (cc)
over_extend true fd m (accepted os) ps f e = over_then os (judge fd false (parse 0 0 (bytes fd m))) ps (λ qs. over_none fd false (parse 0 0 (bytes fd m)) qs f) e

-- no further field has an option 52
pub over_all : (m : List ℕ) (os : List Opt) → read_message m ≡ accepted os → overload (items os) ≡ overload_of (first_field m)
unfolding all_fields first_field
over_all m os e =
    let v : ℕ = overload_of (first_field m) in
    let s = extend_is (sname_in v) sname m (extend (file_in v) file m (first_field m)) os (passed m os e).fields in
    let a : overload (items os) ≡ overload_of (extend (file_in v) file m (first_field m)) = over_extend (sname_in v) sname m (extend (file_in v) file m (first_field m)) os (λ z. clash (cc)) (passed m os e).fields in
    let b : overload (items s.0) ≡ overload_of (first_field m) = over_extend (file_in v) file m (first_field m) s.0 (λ z. clash (cc)) s.1 in
    a ∙ ap overload_of s.1 ∙ b

pub options_all : (m : List ℕ) (os : List Opt) → AllBytes m → read_message m ≡ accepted os → os ≡ active_options (overload (items os)) m
options_all m os b e = fields_split m os (passed m os e).fields ∙ ap (λ (v : ℕ). active_options v m) (sym (over_all m os e))

row_number : (m : List ℕ) (n p : ℕ) (w : When) → Row m n p w → n ≡ 0 → ⊥
row_number m n p w (row_1 h) z = omega arith
row_number m n p w (row_2 h) z = omega arith
row_number m n p w (row_3 h) z = omega arith
row_number m n p w (row_4 fd a b c) z = omega arith
row_number m n p w (row_5 fd a b) z = omega arith
row_number m n p w (row_6 fd a b c) z = omega arith
row_number m n p w (row_7 fd a b c) z = omega arith

refused_number : (m : List ℕ) (n p : ℕ) → read_message m ≡ refused n p → n ≡ 0 → ⊥
refused_number m n p e z = let f = (refused_by_the_table m n p).0 e in row_number m n p f.when f.applies z

-- what is told of a message, by the number
told_refused : (marks : Bool) (want : ℕ) (m : List ℕ) (r : Scan) → r ≡ scan_in marks want (read_message m) → (r.number ≡ 0 → ⊥) → read_message m ≡ refused r.number r.place
told_refused marks want m r h y = go (read_message m) refl
  where
    go : (w : Reading) → read_message m ≡ w → read_message m ≡ refused r.number r.place
    go (refused k q) z =
        let f : r ≡ refused_at k q = h ∙ ap (scan_in marks want) z in
        z ∙ ap₂ refused (sym (ap (λ (x : Scan). x.number) f)) (sym (ap (λ (x : Scan). x.place) f))
    go (accepted os) z = absurd (y (ap (λ (x : Scan). x.number) (h ∙ ap (scan_in marks want) z)))

told_accepted : (marks : Bool) (want : ℕ) (m : List ℕ) (r : Scan) → AllBytes m → r ≡ scan_in marks want (read_message m) → r.number ≡ 0 → (os : List Opt) × ToldAccepted marks want m r os
told_accepted marks want m r b h y = go (read_message m) refl
  where
    go : (w : Reading) → read_message m ≡ w → (os : List Opt) × ToldAccepted marks want m r os
    go (refused n p) z = absurd (refused_number m n p z (sym (ap (λ (x : Scan). x.number) (h ∙ ap (scan_in marks want) z)) ∙ y))
    go (accepted os) z =
        let i : r ≡ scan_in marks want (accepted os) = h ∙ ap (scan_in marks want) z in
        let o : r.over ≡ overload (items os) = ap (λ (x : Scan). x.over) i in
        (os, record { reads = z; is = i; options_are = options_all m os b z ∙ ap (λ (v : ℕ). active_options v m) (sym o) })

-- ---- FOR CALLERS, of `find`

abbrev pub ScanAccepted : ℕ → List ℕ → Scan → List Opt → Type 0
ScanAccepted want m r os = ToldAccepted false want m r os

pub scan_reads : (want : ℕ) (m : List ℕ) (w : Reading) → read_message m ≡ w → scan_of want m ≡ scan_in false want w
unfolding scan_of
scan_reads want m w e = ap (scan_in false want) e

pub scan_refused : (want : ℕ) (m : List ℕ) (r : Scan) → r ≡ scan_of want m → (r.number ≡ 0 → ⊥) → read_message m ≡ refused r.number r.place
unfolding scan_of
scan_refused want m r h y = told_refused false want m r h y

pub scan_accepted : (want : ℕ) (m : List ℕ) (r : Scan) → AllBytes m → r ≡ scan_of want m → r.number ≡ 0 → (os : List Opt) × ScanAccepted want m r os
unfolding scan_of
scan_accepted want m r b h y = told_accepted false want m r b h y

-- the same by what `find` gives: a refusal is the reading's
pub find_refused : (want : ℕ) (m : List ℕ) (r : Refusal) → told_by (Err r) ≡ scan_of want m → read_message m ≡ refused (number_of r.rule) r.place
find_refused want m r h = scan_refused want m (told_by (Err r)) h (has_number r.rule)

-- and what is told of an accepted message is as ScanAccepted says, of the code's fields
pub find_accepted : (want : ℕ) (m : List ℕ) (w : Scanned) → AllBytes m → told_by (Ok w) ≡ scan_of want m → (os : List Opt) × ScanAccepted want m (told_of w) os
find_accepted want m w b h = scan_accepted want m (told_of w) b h refl

-- ---- and of `codes`

abbrev pub SurveyAccepted : List ℕ → Scan → List Opt → Type 0
SurveyAccepted m r os = ToldAccepted true 52 m r os

pub survey_refused : (m : List ℕ) (r : Scan) → r ≡ survey_of m → (r.number ≡ 0 → ⊥) → read_message m ≡ refused r.number r.place
unfolding survey_of
survey_refused m r h y = told_refused true 52 m r h y

pub survey_accepted : (m : List ℕ) (r : Scan) → AllBytes m → r ≡ survey_of m → r.number ≡ 0 → (os : List Opt) × SurveyAccepted m r os
unfolding survey_of
survey_accepted m r b h y = told_accepted true 52 m r b h y

pub codes_refused_by : (m : List ℕ) (r : Refusal) (set : List ℕ) → Surveys m (told_by (Err r)) set → read_message m ≡ refused (number_of r.rule) r.place
codes_refused_by m r set s = survey_refused m (told_by (Err r)) s.is (has_number r.rule)

pub codes_accepted_by : (m : List ℕ) (w : Scanned) (set : List ℕ) → AllBytes m → Surveys m (told_by (Ok w)) set → (os : List Opt) × SurveyAccepted m (told_of w) os
codes_accepted_by m w set b s = survey_accepted m (told_of w) b s.is refl

-- ---- and of `fit`

-- what `fit` refuses, the reading refuses
pub unfit_refused : (m : List ℕ) (r : Refusal) → number_of r.rule ≡ unfit_of m → r.place ≡ cond (eqb (unfit_of m) 3) 236 (length m) → read_message m ≡ refused (number_of r.rule) r.place
unfit_refused m r e q = rw (q, e) (read_unfit m (λ z. has_number r.rule (e ∙ z)))

-- and what it lets through has its length and cookie
pub fit_read : (m : List ℕ) → 0 ≡ unfit_of m → (240 ≤ length m) × (length m ≤ 1472) × (read_message m ≡ all_fields m)
fit_read m e = let l = fit_length m (sym e) in (l.0, l.1, read_fit m (sym e))
