-- The bytes of records, field after field and an option at a time. Assumes nothing.
use mathlib.Core.Path.{◌≡◌, refl, sym, ap, ap₂, ◌∙◌}
use mathlib.Core.Bool.{Bool, true, false, cond}
use mathlib.Core.List.{List, [], ◌∷◌, ◌++◌, append_assoc}
use Prim.Native.Nat.{ℕ, ◌/◌, ◌%◌, ◌<◌}
use native.Mathlib.Omega.{arith}
use lib.Dec.{eqb}
use lib.ListN.{length}
use Rattle.options.specs.Message.{Field, options, file, sname, bytes, Rec, Opt}
use Rattle.options.specs.Reading.{Parse, ended, ran_out_value, beyond, found, parse, items, file_in, sname_in}
use Rattle.options.specs.Answers.{record_bytes, but52}
use Rattle.message.specs.Active.{options_in, field_from, options_from, active_options}
use Rattle.records.specs.FieldRecords.{short_record, option_record, items_in, bytes_in, field_records, active_records}

-- ---- one list of options after another

pub items_append : (os ps : List Opt) → items (os ++ ps) ≡ items os ++ items ps
unfolding items
items_append [] ps = refl
items_append (o ∷ os) ps = ap (λ (l : List Rec). o.item ∷ l) (items_append os ps)

pub bytes_append : (rs ss : List Rec) → record_bytes (but52 (rs ++ ss)) ≡ record_bytes (but52 rs) ++ record_bytes (but52 ss)
unfolding but52 record_bytes
bytes_append [] ss = refl
bytes_append (r ∷ rs) ss = go (eqb r.tag 52) (bytes_append rs ss)
  where
    go : (t : Bool) → record_bytes (but52 (rs ++ ss)) ≡ record_bytes (but52 rs) ++ record_bytes (but52 ss)
        → record_bytes (cond t (but52 (rs ++ ss)) (r ∷ but52 (rs ++ ss))) ≡ record_bytes (cond t (but52 rs) (r ∷ but52 rs)) ++ record_bytes (but52 ss)
    go true h = h
    go false h =
        let x : List ℕ = r.tag ∷ length r.body / 256 ∷ length r.body % 256 ∷ r.body in
        ap (λ (l : List ℕ). x ++ l) h ∙ sym (append_assoc x (record_bytes (but52 rs)) (record_bytes (but52 ss)))

-- ---- the fields of a message

items_field : (fd : Field) (p : Parse) → items (options_in fd p) ≡ items_in p
unfolding items options_in items_in
items_field fd ended = refl
items_field fd (ran_out_value i) = refl
items_field fd (beyond i) = refl
items_field fd (found i x p) = ap (λ (l : List Rec). x ∷ l) (items_field fd p)

field_records_lem : (on : Bool) (fd : Field) (f : List ℕ) → record_bytes (but52 (items (cond on (options_in fd (parse 0 0 f)) []))) ≡ field_records on f
unfolding field_records bytes_in items but52 record_bytes
field_records_lem true fd f = ap (λ (l : List Rec). record_bytes (but52 l)) (items_field fd (parse 0 0 f))
field_records_lem false fd f = refl

pub active_records_lem : (v : ℕ) (m : List ℕ) → record_bytes (but52 (items (active_options v m))) ≡ active_records v m
unfolding options_from field_from
active_records_lem v m =
    let a : List Opt = field_from v m options 0 in
    let b : List Opt = field_from v m file 0 in
    let c : List Opt = field_from v m sname 0 in
    ap (λ (l : List Rec). record_bytes (but52 l)) (items_append a (b ++ c) ∙ ap (λ (l : List Rec). items a ++ l) (items_append b c))
    ∙ bytes_append (items a) (items b ++ items c)
    ∙ ap₂ (λ (x y : List ℕ). x ++ y) (field_records_lem true options (bytes options m))
    (bytes_append (items b) (items c)
    ∙ ap₂ (λ (x y : List ℕ). x ++ y) (field_records_lem (file_in v) file (bytes file m)) (field_records_lem (sname_in v) sname (bytes sname m)))

-- ---- one option of a field

pub option_record_lem : (i : ℕ) (x : Rec) (p : Parse) → length x.body < 256 → bytes_in (found i x p) ≡ option_record x.tag x.body ++ bytes_in p
unfolding bytes_in items_in but52 record_bytes
option_record_lem i x p h = go (eqb x.tag 52)
  where
    go : (t : Bool) → record_bytes (cond t (but52 (items_in p)) (x ∷ but52 (items_in p))) ≡ cond t [] (short_record x.tag x.body) ++ record_bytes (but52 (items_in p))
    go true = refl
    go false =
        let a : length x.body / 256 ≡ 0 = omega arith in
        let b : length x.body % 256 ≡ length x.body = omega arith in
        rw (a, b)
