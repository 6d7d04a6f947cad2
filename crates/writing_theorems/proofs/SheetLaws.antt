-- An accepted sheet is the bytes of its records; its tags are right and distinct, and no record breaks its kind. Assumes nothing.
use mathlib.Core.Path.{◌≡◌, refl, ap, ap₂, sym, ◌∙◌, subst}
use mathlib.Core.List.{List, [], ◌∷◌, ◌++◌}
use mathlib.Core.Bool.{Bool, true, false, cond}
use mathlib.Core.Logic.{inl, inr}
use Prim.Native.Nat.{ℕ, ◌+◌, ◌*◌, ◌/◌, ◌%◌}
use native.Mathlib.Omega.{arith}
use lib.ListN.{length, take, drop}
use lib.Seq.{take_at, drop_at}
use lib.Dec.{eqb}
use borrow.Author.Tests.{ltb-false}
use Rattle.options.specs.Message.{Rec}
use Rattle.options.specs.Reading.{either, among}
use Rattle.options.specs.Kinds.{Table}
use Rattle.options.specs.Answers.{record_bytes}
use Rattle.options.specs.KindClaims.{AllBytes}
use Rattle.options.specs.SheetWalk.{Walk, all_read, cut_at, read_at, records_from, records_of, AllShort, Sheet, sound, faulty, keep, breaks_kind, Rule, tested, ruled}
use Rattle.options.specs.RuleClaims.{CorrectSheet}
use Rattle.options.specs.Writing.{writer_rules, sheet, OrderRule, place_of, ordered, order_rules, in_plan_order}
use Rattle.options.specs.WriterClaims.{Has}
use Rattle.theorems.proofs.View.{clash}
use Rattle.writing_theorems.proofs.Written.{AllPlain}
use Rattle.writing_theorems.proofs.SheetView.{rec}
use Rattle.writing_theorems.proofs.Ruled.{ruled_correct}
use Rattle.writing_theorems.proofs.Joining.{Fresh}

-- no rule is broken where the answer is no refusal
abbrev pub Kept : List Rule → List ℕ → Rec → Type 0
Kept [] seen r = Unit {0}
Kept (x ∷ xs) seen r = (x.breaks seen r ≡ false) × Kept xs seen r

passed : (xs : List Rule) (seen : List ℕ) (at : ℕ) (r : Rec) (w : Sheet) (rs : List Rec) → tested xs seen at r w ≡ sound rs → Kept xs seen r × (w ≡ sound rs)
passed [] seen at r w rs e = (tt, e)
passed (x ∷ xs) seen at r w rs e = go (x.breaks seen r) refl (passed xs seen at r w rs) e
  where
    go : (b : Bool) → x.breaks seen r ≡ b → (tested xs seen at r w ≡ sound rs → Kept xs seen r × (w ≡ sound rs)) → cond b (faulty (x.gives r) at) (tested xs seen at r w) ≡ sound rs
        → Kept (x ∷ xs) seen r × (w ≡ sound rs)
    go true q ih z = clash (cc)
    go false q ih z = ((q, (ih z).0), (ih z).1)

kept : (r : Rec) (w : Sheet) (rs : List Rec) → keep r w ≡ sound rs → (ts : List Rec) × (w ≡ sound ts) × (rs ≡ r ∷ ts)
kept r (sound ts) rs e = (ts, refl, cc)
kept r (faulty n p) rs e = clash (cc)

sound_inj : (rs ts : List Rec) → sound rs ≡ sound ts → rs ≡ ts
sound_inj rs ts e = cc

pub neither : (a b : Bool) → either a b ≡ false → (a ≡ false) × (b ≡ false)
neither true b e = clash (cc)
neither false b e = (refl, e)

-- a walk that no rule refuses: its records, each with what keeps the rules
pub data Passes (rules : List Rule) : List ℕ → Walk → List Rec → Type 0 where
  p_none : {seen : List ℕ} → Passes rules seen all_read []
  p_record : {seen : List ℕ} {i : ℕ} {r : Rec} {w : Walk} {rs : List Rec} → Kept rules seen r → Passes rules (r.tag ∷ seen) w rs → Passes rules seen (read_at i r w) (r ∷ rs)

pub passes : (rules : List Rule) (seen : List ℕ) (w : Walk) (rs : List Rec) → ruled rules seen w ≡ sound rs → Passes rules seen w rs
unfolding ruled
passes rules seen all_read rs e = subst (Passes rules seen all_read) (sound_inj [] rs e) p_none
passes rules seen (cut_at i) rs e = clash (cc)
passes rules seen (read_at i r w) rs e =
    let p = passed rules seen i r (keep r (ruled rules (r.tag ∷ seen) w)) rs e in
    let q = kept r (ruled rules (r.tag ∷ seen) w) rs p.1 in
    subst (Passes rules seen (read_at i r w)) (sym q.2) (p_record p.0 (passes rules (r.tag ∷ seen) w q.0 q.1))

passed_records : {rules : List Rule} {seen : List ℕ} {w : Walk} {rs : List Rec} → Passes rules seen w rs → records_of w ≡ rs
unfolding records_of
passed_records p_none = refl
passed_records (p_record {r = r} k p) = ap (λ (ts : List Rec). r ∷ ts) (passed_records p)

-- what no rule refuses is all that was read
pub sound_records : (rules : List Rule) (seen : List ℕ) (w : Walk) (rs : List Rec) → ruled rules seen w ≡ sound rs → records_of w ≡ rs
sound_records rules seen w rs e = passed_records (passes rules seen w rs e)

-- no record is cut
abbrev pub Uncut : Walk → Type 0
Uncut all_read = Unit {0}
Uncut (cut_at i) = ⊥
Uncut (read_at i r w) = Uncut w

passed_uncut : {rules : List Rule} {seen : List ℕ} {w : Walk} {rs : List Rec} → Passes rules seen w rs → Uncut w
passed_uncut p_none = tt
passed_uncut (p_record k p) = passed_uncut p

pub sound_uncut : (rules : List Rule) (seen : List ℕ) (w : Walk) (rs : List Rec) → ruled rules seen w ≡ sound rs → Uncut w
sound_uncut rules seen w rs e = passed_uncut (passes rules seen w rs e)

-- no record breaks its kind
abbrev pub AllKinds : Table → List Rec → Type 0
AllKinds t [] = Unit {0}
AllKinds t (r ∷ rs) = (breaks_kind t r.tag r.body ≡ false) × AllKinds t rs

-- an accepted sheet's tags are right and distinct, and no record is too long or breaks its kind
record Kind (t : Table) (seen : List ℕ) (rs : List Rec) : Type 0 where
  plain : AllPlain rs
  fresh : Fresh seen rs
  short : AllShort rs
  in_kinds : AllKinds t rs

right_tag : (c : ℕ) → among c (0 ∷ 52 ∷ 255 ∷ []) ≡ false → (eqb c 0 ≡ false) × (eqb c 52 ≡ false) × (eqb c 255 ≡ false)
right_tag c e =
    let a = neither (eqb c 0) (among c (52 ∷ 255 ∷ [])) e in
    let b = neither (eqb c 52) (among c (255 ∷ [])) a.1 in
    (a.0, b.0, (neither (eqb c 255) false b.1).0)

kinds_of : (t : Table) {seen : List ℕ} {w : Walk} {rs : List Rec} → Passes (writer_rules t) seen w rs → Kind t seen rs
kinds_of t p_none = record { plain = tt; fresh = tt; short = tt; in_kinds = tt }
kinds_of t {seen} (p_record {r = r} {rs = rs} k p) =
    let rest : Kind t (r.tag ∷ seen) rs = kinds_of t p in
    let tag = right_tag r.tag k.0 in
    record {
      plain = (record { no_pad = tag.0; no_end = tag.2; no_52 = tag.1 }, rest.plain);
      fresh = (k.1.1.0, rest.fresh);
      short = (ltb-false 1024 (length r.body) k.1.0, rest.short);
      in_kinds = (k.1.1.1.0, rest.in_kinds);
    }

-- and, of bytes, it is the bytes of its records
pub record Sound (t : Table) (s : List ℕ) (rs : List Rec) : Type 0 where
  pub back : AllBytes s → s ≡ record_bytes rs
  pub plain : AllPlain rs
  pub fresh : Fresh [] rs
  pub short : AllShort rs
  pub in_kinds : AllKinds t rs

pub sound_sheet : (t : Table) (s : List ℕ) (rs : List Rec) → sheet t s ≡ sound rs → Sound t s rs
unfolding sheet
sound_sheet t s rs e =
    let k : Kind t [] rs = kinds_of t (passes (writer_rules t) [] (records_from 0 0 s) rs e) in
    record {
      back = λ all. let r : CorrectSheet (writer_rules t) s (sound rs) = subst (CorrectSheet (writer_rules t) s) e (ruled_correct (writer_rules t) s all) in r.0;
      plain = k.plain;
      fresh = k.fresh;
      short = k.short;
      in_kinds = k.in_kinds;
    }

-- ---- the order of the records

ordered_sound : (xs : List OrderRule) (rs ts : List Rec) → ordered xs rs ≡ sound ts → sound rs ≡ sound ts
ordered_sound [] rs ts e = e
ordered_sound (x ∷ xs) rs ts e = go (x.broken rs) (ordered_sound xs rs ts) e
  where
    go : (b : Bool) → (ordered xs rs ≡ sound ts → sound rs ≡ sound ts) → cond b (faulty x.number (place_of x.tag rs)) (ordered xs rs) ≡ sound ts → sound rs ≡ sound ts
    go true ih q = clash (cc)
    go false ih q = ih q

-- what is in order has the records that it had
pub in_order_sound : (w : Sheet) (rs : List Rec) → in_plan_order w ≡ sound rs → w ≡ sound rs
in_order_sound (faulty n p) rs e = clash (cc)
in_order_sound (sound ts) rs e = ordered_sound order_rules ts rs e

-- ---- a record of a sheet

-- a record of the sheet keeps its kind
pub kind_of : (t : Table) (c : ℕ) (d : List ℕ) (rs : List Rec) → AllKinds t rs → Has (rec c d) rs → breaks_kind t c d ≡ false
kind_of t c d [] a h = absurd h
kind_of t c d (r ∷ rs) a (inl e) = subst (λ (x : Rec). breaks_kind t x.tag x.body ≡ false) (sym e) a.0
kind_of t c d (r ∷ rs) a (inr h) = kind_of t c d rs a.1 h
