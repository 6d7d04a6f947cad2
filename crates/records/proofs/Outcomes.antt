-- The records of a message, by what the walk that judged it tells. Assumes nothing.
use mathlib.Core.Path.{◌≡◌, refl, sym, ap, ◌∙◌}
use mathlib.Core.List.{List, [], ◌∷◌}
use Prim.Native.Nat.{ℕ, ◌+◌, ◌*◌, ◌≤◌, ◌<◌}
use native.Mathlib.Omega.{arith}
use lib.ListN.{length}
use borrow.Author.Tests.{ne_eqb}
use Rattle.options.specs.Message.{Opt, data_start}
use Rattle.options.specs.Reading.{items, pieces}
use Rattle.options.specs.CodeSet.{no_codes, count_of}
use Rattle.options.specs.Answers.{record_bytes, but52, Present, present, filled_with, records}
use Rattle.options.specs.ReadingClaims.{IsAccepted}
use Rattle.options.specs.KindClaims.{AllBytes}
use Rattle.theorems.proofs.CodesPresent.{listed_small, present_is}
use Rattle.theorems.proofs.Lengths.{taken, options_short, few_options, joined_short}
use Rattle.theorems.proofs.Sheets.{records_is, records_are_shorter}
use Rattle.message.specs.declared.Scanned.{Scanned}
use Rattle.message.specs.Scan.{Scan, first_start, used_by, survey_of, told_of, told_by, Surveys}
use Rattle.message.specs.Active.{active_options}
use Rattle.message.proofs.Callers.{SurveyAccepted, survey_accepted, codes_refused_by, passed}
use Rattle.buffer.specs.Written.{Written}
use Rattle.buffer.proofs.Writing.{written_front}
use Rattle.std.specs.Prelude.{Ok, Err}
use Rattle.refusal.specs.declared.Rule.TheVariants.{NoRoom}
use Rattle.refusal.specs.declared.Refusal.{Refusal}
use Rattle.filled.specs.Fill.{Fills}
use Rattle.filled.proofs.Answers.{fills_refusal, fills_small, fills_enough}
use Rattle.records.specs.FieldRecords.{ActiveEnds, active_records}
use Rattle.records.specs.JoinedRecords.{Small, sheet_from, only52, fresh, head52, needed, held}
use Rattle.records.proofs.Rooms.{active_records_lem}
use Rattle.records.proofs.Codes.{one, sheet_is, codes_counted, sheet_size, sheet_once}
use Rattle.records.proofs.AcceptedEnds.{active_ends}

pub refused_records : (m old : List ℕ) (e : Refusal) (set : List ℕ) → Surveys m (told_by (Err e)) set → Fills (records m old) (Err e) old
refused_records m old e set h = fills_refusal (records m old) e old (records_is m old (codes_refused_by m e set h))

head_is : (ps : List Opt) → head52 (first_start ps) ≡ one ps * 3
head_is [] = refl
head_is (o ∷ os) = rw (ne_eqb (data_start o) 0 (λ e. omega arith)) refl

used_taken : (os : List Opt) → used_by os ≡ taken os
unfolding used_by
used_taken [] = refl
used_taken (o ∷ os) = omega (arith, used_taken os)

-- m is accepted, t tells of it, and it has so many codes
pub record Told (m : List ℕ) (t : Scan) (codes : ℕ) : Type 0 where
  pub options : List Opt
  pub tells : SurveyAccepted m t options
  pub small : Small options
  pub codes_are : codes ≡ fresh no_codes options

pub told_here : (m : List ℕ) (t : Scanned) (codes : ℕ) → AllBytes m → told_of t ≡ survey_of m → codes ≡ count_of (present m).words → Told m (told_of t) codes
told_here m t codes b h c =
    let a = survey_accepted m (told_of t) b h refl in
    let s : Small a.0 = listed_small m a.1.reads b in
    record {
      options = a.0;
      tells = a.1;
      small = s;
      codes_are = c ∙ ap (λ (p : Present). count_of p.words) (present_is m a.1.reads) ∙ codes_counted a.0 s;
    }

module _ {m : List ℕ} {t : Scan} {codes : ℕ} (k : Told m t codes) where
  -- the records
  abbrev pub sheet_of : List ℕ
  sheet_of = record_bytes (sheet_from only52 (active_options t.over m))

  os_are : record_bytes (sheet_from only52 k.options) ≡ sheet_of
  os_are = ap (λ (l : List Opt). record_bytes (sheet_from only52 l)) k.tells.options_are

  is_filled : (old : List ℕ) → records m old ≡ filled_with sheet_of old
  is_filled old =
      records_is m old k.tells.reads
      ∙ ap (λ (l : List ℕ). filled_with l old) (ap record_bytes (sym (sheet_is k.options k.small)) ∙ os_are)

  pub told_used : (t.used ≤ 65536) × (t.count ≤ 65536) × (t.whole ≤ 65536)
  told_used =
      let a : IsAccepted m = record { options = k.options; reads = k.tells.reads } in (
        omega (arith, ap (λ (x : Scan). x.used) k.tells.is, used_taken k.options, options_short m a),
        omega (arith, ap (λ (x : Scan). x.count) k.tells.is, few_options m a),
        omega (arith, ap (λ (x : Scan). x.whole) k.tells.is, joined_short m a 52),
      )

  -- how long they are
  told_size : length sheet_of + t.count * 2 + t.whole + head52 t.start ≡ needed t codes
  told_size =
      omega (arith, ap length os_are, sheet_size k.options k.small, k.codes_are, ap (λ (x : Scan). x.used) k.tells.is, ap (λ (x : Scan). x.count) k.tells.is, ap (λ (x : Scan). x.whole) k.tells.is, ap (λ (x : Scan). head52 x.start) k.tells.is, head_is (pieces 52 k.options))

  pub told_fits : (n : ℕ) → needed t codes ≤ held n t → length sheet_of ≤ n
  told_fits n h = omega (arith, told_size)

  pub told_short : length sheet_of < 65536
  told_short = omega (arith, records_are_shorter m (record { options = k.options; reads = k.tells.reads }), ap length (ap record_bytes (sym (sheet_is k.options k.small)) ∙ os_are))

  pub fills_declined : (old : List ℕ) → held (length old) t < needed t codes → (e : Refusal) → e ≡ record { rule = NoRoom; place = length old } → Fills (records m old) (Err e) old
  fills_declined old l e q = fills_small (records m old) sheet_of old (is_filled old) e q (omega (arith, told_size))

  pub fills_given : (old : List ℕ) (r : ℕ) (after : List ℕ) → needed t codes ≤ held (length old) t → Written old 0 sheet_of r after → Fills (records m old) (Ok r) after
  fills_given old r after l p =
      let f = written_front p in
      fills_enough (records m old) sheet_of old (is_filled old) r after (told_fits (length old) l) f.0 f.1

  -- where every code stands once
  pub told_once : t.count ≡ codes → sheet_of ≡ active_records t.over m
  told_once e =
      sym os_are
      ∙ ap record_bytes (sheet_once k.options k.small (sym k.codes_are ∙ sym e ∙ ap (λ (x : Scan). x.count) k.tells.is))
      ∙ ap (λ (l : List Opt). record_bytes (but52 (items l))) k.tells.options_are
      ∙ active_records_lem t.over m

  pub told_long : 240 ≤ length m
  told_long = (passed m k.options k.tells.reads).least

  pub told_ends : AllBytes m → ActiveEnds t.over m
  told_ends b = rw (ap (λ (x : Scan). x.over) k.tells.is) (active_ends m k.options b k.tells.reads)

  pub told_small : Small (active_options t.over m)
  told_small = rw k.tells.options_are at k.small
