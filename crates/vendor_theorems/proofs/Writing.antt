-- The writer gives the items of the sheet's records or refuses by the first row that applies; no other answer is right; and what is given is read as the records. Assumes nothing.
use mathlib.Core.Path.{◌≡◌, refl, sym, ap, ap₂, ◌∙◌, subst}
use mathlib.Core.List.{List, [], ◌∷◌, ◌++◌}
use mathlib.Core.Bool.{Bool, true, false, cond}
use mathlib.Core.Logic.{◌⊎◌, ◌↔◌, inl, inr}
use Prim.Native.Nat.{ℕ, ◌+◌, ◌≤◌, ◌<◌}
use native.Mathlib.Omega.{arith}
use native.Mathlib.Decide.{dec_lt}
use lib.ListN.{length, take, drop}
use lib.Seq.{take_at}
use lib.Dec.{ltb, eqb}
use borrow.Author.Tests.{lt-ltb, le-ltb}
use Rattle.options.specs.Message.{Rec}
use Rattle.options.specs.Reading.{Parse, parse, among}
use Rattle.options.specs.KindClaims.{AllBytes}
use Rattle.options.specs.Answers.{record_bytes, Given, given, declined, Filled, unfilled, filled_with}
use Rattle.options.specs.SheetWalk.{Walk, records_from, Sheet, sound, faulty, ruled}
use Rattle.options.specs.Writing.{option_bytes, longest_sheet}
use Rattle.options.specs.Vendor.{Item, Items, listed, also, items_in, item_records, vendor_records_value, vendor_rules, longest_vendor, items_given, sheet_given, vendor_sheet, vendor_write_value}
use Rattle.options.specs.VendorClaims.{FirstVendorRow, RightSheet, filled, WritesItems, write_16, write_record, write_11, writes, VendorWriterIsCorrect, VendorComesBack}
use Rattle.theorems.proofs.View.{clash}
use Rattle.writing_theorems.proofs.Encode.{parse_option}
use Rattle.writing_theorems.proofs.SheetLaws.{neither, Passes, p_none, p_record, passes}
use Rattle.vendor_theorems.proofs.Rows.{Judges, judges, first_once, sheet_once, row_or_sheet}

-- ---- the writer

module _ (s out : List ℕ) where
  sound_right : (rs : List Rec) → length s ≤ longest_sheet → RightSheet s rs → WritesItems s out (items_given rs out)
  sound_right rs short e = elim (dec_lt 255 (length (option_bytes rs))) [
    | yes h ↦ rw (lt-ltb 255 (length (option_bytes rs)) h) (write_11 rs short e (inr h))
    | no h ↦
        let l : length (option_bytes rs) ≤ 255 = omega arith in
        rw (le-ltb 255 (length (option_bytes rs)) l) (room l)
  ]
    where
      room : length (option_bytes rs) ≤ 255 → WritesItems s out (filled_with (option_bytes rs) out)
      room l = elim (dec_lt (length out) (length (option_bytes rs))) [
        | yes h ↦ rw (lt-ltb (length out) (length (option_bytes rs)) h) (write_11 rs short e (inl h))
        | no h ↦
            let k : length (option_bytes rs) ≤ length out = omega arith in
            rw (le-ltb (length out) (length (option_bytes rs)) k) (writes rs short e k l)
      ]

  sheet_right : (x : Sheet) → length s ≤ longest_sheet → Judges s x → WritesItems s out (sheet_given x out)
  sheet_right (faulty n p) short j = write_record short j
  sheet_right (sound rs) short j = sound_right rs short j

  writes_right : AllBytes s → WritesItems s out (vendor_write_value s out)
  unfolding vendor_write_value
  writes_right all = elim (dec_lt 4096 (length s)) [
    | yes h ↦ rw (lt-ltb 4096 (length s) h) (write_16 h)
    | no h ↦
        let l : length s ≤ 4096 = omega arith in
        rw (le-ltb 4096 (length s) l) (sheet_right (vendor_sheet s) l (judges s all))
  ]

  one_size : {rs ts : List Rec} → RightSheet s rs → RightSheet s ts → length (option_bytes rs) ≡ length (option_bytes ts)
  one_size a b = ap (λ (l : List Rec). length (option_bytes l)) (sheet_once a b)

  no_room : {n : ℕ} → (length out < n) ⊎ (255 < n) → n ≤ length out → n ≤ 255 → ⊥
  no_room (inl x) a b = omega arith
  no_room (inr x) a b = omega arith

  writes_only : (w v : Filled) → WritesItems s out w → WritesItems s out v → w ≡ v
  writes_only w v (write_16 a) (write_16 b) = refl
  writes_only w v (write_16 a) (write_record b f) = absurd (omega arith)
  writes_only w v (write_16 a) (write_11 rs b e l) = absurd (omega arith)
  writes_only w v (write_16 a) (writes rs b e l k) = absurd (omega arith)
  writes_only w v (write_record a f) (write_16 b) = absurd (omega arith)
  writes_only w v (write_record a f) (write_record b g) =
      let t = first_once f g in ap₂ (λ (n i : ℕ). unfilled n i out) t.0 t.1
  writes_only w v (write_record a f) (write_11 rs b e l) = absurd (row_or_sheet f e)
  writes_only w v (write_record a f) (writes rs b e l k) = absurd (row_or_sheet f e)
  writes_only w v (write_11 rs a e l) (write_16 b) = absurd (omega arith)
  writes_only w v (write_11 rs a e l) (write_record b g) = absurd (row_or_sheet g e)
  writes_only w v (write_11 rs a e l) (write_11 ts b d k) = refl
  writes_only w v (write_11 rs a e l) (writes ts b d k j) = absurd (no_room (subst (λ (n : ℕ). (length out < n) ⊎ (255 < n)) (one_size e d) l) k j)
  writes_only w v (writes rs a e l j) (write_16 b) = absurd (omega arith)
  writes_only w v (writes rs a e l j) (write_record b g) = absurd (row_or_sheet g e)
  writes_only w v (writes rs a e l j) (write_11 ts b d k) = absurd (no_room (subst (λ (n : ℕ). (length out < n) ⊎ (255 < n)) (one_size d e) k) l j)
  writes_only w v (writes rs a e l j) (writes ts b d k i) = ap (λ (z : List Rec). filled (option_bytes z) out) (sheet_once e d)

pub vendor_writer_is_correct : VendorWriterIsCorrect
vendor_writer_is_correct s out w all =
    (λ e. subst (λ (v : Filled). WritesItems s out v) e (writes_right s out all), λ r. writes_only s out (vendor_write_value s out) w (writes_right s out all) r)

-- ---- what is written is read as the records

unfoldable pub placed : ℕ → List Rec → List Item
placed at [] = []
placed at (r ∷ rs) = record { offset = at; item = r } ∷ placed (at + 2 + length r.body) rs

pub placed_records : (at : ℕ) (rs : List Rec) → item_records (placed at rs) ≡ rs
unfolding item_records placed
placed_records at [] = refl
placed_records at (r ∷ rs) = ap (λ (l : List Rec). r ∷ l) (placed_records (at + 2 + length r.body) rs)

-- no tag is a pad's or END's
abbrev AllCodes : List Rec → Type 0
AllCodes [] = Unit {0}
AllCodes (r ∷ rs) = (eqb r.tag 0 ≡ false) × (eqb r.tag 255 ≡ false) × AllCodes rs

codes_of : {seen : List ℕ} {w : Walk} {rs : List Rec} → Passes vendor_rules seen w rs → AllCodes rs
codes_of p_none = tt
codes_of (p_record {r = r} k p) =
    let a = neither (eqb r.tag 0) (among r.tag (255 ∷ [])) k.0 in
    let b = neither (eqb r.tag 255) false a.1 in
    (a.0, b.0, codes_of p)

sheet_codes : (s : List ℕ) (rs : List Rec) → vendor_sheet s ≡ sound rs → AllCodes rs
unfolding vendor_sheet
sheet_codes s rs e = codes_of (passes vendor_rules [] (records_from 0 0 s) rs e)

parse_items : (at : ℕ) (rs : List Rec) → AllCodes rs → items_in (parse at 0 (option_bytes rs)) ≡ listed (placed at rs)
unfolding parse items_in option_bytes placed
parse_items at [] h = refl
parse_items at (r ∷ rs) h =
    ap items_in (parse_option at r (option_bytes rs) h.0 h.1)
    ∙ ap (also (record { offset = at; item = r })) (parse_items (at + 2 + length r.body) rs h.2)

read_back : (rs : List Rec) (old : List ℕ) → AllCodes rs → length (record_bytes rs) ≤ length old → vendor_records_value (option_bytes rs) old ≡ filled (record_bytes rs) old
unfolding vendor_records_value
read_back rs old h l = rw (parse_items 0 rs h, placed_records 0 rs, le-ltb (length old) (length (record_bytes rs)) l)

pub answer_size : {n k : ℕ} {w u : List ℕ} → ◌≡◌ {A = Filled} (record { answer = given k; buffer = u }) (record { answer = given n; buffer = w }) → (k ≡ n) × (u ≡ w)
answer_size {n} {k} e =
    let a : given k ≡ given n = ap (λ (x : Filled). x.answer) e in
    (cc, ap (λ (x : Filled). x.buffer) e)

pub refused_not : {X : Type 0} {n p k : ℕ} {w u : List ℕ} → ◌≡◌ {A = Filled} (record { answer = declined n p; buffer = u }) (record { answer = given k; buffer = w }) → X
refused_not {X} {n} {p} {k} e = let a : declined n p ≡ given k = ap (λ (x : Filled). x.answer) e in clash (cc)

module _ (s out : List ℕ) (n : ℕ) (w old : List ℕ) (all : AllBytes s) (l : length s ≤ length old) where
  fits : (rs : List Rec) → AllCodes rs → s ≡ record_bytes rs → (a b : Bool)
      → cond a (unfilled 11 (length out) out) (cond b (unfilled 11 (length out) out) (filled (option_bytes rs) out)) ≡ record { answer = given n; buffer = w }
      → vendor_records_value (take n w) old ≡ filled s old
  fits rs h q true b e = refused_not e
  fits rs h q false true e = refused_not e
  fits rs h q false false e =
      let t = answer_size e in
      let x : take n w ≡ option_bytes rs =
      ap₂ (λ (k : ℕ) (u : List ℕ). take k u) (sym t.0) (sym t.1) ∙ take_at (option_bytes rs) (drop (length (option_bytes rs)) out) (length (option_bytes rs)) refl in
      let m : length (record_bytes rs) ≤ length old = omega (arith, ap length q) in
      ap (λ (u : List ℕ). vendor_records_value u old) x ∙ read_back rs old h m ∙ ap (λ (u : List ℕ). filled u old) (sym q)

  sheets : (x : Sheet) → vendor_sheet s ≡ x → Judges s x → sheet_given x out ≡ record { answer = given n; buffer = w } → vendor_records_value (take n w) old ≡ filled s old
  sheets (faulty k p) q j e = refused_not e
  sheets (sound rs) q j e = fits rs (sheet_codes s rs q) j.is_sheet (ltb 255 (length (option_bytes rs))) (ltb (length out) (length (option_bytes rs))) e

  comes_back : vendor_write_value s out ≡ record { answer = given n; buffer = w } → vendor_records_value (take n w) old ≡ filled s old
  unfolding vendor_write_value
  comes_back e = go (ltb longest_sheet (length s)) e
    where
      go : (b : Bool) → cond b (unfilled 16 (length s) out) (sheet_given (vendor_sheet s) out) ≡ record { answer = given n; buffer = w } → vendor_records_value (take n w) old ≡ filled s old
      go true z = refused_not z
      go false z = sheets (vendor_sheet s) refl (judges s all) z

pub vendor_comes_back : VendorComesBack
vendor_comes_back s out n w old all e l = comes_back s out n w old all l e
