-- The writer gives the sub-options of the sheet's records or refuses by the first row that applies; no other answer is right; and what is given is read as the
-- records. Assumes nothing.
use mathlib.Core.Path.{◌≡◌, refl, sym, ap, ap₂, ◌∙◌, subst}
use mathlib.Core.List.{List, [], ◌∷◌, ◌++◌}
use mathlib.Core.Bool.{Bool, true, false, cond}
use mathlib.Core.Logic.{◌⊎◌, ◌↔◌, inl, inr}
use Prim.Native.Nat.{ℕ, ◌+◌, ◌≤◌, ◌<◌}
use native.Mathlib.Omega.{arith}
use native.Mathlib.Decide.{dec_lt}
use lib.ListN.{length, take, drop}
use lib.Seq.{take_at}
use lib.Dec.{ltb}
use borrow.Author.Tests.{lt-ltb, le-ltb}
use Rattle.options.specs.Message.{Rec}
use Rattle.options.specs.Kinds.{relay, part, kinds}
use Rattle.options.specs.KindClaims.{AllBytes, SubOptionsAre}
use Rattle.options.specs.Answers.{record_bytes, Given, given, declined, Filled, unfilled, filled_with}
use Rattle.options.specs.SheetWalk.{records_from, Sheet, sound, faulty, ruled}
use Rattle.options.specs.Writing.{option_bytes, longest_sheet}
use Rattle.options.specs.Vendor.{items_given}
use Rattle.options.specs.VendorClaims.{filled}
use Rattle.options.specs.Relay.{relay_records_value, relay_rules, relay_given, relay_sheet, relay_write_value}
use Rattle.options.specs.RelayClaims.{FirstRelayRow, RightRelay, WritesRelay, write_16, write_record, write_8, write_11, writes, RelayWriterIsCorrect, RelayComesBack, WrittenKeepsTheRow}
use Rattle.theorems.proofs.View.{clash}
use Rattle.vendor_theorems.proofs.Writing.{answer_size, refused_not}
use Rattle.relay_theorems.proofs.Rows.{Judges, judges, first_once, sheet_once, row_or_sheet}
use Rattle.theorems.proofs.SubOptionRow.{are, the_bytes}
use Rattle.relay_theorems.proofs.Bytes.{the_records}
use Rattle.relay_theorems.proofs.Reading.{read_back}
use Rattle.relay_theorems.proofs.Row.{whole_value}

-- ---- the writer

module _ (s out : List ℕ) where
  sound_right : (r : Rec) (rs : List Rec) → length s ≤ longest_sheet → RightRelay s (r ∷ rs) → WritesRelay s out (items_given (r ∷ rs) out)
  sound_right r rs short e = elim (dec_lt 255 (length (option_bytes (r ∷ rs)))) [
    | yes h ↦ rw (lt-ltb 255 (length (option_bytes (r ∷ rs))) h) (write_11 r rs (option_bytes (r ∷ rs)) short e (are (r ∷ rs)) (inr h))
    | no h ↦
        let l : length (option_bytes (r ∷ rs)) ≤ 255 = omega arith in
        rw (le-ltb 255 (length (option_bytes (r ∷ rs))) l) (room l)
  ]
    where
      room : length (option_bytes (r ∷ rs)) ≤ 255 → WritesRelay s out (filled_with (option_bytes (r ∷ rs)) out)
      room l = elim (dec_lt (length out) (length (option_bytes (r ∷ rs)))) [
        | yes h ↦ rw (lt-ltb (length out) (length (option_bytes (r ∷ rs))) h) (write_11 r rs (option_bytes (r ∷ rs)) short e (are (r ∷ rs)) (inl h))
        | no h ↦
            let k : length (option_bytes (r ∷ rs)) ≤ length out = omega arith in
            rw (le-ltb (length out) (length (option_bytes (r ∷ rs))) k) (writes r rs (option_bytes (r ∷ rs)) short e (are (r ∷ rs)) k l)
      ]

  sheet_right : (x : Sheet) → length s ≤ longest_sheet → Judges s x → WritesRelay s out (relay_given x out)
  unfolding record_bytes
  sheet_right (faulty n p) short j = write_record short j
  sheet_right (sound []) short j = write_8 (the_records j.is_sheet)
  sheet_right (sound (r ∷ rs)) short j = sound_right r rs short j

  writes_right : AllBytes s → WritesRelay s out (relay_write_value s out)
  unfolding relay_write_value
  writes_right all = elim (dec_lt 4096 (length s)) [
    | yes h ↦ rw (lt-ltb 4096 (length s) h) (write_16 h)
    | no h ↦
        let l : length s ≤ 4096 = omega arith in
        rw (le-ltb 4096 (length s) l) (sheet_right (relay_sheet s) l (judges s all))
  ]

  no_sheet : {X : Type 0} {r : Rec} {rs : List Rec} → s ≡ [] → RightRelay s (r ∷ rs) → X
  unfolding record_bytes
  no_sheet e f = absurd (omega (arith, ap length (sym e ∙ the_records f.is_sheet)))

  empty_row : {n i : ℕ} → s ≡ [] → FirstRelayRow s n i → ⊥
  unfolding relay_sheet
  empty_row e f = row_or_sheet f (subst (λ (l : List ℕ). RightRelay l []) (sym e) none)
    where
      none : RightRelay [] []
      none = judges [] tt

  same_bytes : {rs ts : List Rec} {x y : List ℕ} → RightRelay s rs → SubOptionsAre rs x → RightRelay s ts → SubOptionsAre ts y → x ≡ y
  same_bytes a p b q = the_bytes p ∙ ap option_bytes (sheet_once a b) ∙ sym (the_bytes q)

  no_room : {n : ℕ} → (length out < n) ⊎ (255 < n) → n ≤ length out → n ≤ 255 → ⊥
  no_room (inl x) a b = omega arith
  no_room (inr x) a b = omega arith

  writes_only : (w v : Filled) → WritesRelay s out w → WritesRelay s out v → w ≡ v
  writes_only w v (write_16 a) (write_16 b) = refl
  writes_only w v (write_16 a) (write_record b f) = absurd (omega arith)
  writes_only w v (write_16 a) (write_8 e) = absurd (omega (arith, ap length e))
  writes_only w v (write_16 a) (write_11 r rs x b e p l) = absurd (omega arith)
  writes_only w v (write_16 a) (writes r rs x b e p l k) = absurd (omega arith)
  writes_only w v (write_record a f) (write_16 b) = absurd (omega arith)
  writes_only w v (write_record a f) (write_record b g) =
      let t = first_once f g in ap₂ (λ (n i : ℕ). unfilled n i out) t.0 t.1
  writes_only w v (write_record a f) (write_8 e) = absurd (empty_row e f)
  writes_only w v (write_record a f) (write_11 r rs x b e p l) = absurd (row_or_sheet f e)
  writes_only w v (write_record a f) (writes r rs x b e p l k) = absurd (row_or_sheet f e)
  writes_only w v (write_8 e) (write_16 b) = absurd (omega (arith, ap length e))
  writes_only w v (write_8 e) (write_record b g) = absurd (empty_row e g)
  writes_only w v (write_8 e) (write_8 d) = refl
  writes_only w v (write_8 e) (write_11 r rs x b d p l) = no_sheet e d
  writes_only w v (write_8 e) (writes r rs x b d p l k) = no_sheet e d
  writes_only w v (write_11 r rs x a e p l) (write_16 b) = absurd (omega arith)
  writes_only w v (write_11 r rs x a e p l) (write_record b g) = absurd (row_or_sheet g e)
  writes_only w v (write_11 r rs x a e p l) (write_8 d) = no_sheet d e
  writes_only w v (write_11 r rs x a e p l) (write_11 t ts y b d q k) = refl
  writes_only w v (write_11 r rs x a e p l) (writes t ts y b d q k j) = absurd (no_room (subst (λ (u : List ℕ). (length out < length u) ⊎ (255 < length u)) (same_bytes e p d q) l) k j)
  writes_only w v (writes r rs x a e p l j) (write_16 b) = absurd (omega arith)
  writes_only w v (writes r rs x a e p l j) (write_record b g) = absurd (row_or_sheet g e)
  writes_only w v (writes r rs x a e p l j) (write_8 d) = no_sheet d e
  writes_only w v (writes r rs x a e p l j) (write_11 t ts y b d q k) = absurd (no_room (subst (λ (u : List ℕ). (length out < length u) ⊎ (255 < length u)) (same_bytes d q e p) k) l j)
  writes_only w v (writes r rs x a e p l j) (writes t ts y b d q k i) = ap (λ (z : List ℕ). filled z out) (same_bytes e p d q)

pub relay_writer_is_correct : RelayWriterIsCorrect
relay_writer_is_correct s out w all =
    (λ e. subst (λ (v : Filled). WritesRelay s out v) e (writes_right s out all), λ r. writes_only s out (relay_write_value s out) w (writes_right s out all) r)

-- ---- what is written is read as the records

-- the sub-options that were given
record GivenOf (s : List ℕ) (n : ℕ) (w : List ℕ) : Type 0 where
  first : Rec
  more : List Rec
  is_sheet : s ≡ record_bytes (first ∷ more)
  bytes_are : take n w ≡ option_bytes (first ∷ more)
  size_is : length (option_bytes (first ∷ more)) ≡ n

module _ (s out : List ℕ) (n : ℕ) (w : List ℕ) (all : AllBytes s) where
  fits : (r : Rec) (rs : List Rec) → s ≡ record_bytes (r ∷ rs) → (a b : Bool)
      → cond a (unfilled 11 (length out) out) (cond b (unfilled 11 (length out) out) (filled (option_bytes (r ∷ rs)) out)) ≡ record { answer = given n; buffer = w }
      → GivenOf s n w
  fits r rs q true b e = refused_not e
  fits r rs q false true e = refused_not e
  fits r rs q false false e =
      let t = answer_size e in
      record {
        first = r;
        more = rs;
        is_sheet = q;
        size_is = t.0;
        bytes_are = ap₂ (λ (k : ℕ) (u : List ℕ). take k u) (sym t.0) (sym t.1) ∙ take_at (option_bytes (r ∷ rs)) (drop (length (option_bytes (r ∷ rs))) out) (length (option_bytes (r ∷ rs))) refl;
      }

  sheets : (x : Sheet) → Judges s x → relay_given x out ≡ record { answer = given n; buffer = w } → GivenOf s n w
  sheets (faulty k p) j e = refused_not e
  sheets (sound []) j e = refused_not e
  sheets (sound (r ∷ rs)) j e = fits r rs (the_records j.is_sheet) (ltb 255 (length (option_bytes (r ∷ rs)))) (ltb (length out) (length (option_bytes (r ∷ rs)))) e

  given_of : relay_write_value s out ≡ record { answer = given n; buffer = w } → GivenOf s n w
  unfolding relay_write_value
  given_of e = go (ltb longest_sheet (length s)) e
    where
      go : (b : Bool) → cond b (unfilled 16 (length s) out) (relay_given (relay_sheet s) out) ≡ record { answer = given n; buffer = w } → GivenOf s n w
      go true z = refused_not z
      go false z = sheets (relay_sheet s) (judges s all) z

pub relay_comes_back : RelayComesBack
relay_comes_back s out n w old all e l =
    let g = given_of s out n w all e in
    let m : length (record_bytes (g.first ∷ g.more)) ≤ length old = omega (arith, ap length g.is_sheet) in
    ap (λ (u : List ℕ). (relay_records_value u old).filled) g.bytes_are ∙ read_back g.first g.more old m ∙ ap (λ (u : List ℕ). filled u old) (sym g.is_sheet)

pub written_keeps_the_row : WrittenKeepsTheRow
written_keeps_the_row s out n w all e =
    let g = given_of s out n w all e in
    ap (kinds.value 82) g.bytes_are ∙ whole_value g.first g.more ∙ ap (part relay) g.size_is
