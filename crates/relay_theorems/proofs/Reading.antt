-- The reader gives the sub-options that fill the bytes, or the place where one runs past; no other answer is right. Assumes nothing.
use mathlib.Core.Path.{◌≡◌, refl, sym, ap, ap₂, ◌∙◌, subst}
use mathlib.Core.List.{List, [], ◌∷◌, ◌++◌}
use mathlib.Core.Bool.{true, false, cond}
use mathlib.Core.Logic.{◌⊎◌, ◌↔◌, inl, inr}
use Prim.Native.Nat.{ℕ, ◌+◌, ◌≤◌, ◌<◌}
use native.Mathlib.Omega.{arith}
use native.Mathlib.Decide.{dec_lt}
use lib.ListN.{length, length-append}
use borrow.Author.Tests.{lt-ltb, le-ltb}
use Rattle.options.specs.Message.{Rec}
use lib.Dec.{ltb}
use Rattle.options.specs.Answers.{record_bytes, filled_with}
use Rattle.options.specs.SubOptions.{sub_options}
use Rattle.options.specs.Writing.{option_bytes}
use Rattle.options.specs.Vendor.{items_in, item_records}
use Rattle.options.specs.VendorClaims.{filled}
use Rattle.options.specs.Relay.{Id, RelayRead, no_relay, relay_in, id_in, relay_records_value}
use Rattle.options.specs.KindClaims.{SubOptionsAre}
use Rattle.options.specs.RelayClaims.{RunsPast, code_alone, data_short, PastAt, IdOf, ReadsRelay, read_none, read_8, read_11, reads, RelayReaderIsCorrect}
use Rattle.vendor_theorems.proofs.Writing.{placed, placed_records}
use Rattle.relay_theorems.proofs.Subs.{filled_walk, past_walk, Past, Either, some_end}
use Rattle.theorems.proofs.SubOptionRow.{are, the_bytes}
use Rattle.relay_theorems.proofs.Ids.{id_right, id_only}
use Rattle.relay_theorems.proofs.Bytes.{records_are, the_records}

-- bytes that are there
walked : (f old : List ℕ) → (f ≡ [] → ⊥) → relay_records_value f old ≡ relay_in (items_in (sub_options 0 0 f)) old
unfolding relay_records_value
walked [] old n = absurd (n refl)
walked (b ∷ bs) old n = refl

some_bytes : (r : Rec) (rs : List Rec) → option_bytes (r ∷ rs) ≡ [] → ⊥
unfolding option_bytes
some_bytes r rs e = omega (arith, ap length e)

past_bytes : (f : List ℕ) (before : List Rec) (rest : List ℕ) → f ≡ option_bytes before ++ rest → RunsPast rest → f ≡ [] → ⊥
past_bytes f before rest e (code_alone {c = c}) z = omega (arith, ap length (sym z ∙ e), length-append (option_bytes before) (c ∷ []))
past_bytes f before rest e (data_short {c = c} {n = n} {r = r} l) z = omega (arith, ap length (sym z ∙ e), length-append (option_bytes before) (c ∷ n ∷ r))

-- ---- what each case gives

pub gives_past : (f old : List ℕ) (before : List Rec) (rest : List ℕ) → f ≡ option_bytes before ++ rest → RunsPast rest → relay_records_value f old ≡ no_relay 8 (length (option_bytes before)) old
gives_past f old before rest e p =
    walked f old (past_bytes f before rest e p)
    ∙ ap (λ w. relay_in w old) (ap (λ (xs : List ℕ). items_in (sub_options 0 0 xs)) e ∙ past_walk 0 before rest p)
    ∙ ap (λ (i : ℕ). no_relay 8 i old) (omega arith)

pub gives_listed : (f old : List ℕ) (r : Rec) (rs : List Rec) → f ≡ option_bytes (r ∷ rs)
    → relay_records_value f old ≡ cond (ltb (length old) (length (record_bytes (r ∷ rs)))) (no_relay 11 (length old) old)
    (record { filled = filled_with (record_bytes (r ∷ rs)) old; circuit = id_in 1 (placed 0 (r ∷ rs)); remote = id_in 2 (placed 0 (r ∷ rs)) })
gives_listed f old r rs e =
    walked f old (λ z. some_bytes r rs (sym e ∙ z))
    ∙ ap (λ w. relay_in w old) (ap (λ (xs : List ℕ). items_in (sub_options 0 0 xs)) e ∙ filled_walk 0 (r ∷ rs))
    ∙ ap
    (λ (ts : List Rec). cond (ltb (length old) (length (record_bytes ts))) (no_relay 11 (length old) old)
    (record { filled = filled_with (record_bytes ts) old; circuit = id_in 1 (placed 0 (r ∷ rs)); remote = id_in 2 (placed 0 (r ∷ rs)) }))
    (placed_records 0 (r ∷ rs))

-- ---- the reader

module _ (f old : List ℕ) where
  fill : {rs : List Rec} → f ≡ option_bytes rs → SubOptionsAre rs f
  fill {rs} e = subst (SubOptionsAre rs) (sym e) (are rs)

  right : Either f → ReadsRelay f old (relay_records_value f old)
  unfolding relay_records_value option_bytes
  right (inl ([], e)) = subst (λ (xs : List ℕ). ReadsRelay xs old (relay_records_value xs old)) (sym e) (read_none refl)
  right (inl (r ∷ rs, e)) = subst (ReadsRelay f old) (sym (gives_listed f old r rs e)) (elim (dec_lt (length old) (length (record_bytes (r ∷ rs)))) [
    | yes h ↦ rw (lt-ltb (length old) (length (record_bytes (r ∷ rs))) h) (read_11 r rs (record_bytes (r ∷ rs)) (fill e) (records_are (r ∷ rs)) h)
    | no h ↦
        let l : length (record_bytes (r ∷ rs)) ≤ length old = omega arith in
        rw (le-ltb (length old) (length (record_bytes (r ∷ rs))) l) (reads r rs (record_bytes (r ∷ rs)) (fill e) (records_are (r ∷ rs)) l (id_right 1 (r ∷ rs)) (id_right 2 (r ∷ rs)))
  ])
  right (inr p) =
      subst (ReadsRelay f old) (sym (gives_past f old p.before p.rest p.reads p.runs_past))
      (read_8 (record { before = p.before; head = option_bytes p.before; rest = p.rest; reads = p.reads; whole = are p.before; place = refl; runs_past = p.runs_past }))

  only : (w : RelayRead) → ReadsRelay f old w → relay_records_value f old ≡ w
  unfolding relay_records_value
  only w (read_none e) = ap (λ (xs : List ℕ). relay_records_value xs old) e
  only w (read_8 p) =
      let e = the_bytes p.whole in
      gives_past f old p.before p.rest (p.reads ∙ ap (λ (h : List ℕ). h ++ p.rest) e) p.runs_past ∙ ap (λ (i : ℕ). no_relay 8 i old) (sym (p.place ∙ ap length e))
  only w (read_11 r rs b e q l) =
      gives_listed f old r rs (the_bytes e) ∙ (rw (lt-ltb (length old) (length (record_bytes (r ∷ rs))) (subst (λ (u : List ℕ). length old < length u) (the_records q) l)))
  only w (reads r rs b {x} {y} e q l i j) =
      gives_listed f old r rs (the_bytes e)
      ∙ (rw (le-ltb (length old) (length (record_bytes (r ∷ rs))) (subst (λ (u : List ℕ). length u ≤ length old) (the_records q) l), the_records q)
      (ap₂ (λ (a b : Id). record { filled = filled (record_bytes (r ∷ rs)) old; circuit = a; remote = b }) (id_only 1 (r ∷ rs) x i) (id_only 2 (r ∷ rs) y j)))

pub relay_reader_is_correct : RelayReaderIsCorrect
relay_reader_is_correct f old w = (λ e. subst (ReadsRelay f old) e (right f old (some_end f)), only f old w)

-- for the writer: what sub-options give, with room enough
pub read_back : (r : Rec) (rs : List Rec) (old : List ℕ) → length (record_bytes (r ∷ rs)) ≤ length old → (relay_records_value (option_bytes (r ∷ rs)) old).filled ≡ filled (record_bytes (r ∷ rs)) old
read_back r rs old l = ap (λ (x : RelayRead). x.filled) (gives_listed (option_bytes (r ∷ rs)) old r rs refl) ∙ (rw (le-ltb (length old) (length (record_bytes (r ∷ rs))) l))
