-- The walk of a sheet by places: one step of it, and the records left from a place on. What code that reads a sheet needs. Assumes nothing.
use mathlib.Core.Path.{◌≡◌, refl, sym, ap, ap₂, ◌∙◌, subst}
use mathlib.Core.List.{List, [], ◌∷◌}
use mathlib.Core.Bool.{Bool, true, false}
use mathlib.Core.Logic.{inl, inr}
use Prim.Native.Nat.{ℕ, suc, ◌+◌, ◌*◌, ◌≤◌, ◌<◌}
use native.Mathlib.Omega.{arith}
use lib.ListN.{length, get_or, take, drop, length-drop, length-append, drop_of_length-le}
use lib.Seq.{drop-cons, length-take-le}
use lib.Dec.{ltb}
use borrow.Author.Tests.{ltb-true, ltb-false}
use Rattle.options.specs.Message.{Rec}
use Rattle.options.specs.Answers.{record_bytes}
use Rattle.options.specs.Kinds.{Table}
use Rattle.options.specs.SheetWalk.{Walk, all_read, cut_at, read_at, records_from, records_of, records_left, AllShort, Whole, sound}
use Rattle.options.specs.Writing.{writer_rules, sheet}
use Rattle.writing_theorems.proofs.SheetView.{rec, Lies, Reads, r_none, r_cut, r_record, reads, whole_here, walk_none, walk_cut, walk_record}
use Rattle.writing_theorems.proofs.SheetLaws.{sound_sheet, sound_records, Uncut, sound_uncut}

-- ---- One step of the walk

-- the size of the data of the record at a place: "two-byte length", the high byte first
abbrev pub size_at : List ℕ → ℕ → ℕ
size_at s at = 256 * get_or s (at + 1) 0 + get_or s (at + 2) 0

-- the record at a place, where it is whole
abbrev pub record_here : List ℕ → ℕ → Rec
record_here s at = rec (get_or s at 0) (take (size_at s at) (drop (at + 3) s))

-- the three bytes of a record's head
pub head3 : (s : List ℕ) (at : ℕ) → at + 3 ≤ length s → drop at s ≡ get_or s at 0 ∷ get_or s (at + 1) 0 ∷ get_or s (at + 2) 0 ∷ drop (at + 3) s
head3 s at h =
    let a : suc at ≡ at + 1 = omega arith in
    let b : suc (suc at) ≡ at + 2 = omega arith in
    let c : suc (suc (suc at)) ≡ at + 3 = omega arith in
    drop-cons s at 0 (omega arith)
    ∙ ap (λ (l : List ℕ). get_or s at 0 ∷ l)
    (drop-cons s (suc at) 0 (omega arith)
    ∙ ap₂ (λ (k : ℕ) (l : List ℕ). get_or s k 0 ∷ l) a
    (drop-cons s (suc (suc at)) 0 (omega arith) ∙ ap₂ (λ (k j : ℕ). get_or s k 0 ∷ drop j s) b c))

module _ (s : List ℕ) (at : ℕ) where
  pub step_none : length s ≤ at → records_from at 0 (drop at s) ≡ all_read
  step_none h = walk_none s at (drop_of_length-le s h)

  -- "record head .. beyond the sheet"
  pub step_head : at < length s → length s < at + 3 → records_from at 0 (drop at s) ≡ cut_at at
  step_head h k = walk_cut s at (record { tag = get_or s at 0; after = drop (suc at) s; reads = drop-cons s at 0 h; beyond = inl (omega (arith, length-drop (suc at) s)) })

  module _ (h : at + 3 ≤ length s) where
    -- "or data beyond the sheet"
    pub step_cut : length s < at + 3 + size_at s at → records_from at 0 (drop at s) ≡ cut_at at
    step_cut k =
        walk_cut s at
        (record {
          tag = get_or s at 0;
          after = get_or s (at + 1) 0 ∷ get_or s (at + 2) 0 ∷ drop (at + 3) s;
          reads = head3 s at h;
          beyond = inr (get_or s (at + 1) 0, get_or s (at + 2) 0, drop (at + 3) s, refl, omega (arith, length-drop (at + 3) s));
        })

    module _ (w : at + 3 + size_at s at ≤ length s) where
      pub body_size : length (record_here s at).body ≡ size_at s at
      body_size = length-take-le (size_at s at) (drop (at + 3) s) (omega (arith, length-drop (at + 3) s))

      lies : Lies s at (get_or s at 0) (record_here s at).body
      lies = whole_here s at (get_or s at 0) (get_or s (at + 1) 0) (get_or s (at + 2) 0) (drop (at + 3) s) (head3 s at h) (omega (arith, length-drop (at + 3) s))

      pub step_record : records_from at 0 (drop at s) ≡ read_at at (record_here s at) (records_from (at + 3 + size_at s at) 0 (drop (at + 3 + size_at s at) s))
      step_record =
          walk_record s at (get_or s at 0) (record_here s at).body lies
          ∙ ap (λ (n : ℕ). read_at at (record_here s at) (records_from (at + 3 + n) 0 (drop (at + 3 + n) s))) body_size

-- what a place has
pub data At (s : List ℕ) (at : ℕ) : Walk → Type 0 where
  at_end_lem : length s ≤ at → At s at all_read
  at_cut : at < length s → At s at (cut_at at)
  at_record : at + 3 + size_at s at ≤ length s → length (record_here s at).body ≡ size_at s at
      → At s at (read_at at (record_here s at) (records_from (at + 3 + size_at s at) 0 (drop (at + 3 + size_at s at) s)))

module _ (s : List ℕ) (at : ℕ) where
  abbrev here : Walk
  here = records_from at 0 (drop at s)

  sized : at + 3 ≤ length s → (b : Bool) → ltb (length s) (at + 3 + size_at s at) ≡ b → At s at here
  sized h true q = subst (At s at) (sym (step_cut s at h (ltb-true _ _ q))) (at_cut (omega arith))
  sized h false q =
      let w : at + 3 + size_at s at ≤ length s = ltb-false _ _ q in
      subst (At s at) (sym (step_record s at h w)) (at_record w (body_size s at h w))

  headed : at < length s → (b : Bool) → ltb (length s) (at + 3) ≡ b → At s at here
  headed h true q = subst (At s at) (sym (step_head s at h (ltb-true _ _ q))) (at_cut h)
  headed h false q = sized (ltb-false _ _ q) (ltb (length s) (at + 3 + size_at s at)) refl

  some : (b : Bool) → ltb at (length s) ≡ b → At s at here
  some true q = headed (ltb-true _ _ q) (ltb (length s) (at + 3)) refl
  some false q = subst (At s at) (sym (step_none s at (ltb-false _ _ q))) (at_end_lem (ltb-false _ _ q))

  pub at_place : At s at here
  at_place = some (ltb at (length s)) refl

-- ---- The records left from a place on

pub none_left : (s : List ℕ) (at : ℕ) → length s ≤ at → records_left s at ≡ []
unfolding records_of records_left
none_left s at h = ap records_of (step_none s at h)

-- the bytes of a record are three more than its data
pub bytes_more : (r : Rec) (rs : List Rec) → length (record_bytes (r ∷ rs)) ≡ 3 + length r.body + length (record_bytes rs)
unfolding record_bytes
bytes_more r rs = omega (arith, length-append r.body (record_bytes rs))

-- the next record
pub record Next (s : List ℕ) (at : ℕ) : Type 0 where
  pub within : at + 3 + size_at s at ≤ length s
  pub body_long : length (record_here s at).body ≡ size_at s at
  pub first : records_left s at ≡ record_here s at ∷ records_left s (at + 3 + size_at s at)
  pub few : size_at s at ≤ 1024
  pub whole : Whole s (at + 3 + size_at s at)

module _ (s : List ℕ) (at : ℕ) (w : Whole s at) (l : at < length s) where
  none : records_left s at ≡ [] → ⊥
  unfolding record_bytes
  none e =
      let z : length (record_bytes (records_left s at)) ≡ 0 = ap (λ (rs : List Rec). length (record_bytes rs)) e in
      omega (arith, z, w.to_end, l)

  next_at : at + 3 + size_at s at ≤ length s → length (record_here s at).body ≡ size_at s at → records_left s at ≡ record_here s at ∷ records_left s (at + 3 + size_at s at) → Next s at
  next_at h long first =
      let short : AllShort (record_here s at ∷ records_left s (at + 3 + size_at s at)) = subst AllShort first w.short in
      let few : size_at s at ≤ 1024 = omega (arith, long, short.0) in
      let bytes : length (record_bytes (records_left s at)) ≡ 3 + length (record_here s at).body + length (record_bytes (records_left s (at + 3 + size_at s at))) =
      ap (λ (rs : List Rec). length (record_bytes rs)) first ∙ bytes_more (record_here s at) (records_left s (at + 3 + size_at s at)) in
      record {
        within = h;
        body_long = long;
        first = first;
        few = few;
        whole = record { to_end = omega (arith, bytes, long, w.to_end); short = short.1 };
      }

  next_by : {x : Walk} → At s at x → records_from at 0 (drop at s) ≡ x → Next s at
  unfolding records_of records_left
  next_by (at_end_lem h) e = absurd (omega arith)
  next_by (at_cut h) e = absurd (none (ap records_of e))
  next_by (at_record h long) e = next_at h long (ap records_of e)

  pub next_left : Next s at
  next_left = next_by (at_place s at) refl

-- a walk that meets no cut record goes to the sheet's end
pub read_to_end : {s : List ℕ} {i : ℕ} {w : Walk} → Reads s i w → Uncut w → i ≤ length s → i + length (record_bytes (records_of w)) ≡ length s
unfolding records_of record_bytes
read_to_end {s} {i} (r_none e) u l = let z : length (drop i s) ≡ 0 = ap length e in omega (arith, z, length-drop i s)
read_to_end (r_cut x) u l = absurd u
read_to_end {s} {i} (r_record {c = c} {d = d} {w = w} o r) u l =
    let n : length (drop i s) ≡ 3 + length d + length o.after = ap length o.reads ∙ omega (arith, length-append d o.after) in
    let ih : i + 3 + length d + length (record_bytes (records_of w)) ≡ length s = read_to_end r u (omega (arith, n, length-drop i s)) in
    omega (arith, ih, bytes_more (rec c d) (records_of w))

-- the records of an accepted sheet are those left from its start on, and they take all of it
pub whole_left : (t : Table) (s : List ℕ) (rs : List Rec) → sheet t s ≡ sound rs → (records_left s 0 ≡ rs) × Whole s 0
unfolding sheet records_left
whole_left t s rs e =
    let is : records_left s 0 ≡ rs = sound_records (writer_rules t) [] (records_from 0 0 s) rs e in
    let n : 0 + length (record_bytes (records_left s 0)) ≡ length s = read_to_end (reads s) (sound_uncut (writer_rules t) [] (records_from 0 0 s) rs e) (omega arith) in
    (is, record { to_end = n; short = subst AllShort (sym is) (sound_sheet t s rs e).short })
