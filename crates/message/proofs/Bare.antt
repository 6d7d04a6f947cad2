-- The walk over bytes that are no message's gives their items. Assumes nothing.
use mathlib.Core.Path.{◌≡◌, refl, ap, ◌∙◌}
use mathlib.Core.Bool.{Bool, true, false, cond, not}
use mathlib.Core.List.{List, [], ◌∷◌}
use Prim.Native.Nat.{ℕ, ◌+◌, ◌≤◌, ◌<◌}
use native.Mathlib.Omega.{arith}
use lib.Dec.{eqb}
use lib.ListN.{length, length-append}
use Rattle.options.specs.Message.{Field, file, sname, Rec}
use Rattle.options.specs.Reading.{Parse, ended, ran_out_value, beyond, found, parse, file_in, sname_in}
use Rattle.options.specs.CodeSet.{marked, with_mark, no_codes}
use Rattle.options.specs.KindClaims.{AllBytes}
use Rattle.options.specs.Answers.{record_bytes}
use Rattle.options.specs.Vendor.{Item, Items, listed, past, also, items_in, item_records}
use Rattle.codeset.proofs.Words.{mark_other}
use Rattle.codeset.proofs.Codes.{marks_none}
use Rattle.theorems.proofs.View.{clash, Reads, r_none, r_pad, r_end, r_beyond, r_option, reads}
use Rattle.theorems.proofs.Fields.{below, option_in_lem}
use Rattle.refusal.specs.declared.Refusal.{Refusal}
use Rattle.refusal.specs.Refused.{number_of}
use Rattle.message.proofs.Rules.{has_number}
use Rattle.message.specs.Active.{active_in}
use Rattle.message.specs.Items.{measure_of}
use Rattle.message.specs.Scan.{Scan, refused_at}
use Rattle.message.specs.Walk.{Ending, Run, Walk, begun, passed, walk_of, walked_of}
use Rattle.message.specs.Walking.{unfit_of, scanned_of, walk_field, step, all_walked, Gives, Laid, in_message, in_none, used_by_items, told_items, low_watched, Bare, Tells}
use Rattle.message.proofs.Twin.{Codes, parse_codes}
use Rattle.message.proofs.Walks.{walk_no_over}
use Rattle.message.proofs.Readings.{fit_length, read_unfit, read_bare, scans_refused, scans_walked}
use Rattle.message.proofs.Watch.{always, still, watching}

-- the watched codes: pads and END
abbrev pub marks_alone : List ℕ
marks_alone = 1 ∷ 0 ∷ 0 ∷ 9223372036854775808 ∷ []

are_marks : marks_alone ≡ with_mark (with_mark no_codes 0) 255
are_marks = refl

not_watched : (c : ℕ) → c < 256 → (c ≡ 0 → ⊥) → (c ≡ 255 → ⊥) → marked marks_alone c ≡ false
not_watched c l z e = mark_other (with_mark no_codes 0) 255 c (omega arith) e ∙ mark_other no_codes 0 c (omega arith) z ∙ marks_none.bits c l

-- ---- the walk on top of s, of bytes that hold these items

abbrev Over : Run → Items → Walk → Type 0
Over s (past i) k = (k.end ≡ 4) × (k.place ≡ i)
Over s (listed xs) k =
    (k.end ≡ 0) × (k.run.kept ≡ s.kept) × (k.run.used ≡ s.used + used_by_items xs) × (k.run.count ≡ s.count + length xs)

over_also : (s : Run) (i : ℕ) (x : Rec) (w : Items) (k : Walk) → Over (passed true s x) w k → Over s (also (record { offset = i; item = x }) w) k
unfolding used_by_items
over_also s i x (past j) k e = e
over_also s i x (listed xs) k e = (e.0, e.1, omega (arith, e.2), omega (arith, e.3))

walk_over : (want : ℕ) (p : Parse) → Codes p → (s : Run) → Over s (items_in p) (walk_of marks_alone true true want 0 s p)
unfolding walk_of items_in used_by_items
walk_over want ended c s = (refl, refl, omega arith, omega arith)
walk_over want (ran_out_value i) c s = (refl, refl, omega arith, omega arith)
walk_over want (beyond i) c s = (refl, omega arith)
walk_over want (found i x p) c s =
    rw (not_watched x.tag c.0 c.1 c.2) (over_also s i x (items_in p) (walk_of marks_alone true true want 0 (passed true s x) p) (walk_over want p c.3 (passed true s x)))

-- ---- there are no further fields

step_none : (w : List ℕ) (marks : Bool) (want first : ℕ) (m : List ℕ) (fd : Field) (k : Walk) → active_in k.run.kept.over fd ≡ false → step w marks want first m fd k ≡ k
step_none w marks want first m fd k e = rw e (go (eqb k.end 0))
  where
    go : (b : Bool) → cond b k k ≡ k
    go true = refl
    go false = refl

all_one : (want : ℕ) (m set : List ℕ) → all_walked marks_alone true want 0 m set ≡ walk_of marks_alone true true want 0 (begun set) (parse 0 0 m)
unfolding all_walked walk_field
all_one want m set =
    let k : Walk = walk_of marks_alone true true want 0 (begun set) (parse 0 0 m) in
    let n = walk_no_over marks_alone true true want 0 refl (parse 0 0 m) (begun set) refl in
    ap (step marks_alone true want 0 m sname) (step_none marks_alone true want 0 m file k (ap file_in n)) ∙ step_none marks_alone true want 0 m sname k (ap sname_in n)

-- ---- what is told

told_over : (set : List ℕ) (w : Items) (k : Walk) → Over (begun set) w k → scanned_of true (walked_of k) ≡ told_items w
told_over set (past i) k e = rw (e.0, e.1) refl
told_over set (listed xs) k e =
    let u : k.run.used ≡ used_by_items xs = omega (arith, e.2) in
    let n : k.run.count ≡ length xs = omega (arith, e.3) in
    rw (e.0, e.1, u, n) refl

pub items_told : (want : ℕ) (m : List ℕ) → AllBytes m → (set : List ℕ) (s : Ending) (set' : List ℕ) → Gives marks_alone true want 0 m set s set' → scanned_of true s ≡ told_items (items_in (parse 0 0 m))
items_told want m b set s set' g =
    ap (scanned_of true) (g.is ∙ ap walked_of (all_one want m set))
    ∙ told_over set (items_in (parse 0 0 m)) (walk_of marks_alone true true want 0 (begun set) (parse 0 0 m)) (walk_over want (parse 0 0 m) (parse_codes 0 0 m b) (begun set))

-- ---- and its size

abbrev Fits : List ℕ → ℕ → Items → Type 0
Fits f s (past i) = Unit {0}
Fits f s (listed xs) = (s + used_by_items xs ≤ length f) × (length xs ≤ used_by_items xs)

fits_also : (f : List ℕ) (s i : ℕ) (x : Rec) (w : Items) → Fits f (s + 2 + length x.body) w → Fits f s (also (record { offset = i; item = x }) w)
unfolding used_by_items
fits_also f s i x (past j) e = tt
fits_also f s i x (listed xs) e = (omega (arith, e.0), omega (arith, e.1))

fits_pad : (f : List ℕ) (s : ℕ) (w : Items) → Fits f (s + 1) w → Fits f s w
fits_pad f s (past j) e = tt
fits_pad f s (listed xs) e = (omega (arith, e.0), e.1)

items_fit : (f : List ℕ) {s : ℕ} {p : Parse} → Reads f s p → s ≤ length f → Fits f s (items_in p)
unfolding items_in used_by_items
items_fit f (r_none e) h = (omega arith, omega arith)
items_fit f {s} (r_pad {p = p} x r) h = fits_pad f s (items_in p) (items_fit f r (omega (arith, below f s 0 x.after x.reads)))
items_fit f (r_end x) h = (omega arith, omega arith)
items_fit f (r_beyond x) h = tt
items_fit f {s} (r_option {c = c} {d = d} {p = p} o r) h = fits_also f s s (record { tag = c; body = d }) (items_in p) (items_fit f r (option_in_lem o))

size_is : (xs : List Item) → used_by_items xs + length xs ≡ length (record_bytes (item_records xs))
unfolding used_by_items record_bytes item_records
size_is [] = refl
size_is (x ∷ xs) = omega (arith, size_is xs, length-append x.item.body (record_bytes (item_records xs)))

-- ---- FOR `scan`: a message, or bytes that are none's

pub judged_fit : (bare : Bool) (n : ℕ) → n ≡ 0 → cond bare 0 n ≡ 0
judged_fit true n e = refl
judged_fit false n e = e

pub not_judged : (bare : Bool) (n : ℕ) → bare ≡ true → cond bare 0 n ≡ 0
not_judged bare n e = rw e refl

abbrev pub watched_by : ℕ → List ℕ
watched_by low = low ∷ 0 ∷ 0 ∷ 9223372036854775808 ∷ []

module _ (marks : Bool) (want : ℕ) (m set : List ℕ) where
  -- a message whose length or cookie is refused
  pub tells_unfit : (bare : Bool) → bare ≡ false → (r : Refusal) → number_of r.rule ≡ unfit_of m → r.place ≡ cond (eqb (unfit_of m) 3) 236 (length m) → Tells bare marks want m set (refused_at (number_of r.rule) r.place) set
  tells_unfit true o r e q = clash (cc)
  tells_unfit false o r e q =
      let z : unfit_of m ≡ 0 → ⊥ = λ u. has_number r.rule (e ∙ u) in
      scans_refused marks want m set (number_of r.rule) r.place (rw (q, e) (read_unfit m z)) (refused_at (number_of r.rule) r.place) refl

  pub tells_short : (bare : Bool) → Bare bare marks want m → cond bare 0 (unfit_of m) ≡ 0 → (first : ℕ) → first ≡ cond bare 0 240 → length m ≡ first
      → (r : Scan) → r ≡ refused_at 5 first → Tells bare marks want m set r set
  tells_short true y u first e l r o = absurd (omega (arith, (y refl).0))
  tells_short false y u first e l r o = scans_refused marks want m set 5 240 (read_bare m u (l ∙ e)) r (o ∙ ap (refused_at 5) e)

  pub walkable : (bare : Bool) → Bare bare marks want m → cond bare 0 (unfit_of m) ≡ 0 → (low first : ℕ) → low ≡ low_watched bare → first ≡ cond bare 0 240
      → (length m ≡ first → ⊥) → want < 256
      → (first < length m) × (marked (with_mark (watched_by low) want) 0 ≡ true) × (marked (with_mark (watched_by low) want) 255 ≡ true) × Laid (with_mark (watched_by low) want) first m
  walkable true y u low first a e l b = let z = y refl in rw (a, e, z.1) (z.0, refl, refl, in_none refl refl)
  walkable false y u low first a e l b =
      let f = fit_length m u in
      rw a (omega (arith, f.0), still want b 0 refl, still want b 255 refl, in_message e f.1)

  pub tells_walked : (bare : Bool) → Bare bare marks want m → AllBytes m → cond bare 0 (unfit_of m) ≡ 0 → (low first : ℕ) → low ≡ low_watched bare → first ≡ cond bare 0 240 → want < 256
      → (s : Ending) (set' : List ℕ) → Gives (with_mark (watched_by low) want) marks want first m set s set' → (r : Scan) → r ≡ scanned_of marks s → Tells bare marks want m set r set'
  tells_walked true y b u low first a e l s set' g r q =
      let z = y refl in
      let h : Gives marks_alone true 0 0 m set s set' = rw (a, e, z.1, z.2) at g in
      q ∙ ap (λ (x : Bool). scanned_of x s) z.2 ∙ items_told 0 m b set s set' h
  tells_walked false y b u low first a e l s set' g r q =
      scans_walked marks want m set (with_mark always want) (watching want l) b u s set' (rw (a, e) at g) r q

-- ---- FOR `items`

pub told_small : (f : List ℕ) (s : Scan) → s ≡ told_items (items_in (parse 0 0 f)) → (s.used ≤ length f) × (s.count ≤ length f)
told_small f s e = go (items_in (parse 0 0 f)) (items_fit f (reads f) (omega arith)) e
  where
    go : (w : Items) → Fits f 0 w → s ≡ told_items w → (s.used ≤ length f) × (s.count ≤ length f)
    go (past i) h q = (omega (arith, ap (λ (x : Scan). x.used) q), omega (arith, ap (λ (x : Scan). x.count) q))
    go (listed xs) h q = (omega (arith, h.0, ap (λ (x : Scan). x.used) q), omega (arith, h.0, h.1, ap (λ (x : Scan). x.count) q))

pub measured : (w : Items) (s : Scan) → s ≡ told_items w → record { past = not (eqb s.number 0); place = s.place; size = s.used + s.count } ≡ measure_of w
measured (past i) s e = rw e refl
measured (listed xs) s e = rw (e, size_is xs) refl

pub no_items : (f : List ℕ) → length f ≡ 0 → record { past = false; place = 0; size = 0 } ≡ measure_of (items_in (parse 0 0 f))
unfolding parse items_in record_bytes item_records
no_items [] e = refl
no_items (x ∷ xs) e = absurd (omega arith)
