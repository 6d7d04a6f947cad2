-- A file of captures, record by record; and that the definition is the one reading of it. Assumes nothing.
use mathlib.Core.Path.{◌≡◌, refl, sym, ap, ap₂, ◌∙◌, subst}
use mathlib.Core.List.{List, [], ◌∷◌, ◌++◌}
use mathlib.Core.Bool.{Bool, true, false, cond}
use mathlib.Core.Logic.{◌⊎◌, inl, inr}
use Prim.Native.Nat.{ℕ, suc, ◌+◌, ◌*◌, ◌≤◌, ◌<◌}
use native.Mathlib.Omega.{arith}
use lib.ListN.{length, drop, take, length-append, length-drop}
use lib.Seq.{take_at}
use lib.Dec.{eqb, ltb}
use borrow.Author.Tests.{eqb-true, eqb-false, ltb-true, ltb-false}
use Rattle.options.specs.KindClaims.{AllBytes}
use Rattle.options.specs.Sheet.{RecordAt}
use Rattle.options.specs.SheetRefusals.{RecordBeyond}
use Rattle.options.specs.SheetWalk.{Walk}
use Rattle.options.specs.Captures.{most_messages, Ending, at_end, stopped_at, Capture, no_more, with_message, captured, capture_of}
use Rattle.options.specs.CaptureClaims.{MessagesFrom, ends, stops, goes_on, CaptureIsCorrect}
use Rattle.writing_theorems.proofs.SheetView.{head, tail, Lies, lies_at, Reads, r_none, r_cut, r_record, reads}

-- why a record is refused, after n messages
pub data Stops (f : List ℕ) (i n : ℕ) : Type 0 where
  other_tag : {c : ℕ} {d : List ℕ} → Lies f i c d → (c ≡ 1 → ⊥) → Stops f i n
  too_many : {d : List ℕ} → Lies f i 1 d → most_messages ≤ n → Stops f i n
  cut_short : RecordBeyond f i → Stops f i n

-- what is captured from the record at i on, after n messages
pub data Captures (f : List ℕ) : ℕ → ℕ → Capture → Type 0 where
  is_end : {i n : ℕ} → drop i f ≡ [] → Captures f i n (no_more at_end)
  is_stop : {i n : ℕ} → Stops f i n → Captures f i n (no_more (stopped_at i))
  is_more : {i n : ℕ} {m : List ℕ} {w : Capture} → n < most_messages → Lies f i 1 m → Captures f (i + 3 + length m) (suc n) w → Captures f i n (with_message m w)

captures_from : (f : List ℕ) {i : ℕ} {w : Walk} → Reads f i w → (n : ℕ) → Captures f i n (captured n w)
unfolding captured
captures_from f (r_none e) n = is_end e
captures_from f (r_cut x) n = is_stop (cut_short x)
captures_from f {i} (r_record {c = c} {d = d} {w = w} o r) n = go (eqb c 1) (ltb n most_messages) refl refl (captures_from f r (suc n))
  where
    go : (a b : Bool) → eqb c 1 ≡ a → ltb n most_messages ≡ b → Captures f (i + 3 + length d) (suc n) (captured (suc n) w)
        → Captures f i n (cond a (cond b (with_message d (captured (suc n) w)) (no_more (stopped_at i))) (no_more (stopped_at i)))
    go true true p q x = is_more (ltb-true n most_messages q) (subst (λ (z : ℕ). Lies f i z d) (eqb-true c 1 p) o) x
    go true false p q x = is_stop (too_many (subst (λ (z : ℕ). Lies f i z d) (eqb-true c 1 p) o) (ltb-false n most_messages q))
    go false b p q x = is_stop (other_tag o (eqb-false c 1 p))

pub captures : (f : List ℕ) → Captures f 0 0 (capture_of f)
unfolding capture_of
captures f = captures_from f (reads f) 0

-- ---- The relation

-- a record's first byte is in the file, and its last
pub lies_within : {f : List ℕ} {i c : ℕ} {d : List ℕ} → Lies f i c d → i + 3 + length d ≤ length f
lies_within {f} {i} {c} {d} o =
    let z : length (drop i f) ≡ 3 + (length d + length o.after) = ap length o.reads ∙ (let y = length-append d o.after in omega arith) in
    omega (arith, z, length-drop i f)

at_lies : {f : List ℕ} {i c : ℕ} {d : List ℕ} → RecordAt f i c d → Lies f i c d
at_lies r = record { high = r.high; low = r.low; after = r.after; reads = r.reads; size = r.size }

-- two records at one place are one
same_record : {f : List ℕ} {i c e : ℕ} {d b : List ℕ} → Lies f i c d → Lies f i e b → (c ≡ e) × (d ≡ b)
same_record {d = d} {b = b} o q =
    let z = sym o.reads ∙ q.reads in
    let h : o.high ≡ q.high = head (tail z) in
    let l : o.low ≡ q.low = head (tail (tail z)) in
    let n : length d ≡ length b = omega (arith, o.size, q.size) in
    let x : d ++ o.after ≡ b ++ q.after = tail (tail (tail z)) in
    (head z, sym (take_at d o.after (length d) refl) ∙ ap₂ (λ (k : ℕ) (y : List ℕ). take k y) n x ∙ take_at b q.after (length b) refl)

beyond_byte : {f : List ℕ} {i : ℕ} → RecordBeyond f i → i < length f
beyond_byte {f} {i} x = let z : length (drop i f) ≡ suc (length x.after) = ap length x.reads in omega (arith, z, length-drop i f)

-- a cut record is none
not_cut : {f : List ℕ} {i c : ℕ} {d : List ℕ} → RecordBeyond f i → Lies f i c d → ⊥
not_cut {d = d} x o = by x.beyond
  where
    rest : x.after ≡ o.high ∷ o.low ∷ (d ++ o.after)
    rest = tail (sym x.reads ∙ o.reads)

    by : (length x.after < 2) ⊎ ((h l : ℕ) × (r : List ℕ) × (x.after ≡ h ∷ l ∷ r) × (length r < 256 * h + l)) → ⊥
    by (inl h) = let z = ap length rest in omega (arith, z, h)
    by (inr z) =
        let y = sym z.3 ∙ rest in
        let h : z.0 ≡ o.high = head y in
        let l : z.1 ≡ o.low = head (tail y) in
        let n : length z.2 ≡ length (d ++ o.after) = ap length (tail (tail y)) in
        omega (arith, h, l, n, z.4, o.size, length-append d o.after)

stop_byte : {f : List ℕ} {i n : ℕ} → Stops f i n → i < length f
stop_byte (other_tag o h) = omega (arith, lies_within o)
stop_byte (too_many o h) = omega (arith, lies_within o)
stop_byte (cut_short x) = beyond_byte x

stop_why : {f : List ℕ} {i n : ℕ} → Stops f i n → ((m : List ℕ) → RecordAt f i 1 m → ⊥) ⊎ (1000000 ≤ n)
stop_why (other_tag o h) = inl (λ m r. h (same_record o (at_lies r)).0)
stop_why (too_many o h) = inr h
stop_why (cut_short x) = inl (λ m r. not_cut x (at_lies r))

to_relation : (f : List ℕ) → AllBytes f → {i n : ℕ} {w : Capture} → Captures f i n w → i ≤ length f → MessagesFrom f i n w.messages w.ending
to_relation f b {i} (is_end e) h = ends {i = i} (let z : length (drop i f) ≡ 0 = ap length e in omega (arith, z, length-drop i f))
to_relation f b {i} (is_stop s) h = stops {i = i} (stop_byte s) (stop_why s)
to_relation f b {i} {n} (is_more {m = m} {w = w} a o s) h =
    let z : suc n ≡ n + 1 = omega arith in
    goes_on a (lies_at b o) (subst (λ (k : ℕ). MessagesFrom f (i + 3 + length m) k w.messages w.ending) z (to_relation f b s (lies_within o)))

-- no other
record_byte : {f : List ℕ} {i : ℕ} {m : List ℕ} → RecordAt f i 1 m → i < length f
record_byte r = omega (arith, lies_within (at_lies r))

pub one_reading : (f : List ℕ) {i n : ℕ} {ms ms' : List (List ℕ)} {e e' : Ending} → MessagesFrom f i n ms e → MessagesFrom f i n ms' e' → (ms ≡ ms') × (e ≡ e')
one_reading f (ends a) (ends b) = (refl, refl)
one_reading f (ends a) (stops b c) = absurd (omega arith)
one_reading f (ends a) (goes_on b r c) = absurd (omega (arith, record_byte r))
one_reading f (stops a c) (ends b) = absurd (omega arith)
one_reading f (stops a c) (stops b d) = (refl, refl)
one_reading f (stops a (inl c)) (goes_on b r d) = absurd (c _ r)
one_reading f (stops a (inr c)) (goes_on b r d) = absurd (omega arith)
one_reading f (goes_on b r c) (ends a) = absurd (omega (arith, record_byte r))
one_reading f (goes_on b r d) (stops a (inl c)) = absurd (c _ r)
one_reading f (goes_on b r d) (stops a (inr c)) = absurd (omega arith)
one_reading f {i} {n} (goes_on {m = m} {ms = ms} {e = e} b r d) (goes_on {m = m'} b' r' d') =
    let q : m ≡ m' = (same_record (at_lies r) (at_lies r')).1 in
    let z = one_reading f (subst (λ (x : List ℕ). MessagesFrom f (i + 3 + length x) (n + 1) ms e) q d) d' in
    (ap₂ (λ (x : List ℕ) (xs : List (List ℕ)). x ∷ xs) q z.0, z.1)

pub file_is : (f : List ℕ) → AllBytes f → MessagesFrom f 0 0 (capture_of f).messages (capture_of f).ending
file_is f b = to_relation f b (captures f) (omega arith)

same_capture : (v w : Capture) → v.messages ≡ w.messages → v.ending ≡ w.ending → v ≡ w
same_capture v w p q = ap₂ (λ (ms : List (List ℕ)) (e : Ending). record { messages = ms; ending = e }) p q

pub capture_is_correct : CaptureIsCorrect
capture_is_correct f w b = (
  (λ e. subst (λ (x : Capture). MessagesFrom f 0 0 x.messages x.ending) e (file_is f b)),
  (λ r. let z = one_reading f (file_is f b) r in same_capture (capture_of f) w z.0 z.1),
)
