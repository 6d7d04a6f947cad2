-- The pieces of a record: what they are, that no others are, and that they join again. Assumes nothing.
use mathlib.Core.Path.{◌≡◌, refl, sym, ap, ap₂, ◌∙◌, subst}
use mathlib.Core.List.{List, [], ◌∷◌, ◌++◌, append-nil}
use mathlib.Core.Bool.{Bool, true, false, cond}
use mathlib.Core.Logic.{◌⊎◌, inl, inr}
use Prim.Native.Nat.{ℕ, zero, suc, ◌+◌, ◌-◌, ◌*◌, ◌/◌, ◌≤◌, ◌<◌}
use native.Mathlib.Omega.{arith}
use lib.ListN.{length, take, drop, length-append, length-drop, take-append-drop}
use lib.Seq.{take_at, drop_at, length-take-le}
use lib.Dec.{ltb}
use borrow.Author.Tests.{ltb-true, ltb-false, lt-ltb, le-ltb}
use Rattle.options.specs.Message.{Rec}
use Rattle.options.specs.Writing.{split_up, split, split_all, option_bytes}
use Rattle.options.specs.WriterClaims.{Has, all_data, PiecesOfRecord, PiecesOfRecords, no_record, one_more, SplitRight}
use Rattle.theorems.proofs.View.{clash}
use Rattle.writing_theorems.proofs.SheetView.{rec}
use Rattle.writing_theorems.proofs.Written.{AllPlain}

-- ---- one record

one_piece : (c : ℕ) (d : List ℕ) → length d ≤ 255 → PiecesOfRecord (rec c d) (rec c d ∷ [])
one_piece c d h =
    record { full = []; last = rec c d; are = refl; same_tag = λ q z. tag q z; in_order = append-nil d; of_255 = λ q z. absurd z; last_to_255 = h; last_from_1 = inl refl }
  where
    tag : (q : Rec) → Has q (rec c d ∷ []) → q.tag ≡ c
    tag q (inl e) = ap (λ (x : Rec). x.tag) e
    tag q (inr e) = absurd e

-- a last piece alone has all data
alone : (ps full : List Rec) (last : Rec) → ps ≡ full ++ (last ∷ []) → full ≡ [] → all_data ps ≡ last.body
alone ps full last e z = ap all_data (e ∙ ap (λ (l : List Rec). l ++ (last ∷ [])) z) ∙ append-nil last.body

split_pieces : (most c : ℕ) (d : List ℕ) → length d ≤ most + 255 → PiecesOfRecord (rec c d) (split_up most c d)
unfolding split_up
split_pieces zero c d h = one_piece c d (omega arith)
split_pieces (suc k) c d h = go (ltb 255 (length d)) refl (split_pieces k c (drop 255 d) (omega (arith, length-drop 255 d)))
  where
    go : (b : Bool) → ltb 255 (length d) ≡ b → PiecesOfRecord (rec c (drop 255 d)) (split_up k c (drop 255 d))
        → PiecesOfRecord (rec c d) (cond b (rec c (take 255 d) ∷ split_up k c (drop 255 d)) (rec c d ∷ []))
    go true e x =
        record {
          full = rec c (take 255 d) ∷ x.full;
          last = x.last;
          are = ap (λ (l : List Rec). rec c (take 255 d) ∷ l) x.are;
          same_tag = λ q z. tag q z;
          in_order = ap (λ (l : List ℕ). take 255 d ++ l) x.in_order ∙ take-append-drop 255 d;
          of_255 = λ q z. size q z;
          last_to_255 = x.last_to_255;
          last_from_1 = inr (some x.last_from_1);
        }
      where
        tag : (q : Rec) → Has q (rec c (take 255 d) ∷ split_up k c (drop 255 d)) → q.tag ≡ c
        tag q (inl z) = ap (λ (y : Rec). y.tag) z
        tag q (inr z) = x.same_tag q z

        size : (q : Rec) → Has q (rec c (take 255 d) ∷ x.full) → length q.body ≡ 255
        size q (inl z) = ap (λ (y : Rec). length y.body) z ∙ length-take-le 255 d (omega (arith, ltb-true 255 (length d) e))
        size q (inr z) = x.of_255 q z

        some : (x.full ≡ []) ⊎ (1 ≤ length x.last.body) → 1 ≤ length x.last.body
        some (inl z) =
            let n : length (drop 255 d) ≡ length x.last.body = ap length (sym x.in_order ∙ alone _ x.full x.last x.are z) in
            omega (arith, n, length-drop 255 d, ltb-true 255 (length d) e)
        some (inr z) = z
    go false e x = one_piece c d (ltb-false 255 (length d) e)

-- no other list is
split_short : (most c : ℕ) (d : List ℕ) → length d ≤ 255 → split_up most c d ≡ rec c d ∷ []
unfolding split_up
split_short zero c d h = refl
split_short (suc k) c d h = rw (le-ltb 255 (length d) h)

last_in : (full : List Rec) (last : Rec) → length last.body ≤ length (all_data (full ++ (last ∷ [])))
last_in [] last = omega (arith, length-append last.body [])
last_in (q ∷ full) last = omega (arith, last_in full last, length-append q.body (all_data (full ++ (last ∷ []))))

split_more : (k c : ℕ) (d : List ℕ) (q : Rec) (ps : List Rec) → q.tag ≡ c → length q.body ≡ 255 → q.body ++ all_data ps ≡ d → 1 ≤ length (all_data ps)
    → ps ≡ split_up k c (drop 255 d) → q ∷ ps ≡ split_up (suc k) c d
unfolding split_up
split_more k c d q ps t n e l ih =
    let long : 255 < length d = let z : length (q.body ++ all_data ps) ≡ length d = ap length e in omega (arith, length-append q.body (all_data ps)) in
    let front : q.body ≡ take 255 d = sym (take_at q.body (all_data ps) 255 n) ∙ ap (take 255) e in
    rw (lt-ltb 255 (length d) long) (ap₂ (λ (x : Rec) (l : List Rec). x ∷ l) (ap₂ rec t front) ih)

split_only : (most c : ℕ) (d : List ℕ) (full : List Rec) (last : Rec) → length d ≤ most + 255 → ((q : Rec) → Has q (full ++ (last ∷ [])) → q.tag ≡ c)
    → all_data (full ++ (last ∷ [])) ≡ d → ((q : Rec) → Has q full → length q.body ≡ 255) → length last.body ≤ 255 → (full ≡ []) ⊎ (1 ≤ length last.body)
    → full ++ (last ∷ []) ≡ split_up most c d
split_only most c d [] last h tags e of l f =
    let body : last.body ≡ d = sym (append-nil last.body) ∙ e in
    let short : length d ≤ 255 = let z : length last.body ≡ length d = ap length body in omega arith in
    ap (λ (x : Rec). x ∷ []) (ap₂ rec (tags last (inl refl)) body) ∙ sym (split_short most c d short)
split_only most c d (q ∷ full) last h tags e of l (inl z) = clash (cc)
split_only zero c d (q ∷ full) last h tags e of l (inr z) =
    let n : length (q.body ++ all_data (full ++ (last ∷ []))) ≡ length d = ap length e in
    absurd (omega (arith, of q (inl refl), last_in full last, length-append q.body (all_data (full ++ (last ∷ [])))))
split_only (suc k) c d (q ∷ full) last h tags e of l (inr z) =
    split_more k c d q (full ++ (last ∷ [])) (tags q (inl refl)) (of q (inl refl)) e (omega (arith, last_in full last))
    (split_only k c (drop 255 d) full last (omega (arith, length-drop 255 d)) (λ x y. tags x (inr y))
    (sym (drop_at q.body (all_data (full ++ (last ∷ []))) 255 (of q (inl refl))) ∙ ap (drop 255) e) (λ x y. of x (inr y)) l (inr z))

record_only : (r : Rec) (ps : List Rec) → PiecesOfRecord r ps → ps ≡ split_up (length r.body) r.tag r.body
record_only r ps x =
    x.are
    ∙ split_only (length r.body) r.tag r.body x.full x.last (omega arith) (λ q z. x.same_tag q (subst (Has q) (sym x.are) z)) (ap all_data (sym x.are) ∙ x.in_order)
    x.of_255 x.last_to_255 x.last_from_1

-- ---- piece by piece: the laws that code needs

-- how many pieces are allowed for does not matter, if they are enough
pub split_same : (k c : ℕ) (d : List ℕ) → length d ≤ k + 255 → split_up k c d ≡ split (rec c d)
split_same k c d h = record_only (rec c d) (split_up k c d) (split_pieces k c d h)

pub next_piece : (c : ℕ) (d : List ℕ) → 255 < length d → split (rec c d) ≡ rec c (take 255 d) ∷ split (rec c (drop 255 d))
unfolding split_up
next_piece c d h =
    sym (split_same (suc (length (drop 255 d))) c d (omega (arith, length-drop 255 d)))
    ∙ rw (lt-ltb 255 (length d) h)

pub last_piece : (c : ℕ) (d : List ℕ) → length d ≤ 255 → split (rec c d) ≡ rec c d ∷ []
last_piece c d h = split_short (length d) c d h

-- the room that they take
pub split_size : (k c : ℕ) (d : List ℕ) → length (option_bytes (split_up k c d)) ≡ length d + 2 * length (split_up k c d)
unfolding split_up option_bytes
split_size zero c d = omega (arith, length-append d [])
split_size (suc k) c d = go (ltb 255 (length d)) (split_size k c (drop 255 d))
  where
    go : (b : Bool) → length (option_bytes (split_up k c (drop 255 d))) ≡ length (drop 255 d) + 2 * length (split_up k c (drop 255 d))
        → length (option_bytes (cond b (rec c (take 255 d) ∷ split_up k c (drop 255 d)) (rec c d ∷ []))) ≡ length d + 2 * length (cond b (rec c (take 255 d) ∷ split_up k c (drop 255 d)) (rec c d ∷ []))
    go true ih =
        omega (arith, ih, length-append (take 255 d) (option_bytes (split_up k c (drop 255 d))), length-append (take 255 d) (drop 255 d), ap length (take-append-drop 255 d))
    go false ih = omega (arith, length-append d [])

pub split_count : (k c : ℕ) (d : List ℕ) → length d ≤ k + 255 → length (split_up k c d) ≡ 1 + (length d - 1) / 255
unfolding split_up
split_count zero c d h = omega arith
split_count (suc k) c d h = go (ltb 255 (length d)) refl (split_count k c (drop 255 d) (omega (arith, length-drop 255 d)))
  where
    go : (b : Bool) → ltb 255 (length d) ≡ b → length (split_up k c (drop 255 d)) ≡ 1 + (length (drop 255 d) - 1) / 255
        → length (cond b (rec c (take 255 d) ∷ split_up k c (drop 255 d)) (rec c d ∷ [])) ≡ 1 + (length d - 1) / 255
    go true e ih = omega (arith, ih, length-drop 255 d, ltb-true 255 (length d) e)
    go false e ih = omega (arith, ltb-false 255 (length d) e)

-- ---- all records

pub all_split : (rs : List Rec) → PiecesOfRecords rs (split_all rs)
unfolding split_all
all_split [] = no_record
all_split (r ∷ rs) = one_more (split_pieces (length r.body) r.tag r.body (omega arith)) (all_split rs)

pub only_split : {rs ps : List Rec} → PiecesOfRecords rs ps → ps ≡ split_all rs
unfolding split_all
only_split no_record = refl
only_split (one_more {r = r} {rs = rs} {ps = ps} {qs = qs} x y) = ap₂ (λ (a b : List Rec). a ++ b) (record_only r ps x) (only_split y)

pub split_right : SplitRight
split_right rs ps = (λ x. only_split x, λ e. subst (PiecesOfRecords rs) (sym e) (all_split rs))

plain_append : (xs ys : List Rec) → AllPlain xs → AllPlain ys → AllPlain (xs ++ ys)
plain_append [] ys a b = b
plain_append (x ∷ xs) ys a b = (a.0, plain_append xs ys a.1 b)

split_plain : (k c : ℕ) (d : List ℕ) → AllPlain (rec c d ∷ []) → AllPlain (split_up k c d)
unfolding split_up
split_plain zero c d p = p
split_plain (suc k) c d p = go (ltb 255 (length d)) (split_plain k c (drop 255 d) (record { no_pad = p.0.no_pad; no_end = p.0.no_end; no_52 = p.0.no_52 }, tt))
  where
    go : (b : Bool) → AllPlain (split_up k c (drop 255 d)) → AllPlain (cond b (rec c (take 255 d) ∷ split_up k c (drop 255 d)) (rec c d ∷ []))
    go true ih = (record { no_pad = p.0.no_pad; no_end = p.0.no_end; no_52 = p.0.no_52 }, ih)
    go false ih = p

pub all_plain : (rs : List Rec) → AllPlain rs → AllPlain (split_all rs)
unfolding split_all
all_plain [] p = tt
all_plain (r ∷ rs) p = plain_append (split_up (length r.body) r.tag r.body) (split_all rs) (split_plain (length r.body) r.tag r.body (p.0, tt)) (all_plain rs p.1)
