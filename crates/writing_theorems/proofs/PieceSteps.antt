-- The pieces of a sheet by places: the next one, the last of its record, and the bytes of all. What code that writes a sheet needs. Assumes nothing.
use mathlib.Core.Path.{◌≡◌, refl, sym, ap, ap₂, ◌∙◌, subst}
use mathlib.Core.List.{List, [], ◌∷◌, ◌++◌}
use mathlib.Core.Bool.{Bool, true, false, cond}
use Prim.Native.Nat.{ℕ, ◌+◌, ◌-◌, ◌*◌, ◌/◌, ◌≤◌, ◌<◌}
use native.Mathlib.Omega.{arith}
use lib.ListN.{length, get_or, take, drop, length-append, length-drop}
use lib.Seq.{drop_at, drop-drop, take-add, take-take, length-take-le}
use lib.Dec.{ltb}
use borrow.Author.Tests.{ltb-true, ltb-false}
use Rattle.options.specs.Message.{Rec}
use Rattle.options.specs.Answers.{record_bytes}
use Rattle.options.specs.SheetWalk.{records_left, Whole}
use Rattle.options.specs.Writing.{split, split_all, pieces_after, pieces_left, Inside, Between, piece_size, option_bytes}
use Rattle.writing_theorems.proofs.SheetView.{rec}
use Rattle.writing_theorems.proofs.Splitting.{next_piece, last_piece, split_size, split_count}
use Rattle.writing_theorems.proofs.SheetSteps.{size_at, record_here, none_left, bytes_more, Next, next_left}

-- ---- What is left at a place

pub no_pieces_left : (s : List ℕ) (at done : ℕ) → length s ≤ at → pieces_left s at done ≡ []
unfolding pieces_left
no_pieces_left s at done h = ap (pieces_after done) (none_left s at h)

-- at the first byte of a record, the pieces of all records from there on
pub pieces_at_record : (s : List ℕ) (at : ℕ) → pieces_left s at 0 ≡ split_all (records_left s at)
unfolding pieces_left split_all
pieces_at_record s at = go (records_left s at)
  where
    go : (rs : List Rec) → pieces_after 0 rs ≡ split_all rs
    go [] = refl
    go (r ∷ rs) = refl

pub between_records : (s : List ℕ) (at : ℕ) → Whole s at → Between s at 0
between_records s at w = record { whole = w; inside = go (records_left s at) }
  where
    go : (rs : List Rec) → Inside 0 rs
    go [] = refl
    go (r ∷ rs) = omega arith

drop_take : (i n : ℕ) (xs : List ℕ) → i ≤ length xs → drop i (take (i + n) xs) ≡ take n (drop i xs)
drop_take i n xs h = ap (drop i) (take-add i n xs) ∙ drop_at (take i xs) (take n (drop i xs)) i (length-take-le i xs h)

-- the data of the record at a place that are left after `done` bytes
abbrev pub data_left : List ℕ → ℕ → ℕ → List ℕ
data_left s at done = take (size_at s at - done) (drop (at + 3 + done) s)

module _ (s : List ℕ) (at done : ℕ) (b : Between s at done) (l : at < length s) where
  next : Next s at
  next = next_left s at b.whole l

  pub done_within : done ≤ size_at s at
  done_within = let d : Inside done (record_here s at ∷ records_left s (at + 3 + size_at s at)) = subst (Inside done) next.first b.inside in omega (arith, d, next.body_long)

  pub left_long : length (data_left s at done) ≡ size_at s at - done
  left_long = length-take-le (size_at s at - done) (drop (at + 3 + done) s) (omega (arith, length-drop (at + 3 + done) s, next.within, done_within))

  body_left : drop done (record_here s at).body ≡ data_left s at done
  body_left =
      let n : size_at s at ≡ done + (size_at s at - done) = omega (arith, done_within) in
      ap (λ (k : ℕ). drop done (take k (drop (at + 3) s))) n
      ∙ drop_take done (size_at s at - done) (drop (at + 3) s) (omega (arith, length-drop (at + 3) s, next.within, done_within))
      ∙ ap (take (size_at s at - done)) (drop-drop done (at + 3) s)

  -- the pieces of the data left, then those of the records behind
  pub pieces_here : pieces_left s at done ≡ split (rec (get_or s at 0) (data_left s at done)) ++ split_all (records_left s (at + 3 + size_at s at))
  unfolding pieces_left
  pieces_here =
      ap (pieces_after done) next.first
      ∙ ap (λ (x : List ℕ). split (rec (get_or s at 0) x) ++ split_all (records_left s (at + 3 + size_at s at))) body_left

-- ---- The next piece, with n bytes of data; behind it the place is to, with `then` bytes done

pub record Piece (s : List ℕ) (at done n to then : ℕ) : Type 0 where
  pub here : Rec
  pub first : pieces_left s at done ≡ here ∷ pieces_left s to then
  pub between : Between s to then
  pub sized : length here.body ≡ n
  pub most : n ≤ 255
  pub within : at + 3 + done + n ≤ length s
  pub further : at + done < to + then
  -- its tag and its data, where they stand
  pub tag_is : get_or s at 0 ≡ here.tag
  pub body_is : take n (drop (at + 3 + done) s) ≡ here.body

-- the last of its record
pub last_of_record : (s : List ℕ) (at done : ℕ) → Between s at done → at < length s → size_at s at ≤ done + 255
    → Piece s at done (size_at s at - done) (at + 3 + size_at s at) 0
last_of_record s at done b l h =
    record {
      here = rec (get_or s at 0) (data_left s at done);
      first =
          pieces_here s at done b l
          ∙ ap (λ (ps : List Rec). ps ++ split_all (records_left s to)) (last_piece (get_or s at 0) (data_left s at done) (omega (arith, left_long s at done b l)))
          ∙ ap (λ (ps : List Rec). rec (get_or s at 0) (data_left s at done) ∷ ps) (sym (pieces_at_record s to));
      between = between_records s to x.whole;
      sized = left_long s at done b l;
      most = omega arith;
      within = omega (arith, x.within, done_within s at done b l);
      further = omega (arith, done_within s at done b l);
      tag_is = refl;
      body_is = refl;
    }
  where
    x : Next s at
    x = next_left s at b.whole l

    to : ℕ
    to = at + 3 + size_at s at

-- one of 255 bytes, and more of the same record
module _ (s : List ℕ) (at done : ℕ) (b : Between s at done) (l : at < length s) (h : done + 255 < size_at s at) where
  on : Between s at (done + 255)
  on =
      let x : Next s at = next_left s at b.whole l in
      let d : Inside (done + 255) (record_here s at ∷ records_left s (at + 3 + size_at s at)) = omega (arith, x.body_long) in
      record { whole = b.whole; inside = subst (Inside (done + 255)) (sym x.first) d }

  data_next : drop 255 (data_left s at done) ≡ data_left s at (done + 255)
  data_next =
      let n : size_at s at - done ≡ 255 + (size_at s at - (done + 255)) = omega arith in
      let k : at + 3 + done + 255 ≡ at + 3 + (done + 255) = omega arith in
      ap (λ (x : ℕ). drop 255 (take x (drop (at + 3 + done) s))) n
      ∙ drop_take 255 (size_at s at - (done + 255)) (drop (at + 3 + done) s) (omega (arith, length-drop (at + 3 + done) s, (next_left s at b.whole l).within))
      ∙ ap (take (size_at s at - (done + 255))) (drop-drop 255 (at + 3 + done) s ∙ ap (λ (x : ℕ). drop x s) k)

  cut_here : take 255 (data_left s at done) ≡ take 255 (drop (at + 3 + done) s)
  cut_here = take-take 255 (size_at s at - done) (drop (at + 3 + done) s) (omega arith)

  first_255 : pieces_left s at done ≡ rec (get_or s at 0) (take 255 (drop (at + 3 + done) s)) ∷ pieces_left s at (done + 255)
  first_255 =
      let c : ℕ = get_or s at 0 in
      let rest : List Rec = split_all (records_left s (at + 3 + size_at s at)) in
      pieces_here s at done b l
      ∙ ap (λ (ps : List Rec). ps ++ rest) (next_piece c (data_left s at done) (omega (arith, left_long s at done b l)))
      ∙ ap₂ (λ (x y : List ℕ). rec c x ∷ (split (rec c y) ++ rest)) cut_here data_next
      ∙ ap (λ (ps : List Rec). rec c (take 255 (drop (at + 3 + done) s)) ∷ ps) (sym (pieces_here s at (done + 255) on l))

  pub more_of_record : Piece s at done 255 at (done + 255)
  more_of_record =
      let x : Next s at = next_left s at b.whole l in
      record {
        here = rec (get_or s at 0) (take 255 (drop (at + 3 + done) s));
        first = first_255;
        between = on;
        sized = length-take-le 255 (drop (at + 3 + done) s) (omega (arith, length-drop (at + 3 + done) s, x.within));
        most = omega arith;
        within = omega (arith, x.within);
        further = omega arith;
        tag_is = refl;
        body_is = refl;
      }

-- either of them
pub piece_here : (s : List ℕ) (at done : ℕ) → Between s at done → at < length s
    → Piece s at done (piece_size (size_at s at - done)) (cond (ltb 255 (size_at s at - done)) at (at + 3 + size_at s at)) (cond (ltb 255 (size_at s at - done)) (done + 255) 0)
piece_here s at done b l = go (ltb 255 (size_at s at - done)) refl
  where
    go : (x : Bool) → ltb 255 (size_at s at - done) ≡ x
        → Piece s at done (cond x 255 (size_at s at - done)) (cond x at (at + 3 + size_at s at)) (cond x (done + 255) 0)
    go true e = more_of_record s at done b l (omega (arith, ltb-true 255 (size_at s at - done) e))
    go false e = last_of_record s at done b l (omega (arith, ltb-false 255 (size_at s at - done) e))

-- ---- The bytes that the options take

-- the pieces of a record
pub pieces_more : (r : Rec) (rs : List Rec) → length (split_all (r ∷ rs)) ≡ 1 + (length r.body - 1) / 255 + length (split_all rs)
unfolding split_all
pieces_more r rs = omega (arith, length-append (split r) (split_all rs), split_count (length r.body) r.tag r.body (omega arith))

options_append : (xs ys : List Rec) → length (option_bytes (xs ++ ys)) ≡ length (option_bytes xs) + length (option_bytes ys)
unfolding option_bytes
options_append [] ys = omega arith
options_append (x ∷ xs) ys = omega (arith, options_append xs ys, length-append x.body (option_bytes (xs ++ ys)), length-append x.body (option_bytes xs))

-- its data, and two bytes a piece
pub options_more : (r : Rec) (rs : List Rec)
    → length (option_bytes (split_all (r ∷ rs))) ≡ length r.body + 2 * (1 + (length r.body - 1) / 255) + length (option_bytes (split_all rs))
unfolding split_all
options_more r rs =
    omega (arith, options_append (split r) (split_all rs), split_size (length r.body) r.tag r.body, split_count (length r.body) r.tag r.body (omega arith))

-- of a sheet: a record takes three bytes beside its data, a piece two
pub options_bytes : (rs : List Rec) → length (option_bytes (split_all rs)) + 3 * length rs ≡ length (record_bytes rs) + 2 * length (split_all rs)
unfolding split_all option_bytes record_bytes
options_bytes [] = refl
options_bytes (r ∷ rs) = omega (arith, options_bytes rs, options_more r rs, pieces_more r rs, bytes_more r rs)
