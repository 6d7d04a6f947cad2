-- Pieces counted, one after the other, while a field takes them. Assumes nothing.
use mathlib.Core.Path.{◌≡◌, refl, sym, ap, ap₂, ◌∙◌, subst}
use mathlib.Core.List.{List, ◌∷◌}
use mathlib.Core.Bool.{Bool, true, false, cond}
use Prim.Native.Nat.{ℕ, ◌+◌, ◌-◌, ◌<◌, ◌≤◌}
use native.Mathlib.Omega.{arith}
use lib.ListN.{length, get_or, drop, length-append}
use lib.Dec.{ltb}
use borrow.Author.Tests.{lt-ltb, le-ltb, ltb-true, ltb-false}
use Rattle.options.specs.Message.{Rec}
use Rattle.options.specs.SheetWalk.{records_left}
use Rattle.options.specs.Writing.{size, option_bytes, fits, pieces_left, Between}
use Rattle.writing_theorems.proofs.SheetSteps.{size_at, record_here, Next, next_left, none_left}
use Rattle.writing_theorems.proofs.PieceSteps.{no_pieces_left, Piece, last_of_record, piece_here}
use Rattle.sheet.specs.Judge.{single_to}
use Rattle.plan.specs.Steps.{sizes, left_over, From, Single}
use Rattle.plan.specs.Pieces.{size_of, piece_of}
use Rattle.plan.specs.declared.Piece as code

-- the option of one piece, and those behind it
pub sizes_more : (r : Rec) (rs : List Rec) → sizes (r ∷ rs) ≡ size r + sizes rs
unfolding option_bytes
sizes_more r rs = omega (arith, length-append r.body (option_bytes rs))

-- ---- The next piece

pub of_last : (n done k : ℕ) → n - done ≤ 255 → k ≡ n - done → record { size = k; ahead = 3 + n; done = 0 } ≡ piece_of n done
of_last n done k h e = rw (le-ltb 255 (n - done) h, e)

pub of_more : (n done : ℕ) → 255 < n - done → record { size = 255; ahead = 0; done = done + 255 } ≡ piece_of n done
of_more n done h = rw (lt-ltb 255 (n - done) h)

-- the head of its record is whole
pub head_at : (s : List ℕ) (at done : ℕ) → Between s at done → at < length s → at + 2 < length s
head_at s at done b l = omega (arith, (next_left s at b.whole l).within)

-- as the code has it
pub piece_at : (s : List ℕ) (at done : ℕ) (x : code.Piece) → Between s at done → at < length s → x ≡ piece_of (size_of s at) done
    → Piece s at done x.size (at + x.ahead) x.done
piece_at s at done x b l e = rw e (go (ltb 255 (size_at s at - done)) (piece_here s at done b l))
  where
    go : (u : Bool) → Piece s at done (cond u 255 (size_at s at - done)) (cond u at (at + 3 + size_at s at)) (cond u (done + 255) 0)
        → Piece s at done (cond u 255 (size_at s at - done)) (at + cond u 0 (3 + size_at s at)) (cond u (done + 255) 0)
    go true p = let z : at ≡ at + 0 = omega arith in subst (λ (k : ℕ). Piece s at done 255 k (done + 255)) z p
    go false p = let z : at + 3 + size_at s at ≡ at + (3 + size_at s at) = omega arith in subst (λ (k : ℕ). Piece s at done (size_at s at - done) k 0) z p

-- a whole record, with k bytes of data
pub record Turn (s : List ℕ) (single at done k : ℕ) : Type 0 where
  pub piece : Piece s at done k (at + (k + 2 + 1)) done
  pub within : at + (k + 2 + 1) ≤ length s
  pub none_done : done ≡ 0
  pub singles : Single s single (at + (k + 2 + 1)) done

-- a place before `single` is in the sheet, and its record is one piece
in_sheet : (s : List ℕ) (single at : ℕ) → single ≡ single_to at (records_left s at) → at < single → at < length s
in_sheet s single at e l = go (ltb at (length s)) refl
  where
    go : (b : Bool) → ltb at (length s) ≡ b → at < length s
    go true q = ltb-true at (length s) q
    go false q = let z : single ≡ at = e ∙ ap (single_to at) (none_left s at (ltb-false at (length s) q)) in absurd (omega (arith, z, l))

one_piece : (n single at next : ℕ) → single ≡ cond (ltb 255 n) at next → at < single → (n ≤ 255) × (single ≡ next)
one_piece n single at next e l = go (ltb 255 n) refl e
  where
    go : (b : Bool) → ltb 255 n ≡ b → single ≡ cond b at next → (n ≤ 255) × (single ≡ next)
    go true q z = absurd (omega (arith, z, l))
    go false q z = (ltb-false 255 n q, z)

pub turn : (s : List ℕ) (single at done : ℕ) → Between s at done → Single s single at done → at < single → (k : ℕ) → k ≡ get_or s (at + 2) 0 → Turn s single at done k
turn s single at done b q l k e =
    let p = q l in
    let h : at < length s = in_sheet s single at p.1 l in
    let x : Next s at = next_left s at b.whole h in
    let o = one_piece (length (record_here s at).body) single at _ (p.1 ∙ ap (single_to at) x.first) l in
    let n : size_at s at ≡ k = omega (arith, e, x.body_long, o.0) in
    let d : 0 ≡ done = sym p.0 in
    let j : at + 3 + size_at s at ≡ at + (k + 2 + 1) = omega (arith, n) in
    let u : at + (3 + length (record_here s at).body) ≡ at + (k + 2 + 1) = omega (arith, n, x.body_long) in
    let i : size_at s at - done ≡ k = omega (arith, n, d) in
    let last : Piece s at done (size_at s at - done) (at + 3 + size_at s at) 0 = last_of_record s at done b h (omega (arith, o.0, x.body_long)) in
    let sized : Piece s at done k (at + 3 + size_at s at) 0 = subst (λ (z : ℕ). Piece s at done z (at + 3 + size_at s at) 0) i last in
    let placed : Piece s at done k (at + (k + 2 + 1)) 0 = subst (λ (z : ℕ). Piece s at done k z 0) j sized in
    record {
      piece = subst (λ (z : ℕ). Piece s at done k (at + (k + 2 + 1)) z) d placed;
      within = omega (arith, x.within, n);
      none_done = p.0;
      singles = λ z. (p.0, o.1 ∙ ap₂ (λ (a c : ℕ). single_to a (records_left s c)) u j);
    }

-- ---- One piece more, and none more

over_more : (n : ℕ) (r : Rec) (rs : List Rec) → size r < n → left_over n (r ∷ rs) ≡ left_over (n - size r) rs
unfolding fits
over_more n r rs h = rw (lt-ltb (size r) n h)

pub at_end_lem : (n : ℕ) (s : List ℕ) (at done : ℕ) → length s ≤ at → fits n (pieces_left s at done) ≡ 0
unfolding fits
at_end_lem n s at done h = ap (fits n) (no_pieces_left s at done h)

pub no_room : (n : ℕ) (s : List ℕ) (at done k to then : ℕ) → Piece s at done k to then → n ≤ k + 2 → fits n (pieces_left s at done) ≡ 0
unfolding fits
no_room n s at done k to then x h = ap (fits n) x.first ∙ rw (le-ltb (size x.here) n (omega (arith, x.sized)))

-- ---- The loop: what is left of the sheet, for the bytes that are left of the room, is what the whole room leaves

pub record Counting (room : ℕ) (s : List ℕ) (from inside at done left : ℕ) : Type 0 where
  pub between : Between s at done
  pub onward : from ≤ at
  pub within : left ≤ room
  pub rest : left_over left (pieces_left s at done) ≡ left_over room (pieces_left s from inside)
  pub sum : room - left + sizes (pieces_left s at done) ≡ sizes (pieces_left s from inside)

pub counting_none : (room : ℕ) (s : List ℕ) (from inside : ℕ) → Between s from inside → Counting room s from inside from inside room
counting_none room s from inside w = record { between = w; onward = omega arith; within = omega arith; rest = refl; sum = omega arith }

pub counting_more : (room : ℕ) (s : List ℕ) (from inside at done left k to then : ℕ) → Counting room s from inside at done left → Piece s at done k to then → at ≤ to → k + 2 < left
    → Counting room s from inside to then (left - (k + 2))
counting_more room s from inside at done left k to then f x y h =
    let next : List Rec = pieces_left s to then in
    let z : size x.here ≡ k + 2 = omega (arith, x.sized) in
    let o : left_over left (pieces_left s at done) ≡ left_over (left - (k + 2)) next =
    ap (left_over left) x.first ∙ over_more left x.here next (omega (arith, x.sized)) ∙ ap (λ (j : ℕ). left_over (left - j) next) z in
    let u : sizes (pieces_left s at done) ≡ size x.here + sizes next = ap sizes x.first ∙ sizes_more x.here next in
    record {
      between = x.between;
      onward = omega (arith, f.onward, y);
      within = omega (arith, f.within);
      rest = sym o ∙ f.rest;
      sum = omega (arith, u, x.sized, f.sum, f.within, h);
    }

-- once no more goes in, the place is that of the pieces left over
pub counted : (room : ℕ) (s : List ℕ) (from inside at done left : ℕ) → Counting room s from inside at done left → fits left (pieces_left s at done) ≡ 0
    → From s (left_over room (pieces_left s from inside)) at done
counted room s from inside at done left f z = record { pieces = ap (λ (k : ℕ). drop k (pieces_left s at done)) (sym z) ∙ f.rest; between = f.between }

-- ---- Where the sheet begins

-- as the verdict on it says
pub begins_single : (s : List ℕ) (k : ℕ) → k ≡ single_to 0 (records_left s 0) → Single s k 0 0
begins_single s k e z = (refl, e)
