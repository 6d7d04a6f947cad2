-- A field's filling, piece by piece. Assumes nothing.
use mathlib.Core.Path.{◌≡◌, refl, sym, ap, ap₂, subst, ◌∙◌}
use mathlib.Core.List.{List, [], ◌∷◌, ◌++◌, append_assoc}
use Prim.Native.Nat.{ℕ, zero, suc, ◌+◌, ◌-◌, ◌*◌, ◌/◌, ◌<◌, ◌≤◌}
use native.Mathlib.Omega.{arith}
use lib.ListN.{length, get_or, take, drop, length-drop, length-append, replicate}
use lib.Seq.{length-take-le, take_at}
use mathlib.Core.Bool.{Bool, true, false, cond}
use lib.Dec.{ltb}
use borrow.Rule.Slice.PartMut.{put_mid, mid_of, same_len_mid}
use borrow.Author.Tests.{lt-ltb, ltb-true, ltb-false, ne_eqb}
use Rattle.options.specs.Message.{Rec}
use Rattle.options.specs.SheetWalk.{AllShort, records_left}
use Rattle.options.specs.Writing.{size, option_bytes, fits, field_bytes_value, pieces_left, Inside, Between}
use Rattle.writing_theorems.proofs.PieceSteps.{Piece}
use Rattle.buffer.proofs.Copied.{mid_rest, put_rest}
use Rattle.field_writer.specs.Room.{with_option, end_and_zeros}
use Rattle.field_writer.proofs.Bytes.{with_option_lem}
use Rattle.plan.specs.Steps.{Single}
use Rattle.plan.specs.Pieces.{piece_of}
use Rattle.plan.specs.declared.Piece as code
use Rattle.plan.proofs.Counting.{Counting, counting_none, counting_more}
use Rattle.writer.specs.Fill.{filled, place_in, done_in}

abbrev pub option : Rec → List ℕ
option r = r.tag ∷ length r.body ∷ r.body

-- ---- One record more

field_more : (n : ℕ) (r : Rec) (rs : List Rec) → field_bytes_value n (r ∷ rs) ≡ option r ++ field_bytes_value (n - size r) rs
unfolding field_bytes_value option_bytes
field_more n r rs =
    let k : n - suc (length (option r ++ option_bytes rs)) ≡ n - size r - suc (length (option_bytes rs)) = omega (arith, length-append r.body (option_bytes rs)) in
    append_assoc (option r) (option_bytes rs) _ ∙ ap (λ (x : ℕ). option r ++ (option_bytes rs ++ 255 ∷ replicate x 0)) k

more : (n : ℕ) (r : Rec) (rs : List Rec) → size r < n → take (fits n (r ∷ rs)) (r ∷ rs) ≡ r ∷ take (fits (n - size r) rs) rs
unfolding fits
more n r rs h = rw (lt-ltb (size r) n h)

-- a field of a byte or more
pub not_none : (n : ℕ) (rs : List Rec) → 0 < n → filled n rs ≡ field_bytes_value n (take (fits n rs) rs)
unfolding filled
not_none n rs h = rw (ne_eqb n 0 (λ e. omega arith))

pub fill_more : (n : ℕ) (r : Rec) (rs : List Rec) → size r < n → filled n (r ∷ rs) ≡ option r ++ filled (n - size r) rs
fill_more n r rs h =
    not_none n (r ∷ rs) (omega arith)
    ∙ ap (field_bytes_value n) (more n r rs h)
    ∙ field_more n r (take (fits (n - size r) rs) rs)
    ∙ ap (λ (l : List ℕ). option r ++ l) (sym (not_none (n - size r) rs (omega arith)))

-- ---- None more

ends : (n : ℕ) (rs : List Rec) → fits n rs ≡ 0 → filled n rs ≡ filled n []
unfolding fits filled
ends n rs e = rw e

-- a field without a record
shut : (n : ℕ) → end_and_zeros n ≡ filled n []
unfolding end_and_zeros filled fits field_bytes_value option_bytes
shut zero = refl
shut (suc n) =
    let k : n ≡ suc n - 1 = omega arith in
    ap (λ (l : List ℕ). 255 ∷ l) (ap (λ (i : ℕ). replicate i 0) k) ∙ sym (not_none (suc n) [] (omega arith))

-- ---- The loop: what is written, with what is still to come, is the answer

pub record Filling (L : ℕ) (s : List ℕ) (from inside : ℕ) (field : List ℕ) (at done end : ℕ) : Type 0 where
  pub room : end ≤ L
  pub same : length field ≡ L
  pub written : take end field ++ filled (L - end) (pieces_left s at done) ≡ filled L (pieces_left s from inside)
  pub counts : Counting L s from inside at done (L - end)

pub filling_none : (s : List ℕ) (from inside : ℕ) (field : List ℕ) → Between s from inside → Filling (length field) s from inside field from inside 0
filling_none s from inside field w =
    let n : length field ≡ length field - 0 = omega arith in
    record {
      room = omega arith;
      same = refl;
      written = ap (λ (k : ℕ). filled k (pieces_left s from inside)) (sym n);
      counts = subst (λ (k : ℕ). Counting (length field) s from inside from inside k) n (counting_none (length field) s from inside w);
    }

-- what stands before the new end is what stood before the old one, and the new option
take_more : (field opt rest : List ℕ) (end m : ℕ) → end ≤ length field → m ≡ length opt → take (end + m) (take end field ++ (opt ++ rest)) ≡ take end field ++ opt
take_more field opt rest end m h e =
    ap (take (end + m)) (sym (append_assoc (take end field) opt rest))
    ∙ take_at (take end field ++ opt) rest (end + m) (length-append (take end field) opt ∙ ap₂ (λ (x y : ℕ). x + y) (length-take-le end field h) (sym e))

module _ (L : ℕ) (s : List ℕ) (from inside : ℕ) (field : List ℕ) (at done end : ℕ) (f : Filling L s from inside field at done end) where
  -- what was lent
  pub lent : length (mid_of end (length field - end) field) ≡ L - end
  lent = ap length (mid_rest end field) ∙ length-drop end field ∙ ap (λ (k : ℕ). k - end) f.same

  -- a turn; the piece has k bytes of data, and b is the part of the sheet that is lent for it
  pub filling_more : (k to then : ℕ) (b ys : List ℕ) → Piece s at done k to then → at ≤ to → k + 2 < L - end
      → b ≡ take k (drop (at + 3 + done) s)
      → ys ≡ with_option (mid_of end (length field - end) field) (get_or s at 0) b
      → length ys ≡ length (mid_of end (length field - end) field)
      → Filling L s from inside (put_mid end (length field - end) field ys) to then (end + (k + 2))
  filling_more k to then b ys x o h part y many =
      let r : Rec = x.here in
      let rest : List Rec = pieces_left s to then in
      let room : List ℕ = mid_of end (length field - end) field in
      let over : List ℕ = drop (length r.body + 2) room in
      let put : ys ≡ option r ++ over =
      y
      ∙ ap₂ (λ (c : ℕ) (d : List ℕ). with_option room c d) x.tag_is (part ∙ x.body_is)
      ∙ with_option_lem room r.body r.tag (omega (arith, x.sized, x.most)) (omega (arith, x.sized, lent, h)) in
      let in_field : end ≤ length field = omega (arith, f.room, f.same) in
      let takes : k + 2 ≡ size r = omega (arith, x.sized) in
      let new : take (end + (k + 2)) (put_mid end (length field - end) field ys) ≡ take end field ++ option r =
      ap (take (end + (k + 2))) (put_rest end field ys in_field ∙ ap (λ (l : List ℕ). take end field ++ l) put) ∙ take_more field (option r) over end (k + 2) in_field takes in
      let less : L - end - (k + 2) ≡ L - (end + (k + 2)) = omega arith in
      record {
        room = omega (arith, h, f.room);
        same = same_len_mid end (length field - end) field ys many ∙ f.same;
        written =
            ap₂ (λ (l : List ℕ) (i : ℕ). l ++ filled i rest) new (sym less ∙ ap (λ (j : ℕ). L - end - j) takes)
            ∙ append_assoc (take end field) (option r) (filled (L - end - size r) rest)
            ∙ ap (λ (l : List ℕ). take end field ++ l) (sym (fill_more (L - end) r rest (omega (arith, takes, h))))
            ∙ ap (λ (rs : List Rec). take end field ++ filled (L - end) rs) (sym x.first)
            ∙ f.written;
        counts = subst (λ (j : ℕ). Counting L s from inside to then j) less (counting_more L s from inside at done (L - end) k to then f.counts x o h);
      }

  -- the rest of the field, filled from here on
  pub handed : (ys : List ℕ) → ys ≡ filled (length (mid_of end (length field - end) field)) (pieces_left s at done)
      → put_mid end (length field - end) field ys ≡ filled L (pieces_left s from inside)
  handed ys y =
      put_rest end field ys (omega (arith, f.room, f.same))
      ∙ ap (λ (l : List ℕ). take end field ++ l) (y ∙ ap (λ (k : ℕ). filled k (pieces_left s at done)) lent)
      ∙ f.written

  -- after END and zeros
  pub closed : fits (L - end) (pieces_left s at done) ≡ 0 → (ys : List ℕ) → ys ≡ end_and_zeros (length (mid_of end (length field - end) field))
      → put_mid end (length field - end) field ys ≡ filled L (pieces_left s from inside)
  closed z ys y =
      put_rest end field ys (omega (arith, f.room, f.same))
      ∙ ap (λ (l : List ℕ). take end field ++ l) (y ∙ ap end_and_zeros lent ∙ shut (L - end) ∙ sym (ends (L - end) (pieces_left s at done) z))
      ∙ f.written

-- ---- A place in one number

-- a place in the sheet, where no piece of the record was written
module _ (at : ℕ) (h : at < 65536) where
  pub place_is : place_in at ≡ at
  place_is = omega arith

  pub none_done : done_in at ≡ 0
  none_done = omega arith

-- pieces of 255 bytes were written
module _ (at done : ℕ) (h : at < 65536) (e : 255 * (done / 255) ≡ done) where
  pub place_back : place_in (at + 65536 * (done / 255)) ≡ at
  place_back = omega arith

  pub done_back : done_in (at + 65536 * (done / 255)) ≡ done
  done_back = omega arith

-- a number below `single` is the place
pub single_spot : (s : List ℕ) (single spot : ℕ) → Single s single (place_in spot) (done_in spot) → spot < single → spot < 65536
single_spot s single spot q h = let p = q (omega arith) in omega (arith, p.0)

-- any other has its place behind
pub past_single : (s : List ℕ) (single spot : ℕ) → Single s single (place_in spot) (done_in spot) → single ≤ spot → single ≤ place_in spot
past_single s single spot q h = go (ltb (place_in spot) single) refl
  where
    go : (b : Bool) → ltb (place_in spot) single ≡ b → single ≤ place_in spot
    go true e = let p = q (ltb-true (place_in spot) single e) in omega (arith, p.0, h)
    go false e = ltb-false (place_in spot) single e

-- at most 1,024 bytes of a record are done
pub done_few : (s : List ℕ) (at done : ℕ) → Between s at done → done ≤ 1024
done_few s at done b = go (records_left s at) b.whole.short b.inside
  where
    go : (rs : List Rec) → AllShort rs → Inside done rs → done ≤ 1024
    go [] a i = omega (arith, i)
    go (r ∷ rs) a i = omega (arith, i, a.0)

pub within_sheet : (s : List ℕ) (at done : ℕ) → Between s at done → at ≤ length s
within_sheet s at done b = omega (arith, b.whole.to_end)

-- the bytes done are pieces of 255
pub still_255 : (n done : ℕ) (x : code.Piece) → 255 * (done / 255) ≡ done → x ≡ piece_of n done → 255 * (x.done / 255) ≡ x.done
still_255 n done x e q = rw q (go (ltb 255 (n - done)))
  where
    go : (b : Bool) → 255 * (cond b (done + 255) 0 / 255) ≡ cond b (done + 255) 0
    go true = omega arith
    go false = omega arith

-- the part of the sheet that is lent for a piece
pub part_is : (s : List ℕ) (i j k : ℕ) → j - i ≡ k → take (j - i) (drop i s) ≡ take k (drop i s)
part_is s i j k e = ap (λ (n : ℕ). take n (drop i s)) e
