-- A field's filling as far as each record is one piece. Assumes nothing.
use mathlib.Core.Path.{◌≡◌, sym, ap, ◌∙◌, subst}
use mathlib.Core.List.{List}
use Prim.Native.Nat.{ℕ, ◌+◌, ◌-◌, ◌<◌, ◌≤◌}
use native.Mathlib.Omega.{arith}
use lib.ListN.{length, get_or, take, drop}
use borrow.Rule.Slice.PartMut.{put_mid, mid_of}
use Rattle.options.specs.Writing.{fits, pieces_left, Between}
use Rattle.plan.specs.Steps.{left_over, From, Single}
use Rattle.plan.proofs.Counting.{Turn, turn, counted}
use Rattle.field_writer.specs.Room.{with_option, end_and_zeros}
use Rattle.writer.specs.Fill.{filled, place_in, done_in, pieces_at, Spot, Left}
use Rattle.writer.proofs.Filling.{Filling, filling_none, filling_more, lent, handed, closed, place_is, none_done, single_spot, past_single}

-- the loop has reached the place `at`
pub record Quick (L : ℕ) (s : List ℕ) (single spot : ℕ) (field : List ℕ) (at end : ℕ) : Type 0 where
  pub filling : Filling L s (place_in spot) (done_in spot) field (place_in at) (done_in at) end
  pub spot_is : Spot s single at

pub quick_none : (s : List ℕ) (single spot : ℕ) (field : List ℕ) → Spot s single spot → Quick (length field) s single spot field spot 0
quick_none s single spot field p = record { filling = filling_none s (place_in spot) (done_in spot) field p.between; spot_is = p }

module _ (L : ℕ) (s : List ℕ) (single spot : ℕ) (field : List ℕ) (at end : ℕ) (q : Quick L s single spot field at end) where
  module _ (h : at < single) where
    small : at < 65536
    small = single_spot s single at q.spot_is.singles h

    -- the place is the number itself
    plain : (P : ℕ → ℕ → Type 0) → P (place_in at) (done_in at) → P at 0
    plain P p = subst (λ (i : ℕ). P i 0) (place_is at small) (subst (P (place_in at)) (none_done at small) p)

    back : (P : ℕ → ℕ → Type 0) → P at 0 → P (place_in at) (done_in at)
    back P p = subst (P (place_in at)) (sym (none_done at small)) (subst (λ (i : ℕ). P i 0) (sym (place_is at small)) p)

    here : Filling L s (place_in spot) (done_in spot) field at 0 end
    here = plain (λ (i j : ℕ). Filling L s (place_in spot) (done_in spot) field i j end) q.filling

    -- the next record
    pub quick_turn : (k : ℕ) → k ≡ get_or s (at + 2) 0 → Turn s single at 0 k
    quick_turn k e = turn s single at 0 (plain (Between s) q.spot_is.between) (plain (Single s single) q.spot_is.singles) h k e

    pub quick_more : (k : ℕ) (b ys : List ℕ) → Turn s single at 0 k → k + 2 < L - end → b ≡ take k (drop (at + 3) s)
        → ys ≡ with_option (mid_of end (length field - end) field) (get_or s at 0) b
        → length ys ≡ length (mid_of end (length field - end) field)
        → Quick L s single spot (put_mid end (length field - end) field ys) (at + (k + 2 + 1)) (end + (k + 2))
    quick_more k b ys x r part y many =
        let to : ℕ = at + (k + 2 + 1) in
        let less : to < 65536 = omega (arith, x.within, q.spot_is.few) in
        let place : at + 3 ≡ at + 3 + 0 = omega arith in
        let f : Filling L s (place_in spot) (done_in spot) (put_mid end (length field - end) field ys) to 0 (end + (k + 2)) =
        filling_more L s (place_in spot) (done_in spot) field at 0 end here k to 0 b ys x.piece (omega arith) r (part ∙ ap (λ (i : ℕ). take k (drop i s)) place) y many in
        record {
          filling = moved to less (λ (i j : ℕ). Filling L s (place_in spot) (done_in spot) (put_mid end (length field - end) field ys) i j (end + (k + 2))) f;
          spot_is = record { few = q.spot_is.few; between = moved to less (Between s) x.piece.between; singles = moved to less (Single s single) x.singles };
        }
      where
        moved : (to : ℕ) → to < 65536 → (P : ℕ → ℕ → Type 0) → P to 0 → P (place_in to) (done_in to)
        moved to l P p = subst (P (place_in to)) (sym (none_done to l)) (subst (λ (i : ℕ). P i 0) (sym (place_is to l)) p)

    -- no room for it
    pub quick_closed : fits (L - end) (pieces_left s at 0) ≡ 0 → (ys : List ℕ) → ys ≡ end_and_zeros (length (mid_of end (length field - end) field))
        → (put_mid end (length field - end) field ys ≡ filled L (pieces_at s spot)) × Left s single (left_over L (pieces_at s spot)) at
    quick_closed z ys y =
        let f : From s (left_over L (pieces_at s spot)) at 0 = counted L s (place_in spot) (done_in spot) at 0 (L - end) here.counts z in (
          closed L s (place_in spot) (done_in spot) field at 0 end here z ys y,
          record { pieces = (back (From s (left_over L (pieces_at s spot))) f).pieces; spot_is = q.spot_is },
        )

  -- the rest of the field, filled from here on
  pub quick_handed : single ≤ at → (ys : List ℕ) (r : ℕ) → ys ≡ filled (length (mid_of end (length field - end) field)) (pieces_at s at)
      → From s (left_over (length (mid_of end (length field - end) field)) (pieces_at s at)) (place_in r) (done_in r)
      → place_in at ≤ place_in r
      → (put_mid end (length field - end) field ys ≡ filled L (pieces_at s spot)) × Left s single (left_over L (pieces_at s spot)) r
  quick_handed h ys r y f o =
      let room : ℕ = length (mid_of end (length field - end) field) in
      let n : room ≡ L - end = lent L s (place_in spot) (done_in spot) field (place_in at) (done_in at) end q.filling in
      let e : left_over room (pieces_at s at) ≡ left_over L (pieces_at s spot) = ap (λ (k : ℕ). left_over k (pieces_at s at)) n ∙ q.filling.counts.rest in (
        handed L s (place_in spot) (done_in spot) field (place_in at) (done_in at) end q.filling ys y,
        record {
          pieces = f.pieces ∙ e;
          spot_is = record { few = q.spot_is.few; between = f.between; singles = λ z. absurd (omega (arith, z, o, past_single s single at q.spot_is.singles h)) };
        },
      )
