-- The pass that writes: one route laid over the output, and route after route. Assumes nothing.
use mathlib.Core.Path.{◌≡◌, refl, sym, ap, ◌∙◌}
use mathlib.Core.List.{List, [], ◌∷◌, ◌++◌}
use mathlib.Core.Option.{none}
use Prim.Native.Nat.{ℕ, suc, ◌+◌, ◌-◌, ◌≤◌, ◌<◌}
use native.Mathlib.Omega.{arith}
use lib.ListN.{length, get_or, take, drop, length-drop, length-append, get_or-append, take-append-drop}
use native.Mathlib.Decide.{dec_lt}
use Rattle.std.proofs.lemmas.List.{drop-append-le, take-append-le}
use Rattle.std.proofs.Math.Seq.{drop-append_seam}
use lib.Seq.{take_at, drop-drop, drop-append-add, take-take, length-take-le}
use borrow.Rule.Slice.PartMut.{put_mid, mid_of}
use Rattle.buffer.specs.Copy.{copied}
use Rattle.buffer.specs.Written.{laid, Written}
use Rattle.buffer.proofs.Writing.{laid_copied, laid_length, written_none, written_as, written_more}
use Rattle.options.specs.Kinds.{width_bytes}
use Rattle.options.specs.Routes.{faulty_from, one_route, route_bytes}
use Rattle.route_writer.proofs.One.{Passed, passed_none, bytes_none, bytes_one, one_length, bytes_length}

-- ---- One route

-- what is written over as much or more, from the same place on, is gone
over : (xs a b : List ℕ) (k : ℕ) → k ≤ length xs → length a ≤ length b → laid (laid xs k a) k b ≡ laid xs k b
over xs a b k h l =
    let m : length (take k xs) ≡ k = length-take-le k xs h in
    let front : take k (laid xs k a) ≡ take k xs = take_at (take k xs) (a ++ drop (k + length a) xs) k m in
    let s : k + length b ≡ length (take k xs) + (length a + (length b - length a)) = omega (arith, m) in
    let t : k + length a + (length b - length a) ≡ k + length b = omega arith in
    let back : drop (k + length b) (laid xs k a) ≡ drop (k + length b) xs =
    ap (λ (i : ℕ). drop i (laid xs k a)) s ∙ drop-append-add (take k xs) (a ++ drop (k + length a) xs) (length a + (length b - length a)) ∙ drop-append-add a (drop (k + length a) xs) (length b - length a)
    ∙ drop-drop (length b - length a) (k + length a) xs ∙ ap (λ (i : ℕ). drop i xs) t in
    rw (front, back)

module _ (out s : List ℕ) (o n : ℕ) (h : 9 ≤ length s) (q : n ≡ width_bytes (get_or s 0 0)) (g : get_or s 0 0 ≤ 32) (l : o + (n + 5) ≤ length out) where
  abbrev w : ℕ
  w = get_or s 0 0

  -- the width and all of the destination; of it, what the option has, and what is left off
  abbrev five : List ℕ
  five = take 5 (drop 0 s)

  abbrev kept : List ℕ
  kept = take (1 + n) five

  abbrev left : List ℕ
  left = drop (1 + n) five

  abbrev by : List ℕ
  by = take 4 (drop 5 s)

  five_length : length five ≡ 5
  five_length = length-take-le 5 s (omega arith)

  kept_length : length kept ≡ 1 + n
  kept_length = length-take-le (1 + n) five (omega (arith, five_length))

  left_length : length left ≤ 4
  left_length = omega (arith, length-drop (1 + n) five, five_length)

  by_length : length by ≡ 4
  by_length = length-take-le 4 (drop 5 s) (simp length-drop (omega arith))

  module _ (ys : List ℕ) (c : ys ≡ copied (mid_of o (o + 5 - o) out) five) where
    abbrev second : List ℕ
    second = put_mid o (o + 5 - o) out ys

    second_is : second ≡ laid out o five
    second_is = laid_copied out o (o + 5) ys five (omega (arith, five_length)) (omega arith) c

    pub second_length : length second ≡ length out
    second_length = ap length second_is ∙ laid_length out o five (omega (arith, five_length))

    abbrev first : List ℕ
    first = laid out o kept

    first_length : length first ≡ length out
    first_length = laid_length out o kept (omega (arith, kept_length))

    one : Written out o kept (o + 1 + n) first
    one = record { next = omega (arith, kept_length); buffer = refl }

    in_two : second ≡ laid first (o + 1 + n) left
    in_two =
        let two : Written first (o + 1 + n) left (o + 1 + n + length left) (laid first (o + 1 + n) left) = record { next = refl; buffer = refl } in
        second_is ∙ ap (laid out o) (sym (take-append-drop (1 + n) five)) ∙ sym (written_more one two).buffer

    module _ (zs : List ℕ) (d : zs ≡ copied (mid_of (o + 1 + n) (o + 1 + n + 4 - (o + 1 + n)) second) by) where
      abbrev third : List ℕ
      third = put_mid (o + 1 + n) (o + 1 + n + 4 - (o + 1 + n)) second zs

      third_is : third ≡ laid second (o + 1 + n) by
      third_is = laid_copied second (o + 1 + n) (o + 1 + n + 4) zs by (omega (arith, by_length)) (omega (arith, second_length)) d

      pub third_length : length third ≡ length out
      third_length = ap length third_is ∙ laid_length second (o + 1 + n) by (omega (arith, by_length, second_length)) ∙ second_length

      kept_is : (p : List ℕ) → 9 ≤ length p → take (1 + n) (take 5 p) ≡ get_or p 0 0 ∷ take n (drop 1 p)
      kept_is p m = rw (take-take (1 + n) 5 p (omega arith)) (by_head p m)
        where
          by_head : (p : List ℕ) → 9 ≤ length p → take (1 + n) p ≡ get_or p 0 0 ∷ take n (drop 1 p)
          by_head [] m = absurd (omega arith)
          by_head (x ∷ xs) m = let e : 1 + n ≡ suc n = omega arith in rw e

      pub route_placed : Written out o (one_route w (drop 1 s)) (o + 1 + n + 4) third
      route_placed =
          let gone : laid second (o + 1 + n) by ≡ laid first (o + 1 + n) by =
          ap (λ (x : List ℕ). laid x (o + 1 + n) by) in_two ∙ over first left by (o + 1 + n) (omega (arith, first_length)) (omega (arith, left_length, by_length)) in
          let two : Written first (o + 1 + n) by (o + 1 + n + 4) third = record { next = omega (arith, by_length); buffer = third_is ∙ gone } in
          let all : Written out o (kept ++ by) (o + 1 + n + 4) third = written_more one two in
          let bytes : kept ++ by ≡ one_route w (drop 1 s) = rw (kept_is s h, q, drop-drop 4 1 s) in
          written_as bytes all

-- ---- Route after route

-- No route of `rest` is faulty. With those of it placed at o in the output `now`, all are placed at its start in `old`.
pub record Laying (s old now rest : List ℕ) (o : ℕ) : Type 0 where
  pub number : ℕ
  pub fine : faulty_from number 0 rest ≡ none
  pub room : o + length (route_bytes 0 rest) ≤ length now
  pub same : length now ≡ length old
  pub whole : (r : ℕ) (last : List ℕ) → Written now o (route_bytes 0 rest) r last → Written old 0 (route_bytes 0 s) r last

pub laying_begins : (s old : List ℕ) → faulty_from 0 0 s ≡ none → length (route_bytes 0 s) ≤ length old → Laying s old old s 0
laying_begins s old e h = record { number = 0; fine = e; room = omega arith; same = refl; whole = λ r last p. p }

-- a route stands in what is behind it as by itself
one_is : (w : ℕ) (x t : List ℕ) → w ≤ 32 → length x ≡ 9 → one_route w (drop 1 (x ++ t)) ≡ one_route w (drop 1 x)
one_is w x t g h =
    let n : length (drop 1 x) ≡ 8 = omega (arith, length-drop 1 x) in
    let front : take (width_bytes w) (drop 1 x ++ t) ≡ take (width_bytes w) (drop 1 x) = take-append-le (width_bytes w) (drop 1 x) t (omega arith) in
    let back : take 4 (drop 4 (drop 1 x) ++ t) ≡ take 4 (drop 4 (drop 1 x)) = take-append-le 4 (drop 4 (drop 1 x)) t (omega (arith, length-drop 4 (drop 1 x))) in
    rw (drop-append-le 1 x t (omega arith), front, drop-append-le 4 (drop 1 x) t (omega arith), back)

module _ {s old now rest : List ℕ} {o : ℕ} (y : Laying s old now rest o) where
  here : 1 ≤ length rest → Passed y.number rest
  here h = passed_none y.number rest h y.fine

  pub laying_ends : length rest < 9 → Written old 0 (route_bytes 0 s) o now
  laying_ends h = y.whole o now (rw (bytes_none rest (none_here (dec_lt 0 (length rest)))) (written_none now o))
    where
      none_here : Dec (0 < length rest) → length rest ≤ 0
      none_here (yes q) = absurd (omega (arith, (here (omega arith)).whole))
      none_here (no q) = omega arith

  module _ (x t : List ℕ) (e : rest ≡ x ++ t) (l : length x ≡ 9) where
    abbrev width : ℕ
    width = get_or x 0 0

    some : 9 ≤ length rest
    some = omega (arith, ap length e, length-append x t)

    width_is : get_or rest 0 0 ≡ width
    width_is = rw e (get_or-append x t 0 0 (omega arith))

    pub narrow_here : width ≤ 32
    narrow_here = rw (← width_is) (here (omega (arith, some))).narrow

    bytes_here : length (route_bytes 0 rest) ≡ width_bytes width + 5 + length (route_bytes 0 (drop 9 rest))
    bytes_here = rw width_is at (bytes_length rest some (rw width_is narrow_here))

    behind : drop 9 rest ≡ t
    behind = rw (e, ← l) (drop-append_seam x t)

    pub room_here : o + (width_bytes width + 5) ≤ length now
    room_here = omega (arith, y.room, bytes_here)

    pub laying_on : {k : ℕ} {later : List ℕ} → length later ≡ length now → Written now o (one_route width (drop 1 x)) k later → Laying s old later t k
    laying_on {k} {later} q p =
        let n : length (one_route width (drop 1 x)) ≡ width_bytes width + 5 = one_length width (drop 1 x) narrow_here (omega (arith, length-drop 1 x)) in
        let one : one_route width (drop 1 x) ≡ one_route (get_or rest 0 0) (drop 1 rest) =
        sym (one_is width x t narrow_here l) ∙ ap (λ (z : List ℕ). one_route width (drop 1 z)) (sym e) ∙ ap (λ (z : ℕ). one_route z (drop 1 rest)) (sym width_is) in
        let bytes : one_route width (drop 1 x) ++ route_bytes 0 t ≡ route_bytes 0 rest =
        ap (λ (z : List ℕ). z ++ route_bytes 0 t) one ∙ ap (λ (z : List ℕ). one_route (get_or rest 0 0) (drop 1 rest) ++ route_bytes 0 z) (sym behind) ∙ sym (bytes_one rest some) in
        record {
          number = suc y.number;
          fine = rw (← behind) (sym (here (omega (arith, some))).on ∙ y.fine);
          room = rw (← behind) (omega (arith, p.next, y.room, bytes_here));
          same = q ∙ y.same;
          whole = λ r last z. y.whole r last (written_as bytes (written_more p z));
        }
