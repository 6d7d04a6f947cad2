-- The listing in a lent buffer: the statements of ListedClaims, proved. Assumes nothing.
use mathlib.Core.Path.{◌≡◌, refl, sym, ap, ap₂, ◌∙◌, subst}
use mathlib.Core.Bool.{Bool, true, false, cond}
use mathlib.Core.List.{List, ◌++◌}
use Prim.Native.Nat.{ℕ, ◌≤◌, ◌<◌}
use native.Mathlib.Omega.{arith}
use lib.Dec.{ltb}
use lib.ListN.{length, take, drop, length-append}
use lib.Seq.{take_at}
use borrow.Author.Tests.{ltb-true, ltb-false, lt-ltb, le-ltb}
use Rattle.options.specs.Reading.{Reading, accepted, refused, read_message}
use Rattle.options.specs.Answers.{given, Filled, unfilled, filled_with, listing_in, listing}
use Rattle.options.specs.KindClaims.{AllBytes}
use Rattle.options.specs.AnswerClaims.{ListingIs}
use Rattle.options.specs.Listed.{listed}
use Rattle.options.specs.ListedClaims.{ListsInto, gives, too_small, ListedIsRight, ListingRoomIsEnough}
use Rattle.theorems.proofs.Listings.{listing_is_correct}
use Rattle.listing.proofs.Room.{accepted_short, refused_short}

-- no listing is longer
pub listing_short : (m : List ℕ) → AllBytes m → length (listing m) ≤ 16384
unfolding listing
listing_short m b = go (read_message m) refl
  where
    go : (w : Reading) → read_message m ≡ w → length (listing_in (read_message m)) ≤ 16384
    go (accepted os) e = rw e (accepted_short m (record { options = os; reads = e }) (length os) b)
    go (refused n p) e = rw e (refused_short n p)

module _ (m old : List ℕ) where
  pub listed_as : listed m old ≡ filled_with (listing m) old
  unfolding listed
  listed_as = refl

  listed_enough : length (listing m) ≤ length old → listed m old ≡ record { answer = given (length (listing m)); buffer = listing m ++ drop (length (listing m)) old }
  listed_enough l = listed_as ∙ rw (le-ltb (length old) (length (listing m)) l)

  listed_small : length old < length (listing m) → listed m old ≡ unfilled 11 (length old) old
  listed_small l = listed_as ∙ rw (lt-ltb (length old) (length (listing m)) l)

  from_lists : {w : Filled} → ((xs : List ℕ) → ListingIs m xs → listing m ≡ xs) → ListsInto m old w → listed m old ≡ w
  from_lists f (gives {xs = xs} i l) =
      let e = f xs i in
      let z : length (listing m) ≡ length xs = ap length e in
      listed_enough (omega (arith, z)) ∙ ap (λ (ys : List ℕ). record { answer = given (length ys); buffer = ys ++ drop (length ys) old }) e
  from_lists f (too_small {xs = xs} i l) =
      let e = f xs i in
      let z : length (listing m) ≡ length xs = ap length e in
      listed_small (omega (arith, z))

  to_lists : {w : Filled} → ListingIs m (listing m) → listed m old ≡ w → ListsInto m old w
  to_lists {w} i e = go (ltb (length old) (length (listing m))) refl
    where
      go : (b : Bool) → ltb (length old) (length (listing m)) ≡ b → ListsInto m old w
      go true q = let l = ltb-true (length old) (length (listing m)) q in subst (ListsInto m old) (sym (listed_small l) ∙ e) (too_small i l)
      go false q = let l = ltb-false (length old) (length (listing m)) q in subst (ListsInto m old) (sym (listed_enough l) ∙ e) (gives i l)

pub listed_is_right : ListedIsRight
listed_is_right m old w b l = (to_lists m old ((listing_is_correct m (listing m) b l).0 refl), from_lists m old (λ xs i. (listing_is_correct m xs b l).1 i))

pub listing_room_is_enough : ListingRoomIsEnough
listing_room_is_enough m old b l = ap (λ (w : Filled). w.answer) (listed_enough m old (omega (arith, listing_short m b)))

-- what was made, taken from the buffer that it was made in
pub text_of_lem : (xs out old : List ℕ) (n : ℕ) → n ≡ length xs → out ≡ xs ++ drop (length xs) old → take n out ≡ xs
text_of_lem xs out old n e q = ap₂ (λ (k : ℕ) (l : List ℕ). take k l) e q ∙ take_at xs (drop (length xs) old) (length xs) refl
