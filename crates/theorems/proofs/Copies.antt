-- The copy of a code: the statements of AnswerClaims on it, proved. Assumes nothing.
use mathlib.Core.Path.{◌≡◌, refl, sym, ap, ap₂, ◌∙◌, subst}
use mathlib.Core.List.{List, [], ◌∷◌, ◌++◌}
use mathlib.Core.Bool.{Bool, true, false, cond}
use Prim.Native.Nat.{ℕ, ◌≤◌, ◌<◌}
use native.Mathlib.Omega.{arith}
use lib.ListN.{length, drop}
use lib.Dec.{ltb}
use borrow.Author.Tests.{ltb-true, lt-ltb}
use Rattle.options.specs.Message.{Opt, PiecesOf, end_to_end}
use Rattle.options.specs.Reading.{Reading, accepted, refused, read_message, pieces}
use Rattle.options.specs.Answers.{no_code, given, declined, Filled, unfilled, filled_with, copy_found, copy_in_value, copy}
use Rattle.options.specs.ReadingClaims.{IsAccepted, row_10, of_message}
use Rattle.options.specs.AnswerClaims.{JoinedBytes, FilledRight, CopyIsTheOptions, CopyRoomIsEnough, CopyRow, of_reader, copy_absent, copy_small, CopyRefusedByTheTable}
use Rattle.theorems.proofs.View.{clash}
use Rattle.theorems.proofs.Messages.{two_ways, no_way}
use Rattle.theorems.proofs.Reading.{refused_by_the_table}
use Rattle.theorems.proofs.Pieces.{pieces_right, held_iff_piece, piece_held}
use Rattle.theorems.proofs.Lookup.{asked, held_asked, no_code_lem, code_range, the_pieces, no_pieces}
use Rattle.theorems.proofs.Lengths.{joined_short}
use Rattle.theorems.proofs.Sheets.{lent_buffer}

declined_same : {n p k q : ℕ} {old : List ℕ} → unfilled n p old ≡ unfilled k q old → (n ≡ k) × (p ≡ q)
declined_same {n} {p} {k} {q} e = let z : declined n p ≡ declined k q = ap (λ (w : Filled). w.answer) e in (cc, cc)

module _ (m : List ℕ) (c : ℕ) (old : List ℕ) where
  copy_is : no_code c ≡ false → copy m c old ≡ copy_in_value c (read_message m) old
  unfolding copy
  copy_is e = rw e

  pub copy_found_lem : (a : IsAccepted m) → no_code c ≡ false → copy m c old ≡ copy_found (pieces c a.options) old
  copy_found_lem a e = copy_is e ∙ ap (λ (w : Reading). copy_in_value c w old) a.reads

  pub copy_joined : {d : List ℕ} → IsAccepted m → JoinedBytes m c d → copy m c old ≡ filled_with d old
  copy_joined a j =
      copy_found_lem a (held_asked (piece_held j.are_pieces)) ∙ ap (λ (ps : List Opt). copy_found ps old) (the_pieces a j.are_pieces)
      ∙ ap (λ (d : List ℕ). filled_with d old) j.joined

  from_row : {n p : ℕ} → CopyRow m c old n p → copy m c old ≡ unfilled n p old
  unfolding copy
  from_row (of_reader (row_10 h)) = rw (no_code_lem c h)
  from_row {n} {p} (of_reader (of_message l u f)) = copy_is (asked c l u) ∙ ap (λ (w : Reading). copy_in_value c w old) ((refused_by_the_table m n p).1 f)
  from_row (copy_absent l u a n) = copy_found_lem a (asked c l u) ∙ ap (λ (ps : List Opt). copy_found ps old) (no_pieces a c n)
  from_row (copy_small {d = d} a j l) = copy_joined a j ∙ rw (lt-ltb (length old) (length d) l)

  -- what is given is no refusal
  too_small : (d : List ℕ) (n p : ℕ) → filled_with d old ≡ unfilled n p old → (length old < length d) × (11 ≡ n) × (length old ≡ p)
  too_small d n p e = go (ltb (length old) (length d)) refl e
    where
      go : (b : Bool) → ltb (length old) (length d) ≡ b → cond b (unfilled 11 (length old) old) (record { answer = given (length d); buffer = d ++ drop (length d) old }) ≡ unfilled n p old → (length old < length d) × (11 ≡ n) × (length old ≡ p)
      go true q z = let s = declined_same z in (ltb-true (length old) (length d) q, s.0, s.1)
      go false q z = let y : given (length d) ≡ declined n p = ap (λ (w : Filled). w.answer) z in clash (cc)

  of_reading : (n p : ℕ) → 1 ≤ c → c ≤ 254 → (w : Reading) → read_message m ≡ w → copy_in_value c w old ≡ unfilled n p old → CopyRow m c old n p
  of_reading n p l u (refused k q) e z = let s = declined_same z in of_reader (of_message l u ((refused_by_the_table m n p).0 (e ∙ ap₂ refused s.0 s.1)))
  of_reading n p l u (accepted os) e z = let a : IsAccepted m = record { options = os; reads = e } in these a (pieces c os) (pieces_right m a c) z
    where
      row : {k q : ℕ} → CopyRow m c old k q → (k ≡ n) × (q ≡ p) → CopyRow m c old n p
      row {k} {q} r s = subst (λ (y : ℕ). CopyRow m c old n y) s.1 (subst (λ (y : ℕ). CopyRow m c old y q) s.0 r)

      these : (a : IsAccepted m) (ps : List Opt) → PiecesOf m c ps → copy_found ps old ≡ unfilled n p old → CopyRow m c old n p
      these a [] q y = row (copy_absent l u a (λ h. (held_iff_piece m c [] q).0 h refl)) (declined_same y)
      these a (o ∷ ps) q y =
          let s = too_small (end_to_end (o ∷ ps)) n p y in
          row (copy_small a (record { first = o; others = ps; are_pieces = q; joined = refl }) s.0) (s.1, s.2)

  to_row : (n p : ℕ) → c ≤ 255 → copy m c old ≡ unfilled n p old → CopyRow m c old n p
  unfolding copy
  to_row n p h e = go (no_code c) refl e
    where
      go : (b : Bool) → no_code c ≡ b → cond b (unfilled 10 0 old) (copy_in_value c (read_message m) old) ≡ unfilled n p old → CopyRow m c old n p
      go true q z =
          let s = declined_same z in
          subst (λ (y : ℕ). CopyRow m c old n y) s.1 (subst (λ (y : ℕ). CopyRow m c old y 0) s.0 (of_reader (row_10 (two_ways 0 255 c q))))
      go false q z = let x = code_range c (no_way 0 255 c q) h in of_reading n p x.0 x.1 (read_message m) refl z

pub copy_is_the_options : CopyIsTheOptions
copy_is_the_options m c d old a j = subst (FilledRight d old) (sym (copy_joined m c old a j)) (lent_buffer d old)

pub copy_room_is_enough : CopyRoomIsEnough
copy_room_is_enough m c d old a j h =
    let e : length (end_to_end (pieces c a.options)) ≡ length d = ap (λ (ps : List Opt). length (end_to_end ps)) (the_pieces a j.are_pieces) ∙ ap length j.joined in
    ((copy_is_the_options m c d old a j).fits (omega (arith, joined_short m a c, e))).0

pub copy_refused_by_the_table : CopyRefusedByTheTable
copy_refused_by_the_table m c old n p h = (to_row m c old n p h, from_row m c old)
