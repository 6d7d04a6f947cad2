-- OptionsAreShort, proved: how many bytes of one code the fields of an accepted message can hold. Assumes nothing.
use mathlib.Core.Path.{◌≡◌, refl, sym, ap, ◌∙◌, subst}
use mathlib.Core.List.{List, [], ◌∷◌, ◌++◌}
use mathlib.Core.Bool.{Bool, true, false, cond}
use mathlib.Core.Logic.{◌⊎◌, inl, inr}
use Prim.Native.Nat.{ℕ, zero, suc, ◌+◌, ◌*◌, ◌≤◌, ◌<◌}
use native.Mathlib.Omega.{arith}
use lib.ListN.{length, get_or, take, drop, length-take, length-drop, length-append}
use lib.Dec.{ltb, eqb}
use borrow.Author.Tests.{eqb-true, eqb-false}
use Rattle.options.specs.Message.{Field, options, file, sname, start, bytes, shortest, longest, cookie, turn, Opt, opt, OptionAt, Stands, Holds, Standing, Earlier, PiecesOf, end_to_end}
use Rattle.options.specs.Reading.{either, Parse, parse, Reading, accepted, refused, more, wrong52, second52, judge, items, and_then, pieces, extend, overload, overload_of, file_in, sname_in, further, all_fields, same, read_message}
use Rattle.options.specs.KindClaims.{AllBytes}
use Rattle.options.specs.ReadingClaims.{IsAccepted}
use Rattle.options.specs.AnswerClaims.{JoinedBytes, OptionsAreShort}
use Rattle.theorems.proofs.View.{Reads, r_none, r_pad, r_end, r_beyond, r_option, reads, clash}
use Rattle.theorems.proofs.Fields.{below, option_in_lem}
use Rattle.theorems.proofs.Pieces.{stands_once}
use Rattle.theorems.proofs.Lookup.{the_pieces}
use Rattle.theorems.proofs.CodesPresent.{all_drop, all_field}
use Rattle.theorems.proofs.Lengths.{taken, message_short}

-- ---- A field: its options and its END lie within it, and no piece has more than 255 bytes

abbrev AllSmall : List Opt → Type 0
AllSmall [] = Unit {0}
AllSmall (o ∷ os) = (length o.item.body ≤ 255) × AllSmall os

abbrev FromOn : List ℕ → ℕ → Reading → Type 0
FromOn f s (accepted os) = (s + taken os < length f) × AllSmall os
FromOn f s (refused k p) = Unit {0}

piece_small : {f : List ℕ} {i c : ℕ} {d : List ℕ} → AllBytes f → OptionAt f i c d → length d ≤ 255
piece_small {f} {i} {c} {d} a o = let b : AllBytes (c ∷ length d ∷ (d ++ o.after)) = subst AllBytes o.reads (all_drop i f a) in omega (arith, b.1.0)

one_more : (f : List ℕ) (s : ℕ) (o : Opt) (w : Reading) → length o.item.body ≤ 255 → FromOn f (s + 2 + length o.item.body) w → FromOn f s (more o w)
one_more f s o (accepted os) l h = (omega (arith, h.0), (l, h.1))
one_more f s o (refused k p) l h = tt

field_holds : (fd : Field) (f : List ℕ) → AllBytes f → {s : ℕ} {p : Parse} → Reads f s p → (met : Bool) → FromOn f s (judge fd met p)
unfolding judge
field_holds fd f b (r_none e) met = tt
field_holds fd f b (r_pad {s = s} {p = p} x r) met = less (judge fd met p) (field_holds fd f b r met)
  where
    less : (w : Reading) → FromOn f (s + 1) w → FromOn f s w
    less (accepted os) l = (omega (arith, l.0), l.1)
    less (refused k p) l = tt
field_holds fd f b (r_end {s = s} x) met = (omega (arith, below f s 255 x.after x.reads), tt)
field_holds fd f b (r_beyond x) met = tt
field_holds fd f b (r_option {s = s} {c = c} {d = d} {p = p} o t) met =
    go (wrong52 fd (record { tag = c; body = d })) (second52 met (record { tag = c; body = d })) (field_holds fd f b t (either (eqb c 52) met))
  where
    next : Reading
    next = judge fd (either (eqb c 52) met) p

    go : (v x : Bool) → FromOn f (s + 2 + length d) next → FromOn f s (cond v (refused 6 (start fd + s)) (cond x (refused 7 (start fd + s)) (more (opt fd s c d) next)))
    go true x g = tt
    go false true g = tt
    go false false g = one_more f s (opt fd s c d) next (piece_small b o) g

-- ---- The pieces of one code among options

module _ (c : ℕ) where
  abbrev held : List Opt → ℕ
  held os = length (end_to_end (pieces c os))

  abbrev count : List Opt → ℕ
  count os = length (pieces c os)

  room : (os : List Opt) → held os + 2 * count os ≤ taken os
  unfolding pieces end_to_end
  room [] = omega arith
  room (o ∷ os) = go (eqb c o.item.tag) (room os)
    where
      go : (t : Bool) → held os + 2 * count os ≤ taken os → length (end_to_end (cond t (o ∷ pieces c os) (pieces c os))) + 2 * length (cond t (o ∷ pieces c os) (pieces c os)) ≤ taken (o ∷ os)
      go true h = omega (arith, length-append o.item.body (end_to_end (pieces c os)))
      go false h = omega arith

  when_in_pieces : (os : List Opt) → AllSmall os → held os ≤ 255 * count os
  unfolding pieces end_to_end
  when_in_pieces [] h = omega arith
  when_in_pieces (o ∷ os) h = go (eqb c o.item.tag) (when_in_pieces os h.1)
    where
      go : (t : Bool) → held os ≤ 255 * count os → length (end_to_end (cond t (o ∷ pieces c os) (pieces c os))) ≤ 255 * length (cond t (o ∷ pieces c os) (pieces c os))
      go true g = omega (arith, h.0, length-append o.item.body (end_to_end (pieces c os)))
      go false g = g

  none_held : (os : List Opt) → count os ≡ 0 → held os ≡ 0
  unfolding end_to_end
  none_held os e = go (pieces c os) e
    where
      go : (ps : List Opt) → length ps ≡ 0 → length (end_to_end ps) ≡ 0
      go [] z = refl
      go (p ∷ ps) z = absurd (omega arith)

  append : (os ps : List Opt) → held (os ++ ps) ≡ held os + held ps
  unfolding pieces end_to_end
  append [] ps = omega arith
  append (o ∷ os) ps = go (eqb c o.item.tag) (append os ps)
    where
      go : (t : Bool) → held (os ++ ps) ≡ held os + held ps
          → length (end_to_end (cond t (o ∷ pieces c (os ++ ps)) (pieces c (os ++ ps)))) ≡ length (end_to_end (cond t (o ∷ pieces c os) (pieces c os))) + held ps
      go true h = omega (arith, length-append o.item.body (end_to_end (pieces c (os ++ ps))), length-append o.item.body (end_to_end (pieces c os)))
      go false h = h

  -- option 52 takes three bytes of its own
  room_52 : (c ≡ 52 → ⊥) → (os : List Opt) → (overload (items os) ≡ 0 → ⊥) → held os + 2 * count os + 3 ≤ taken os
  unfolding pieces end_to_end items overload
  room_52 n [] v = absurd (v refl)
  room_52 n (o ∷ os) v = go (eqb o.item.tag 52) refl (eqb c o.item.tag) refl (room_52 n os) v
    where
      some : (d : List ℕ) → (get_or d 0 0 ≡ 0 → ⊥) → 1 ≤ length d
      some [] z = absurd (z refl)
      some (x ∷ d) z = omega arith

      go : (b : Bool) → eqb o.item.tag 52 ≡ b → (t : Bool) → eqb c o.item.tag ≡ t
          → ((overload (items os) ≡ 0 → ⊥) → held os + 2 * count os + 3 ≤ taken os)
          → (cond b (get_or o.item.body 0 0) (overload (items os)) ≡ 0 → ⊥)
          → length (end_to_end (cond t (o ∷ pieces c os) (pieces c os))) + 2 * length (cond t (o ∷ pieces c os) (pieces c os)) + 3 ≤ taken (o ∷ os)
      go true e true f ih z = absurd (n (eqb-true c o.item.tag f ∙ eqb-true o.item.tag 52 e))
      go true e false f ih z = omega (arith, some o.item.body z, room os)
      go false e true f ih z = omega (arith, ih z, length-append o.item.body (end_to_end (pieces c os)))
      go false e false f ih z = omega (arith, ih z)

  -- ---- Field after field

  abbrev Upto : ℕ → Reading → Type 0
  Upto n (accepted os) = held os ≤ n
  Upto n (refused k p) = Unit {0}

  field_upto : (f : List ℕ) (n : ℕ) → length f ≤ n + 3 → (w : Reading) → FromOn f 0 w → Upto n w
  field_upto f n l (refused k p) h = tt
  field_upto f n l (accepted os) h = go (count os) refl
    where
      go : (k : ℕ) → count os ≡ k → held os ≤ n
      go zero e = omega (arith, none_held os e)
      go (suc k) e = omega (arith, room os, h.0)

  extend_upto : (used : Bool) (fd : Field) (m : List ℕ) (n k : ℕ) (w : Reading) → Upto k (judge fd false (parse 0 0 (bytes fd m))) → Upto n w → Upto (n + k) (extend used fd m w)
  extend_upto false fd m n k (accepted os) g h = omega arith
  extend_upto false fd m n k (refused a p) g h = tt
  extend_upto true fd m n k (refused a p) g h = tt
  extend_upto true fd m n k (accepted os) g h = go (judge fd false (parse 0 0 (bytes fd m))) g
    where
      go : (w : Reading) → Upto k w → Upto (n + k) (and_then os w)
      go (accepted ps) l = omega (arith, append os ps)
      go (refused a p) l = tt

  module _ (n52 : c ≡ 52 → ⊥) (m : List ℕ) (b : AllBytes m) (l : length m ≤ 1472) where
    when_in_file : Upto 125 (judge file false (parse 0 0 (bytes file m)))
    when_in_file = field_upto (bytes file m) 125 (omega (arith, length-take 128 (drop 108 m))) (judge file false (parse 0 0 (bytes file m))) (field_holds file (bytes file m) (all_field file m b) (reads (bytes file m)) false)

    when_in_sname : Upto 61 (judge sname false (parse 0 0 (bytes sname m)))
    when_in_sname = field_upto (bytes sname m) 61 (omega (arith, length-take 64 (drop 44 m))) (judge sname false (parse 0 0 (bytes sname m))) (field_holds sname (bytes sname m) (all_field sname m b) (reads (bytes sname m)) false)

    by_52 : (os : List Opt) → (0 + taken os < length (bytes options m)) × AllSmall os → (z : Bool) → eqb (overload (items os)) 0 ≡ z → Upto 1404 (further m (accepted os))
    by_52 os h true e =
        let v : overload (items os) ≡ 0 = eqb-true (overload (items os)) 0 e in
        rw v (omega (arith, h.0, room os, when_in_pieces os h.1, length-drop 240 m))
    by_52 os h false e =
        let u : held os ≤ 1218 = omega (arith, h.0, room_52 n52 os (eqb-false (overload (items os)) 0 e), when_in_pieces os h.1, length-drop 240 m) in
        extend_upto (sname_in (overload (items os))) sname m 1343 61 (extend (file_in (overload (items os))) file m (accepted os)) when_in_sname
        (extend_upto (file_in (overload (items os))) file m 1218 125 (accepted os) when_in_file u)

    all_upto : Upto 1404 (all_fields m)
    unfolding all_fields
    all_upto = go (judge options false (parse 0 0 (bytes options m))) (field_holds options (bytes options m) (all_field options m b) (reads (bytes options m)) false)
      where
        go : (w : Reading) → FromOn (bytes options m) 0 w → Upto 1404 (further m (and_then [] w))
        go (accepted os) h = by_52 os h (eqb (overload (items os)) 0) refl
        go (refused k p) h = tt

    message_upto : Upto 1404 (read_message m)
    unfolding read_message
    message_upto = go (ltb (length m) shortest) (ltb longest (length m)) (same (take 4 (drop 236 m)) cookie)
      where
        go : (x y z : Bool) → Upto 1404 (cond x (refused 1 (length m)) (cond y (refused 2 (length m)) (cond z (all_fields m) (refused 3 236))))
        go true y z = tt
        go false true z = tt
        go false false true = all_upto
        go false false false = tt

-- ---- 52 itself comes in one piece

one_52 : (m : List ℕ) → AllBytes m → IsAccepted m → (o : Opt) (os : List Opt) → PiecesOf m 52 (o ∷ os) → length (end_to_end (o ∷ os)) ≤ 255
unfolding end_to_end
one_52 m b a o [] p = omega (arith, length-append o.item.body [], piece_small (all_field o.field m b) ((p.lists o).0 (inl refl)).0.stands.option)
one_52 m b a o (q ∷ os) p =
    let e : opt o.field o.offset 52 o.item.body ≡ opt q.field q.offset 52 q.item.body = stands_once m a (holds o ((p.lists o).0 (inl refl))) (holds q ((p.lists q).0 (inr (inl refl)))) in
    absurd (apart (p.in_order o q (inl (refl, inl refl))) e)
  where
    holds : (x : Opt) → Standing m x × (52 ≡ x.item.tag) → Holds m 52
    holds x z =
        record {
          field = x.field;
          offset = x.offset;
          body = x.item.body;
          active = z.0.active;
          stands = subst (λ (n : ℕ). Stands (bytes x.field m) x.offset n x.item.body) (sym z.1) z.0.stands;
        }

    apart : Earlier o q → opt o.field o.offset 52 o.item.body ≡ opt q.field q.offset 52 q.item.body → ⊥
    apart (inl t) e = omega (arith, t, ap (λ (x : Opt). turn x.field) e)
    apart (inr t) e = omega (arith, t.1, ap (λ (x : Opt). x.offset) e)

pub options_are_short : OptionsAreShort
options_are_short m c d b a j = go (eqb c 52) refl
  where
    size : length (end_to_end (pieces c a.options)) ≡ length d
    size = ap (λ (ps : List Opt). length (end_to_end ps)) (the_pieces a j.are_pieces) ∙ ap length j.joined

    go : (t : Bool) → eqb c 52 ≡ t → length d ≤ 1404
    go true e = omega (arith, ap length j.joined, one_52 m b a j.first j.others (subst (λ (x : ℕ). PiecesOf m x (j.first ∷ j.others)) (eqb-true c 52 e) j.are_pieces))
    go false e = let w : Upto c 1404 (accepted a.options) = subst (Upto c 1404) a.reads (message_upto c (eqb-false c 52 e) m b (message_short m a)) in omega (arith, size)
