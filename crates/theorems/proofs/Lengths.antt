-- How many bytes the options of an accepted message take, and how many options there are: all of them lie within the fields. Assumes nothing.
use mathlib.Core.Path.{◌≡◌, refl, sym, ap, ◌∙◌, subst}
use mathlib.Core.List.{List, [], ◌∷◌, ◌++◌}
use mathlib.Core.Bool.{Bool, true, false, cond}
use Prim.Native.Nat.{ℕ, ◌+◌, ◌*◌, ◌≤◌}
use native.Mathlib.Omega.{arith}
use native.Mathlib.Decide.{dec_lt}
use lib.ListN.{length, take, drop, length-take, length-drop, length-append, take-append-drop}
use lib.Seq.{drop-drop}
use lib.Dec.{ltb, eqb}
use Rattle.options.specs.Message.{Field, options, file, sname, start, bytes, shortest, longest, cookie, Opt, opt, end_to_end}
use Rattle.options.specs.Refusals.{row_2}
use Rattle.options.specs.Reading.{either, Parse, parse, Reading, accepted, refused, more, wrong52, second52, judge, and_then, pieces, extend, overload_of, file_in, sname_in, all_fields, same, read_message}
use Rattle.options.specs.Writing.{size}
use Rattle.options.specs.ReadingClaims.{IsAccepted, FieldsInOrder}
use Rattle.theorems.proofs.View.{Reads, r_none, r_pad, r_end, r_beyond, r_option, reads}
use Rattle.theorems.proofs.Fields.{below, option_in_lem}
use Rattle.theorems.proofs.Reading.{no_row_of, inner}

-- "One option takes 2 bytes more than its data"
abbrev pub taken : List Opt → ℕ
taken [] = 0
taken (o ∷ os) = size o.item + taken os

pub taken_count : (os : List Opt) → 2 * length os ≤ taken os
taken_count [] = omega arith
taken_count (o ∷ os) = omega (arith, taken_count os)

taken_append : (os ps : List Opt) → taken (os ++ ps) ≡ taken os + taken ps
taken_append [] ps = omega arith
taken_append (o ∷ os) ps = omega (arith, taken_append os ps)

-- the options take at most n bytes
abbrev Within : ℕ → Reading → Type 0
Within n (accepted os) = taken os ≤ n
Within n (refused k p) = Unit {0}

-- the options of a field, from offset s on
abbrev FromOn : List ℕ → ℕ → Reading → Type 0
FromOn f s (accepted os) = s + taken os ≤ length f
FromOn f s (refused k p) = Unit {0}

one_more : (f : List ℕ) (s : ℕ) (o : Opt) (w : Reading) → FromOn f (s + 2 + length o.item.body) w → FromOn f s (more o w)
one_more f s o (accepted os) h = omega arith
one_more f s o (refused k p) h = tt

field_holds : (fd : Field) (f : List ℕ) {s : ℕ} {p : Parse} → Reads f s p → s ≤ length f → (met : Bool) → FromOn f s (judge fd met p)
unfolding judge
field_holds fd f (r_none e) h met = tt
field_holds fd f (r_pad {s = s} {p = p} x r) h met = less (judge fd met p) (field_holds fd f r (omega (arith, below f s 0 x.after x.reads)) met)
  where
    less : (w : Reading) → FromOn f (s + 1) w → FromOn f s w
    less (accepted os) l = omega arith
    less (refused k p) l = tt
field_holds fd f (r_end x) h met = omega arith
field_holds fd f (r_beyond x) h met = tt
field_holds fd f (r_option {s = s} {c = c} {d = d} {p = p} o t) h met =
    go (wrong52 fd (record { tag = c; body = d })) (second52 met (record { tag = c; body = d })) (field_holds fd f t (option_in_lem o) (either (eqb c 52) met))
  where
    next : Reading
    next = judge fd (either (eqb c 52) met) p

    go : (v x : Bool) → FromOn f (s + 2 + length d) next → FromOn f s (cond v (refused 6 (start fd + s)) (cond x (refused 7 (start fd + s)) (more (opt fd s c d) next)))
    go true x g = tt
    go false true g = tt
    go false false g = one_more f s (opt fd s c d) next g

-- ---- Field after field

extend_holds : (used : Bool) (fd : Field) (m : List ℕ) (n : ℕ) (w : Reading) → Within n w → Within (n + length (bytes fd m)) (extend used fd m w)
extend_holds false fd m n (accepted os) h = omega arith
extend_holds false fd m n (refused k p) h = tt
extend_holds true fd m n (refused k p) h = tt
extend_holds true fd m n (accepted os) h =
    go (judge fd false (parse 0 0 (bytes fd m))) (field_holds fd (bytes fd m) (reads (bytes fd m)) (omega arith) false)
  where
    go : (w : Reading) → FromOn (bytes fd m) 0 w → Within (n + length (bytes fd m)) (and_then os w)
    go (accepted ps) l = omega (arith, taken_append os ps)
    go (refused k p) l = tt

all_hold : (m : List ℕ) → Within (0 + length (bytes options m) + length (bytes file m) + length (bytes sname m)) (all_fields m)
unfolding all_fields
all_hold m =
    let w : Reading = extend true options m (accepted []) in
    extend_holds (sname_in (overload_of w)) sname m (0 + length (bytes options m) + length (bytes file m)) (extend (file_in (overload_of w)) file m w)
    (extend_holds (file_in (overload_of w)) file m (0 + length (bytes options m)) w (extend_holds true options m 0 (accepted []) (omega arith)))

message_holds : (m : List ℕ) → Within (0 + length (bytes options m) + length (bytes file m) + length (bytes sname m)) (read_message m)
unfolding read_message
message_holds m = go (ltb (length m) shortest) (ltb longest (length m)) (same (take 4 (drop 236 m)) cookie)
  where
    go : (a b c : Bool)
        → Within (0 + length (bytes options m) + length (bytes file m) + length (bytes sname m))
        (cond a (refused 1 (length m)) (cond b (refused 2 (length m)) (cond c (all_fields m) (refused 3 236))))
    go true b c = tt
    go false true c = tt
    go false false true = all_hold m
    go false false false = tt

pub start_le : (fd : Field) → start fd ≤ 240
start_le options = omega arith
start_le file = omega arith
start_le sname = omega arith

pub field_le : (fd : Field) (m : List ℕ) → length (bytes fd m) ≤ length m
field_le options m = omega (arith, length-drop 240 m)
field_le file m = omega (arith, length-take 128 (drop 108 m), length-drop 108 m)
field_le sname m = omega (arith, length-take 64 (drop 44 m), length-drop 44 m)

-- what stands in a field stands in the message, from the field's first byte on
pub field_within : (fd : Field) (m : List ℕ) (k : ℕ) → 1 ≤ k → k ≤ length (bytes fd m) → start fd + k ≤ length m
field_within options m k l h = omega (arith, length-drop 240 m)
field_within file m k l h = omega (arith, length-take 128 (drop 108 m), length-drop 108 m)
field_within sname m k l h = omega (arith, length-take 64 (drop 44 m), length-drop 44 m)

pub field_part : (fd : Field) (m : List ℕ) (j n : ℕ) → j + n ≤ length (bytes fd m) → take n (drop j (bytes fd m)) ≡ take n (drop (start fd + j) m)
field_part options m j n h = ap (take n) (drop-drop j 240 m)
field_part file m j n h = inner j 128 n (drop 108 m) (omega (arith, length-take 128 (drop 108 m))) ∙ ap (take n) (drop-drop j 108 m)
field_part sname m j n h = inner j 64 n (drop 44 m) (omega (arith, length-take 64 (drop 44 m))) ∙ ap (take n) (drop-drop j 44 m)

-- the pieces of a code hold no more than all options take
pieces_less : (c : ℕ) (os : List Opt) → length (end_to_end (pieces c os)) ≤ taken os
unfolding pieces end_to_end
pieces_less c [] = omega arith
pieces_less c (o ∷ os) = go (eqb c o.item.tag) (pieces_less c os)
  where
    go : (t : Bool) → length (end_to_end (pieces c os)) ≤ taken os → length (end_to_end (cond t (o ∷ pieces c os) (pieces c os))) ≤ taken (o ∷ os)
    go true h = omega (arith, length-append o.item.body (end_to_end (pieces c os)))
    go false h = omega arith

module _ (m : List ℕ) (a : IsAccepted m) where
  pub message_short : length m ≤ 1472
  message_short = elim (dec_lt longest (length m)) [ yes h ↦ absurd (no_row_of a.reads _ _ _ (row_2 h)) | no h ↦ omega arith ]

  -- 1,232 bytes of options, 128 of file and 64 of sname
  pub options_short : taken a.options ≤ 1424
  options_short =
      let w : Within (0 + length (bytes options m) + length (bytes file m) + length (bytes sname m)) (accepted a.options) = subst (Within _) a.reads (message_holds m) in
      omega (arith, w, message_short, length-drop 240 m, length-take 128 (drop 108 m), length-take 64 (drop 44 m))

  pub few_options : length a.options ≤ 712
  few_options = omega (arith, taken_count a.options, options_short)

  pub joined_short : (c : ℕ) → length (end_to_end (pieces c a.options)) ≤ 1424
  joined_short c = omega (arith, pieces_less c a.options, options_short)

-- ---- The message is its fields, end to end

pub fields_in_order : FieldsInOrder
fields_in_order m h =
    record {
      header = take 44 m;
      cookie = take 4 (drop 236 m);
      whole = cut 44 0 m ∙ ap (λ (l : List ℕ). take 44 m ++ l) (cut 64 44 m ∙ ap (λ (l : List ℕ). take 64 (drop 44 m) ++ l) (cut 128 108 m ∙ ap (λ (l : List ℕ). take 128 (drop 108 m) ++ l) (cut 4 236 m)));
      sizes = (omega (arith, length-take 44 m), omega (arith, length-take 64 (drop 44 m), length-drop 44 m), omega (arith, length-take 128 (drop 108 m), length-drop 108 m), omega (arith, length-take 4 (drop 236 m), length-drop 236 m));
      starts = (refl, refl, refl);
    }
  where
    cut : (n k : ℕ) (l : List ℕ) → drop k l ≡ take n (drop k l) ++ drop (k + n) l
    cut n k l = sym (take-append-drop n (drop k l)) ∙ ap (λ (x : List ℕ). take n (drop k l) ++ x) (drop-drop n k l)
