-- The statements of ReadingClaims, proved. Assumes nothing.
use mathlib.Core.Path.{◌≡◌, refl, sym, ap, ap₂, ◌∙◌, subst}
use mathlib.Core.List.{List, [], ◌∷◌}
use mathlib.Core.Bool.{cond}
use mathlib.Core.Logic.{◌⊎◌, inl, inr, ⊎_elim}
use Prim.Native.Nat.{ℕ, zero, suc, ◌+◌, ◌≤◌, ◌<◌}
use native.Mathlib.Omega.{arith}
use lib.ListN.{length, take, drop, length-take}
use lib.Seq.{drop-drop, take_at, take-take}
use lib.Dec.{eqb}
use Rattle.options.specs.Message.{Field, options, file, sname, start, bytes, turn, Opt, opt, data_start, OptionAt, Stands, Holds, held_option, Standing, Earlier, In, Precedes}
use Rattle.options.specs.Refusals.{When, within, Row, row_1, row_2, row_3, row_4, row_5, row_6, row_7, Before, by_part, by_offset, by_number, First}
use Rattle.options.specs.Reading.{Reading, accepted, refused, read_message}
use Rattle.options.specs.ReadingClaims.{RefusedByTheTable, IsAccepted, AcceptedByTheTable, OwnBytes, CorrectList, Correct, ReadingIsCorrect}
use Rattle.theorems.proofs.Fields.{option_in_lem, compare}
use Rattle.theorems.proofs.Messages.{Clean, Upto, says}

-- ---- the first row is one

pub order : (a b : When) → Before a b ⊎ ((a ≡ b) ⊎ Before b a)
order a b = parts (compare a.part b.part)
  where
    numbers : a.part ≡ b.part → a.offset ≡ b.offset → (a.number < b.number) ⊎ ((a.number ≡ b.number) ⊎ (b.number < a.number)) → Before a b ⊎ ((a ≡ b) ⊎ Before b a)
    numbers e f (inl z) = inl (by_number e f z)
    numbers e f (inr (inl z)) = inr (inl (ap₂ (λ (x y : ℕ). record { part = x; offset = y; number = a.number }) e f ∙ ap (λ (x : ℕ). record { part = b.part; offset = b.offset; number = x }) z))
    numbers e f (inr (inr z)) = inr (inr (by_number (sym e) (sym f) z))

    offsets : a.part ≡ b.part → (a.offset < b.offset) ⊎ ((a.offset ≡ b.offset) ⊎ (b.offset < a.offset)) → Before a b ⊎ ((a ≡ b) ⊎ Before b a)
    offsets e (inl z) = inl (by_offset e z)
    offsets e (inr (inl z)) = numbers e z (compare a.number b.number)
    offsets e (inr (inr z)) = inr (inr (by_offset (sym e) z))

    parts : (a.part < b.part) ⊎ ((a.part ≡ b.part) ⊎ (b.part < a.part)) → Before a b ⊎ ((a ≡ b) ⊎ Before b a)
    parts (inl z) = inl (by_part z)
    parts (inr (inl z)) = offsets z (compare a.offset b.offset)
    parts (inr (inr z)) = inr (inr (by_part z))

-- the place that a row gives, by when it is met
abbrev place_of : List ℕ → When → ℕ
place_of m w =
    cond (eqb w.part 0) (cond (eqb w.number 3) 236 (length m))
    (cond (eqb w.part 1) (start options + w.offset) (cond (eqb w.part 2) (start file + w.offset) (start sname + w.offset)))

place_in : (m : List ℕ) (fd : Field) (i n : ℕ) → start fd + i ≡ place_of m (within fd i n)
place_in m options i n = refl
place_in m file i n = refl
place_in m sname i n = refl

given : {m : List ℕ} {n p : ℕ} {w : When} → Row m n p w → (n ≡ w.number) × (p ≡ place_of m w)
given (row_1 h) = (refl, refl)
given (row_2 h) = (refl, refl)
given (row_3 h) = (refl, refl)
given {m} (row_4 fd {i = i} a b c) = (refl, place_in m fd i 4)
given {m} (row_5 fd a b) = (refl, place_in m fd (length (bytes fd m)) 5)
given {m} (row_6 fd {i = i} a b c) = (refl, place_in m fd i 6)
given {m} (row_7 fd {i = i} a b c) = (refl, place_in m fd i 7)

pub first_one : {m : List ℕ} {n p k q : ℕ} → First m n p → First m k q → (n ≡ k) × (p ≡ q)
first_one {m} {n} {p} {k} {q} a b = go (order a.when b.when)
  where
    go : Before a.when b.when ⊎ ((a.when ≡ b.when) ⊎ Before b.when a.when) → (n ≡ k) × (p ≡ q)
    go (inl z) = absurd (b.none_before a.applies z)
    go (inr (inl z)) = (
      (given a.applies).0 ∙ ap (λ (w : When). w.number) z ∙ sym (given b.applies).0,
      (given a.applies).1 ∙ ap (place_of m) z ∙ sym (given b.applies).1,
    )
    go (inr (inr z)) = absurd (a.none_before b.applies z)

-- ---- refused, and accepted

field_part : (fd : Field) → turn fd ≤ 3
field_part options = omega arith
field_part file = omega arith
field_part sname = omega arith

row_part : {m : List ℕ} {n p : ℕ} {w : When} → Row m n p w → w.part ≤ 3
row_part (row_1 h) = omega arith
row_part (row_2 h) = omega arith
row_part (row_3 h) = omega arith
row_part (row_4 fd a b c) = field_part fd
row_part (row_5 fd a b) = field_part fd
row_part (row_6 fd a b c) = field_part fd
row_part (row_7 fd a b c) = field_part fd

pub refused_by_the_table : RefusedByTheTable
refused_by_the_table m n p = ((λ e. subst (Upto m 3) e (says m)), (λ f. back f (read_message m) (says m)))
  where
    back : First m n p → (w : Reading) → Upto m 3 w → w ≡ refused n p
    back f (refused k q) u = ap₂ refused (first_one u f).0 (first_one u f).1
    back f (accepted os) u = absurd (u.no_row f.applies (row_part f.applies))

clean : {m : List ℕ} {os : List Opt} → read_message m ≡ accepted os → Clean m 3 os
clean {m} e = subst (Upto m 3) e (says m)

pub no_row_of : {m : List ℕ} {os : List Opt} → read_message m ≡ accepted os → (n p : ℕ) (w : When) → Row m n p w → ⊥
no_row_of e n p w r = (clean e).no_row r (row_part r)

pub accepted_by_the_table : AcceptedByTheTable
accepted_by_the_table m = ((λ a. no_row_of a.reads), (λ h. back h (read_message m) refl (says m)))
  where
    back : ((n p : ℕ) (w : When) → Row m n p w → ⊥) → (w : Reading) → read_message m ≡ w → Upto m 3 w → IsAccepted m
    back h (refused k q) e u = absurd (h k q u.when u.applies)
    back h (accepted os) e u = record { options = os; reads = e }

-- ---- the options of an accepted message are those that stand, in reading order

module _ {m : List ℕ} {os : List Opt} (e : read_message m ≡ accepted os) where
  pub listed_stands : (o : Opt) → In o os → Standing m o
  listed_stands o i = ((clean e).all_stand o i).1

  pub stands_listed : (o : Opt) → Standing m o → In o os
  stands_listed o s = (clean e).all_in o (field_part o.field) s

pub listed_in_order : (m : List ℕ) {os : List Opt} → read_message m ≡ accepted os → (o q : Opt) → Precedes o q os → Earlier o q
listed_in_order m e = (clean {m = m} e).ordered

module _ {m : List ℕ} (a : IsAccepted m) where
  -- an option with the code c
  pub held : (c : ℕ) (o : Opt) → In o a.options → c ≡ o.item.tag → (h : Holds m c) × (held_option h ≡ o)
  held c o i e =
      let s = listed_stands a.reads o i in (
        record {
          field = o.field;
          offset = o.offset;
          body = o.item.body;
          active = s.active;
          stands = subst (λ (x : ℕ). Stands (bytes o.field m) o.offset x o.item.body) (sym e) s.stands;
        },
        ap (λ (x : ℕ). opt o.field o.offset x o.item.body) e,
      )

  pub holds_in : {c : ℕ} (h : Holds m c) → In (held_option h) a.options
  holds_in h = stands_listed a.reads (held_option h) (record { active = h.active; stands = h.stands })

-- ---- the bytes of an option, in the message

pub body_at : {f : List ℕ} {i c : ℕ} {d : List ℕ} → OptionAt f i c d → take (length d) (drop (i + 2) f) ≡ d
body_at {f} {i} {c} {d} o = rw (← drop-drop 2 i f, o.reads) (take_at d o.after (length d) refl)

-- a part of a list, and a part of that
pub inner : (j n k : ℕ) (xs : List ℕ) → j + k ≤ n → take k (drop j (take n xs)) ≡ take k (drop j xs)
inner zero n k xs h = take-take k n xs (omega arith)
inner (suc j) zero k xs h = absurd (omega arith)
inner (suc j) (suc n) k [] h = refl
inner (suc j) (suc n) k (x ∷ xs) h = inner j n k xs (omega arith)

within_part : (n b i c : ℕ) (d m : List ℕ) → OptionAt (take n (drop b m)) i c d → take (length d) (drop (b + i + 2) m) ≡ d
within_part n b i c d m o =
    let e : b + i + 2 ≡ b + (i + 2) = omega arith in
    let l : i + 2 + length d ≤ n = omega (arith, option_in_lem o, length-take n (drop b m)) in
    rw (e, ← drop-drop (i + 2) b m, ← inner (i + 2) n (length d) (drop b m) l) (body_at o)

pub own_bytes : OwnBytes
own_bytes m o s = go o.field s.stands.option
  where
    go : (fd : Field) → OptionAt (bytes fd m) o.offset o.item.tag o.item.body → take (length o.item.body) (drop (start fd + o.offset + 2) m) ≡ o.item.body
    go options x =
        let e : 240 + o.offset + 2 ≡ 240 + (o.offset + 2) = omega arith in
        rw (e, ← drop-drop (o.offset + 2) 240 m) (body_at x)
    go file x = within_part 128 108 o.offset o.item.tag o.item.body m x
    go sname x = within_part 64 44 o.offset o.item.tag o.item.body m x

pub listed_bytes : (m : List ℕ) {os : List Opt} → read_message m ≡ accepted os → (o : Opt) → In o os → take (length o.item.body) (drop (data_start o) m) ≡ o.item.body
listed_bytes m e o i = own_bytes m o (listed_stands e o i)

-- ---- no other reading is right

pub same_list_lem : (os ps : List Opt) → ((x : Opt) → In x os → In x ps) → ((x : Opt) → In x ps → In x os)
    → ((x y : Opt) → Precedes x y os → Precedes y x ps → ⊥) → ((x : Opt) → Precedes x x os → ⊥) → ((x : Opt) → Precedes x x ps → ⊥) → os ≡ ps
same_list_lem [] [] a b c d e = refl
same_list_lem [] (p ∷ ps) a b c d e = absurd (b p (inl refl))
same_list_lem (o ∷ os) [] a b c d e = absurd (a o (inl refl))
same_list_lem (o ∷ os) (p ∷ ps) a b c d e =
    ap₂ (λ (x : Opt) (l : List Opt). x ∷ l) one
    (same_list_lem os ps
    (λ x h. ⊎_elim (λ (z : x ≡ p). absurd (d o (inl (refl, subst (λ (y : Opt). In y os) (z ∙ sym one) h)))) (λ (z : In x ps). z) (a x (inr h)))
    (λ x h. ⊎_elim (λ (z : x ≡ o). absurd (e p (inl (refl, subst (λ (y : Opt). In y ps) (z ∙ one) h)))) (λ (z : In x os). z) (b x (inr h)))
    (λ x y h k. c x y (inr h) (inr k)) (λ x h. d x (inr h)) (λ x h. e x (inr h)))
  where
    one : o ≡ p
    one = ⊎_elim (λ (z : o ≡ p). z)
        (λ (z : In o ps). ⊎_elim (λ (y : p ≡ o). sym y) (λ (y : In p os). absurd (c o p (inl (refl, y)) (inl (refl, z)))) (b p (inl refl)))
        (a o (inl refl))

-- what is read before is not read after
pub not_both_earlier : (o q : Opt) → Earlier o q → Earlier q o → ⊥
not_both_earlier o q (inl x) (inl y) = omega arith
not_both_earlier o q (inl x) (inr y) = let z : turn q.field ≡ turn o.field = ap turn y.0 in omega arith
not_both_earlier o q (inr x) (inl y) = let z : turn o.field ≡ turn q.field = ap turn x.0 in omega arith
not_both_earlier o q (inr x) (inr y) = omega (arith, x.1, y.1)

lists_same : (m : List ℕ) (os ps : List Opt) → CorrectList m os → CorrectList m ps → os ≡ ps
lists_same m os ps a b =
    same_list_lem os ps (λ x h. (b.lists x).1 ((a.lists x).0 h)) (λ x h. (a.lists x).1 ((b.lists x).0 h))
    (λ x y h k. not_both_earlier x y (a.in_order x y h) (b.in_order y x k)) (λ x h. never x (a.in_order x x h)) (λ x h. never x (b.in_order x x h))
  where
    never : (x : Opt) → Earlier x x → ⊥
    never x e = not_both_earlier x x e e

pub is_correct : (m : List ℕ) (os : List Opt) → read_message m ≡ accepted os → CorrectList m os
is_correct m os e = record { no_row = no_row_of e; lists = λ o. (listed_stands e o, stands_listed e o); in_order = listed_in_order m e }

pub reading_is_correct : ReadingIsCorrect
reading_is_correct m w = (go w, λ c. back w c (read_message m) refl)
  where
    go : (w : Reading) → read_message m ≡ w → Correct m w
    go (refused n p) e = (refused_by_the_table m n p).0 e
    go (accepted os) e = is_correct m os e

    back : (w : Reading) → Correct m w → (x : Reading) → read_message m ≡ x → x ≡ w
    back (refused n p) c x e = sym e ∙ (refused_by_the_table m n p).1 c
    back (accepted os) c (refused k q) e = absurd (let f = (refused_by_the_table m k q).0 e in c.no_row k q f.when f.applies)
    back (accepted os) c (accepted ps) e = ap accepted (lists_same m ps os (is_correct m ps e) c)
