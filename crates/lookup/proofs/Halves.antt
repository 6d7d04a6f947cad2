-- A code in several pieces: where its first and its last piece stand, and when these two are all its bytes. Assumes nothing.
use mathlib.Core.Path.{◌≡◌, refl, sym, ap, ◌∙◌, subst}
use mathlib.Core.List.{List, [], ◌∷◌, ◌++◌, append-nil}
use mathlib.Core.Logic.{inl, inr}
use Prim.Native.Nat.{ℕ, zero, suc, ◌+◌, ◌-◌, ◌≤◌, ◌<◌}
use native.Mathlib.Omega.{arith}
use lib.ListN.{length, get_or, take, drop, length-take, length-append, get_or-append}
use lib.Seq.{get_or-take, get_or-drop, get_or-append-add}
use Rattle.options.specs.Message.{Field, options, file, sname, start, bytes, turn, Opt, place, OptionAt, Standing, Earlier, In, Precedes, end_to_end}
use Rattle.options.specs.Reading.{accepted, read_message, pieces}
use Rattle.theorems.proofs.Fields.{option_in_lem}
use Rattle.theorems.proofs.Reading.{listed_stands, own_bytes}
use Rattle.theorems.proofs.Pieces.{from_pieces, pieces_right}
use Rattle.theorems.proofs.Lengths.{field_within, field_part}
use Rattle.message.specs.Scan.{place_after}
use Rattle.lookup.specs.Found.{size_at, data_at}

-- ---- one option in the message

size_in : {f : List ℕ} {i c : ℕ} {d : List ℕ} → OptionAt f i c d → get_or f (i + 1) 0 ≡ length d
size_in {f} {i} o = sym (get_or-drop i f 1 0) ∙ ap (λ (l : List ℕ). get_or l 1 0) o.reads

module _ (m : List ℕ) (o : Opt) (s : Standing m o) where
  pub size_is : size_at m (place o) ≡ length o.item.body
  size_is =
      let f : List ℕ = bytes o.field m in
      let h : o.offset + 2 ≤ length f = omega (arith, option_in_lem s.stands.option) in
      sym (get_or-drop (place o) m 1 0)
      ∙ sym (get_or-take 2 (drop (place o) m) 1 0 (omega arith))
      ∙ ap (λ (l : List ℕ). get_or l 1 0) (sym (field_part o.field m o.offset 2 h))
      ∙ get_or-take 2 (drop o.offset f) 1 0 (omega arith)
      ∙ get_or-drop o.offset f 1 0
      ∙ size_in s.stands.option

  pub data_is : data_at m (place o) ≡ o.item.body
  data_is = ap (λ (n : ℕ). take n (drop (place o + 2) m)) size_is ∙ own_bytes m o s

  pub inside : place o + 2 + size_at m (place o) ≤ length m
  inside = omega (arith, size_is, field_within o.field m (o.offset + 2 + length o.item.body) (omega arith) (option_in_lem s.stands.option))

-- two options of which one is read before the other stand at different places
fields_apart : (m : List ℕ) (fd gd : Field) (i j : ℕ) → i < length (bytes fd m) → j < length (bytes gd m) → turn fd < turn gd → start gd + j < start fd + i
fields_apart m options options i j h k l = absurd (omega arith)
fields_apart m options file i j h k l = omega (arith, length-take 128 (drop 108 m))
fields_apart m options sname i j h k l = omega (arith, length-take 64 (drop 44 m))
fields_apart m file options i j h k l = absurd (omega arith)
fields_apart m file file i j h k l = absurd (omega arith)
fields_apart m file sname i j h k l = omega (arith, length-take 64 (drop 44 m))
fields_apart m sname options i j h k l = absurd (omega arith)
fields_apart m sname file i j h k l = absurd (omega arith)
fields_apart m sname sname i j h k l = absurd (omega arith)

apart : (m : List ℕ) (o q : Opt) → Standing m o → Standing m q → Earlier o q → place q ≡ place o → ⊥
apart m o q s t (inl l) e =
    omega (arith, fields_apart m o.field q.field o.offset q.offset (omega (arith, option_in_lem s.stands.option)) (omega (arith, option_in_lem t.stands.option)) l, e)
apart m o q s t (inr l) e = omega (arith, ap start l.0, l.1, e)

-- ---- the last piece

abbrev pub last_of : Opt → List Opt → Opt
last_of o [] = o
last_of o (q ∷ qs) = last_of q qs

pub last_place : (o : Opt) (qs : List Opt) → place_after (place o) qs ≡ place (last_of o qs)
unfolding place_after
last_place o [] = refl
last_place o (q ∷ qs) = last_place q qs

pub last_in : (o : Opt) (qs : List Opt) → In (last_of o qs) (o ∷ qs)
last_in o [] = inl refl
last_in o (q ∷ qs) = inr (last_in q qs)

-- the bytes of several pieces are no fewer than those of the last; where they are as many, there are no others
no_fewer : (o : Opt) (qs : List Opt) → length (last_of o qs).item.body ≤ length (end_to_end (o ∷ qs))
unfolding end_to_end
no_fewer o [] = omega (arith, length-append o.item.body [])
no_fewer o (q ∷ qs) = omega (arith, no_fewer q qs, length-append o.item.body (end_to_end (q ∷ qs)))

none : (d e : List ℕ) → length d ≡ 0 → d ++ e ≡ e
none [] e h = refl
none (x ∷ d) e h = absurd (omega (arith, h))

pub only_last : (o : Opt) (qs : List Opt) → length (end_to_end (o ∷ qs)) ≡ length (last_of o qs).item.body → end_to_end (o ∷ qs) ≡ (last_of o qs).item.body
unfolding end_to_end
only_last o [] h = append-nil o.item.body
only_last o (q ∷ qs) h =
    let l : length (o.item.body ++ end_to_end (q ∷ qs)) ≡ length o.item.body + length (end_to_end (q ∷ qs)) = length-append o.item.body (end_to_end (q ∷ qs)) in
    let n = no_fewer q qs in
    none o.item.body (end_to_end (q ∷ qs)) (omega (arith, h, l, n)) ∙ only_last q qs (omega (arith, h, l, n))

-- ---- bytes of two parts

pub byte_first : (a b : List ℕ) (i : ℕ) → i < length a → get_or a i 0 ≡ get_or (a ++ b) i 0
byte_first a b i h = sym (get_or-append a b 0 i h)

pub byte_last : (a b : List ℕ) (i : ℕ) → length a ≤ i → get_or b (i - length a) 0 ≡ get_or (a ++ b) i 0
byte_last a b i h =
    let e : i ≡ length a + (i - length a) = omega arith in
    sym (ap (λ (k : ℕ). get_or (a ++ b) k 0) e ∙ get_or-append-add a b (i - length a) 0)

pub four_bytes : (d : List ℕ) (p q r s : ℕ) → p ≡ get_or d 0 0 → q ≡ get_or d 1 0 → r ≡ get_or d 2 0 → s ≡ get_or d 3 0
    → (i : ℕ) → i < 4 → get_or (p ∷ q ∷ r ∷ s ∷ []) i 0 ≡ get_or d i 0
four_bytes d p q r s e f g h zero l = e
four_bytes d p q r s e f g h (suc zero) l = f
four_bytes d p q r s e f g h (suc (suc zero)) l = g
four_bytes d p q r s e f g h (suc (suc (suc zero))) l = h
four_bytes d p q r s e f g h (suc (suc (suc (suc i)))) l = absurd (omega arith)

-- ---- the first and the last piece of an accepted message

module _ (m : List ℕ) (os : List Opt) (reads : read_message m ≡ accepted os) (c : ℕ) where
  pub piece_stands : (o : Opt) → In o (pieces c os) → Standing m o
  piece_stands o i = listed_stands reads o (from_pieces c os o i).0

  module _ (o q : Opt) (qs : List Opt) (e : pieces c os ≡ o ∷ q ∷ qs) where
    pub first_stands : Standing m o
    first_stands = piece_stands o (subst (In o) (sym e) (inl refl))

    pub last_stands : Standing m (last_of q qs)
    last_stands = piece_stands (last_of q qs) (subst (In (last_of q qs)) (sym e) (inr (last_in q qs)))

    pub last_apart : place (last_of q qs) ≡ place o → ⊥
    last_apart = apart m o (last_of q qs) first_stands last_stands ((pieces_right m (record { options = os; reads = reads }) c).in_order o (last_of q qs) (subst (Precedes o (last_of q qs)) (sym e) (inl (refl, last_in q qs))))

    -- where these two have as many bytes as all pieces, they are all
    pub both_all : length o.item.body + length (last_of q qs).item.body ≡ length (end_to_end (o ∷ q ∷ qs)) → o.item.body ++ (last_of q qs).item.body ≡ end_to_end (o ∷ q ∷ qs)
    unfolding end_to_end
    both_all h = ap (λ (l : List ℕ). o.item.body ++ l) (sym (only_last q qs (omega (arith, h, length-append o.item.body (end_to_end (q ∷ qs))))))
