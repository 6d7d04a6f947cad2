-- What is found from an offset on, with pads and END or without. Assumes nothing.
use mathlib.Core.Path.{◌≡◌, refl, sym, ap, ap₂, ◌∙◌}
use mathlib.Core.Bool.{Bool, true, false}
use mathlib.Core.List.{List, ◌∷◌}
use Prim.Native.Nat.{ℕ, suc, ◌+◌, ◌≤◌, ◌<◌}
use native.Mathlib.Omega.{arith}
use lib.ListN.{length, get_or, take, drop, length-drop, drop_of_length-le}
use lib.Seq.{drop-cons, drop-drop}
use lib.Dec.{eqb}
use borrow.Author.Tests.{eq-eqb, ne_eqb, eqb-true}
use Rattle.options.specs.Message.{Rec}
use Rattle.options.specs.Reading.{ended, ran_out_value, beyond, found}
use Rattle.options.specs.SubOptions.{sub_options}
use Rattle.theorems.proofs.SubOptionRow.{past_head, past_data, stands_in}
use Rattle.theorems.proofs.View.{clash}
use Rattle.wire.proofs.Laws as field
use Rattle.item_reader.specs.Laid.{walk_of, pad_or_end_value}

-- ---- Sub-options

sub_none : (f : List ℕ) (i : ℕ) → length f ≤ i → walk_of false f i ≡ ran_out_value i
unfolding sub_options
sub_none f i h = rw (drop_of_length-le f {i = i} h) refl

sub_last : (f : List ℕ) (i : ℕ) → i < length f → length f ≤ i + 1 → walk_of false f i ≡ beyond i
sub_last f i h l = rw (drop-cons f i 0 h, drop_of_length-le f {i = suc i} (omega arith)) (past_head i (get_or f i 0))

pub heads : (f : List ℕ) (i : ℕ) → i + 1 < length f → drop i f ≡ get_or f i 0 ∷ get_or f (i + 1) 0 ∷ drop (i + 2) f
heads f i h =
    let e : suc i ≡ i + 1 = omega arith in
    let g : suc (i + 1) ≡ i + 2 = omega arith in
    drop-cons f i 0 (omega arith) ∙ ap (λ (xs : List ℕ). get_or f i 0 ∷ xs) (ap (λ (k : ℕ). drop k f) e ∙ drop-cons f (i + 1) 0 h ∙ ap (λ (k : ℕ). get_or f (i + 1) 0 ∷ drop k f) g)

sub_long : (f : List ℕ) (i : ℕ) → i + 1 < length f → length f < i + 2 + get_or f (i + 1) 0 → walk_of false f i ≡ beyond i
sub_long f i h l = rw (heads f i h) (past_data i (get_or f i 0) (get_or f (i + 1) 0) (drop (i + 2) f) (omega (arith, length-drop (i + 2) f)))

-- an item of n data bytes at offset i
abbrev pub rec_at : List ℕ → ℕ → ℕ → Rec
rec_at f i n = record { tag = get_or f i 0; body = take n (drop (i + 2) f) }

sub_found : (f : List ℕ) (i n : ℕ) → i + 1 < length f → n ≡ get_or f (i + 1) 0 → i + 2 + n ≤ length f → walk_of false f i ≡ found i (rec_at f i n) (walk_of false f (i + 2 + n))
sub_found f i n h q l =
    let e : i + (2 + n) ≡ i + 2 + n = omega arith in
    ap (λ (xs : List ℕ). sub_options i 0 xs) (heads f i h ∙ ap (λ (k : ℕ). get_or f i 0 ∷ k ∷ drop (i + 2) f) (sym q))
    ∙ stands_in i (get_or f i 0) n (drop (i + 2) f) (omega (arith, length-drop (i + 2) f))
    ∙ ap₂ (λ (k : ℕ) (xs : List ℕ). found i (rec_at f i n) (sub_options k 0 xs)) e (drop-drop n (i + 2) f)

-- ---- Both

no_pad : (c : ℕ) → pad_or_end_value true c ≡ false → c ≡ 0 → ⊥
no_pad c m e = let z : true ≡ false = rw (eq-eqb c 0 e) at m in clash (cc)

no_end : (c : ℕ) → pad_or_end_value true c ≡ false → c ≡ 255 → ⊥
no_end c m e = let z : true ≡ false = rw (e) at m in clash (cc)

a_pad : (c : ℕ) → pad_or_end_value true c ≡ true → (c ≡ 255 → ⊥) → c ≡ 0
a_pad c m n = go (eqb c 0) refl
  where
    go : (b : Bool) → eqb c 0 ≡ b → c ≡ 0
    go true q = eqb-true c 0 q
    go false q = let z : false ≡ true = rw (q, ne_eqb c 255 n) at m in clash (cc)

pub rest_none : (b : Bool) (f : List ℕ) (i : ℕ) → length f ≤ i → walk_of b f i ≡ ran_out_value i
rest_none true f i h = field.rest_none f i h
rest_none false f i h = sub_none f i h

pub rest_end : (b : Bool) (f : List ℕ) (i : ℕ) → i < length f → pad_or_end_value b (get_or f i 0) ≡ true → get_or f i 0 ≡ 255 → walk_of b f i ≡ ended
rest_end true f i h m e = field.rest_end f i h e
rest_end false f i h m e = clash (cc)

pub rest_pad : (b : Bool) (f : List ℕ) (i : ℕ) → i < length f → pad_or_end_value b (get_or f i 0) ≡ true → (get_or f i 0 ≡ 255 → ⊥) → walk_of b f i ≡ walk_of b f (i + 1)
rest_pad true f i h m e = field.rest_pad f i h (a_pad (get_or f i 0) m e)
rest_pad false f i h m e = clash (cc)

-- where the code is an item's
pub rest_last : (b : Bool) (f : List ℕ) (i : ℕ) → i < length f → pad_or_end_value b (get_or f i 0) ≡ false → length f ≤ i + 1 → walk_of b f i ≡ beyond i
rest_last true f i h m l = field.rest_last f i h (no_pad (get_or f i 0) m) (no_end (get_or f i 0) m) l
rest_last false f i h m l = sub_last f i h l

pub rest_long : (b : Bool) (f : List ℕ) (i : ℕ) → i + 1 < length f → pad_or_end_value b (get_or f i 0) ≡ false → length f < i + 2 + get_or f (i + 1) 0 → walk_of b f i ≡ beyond i
rest_long true f i h m l = field.rest_long f i (omega arith) (no_pad (get_or f i 0) m) (no_end (get_or f i 0) m) h l
rest_long false f i h m l = sub_long f i h l

pub rest_found : (b : Bool) (f : List ℕ) (i n : ℕ) → i + 1 < length f → pad_or_end_value b (get_or f i 0) ≡ false → n ≡ get_or f (i + 1) 0 → i + 2 + n ≤ length f
    → walk_of b f i ≡ found i (rec_at f i n) (walk_of b f (i + 2 + n))
rest_found true f i n h m q l = field.rest_found f i (omega arith) (no_pad (get_or f i 0) m) (no_end (get_or f i 0) m) h (omega (arith, q)) ∙ rw q refl
rest_found false f i n h m q l = sub_found f i n h q l
