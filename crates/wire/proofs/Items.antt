-- What `next_of` tells of a field from an offset on. Assumes nothing.
use mathlib.Core.Path.{◌≡◌, refl, sym, ap, ◌∙◌, subst}
use mathlib.Core.List.{List, [], ◌∷◌}
use Prim.Native.Nat.{ℕ, ◌+◌, ◌≤◌, ◌<◌}
use native.Mathlib.Omega.{arith}
use native.Mathlib.Decide.{ℕ_discrete, dec_lt}
use lib.ListN.{length, get_or, drop, length-drop}
use lib.Seq.{drop-drop}
use Rattle.options.specs.Message.{Rec}
use Rattle.options.specs.Reading.{Parse, ended, ran_out_value, beyond, found}
use Rattle.wire.specs.Walk.{item_at}
use Rattle.wire.specs.Ahead.{next_of, first_option, item_option, ItemKeepsTheOption}
use Rattle.wire.specs.declared.Item.{Item}
use Rattle.std.specs.Prelude.{Option, Some, None}
use Rattle.wire.proofs.Laws.{rest, rest_none, rest_pad, rest_end, rest_last, rest_long, rest_found, body_length}

-- from offset i on, the next option of f has its code c at offset o, and n data bytes
pub record ItemAhead (f : List ℕ) (i o c n : ℕ) : Type 0 where
  pub onward : i ≤ o
  pub within : o + 2 + n ≤ length f
  pub size : n ≡ get_or f (o + 1) 0
  pub is : rest f i ≡ found o (item_at c n f o) (rest f (o + 2 + n))

abbrev Ahead : List ℕ → ℕ → Option Item → Type 0
Ahead f i None = Unit {0}
Ahead f i (Some x) = ItemAhead f i x.offset x.code x.len

module _ (f : List ℕ) (i : ℕ) (h : i < length f) where
  after_pad : get_or f i 0 ≡ 0 → (s : Option Item) → Ahead f (i + 1) s → Ahead f i s
  after_pad z None a = tt
  after_pad z (Some x) a = record { onward = omega (arith, a.onward); within = a.within; size = a.size; is = rest_pad f i h z ∙ a.is }

  here : (get_or f i 0 ≡ 0 → ⊥) → (get_or f i 0 ≡ 255 → ⊥) → i + 1 < length f → i + 2 + get_or f (i + 1) 0 ≤ length f → Ahead f i (next_of (rest f i))
  here z e g l =
      let n : ℕ = get_or f (i + 1) 0 in
      let r = rest_found f i h z e g l in
      rw (r, body_length f i n l) (record { onward = omega arith; within = l; size = refl; is = r })

  at_code : (get_or f i 0 ≡ 0 → ⊥) → (get_or f i 0 ≡ 255 → ⊥) → Dec (i + 1 < length f) → Dec (length f < i + 2 + get_or f (i + 1) 0) → Ahead f i (next_of (rest f i))
  at_code z e (no a) b = rw (rest_last f i h z e (omega arith)) tt
  at_code z e (yes a) (yes b) = rw (rest_long f i h z e a b) tt
  at_code z e (yes a) (no b) = here z e a (omega arith)

  at_byte : Dec (get_or f i 0 ≡ 0) → Dec (get_or f i 0 ≡ 255) → Ahead f (i + 1) (next_of (rest f (i + 1))) → Ahead f i (next_of (rest f i))
  at_byte (yes z) d a = rw (rest_pad f i h z) (after_pad z (next_of (rest f (i + 1))) a)
  at_byte (no z) (yes e) a = rw (rest_end f i h e) tt
  at_byte (no z) (no e) a = at_code z e (dec_lt (i + 1) (length f)) (dec_lt (length f) (i + 2 + get_or f (i + 1) 0))

ahead : (f xs : List ℕ) (i : ℕ) → drop i f ≡ xs → Ahead f i (next_of (rest f i))
ahead f [] i e =
    let h : length f ≤ i = omega (arith, length-drop i f, ap length e) in
    rw (rest_none f i h) tt
ahead f (x ∷ xs) i e =
    let h : i < length f = omega (arith, length-drop i f, ap length e) in
    at_byte f i h (ℕ_discrete (get_or f i 0) 0) (ℕ_discrete (get_or f i 0) 255) (ahead f xs (i + 1) (sym (drop-drop 1 i f) ∙ ap (drop 1) e))

pub item_ahead : (f : List ℕ) (i : ℕ) (x : Item) → next_of (rest f i) ≡ Some x → ItemAhead f i x.offset x.code x.len
item_ahead f i x e = subst (Ahead f i) e (ahead f (drop i f) i refl)

same_item : (i : ℕ) (x y : Rec) (p q : Parse) → found i x p ≡ found i y q → x ≡ y
same_item i x y p q e = cc

pub item_keeps_the_option : ItemKeepsTheOption
item_keeps_the_option f from = go (rest f from) refl
  where
    go : (p : Parse) → rest f from ≡ p → item_option f (next_of p) ≡ first_option p
    go ended e = refl
    go (ran_out_value i) e = refl
    go (beyond i) e = refl
    go (found i x p) e =
        let n : ℕ = length x.body in
        let a = item_ahead f from (record { offset = i; code = x.tag; len = n }) (ap next_of e) in
        ap (λ (y : Rec). Some (i, y)) (same_item i (item_at x.tag n f i) x (rest f (i + 2 + n)) p (sym a.is ∙ e))
