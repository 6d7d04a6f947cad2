-- Option 52 before the records. Assumes nothing.
use mathlib.Core.Path.{◌≡◌, sym, ap, ap₂, subst, ◌∙◌}
use mathlib.Core.List.{List, [], ◌∷◌, ◌++◌}
use Prim.Native.Nat.{ℕ, ◌-◌, ◌≤◌}
use native.Mathlib.Omega.{arith}
use lib.ListN.{length, take, drop, length-drop, length-append}
use borrow.Rule.Slice.PartMut.{put_mid, mid_of}
use borrow.Author.Tests.{ne_eqb}
use Rattle.options.specs.Message.{Rec}
use Rattle.options.specs.Writing.{with52, past_options}
use Rattle.plan.specs.Steps.{left_over}
use Rattle.plan.proofs.Sizes.{past}
use Rattle.writer.specs.Fill.{filled, Left}
use Rattle.field_writer.specs.Room.{with_option}
use Rattle.field_writer.proofs.Bytes.{with_option_lem}
use Rattle.buffer.proofs.Copied.{mid_rest, put_rest}
use Rattle.writer.proofs.Filling.{fill_more}

abbrev pub option52 : ℕ → Rec
option52 p = record { tag = 52; body = p ∷ [] }

-- a plan without it
pub alone : (s : List ℕ) (single p n : ℕ) (rs : List Rec) (ys : List ℕ) (r : ℕ) → p ≡ 0 → ys ≡ filled n rs → Left s single (left_over n rs) r → (ys ≡ filled n (with52 p rs)) × Left s single (past_options p n rs) r
unfolding past_options
alone s single p n rs ys r z y q = rw z (y, q)

module _ (p : ℕ) (rs : List Rec) (z : p ≡ 0 → ⊥) where
  first : with52 p rs ≡ option52 p ∷ rs
  first = rw (ne_eqb p 0 z)

  -- written, and the records after it
  module _ (field x ys : List ℕ) (h : 4 ≤ length field) (e : x ≡ with_option field 52 (p ∷ [])) where
    is : x ≡ (52 ∷ 1 ∷ p ∷ []) ++ drop 3 field
    is = e ∙ with_option_lem field (p ∷ []) 52 (omega arith) (omega arith)

    same52 : length x ≡ length field
    same52 = ap length is ∙ length-append (52 ∷ 1 ∷ p ∷ []) (drop 3 field) ∙ simp length-drop (omega arith)

    lent : length (mid_of 3 (length x - 3) x) ≡ length field - 3
    lent = ap length (mid_rest 3 x) ∙ length-drop 3 x ∙ ap (λ (k : ℕ). k - 3) same52

    pub after : ys ≡ filled (length (mid_of 3 (length x - 3) x)) rs → put_mid 3 (length x - 3) x ys ≡ filled (length field) (with52 p rs)
    after y =
        put_rest 3 x ys (omega (arith, same52))
        ∙ ap₂ (λ (a b : List ℕ). take 3 a ++ b) is (y ∙ ap (λ (k : ℕ). filled k rs) lent)
        ∙ sym (fill_more (length field) (option52 p) rs h)
        ∙ ap (filled (length field)) (sym first)

    pub from52 : (s : List ℕ) (single r : ℕ) → Left s single (left_over (length (mid_of 3 (length x - 3) x)) rs) r → Left s single (past_options p (length field) rs) r
    from52 s single r q = subst (λ (ts : List Rec). Left s single ts r) (ap (λ (k : ℕ). left_over k rs) lent ∙ sym (past (length field) rs h p z)) q
