-- FOR CALLERS: the joined bytes of a code, option by option; and how they are put, at each turn. Assumes nothing.
use mathlib.Core.Path.{◌≡◌, refl, ap, ◌∙◌}
use mathlib.Core.Bool.{Bool, true, false, cond}
use mathlib.Core.List.{List, [], ◌∷◌, ◌++◌}
use Prim.Native.Nat.{ℕ, ◌+◌}
use lib.Dec.{eqb}
use lib.ListN.{take, drop}
use borrow.Author.Tests.{eq-eqb, ne_eqb}
use Rattle.std.specs.Prelude.{Some, None}
use Rattle.options.specs.Message.{start, Opt, opt, end_to_end}
use Rattle.options.specs.Reading.{pieces}
use Rattle.message.specs.Fields.{field_of}
use Rattle.cursor.specs.declared.Position.{Position}
use Rattle.cursor.specs.declared.Item.{Item}
use Rattle.cursor.specs.declared.Options.{Options}
use Rattle.cursor.specs.Cursor.{after, left, Step}
use Rattle.cursor.proofs.Steps.{Over, Next, over_done, over_next, over_moved}
use Rattle.text.specs.Text.{Puts}
use Rattle.text.proofs.Putting.{Left, left_more, left_none}
use Rattle.gather.specs.Joined.{joined_from}

module _ (v : ℕ) (m : List ℕ) (p : Position) (c : ℕ) where
  pub joined_none : left v m p ≡ [] → joined_from v m p c ≡ []
  unfolding joined_from pieces end_to_end
  joined_none e = rw e refl

  pub joined_next : (q : Position) (o : Opt) → left v m p ≡ o ∷ left v m q → joined_from v m p c ≡ cond (eqb c o.item.tag) o.item.body [] ++ joined_from v m q c
  unfolding joined_from pieces end_to_end
  joined_next q o e = rw e (go (eqb c o.item.tag))
    where
      go : (t : Bool) → end_to_end (cond t (o ∷ pieces c (left v m q)) (pieces c (left v m q))) ≡ cond t o.item.body [] ++ end_to_end (pieces c (left v m q))
      go true = refl
      go false = refl

-- what is left to put, at a turn
module _ (v : ℕ) (m : List ℕ) (c : ℕ) {b : List ℕ} {at : ℕ} {xs a : List ℕ} {o : ℕ} {s t : Options} (l : Left b at xs a o (joined_from v m s.at c)) (g : Over v m s) where
  pub pieces_done : Step s None t → Puts b at xs o a
  pieces_done h = left_none l (joined_none v m s.at c (over_done g h))

  module _ {x : Item} (h : Step s (Some x) t) where
    joined_then : (k : Bool) → eqb c x.code ≡ k → joined_from v m s.at c ≡ cond k (over_next g h).body [] ++ joined_from v m t.at c
    joined_then k e =
        let y : Next v m s.at x = over_next g h in
        joined_next v m s.at c (after x.field x.offset x.len) (opt (field_of x.field) x.offset x.code y.body) y.is
        ∙ ap (λ (q : Position). cond (eqb c x.code) y.body [] ++ joined_from v m q c) (over_moved h)
        ∙ ap (λ (d : Bool). cond d y.body [] ++ joined_from v m t.at c) e

    pub piece_passed : (c ≡ x.code → ⊥) → Left b at xs a o (joined_from v m t.at c)
    piece_passed e = rw (← joined_then false (ne_eqb c x.code e)) l

    pub piece_put : {n k : ℕ} {d : List ℕ} → c ≡ x.code → n ≡ start (field_of x.field) → Puts a o (take x.len (drop (n + x.offset + 2) m)) k d → Left b at xs d k (joined_from v m t.at c)
    piece_put e z p =
        left_more l (over_next g h).body (joined_from v m t.at c) (joined_then true (eq-eqb c x.code e)) (rw (z, ← (over_next g h).own) at p)
