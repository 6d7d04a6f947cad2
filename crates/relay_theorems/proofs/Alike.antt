-- Sub-options are walked as the items of vendor information are, but for pads and END. Assumes nothing.
use mathlib.Core.Path.{◌≡◌, refl, sym, ap, ◌∙◌, subst}
use mathlib.Core.Bool.{Bool, true, false, cond}
use mathlib.Core.List.{List, [], ◌∷◌}
use Prim.Native.Nat.{ℕ, zero, suc, ◌+◌}
use lib.Dec.{eqb}
use lib.ListN.{get_or}
use borrow.Author.Tests.{ne_eqb}
use Rattle.options.specs.Message.{Rec}
use Rattle.options.specs.Reading.{Parse, ended, ran_out_value, beyond, found, cut, record_of, span, item_of, parse}
use Rattle.options.specs.SubOptions.{sub_option, sub_options}
use Rattle.options.specs.Vendor.{Item, Items, listed, past, also, items_in}
use Rattle.theorems.proofs.View.{clash}
use Rattle.relay_theorems.specs.OneWalk.{Unmarked, WalkedAlike}

-- none runs past, and none has the code of a pad or of END
abbrev Free : Parse → Type 0
Free ended = Unit {0}
Free (ran_out_value i) = Unit {0}
Free (beyond i) = ⊥
Free (found i x rest) = (x.tag ≡ 0 → ⊥) × (x.tag ≡ 255 → ⊥) × Free rest

step : (at b : ℕ) (bs : List ℕ) (rest : Parse) → (Free rest → parse (at + 1) (suc (get_or bs 0 0)) bs ≡ rest) → Free (sub_option at b bs rest)
    → item_of at b bs (parse (at + 1) (span b bs) bs) ≡ sub_option at b bs rest
step at b bs rest alike = go (cut bs) refl
  where
    go : (t : Bool) → cut bs ≡ t → Free (cond t (beyond at) (found at (record_of b bs) rest)) → item_of at b bs (parse (at + 1) (span b bs) bs) ≡ cond t (beyond at) (found at (record_of b bs) rest)
    go true q f = absurd f
    go false q f = rw (ne_eqb b 0 f.0, ne_eqb b 255 f.1, q) (ap (λ (p : Parse). found at (record_of b bs) p) (alike f.2))

same : (at skip : ℕ) (s : List ℕ) → Free (sub_options at skip s) → parse at skip s ≡ sub_options at skip s
unfolding parse sub_options
same at zero [] f = refl
same at (suc k) [] f = refl
same at zero (b ∷ bs) f = step at b bs (sub_options (at + 1) (suc (get_or bs 0 0)) bs) (same (at + 1) (suc (get_or bs 0 0)) bs) f
same at (suc k) (b ∷ bs) f = same (at + 1) k bs f

free : (p : Parse) (xs : List Item) → items_in p ≡ listed xs → Unmarked xs → Free p
unfolding items_in
free ended xs e m = tt
free (ran_out_value i) xs e m = tt
free (beyond i) xs e m = clash (cc)
free (found i x p) xs e m = go (items_in p) refl e (free p)
  where
    go : (w : Items) → items_in p ≡ w → also (record { offset = i; item = x }) w ≡ listed xs → ((ys : List Item) → items_in p ≡ listed ys → Unmarked ys → Free p) → Free (found i x p)
    go (past j) q z ih = clash (cc)
    go (listed ys) q z ih =
        let u : record { offset = i; item = x } ∷ ys ≡ xs = cc in
        let n : Unmarked (record { offset = i; item = x } ∷ ys) = subst Unmarked (sym u) m in
        (n.0, n.1, ih ys q n.2)

pub walked_alike : WalkedAlike
walked_alike f xs e m = ap items_in (same 0 0 f (free (sub_options 0 0 f) xs e m)) ∙ e
