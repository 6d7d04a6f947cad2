-- What is laid of the items is what is listed. Assumes nothing.
use mathlib.Core.Path.{◌≡◌, refl, ap, subst}
use mathlib.Core.List.{List, ◌∷◌}
use Prim.Native.Nat.{ℕ}
use Rattle.options.specs.Message.{Rec}
use Rattle.options.specs.Reading.{Parse, ended, ran_out_value, beyond, found}
use Rattle.options.specs.Answers.{record_bytes}
use Rattle.options.specs.Vendor.{Item, Items, listed, past, also, items_in, item_records}
use Rattle.item_reader.specs.Laid.{found_in, item_bytes, NonePast}

-- what is found is what is listed
abbrev Same : Items → List Rec → Parse → Type 0
Same (past i) rs p = Unit {0}
Same (listed xs) rs p = (rs ≡ item_records xs) × NonePast p

same_also : (i : ℕ) (x : Rec) (w : Items) (rs : List Rec) (p : Parse) → Same w rs p → Same (also (record { offset = i; item = x }) w) (x ∷ rs) (found i x p)
unfolding item_records
same_also i x (past j) rs p e = tt
same_also i x (listed xs) rs p e = (ap (λ (l : List Rec). x ∷ l) e.0, e.1)

found_same : (p : Parse) → Same (items_in p) (found_in p) p
unfolding items_in item_records found_in
found_same ended = (refl, tt)
found_same (ran_out_value i) = (refl, tt)
found_same (beyond i) = tt
found_same (found i x p) = same_also i x (items_in p) (found_in p) p (found_same p)

pub listed_bytes : (p : Parse) (xs : List Item) → items_in p ≡ listed xs → item_bytes p ≡ record_bytes (item_records xs)
unfolding item_bytes
listed_bytes p xs e = ap record_bytes (subst (λ (w : Items). Same w (found_in p) p) e (found_same p)).0

pub listed_whole : (p : Parse) (xs : List Item) → items_in p ≡ listed xs → NonePast p
listed_whole p xs e = (subst (λ (w : Items). Same w (found_in p) p) e (found_same p)).1
