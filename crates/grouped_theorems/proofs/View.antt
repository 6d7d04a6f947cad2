-- How the definition goes through a group's members, item by item. Assumes nothing.
use mathlib.Core.Path.{◌≡◌, refl, sym, ap, ap₂, ◌∙◌, subst}
use mathlib.Core.List.{List, [], ◌∷◌, ◌++◌}
use mathlib.Core.Bool.{Bool, true, false, cond}
use mathlib.Core.Logic.{◌⊎◌, inl, inr}
use Prim.Native.Nat.{ℕ, zero, suc, ◌+◌, ◌*◌, ◌≤◌, ◌<◌}
use native.Mathlib.Omega.{arith}
use lib.ListN.{length, take, drop, length-append, take-append-drop, length-drop}
use lib.Seq.{drop_at, take_at, length-take-le}
use lib.Dec.{ltb, eqb}
use borrow.Author.Tests.{eqb-true, eqb-false, ltb-true, ltb-false}
use Rattle.options.specs.Reading.{either, among}
use Rattle.options.specs.KindClaims.{AllBytes}
use Rattle.options.specs.SheetWalk.{Walk, cut_at, read_at, records_from}
use Rattle.options.specs.GroupedFile.{Item, group_data, Group, Unfit, TooShort}
use Rattle.options.specs.Grouped.{Items, none, fault, rec, grp, group_of, item_of, members, body, behind, outermost, file_of}
use Rattle.theorems.proofs.CodesPresent.{all_drop, all_take}
use Rattle.writing_theorems.proofs.SheetView.{head, tail, nothing}
use Rattle.writing_theorems.proofs.Ruled.{beyond_record}

-- ---- One item

-- equal lists, cut at one length
pub cut_same : (d y a z : List ℕ) → length d ≡ length y → d ++ a ≡ y ++ z → (d ≡ y) × (a ≡ z)
cut_same d y a z n e = (
  sym (take_at d a (length d) refl) ∙ ap₂ (λ (k : ℕ) (l : List ℕ). take k l) n e ∙ take_at y z (length y) refl,
  sym (drop_at d a (length d) refl) ∙ ap₂ (λ (k : ℕ) (l : List ℕ). drop k l) n e ∙ drop_at y z (length y) refl,
)

-- its bytes
pub item_bytes_lem : {bs d after : List ℕ} {c : ℕ} (o : Item bs c d after) → bs ≡ c ∷ o.whole.high ∷ o.whole.low ∷ (d ++ after)
item_bytes_lem {bs} {d} {after} {c} o = o.whole.reads ∙ ap (λ (l : List ℕ). c ∷ o.whole.high ∷ o.whole.low ∷ (d ++ l)) o.behind

-- bytes begin with one item
pub item_same : {bs d after y more : List ℕ} {c x : ℕ} → Item bs c d after → Item bs x y more → (c ≡ x) × (d ≡ y) × (after ≡ more)
item_same {bs} {d} {after} {y} {more} {c} {x} o q =
    let e : c ∷ o.whole.high ∷ o.whole.low ∷ (d ++ after) ≡ x ∷ q.whole.high ∷ q.whole.low ∷ (y ++ more) = sym (item_bytes_lem o) ∙ item_bytes_lem q in
    let n : length d ≡ length y = omega (arith, o.whole.size, q.whole.size, head (tail e), head (tail (tail e))) in
    let r = cut_same d y after more n (tail (tail (tail e))) in
    (head e, r.0, r.1)

pub group_same : (name members x y : List ℕ) → group_data name members ≡ group_data x y → (name ≡ x) × (members ≡ y)
group_same name members x y e = cut_same name x members y (head e) (tail e)

pub unfit_item : {bs d after : List ℕ} {c : ℕ} → Unfit bs → Item bs c d after → ⊥
unfit_item p o = beyond_record p o.whole

pub short_group : (d name members : List ℕ) → TooShort d → d ≡ group_data name members → ⊥
short_group d name members (inl z) e = nothing (sym z ∙ e)
short_group d name members (inr z) e =
    let f : z.0 ∷ z.1 ≡ length name ∷ (name ++ members) = sym z.2 ∙ e in
    let n : length z.1 ≡ length name + length members = ap length (tail f) ∙ length-append name members in
    omega (arith, z.3, head f)

pub item_length : {bs d after : List ℕ} {c : ℕ} → Item bs c d after → length bs ≡ 3 + length d + length after
item_length {bs} {d} {after} o = let n : length bs ≡ suc (suc (suc (length (d ++ after)))) = ap length (item_bytes_lem o) in omega (arith, length-append d after)

pub group_length : (name members : List ℕ) → length (group_data name members) ≡ 1 + length name + length members
group_length name members = omega (arith, length-append name members)

-- ---- What the definition makes of a group's members

pub walk_skip : (at k : ℕ) (bs : List ℕ) → records_from at k bs ≡ records_from (at + k) 0 (drop k bs)
unfolding records_from
walk_skip at zero bs = let z : at ≡ at + 0 = omega arith in ap (λ (n : ℕ). records_from n 0 bs) z
walk_skip at (suc k) [] = refl
walk_skip at (suc k) (b ∷ bs) = let z : at + 1 + k ≡ at + suc k = omega arith in walk_skip (at + 1) k bs ∙ ap (λ (n : ℕ). records_from n 0 (drop k bs)) z

-- the items from place p on, where bs is left of the surroundings, and d depths are left for a group there
pub data Reads : ℕ → ℕ → List ℕ → Items → Type 0 where
  r_none : {d p : ℕ} → Reads d p [] none
  r_unfit : {d p : ℕ} {bs : List ℕ} → Unfit bs → Reads d p bs (fault 20 p)
  r_short : {d p : ℕ} {bs x after : List ℕ} → Item bs 0 x after → TooShort x → Reads d p bs (fault 20 p)
  r_tag : {d p c : ℕ} {bs x after : List ℕ} → Item bs c x after → (c ≡ 52) ⊎ (c ≡ 255) → Reads d p bs (fault 10 p)
  r_record : {d p c : ℕ} {bs x after : List ℕ} {rest : Items} → Item bs c x after → (c ≡ 0 → ⊥) → ((c ≡ 52) ⊎ (c ≡ 255) → ⊥) → Reads d (p + 3 + length x) after rest
      → Reads d p bs (rec p (record { tag = c; body = x }) rest)
  r_group : {d p : ℕ} {bs after : List ℕ} {inside rest : Items} (name members : List ℕ) → Group bs name members after → Reads d (p + 4 + length name) members inside
      → Reads (suc d) (p + 3 + length (group_data name members)) after rest → Reads (suc d) p bs (grp p name inside rest)
  r_deep : {p : ℕ} {bs after : List ℕ} {rest : Items} (name members : List ℕ) → Group bs name members after → Reads 0 (p + 3 + length (group_data name members)) after rest
      → Reads 0 p bs (grp p name (fault 21 p) rest)

pub neither_tag : (b : ℕ) → eqb b 52 ≡ false → eqb b 255 ≡ false → (b ≡ 52) ⊎ (b ≡ 255) → ⊥
neither_tag b x y (inl z) = eqb-false b 52 x z
neither_tag b x y (inr z) = eqb-false b 255 y z

-- the data of a group, taken apart
pub named : (n : ℕ) (rs : List ℕ) → n ≤ length rs → n ∷ rs ≡ group_data (take n rs) (drop n rs)
named n rs h = ap₂ (λ (k : ℕ) (l : List ℕ). k ∷ l) (sym (length-take-le n rs h)) (sym (take-append-drop n rs))

-- the item that three bytes and enough more begin with
pub item_of_lem : (b h l : ℕ) (ds : List ℕ) → AllBytes (b ∷ h ∷ l ∷ ds) → 256 * h + l ≤ length ds → Item (b ∷ h ∷ l ∷ ds) b (take (256 * h + l) ds) (drop (256 * h + l) ds)
item_of_lem b h l ds a le =
    record {
      whole = record {
        high = h;
        low = l;
        after = drop (256 * h + l) ds;
        reads = ap (λ (r : List ℕ). b ∷ h ∷ l ∷ r) (sym (take-append-drop (256 * h + l) ds));
        high_byte = a.1.0;
        low_byte = a.1.1.0;
        size = sym (length-take-le (256 * h + l) ds le);
      };
      behind = refl;
    }

-- the members of a group, d depths being left for a group among them
abbrev pub walked : ℕ → ℕ → List ℕ → Items
walked d p bs = members (body d) (records_from p 0 bs)

-- what is known of shorter bytes
abbrev Below : ℕ → Type 0
Below n = (d p : ℕ) (cs : List ℕ) → AllBytes cs → length cs < n → Reads d p cs (walked d p cs)

-- a group, by the depths left
by_depth : (bs : List ℕ) (p d n : ℕ) (rs after : List ℕ) (rest : Items) → AllBytes rs → n ≤ length rs → Item bs 0 (n ∷ rs) after → Below (length bs) → Reads d (p + 3 + suc (length rs)) after rest
    → Reads d p bs (grp p (take n rs) (body d p (p + 4 + n) (drop n rs)) rest)
unfolding body
by_depth bs p zero n rs after rest a m o below r =
    let e : n ∷ rs ≡ group_data (take n rs) (drop n rs) = named n rs m in
    let g : Group bs (take n rs) (drop n rs) after = subst (λ (y : List ℕ). Item bs 0 y after) e o in
    let q : p + 3 + suc (length rs) ≡ p + 3 + length (group_data (take n rs) (drop n rs)) = ap (λ (y : List ℕ). p + 3 + length y) e in
    r_deep (take n rs) (drop n rs) g (subst (λ (i : ℕ). Reads 0 i after rest) q r)
by_depth bs p (suc d) n rs after rest a m o below r =
    let e : n ∷ rs ≡ group_data (take n rs) (drop n rs) = named n rs m in
    let g : Group bs (take n rs) (drop n rs) after = subst (λ (y : List ℕ). Item bs 0 y after) e o in
    let q : p + 3 + suc (length rs) ≡ p + 3 + length (group_data (take n rs) (drop n rs)) = ap (λ (y : List ℕ). p + 3 + length y) e in
    let k : p + 4 + n ≡ p + 4 + length (take n rs) = ap (λ (i : ℕ). p + 4 + i) (sym (length-take-le n rs m)) in
    let w : walked d (p + 4 + n) (drop n rs) ≡ walked d (p + 4 + length (take n rs)) (drop n rs) = ap (λ (i : ℕ). walked d i (drop n rs)) k in
    let i : Reads d (p + 4 + length (take n rs)) (drop n rs) (walked d (p + 4 + n) (drop n rs))
    = rw w (below d (p + 4 + length (take n rs)) (drop n rs) (all_drop n rs a) (omega (arith, length-drop n rs, item_length o))) in
    r_group (take n rs) (drop n rs) g i (subst (λ (i : ℕ). Reads (suc d) i after rest) q r)

group_reads : (bs : List ℕ) (p d : ℕ) (y after : List ℕ) (rest : Items) → AllBytes y → Item bs 0 y after → Below (length bs) → Reads d (p + 3 + length y) after rest
    → Reads d p bs (group_of (body d) p y rest)
group_reads bs p d [] after rest a o below r = r_short o (inl refl)
group_reads bs p d (n ∷ rs) after rest a o below r = go (ltb (length rs) n) refl
  where
    go : (t : Bool) → ltb (length rs) n ≡ t → Reads d p bs (cond t (fault 20 p) (grp p (take n rs) (body d p (p + 4 + n) (drop n rs)) rest))
    go true q = r_short o (inr (n, rs, refl, ltb-true (length rs) n q))
    go false q = by_depth bs p d n rs after rest a.1 (ltb-false (length rs) n q) o below r

-- a whole item
item_reads : (bs : List ℕ) (p d b : ℕ) (y after : List ℕ) (rest : Items) → AllBytes y → Item bs b y after → Below (length bs) → Reads d (p + 3 + length y) after rest
    → Reads d p bs (item_of (body d) p (record { tag = b; body = y }) rest)
item_reads bs p d b y after rest a o below r = go (eqb b 0) (eqb b 52) (eqb b 255) refl refl refl
  where
    go : (t u v : Bool) → eqb b 0 ≡ t → eqb b 52 ≡ u → eqb b 255 ≡ v
        → Reads d p bs (cond t (group_of (body d) p y rest) (cond (either u (either v false)) (fault 10 p) (rec p (record { tag = b; body = y }) rest)))
    go true u v x z w = group_reads bs p d y after rest a (subst (λ (c : ℕ). Item bs c y after) (eqb-true b 0 x) o) below r
    go false true v x z w = r_tag o (inl (eqb-true b 52 z))
    go false false true x z w = r_tag o (inr (eqb-true b 255 w))
    go false false false x z w = r_record o (eqb-false b 0 x) (neither_tag b z w) r

step : (d p : ℕ) (bs : List ℕ) → AllBytes bs → Below (length bs) → Reads d p bs (walked d p bs)
unfolding members records_from
step d p [] a below = r_none
step d p (b ∷ []) a below = r_unfit (record { tag = b; after = []; reads = refl; beyond = inl (omega arith) })
step d p (b ∷ h ∷ []) a below = r_unfit (record { tag = b; after = h ∷ []; reads = refl; beyond = inl (omega arith) })
step d p (b ∷ h ∷ l ∷ ds) a below = go (ltb (length ds) (256 * h + l)) refl
  where
    go : (t : Bool) → ltb (length ds) (256 * h + l) ≡ t
        → Reads d p (b ∷ h ∷ l ∷ ds) (members (body d) (cond t (cut_at p) (read_at p (record { tag = b; body = take (256 * h + l) ds }) (records_from (p + 1 + 1 + 1) (256 * h + l) ds))))
    go true q = r_unfit (record { tag = b; after = h ∷ l ∷ ds; reads = refl; beyond = inr (h, l, ds, refl, ltb-true (length ds) (256 * h + l) q) })
    go false q =
        let le : 256 * h + l ≤ length ds = ltb-false (length ds) (256 * h + l) q in
        let n : p + 1 + 1 + 1 + (256 * h + l) ≡ p + 3 + length (take (256 * h + l) ds) = omega (arith, length-take-le (256 * h + l) ds le) in
        let e : members (body d) (records_from (p + 1 + 1 + 1) (256 * h + l) ds) ≡ walked d (p + 3 + length (take (256 * h + l) ds)) (drop (256 * h + l) ds)
        = ap (members (body d)) (walk_skip (p + 1 + 1 + 1) (256 * h + l) ds) ∙ ap (λ (k : ℕ). walked d k (drop (256 * h + l) ds)) n in
        item_reads (b ∷ h ∷ l ∷ ds) p d b (take (256 * h + l) ds) (drop (256 * h + l) ds) (members (body d) (records_from (p + 1 + 1 + 1) (256 * h + l) ds)) (all_take (256 * h + l) ds a.1.1.1) (item_of_lem b h l ds a le) below
        (rw e (below d (p + 3 + length (take (256 * h + l) ds)) (drop (256 * h + l) ds) (all_drop (256 * h + l) ds a.1.1.1) (omega (arith, length-drop (256 * h + l) ds))))

pub below : (fuel : ℕ) → Below fuel
below zero d p cs a m = absurd (omega arith)
below (suc fuel) d p cs a m = step d p cs a (λ e q ds b k. below fuel e q ds b (omega arith))

pub reads : (d p : ℕ) (bs : List ℕ) → AllBytes bs → Reads d p bs (walked d p bs)
reads d p bs a = below (suc (length bs)) d p bs a (omega arith)

-- ---- The file

pub data FileReads (f : List ℕ) : Items → Type 0 where
  f_none : (f ≡ []) ⊎ ((c : ℕ) × (r : List ℕ) × (f ≡ c ∷ r) × (c ≡ 0 → ⊥)) → FileReads f (fault 20 0)
  f_unfit : Unfit f → FileReads f (fault 20 0)
  f_short : {x after : List ℕ} → Item f 0 x after → TooShort x → FileReads f (fault 20 0)
  f_group : {after : List ℕ} {inside : Items} (name members : List ℕ) → Group f name members after → Reads 3 (4 + length name) members inside
      → FileReads f (grp 0 name inside (behind (3 + length (group_data name members)) after))

file_group : (f : List ℕ) (n : ℕ) (rs after : List ℕ) → AllBytes rs → n ≤ length rs → Item f 0 (n ∷ rs) after
    → FileReads f (grp 0 (take n rs) (body 4 0 (0 + 4 + n) (drop n rs)) (behind (3 + suc (length rs)) after))
unfolding body
file_group f n rs after a m o =
    let e : n ∷ rs ≡ group_data (take n rs) (drop n rs) = named n rs m in
    let g : Group f (take n rs) (drop n rs) after = subst (λ (y : List ℕ). Item f 0 y after) e o in
    let q : 3 + suc (length rs) ≡ 3 + length (group_data (take n rs) (drop n rs)) = ap (λ (y : List ℕ). 3 + length y) e in
    let k : 4 + n ≡ 4 + length (take n rs) = ap (λ (i : ℕ). 4 + i) (sym (length-take-le n rs m)) in
    let w : walked 3 (4 + n) (drop n rs) ≡ walked 3 (4 + length (take n rs)) (drop n rs) = ap (λ (i : ℕ). walked 3 i (drop n rs)) k in
    subst (λ (i : ℕ). FileReads f (grp 0 (take n rs) (walked 3 (4 + n) (drop n rs)) (behind i after))) (sym q)
    (f_group (take n rs) (drop n rs) g (rw w (reads 3 (4 + length (take n rs)) (drop n rs) (all_drop n rs a))))

file_data : (f y after : List ℕ) → AllBytes y → Item f 0 y after → FileReads f (group_of (body 4) 0 y (behind (3 + length y) after))
file_data f [] after a o = f_short o (inl refl)
file_data f (n ∷ rs) after a o = go (ltb (length rs) n) refl
  where
    go : (t : Bool) → ltb (length rs) n ≡ t → FileReads f (cond t (fault 20 0) (grp 0 (take n rs) (body 4 0 (0 + 4 + n) (drop n rs)) (behind (3 + suc (length rs)) after)))
    go true q = f_short o (inr (n, rs, refl, ltb-true (length rs) n q))
    go false q = file_group f n rs after a.1 (ltb-false (length rs) n q) o

-- what follows the outermost group in the file
item_drop : {bs d after : List ℕ} {c : ℕ} → Item bs c d after → drop (3 + length d) bs ≡ after
item_drop {bs} {d} {after} o =
    let q : 3 + length d ≡ suc (suc (suc (length d))) = omega arith in
    ap (λ (k : ℕ). drop k bs) q ∙ ap (drop (suc (suc (suc (length d))))) (item_bytes_lem o) ∙ drop_at d after (length d) refl

pub file_item : (f : List ℕ) (b : ℕ) (y after : List ℕ) (rest : Walk) → AllBytes y → Item f b y after → FileReads f (outermost f (read_at 0 (record { tag = b; body = y }) rest))
file_item f b y after rest a o = go (eqb b 0) refl
  where
    go : (t : Bool) → eqb b 0 ≡ t → FileReads f (cond t (group_of (body 4) 0 y (behind (3 + length y) (drop (3 + length y) f))) (fault 20 0))
    go true e = rw (item_drop o) (file_data f y after a (subst (λ (c : ℕ). Item f c y after) (eqb-true b 0 e) o))
    go false e = f_none (inr (b, _, item_bytes_lem o, eqb-false b 0 e))

pub file_reads : (f : List ℕ) → AllBytes f → FileReads f (file_of f)
unfolding file_of records_from
file_reads [] a = f_none (inl refl)
file_reads (b ∷ []) a = f_unfit (record { tag = b; after = []; reads = refl; beyond = inl (omega arith) })
file_reads (b ∷ h ∷ []) a = f_unfit (record { tag = b; after = h ∷ []; reads = refl; beyond = inl (omega arith) })
file_reads (b ∷ h ∷ l ∷ ds) a = go (ltb (length ds) (256 * h + l)) refl
  where
    go : (t : Bool) → ltb (length ds) (256 * h + l) ≡ t
        → FileReads (b ∷ h ∷ l ∷ ds) (outermost (b ∷ h ∷ l ∷ ds) (cond t (cut_at 0) (read_at 0 (record { tag = b; body = take (256 * h + l) ds }) (records_from (0 + 1 + 1 + 1) (256 * h + l) ds))))
    go true q = f_unfit (record { tag = b; after = h ∷ l ∷ ds; reads = refl; beyond = inr (h, l, ds, refl, ltb-true (length ds) (256 * h + l) q) })
    go false q =
        let le : 256 * h + l ≤ length ds = ltb-false (length ds) (256 * h + l) q in
        file_item (b ∷ h ∷ l ∷ ds) b (take (256 * h + l) ds) (drop (256 * h + l) ds) (records_from (0 + 1 + 1 + 1) (256 * h + l) ds) (all_take (256 * h + l) ds a.1.1.1) (item_of_lem b h l ds a le)
