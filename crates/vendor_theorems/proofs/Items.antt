-- The reader gives the items that stand in the bytes, or the place where one runs past; no other answer is right. Assumes nothing.
use mathlib.Core.Path.{◌≡◌, refl, sym, ap, ap₂, ◌∙◌, subst}
use mathlib.Core.List.{List, [], ◌∷◌, ◌++◌}
use mathlib.Core.Logic.{◌⊎◌, ◌↔◌, inl, inr, ⊎_elim}
use Prim.Native.Nat.{ℕ, ◌+◌, ◌*◌, ◌/◌, ◌%◌, ◌≤◌, ◌<◌}
use native.Mathlib.Omega.{arith}
use native.Mathlib.Decide.{dec_lt}
use lib.ListN.{length, drop, length-append}
use borrow.Author.Tests.{lt-ltb, le-ltb}
use Rattle.options.specs.Message.{PadAt, OptionAt, first}
use Rattle.options.specs.Refusals.{Beyond}
use Rattle.options.specs.Reading.{Parse, parse}
use Rattle.options.specs.Answers.{record_bytes, Filled, unfilled}
use Rattle.options.specs.Vendor.{Item, item_at, Items, listed, past, also, items_in, item_records, vendor_in, vendor_records_value}
use Rattle.options.specs.VendorClaims.{RunsPast, InItems, ItemPrecedes, ItemsOf, filled, RecordsAre, no_item, one_item, ReadsItems, read_17, read_11, reads, VendorReaderIsCorrect, VendorRoomIsEnough}
use Rattle.theorems.proofs.View as view
use Rattle.theorems.proofs.View.{From, here, pad, from_le, begins_from, from_begins, Reads, r_none, r_pad, r_end, r_beyond, r_option}
use Rattle.theorems.proofs.Fields.{nothing, pad_option, end_option, beyond_pad, beyond_end, beyond_option, option_same, from_none, from_end, from_beyond, from_pad, from_option, one_way, beyond_here, option_here, below, option_in_lem}

-- what the end rule gives of the rest of the bytes
record Lists (f : List ℕ) (s : ℕ) (xs : List Item) : Type 0 where
  none_past : {k : ℕ} → From f k s → Beyond f k → ⊥
  all_in : {i c : ℕ} {d : List ℕ} → From f i s → OptionAt f i c d → InItems (item_at i c d) xs
  all_stand : (x : Item) → InItems x xs → From f x.offset s × OptionAt f x.offset x.item.tag x.item.body
  ordered : (x y : Item) → ItemPrecedes x y xs → x.offset < y.offset

abbrev Gives : List ℕ → ℕ → Items → Type 0
Gives f s (past i) = From f i s × Beyond f i
Gives f s (listed xs) = Lists f s xs

module _ (f : List ℕ) where
  give_pad : (s : ℕ) → PadAt f s → (w : Items) → Gives f (s + 1) w → Gives f s w
  give_pad s p (past i) g = (pad p g.0, g.1)
  give_pad s p (listed xs) g =
      record {
        none_past = λ {k} h b. ⊎_elim (λ (z : s ≡ k). beyond_pad (beyond_here z b) p) (λ (y : From f k (s + 1)). g.none_past y b) (from_pad p h);
        all_in = λ {i} h o. ⊎_elim (λ (z : s ≡ i). absurd (pad_option p (option_here z o))) (λ (y : From f i (s + 1)). g.all_in y o) (from_pad p h);
        all_stand = λ x h. let t = g.all_stand x h in (pad p t.0, t.1);
        ordered = g.ordered;
      }

  give_item : (s c : ℕ) (d : List ℕ) → OptionAt f s c d → (w : Items) → Gives f (s + 2 + length d) w → Gives f s (also (item_at s c d) w)
  give_item s c d o (past i) g = (view.past o g.0, g.1)
  give_item s c d o (listed xs) g =
      record {
        none_past = λ {k} h b. ⊎_elim (λ (z : s ≡ k). beyond_option (beyond_here z b) o) (λ (y : From f k (s + 2 + length d)). g.none_past y b) (from_option o h);
        all_in = λ {i} h q. ⊎_elim
            (λ (z : s ≡ i). let t = option_same (option_here z q) o in inl (same z t.0 t.1))
            (λ (y : From f i (s + 2 + length d)). inr (g.all_in y q)) (from_option o h);
        all_stand = λ x h. ⊎_elim (λ (z : x ≡ item_at s c d). (here (ap (λ (a : Item). a.offset) (sym z)), rw z o))
            (λ (y : InItems x xs). let t = g.all_stand x y in (view.past o t.0, t.1)) h;
        ordered = λ x y h. ⊎_elim
            (λ (z : (x ≡ item_at s c d) × InItems y xs). let v : x.offset ≡ s = ap (λ (a : Item). a.offset) z.0 in omega (arith, from_le (g.all_stand y z.1).0))
            (λ (z : ItemPrecedes x y xs). g.ordered x y z) h;
      }
    where
      same : {i x : ℕ} {y : List ℕ} → s ≡ i → x ≡ c → y ≡ d → item_at i x y ≡ item_at s c d
      same z t u = cc

  gives : {s : ℕ} {p : Parse} → Reads f s p → Gives f s (items_in p)
  unfolding items_in
  gives {s} (r_none e) =
      record {
        none_past = λ h b. nothing (sym e ∙ (beyond_here (from_none e h) b).reads);
        all_in = λ h o. absurd (nothing (sym e ∙ (option_here (from_none e h) o).reads));
        all_stand = λ x h. absurd h;
        ordered = λ x y h. absurd h;
      }
  gives {s} (r_pad {p = q} p r) = give_pad s p (items_in q) (gives r)
  gives {s} (r_end x) =
      record {
        none_past = λ h b. beyond_end (beyond_here (from_end x h) b) x;
        all_in = λ h o. absurd (end_option x (option_here (from_end x h) o));
        all_stand = λ x h. absurd h;
        ordered = λ x y h. absurd h;
      }
  gives {s} (r_beyond x) = (here refl, x)
  gives {s} (r_option {c = c} {d = d} {p = q} o r) = give_item s c d o (items_in q) (gives r)

  -- the whole run
  items_of : (xs : List Item) → Lists f 0 xs → ItemsOf f xs
  items_of xs g =
      record {
        none_past = λ i r. g.none_past (begins_from r.begins) r.beyond;
        lists = λ x. (λ h. let t = g.all_stand x h in record { begins = from_begins first t.0; option = t.1 }, λ t. g.all_in (begins_from t.begins) t.option);
        in_order = g.ordered;
      }

  pub whole_run : (xs : List Item) → items_in (parse 0 0 f) ≡ listed xs → ItemsOf f xs
  whole_run xs e = items_of xs (subst (Gives f 0) e (gives (view.reads f)))

  -- one offset at most
  pub past_once : {i j : ℕ} → RunsPast f i → RunsPast f j → i ≡ j
  past_once {i} {j} a b =
      ⊎_elim (λ (z : From f j i). from_beyond a.beyond z) (λ (z : From f i j). sym (from_beyond b.beyond z))
      (one_way (begins_from a.begins) (begins_from b.begins))

-- ---- a run has one list of items

same_list_lem : (os ps : List Item) → ((x : Item) → InItems x os → InItems x ps) → ((x : Item) → InItems x ps → InItems x os)
    → ((x y : Item) → ItemPrecedes x y os → ItemPrecedes y x ps → ⊥) → ((x : Item) → ItemPrecedes x x os → ⊥) → ((x : Item) → ItemPrecedes x x ps → ⊥) → os ≡ ps
same_list_lem [] [] a b c d e = refl
same_list_lem [] (p ∷ ps) a b c d e = absurd (b p (inl refl))
same_list_lem (o ∷ os) [] a b c d e = absurd (a o (inl refl))
same_list_lem (o ∷ os) (p ∷ ps) a b c d e =
    ap₂ (λ (x : Item) (l : List Item). x ∷ l) one
    (same_list_lem os ps
    (λ x h. ⊎_elim (λ (z : x ≡ p). absurd (d o (inl (refl, subst (λ (y : Item). InItems y os) (z ∙ sym one) h)))) (λ (z : InItems x ps). z) (a x (inr h)))
    (λ x h. ⊎_elim (λ (z : x ≡ o). absurd (e p (inl (refl, subst (λ (y : Item). InItems y ps) (z ∙ one) h)))) (λ (z : InItems x os). z) (b x (inr h)))
    (λ x y h k. c x y (inr h) (inr k)) (λ x h. d x (inr h)) (λ x h. e x (inr h)))
  where
    one : o ≡ p
    one = ⊎_elim (λ (z : o ≡ p). z)
        (λ (z : InItems o ps). ⊎_elim (λ (y : p ≡ o). sym y) (λ (y : InItems p os). absurd (c o p (inl (refl, y)) (inl (refl, z)))) (b p (inl refl)))
        (a o (inl refl))

pub items_same : {f : List ℕ} {xs ys : List Item} → ItemsOf f xs → ItemsOf f ys → xs ≡ ys
items_same {f} {xs} {ys} a b =
    same_list_lem xs ys (λ x h. (b.lists x).1 ((a.lists x).0 h)) (λ x h. (a.lists x).1 ((b.lists x).0 h))
    (λ x y h k. omega (arith, a.in_order x y h, b.in_order y x k)) (λ x h. omega (arith, a.in_order x x h)) (λ x h. omega (arith, b.in_order x x h))

-- ---- items have one list of records: that of the definition

records_are : (xs : List Item) → RecordsAre xs (record_bytes (item_records xs))
unfolding item_records record_bytes
records_are [] = no_item
records_are (x ∷ xs) = one_item {x = x} (length x.item.body / 256) (length x.item.body % 256) (omega arith) (omega arith) (records_are xs)

records_only : {xs : List Item} {b : List ℕ} → RecordsAre xs b → b ≡ record_bytes (item_records xs)
unfolding item_records record_bytes
records_only no_item = refl
records_only (one_item {x = x} {xs = xs} {rest = rest} high low small size more) =
    let hi : high ≡ length x.item.body / 256 = omega (arith, size) in
    let lo : low ≡ length x.item.body % 256 = omega (arith, size) in
    ap₂ (λ (h l : ℕ). x.item.tag ∷ h ∷ l ∷ (x.item.body ++ rest)) hi lo
    ∙ ap (λ (l : List ℕ). x.item.tag ∷ length x.item.body / 256 ∷ length x.item.body % 256 ∷ (x.item.body ++ l)) (records_only more)

pub records_same : {f b d : List ℕ} {xs ys : List Item} → ItemsOf f xs → RecordsAre xs b → ItemsOf f ys → RecordsAre ys d → b ≡ d
records_same a x b y = records_only x ∙ ap (λ (l : List Item). record_bytes (item_records l)) (items_same a b) ∙ sym (records_only y)

-- ---- the reader

module _ (f old : List ℕ) where
  right : (w : Items) → Gives f 0 w → ReadsItems f old (vendor_in w old)
  right (past i) g = read_17 (record { begins = from_begins first g.0; beyond = g.1 })
  right (listed xs) g = elim (dec_lt (length old) (length (record_bytes (item_records xs)))) [
    | yes h ↦ rw (lt-ltb (length old) (length (record_bytes (item_records xs))) h) (read_11 xs (record_bytes (item_records xs)) (items_of f xs g) (records_are xs) h)
    | no h ↦
        let l : length (record_bytes (item_records xs)) ≤ length old = omega arith in
        rw (le-ltb (length old) (length (record_bytes (item_records xs))) l) (reads xs (record_bytes (item_records xs)) (items_of f xs g) (records_are xs) l)
  ]

  pub reads_right : ReadsItems f old (vendor_records_value f old)
  unfolding vendor_records_value
  reads_right = right (items_in (parse 0 0 f)) (gives f (view.reads f))

  pub reads_only : (w v : Filled) → ReadsItems f old w → ReadsItems f old v → w ≡ v
  reads_only w v (read_17 a) (read_17 b) = ap (λ (i : ℕ). unfilled 17 i old) (past_once f a b)
  reads_only w v (read_17 a) (read_11 ys d b y l) = absurd (b.none_past _ a)
  reads_only w v (read_17 a) (reads ys d b y l) = absurd (b.none_past _ a)
  reads_only w v (read_11 xs c a x l) (read_17 b) = absurd (a.none_past _ b)
  reads_only w v (read_11 xs c a x l) (read_11 ys d b y k) = refl
  reads_only w v (read_11 xs c a x l) (reads ys d b y k) = absurd (omega (arith, ap length (records_same a x b y)))
  reads_only w v (reads xs c a x l) (read_17 b) = absurd (a.none_past _ b)
  reads_only w v (reads xs c a x l) (read_11 ys d b y k) = absurd (omega (arith, ap length (records_same a x b y)))
  reads_only w v (reads xs c a x l) (reads ys d b y k) = ap (λ (z : List ℕ). filled z old) (records_same a x b y)

  pub reads_iff : (w : Filled) → vendor_records_value f old ≡ w ↔ ReadsItems f old w
  reads_iff w = (λ e. subst (λ (v : Filled). ReadsItems f old v) e reads_right, λ r. reads_only (vendor_records_value f old) w reads_right r)

pub vendor_reader_is_correct : VendorReaderIsCorrect
vendor_reader_is_correct f old w = reads_iff f old w

-- ---- how long the records can be

abbrev Short : List ℕ → ℕ → Items → Type 0
Short f s (past i) = Unit {0}
Short f s (listed xs) = 2 * length (record_bytes (item_records xs)) + 3 * s ≤ 3 * length f

short_pad : (f : List ℕ) (s : ℕ) (w : Items) → Short f (s + 1) w → Short f s w
short_pad f s (past i) h = tt
short_pad f s (listed xs) h = omega arith

short_item : (f : List ℕ) (s c : ℕ) (d : List ℕ) (w : Items) → Short f (s + 2 + length d) w → Short f s (also (item_at s c d) w)
unfolding item_records record_bytes
short_item f s c d (past i) h = tt
short_item f s c d (listed xs) h = omega (arith, length-append d (record_bytes (item_records xs)))

shorts : (f : List ℕ) {s : ℕ} {p : Parse} → Reads f s p → s ≤ length f → Short f s (items_in p)
unfolding items_in item_records record_bytes
shorts f (r_none e) h = omega arith
shorts f {s} (r_pad {p = p} x r) h = short_pad f s (items_in p) (shorts f r (omega (arith, below f s 0 x.after x.reads)))
shorts f (r_end x) h = omega arith
shorts f (r_beyond x) h = tt
shorts f {s} (r_option {c = c} {d = d} {p = p} o r) h = short_item f s c d (items_in p) (shorts f r (option_in_lem o))

-- an item runs past, or these are the items
some_answer : (f : List ℕ) (xs : List Item) → ItemsOf f xs → (w : Items) → Gives f 0 w → w ≡ listed xs
some_answer f xs a (past i) g = absurd (a.none_past i (record { begins = from_begins first g.0; beyond = g.1 }))
some_answer f xs a (listed ys) g = ap listed (items_same (items_of f ys g) a)

pub vendor_room_is_enough : VendorRoomIsEnough
unfolding vendor_records_value
vendor_room_is_enough f old xs b a r h =
    let e : items_in (parse 0 0 f) ≡ listed xs = some_answer f xs a (items_in (parse 0 0 f)) (gives f (view.reads f)) in
    let l : Short f 0 (listed xs) = subst (Short f 0) e (shorts f (view.reads f) (omega arith)) in
    rw (e, le-ltb (length old) (length (record_bytes (item_records xs))) (omega arith), records_only r) refl
