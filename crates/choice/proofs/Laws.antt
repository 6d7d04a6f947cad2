-- The choice, item after item: what is chosen of one, and of all. Assumes nothing.
use mathlib.Core.Path.{◌≡◌, refl, sym, ap, ◌∙◌}
use mathlib.Core.List.{List, [], ◌∷◌, ◌++◌, append_assoc, append-nil}
use mathlib.Core.Bool.{Bool, true, false, cond}
use Prim.Native.Nat.{ℕ, ◌+◌, ◌-◌, ◌≤◌}
use native.Mathlib.Omega.{arith}
use lib.ListN.{length, get_or, take, drop, length-append, length-drop}
use lib.Seq.{take_at, length-take-le}
use borrow.Rule.Slice.PartMut.{put_mid, mid_of}
use lib.Dec.{eqb, ltb}
use Rattle.options.specs.Message.{Rec}
use Rattle.options.specs.Reading.{among}
use Rattle.options.specs.Answers.{Verdict, passed, refused_with, record_bytes}
use Rattle.options.specs.SheetWalk.{all_read, records_from}
use Rattle.options.specs.Grouped.{Items, none, fault, rec, grp, Body, group_of, item_of, members, body, and_then, fault_of, reached, chosen}
use Rattle.theorems.proofs.View.{clash}
use Rattle.grouped_theorems.proofs.Choosing.{bytes_append}
use Rattle.buffer.specs.Copy.{copied}
use Rattle.buffer.specs.Written.{laid, Written}
use Rattle.buffer.proofs.Writing.{laid_length, laid_copied, written_none, written_as, written_more}
use Rattle.sheet.specs.Steps.{step_of}
use Rattle.sheet.specs.declared.Step.TheVariants.{Record}
use Rattle.groups.specs.Parts.{members_at_value, items_from}
use Rattle.groups.proofs.Laws as groups
use Rattle.choice.specs.Parts.{Chose, Item}
use Rattle.std.specs.Prelude.{Result, Ok, Err}
use Rattle.refusal.specs.declared.Refusal.{Refusal}
use Rattle.refusal.specs.Refused.{number_of}

-- ---- An item without a fault, and what follows it

group_then : (class : List ℕ) (deeper : Body) (p : ℕ) (d : List ℕ) (rest : Items) → fault_of (group_of deeper p d none) ≡ passed
    → chosen class (group_of deeper p d rest) ≡ chosen class (group_of deeper p d none) ++ chosen class rest
unfolding fault_of chosen
group_then class deeper p [] rest e = clash (cc)
group_then class deeper p (n ∷ ds) rest e = go (ltb (length ds) n) e
  where
    inside : List Rec
    inside = cond (reached class (take n ds)) (chosen class (deeper p (p + 4 + n) (drop n ds))) []

    go : (t : Bool) → fault_of (cond t (fault 20 p) (grp p (take n ds) (deeper p (p + 4 + n) (drop n ds)) none)) ≡ passed
        → chosen class (cond t (fault 20 p) (grp p (take n ds) (deeper p (p + 4 + n) (drop n ds)) rest))
        ≡ chosen class (cond t (fault 20 p) (grp p (take n ds) (deeper p (p + 4 + n) (drop n ds)) none)) ++ chosen class rest
    go true e = clash (cc)
    go false e = ap (λ (l : List Rec). l ++ chosen class rest) (sym (append-nil (cond (reached class (take n ds)) (chosen class (deeper p (p + 4 + n) (drop n ds))) [])))

item_then : (class : List ℕ) (deeper : Body) (p : ℕ) (r : Rec) (rest : Items) → fault_of (item_of deeper p r none) ≡ passed
    → chosen class (item_of deeper p r rest) ≡ chosen class (item_of deeper p r none) ++ chosen class rest
unfolding fault_of chosen
item_then class deeper p r rest e = go (eqb r.tag 0) (among r.tag (52 ∷ 255 ∷ [])) e
  where
    go : (t u : Bool) → fault_of (cond t (group_of deeper p r.body none) (cond u (fault 10 p) (rec p r none))) ≡ passed
        → chosen class (cond t (group_of deeper p r.body rest) (cond u (fault 10 p) (rec p r rest)))
        ≡ chosen class (cond t (group_of deeper p r.body none) (cond u (fault 10 p) (rec p r none))) ++ chosen class rest
    go true u e = group_then class deeper p r.body rest e
    go false true e = clash (cc)
    go false false e = refl

-- ---- The item at a place

module _ (s : List ℕ) (at d tag size : ℕ) (e : Record tag size ≡ step_of (records_from at 0 (drop at s))) where
  abbrev here : Rec
  here = record { tag = tag; body = take size (drop (at + 3) s) }

  pub picked : (class old : List ℕ) (o end : ℕ) (after : List ℕ) → fault_of (groups.item s at d tag size e) ≡ passed
      → Written old o (record_bytes (chosen class (groups.item s at d tag size e))) end after → end ≤ at + 3 + size → Item d class s at old o (at + 3 + size) end after
  picked class old o end after fine w l =
      record {
        on = omega arith;
        within = groups.item_room s at d tag size e;
        short = l;
        no_fault = groups.items_fault s at d tag size e ∙ ap (λ (v : Verdict). and_then v (fault_of (items_from s d (at + 3 + size)))) fine;
        records = chosen class (groups.item s at d tag size e);
        first = ap (chosen class) (groups.items_are s at d tag size e) ∙ item_then class (body d) at here (items_from s d (at + 3 + size)) fine;
        written = w;
      }

  pub faulty : (n p : ℕ) → fault_of (groups.item s at d tag size e) ≡ refused_with n p → fault_of (items_from s d at) ≡ refused_with n p
  faulty n p q = groups.items_fault s at d tag size e ∙ ap (λ (v : Verdict). and_then v (fault_of (items_from s d (at + 3 + size)))) q

  pub bad_tag : groups.item s at d tag size e ≡ fault 10 at → fault_of (items_from s d at) ≡ refused_with 10 at
  unfolding fault_of
  bad_tag q = faulty 10 at (ap fault_of q)

  -- a group, as its own choice gives it
  module _ (z : tag ≡ 0) (class old : List ℕ) (o bound : ℕ) (after : List ℕ) (b : bound ≡ at + 3 + size) where
    abbrev group : Items
    group = group_of (body d) at (drop (at + 3) (take (at + 3 + size) s)) none

    pub group_laid : (end : ℕ) → Chose group class old o bound (Ok end) after → Item d class s at old o (at + 3 + size) end after
    group_laid end k =
        let q : groups.item s at d tag size e ≡ group = groups.is_group s at d tag size e z in
        picked class old o end after (ap fault_of q ∙ k.0) (rw q k.1) (omega (arith, k.2, b))

    pub group_bad : (r : Refusal) → Chose group class old o bound (Err r) after → fault_of (items_from s d at) ≡ refused_with (number_of r.rule) r.place
    group_bad r k = faulty (number_of r.rule) r.place (ap fault_of (groups.is_group s at d tag size e z) ∙ k)

-- ---- The items of a group that is reached, one after the other

pub record Choosing (class s : List ℕ) (d at : ℕ) (old : List ℕ) (o : ℕ) (out : List ℕ) (i e : ℕ) : Type 0 where
  pub short : e ≤ i
  pub within : i ≤ length s
  pub same : length out ≡ length old
  pub no_fault : fault_of (items_from s d at) ≡ fault_of (items_from s d i)
  pub records : List Rec
  pub first : chosen class (items_from s d at) ≡ records ++ chosen class (items_from s d i)
  pub written : Written old o (record_bytes records) e out

pub choosing_begins : (class s : List ℕ) (d at : ℕ) (old : List ℕ) (o : ℕ) → o ≤ at → at ≤ length s → Choosing class s d at old o old at o
unfolding record_bytes
choosing_begins class s d at old o l m =
    record { short = l; within = m; same = refl; no_fault = refl; records = []; first = refl; written = written_none old o }

module _ {class s : List ℕ} {d at : ℕ} {old : List ℕ} {o : ℕ} {out : List ℕ} {i e : ℕ} (c : Choosing class s d at old o out i e) where
  pub choosing_on : {n end : ℕ} {after : List ℕ} → length after ≡ length out → Item d class s i out e n end after → Choosing class s d at old o after n end
  choosing_on {n} {end} {after} l x =
      record {
        short = x.short;
        within = x.within;
        same = l ∙ c.same;
        no_fault = c.no_fault ∙ x.no_fault;
        records = c.records ++ x.records;
        first = c.first ∙ ap (λ (rs : List Rec). c.records ++ rs) x.first ∙ sym (append_assoc c.records x.records (chosen class (items_from s d n)));
        written = written_as (sym (bytes_append c.records x.records)) (written_more c.written x.written);
      }

  -- records one after the other, copied as they stand
  pub choosing_past : {j : ℕ} {rs : List Rec} {after : List ℕ} → groups.Passing s d i j rs → length after ≡ length out → Written out e (take (j - i) (drop i s)) (e + (j - i)) after
      → Choosing class s d at old o after j (e + (j - i))
  choosing_past {j} {rs} {after} p l w =
      let size : length (record_bytes rs) ≡ j - i =
      omega (arith, ap length p.bytes, length-append (record_bytes rs) (drop j s), length-drop i s, length-drop j s, p.on, p.within c.within, c.within) in
      let bytes : take (j - i) (drop i s) ≡ record_bytes rs = ap (take (j - i)) p.bytes ∙ take_at (record_bytes rs) (drop j s) (j - i) size in
      record {
        short = omega (arith, c.short, p.on);
        within = p.within c.within;
        same = l ∙ c.same;
        no_fault = c.no_fault ∙ p.same_fault;
        records = c.records ++ rs;
        first = c.first ∙ ap (λ (x : List Rec). c.records ++ x) (p.before class) ∙ sym (append_assoc c.records rs (chosen class (items_from s d j)));
        written = written_as (sym (bytes_append c.records rs)) (written_more c.written (written_as bytes w));
      }

  pub choosing_copied : {j : ℕ} → groups.PassedTo s d i j → (ys : List ℕ) → length s ≤ length old → ys ≡ copied (mid_of e (e + (j - i) - e) out) (take (j - i) (drop i s))
      → Choosing class s d at old o (put_mid e (e + (j - i) - e) out ys) j (e + (j - i))
  choosing_copied {j} run ys room y =
      let p = run.1 in
      let inside : j ≤ length s = p.within c.within in
      let size : length (take (j - i) (drop i s)) ≡ j - i = length-take-le (j - i) (drop i s) (omega (arith, length-drop i s, inside)) in
      let fits : e + (j - i) ≤ length out = omega (arith, inside, p.on, c.short, c.same, room) in
      let b : put_mid e (e + (j - i) - e) out ys ≡ laid out e (take (j - i) (drop i s)) = laid_copied out e (e + (j - i)) ys (take (j - i) (drop i s)) (omega (arith, size)) fits y in
      choosing_past p (ap length b ∙ laid_length out e (take (j - i) (drop i s)) (omega (arith, size, fits))) (record { next = omega (arith, size); buffer = b })

  pub choosing_ends : records_from i 0 (drop i s) ≡ all_read → Chose (items_from s d at) class old o (length s) (Ok e) out
  unfolding members fault_of chosen
  choosing_ends z =
      let w : items_from s d i ≡ none = ap (members (body d)) z in (
        c.no_fault ∙ ap fault_of w,
        written_as (ap record_bytes (sym (c.first ∙ ap (λ (x : Items). c.records ++ chosen class x) w ∙ append-nil c.records))) c.written,
        omega (arith, c.short, c.within),
      )

  pub choosing_stops : (n p : ℕ) → fault_of (items_from s d i) ≡ refused_with n p → fault_of (items_from s d at) ≡ refused_with n p
  choosing_stops n p z = c.no_fault ∙ z

-- ---- A group

-- the same outcome of the same items
pub chose_as : {w v : Items} (class old : List ℕ) (o bound : ℕ) (x : Result ℕ Refusal) (after : List ℕ) → w ≡ v → Chose v class old o bound x after → Chose w class old o bound x after
chose_as class old o bound x after e k = rw e k

module _ (s class : List ℕ) (tag : ℕ) (deeper : Body) (m : ℕ) (e : m ≡ members_at_value s tag) (h : m ≡ 0 → ⊥) where
  abbrev name : List ℕ
  name = take (get_or s (tag + 3) 0) (drop (tag + 4) s)

  abbrev whole : Items
  whole = group_of deeper tag (drop (tag + 3) s) none

  -- the name, as the part that is lent
  pub name_there : take (m - (tag + 4)) (drop (tag + 4) s) ≡ name
  name_there =
      let f = groups.members_found s tag m e h in
      let q : m - (tag + 4) ≡ get_or s (tag + 3) 0 = omega (arith, f.0) in
      ap (λ (k : ℕ). take k (drop (tag + 4) s)) q

  -- a group that is reached gives what its members give
  reached_chosen : reached class name ≡ true → chosen class whole ≡ chosen class (deeper tag m (drop m s))
  unfolding chosen
  reached_chosen r = ap (chosen class) (groups.group_whole s tag deeper none m e h) ∙ rw r (append-nil (chosen class (deeper tag m (drop m s))))

  pub group_entered : reached class name ≡ true → (old : List ℕ) (o bound : ℕ) (x : Result ℕ Refusal) (after : List ℕ)
      → Chose (deeper tag m (drop m s)) class old o bound x after → Chose whole class old o bound x after
  group_entered r old o bound (Ok end) after k =
      (groups.group_fault s tag deeper m e h ∙ k.0, written_as (ap record_bytes (sym (reached_chosen r))) k.1, k.2)
  group_entered r old o bound (Err x) after k = groups.group_fault s tag deeper m e h ∙ k

  -- one that is not reached gives nothing
  pub group_passed_by : reached class name ≡ false → (old : List ℕ) (o bound : ℕ) → fault_of whole ≡ passed → o ≤ bound → Chose whole class old o bound (Ok o) old
  unfolding chosen record_bytes
  group_passed_by r old o bound fine l =
      let q : chosen class whole ≡ [] = ap (chosen class) (groups.group_whole s tag deeper none m e h) ∙ rw r in
      (fine, written_as (ap record_bytes (sym q)) (written_none old o), l)
