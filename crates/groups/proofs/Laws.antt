-- The items of a group, one after the other: what the check of one gives of all. Assumes nothing.
use mathlib.Core.Path.{◌≡◌, refl, sym, ap, ap₂, ◌∙◌, subst}
use mathlib.Core.List.{List, [], ◌∷◌, ◌++◌, append_assoc}
use mathlib.Core.Bool.{Bool, true, false, cond}
use Prim.Native.Nat.{ℕ, zero, suc, ◌+◌, ◌-◌, ◌/◌, ◌%◌, ◌≤◌, ◌<◌}
use native.Mathlib.Omega.{arith}
use lib.ListN.{length, get_or, take, drop, length-drop, drop_of_length-le, take-append-drop}
use lib.Seq.{drop-cons, drop-drop, drop_at, take-add, length-take-le}
use lib.Dec.{eqb, ltb}
use borrow.Author.Tests.{eqb-false, eq-eqb, ne_eqb, ltb-true, ltb-false, lt-ltb, le-ltb}
use Rattle.options.specs.Message.{Rec}
use Rattle.options.specs.Reading.{either, among}
use Rattle.options.specs.Answers.{Verdict, passed, refused_with, record_bytes}
use Rattle.options.specs.SheetWalk.{Walk, all_read, cut_at, read_at, records_from}
use Rattle.options.specs.Grouped.{Items, none, fault, rec, grp, Body, group_of, item_of, members, body, and_then, fault_of, chosen}
use Rattle.theorems.proofs.View.{clash}
use Rattle.writing_theorems.proofs.SheetSteps.{size_at, record_here, head3, At, at_end_lem, at_cut, at_record, at_place}
use Rattle.writing_theorems.proofs.SheetRows.{tag_bad}
use Rattle.writing_theorems.proofs.SheetRows.{Bad as Bad-tag}
use Rattle.sheet.specs.Steps.{step_of, walk_by}
use Rattle.sheet.specs.declared.Step.{Step}
use Rattle.sheet.specs.declared.Step.TheVariants.{Record}
use Rattle.sheet.specs.declared.Step.TheVariants as step
use Rattle.sheet.proofs.Steps as steps
use Rattle.std.specs.Prelude.{Result, Ok, Err}
use Rattle.refusal.specs.declared.Refusal.{Refusal}
use Rattle.refusal.specs.Refused.{number_of}
use Rattle.refusal.proofs.Rules.{same_refusal}
use Rattle.groups.specs.Check.{Checked, Passed, Refused, verdict_by, verdict_of, checked_of, VerdictsComeBack}
use Rattle.groups.specs.Parts.{members_at_value, Item, End, Next, Bad, given, item_given, items_from, past_records_value, Stops}

verdict_back : (v : Verdict) → verdict_of (checked_of v) ≡ v
verdict_back passed = refl
verdict_back (refused_with n p) = refl

checked_back : (c : Checked) → checked_of (verdict_of c) ≡ c
checked_back Passed = refl
checked_back (Refused n p) = refl

pub verdicts_come_back : VerdictsComeBack
verdicts_come_back = (verdict_back, checked_back)

pub answer_back : (c d : Result (Unit {0}) Refusal) → verdict_by c ≡ verdict_by d → c ≡ d
answer_back (Ok x) (Ok y) e = refl
answer_back (Ok x) (Err s) e = clash (cc)
answer_back (Err r) (Ok y) e = clash (cc)
answer_back (Err r) (Err s) e =
    let n : number_of r.rule ≡ number_of s.rule = cc in
    let p : r.place ≡ s.place = cc in
    ap Err (same_refusal r s n p)

-- the verdict of a refusal by a rule at a place
pub refused_as : {r x : Refusal} → r ≡ x → refused_with (number_of r.rule) r.place ≡ refused_with (number_of x.rule) x.place
refused_as e = ap (λ (y : Refusal). refused_with (number_of y.rule) y.place) e

-- ---- An item, and what follows it

and_passed : (v w : Verdict) → and_then v w ≡ and_then (and_then v passed) w
and_passed passed w = refl
and_passed (refused_with n p) w = refl

pub group_then : (deeper : Body) (p : ℕ) (d : List ℕ) (rest : Items) → fault_of (group_of deeper p d rest) ≡ and_then (fault_of (group_of deeper p d none)) (fault_of rest)
unfolding fault_of
group_then deeper p [] rest = refl
group_then deeper p (n ∷ ds) rest = go (ltb (length ds) n)
  where
    go : (t : Bool) → fault_of (cond t (fault 20 p) (grp p (take n ds) (deeper p (p + 4 + n) (drop n ds)) rest))
        ≡ and_then (fault_of (cond t (fault 20 p) (grp p (take n ds) (deeper p (p + 4 + n) (drop n ds)) none))) (fault_of rest)
    go true = refl
    go false = and_passed (fault_of (deeper p (p + 4 + n) (drop n ds))) (fault_of rest)

pub item_then : (deeper : Body) (p : ℕ) (r : Rec) (rest : Items) → fault_of (item_of deeper p r rest) ≡ and_then (fault_of (item_of deeper p r none)) (fault_of rest)
unfolding fault_of
item_then deeper p r rest = go (eqb r.tag 0) (among r.tag (52 ∷ 255 ∷ []))
  where
    go : (t u : Bool) → fault_of (cond t (group_of deeper p r.body rest) (cond u (fault 10 p) (rec p r rest)))
        ≡ and_then (fault_of (cond t (group_of deeper p r.body none) (cond u (fault 10 p) (rec p r none)))) (fault_of rest)
    go true u = group_then deeper p r.body rest
    go false true = refl
    go false false = refl

-- ---- From a place of a group's body on

-- what is known after the check of one item
abbrev pub Stepped : List ℕ → ℕ → ℕ → Item → Type 0
Stepped s d i End = fault_of (items_from s d i) ≡ passed
Stepped s d i (Next n) = (i + 3 ≤ n) × (n ≤ length s) × (fault_of (items_from s d i) ≡ fault_of (items_from s d n))
Stepped s d i (Bad n p) = fault_of (items_from s d i) ≡ refused_with n p

step_at : (s : List ℕ) (d i : ℕ) {w : Walk} → At s i w → records_from i 0 (drop i s) ≡ w → Stepped s d i (item_given d w)
unfolding item_given members fault_of
step_at s d i (at_end_lem h) e = ap (λ (x : Walk). fault_of (members (body d) x)) e
step_at s d i (at_cut h) e = ap (λ (x : Walk). fault_of (members (body d) x)) e
step_at s d i (at_record h len) e = go (fault_of (item_of (body d) i r none)) refl
  where
    r : Rec
    r = record_here s i

    next : ℕ
    next = i + 3 + size_at s i

    whole : fault_of (items_from s d i) ≡ and_then (fault_of (item_of (body d) i (record_here s i) none)) (fault_of (items_from s d (i + 3 + size_at s i)))
    whole = ap (λ (x : Walk). fault_of (members (body d) x)) e ∙ item_then (body d) i (record_here s i) (items_from s d (i + 3 + size_at s i))

    go : (v : Verdict) → fault_of (item_of (body d) i (record_here s i) none) ≡ v → Stepped s d i (given (i + 3 + length (record_here s i).body) v)
    go passed q =
        let n : i + 3 + size_at s i ≡ i + 3 + length (record_here s i).body = ap (λ (k : ℕ). i + 3 + k) (sym len) in
        (omega arith, omega (arith, n), whole ∙ ap (λ (v : Verdict). and_then v (fault_of (items_from s d (i + 3 + size_at s i)))) q ∙ ap (λ (k : ℕ). fault_of (items_from s d k)) n)
    go (refused_with n p) q = whole ∙ ap (λ (v : Verdict). and_then v (fault_of (items_from s d (i + 3 + size_at s i)))) q

pub stepped : (s : List ℕ) (d i : ℕ) (x : Item) → x ≡ item_given d (records_from i 0 (drop i s)) → Stepped s d i x
stepped s d i x e = subst (Stepped s d i) (sym e) (step_at s d i (at_place s i) refl)

-- ---- A body, by the depth left

pub body_none : (depth p at : ℕ) (bs : List ℕ) → depth ≡ 0 → fault_of (body depth p at bs) ≡ refused_with 21 p
unfolding body fault_of
body_none depth p at bs e = ap (λ (d : ℕ). fault_of (body d p at bs)) e

pub body_some : (depth p at : ℕ) (s : List ℕ) → (depth ≡ 0 → ⊥) → body depth p at (drop at s) ≡ items_from s (depth - 1) at
unfolding body
body_some zero p at s h = absurd (h refl)
body_some (suc d) p at s h = let z : d ≡ suc d - 1 = omega arith in ap (λ (k : ℕ). items_from s k at) z

-- ---- Past the records, one by one

-- it goes on
pub past_from : (at : ℕ) (w : Walk) → at ≤ past_records_value at w
unfolding past_records_value
past_from at all_read = omega arith
past_from at (cut_at p) = omega arith
past_from at (read_at p r rest) = go (among r.tag (0 ∷ 52 ∷ 255 ∷ [])) (past_from (at + 3 + length r.body) rest)
  where
    go : (t : Bool) → at + 3 + length r.body ≤ past_records_value (at + 3 + length r.body) rest → at ≤ cond t at (past_records_value (at + 3 + length r.body) rest)
    go true h = omega arith
    go false h = omega (arith, h)

module _ (s : List ℕ) (i : ℕ) where
  pub past_by : (x : Step) → x ≡ step_of (records_from i 0 (drop i s)) → past_records_value i (records_from i 0 (drop i s)) ≡ past_records_value i (walk_by s i x)
  past_by x e = ap (past_records_value i) (steps.stepped s i x e).0

  -- no record begins there
  pub past_ends : (x : Step) → x ≡ step_of (records_from i 0 (drop i s)) → ((t n : ℕ) → x ≡ Record t n → ⊥) → past_records_value i (records_from i 0 (drop i s)) ≡ i
  unfolding past_records_value
  past_ends step.End e h = past_by step.End e
  past_ends step.Cut e h = past_by step.Cut e
  past_ends (Record t n) e h = absurd (h t n refl)

  module _ (tag size : ℕ) (e : Record tag size ≡ step_of (records_from i 0 (drop i s))) where
    past_record : past_records_value i (records_from i 0 (drop i s)) ≡ cond (among tag (0 ∷ 52 ∷ 255 ∷ [])) i (past_records_value (i + 3 + size) (records_from (i + 3 + size) 0 (drop (i + 3 + size) s)))
    unfolding past_records_value
    past_record =
        past_by (Record tag size) e
        ∙ ap (λ (n : ℕ). cond (among tag (0 ∷ 52 ∷ 255 ∷ [])) i (past_records_value (i + 3 + n) (records_from (i + 3 + size) 0 (drop (i + 3 + size) s)))) (steps.stepped s i (Record tag size) e).1.1

    pub past_stop : Bad-tag tag → past_records_value i (records_from i 0 (drop i s)) ≡ i
    past_stop b = past_record ∙ rw (tag_bad tag b)

    pub past_on : (tag ≡ 0 → ⊥) → (tag ≡ 52 → ⊥) → (tag ≡ 255 → ⊥)
        → past_records_value i (records_from i 0 (drop i s)) ≡ past_records_value (i + 3 + size) (records_from (i + 3 + size) 0 (drop (i + 3 + size) s))
    past_on n m k = past_record ∙ rw (ne_eqb tag 0 n, ne_eqb tag 52 m, ne_eqb tag 255 k)

-- ---- An item, by its tag

-- the data of the item at a place, of which the part up to its end is lent
pub data_there : (s : List ℕ) (at size : ℕ) → at + 3 + size ≤ length s → drop (at + 3) (take (at + 3 + size) s) ≡ take size (drop (at + 3) s)
data_there s at size h = ap (drop (at + 3)) (take-add (at + 3) size s) ∙ drop_at (take (at + 3) s) (take size (drop (at + 3) s)) (at + 3) (length-take-le (at + 3) s (omega arith))

module _ (s : List ℕ) (at d : ℕ) where
  -- the step that was taken says what the item is
  pub item_by : (x : Step) → x ≡ step_of (records_from at 0 (drop at s)) → item_given d (records_from at 0 (drop at s)) ≡ item_given d (walk_by s at x)
  item_by x e = ap (item_given d) (steps.stepped s at x e).0

  pub item_ended : step.End ≡ step_of (records_from at 0 (drop at s)) → End ≡ item_given d (records_from at 0 (drop at s))
  unfolding item_given
  item_ended e = sym (item_by step.End e)

  pub item_cut : step.Cut ≡ step_of (records_from at 0 (drop at s)) → Bad 20 at ≡ item_given d (records_from at 0 (drop at s))
  unfolding item_given
  item_cut e = sym (item_by step.Cut e)

  module _ (tag size : ℕ) (e : Record tag size ≡ step_of (records_from at 0 (drop at s))) where
    pub item_room : at + 3 + size ≤ length s
    item_room = (steps.stepped s at (Record tag size) e).1.0

    pub data_size : length (take size (drop (at + 3) s)) ≡ size
    data_size = (steps.stepped s at (Record tag size) e).1.1

    abbrev pub item : Items
    item = item_of (body d) at (record { tag = tag; body = take size (drop (at + 3) s) }) none

    -- what begins there, and what follows it
    pub items_are : items_from s d at ≡ item_of (body d) at (record { tag = tag; body = take size (drop (at + 3) s) }) (items_from s d (at + 3 + size))
    unfolding members
    items_are = ap (members (body d)) (steps.stepped s at (Record tag size) e).0

    pub items_fault : fault_of (items_from s d at) ≡ and_then (fault_of item) (fault_of (items_from s d (at + 3 + size)))
    items_fault = ap fault_of items_are ∙ item_then (body d) at (record { tag = tag; body = take size (drop (at + 3) s) }) (items_from s d (at + 3 + size))

    is_given : item_given d (records_from at 0 (drop at s)) ≡ given (at + 3 + size) (fault_of item)
    unfolding item_given
    is_given = item_by (Record tag size) e ∙ ap (λ (k : ℕ). given (at + 3 + k) (fault_of item)) data_size

    pub is_group : tag ≡ 0 → item ≡ group_of (body d) at (drop (at + 3) (take (at + 3 + size) s)) none
    is_group z = rw (eq-eqb tag 0 z) (ap (λ (l : List ℕ). group_of (body d) at l none) (sym (data_there s at size item_room)))

    -- an item as the check of its group gives it
    pub item_group : tag ≡ 0 → (x : Verdict) → x ≡ fault_of (group_of (body d) at (drop (at + 3) (take (at + 3 + size) s)) none)
        → given (at + 3 + size) x ≡ item_given d (records_from at 0 (drop at s))
    item_group z x q = ap (given (at + 3 + size)) q ∙ sym (is_given ∙ ap (λ (w : Items). given (at + 3 + size) (fault_of w)) (is_group z))

    by_tags : (t u v : Bool) → eqb tag 0 ≡ t → eqb tag 52 ≡ u → eqb tag 255 ≡ v
        → item ≡ cond t (group_of (body d) at (take size (drop (at + 3) s)) none) (cond (either u (either v false)) (fault 10 at) (rec at (record { tag = tag; body = take size (drop (at + 3) s) }) none))
    by_tags t u v x y z = rw (x, y, z)

    -- where no record is passed, a tag other than 0 is a wrong one
    pub is_wrong : Stops s at → (tag ≡ 0 → ⊥) → item ≡ fault 10 at
    is_wrong h n = go (eqb tag 52) (eqb tag 255) refl refl
      where
        go : (u v : Bool) → eqb tag 52 ≡ u → eqb tag 255 ≡ v → item ≡ fault 10 at
        go true v x y = by_tags false true v (ne_eqb tag 0 n) x y
        go false true x y = by_tags false false true (ne_eqb tag 0 n) x y
        go false false x y =
            absurd (omega (arith, sym h ∙ past_on s at tag size e n (eqb-false tag 52 x) (eqb-false tag 255 y), past_from (at + 3 + size) (records_from (at + 3 + size) 0 (drop (at + 3 + size) s))))

    pub item_10 : Stops s at → (tag ≡ 0 → ⊥) → Bad 10 at ≡ item_given d (records_from at 0 (drop at s))
    unfolding fault_of
    item_10 h n = sym (is_given ∙ ap (λ (w : Items). given (at + 3 + size) (fault_of w)) (is_wrong h n))

-- ---- Past the records that stand one after the other

-- a verdict on a walk that no record changes which is passed
abbrev pub PassesOver : (Walk → Verdict) → Type 0
PassesOver v = (p : ℕ) (r : Rec) (rest : Walk) → among r.tag (0 ∷ 52 ∷ 255 ∷ []) ≡ false → v (read_at p r rest) ≡ v rest

-- from a walk at i one comes to the place j by records alone, whose bytes are those between
pub record Passing (s : List ℕ) (d i j : ℕ) (rs : List Rec) : Type 0 where
  pub on : i ≤ j
  pub stops : Stops s j
  pub within : i ≤ length s → j ≤ length s
  pub same_fault : fault_of (items_from s d i) ≡ fault_of (items_from s d j)
  pub same_verdict : (v : Walk → Verdict) → PassesOver v → v (records_from i 0 (drop i s)) ≡ v (records_from j 0 (drop j s))
  pub before : (class : List ℕ) → chosen class (items_from s d i) ≡ rs ++ chosen class (items_from s d j)
  pub bytes : drop i s ≡ record_bytes rs ++ drop j s

pub passing_here : (s : List ℕ) (d i : ℕ) → Stops s i → Passing s d i i []
unfolding record_bytes
passing_here s d i h = record { on = omega arith; stops = h; within = λ l. l; same_fault = refl; same_verdict = λ v h. refl; before = λ class. refl; bytes = refl }

module _ (s : List ℕ) (i d tag size : ℕ) (e : Record tag size ≡ step_of (records_from i 0 (drop i s))) (n : tag ≡ 0 → ⊥) (m : tag ≡ 52 → ⊥) (k : tag ≡ 255 → ⊥) where
  one_record : items_from s d i ≡ rec i (record { tag = tag; body = take size (drop (i + 3) s) }) (items_from s d (i + 3 + size))
  one_record = items_are s i d tag size e ∙ rw (ne_eqb tag 0 n, ne_eqb tag 52 m, ne_eqb tag 255 k)

  -- its tag and its size are those of the sheet
  head_at : {w : Walk} → At s i w → Record tag size ≡ step_of w → (tag ≡ get_or s i 0) × (size ≡ size_at s i)
  head_at (at_end_lem h) q = clash (cc)
  head_at (at_cut h) q = clash (cc)
  head_at (at_record h len) q =
      let t : tag ≡ get_or s i 0 = cc in
      let z : size ≡ length (record_here s i).body = cc in
      (t, z ∙ len)

  record_bytes_lem : get_or s (i + 2) 0 < 256 → (ts l : List ℕ) → drop (i + 3 + size) s ≡ ts ++ l
      → drop i s ≡ (tag ∷ length (take size (drop (i + 3) s)) / 256 ∷ length (take size (drop (i + 3) s)) % 256 ∷ take size (drop (i + 3) s)) ++ (ts ++ l)
  record_bytes_lem b ts l q =
      let h = head_at (at_place s i) e in
      let room : i + 3 + size ≤ length s = item_room s i d tag size e in
      let z : length (take size (drop (i + 3) s)) ≡ size = data_size s i d tag size e in
      let high : get_or s (i + 1) 0 ≡ length (take size (drop (i + 3) s)) / 256 = omega (arith, z, h.1, b) in
      let low : get_or s (i + 2) 0 ≡ length (take size (drop (i + 3) s)) % 256 = omega (arith, z, h.1, b) in
      let rest : drop (i + 3) s ≡ take size (drop (i + 3) s) ++ (ts ++ l) =
      sym (take-append-drop size (drop (i + 3) s)) ∙ ap (λ (x : List ℕ). take size (drop (i + 3) s) ++ x) (drop-drop size (i + 3) s ∙ q) in
      head3 s i (omega (arith, room))
      ∙ ap₂ (λ (x y : ℕ). x ∷ y ∷ get_or s (i + 2) 0 ∷ drop (i + 3) s) (sym h.0) high
      ∙ ap₂ (λ (x : ℕ) (y : List ℕ). tag ∷ length (take size (drop (i + 3) s)) / 256 ∷ x ∷ y) low rest

  pub passing_on : get_or s (i + 2) 0 < 256 → (j : ℕ) (rs : List Rec) → Passing s d (i + 3 + size) j rs → Passing s d i j (record { tag = tag; body = take size (drop (i + 3) s) } ∷ rs)
  unfolding fault_of chosen record_bytes
  passing_on b j rs p =
      record {
        on = omega (arith, p.on);
        stops = p.stops;
        within = λ l. p.within (item_room s i d tag size e);
        same_fault = ap fault_of one_record ∙ p.same_fault;
        same_verdict = λ v h. ap v (steps.stepped s i (Record tag size) e).0 ∙ h i _ _ (rw (ne_eqb tag 0 n, ne_eqb tag 52 m, ne_eqb tag 255 k)) ∙ p.same_verdict v h;
        before = λ class. ap (chosen class) one_record ∙ ap (λ (l : List Rec). record { tag = tag; body = take size (drop (i + 3) s) } ∷ l) (p.before class);
        bytes = record_bytes_lem b (record_bytes rs) (drop j s) p.bytes ∙ sym (append_assoc (tag ∷ length (take size (drop (i + 3) s)) / 256 ∷ length (take size (drop (i + 3) s)) % 256 ∷ take size (drop (i + 3) s)) (record_bytes rs) (drop j s));
      }

-- the records that are passed
abbrev pub PassedTo : List ℕ → ℕ → ℕ → ℕ → Type 0
PassedTo s d i j = (rs : List Rec) × Passing s d i j rs

module _ (s : List ℕ) (d : ℕ) (octets : (k : ℕ) → get_or s k 0 < 256) where
  pass_at : (i : ℕ) {w : Walk} → At s i w → records_from i 0 (drop i s) ≡ w
      → ((j : ℕ) → i < j → j ≤ length s → PassedTo s d j (past_records_value j (records_from j 0 (drop j s)))) → PassedTo s d i (past_records_value i w)
  unfolding past_records_value
  pass_at i (at_end_lem h) q further = ([], passing_here s d i (ap (past_records_value i) q))
  pass_at i (at_cut h) q further = ([], passing_here s d i (ap (past_records_value i) q))
  pass_at i (at_record h len) q further = go (eqb (get_or s i 0) 0) (eqb (get_or s i 0) 52) (eqb (get_or s i 0) 255) refl refl refl
    where
      size : ℕ
      size = length (record_here s i).body

      e : Record (get_or s i 0) (length (record_here s i).body) ≡ step_of (records_from i 0 (drop i s))
      e = sym (ap step_of q)

      same : i + 3 + size_at s i ≡ i + 3 + length (record_here s i).body
      same = ap (λ (n : ℕ). i + 3 + n) (sym len)

      body_is : (record_here s i).body ≡ take (length (record_here s i).body) (drop (i + 3) s)
      body_is = ap (λ (n : ℕ). take n (drop (i + 3) s)) (sym len)

      next : PassedTo s d (i + 3 + length (record_here s i).body) (past_records_value (i + 3 + length (record_here s i).body) (records_from (i + 3 + size_at s i) 0 (drop (i + 3 + size_at s i) s)))
      next =
          subst (λ (k : ℕ). PassedTo s d (i + 3 + length (record_here s i).body) (past_records_value (i + 3 + length (record_here s i).body) (records_from k 0 (drop k s)))) (sym same)
          (further (i + 3 + length (record_here s i).body) (omega arith) (omega (arith, same)))

      go : (t u v : Bool) → eqb (get_or s i 0) 0 ≡ t → eqb (get_or s i 0) 52 ≡ u → eqb (get_or s i 0) 255 ≡ v
          → PassedTo s d i (cond (either t (either u (either v false))) i (past_records_value (i + 3 + length (record_here s i).body) (records_from (i + 3 + size_at s i) 0 (drop (i + 3 + size_at s i) s))))
      go true u v x y z = ([], passing_here s d i (ap (past_records_value i) q ∙ rw x))
      go false true v x y z = ([], passing_here s d i (ap (past_records_value i) q ∙ rw (x, y)))
      go false false true x y z = ([], passing_here s d i (ap (past_records_value i) q ∙ rw (x, y, z)))
      go false false false x y z =
          (_, passing_on s i d (get_or s i 0) (length (record_here s i).body) e (eqb-false (get_or s i 0) 0 x) (eqb-false (get_or s i 0) 52 y) (eqb-false (get_or s i 0) 255 z) (octets (i + 2)) _ next.0 next.1)

  pass_fuel : (fuel i : ℕ) → length s < i + fuel → PassedTo s d i (past_records_value i (records_from i 0 (drop i s)))
  pass_fuel zero i l = pass_at i (at_place s i) refl (λ j m n. absurd (omega arith))
  pass_fuel (suc fuel) i l = pass_at i (at_place s i) refl (λ j m n. pass_fuel fuel j (omega arith))

  pub pass : (i j : ℕ) → j ≡ past_records_value i (records_from i 0 (drop i s)) → PassedTo s d i j
  pass i j q = subst (PassedTo s d i) (sym q) (pass_fuel (suc (length s)) i (omega arith))

-- ---- A group: its name, and its members behind it

module _ (s : List ℕ) (tag : ℕ) where
  abbrev name_size : ℕ
  name_size = get_or s (tag + 3) 0

  pub no_members : length s < tag + 4 + get_or s (tag + 3) 0 → members_at_value s tag ≡ 0
  unfolding members_at_value
  no_members h = rw (lt-ltb (length s) (tag + 4 + get_or s (tag + 3) 0) h)

  pub some_members : tag + 4 + get_or s (tag + 3) 0 ≤ length s → members_at_value s tag ≡ tag + 4 + get_or s (tag + 3) 0
  unfolding members_at_value
  some_members h = rw (le-ltb (length s) (tag + 4 + get_or s (tag + 3) 0) h)

  -- what `members_at` found
  pub members_found : (m : ℕ) → m ≡ members_at_value s tag → (m ≡ 0 → ⊥) → (m ≡ tag + 4 + get_or s (tag + 3) 0) × (m ≤ length s)
  unfolding members_at_value
  members_found m e h = go (ltb (length s) (tag + 4 + get_or s (tag + 3) 0)) refl e
    where
      go : (t : Bool) → ltb (length s) (tag + 4 + get_or s (tag + 3) 0) ≡ t → m ≡ cond t 0 (tag + 4 + get_or s (tag + 3) 0) → (m ≡ tag + 4 + get_or s (tag + 3) 0) × (m ≤ length s)
      go true q z = absurd (h z)
      go false q z = (z, omega (arith, ltb-false (length s) (tag + 4 + get_or s (tag + 3) 0) q))

  members_lost : (m : ℕ) → m ≡ members_at_value s tag → m ≡ 0 → length s < tag + 4 + get_or s (tag + 3) 0
  unfolding members_at_value
  members_lost m e h = go (ltb (length s) (tag + 4 + get_or s (tag + 3) 0)) refl e
    where
      go : (t : Bool) → ltb (length s) (tag + 4 + get_or s (tag + 3) 0) ≡ t → m ≡ cond t 0 (tag + 4 + get_or s (tag + 3) 0) → length s < tag + 4 + get_or s (tag + 3) 0
      go true q z = ltb-true (length s) (tag + 4 + get_or s (tag + 3) 0) q
      go false q z = absurd (omega arith)

  bytes_there : tag + 3 < length s → drop (tag + 3) s ≡ get_or s (tag + 3) 0 ∷ drop (tag + 4) s
  bytes_there h = let q : suc (tag + 3) ≡ tag + 4 = omega arith in drop-cons s (tag + 3) 0 h ∙ ap (λ (k : ℕ). get_or s (tag + 3) 0 ∷ drop k s) q

  -- the group's data are n, the name and the members
  pub group_whole : (deeper : Body) (rest : Items) (m : ℕ) → m ≡ members_at_value s tag → (m ≡ 0 → ⊥)
      → group_of deeper tag (drop (tag + 3) s) rest ≡ grp tag (take (get_or s (tag + 3) 0) (drop (tag + 4) s)) (deeper tag m (drop m s)) rest
  group_whole deeper rest m e h =
      let f = members_found m e h in
      let n : ℕ = get_or s (tag + 3) 0 in
      let uncut : ltb (length (drop (tag + 4) s)) (get_or s (tag + 3) 0) ≡ false = le-ltb (length (drop (tag + 4) s)) (get_or s (tag + 3) 0) (omega (arith, f.0, f.1, length-drop (tag + 4) s)) in
      ap (λ (l : List ℕ). group_of deeper tag l rest) (bytes_there (omega (arith, f.0, f.1)))
      ∙ rw uncut (ap₂ (λ (k : ℕ) (l : List ℕ). grp tag (take (get_or s (tag + 3) 0) (drop (tag + 4) s)) (deeper tag k l) rest) (sym f.0) (drop-drop (get_or s (tag + 3) 0) (tag + 4) s ∙ ap (λ (k : ℕ). drop k s) (sym f.0)))

  short : (deeper : Body) (rest : Items) → length s < tag + 4 + get_or s (tag + 3) 0 → (t : Bool) → ltb (tag + 3) (length s) ≡ t → group_of deeper tag (drop (tag + 3) s) rest ≡ fault 20 tag
  short deeper rest h true q =
      let cut : ltb (length (drop (tag + 4) s)) (get_or s (tag + 3) 0) ≡ true = lt-ltb (length (drop (tag + 4) s)) (get_or s (tag + 3) 0) (omega (arith, length-drop (tag + 4) s, ltb-true (tag + 3) (length s) q)) in
      ap (λ (l : List ℕ). group_of deeper tag l rest) (bytes_there (ltb-true (tag + 3) (length s) q)) ∙ rw cut
  short deeper rest h false q = ap (λ (l : List ℕ). group_of deeper tag l rest) (drop_of_length-le s (ltb-false (tag + 3) (length s) q))

  pub group_short : (deeper : Body) (rest : Items) (m : ℕ) → m ≡ members_at_value s tag → m ≡ 0 → group_of deeper tag (drop (tag + 3) s) rest ≡ fault 20 tag
  group_short deeper rest m e h = short deeper rest (members_lost m e h) (ltb (tag + 3) (length s)) refl

  -- its members' fault is the group's
  pub group_fault : (deeper : Body) (m : ℕ) → m ≡ members_at_value s tag → (m ≡ 0 → ⊥) → fault_of (group_of deeper tag (drop (tag + 3) s) none) ≡ fault_of (deeper tag m (drop m s))
  unfolding fault_of
  group_fault deeper m e h = ap fault_of (group_whole deeper none m e h) ∙ alone (fault_of (deeper tag m (drop m s)))
    where
      alone : (v : Verdict) → and_then v passed ≡ v
      alone passed = refl
      alone (refused_with n p) = refl
