-- FOR CALLERS: what a step tells of the options that are left; and the statement of specs/Cursor, proved. Assumes nothing.
use mathlib.Core.Path.{◌≡◌, refl, sym, ap, ap₂, ◌∙◌, subst}
use mathlib.Core.Bool.{Bool, true, false, cond}
use mathlib.Core.List.{List, [], ◌∷◌, ◌++◌, append-nil}
use Prim.Native.Nat.{ℕ, ◌+◌, ◌≤◌}
use native.Mathlib.Omega.{arith}
use lib.ListN.{length, take, drop}
use Rattle.std.specs.Prelude.{Option, Some, None}
use Rattle.options.specs.Message.{Field, options, file, sname, start, bytes, Rec, Opt, opt}
use Rattle.options.specs.Reading.{Parse, ended, ran_out_value, beyond, found, items, overload}
use Rattle.theorems.proofs.View.{clash}
use Rattle.theorems.proofs.Lengths.{field_within, field_part}
use Rattle.wire.specs.Ahead.{next_of}
use Rattle.wire.specs.Walk.{item_at}
use Rattle.wire.proofs.Laws.{rest}
use Rattle.wire.proofs.Items.{item_ahead}
use Rattle.message.specs.declared.Field as coded
use Rattle.message.specs.Fields.{field_of, coded_field}
use Rattle.message.specs.Active.{active_in, options_in, field_from, later_fields, options_from}
use Rattle.message.proofs.Names.{field_there}
use Rattle.message.proofs.Callers.{options_all}
use Rattle.cursor.specs.declared.Position.{Position}
use Rattle.cursor.specs.declared.Item.{Item}
use Rattle.cursor.specs.declared.Options as iterator
use Rattle.cursor.specs.Cursor.{first_position, after, left, step_of, Step, Steps, no_more, one_more, StepsGiveTheOptions}

-- ---- the first of the options that are left, and those after it

-- the option o is of the message's own bytes, and the options after it are os
record Before (v : ℕ) (m : List ℕ) (o : Opt) (os : List Opt) : Type 0 where
  inside : o.offset + 2 + length o.item.body ≤ length (bytes o.field m)
  own : o.item.body ≡ take (length o.item.body) (drop (o.offset + 2) (bytes o.field m))
  then : os ≡ options_from v m o.field (o.offset + 2 + length o.item.body)

-- the first option of a field from the offset i on
record FirstOf (fd : Field) (f : List ℕ) (o : Opt) (os : List Opt) : Type 0 where
  field : fd ≡ o.field
  inside : o.offset + 2 + length o.item.body ≤ length f
  own : o.item.body ≡ take (length o.item.body) (drop (o.offset + 2) f)
  then : os ≡ options_in fd (rest f (o.offset + 2 + length o.item.body))

first_of : (fd : Field) (f : List ℕ) (i : ℕ) (o : Opt) (os : List Opt) → options_in fd (rest f i) ≡ o ∷ os → FirstOf fd f o os
unfolding options_in
first_of fd f i o os e = go (rest f i) refl e
  where
    go : (p : Parse) → rest f i ≡ p → options_in fd p ≡ o ∷ os → FirstOf fd f o os
    go ended r q = clash (cc)
    go (ran_out_value j) r q = clash (cc)
    go (beyond j) r q = clash (cc)
    go (found j x p) r q =
        let a = item_ahead f i (record { offset = j; code = x.tag; len = length x.body }) (ap next_of r) in
        let w : found j x p ≡ found j (item_at x.tag (length x.body) f j) (rest f (j + 2 + length x.body)) = sym r ∙ a.is in
        let b : x ≡ item_at x.tag (length x.body) f j = cc in
        let t : p ≡ rest f (j + 2 + length x.body) = cc in
        let h : ◌≡◌ {A = Opt} (record { field = fd; offset = j; item = x }) o = cc in
        let k : options_in fd p ≡ os = cc in
        subst (λ (y : Opt). FirstOf fd f y os) h
        (record { field = refl; inside = a.within; own = ap (λ (y : Rec). y.body) b; then = sym k ∙ ap (options_in fd) t })

opt_is : (o : Opt) (fd : Field) (j c : ℕ) → o.field ≡ fd → o.offset ≡ j → o.item.tag ≡ c → o ≡ opt fd j c o.item.body
opt_is o fd j c f y t =
    ap₂ (λ (g : Field) (x : ℕ). opt g x o.item.tag o.item.body) f y ∙ ap (λ (x : ℕ). opt fd j x o.item.body) t

module _ (v : ℕ) (m : List ℕ) where
  in_field : (fd : Field) (i : ℕ) (o : Opt) (os : List Opt) → field_from v m fd i ≡ o ∷ os → Before v m o (os ++ later_fields v m fd)
  unfolding field_from options_from
  in_field fd i o os e = go (active_in v fd) refl e
    where
      go : (b : Bool) → active_in v fd ≡ b → cond b (options_in fd (rest (bytes fd m) i)) [] ≡ o ∷ os → Before v m o (os ++ later_fields v m fd)
      go false a q = clash (cc)
      go true a q =
          let f = first_of fd (bytes fd m) i o os q in
          let t : os ≡ field_from v m fd (o.offset + 2 + length o.item.body) = rw a f.then in
          record {
            inside = subst (λ (x : Field). o.offset + 2 + length o.item.body ≤ length (bytes x m)) f.field f.inside;
            own = subst (λ (x : Field). o.item.body ≡ take (length o.item.body) (drop (o.offset + 2) (bytes x m))) f.field f.own;
            then =
                ap (λ (l : List Opt). l ++ later_fields v m fd) t
                ∙ ap (λ (x : Field). field_from v m x (o.offset + 2 + length o.item.body) ++ later_fields v m x) f.field;
          }

  -- it stands in the field itself, or in one after it
  this_or_later : (fd : Field) (i : ℕ) (o : Opt) (os : List Opt) → options_from v m fd i ≡ o ∷ os → (later_fields v m fd ≡ o ∷ os → Before v m o os) → Before v m o os
  unfolding options_from
  this_or_later fd i o os e later = go (field_from v m fd i) refl e
    where
      go : (xs : List Opt) → field_from v m fd i ≡ xs → xs ++ later_fields v m fd ≡ o ∷ os → Before v m o os
      go [] h q = later q
      go (x ∷ xs) h q =
          let y : x ≡ o = cc in
          let z : xs ++ later_fields v m fd ≡ os = cc in
          subst (Before v m o) z (in_field fd i o xs (h ∙ ap (λ (l : Opt). l ∷ xs) y))

  before_sname : (i : ℕ) (o : Opt) (os : List Opt) → options_from v m sname i ≡ o ∷ os → Before v m o os
  before_sname i o os e = this_or_later sname i o os e (λ q. clash (cc))

  before_file : (i : ℕ) (o : Opt) (os : List Opt) → options_from v m file i ≡ o ∷ os → Before v m o os
  unfolding options_from
  before_file i o os e = this_or_later file i o os e (λ q. before_sname 0 o os (append-nil (field_from v m sname 0) ∙ q))

  before : (fd : Field) (i : ℕ) (o : Opt) (os : List Opt) → options_from v m fd i ≡ o ∷ os → Before v m o os
  unfolding options_from
  before sname i o os e = before_sname i o os e
  before file i o os e = before_file i o os e
  before options i o os e = this_or_later options i o os e (before_file 0 o os)

  -- the same, by the places of the message
  in_message : (o : Opt) {os : List Opt} → Before v m o os → start o.field + o.offset + 2 + length o.item.body ≤ length m
  in_message o b = omega (arith, field_within o.field m (o.offset + 2 + length o.item.body) (omega arith) b.inside)

  in_own : (o : Opt) {os : List Opt} → Before v m o os → o.item.body ≡ take (length o.item.body) (drop (start o.field + o.offset + 2) m)
  in_own o b =
      let z : start o.field + (o.offset + 2) ≡ start o.field + o.offset + 2 = omega arith in
      b.own ∙ field_part o.field m (o.offset + 2) (length o.item.body) b.inside ∙ ap (λ (k : ℕ). take (length o.item.body) (drop k m)) z

  -- ---- for callers

  module _ (p : Position) where
    pub none_left : None ≡ step_of (left v m p) → left v m p ≡ []
    none_left e = go (left v m p) e
      where
        go : (os : List Opt) → None ≡ step_of os → os ≡ []
        go [] q = refl
        go (o ∷ os) q = clash (cc)

    -- the option of a step: it is of the message's own bytes, and the others are left from the position after it
    pub record Next (x : Item) : Type 0 where
      pub body : List ℕ
      pub size : length body ≡ x.len
      pub within : start (field_of x.field) + x.offset + 2 + x.len ≤ length m
      pub own : body ≡ take x.len (drop (start (field_of x.field) + x.offset + 2) m)
      pub is : left v m p ≡ opt (field_of x.field) x.offset x.code body ∷ left v m (after x.field x.offset x.len)

    pub next : (x : Item) → Some x ≡ step_of (left v m p) → Next x
    next x e = go (left v m p) refl e
      where
        go : (os : List Opt) → left v m p ≡ os → Some x ≡ step_of os → Next x
        go [] h q = clash (cc)
        go (o ∷ os) h q =
            let b = before (field_of p.field) p.offset o os h in
            let w : x ≡ record { field = coded_field o.field; offset = o.offset; code = o.item.tag; len = length o.item.body } = cc in
            let f : o.field ≡ field_of x.field = sym (field_there o.field) ∙ ap (λ (y : Item). field_of y.field) (sym w) in
            let y : o.offset ≡ x.offset = sym (ap (λ (z : Item). z.offset) w) in
            let t : o.item.tag ≡ x.code = sym (ap (λ (z : Item). z.code) w) in
            let l : length o.item.body ≡ x.len = sym (ap (λ (z : Item). z.len) w) in
            record {
              body = o.item.body;
              size = l;
              within = rw (f, y, l) at (in_message o b);
              own = rw (f, y, l) at (in_own o b);
              is =
                  h
                  ∙ ap₂ (λ (x : Opt) (r : List Opt). x ∷ r) (opt_is o (field_of x.field) x.offset x.code f y t) (b.then ∙ ap₂ (λ (g : Field) (x : ℕ). options_from v m g x) f (ap₂ (λ (x k : ℕ). x + 2 + k) y l));
            }

-- ---- the iterator, in a loop

-- it goes over the message m, whose option 52 has the value v
pub record Over (v : ℕ) (m : List ℕ) (s : iterator.Options) : Type 0 where
  pub value : s.over ≡ v
  pub message : s.m.now ≡ m

module _ {v : ℕ} {m : List ℕ} {s t : iterator.Options} (o : Over v m s) where
  pub over_still : {r : Option Item} → Step s r t → Over v m t
  over_still h = record {
    value = ap (λ (x : iterator.Options). x.over) h.then ∙ o.value;
    message = ap (λ (x : iterator.Options). x.m.now) h.then ∙ o.message;
  }

  pub over_done : Step s None t → left v m s.at ≡ []
  over_done h = none_left v m s.at (rw (o.value, o.message) at h.gives)

  -- the option that it gives, and those after it
  pub over_next : {x : Item} → Step s (Some x) t → Next v m s.at x
  over_next {x} h = next v m s.at x (rw (o.value, o.message) at h.gives)

pub over_moved : {s t : iterator.Options} {x : Item} → Step s (Some x) t → after x.field x.offset x.len ≡ t.at
over_moved h = sym (ap (λ (x : iterator.Options). x.at) h.then)

-- ---- all of an accepted message

steps : (v : ℕ) (m : List ℕ) (p : Position) (os : List Opt) → left v m p ≡ os → Steps v m p os
steps v m p [] e = no_more (ap step_of e)
steps v m p (o ∷ os) e =
    let fd : coded.Field = coded_field o.field in
    let x = next v m p (record { field = fd; offset = o.offset; code = o.item.tag; len = length o.item.body }) (ap step_of (sym e)) in
    let t : left v m (after fd o.offset (length o.item.body)) ≡ os = cc in
    subst (λ (f : Field). Steps v m p (opt f o.offset o.item.tag o.item.body ∷ os)) (field_there o.field)
    (one_more (ap step_of e) refl (steps v m (after fd o.offset (length o.item.body)) os t))

pub steps_give_the_options : StepsGiveTheOptions
steps_give_the_options m b a = steps (overload (items a.options)) m first_position a.options (sym (options_all m a.options b a.reads))
