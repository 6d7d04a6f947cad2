-- The walk over an accepted message by its places, an item at a time. Assumes nothing.
use mathlib.Core.Path.{◌≡◌, refl, sym, ap, ◌∙◌}
use mathlib.Core.Bool.{Bool, true, false, cond}
use mathlib.Core.List.{List, [], ◌∷◌, ◌++◌, append-nil}
use Prim.Native.Nat.{ℕ, ◌+◌, ◌-◌, ◌≤◌, ◌<◌}
use native.Mathlib.Omega.{arith}
use lib.ListN.{length, get_or, take, drop, length-take, length-drop}
use lib.Seq.{get_or-take, get_or-drop}
use lib.Dec.{eqb}
use borrow.Author.Tests.{le-leb, lt-leb, eqb-true, eqb-false}
use Rattle.std.specs.Prelude.{Option, None, Some}
use Rattle.options.specs.Message.{Field, options, file, sname, start, bytes, Opt, opt}
use Rattle.options.specs.Reading.{Parse, parse, file_in, sname_in}
use Rattle.theorems.proofs.Lengths.{field_within, field_part}
use Rattle.wire.proofs.Laws.{rest, rest_pad, rest_end, body_length}
use Rattle.message.specs.Active.{active_in, options_in, field_from, later_fields, options_from, active_options}
use Rattle.records.specs.FieldRecords.{has_end, field_ends, ActiveEnds}
use Rattle.records.specs.Places.{field_at, next_place_value, some_place, Stands, MeetsAt, left_at, to_go, bytes_left, Goes}
use Rattle.records.proofs.Within.{inside, pad_ends, option_within, option_found, option_ends}

-- ---- a place, and the offset in its field

field_at_lem : (m : List ℕ) (fd : Field) (x : ℕ) → x < length (bytes fd m) → field_at (start fd + x) ≡ fd
unfolding field_at
field_at_lem m options x h = rw (le-leb 240 (240 + x) (omega arith))
field_at_lem m file x h =
    let l : x < 128 = omega (arith, length-take 128 (drop 108 m)) in
    rw (lt-leb 240 (108 + x) (omega arith), le-leb 108 (108 + x) (omega arith))
field_at_lem m sname x h =
    let l : x < 64 = omega (arith, length-take 64 (drop 44 m)) in
    rw (lt-leb 240 (44 + x) (omega arith), lt-leb 108 (44 + x) (omega arith))

byte_at : (m : List ℕ) (fd : Field) (x : ℕ) → x < length (bytes fd m) → get_or (bytes fd m) x 0 ≡ get_or m (start fd + x) 0
byte_at m options x h = get_or-drop 240 m x 0
byte_at m file x h = get_or-take 128 (drop 108 m) x 0 (omega (arith, length-take 128 (drop 108 m))) ∙ get_or-drop 108 m x 0
byte_at m sname x h = get_or-take 64 (drop 44 m) x 0 (omega (arith, length-take 64 (drop 44 m))) ∙ get_or-drop 44 m x 0

-- the data from i + 2 on, as a part up to i + 2 + n
pub part_is : (m : List ℕ) (i n : ℕ) → take (i + 2 + n - (i + 2)) (drop (i + 2) m) ≡ take n (drop (i + 2) m)
part_is m i n = let k : i + 2 + n - (i + 2) ≡ n = omega arith in rw k

less_on : (m : List ℕ) (fd : Field) (x y : ℕ) → x < length (bytes fd m) → x < y → to_go m fd (start fd + y) < to_go m fd (start fd + x)
less_on m options x y h l = omega (arith, length-drop 240 m)
less_on m file x y h l = omega (arith, length-take 128 (drop 108 m))
less_on m sname x y h l = omega (arith, length-take 64 (drop 44 m))

module _ (v : ℕ) (m : List ℕ) where
  left_at_lem : (fd : Field) (x : ℕ) → x < length (bytes fd m) → left_at v m (start fd + x) ≡ options_from v m fd x
  unfolding left_at
  left_at_lem fd x h =
      let k : start fd + x - start fd ≡ x = omega arith in
      rw (field_at_lem m fd x h, k)

  go_at : (fd : Field) (x : ℕ) → x < length (bytes fd m) → bytes_left m (start fd + x) ≡ to_go m fd (start fd + x)
  go_at fd x h = ap (λ (g : Field). to_go m g (start fd + x)) (field_at_lem m fd x h)

  in_active : (fd : Field) (x : ℕ) → active_in v fd ≡ true → options_from v m fd x ≡ options_in fd (rest (bytes fd m) x) ++ later_fields v m fd
  unfolding options_from field_from
  in_active fd x e = rw e

  -- ---- the fields after a field

  inactive : (fd : Field) → active_in v fd ≡ false → field_from v m fd 0 ≡ []
  unfolding field_from
  inactive fd e = rw e

  none_after : (fd : Field) → next_place_value v fd ≡ 0 → later_fields v m fd ≡ []
  none_after options e = go (file_in v) refl (sname_in v) refl e
    where
      go : (a : Bool) → file_in v ≡ a → (b : Bool) → sname_in v ≡ b → ◌≡◌ {A = ℕ} (cond a 108 (cond b 44 0)) 0 → field_from v m file 0 ++ field_from v m sname 0 ≡ []
      go true p b s q = absurd (omega arith)
      go false p true s q = absurd (omega arith)
      go false p false s q = rw (inactive file p, inactive sname s) refl
  none_after file e = go (sname_in v) refl e
    where
      go : (b : Bool) → sname_in v ≡ b → ◌≡◌ {A = ℕ} (cond b 44 0) 0 → field_from v m sname 0 ≡ []
      go true s q = absurd (omega arith)
      go false s q = inactive sname s
  none_after sname e = refl

  -- r is where the field starts that is read after fd
  record After (fd : Field) (r : ℕ) : Type 0 where
    field : Field
    starts : r ≡ start field
    active : active_in v field ≡ true
    same : later_fields v m fd ≡ options_from v m field 0
    less : (x : ℕ) → x < length (bytes fd m) → to_go m field (start field) < to_go m fd (start fd + x)

  next_after : (fd : Field) → (next_place_value v fd ≡ 0 → ⊥) → After fd (next_place_value v fd)
  unfolding options_from
  next_after options n = go (file_in v) refl (sname_in v) refl n
    where
      go : (a : Bool) → file_in v ≡ a → (b : Bool) → sname_in v ≡ b → (◌≡◌ {A = ℕ} (cond a 108 (cond b 44 0)) 0 → ⊥) → After options (cond a 108 (cond b 44 0))
      go true p b s q = record { field = file; starts = refl; active = p; same = refl; less = λ x h. omega (arith, length-drop 240 m) }
      go false p true s q =
          record { field = sname; starts = refl; active = s; same = rw (inactive file p) (sym (append-nil (field_from v m sname 0))); less = λ x h. omega (arith, length-drop 240 m) }
      go false p false s q = absurd (q refl)
  next_after file n = go (sname_in v) refl n
    where
      go : (b : Bool) → sname_in v ≡ b → (◌≡◌ {A = ℕ} (cond b 44 0) 0 → ⊥) → After file (cond b 44 0)
      go true s q =
          record { field = sname; starts = refl; active = s; same = sym (append-nil (field_from v m sname 0)); less = λ x h. omega (arith, length-take 128 (drop 108 m)) }
      go false s q = absurd (q refl)
  next_after sname n = absurd (n refl)

  -- ---- the first place of a field

  first_ends : ActiveEnds v m → (fd : Field) → active_in v fd ≡ true → has_end (parse 0 0 (bytes fd m)) ≡ true
  unfolding field_ends
  first_ends a options e = a.of_options
  first_ends a file e = rw e at a.of_file
  first_ends a sname e = rw e at a.of_sname

  starts_at : ActiveEnds v m → (fd : Field) → active_in v fd ≡ true → (r : ℕ) → r ≡ start fd → Stands v m r
  starts_at a fd e r q = record { field = fd; offset = 0; place = omega arith; active = e; ends = first_ends a fd e }

  pub stands_first : ActiveEnds v m → Stands v m 240
  stands_first a = starts_at a options refl 240 refl

  pub left_first : left_at v m 240 ≡ active_options v m
  unfolding left_at field_at
  left_first = refl

  -- ---- a step of the walk

  module _ {i : ℕ} (y : Stands v m i) where
    abbrev fd : Field
    fd = y.field

    abbrev x : ℕ
    x = y.offset

    abbrev f : List ℕ
    f = bytes fd m

    in_field : x < length f
    in_field = inside f x y.ends

    pub stands_in : i < length m
    stands_in = omega (arith, y.place, field_within fd m (x + 1) (omega arith) (omega (arith, in_field)))

    byte_is : get_or f x 0 ≡ get_or m i 0
    byte_is = byte_at m fd x in_field ∙ ap (λ (k : ℕ). get_or m k 0) (sym y.place)

    pub field_is : field_at i ≡ fd
    field_is = ap field_at y.place ∙ field_at_lem m fd x in_field

    left_is : left_at v m i ≡ options_in fd (rest f x) ++ later_fields v m fd
    left_is = ap (left_at v m) y.place ∙ left_at_lem fd x in_field ∙ in_active fd x y.active

    -- further on in the same field
    less_in : (z : ℕ) → x < z → z < length f → bytes_left m (start fd + z) < bytes_left m i
    less_in z l h = omega (arith, go_at fd z h, ap (bytes_left m) y.place, go_at fd x in_field, less_on m fd x z in_field l)

    pub at_pad : get_or m i 0 ≡ 0 → Goes v m i (i + 1)
    at_pad e =
        let z : get_or f x 0 ≡ 0 = byte_is ∙ e in
        let p : i + 1 ≡ start fd + (x + 1) = omega (arith, y.place) in
        let n : has_end (rest f (x + 1)) ≡ true = pad_ends f x y.ends z in
        let h : x + 1 < length f = inside f (x + 1) n in
        record {
          stands = record { field = fd; offset = x + 1; place = p; active = y.active; ends = n };
          same = left_is ∙ rw (rest_pad f x in_field z, p) (sym (left_at_lem fd (x + 1) h ∙ in_active fd (x + 1) y.active));
          less = rw p (less_in (x + 1) (omega arith) h);
        }

    -- ---- an option

    module _ (z : get_or m i 0 ≡ 0 → ⊥) (e : get_or m i 0 ≡ 255 → ⊥) where
      no_pad : get_or f x 0 ≡ 0 → ⊥
      no_pad q = z (sym byte_is ∙ q)

      no_end : get_or f x 0 ≡ 255 → ⊥
      no_end q = e (sym byte_is ∙ q)

      within : x + 2 + get_or f (x + 1) 0 ≤ length f
      within = option_within f x y.ends no_pad no_end

      size_is : get_or f (x + 1) 0 ≡ get_or m (i + 1) 0
      size_is =
          let p : start fd + (x + 1) ≡ i + 1 = omega (arith, y.place) in
          byte_at m fd (x + 1) (omega (arith, within)) ∙ ap (λ (k : ℕ). get_or m k 0) p

      -- with n data bytes, before the place j
      module _ (n j : ℕ) (q : n ≡ get_or m (i + 1) 0) (w : j ≡ i + 2 + n) where
        size : get_or f (x + 1) 0 ≡ n
        size = size_is ∙ sym q

        place_is : j ≡ start fd + (x + 2 + n)
        place_is = omega (arith, y.place)

        pub option_in_lem : i + 2 + n ≤ length m
        option_in_lem = omega (arith, y.place, size, field_within fd m (x + 2 + n) (omega arith) (omega (arith, within, size)))

        ends_after : has_end (rest f (x + 2 + n)) ≡ true
        ends_after = ap (λ (k : ℕ). has_end (rest f (x + 2 + k))) (sym size) ∙ option_ends f x y.ends no_pad no_end

        pub option_stands : Stands v m j
        option_stands = record { field = fd; offset = x + 2 + n; place = place_is; active = y.active; ends = ends_after }

        abbrev pub option_at : Opt
        option_at = opt fd x (get_or m i 0) (take n (drop (i + 2) m))

        body_is : take n (drop (x + 2) f) ≡ take n (drop (i + 2) m)
        body_is =
            let p : start fd + (x + 2) ≡ i + 2 = omega (arith, y.place) in
            field_part fd m (x + 2) n (omega (arith, within, size)) ∙ ap (λ (k : ℕ). take n (drop k m)) p

        here : rest f x ≡ Parse.found x (record { tag = get_or m i 0; body = take n (drop (i + 2) m) }) (rest f (x + 2 + n))
        here = rw (← body_is, ← byte_is, ← size) (option_found f x y.ends no_pad no_end)

        pub option_left : left_at v m i ≡ option_at ∷ left_at v m j
        unfolding options_in
        option_left =
            left_is
            ∙ rw (here, place_is) (ap (λ (l : List Opt). option_at ∷ l) (sym (left_at_lem fd (x + 2 + n) (inside f (x + 2 + n) ends_after) ∙ in_active fd (x + 2 + n) y.active)))

        pub option_less : bytes_left m j < bytes_left m i
        option_less = rw place_is (less_in (x + 2 + n) (omega arith) (inside f (x + 2 + n) ends_after))

        pub option_size : length (take n (drop (i + 2) m)) ≡ n
        option_size = body_length m i n option_in_lem

    -- ---- END

    module _ (e : get_or m i 0 ≡ 255) (r : ℕ) (q : r ≡ next_place_value v (field_at i)) where
      left_later : left_at v m i ≡ later_fields v m fd
      unfolding options_in
      left_later = left_is ∙ rw (rest_end f x in_field (byte_is ∙ e)) refl

      next_is : r ≡ next_place_value v fd
      next_is = q ∙ ap (next_place_value v) field_is

      pub end_none : r ≡ 0 → left_at v m i ≡ []
      end_none z = left_later ∙ none_after fd (sym next_is ∙ z)

      pub end_next : ActiveEnds v m → (r ≡ 0 → ⊥) → Goes v m i r
      end_next a n =
          let w : After fd r = rw (← next_is) at (next_after fd (λ z. n (next_is ∙ z))) in
          let g : Field = w.field in
          let k : Stands v m r = starts_at a g w.active r w.starts in
          let h : 0 < length (bytes g m) = inside (bytes g m) 0 (first_ends a g w.active) in
          let p : r ≡ start g + 0 = omega (arith, w.starts) in
          let p' : start g + 0 ≡ start g = omega arith in
          record {
            stands = k;
            same = left_later ∙ w.same ∙ sym (left_at_lem g 0 h) ∙ ap (left_at v m) (sym p);
            less =
                omega (arith, ap (bytes_left m) p, go_at g 0 h, ap (to_go m g) p', w.less x in_field, ap (bytes_left m) y.place, go_at fd x in_field);
          }

-- a place where there may be one
pub no_place : (p : ℕ) → ◌≡◌ {A = Option ℕ} None (some_place p) → p ≡ 0
no_place p = go (eqb p 0) refl
  where
    go : (b : Bool) → eqb p 0 ≡ b → ◌≡◌ {A = Option ℕ} None (cond b None (Some p)) → p ≡ 0
    go true q e = eqb-true p 0 q
    go false q e = absurd (cc)

pub a_place : (p n : ℕ) → ◌≡◌ {A = Option ℕ} (Some n) (some_place p) → (n ≡ p) × (n ≡ 0 → ⊥)
a_place p n = go (eqb p 0) refl
  where
    go : (b : Bool) → eqb p 0 ≡ b → ◌≡◌ {A = Option ℕ} (Some n) (cond b None (Some p)) → (n ≡ p) × (n ≡ 0 → ⊥)
    go true q e = absurd (cc)
    go false q e = let w : n ≡ p = cc in (w, λ z. eqb-false p 0 q (sym w ∙ z))

-- where reading goes on behind an END
module _ {v : ℕ} {m : List ℕ} {i : ℕ} (y : Stands v m i) where
  pub field_goes : ActiveEnds v m → get_or m i 0 ≡ 255 → (n : ℕ) → ◌≡◌ {A = Option ℕ} (Some n) (some_place (next_place_value v (field_at i))) → Goes v m i n
  field_goes a e n h = let w = a_place (next_place_value v (field_at i)) n h in end_next v m y e n w.0 a w.1

  pub field_none : get_or m i 0 ≡ 255 → ◌≡◌ {A = Option ℕ} None (some_place (next_place_value v (field_at i))) → left_at v m i ≡ []
  field_none e h = end_none v m y e (next_place_value v (field_at i)) refl (no_place (next_place_value v (field_at i)) h)

-- ---- the way to the next option

pub record Nearing (v : ℕ) (m : List ℕ) (from i : ℕ) : Type 0 where
  pub stands : Stands v m i
  pub same : left_at v m from ≡ left_at v m i
  pub no_later : bytes_left m i ≤ bytes_left m from

module _ {v : ℕ} {m : List ℕ} {from : ℕ} where
  pub nearing_begins : Stands v m from → Nearing v m from from
  nearing_begins s = record { stands = s; same = refl; no_later = omega arith }

  module _ {i : ℕ} (y : Nearing v m from i) where
    pub nearing_on : {j : ℕ} → Goes v m i j → Nearing v m from j
    nearing_on g = record { stands = g.stands; same = y.same ∙ g.same; no_later = omega (arith, y.no_later, g.less) }

    pub meets_here : (get_or m i 0 ≡ 0 → ⊥) → (get_or m i 0 ≡ 255 → ⊥) → MeetsAt v m from i
    meets_here z e = record { stands = y.stands; same = y.same; no_later = y.no_later; no_pad = z; no_end = e }

    module _ (a : ActiveEnds v m) (e : get_or m i 0 ≡ 255) where
      pub nearing_field : (n : ℕ) → ◌≡◌ {A = Option ℕ} (Some n) (some_place (next_place_value v (field_at i))) → Goes v m i n
      nearing_field n h = field_goes y.stands a e n h

      pub nearing_ends : ◌≡◌ {A = Option ℕ} None (some_place (next_place_value v (field_at i))) → left_at v m from ≡ []
      nearing_ends h = y.same ∙ field_none y.stands e h

-- ---- an option that is met

module _ {v : ℕ} {m : List ℕ} {i j : ℕ} (k : MeetsAt v m i j) (n p : ℕ) (q : n ≡ get_or m (j + 1) 0) (w : p ≡ j + 2 + n) where
  pub met_within : j + 2 + n ≤ length m
  met_within = option_in_lem v m k.stands k.no_pad k.no_end n p q w

  abbrev pub met : Opt
  met = option_at v m k.stands k.no_pad k.no_end n p q w

  pub met_stands : Stands v m p
  met_stands = option_stands v m k.stands k.no_pad k.no_end n p q w

  pub met_left : left_at v m i ≡ met ∷ left_at v m p
  met_left = k.same ∙ option_left v m k.stands k.no_pad k.no_end n p q w

  pub met_less : bytes_left m p < bytes_left m i
  met_less = omega (arith, k.no_later, option_less v m k.stands k.no_pad k.no_end n p q w)

  pub met_size : length (take n (drop (j + 2) m)) ≡ n
  met_size = option_size v m k.stands k.no_pad k.no_end n p q w
