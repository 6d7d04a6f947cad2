-- The answer for a code that a walk met is the answer for the pieces that are found. Assumes nothing.
use mathlib.Core.Path.{◌≡◌, refl, sym, ap, ap₂, ◌∙◌, subst}
use mathlib.Core.Bool.{Bool, true, false, cond}
use mathlib.Core.List.{List, [], ◌∷◌, ◌++◌, append-nil}
use mathlib.Core.Logic.{inl}
use Prim.Native.Nat.{ℕ, zero, suc, ◌+◌, ◌-◌, ◌≤◌, ◌<◌}
use native.Mathlib.Omega.{arith}
use lib.Dec.{eqb}
use lib.ListN.{length, take, drop, replicate, length-take, length-append, length-replicate}
use lib.Seq.{take_at}
use borrow.Author.Tests.{ne_eqb, eqb-true, eqb-false, le-leb, lt-leb}
use Rattle.options.specs.Message.{Field, options, file, sname, start, bytes, Opt, data_start, place, In, end_to_end, Standing}
use Rattle.options.specs.Reading.{Reading, accepted, refused, read_message, pieces}
use Rattle.options.specs.Kinds.{trimmed, kinds}
use Rattle.options.specs.KindClaims.{AllBytes}
use Rattle.options.specs.Answers as asked
use Rattle.kinds.specs.Numbers.{kind_numbered, fault_numbered}
use Rattle.theorems.proofs.Fields.{option_in_lem}
use Rattle.theorems.proofs.Reading.{listed_stands, listed_bytes}
use Rattle.theorems.proofs.Pieces.{from_pieces}
use Rattle.theorems.proofs.Lengths.{field_within, joined_short}
use Rattle.std.specs.Prelude.{Option, None, Some, Result, Err, Ok}
use Rattle.refusal.specs.declared.Rule.TheVariants.{BadCode}
use Rattle.refusal.specs.declared.Refusal.{Refusal}
use Rattle.refusal.specs.Refused.{number_of}
use Rattle.message.specs.declared.Scanned.{Scanned}
use Rattle.message.specs.Scan.{Scan, first_start, place_after, refused_at, scan_of, told_of, told_by}
use Rattle.message.proofs.Callers.{passed, ScanAccepted, scan_reads, scan_refused, scan_accepted, find_refused, find_accepted}
use Rattle.filled.specs.Fill.{Fills}
use Rattle.filled.proofs.Answers.{fills_enough}
use Rattle.text.specs.Text.{Puts}
use Rattle.text.proofs.Putting.{puts_front}
use Rattle.buffer.proofs.Writing.{written_as, written_front}
use Rattle.cursor.specs.Cursor.{first_position}
use Rattle.gather.specs.Joined.{joined_from}
use Rattle.lookup.specs.Found.{origin_at_value, known_row_value, code_checked, some_row, content_by, content_in, size_at, data_at, InPieces, clipped, part_given, one_told, one_in}
use Rattle.lookup.specs.declared.Extent.{Extent}
use Rattle.lookup.proofs.Rows.{by_some_row}
use Rattle.lookup.proofs.Verdicts.{by_row, text_other, text_lost, text_found_lem}
use Rattle.lookup.proofs.Halves.{last_of, last_place, last_in, inside, data_is, piece_stands, first_stands, last_stands, last_apart, both_all}

-- a part of no bytes is empty
clip_is : (s n : ℕ) → clipped s n ≡ asked.extent s n
clip_is s zero = refl
clip_is s (suc n) = rw (ne_eqb (suc n) 0 (omega arith))

-- ---- the first piece

-- the origin that its place tells is its own
origin_is : (o : Opt) (m : List ℕ) (x : asked.Wholeness) → o.offset < length (bytes o.field m)
    → origin_at_value (data_start o - 2) x ≡ record { field = o.field; offset = o.offset; wholeness = x }
origin_is o m x h = let e : data_start o - 2 ≡ place o = omega arith in ap (λ (p : ℕ). origin_at_value p x) e ∙ at_field o.field o.offset h
  where
    at_field : (fd : Field) (i : ℕ) → i < length (bytes fd m) → origin_at_value (start fd + i) x ≡ record { field = fd; offset = i; wholeness = x }
    at_field options i l =
        rw (le-leb 240 (240 + i) (omega arith)) (ap (λ (k : ℕ). record { field = options; offset = k; wholeness = x }) (let e : 240 + i - 240 ≡ i = omega arith in e))
    at_field file i l =
        rw (lt-leb 240 (108 + i) (omega (arith, length-take 128 (drop 108 m))), le-leb 108 (108 + i) (omega arith))
        (ap (λ (k : ℕ). record { field = file; offset = k; wholeness = x }) (let e : 108 + i - 108 ≡ i = omega arith in e))
    at_field sname i l =
        rw (lt-leb 240 (44 + i) (omega (arith, length-take 64 (drop 44 m))), lt-leb 108 (44 + i) (omega (arith, length-take 64 (drop 44 m))))
        (ap (λ (k : ℕ). record { field = sname; offset = k; wholeness = x }) (let e : 44 + i - 44 ≡ i = omega arith in e))

pub least_met : (o : Opt) → 46 ≤ data_start o
least_met o = go o.field
  where
    go : (fd : Field) → 46 ≤ start fd + o.offset + 2
    go options = omega arith
    go file = omega arith
    go sname = omega arith

-- in one piece, the option o
pub record One (m : List ℕ) (r : Scan) (ps : List Opt) : Type 0 where
  pub option : Opt
  pub are : ps ≡ option ∷ []
  pub start : r.start ≡ data_start option
  pub whole : r.whole ≡ length option.item.body
  pub within : r.start + r.whole ≤ length m
  pub own : take r.whole (drop r.start m) ≡ option.item.body
  pub origin : origin_at_value (r.start - 2) asked.in_one ≡ asked.origin_of option []

-- in several, o the first
pub record Several (r : Scan) (ps : List Opt) : Type 0 where
  pub option : Opt
  pub second : Opt
  pub others : List Opt
  pub are : ps ≡ option ∷ second ∷ others
  pub origin : origin_at_value (r.start - 2) (asked.in_pieces r.whole) ≡ asked.origin_of option (second ∷ others)
  pub least : 46 ≤ r.start

-- what the walk of an accepted message tells
module _ (code : ℕ) (m : List ℕ) (r : Scan) (os : List Opt) (a : ScanAccepted code m r os) where
  start_is : r.start ≡ first_start (pieces code os)
  start_is = ap (λ (w : Scan). w.start) a.is

  pub whole_is : r.whole ≡ length (end_to_end (pieces code os))
  whole_is = ap (λ (w : Scan). w.whole) a.is

  last_is : r.last ≡ place_after 0 (pieces code os)
  last_is = ap (λ (w : Scan). w.last) a.is

  pub joined_is : joined_from r.over m first_position code ≡ end_to_end (pieces code os)
  unfolding joined_from
  joined_is = ap (λ (l : List Opt). end_to_end (pieces code l)) (sym a.options_are)

  pub joined_fits : length (joined_from r.over m first_position code) ≤ 1472
  joined_fits = omega (arith, ap length joined_is, joined_short m (record { options = os; reads = a.reads }) code)

  module _ (o : Opt) (qs : List Opt) (e : pieces code os ≡ o ∷ qs) where
    listed : In o os
    listed = (from_pieces code os o (subst (In o) (sym e) (inl refl))).0

    stands : Standing m o
    stands = listed_stands a.reads o listed

    start_of : r.start ≡ data_start o
    start_of = start_is ∙ ap first_start e

    origin_of_lem : (x : asked.Wholeness) → origin_at_value (r.start - 2) x ≡ record { field = o.field; offset = o.offset; wholeness = x }
    origin_of_lem x = rw start_of (origin_is o m x (omega (arith, option_in_lem stands.stands.option)))

    within : data_start o + length o.item.body ≤ length m
    within = omega (arith, field_within o.field m (o.offset + 2 + length o.item.body) (omega arith) (option_in_lem stands.stands.option))

    last_of_lem : r.last ≡ place (last_of o qs)
    unfolding place_after
    last_of_lem = last_is ∙ ap (place_after 0) e ∙ last_place o qs

    last_within : r.last ≤ 1472
    last_within =
        let i : In (last_of o qs) (pieces code os) = subst (In (last_of o qs)) (sym e) (last_in o qs) in
        omega (arith, last_of_lem, inside m (last_of o qs) (piece_stands m os a.reads code (last_of o qs) i), (passed m os a.reads).most)

  pub start_none : pieces code os ≡ [] → r.start ≡ 0
  start_none e = start_is ∙ ap first_start e

  pub none_met : r.start ≡ 0 → pieces code os ≡ []
  none_met z = go (pieces code os) refl
    where
      go : (ps : List Opt) → pieces code os ≡ ps → pieces code os ≡ []
      go [] e = e
      go (o ∷ qs) e = absurd (omega (arith, least_met o, start_of o qs e))

  pub last_short : r.last ≤ 1472
  unfolding place_after
  last_short = go (pieces code os) refl
    where
      go : (ps : List Opt) → pieces code os ≡ ps → r.last ≤ 1472
      go [] e = omega (arith, last_is ∙ ap (place_after 0) e)
      go (o ∷ qs) e = last_within o qs e

  pub one_met : (r.start ≡ 0 → ⊥) → r.last + 2 ≡ r.start → One m r (pieces code os)
  unfolding end_to_end
  one_met z h = go (pieces code os) refl
    where
      go : (ps : List Opt) → pieces code os ≡ ps → One m r (pieces code os)
      go [] e = absurd (z (start_is ∙ ap first_start e))
      go (o ∷ q ∷ qs) e = absurd (last_apart m os a.reads code o q qs e (omega (arith, h, start_of o (q ∷ qs) e, last_of_lem o (q ∷ qs) e)))
      go (o ∷ []) e =
          let w : r.whole ≡ length o.item.body = whole_is ∙ ap (λ (ps : List Opt). length (end_to_end ps)) e ∙ ap length (append-nil o.item.body) in
          record {
            option = o;
            are = e;
            start = start_of o [] e;
            whole = w;
            within = omega (arith, within o [] e, start_of o [] e);
            own = rw (w, start_of o [] e) (listed_bytes m a.reads o (listed o [] e));
            origin = origin_of_lem o [] e asked.in_one;
          }

  pub several_met : (r.start ≡ 0 → ⊥) → (r.last + 2 ≡ r.start → ⊥) → Several r (pieces code os)
  several_met z h = go (pieces code os) refl
    where
      go : (ps : List Opt) → pieces code os ≡ ps → Several r (pieces code os)
      go [] e = absurd (z (start_is ∙ ap first_start e))
      go (o ∷ []) e = absurd (h (omega (arith, start_of o [] e, last_of_lem o [] e)))
      go (o ∷ q ∷ qs) e =
          record {
            option = o;
            second = q;
            others = qs;
            are = e;
            origin = origin_of_lem o (q ∷ qs) e (asked.in_pieces r.whole) ∙ ap (λ (n : ℕ). record { field = o.field; offset = o.offset; wholeness = asked.in_pieces n }) (whole_is ∙ ap (λ (ps : List Opt). length (end_to_end ps)) e);
            least = omega (arith, least_met o, start_of o (q ∷ qs) e);
          }

  pub bytes_met : (r.start ≡ 0 → ⊥) → r.last + 2 ≡ r.start → take r.whole (drop r.start m) ≡ end_to_end (pieces code os)
  unfolding end_to_end
  bytes_met s h = let x = one_met s h in x.own ∙ sym (append-nil x.option.item.body) ∙ ap end_to_end (sym x.are)

  -- and of its first and last piece
  pub when_in_pieces : (r.start ≡ 0 → ⊥) → (r.last + 2 ≡ r.start → ⊥) → InPieces m code r
  when_in_pieces z h =
      let x = several_met z h in
      let o : Opt = x.option in
      let q : Opt = last_of x.second x.others in
      let f = first_stands m os a.reads code o x.second x.others x.are in
      let l = last_stands m os a.reads code o x.second x.others x.are in
      let s : r.start - 2 ≡ place o = omega (arith, start_of o (x.second ∷ x.others) x.are) in
      let t : r.last ≡ place q = last_of_lem o (x.second ∷ x.others) x.are in
      let w : r.whole ≡ length (end_to_end (o ∷ x.second ∷ x.others)) = whole_is ∙ ap (λ (ps : List Opt). length (end_to_end ps)) x.are in
      let y : data_at m (r.start - 2) ≡ o.item.body = ap (data_at m) s ∙ data_is m o f in
      let v : data_at m r.last ≡ q.item.body = ap (data_at m) t ∙ data_is m q l in
      record {
        whole = whole_is ∙ sym (ap length joined_is);
        short = omega (arith, whole_is ∙ sym (ap length joined_is), joined_fits);
        least = omega (arith, x.least);
        first_in = subst (λ (p : ℕ). p + 2 + size_at m p ≤ length m) (sym s) (inside m o f);
        last_in = subst (λ (p : ℕ). p + 2 + size_at m p ≤ length m) (sym t) (inside m q l);
        both = λ e. ap₂ (λ (b c : List ℕ). b ++ c) y v ∙ both_all m os a.reads code o x.second x.others x.are (omega (arith, ap length y, ap length v, e, w)) ∙ ap end_to_end (sym x.are) ∙ sym joined_is;
      }

pub one_copied : (m : List ℕ) (c : ℕ) → (c ≡ 0 → ⊥) → (c ≡ 255 → ⊥) → (r : Scan) (os : List Opt) → ScanAccepted c m r os → (r.start ≡ 0 → ⊥) → r.last + 2 ≡ r.start
    → take r.whole (drop r.start m) ≡ end_to_end (pieces c os)
one_copied m c z e r os a s h = bytes_met c m r os a s h

-- the pieces gathered in a buffer of n bytes: it begins with as many of theirs
pub record Front (xs last : List ℕ) (r : ℕ) : Type 0 where
  pub room : r ≤ length last
  pub front : take r last ≡ xs

pub gathered : (n : ℕ) {xs last : List ℕ} {r : ℕ} → Puts (replicate n 0) 0 xs r last → Front (take n xs) last r
gathered n {xs} {last} {r} p =
    let l : length (replicate {A = ℕ} n 0) - 0 ≡ n = omega (arith, length-replicate {A = ℕ} n 0) in
    let f = written_front (written_as (ap (λ (k : ℕ). take k xs) l) p.written) in
    record {
      room = omega (arith, f.0, ap length f.1, length-append (take n xs) (drop (length (take n xs)) (replicate n 0)));
      front = ap (take r) f.1 ∙ take_at (take n xs) (drop (length (take n xs)) (replicate n 0)) r (sym f.0);
    }

-- ---- the calls, by the tests that the code makes

-- what the test of the code gives
pub wrong_code : (c : ℕ) (e : Refusal) → ◌≡◌ {A = Result (Unit {0}) Refusal} (Err e) (code_checked c) → (asked.no_code c ≡ true) × (e ≡ record { rule = BadCode; place = 0 })
wrong_code c e = go (asked.no_code c)
  where
    go : (b : Bool) → ◌≡◌ {A = Result (Unit {0}) Refusal} (Err e) (cond b (Err (record { rule = BadCode; place = 0 })) (Ok tt)) → (b ≡ true) × (e ≡ record { rule = BadCode; place = 0 })
    go true h = (refl, cc)
    go false h = absurd (cc)

pub right_code : (c : ℕ) (x : Unit {0}) → ◌≡◌ {A = Result (Unit {0}) Refusal} (Ok x) (code_checked c) → asked.no_code c ≡ false
right_code c x = go (asked.no_code c)
  where
    go : (b : Bool) → ◌≡◌ {A = Result (Unit {0}) Refusal} (Ok x) (cond b (Err (record { rule = BadCode; place = 0 })) (Ok tt)) → b ≡ false
    go true h = absurd (cc)
    go false h = refl

module _ (m : List ℕ) (c : ℕ) where
  -- a code that none may ask for
  module _ (wrong : asked.no_code c ≡ true) where
    pub lookup_wrong : (set : ℕ → Bool) → asked.Refused 10 0 ≡ asked.lookup kinds set m c
    unfolding asked.lookup
    lookup_wrong set = rw wrong

    pub copy_wrong : (old : List ℕ) → asked.copy m c old ≡ asked.unfilled 10 0 old
    unfolding asked.copy
    copy_wrong old = rw wrong

    data_wrong : asked.no_extent ≡ asked.data_of m c
    unfolding asked.data_of
    data_wrong = rw wrong

    text_wrong : (set : ℕ → Bool) → asked.no_extent ≡ asked.text_of set m c
    unfolding asked.text_of
    text_wrong set = ap asked.text_in_value (lookup_wrong set)

  module _ (code_right : asked.no_code c ≡ false) where
    pub lookup_read : (set : ℕ → Bool) (w : Reading) → read_message m ≡ w → asked.answered kinds set c w ≡ asked.lookup kinds set m c
    unfolding asked.lookup
    lookup_read set w r = rw (code_right, r)

    pub data_read : (w : Reading) → read_message m ≡ w → asked.data_in_value c w ≡ asked.data_of m c
    unfolding asked.data_of
    data_read w r = rw (code_right, r)

    pub copy_read : (old : List ℕ) (w : Reading) → read_message m ≡ w → asked.copy m c old ≡ asked.copy_in_value c w old
    unfolding asked.copy
    copy_read old w r = rw (code_right, r)

    -- of an accepted message
    module _ (r : Scan) (os : List Opt) (a : ScanAccepted c m r os) where
      module _ (set : ℕ → Bool) where
        pub found_absent : r.start ≡ 0 → asked.Absent ≡ asked.lookup kinds set m c
        found_absent h = ap (asked.shown kinds set c) (sym (none_met c m r os a h)) ∙ lookup_read set (accepted os) a.reads

        found_one : (x : One m r (pieces c os)) → asked.Found (asked.origin_of x.option []) (asked.content_of kinds set c x.option.item.body) ≡ asked.lookup kinds set m c
        unfolding end_to_end
        found_one x =
            ap (λ (d : List ℕ). asked.Found (asked.origin_of x.option []) (asked.content_of kinds set c d)) (sym (append-nil x.option.item.body))
            ∙ ap (asked.shown kinds set c) (sym x.are) ∙ lookup_read set (accepted os) a.reads

        pub found_here : (r.start ≡ 0 → ⊥) → r.last + 2 ≡ r.start
            → asked.Found (origin_at_value (r.start - 2) asked.in_one) (asked.content_of kinds set c (take r.whole (drop r.start m))) ≡ asked.lookup kinds set m c
        found_here s h = let x = one_met c m r os a s h in rw (x.origin, x.own) (found_one x)

        pub found_several : (r.start ≡ 0 → ⊥) → (r.last + 2 ≡ r.start → ⊥)
            → asked.Found (origin_at_value (r.start - 2) (asked.in_pieces r.whole)) (asked.content_of kinds set c (joined_from r.over m first_position c)) ≡ asked.lookup kinds set m c
        found_several s h =
            let x = several_met c m r os a s h in
            rw (x.origin, joined_is c m r os a, x.are) (ap (asked.shown kinds set c) (sym x.are) ∙ lookup_read set (accepted os) a.reads)

        -- its text
        module _ (s : r.start ≡ 0 → ⊥) (h : r.last + 2 ≡ r.start) where
          abbrev here : One m r (pieces c os)
          here = one_met c m r os a s h

          abbrev own : asked.Origin
          own = asked.origin_of here.option []

          -- by its row
          text_of_lem : (d : List ℕ) → d ≡ here.option.item.body → asked.text_in_value (asked.Found own (content_by (known_row_value set c) d)) ≡ asked.text_of set m c
          unfolding asked.text_of
          text_of_lem d e =
              ap (λ (x : asked.Content). asked.text_in_value (asked.Found own x)) (by_row set c d ∙ ap (asked.content_of kinds set c) e) ∙ ap asked.text_in_value (found_one here)

          abbrev body : List ℕ
          body = take r.whole (drop r.start m)

          pub text_not_kind : (kind_numbered (known_row_value set c) ≡ 10 → ⊥) → asked.no_extent ≡ asked.text_of set m c
          text_not_kind y = text_other own refl (known_row_value set c) body y ∙ text_of_lem body here.own

          pub text_broken : (fault_numbered (known_row_value set c) body ≡ 0 → ⊥) → asked.no_extent ≡ asked.text_of set m c
          text_broken y = text_lost own refl (known_row_value set c) body y ∙ text_of_lem body here.own

          pub text_here_lem : kind_numbered (known_row_value set c) ≡ 10 → fault_numbered (known_row_value set c) body ≡ 0 → clipped r.start (trimmed body) ≡ asked.text_of set m c
          text_here_lem y f =
              ap (λ (n : ℕ). clipped n (trimmed body)) here.start
              ∙ clip_is (data_start here.option) (trimmed body)
              ∙ text_found_lem own refl (known_row_value set c) body y f
              ∙ text_of_lem body here.own

        pub text_several : (r.start ≡ 0 → ⊥) → (r.last + 2 ≡ r.start → ⊥) → asked.no_extent ≡ asked.text_of set m c
        unfolding asked.text_of
        text_several s h =
            let x = several_met c m r os a s h in
            go x (asked.is_known kinds set c) ∙ ap asked.text_in_value (ap (asked.shown kinds set c) (sym x.are) ∙ lookup_read set (accepted os) a.reads)
          where
            go : (x : Several r (pieces c os)) (b : Bool) → asked.no_extent
                ≡ asked.text_in_value (asked.Found (asked.origin_of x.option (x.second ∷ x.others)) (cond b (asked.known (kinds.value c (end_to_end (x.option ∷ x.second ∷ x.others)))) (asked.unknown (length (end_to_end (x.option ∷ x.second ∷ x.others))))))
            go x true = refl
            go x false = refl

      -- its data
      pub data_several : (r.last + 2 ≡ r.start → ⊥) → asked.no_extent ≡ asked.data_of m c
      data_several h = go (eqb r.start 0) refl ∙ data_read (accepted os) a.reads
        where
          go : (b : Bool) → eqb r.start 0 ≡ b → asked.no_extent ≡ asked.data_found (pieces c os)
          go true q = ap asked.data_found (sym (none_met c m r os a (eqb-true r.start 0 q)))
          go false q = ap asked.data_found (sym (several_met c m r os a (eqb-false r.start 0 q) h).are)

      pub data_here : r.last + 2 ≡ r.start → clipped r.start r.whole ≡ asked.data_of m c
      data_here h =
          let x = one_met c m r os a (λ z. omega (arith, h, z)) h in
          ap₂ clipped x.start x.whole ∙ clip_is (data_start x.option) (length x.option.item.body) ∙ ap asked.data_found (sym x.are) ∙ data_read (accepted os) a.reads

      -- its copy
      pub copy_none : (old : List ℕ) → r.start ≡ 0 → asked.copy m c old ≡ asked.unfilled 11 0 old
      copy_none old h = copy_read old (accepted os) a.reads ∙ ap (λ (ps : List Opt). asked.copy_found ps old) (none_met c m r os a h)

      pub copy_met : (old : List ℕ) → (r.start ≡ 0 → ⊥) → asked.copy m c old ≡ asked.filled_with (end_to_end (pieces c os)) old
      copy_met old h = copy_read old (accepted os) a.reads ∙ go (pieces c os) refl
        where
          go : (ps : List Opt) → pieces c os ≡ ps → asked.copy_found ps old ≡ asked.filled_with (end_to_end ps) old
          go [] e = absurd (h (start_none c m r os a e))
          go (o ∷ qs) e = refl

    -- of a message that may be refused
    module _ (r : Scan) (b : AllBytes m) (h : r ≡ scan_of c m) where
      -- a refusal tells of no option
      refused_is : (r.number ≡ 0 → ⊥) → r ≡ refused_at r.number r.place
      refused_is y = h ∙ scan_reads c m (refused r.number r.place) (scan_refused c m r h y)

      by_number : {A : Type 0} → ((r.number ≡ 0 → ⊥) → A) → (r.number ≡ 0 → A) → A
      by_number {A} f g = go (eqb r.number 0) refl
        where
          go : (t : Bool) → eqb r.number 0 ≡ t → A
          go true q = g (eqb-true r.number 0 q)
          go false q = f (eqb-false r.number 0 q)

      pub met_accepted : (r.start ≡ 0 → ⊥) → (os : List Opt) × ScanAccepted c m r os
      met_accepted s = by_number (λ y. absurd (s (ap (λ (w : Scan). w.start) (refused_is y)))) (scan_accepted c m r b h)

      pub last_least : r.last ≤ 1472
      last_least =
          by_number (λ y. omega (arith, ap (λ (w : Scan). w.last) (refused_is y)))
          (λ y. let x = scan_accepted c m r b h y in last_short c m r x.0 x.1)

      pub data_apart : (r.last + 2 ≡ r.start → ⊥) → asked.no_extent ≡ asked.data_of m c
      data_apart l =
          by_number (λ y. data_read (refused r.number r.place) (scan_refused c m r h y))
          (λ y. let x = scan_accepted c m r b h y in data_several r x.0 x.1 l)

      pub data_clipped : r.last + 2 ≡ r.start → clipped r.start r.whole ≡ asked.data_of m c
      data_clipped l = let x = met_accepted (λ z. omega (arith, l, z)) in data_here r x.0 x.1 l

      pub text_absent : (set : ℕ → Bool) → r.start ≡ 0 → asked.no_extent ≡ asked.text_of set m c
      unfolding asked.text_of
      text_absent set s =
          by_number (λ y. ap asked.text_in_value (lookup_read set (refused r.number r.place) (scan_refused c m r h y)))
          (λ y. let x = scan_accepted c m r b h y in ap asked.text_in_value (found_absent r x.0 x.1 set s))

    -- of what `find` gives
    pub lookup_refused : (set : ℕ → Bool) (e : Refusal) → told_by (Err e) ≡ scan_of c m → asked.Refused (number_of e.rule) e.place ≡ asked.lookup kinds set m c
    lookup_refused set e h = lookup_read set (refused (number_of e.rule) e.place) (find_refused c m e h)

    pub copy_refused : (old : List ℕ) (e : Refusal) → told_by (Err e) ≡ scan_of c m → asked.copy m c old ≡ asked.unfilled (number_of e.rule) e.place old
    copy_refused old e h = copy_read old (refused (number_of e.rule) e.place) (find_refused c m e h)

    module _ (w : Scanned) (b : AllBytes m) (h : told_of w ≡ scan_of c m) where
      met : (os : List Opt) × ScanAccepted c m (told_of w) os
      met = find_accepted c m w b h

      pub last_fits : w.last ≤ 1472
      last_fits = last_short c m (told_of w) met.0 met.1

      pub pieces_of : (w.start ≡ 0 → ⊥) → (w.last + 2 ≡ w.start → ⊥) → InPieces m c (told_of w)
      pieces_of s l = when_in_pieces c m (told_of w) met.0 met.1 s l

      pub within_of : (w.start ≡ 0 → ⊥) → w.last + 2 ≡ w.start → (46 ≤ w.start) × (w.start + w.whole ≤ length m)
      within_of s l = let x = one_met c m (told_of w) met.0 met.1 s l in (omega (arith, least_met x.option, x.start), x.within)

      pub absent_of : (set : ℕ → Bool) → w.start ≡ 0 → asked.Absent ≡ asked.lookup kinds set m c
      absent_of set s = found_absent (told_of w) met.0 met.1 set s

      pub several_of : (set : ℕ → Bool) → (w.start ≡ 0 → ⊥) → (w.last + 2 ≡ w.start → ⊥)
          → asked.Found (origin_at_value (w.start - 2) (asked.in_pieces (length (joined_from w.over m first_position c)))) (content_in (some_row (known_row_value set c)) (joined_from w.over m first_position c)) ≡ asked.lookup kinds set m c
      several_of set s l =
          let d : List ℕ = joined_from w.over m first_position c in
          ap₂ (λ (n : ℕ) (x : asked.Content). asked.Found (origin_at_value (w.start - 2) (asked.in_pieces n)) x)
          (sym (pieces_of s l).whole) (by_some_row (known_row_value set c) d ∙ by_row set c d)
          ∙ found_several (told_of w) met.0 met.1 set s l

      pub one_of : (set : ℕ → Bool) → (w.start ≡ 0 → ⊥) → w.last + 2 ≡ w.start
          → asked.Found (origin_at_value (w.start - 2) asked.in_one) (content_in (some_row (known_row_value set c)) (take w.whole (drop w.start m))) ≡ asked.lookup kinds set m c
      one_of set s l =
          let d : List ℕ = take w.whole (drop w.start m) in
          ap (asked.Found (origin_at_value (w.start - 2) asked.in_one)) (by_some_row (known_row_value set c) d ∙ by_row set c d)
          ∙ found_here (told_of w) met.0 met.1 set s l

      pub copy_absent : (old : List ℕ) → w.start ≡ 0 → asked.copy m c old ≡ asked.unfilled 11 0 old
      copy_absent old s = copy_none (told_of w) met.0 met.1 old s

      pub copy_of : (old : List ℕ) → (w.start ≡ 0 → ⊥) → asked.copy m c old ≡ asked.filled_with (joined_from w.over m first_position c) old
      copy_of old s = copy_met (told_of w) met.0 met.1 old s ∙ ap (λ (d : List ℕ). asked.filled_with d old) (sym (joined_is c m (told_of w) met.0 met.1))

      pub joined_whole : w.whole ≡ length (joined_from w.over m first_position c)
      joined_whole = whole_is c m (told_of w) met.0 met.1 ∙ ap length (sym (joined_is c m (told_of w) met.0 met.1))

      pub joined_one : (w.start ≡ 0 → ⊥) → w.last + 2 ≡ w.start → take w.whole (drop w.start m) ≡ joined_from w.over m first_position c
      joined_one s l = bytes_met c m (told_of w) met.0 met.1 s l ∙ sym (joined_is c m (told_of w) met.0 met.1)

      pub filled_of : (old : List ℕ) → (w.start ≡ 0 → ⊥) → w.whole ≤ length old → (r : ℕ) (after : List ℕ) → Puts old 0 (joined_from w.over m first_position c) r after → Fills (asked.copy m c old) (Ok r) after
      filled_of old s l r after p =
          let d : List ℕ = joined_from w.over m first_position c in
          let room : length d ≤ length old = omega (arith, l, joined_whole) in
          let f = puts_front room p in
          fills_enough (asked.copy m c old) d old (copy_of old s) r after room f.0 f.1

  -- ---- a part, by where the data of a code stand that comes in one piece
  module _ (b : AllBytes m) where
    data_told : asked.no_code c ≡ false → part_given (one_told (scan_of c m)) ≡ asked.data_of m c
    data_told right = go (eqb ((scan_of c m).last + 2) (scan_of c m).start) refl
      where
        go : (t : Bool) → eqb ((scan_of c m).last + 2) (scan_of c m).start ≡ t → part_given (cond t (Some (record { start = (scan_of c m).start; len = (scan_of c m).whole })) None) ≡ asked.data_of m c
        go true q = data_clipped right (scan_of c m) b refl (eqb-true ((scan_of c m).last + 2) (scan_of c m).start q)
        go false q = data_apart right (scan_of c m) b refl (eqb-false ((scan_of c m).last + 2) (scan_of c m).start q)

    pub data_part : part_given (one_in c m) ≡ asked.data_of m c
    data_part = go (asked.no_code c) refl
      where
        go : (t : Bool) → asked.no_code c ≡ t → part_given (cond t None (one_told (scan_of c m))) ≡ asked.data_of m c
        go true q = data_wrong q
        go false q = data_told q

    -- no text where no piece stands alone
    text_told : (set : ℕ → Bool) → asked.no_code c ≡ false → ◌≡◌ {A = Option Extent} None (one_told (scan_of c m)) → asked.no_extent ≡ asked.text_of set m c
    text_told set right e = go (eqb ((scan_of c m).last + 2) (scan_of c m).start) refl e
      where
        apart : ((scan_of c m).last + 2 ≡ (scan_of c m).start → ⊥) → (t : Bool) → eqb (scan_of c m).start 0 ≡ t → asked.no_extent ≡ asked.text_of set m c
        apart l true q = text_absent right (scan_of c m) b refl set (eqb-true (scan_of c m).start 0 q)
        apart l false q =
            let s : (scan_of c m).start ≡ 0 → ⊥ = eqb-false (scan_of c m).start 0 q in
            let x = met_accepted right (scan_of c m) b refl s in
            text_several right (scan_of c m) x.0 x.1 set s l

        go : (t : Bool) → eqb ((scan_of c m).last + 2) (scan_of c m).start ≡ t → ◌≡◌ {A = Option Extent} None (cond t (Some (record { start = (scan_of c m).start; len = (scan_of c m).whole })) None) → asked.no_extent ≡ asked.text_of set m c
        go true q z = absurd (cc)
        go false q z = apart (eqb-false ((scan_of c m).last + 2) (scan_of c m).start q) (eqb (scan_of c m).start 0) refl

    pub text_none : (set : ℕ → Bool) → ◌≡◌ {A = Option Extent} None (one_in c m) → asked.no_extent ≡ asked.text_of set m c
    text_none set = go (asked.no_code c) refl
      where
        go : (t : Bool) → asked.no_code c ≡ t → ◌≡◌ {A = Option Extent} None (cond t None (one_told (scan_of c m))) → asked.no_extent ≡ asked.text_of set m c
        go true q e = text_wrong q set
        go false q e = text_told set q e

-- such a part
record OneAt (c : ℕ) (m : List ℕ) (e : Extent) : Type 0 where
  pub right : asked.no_code c ≡ false
  pub alone : (scan_of c m).last + 2 ≡ (scan_of c m).start
  pub start : (scan_of c m).start ≡ e.start
  pub len : (scan_of c m).whole ≡ e.len

one_at : (c : ℕ) (m : List ℕ) (e : Extent) → Some e ≡ one_in c m → OneAt c m e
one_at c m e = go (asked.no_code c) refl (eqb ((scan_of c m).last + 2) (scan_of c m).start) refl
  where
    go : (n : Bool) → asked.no_code c ≡ n → (t : Bool) → eqb ((scan_of c m).last + 2) (scan_of c m).start ≡ t
        → Some e ≡ cond n None (cond t (Some (record { start = (scan_of c m).start; len = (scan_of c m).whole })) None) → OneAt c m e
    go true p t q z = absurd (cc)
    go false p false q z = absurd (cc)
    go false p true q z =
        let x : e ≡ record { start = (scan_of c m).start; len = (scan_of c m).whole } = cc in
        record { right = p; alone = eqb-true ((scan_of c m).last + 2) (scan_of c m).start q; start = sym (ap (λ (y : Extent). y.start) x); len = sym (ap (λ (y : Extent). y.len) x) }

module _ (c : ℕ) (m : List ℕ) (b : AllBytes m) (e : Extent) (z : Some e ≡ one_in c m) where
  at : OneAt c m e
  at = one_at c m e z

  starts : (scan_of c m).start ≡ 0 → ⊥
  starts q = omega (arith, at.alone, q)

  at_met : (os : List Opt) × ScanAccepted c m (scan_of c m) os
  at_met = met_accepted m c at.right (scan_of c m) b refl starts

  pub part_within : e.start + e.len ≤ length m
  part_within = omega (arith, at.start, at.len, (one_met c m (scan_of c m) at_met.0 at_met.1 starts at.alone).within)

  module _ (set : ℕ → Bool) where
    pub part_not_kind : (kind_numbered (known_row_value set c) ≡ 10 → ⊥) → asked.no_extent ≡ asked.text_of set m c
    part_not_kind y = text_not_kind m c at.right (scan_of c m) at_met.0 at_met.1 set starts at.alone y

    pub part_broken : (fault_numbered (known_row_value set c) (take e.len (drop e.start m)) ≡ 0 → ⊥) → asked.no_extent ≡ asked.text_of set m c
    part_broken y = text_broken m c at.right (scan_of c m) at_met.0 at_met.1 set starts at.alone (rw (at.start, at.len) y)

    pub part_text : kind_numbered (known_row_value set c) ≡ 10 → fault_numbered (known_row_value set c) (take e.len (drop e.start m)) ≡ 0
        → clipped e.start (trimmed (take e.len (drop e.start m))) ≡ asked.text_of set m c
    part_text k y = rw (← at.start, ← at.len) (text_here_lem m c at.right (scan_of c m) at_met.0 at_met.1 set starts at.alone k (rw (at.start, at.len) y))
