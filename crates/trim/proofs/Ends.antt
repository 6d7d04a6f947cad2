-- Where END stands, and that what follows it is not read: the statements of TrimClaims, proved. Assumes nothing.
use mathlib.Core.Path.{◌≡◌, refl, sym, ap, ap₂, ◌∙◌, subst}
use mathlib.Core.Bool.{Bool, true, false, cond}
use mathlib.Core.List.{List, [], ◌∷◌, ◌++◌, append-nil}
use Prim.Native.Nat.{ℕ, zero, suc, ◌+◌, ◌≤◌}
use native.Mathlib.Omega.{arith}
use native.Mathlib.Decide.{ℕ_discrete}
use lib.Dec.{eqb, ltb}
use lib.ListN.{length, get_or, take, drop, length-append, length-drop}
use lib.Seq.{drop-drop, length-take-le}
use borrow.Author.Tests.{eqb-true, ne_eqb, le-ltb, ltb-false}
use Rattle.options.specs.Message.{Field, options, file, sname, start, bytes, cookie, shortest, longest, Opt, EndAt, first}
use Rattle.options.specs.Refusals.{When, Row, row_1, row_2, row_3, row_4, row_5, row_6, row_7}
use Rattle.options.specs.Reading.{Parse, ended, ran_out_value, beyond, found, span, cut, record_of, parse, Reading, accepted, refused, more, either, wrong52, second52, judge, overload_of, file_in, sname_in, and_then, extend, further, all_fields, same, read_message}
use Rattle.options.specs.Trim.{before_end, EndAnswer, ends_at, without_end, end_in, options_end_value}
use Rattle.options.specs.TrimClaims.{EndPlace, EndsRight, ends, refuses, OptionsEndIsRight, OneEndPlace, BehindEndIsNotRead, CutBehindEnd, CutReadsTheSame}
use Rattle.theorems.proofs.View.{clash, From, here, pad, past, from_begins, Reads, r_none, r_pad, r_end, r_beyond, r_option, reads}
use Rattle.theorems.proofs.Fields.{nothing_after_end}
use Rattle.theorems.proofs.Reading.{refused_by_the_table}
use Rattle.message.specs.Walking.{unfit_of}
use Rattle.message.proofs.Readings.{fit_length, read_fit, read_unfit}
use Rattle.trim.specs.Plain.{plain_end, EndGivenByCase, EndByCase, end_from, EndKept}
use Rattle.index.proofs.Steps.{refused_stays}
use Rattle.trim.proofs.Steps.{head_end, head_pad, head_option}

-- ---- a field that is accepted has its END

abbrev Closes : Parse → Type 0
Closes ended = Unit {0}
Closes (ran_out_value i) = ⊥
Closes (beyond i) = ⊥
Closes (found i x p) = Closes p

judge_closes : (fd : Field) (met : Bool) (p : Parse) (os : List Opt) → judge fd met p ≡ accepted os → Closes p
unfolding judge
judge_closes fd met ended os e = tt
judge_closes fd met (ran_out_value i) os e = clash (cc)
judge_closes fd met (beyond i) os e = clash (cc)
judge_closes fd met (found i x p) os e = go (wrong52 fd x) (second52 met x) (λ ps. judge_closes fd (either (eqb x.tag 52) met) p ps) e
  where
    o : Opt
    o = record { field = fd; offset = i; item = x }

    next : Reading
    next = judge fd (either (eqb x.tag 52) met) p

    inner : (w : Reading) → next ≡ w → ((ps : List Opt) → next ≡ accepted ps → Closes p) → more o w ≡ accepted os → Closes p
    inner (accepted ps) q h z = h ps q
    inner (refused n k) q h z = clash (cc)

    go : (a b : Bool) → ((ps : List Opt) → next ≡ accepted ps → Closes p) → cond a (refused 6 (start fd + i)) (cond b (refused 7 (start fd + i)) (more o next)) ≡ accepted os → Closes p
    go true b h z = clash (cc)
    go false true h z = clash (cc)
    go false false h z = inner next refl h z

-- options, as the first field that is read
module _ (m : List ℕ) where
  abbrev pub first_read : Reading
  first_read = judge options false (parse 0 0 (bytes options m))

  pub all_is : (w : Reading) → first_read ≡ w → all_fields m ≡ further m (and_then [] w)
  unfolding all_fields
  all_is w e = ap (λ (x : Reading). further m (and_then [] x)) e

  pub all_refused : (n p : ℕ) → first_read ≡ refused n p → all_fields m ≡ refused n p
  all_refused n p e =
      all_is (refused n p) e ∙ ap (extend (sname_in 0) sname m) (refused_stays (file_in 0) file m n p) ∙ refused_stays (sname_in 0) sname m n p

module _ (m : List ℕ) (os : List Opt) (a : read_message m ≡ accepted os) where
  is_fit : unfit_of m ≡ 0
  is_fit = elim (ℕ_discrete (unfit_of m) 0) [ yes e ↦ e | no d ↦ absurd (not_refused (read_unfit m d)) ]
    where
      not_refused : {n p : ℕ} → read_message m ≡ refused n p → ⊥
      not_refused e = clash (cc)

  closes : Closes (parse 0 0 (bytes options m))
  closes = go (first_read m) refl
    where
      go : (w : Reading) → first_read m ≡ w → Closes (parse 0 0 (bytes options m))
      go (accepted ps) e = judge_closes options false (parse 0 0 (bytes options m)) ps e
      go (refused n p) e = let z : refused n p ≡ accepted os = sym (read_fit m is_fit ∙ all_refused m n p e) ∙ a in clash (cc)

-- ---- the place is that of END

-- k is the offset of END, from the item at s on
abbrev EndFrom : List ℕ → ℕ → Type 0
EndFrom f s = (k : ℕ) × (k ≡ s + before_end 0 (drop s f)) × From f k s × EndAt f k

end_from_lem : {f : List ℕ} {s : ℕ} {p : Parse} → Reads f s p → Closes p → EndFrom f s
end_from_lem (r_none e) h = absurd h
end_from_lem {f} {s} (r_pad x r) h =
    let t = end_from_lem r h in
    let b : before_end 0 (drop s f) ≡ suc (before_end 0 x.after) = ap (before_end 0) x.reads ∙ head_pad 0 x.after refl in
    let d : drop (s + 1) f ≡ x.after = sym (drop-drop 1 s f) ∙ ap (drop 1) x.reads in
    let q : before_end 0 (drop (s + 1) f) ≡ before_end 0 x.after = ap (before_end 0) d in
    let z : t.0 ≡ s + before_end 0 (drop s f) = omega (arith, t.1, b, q) in
    (t.0, z, pad x t.2, t.3)
end_from_lem {f} {s} (r_end x) h =
    let b : before_end 0 (drop s f) ≡ 0 = ap (before_end 0) x.reads ∙ head_end 255 x.after refl in
    let z : s ≡ s + before_end 0 (drop s f) = omega (arith, b) in
    (s, z, here refl, x)
end_from_lem (r_beyond x) h = absurd h
end_from_lem {f} {s} (r_option {c = c} {d = d} o r) h =
    let t = end_from_lem r h in
    let l : length d ≤ length (d ++ o.after) = omega (arith, length-append d o.after) in
    let b : before_end 0 (drop s f) ≡ 2 + length d + before_end 0 (drop (length d) (d ++ o.after)) =
    ap (before_end 0) o.reads ∙ head_option c (length d) (d ++ o.after) o.no_pad o.no_end l in
    let e : drop (s + 2) f ≡ d ++ o.after = sym (drop-drop 2 s f) ∙ ap (drop 2) o.reads in
    let g : drop (s + 2 + length d) f ≡ drop (length d) (d ++ o.after) = sym (drop-drop (length d) (s + 2) f) ∙ ap (drop (length d)) e in
    let q : before_end 0 (drop (s + 2 + length d) f) ≡ before_end 0 (drop (length d) (d ++ o.after)) = ap (before_end 0) g in
    let z : t.0 ≡ s + before_end 0 (drop s f) = omega (arith, t.1, b, q) in
    (t.0, z, past o t.2, t.3)

end_place : (m : List ℕ) → Closes (parse 0 0 (bytes options m)) → EndPlace m (240 + before_end 0 (drop 240 m))
end_place m h =
    let t = end_from_lem (reads (drop 240 m)) h in
    let z : 240 + before_end 0 (drop 240 m) ≡ 240 + t.0 = omega (arith, t.1) in
    record { offset = t.0; is_place = z; begins = from_begins first t.2; is_end = t.3 }

pub one_end_place : OneEndPlace
one_end_place m p q a b =
    omega (
      arith,
      a.is_place,
      b.is_place,
      nothing_after_end (drop 240 m) a.offset b.offset a.begins a.is_end b.begins,
      nothing_after_end (drop 240 m) b.offset a.offset b.begins b.is_end a.begins,
    )

module _ (m : List ℕ) where
  pub end_is : (w : Reading) → read_message m ≡ w → options_end_value m ≡ end_in m w
  unfolding options_end_value
  end_is w e = ap (end_in m) e

  to_right : (x : EndAnswer) → options_end_value m ≡ x → EndsRight m x
  to_right x e = go (read_message m) refl
    where
      go : (w : Reading) → read_message m ≡ w → EndsRight m x
      go (refused n p) q = subst (EndsRight m) (sym (end_is (refused n p) q) ∙ e) (refuses ((refused_by_the_table m n p).0 q))
      go (accepted os) q =
          subst (EndsRight m) (sym (end_is (accepted os) q) ∙ e) (ends (record { options = os; reads = q }) (end_place m (closes m os q)))

  from_right : {x : EndAnswer} → EndsRight m x → options_end_value m ≡ x
  from_right (ends {p = p} a h) =
      end_is (accepted a.options) a.reads
      ∙ ap ends_at (one_end_place m (240 + before_end 0 (drop 240 m)) p (end_place m (closes m a.options a.reads)) h)
  from_right (refuses {n = n} {p = p} f) = end_is (refused n p) ((refused_by_the_table m n p).1 f)

pub options_end_is_right : OptionsEndIsRight
options_end_is_right m x = (to_right m x, from_right m)

-- ---- what follows END is not read

-- END stands behind the bytes to skip, and in the field
closed_in : (k : ℕ) (xs : List ℕ) (at : ℕ) → Closes (parse at k xs) → (k ≤ before_end k xs) × (suc (before_end k xs) ≤ length xs)
unfolding parse before_end
closed_in zero [] at h = absurd h
closed_in zero (b ∷ bs) at h = go (eqb b 0) (eqb b 255) (cut bs) h (closed_in (span b bs) bs (at + 1))
  where
    go : (t u v : Bool) → Closes (cond t (parse (at + 1) (span b bs) bs) (cond u ended (cond v (beyond at) (found at (record_of b bs) (parse (at + 1) (span b bs) bs)))))
        → (Closes (parse (at + 1) (span b bs) bs) → (span b bs ≤ before_end (span b bs) bs) × (suc (before_end (span b bs) bs) ≤ length bs))
        → (0 ≤ cond u 0 (suc (before_end (span b bs) bs))) × (suc (cond u 0 (suc (before_end (span b bs) bs))) ≤ suc (length bs))
    go t true v g ih = (omega arith, omega arith)
    go true false v g ih = (omega arith, omega (arith, (ih g).1))
    go false false true g ih = absurd g
    go false false false g ih = (omega arith, omega (arith, (ih g).1))
closed_in (suc k) [] at h = absurd h
closed_in (suc k) (b ∷ bs) at h = let t = closed_in k bs (at + 1) h in (omega (arith, t.0), omega (arith, t.1))

closed_skip : (n : ℕ) (ds : List ℕ) (at : ℕ) → Closes (parse (at + 1) (suc n) (n ∷ ds)) → (n ≤ before_end n ds) × (suc (before_end n ds) ≤ length ds)
unfolding parse
closed_skip n ds at h = closed_in n ds (at + 1 + 1) h

-- the front of a list, whatever follows it
front : (n k : ℕ) (xs r : List ℕ) → n ≤ k → k ≤ length xs → take n (take k xs ++ r) ≡ take n xs
front zero k xs r h l = refl
front (suc n) zero xs r h l = absurd (omega arith)
front (suc n) (suc k) [] r h l = absurd (omega arith)
front (suc n) (suc k) (x ∷ xs) r h l = ap (λ (ys : List ℕ). x ∷ ys) (front n k xs r (omega arith) (omega arith))

inside : (j n k : ℕ) (xs r : List ℕ) → j + n ≤ k → k ≤ length xs → take n (drop j (take k xs ++ r)) ≡ take n (drop j xs)
inside zero n k xs r h l = front n k xs r (omega arith) l
inside (suc j) n zero xs r h l = absurd (omega arith)
inside (suc j) n (suc k) [] r h l = absurd (omega arith)
inside (suc j) n (suc k) (x ∷ xs) r h l = inside j n k xs r (omega arith) (omega arith)

behind : (j n k : ℕ) (xs r : List ℕ) → k ≡ j + n → k ≤ length xs → drop j (take k xs ++ r) ≡ take n (drop j xs) ++ r
behind zero n k xs r e l = let z : k ≡ n = omega arith in ap (λ (i : ℕ). take i xs ++ r) z
behind (suc j) n zero xs r e l = absurd (omega arith)
behind (suc j) n (suc k) [] r e l = absurd (omega arith)
behind (suc j) n (suc k) (x ∷ xs) r e l = behind j n k xs r (omega arith) (omega arith)

-- a field up to its END, and then any bytes
abbrev closed : ℕ → List ℕ → List ℕ → List ℕ
closed k xs r = take (suc (before_end k xs)) xs ++ r

-- reads and ends as the field
pub record Same (at k : ℕ) (xs r : List ℕ) : Type 0 where
  pub parses : parse at k (closed k xs r) ≡ parse at k xs
  pub still_ends : before_end k (closed k xs r) ≡ before_end k xs

module _ (at : ℕ) (r : List ℕ) where
  same_pad : (b : ℕ) (bs : List ℕ) → eqb b 0 ≡ true → eqb b 255 ≡ false → Same (at + 1) 0 bs r → Same at 0 (b ∷ bs) r
  unfolding parse before_end
  same_pad b bs z e s = record { parses = rw (z, e) s.parses; still_ends = rw (z, e) (ap suc s.still_ends) }

  same_end : (b : ℕ) (bs : List ℕ) → eqb b 0 ≡ false → eqb b 255 ≡ true → Same at 0 (b ∷ bs) r
  unfolding parse before_end
  same_end b bs z e = record { parses = rw (z, e) refl; still_ends = rw (z, e) refl }

  same_option : (b n : ℕ) (ds : List ℕ) → eqb b 0 ≡ false → eqb b 255 ≡ false → n ≤ length ds → n ≤ before_end n ds → suc (before_end n ds) ≤ length ds
      → Same (at + 1) (suc n) (n ∷ ds) r → Same at 0 (b ∷ n ∷ ds) r
  unfolding parse before_end
  same_option b n ds z e l u v s =
      let k : n ≤ length (closed n ds r) = omega (arith, length-append (take (suc (before_end n ds)) ds) r, length-take-le (suc (before_end n ds)) ds v) in
      let d : take n (closed n ds r) ≡ take n ds = front n (suc (before_end n ds)) ds r (omega arith) v in
      record {
        parses = rw (z, e, le-ltb (length (closed n ds r)) n k, le-ltb (length ds) n l) (ap₂ (λ (x : List ℕ) (p : Parse). found at (record { tag = b; body = x }) p) d s.parses);
        still_ends = rw (z, e) (ap suc s.still_ends);
      }

  same_code : (b : ℕ) (bs : List ℕ) → eqb b 0 ≡ false → eqb b 255 ≡ false → Closes (cond (cut bs) (beyond at) (found at (record_of b bs) (parse (at + 1) (suc (get_or bs 0 0)) bs)))
      → (Closes (parse (at + 1) (suc (get_or bs 0 0)) bs) → Same (at + 1) (suc (get_or bs 0 0)) bs r) → Same at 0 (b ∷ bs) r
  same_code b [] z e h ih = absurd h
  same_code b (n ∷ ds) z e h ih = go (ltb (length ds) n) refl h
    where
      go : (t : Bool) → ltb (length ds) n ≡ t → Closes (cond t (beyond at) (found at (record_of b (n ∷ ds)) (parse (at + 1) (suc n) (n ∷ ds)))) → Same at 0 (b ∷ n ∷ ds) r
      go true q g = absurd g
      go false q g =
          let t = closed_skip n ds at g in
          same_option b n ds z e (ltb-false (length ds) n q) t.0 t.1 (ih g)

  same_step : (b : ℕ) (bs : List ℕ) → Closes (parse at 0 (b ∷ bs)) → (Closes (parse (at + 1) (span b bs) bs) → Same (at + 1) (span b bs) bs r) → Same at 0 (b ∷ bs) r
  unfolding parse
  same_step b bs h ih = go (eqb b 0) refl (eqb b 255) refl
    where
      go : (t : Bool) → eqb b 0 ≡ t → (u : Bool) → eqb b 255 ≡ u → Same at 0 (b ∷ bs) r
      go true z u e =
          let w = eqb-true b 0 z in
          same_pad b bs z (ne_eqb b 255 (λ y. omega (arith, w, y))) ((rw z at ih) (rw z at h))
      go false z true e = same_end b bs z e
      go false z false e = same_code b bs z e (rw (z, e) at h) (rw z at ih)

same_read : (k : ℕ) (xs : List ℕ) (at : ℕ) (r : List ℕ) → Closes (parse at k xs) → Same at k xs r
unfolding parse before_end
same_read zero [] at r h = absurd h
same_read zero (b ∷ bs) at r h = same_step at r b bs h (same_read (span b bs) bs (at + 1) r)
same_read (suc k) [] at r h = absurd h
same_read (suc k) (b ∷ bs) at r h =
    let s = same_read k bs (at + 1) r h in
    record { parses = s.parses; still_ends = ap suc s.still_ends }

-- ---- the message

-- the head as before, and the length still right
still_fit : (m x : List ℕ) → unfit_of m ≡ 0 → 240 ≤ length x → length x ≤ 1472 → take 4 (drop 236 x) ≡ take 4 (drop 236 m) → unfit_of x ≡ 0
still_fit m x f l u e = rw (le-ltb (length x) 240 l, le-ltb 1472 (length x) u, e) (go (ltb (length m) shortest) (ltb longest (length m)) (same (take 4 (drop 236 m)) cookie) f)
  where
    go : (a b c : Bool) → cond {A = ℕ} a 1 (cond b 2 (cond c 0 3)) ≡ 0 → cond {A = ℕ} c 0 3 ≡ 0
    go a b true z = refl
    go true b false z = absurd (omega arith)
    go false true false z = absurd (omega arith)
    go false false false z = absurd (omega arith)

extend_same : (b : Bool) (fd : Field) (m x : List ℕ) (w : Reading) → parse 0 0 (bytes fd x) ≡ parse 0 0 (bytes fd m) → extend b fd x w ≡ extend b fd m w
extend_same false fd m x w e = refl
extend_same true fd m x (refused n p) e = refl
extend_same true fd m x (accepted os) e = ap (λ (p : Parse). and_then os (judge fd false p)) e

all_same : (m x : List ℕ) → ((fd : Field) → parse 0 0 (bytes fd x) ≡ parse 0 0 (bytes fd m)) → all_fields x ≡ all_fields m
unfolding all_fields
all_same m x h =
    let w : Reading = extend true options m (accepted []) in
    ap (further x) (extend_same true options m x (accepted []) (h options))
    ∙ ap (extend (sname_in (overload_of w)) sname x) (extend_same (file_in (overload_of w)) file m x w (h file))
    ∙ extend_same (sname_in (overload_of w)) sname m x (extend (file_in (overload_of w)) file m w) (h sname)

module _ (m : List ℕ) (os : List Opt) (a : read_message m ≡ accepted os) (r : List ℕ) where
  abbrev n : ℕ
  n = before_end 0 (drop 240 m)

  abbrev p : ℕ
  p = 240 + n

  abbrev cut_off : List ℕ
  cut_off = take (p + 1) m ++ r

  pub in_message : p + 1 ≤ length m
  in_message = omega (arith, (closed_in 0 (drop 240 m) 0 (closes m os a)).1, length-drop 240 m)

  cut_size : length cut_off ≡ p + 1 + length r
  cut_size = omega (arith, length-append (take (p + 1) m) r, length-take-le (p + 1) m in_message)

  options_cut : drop 240 cut_off ≡ closed 0 (drop 240 m) r
  options_cut = behind 240 (suc n) (p + 1) m r (omega arith) in_message

  field_same : (fd : Field) → parse 0 0 (bytes fd cut_off) ≡ parse 0 0 (bytes fd m)
  field_same options = ap (parse 0 0) options_cut ∙ (same_read 0 (drop 240 m) 0 r (closes m os a)).parses
  field_same file = ap (parse 0 0) (inside 108 128 (p + 1) m r (omega arith) in_message)
  field_same sname = ap (parse 0 0) (inside 44 64 (p + 1) m r (omega arith) in_message)

  module _ (u : p + 1 + length r ≤ 1472) where
    pub cut_read : read_message cut_off ≡ read_message m
    cut_read =
        let f = still_fit m cut_off (is_fit m os a) (omega (arith, cut_size)) (omega (arith, cut_size)) (inside 236 4 (p + 1) m r (omega arith) in_message) in
        read_fit cut_off f ∙ all_same m cut_off field_same ∙ sym (read_fit m (is_fit m os a))

    pub cut_end : options_end_value cut_off ≡ ends_at p
    cut_end =
        end_is cut_off (accepted os) (cut_read ∙ a)
        ∙ ap (λ (k : ℕ). ends_at (240 + k)) (ap (before_end 0) options_cut ∙ (same_read 0 (drop 240 m) 0 r (closes m os a)).still_ends)

-- a message that has such a place is accepted
record Ended (m : List ℕ) (p : ℕ) : Type 0 where
  os : List Opt
  is : read_message m ≡ accepted os
  is_place : 240 + before_end 0 (drop 240 m) ≡ p

has_end : (m : List ℕ) (p : ℕ) → options_end_value m ≡ ends_at p → Ended m p
has_end m p e = go (read_message m) refl
  where
    go : (w : Reading) → read_message m ≡ w → Ended m p
    go (accepted os) q =
        let z : ends_at (240 + before_end 0 (drop 240 m)) ≡ ends_at p = sym (end_is m (accepted os) q) ∙ e in
        record { os = os; is = q; is_place = cc }
    go (refused k b) q = let z : without_end k b ≡ ends_at p = sym (end_is m (refused k b) q) ∙ e in clash (cc)

pub behind_end_is_not_read : BehindEndIsNotRead
behind_end_is_not_read m r p e l =
    let t = has_end m p e in
    subst (λ (k : ℕ). read_message (take (k + 1) m ++ r) ≡ read_message m) t.is_place (cut_read m t.os t.is r (omega (arith, t.is_place)))

cut_behind : (m : List ℕ) (os : List Opt) → read_message m ≡ accepted os → CutBehindEnd m (240 + before_end 0 (drop 240 m))
cut_behind m os a =
    let k : ℕ = 240 + before_end 0 (drop 240 m) in
    let i = in_message m os a [] in
    let l : k + 1 + 0 ≤ 1472 = omega (arith, i, (fit_length m (is_fit m os a)).1) in
    let e : take (k + 1) m ++ [] ≡ take (k + 1) m = append-nil (take (k + 1) m) in
    record {
      size = length-take-le (k + 1) m i;
      reads = ap read_message (sym e) ∙ cut_read m os a [] l;
      still_ends = ap options_end_value (sym e) ∙ cut_end m os a [] l;
    }

pub cut_reads_the_same : CutReadsTheSame
cut_reads_the_same m p e = let t = has_end m p e in subst (CutBehindEnd m) t.is_place (cut_behind m t.os t.is)

-- ---- as the code gives it, and for C

pub end_given_by_case : EndGivenByCase
end_given_by_case e = ((λ p. (sym, sym)), (λ r. (sym, sym)))

pub end_by_case : EndByCase
end_by_case n p = (refl, refl)

row_not_0 : {m : List ℕ} {n p : ℕ} {w : When} → Row m n p w → n ≡ 0 → ⊥
row_not_0 (row_1 h) e = omega arith
row_not_0 (row_2 h) e = omega arith
row_not_0 (row_3 h) e = omega arith
row_not_0 (row_4 fd x y z) e = omega arith
row_not_0 (row_5 fd x y) e = omega arith
row_not_0 (row_6 fd x y z) e = omega arith
row_not_0 (row_7 fd x y z) e = omega arith

pub end_kept : EndKept
end_kept m = go (read_message m) refl
  where
    go : (w : Reading) → read_message m ≡ w → end_from (plain_end (options_end_value m)) ≡ options_end_value m
    go (accepted os) q = rw (end_is m (accepted os) q) refl
    go (refused n p) q = rw (end_is m (refused n p) q, ne_eqb n 0 (row_not_0 ((refused_by_the_table m n p).0 q).applies)) refl
