-- The walk of a field over watched codes is `judge`. Assumes nothing.
use mathlib.Core.Path.{◌≡◌, refl, sym, ap, ◌∙◌}
use mathlib.Core.Bool.{Bool, true, false, cond, not}
use mathlib.Core.List.{List, [], ◌∷◌, ◌++◌, append_assoc, append-nil}
use Prim.Native.Nat.{ℕ, zero, suc, ◌+◌, ◌<◌}
use native.Mathlib.Omega.{arith}
use lib.Dec.{eqb, leb}
use lib.ListN.{length, get_or, length-append}
use borrow.Author.Tests.{ne_eqb, eqb-true, eqb-false}
use Rattle.options.specs.Message.{Field, options, file, sname, start, Rec, Opt, place, data_start, end_to_end}
use Rattle.options.specs.Reading.{Parse, ended, ran_out_value, beyond, found, span, cut, record_of, item_of, parse, is_options_value, right52, judge, more, Reading, accepted, refused, items, overload, pieces}
use Rattle.options.specs.CodeSet.{marked, with_mark}
use Rattle.options.specs.KindClaims.{AllBytes}
use Rattle.message.specs.declared.Kept.{Kept}
use Rattle.message.specs.Scan.{place_after, used_by}
use Rattle.message.specs.Walk.{Run, Walk, met, passed, walk_of}
use Rattle.message.specs.Walking.{others_in}
use Rattle.message.proofs.Walks.{other_code}

-- ---- codes are bytes, and neither 0 nor 255

abbrev pub Codes : Parse → Type 0
Codes ended = Unit {0}
Codes (ran_out_value i) = Unit {0}
Codes (beyond i) = Unit {0}
Codes (found i x p) = (x.tag < 256) × (x.tag ≡ 0 → ⊥) × (x.tag ≡ 255 → ⊥) × Codes p

codes_step : (at b : ℕ) (bs : List ℕ) (p : Parse) → b < 256 → Codes p → Codes (item_of at b bs p)
codes_step at b bs p h s = go (eqb b 0) refl (eqb b 255) refl (cut bs)
  where
    go : (t : Bool) → eqb b 0 ≡ t → (u : Bool) → eqb b 255 ≡ u → (v : Bool) → Codes (cond t p (cond u ended (cond v (beyond at) (found at (record_of b bs) p))))
    go true q u r v = s
    go false q true r v = tt
    go false q false r true = tt
    go false q false r false = (h, eqb-false b 0 q, eqb-false b 255 r, s)

pub parse_codes : (at skip : ℕ) (xs : List ℕ) → AllBytes xs → Codes (parse at skip xs)
unfolding parse
parse_codes at zero [] a = tt
parse_codes at zero (b ∷ bs) a = codes_step at b bs (parse (at + 1) (span b bs) bs) a.0 (parse_codes (at + 1) (span b bs) bs a.1)
parse_codes at (suc k) [] a = tt
parse_codes at (suc k) (b ∷ bs) a = parse_codes (at + 1) k bs a.1

pub all_bytes : (xs : List ℕ) → ((i : ℕ) → get_or xs i 0 < 256) → AllBytes xs
all_bytes [] f = tt
all_bytes (x ∷ xs) f = (f 0, all_bytes xs (λ i. f (suc i)))

-- ---- the value of option 52

abbrev pub over_from : ℕ → List Rec → ℕ
over_from v rs = cond (eqb v 0) (overload rs) v

right_value : (d : List ℕ) → right52 d ≡ true → eqb (get_or d 0 0) 0 ≡ false
right_value [] e = absurd (let z : ◌≡◌ {A = ℕ} 0 1 = cc in omega arith)
right_value (v ∷ []) e = go (eqb v 0) refl e
  where
    go : (t : Bool) → eqb v 0 ≡ t → cond t false (leb v 3) ≡ true → eqb v 0 ≡ false
    go true q z = absurd (let y : ◌≡◌ {A = ℕ} 0 1 = cc in omega arith)
    go false q z = q
right_value (v ∷ w ∷ r) e = absurd (let z : ◌≡◌ {A = ℕ} 0 1 = cc in omega arith)

over_none : (v : ℕ) → v ≡ over_from v []
unfolding overload
over_none v = go (eqb v 0) refl
  where
    go : (t : Bool) → eqb v 0 ≡ t → v ≡ cond t 0 v
    go true e = eqb-true v 0 e
    go false e = refl

abbrev pub No52 : List Opt → Type 0
No52 [] = Unit {0}
No52 (o ∷ os) = (eqb o.item.tag 52 ≡ false) × No52 os

-- ---- what is met with more options

-- where the data of the first piece start, with what was kept before
abbrev pub first_from : Kept → List Opt → ℕ
first_from k [] = k.start
first_from k (o ∷ os) = cond (eqb k.start 0) (data_start o) k.start

pub record Adds (marks : Bool) (want : ℕ) (s : Run) (os : List Opt) (r : Run) : Type 0 where
  pub start_is : r.kept.start ≡ first_from s.kept (pieces want os)
  pub whole_is : r.kept.whole ≡ s.kept.whole + length (end_to_end (pieces want os))
  pub last_is : r.kept.last ≡ place_after s.kept.last (pieces want os)
  pub used_is : r.used ≡ s.used + used_by os
  pub count_is : marks ≡ true → r.count ≡ s.count + length os
  pub set_is : marks ≡ true → want ≡ 52 → r.set ≡ others_in s.set os

pieces_append : (c : ℕ) (os ps : List Opt) → pieces c (os ++ ps) ≡ pieces c os ++ pieces c ps
unfolding pieces
pieces_append c [] ps = refl
pieces_append c (o ∷ os) ps = go (eqb c o.item.tag) (pieces_append c os ps)
  where
    go : (b : Bool) → pieces c (os ++ ps) ≡ pieces c os ++ pieces c ps → cond b (o ∷ pieces c (os ++ ps)) (pieces c (os ++ ps)) ≡ cond b (o ∷ pieces c os) (pieces c os) ++ pieces c ps
    go true e = ap (λ (l : List Opt). o ∷ l) e
    go false e = e

ends_append : (os ps : List Opt) → end_to_end (os ++ ps) ≡ end_to_end os ++ end_to_end ps
unfolding end_to_end
ends_append [] ps = refl
ends_append (o ∷ os) ps = ap (λ (l : List ℕ). o.item.body ++ l) (ends_append os ps) ∙ sym (append_assoc o.item.body (end_to_end os) (end_to_end ps))

used_append : (os ps : List Opt) → used_by (os ++ ps) ≡ used_by os + used_by ps
unfolding used_by
used_append [] ps = omega arith
used_append (o ∷ os) ps = omega (arith, used_append os ps)

others_append : (set : List ℕ) (os ps : List Opt) → others_in set (os ++ ps) ≡ others_in (others_in set os) ps
unfolding others_in
others_append set [] ps = refl
others_append set (o ∷ os) ps = others_append (cond (eqb o.item.tag 52) set (with_mark set o.item.tag)) os ps

first_append : (k r : Kept) (xs ys : List Opt) → r.start ≡ first_from k xs → first_from r ys ≡ first_from k (xs ++ ys)
first_append k r [] [] a = a
first_append k r [] (y ∷ ys) a = rw a refl
first_append k r (x ∷ xs) [] a = a
first_append k r (x ∷ xs) (y ∷ ys) a = go (eqb k.start 0) refl a
  where
    go : (b : Bool) → eqb k.start 0 ≡ b → r.start ≡ cond b (data_start x) k.start → cond (eqb r.start 0) (data_start y) r.start ≡ cond b (data_start x) k.start
    go true e h = rw (ne_eqb r.start 0 (λ z. omega (arith, h, z))) h
    go false e h = rw (ne_eqb r.start 0 (λ z. eqb-false k.start 0 e (sym h ∙ z))) h

last_append : (p : ℕ) (xs ys : List Opt) → place_after p (xs ++ ys) ≡ place_after (place_after p xs) ys
unfolding place_after
last_append p [] ys = refl
last_append p (x ∷ xs) ys = last_append (place x) xs ys

pub adds_then : {marks : Bool} {want : ℕ} {s : Run} {os : List Opt} {r : Run} {ps : List Opt} {t : Run} → Adds marks want s os r → Adds marks want r ps t → Adds marks want s (os ++ ps) t
adds_then {marks} {want} {s} {os} {r} {ps} {t} a b =
    let p = pieces_append want os ps in
    let l : length (end_to_end (pieces want (os ++ ps))) ≡ length (end_to_end (pieces want os)) + length (end_to_end (pieces want ps)) = ap (λ (x : List Opt). length (end_to_end x)) p ∙ ap length (ends_append (pieces want os) (pieces want ps)) ∙ length-append (end_to_end (pieces want os)) (end_to_end (pieces want ps)) in
    record {
      start_is = b.start_is ∙ first_append s.kept r.kept (pieces want os) (pieces want ps) a.start_is ∙ ap (first_from s.kept) (sym p);
      whole_is = omega (arith, a.whole_is, b.whole_is, l);
      last_is = b.last_is ∙ ap (λ (n : ℕ). place_after n (pieces want ps)) a.last_is ∙ sym (ap (place_after s.kept.last) p ∙ last_append s.kept.last (pieces want os) (pieces want ps));
      used_is = omega (arith, a.used_is, b.used_is, used_append os ps);
      count_is = λ e. let x = a.count_is e in let y = b.count_is e in omega (arith, length-append os ps);
      set_is = λ e f. b.set_is e f ∙ ap (λ (l : List ℕ). others_in l ps) (a.set_is e f) ∙ sym (others_append s.set os ps);
    }

pub adds_none : (marks : Bool) (want : ℕ) (s : Run) → Adds marks want s [] s
unfolding pieces end_to_end place_after used_by others_in
adds_none marks want s =
    record { start_is = refl; whole_is = omega arith; last_is = refl; used_is = omega arith; count_is = λ e. omega arith; set_is = λ e f. refl }

-- ---- one option

module _ (marks : Bool) (want : ℕ) (fd : Field) (s : Run) (i : ℕ) (x : Rec) where
  abbrev opt : Opt
  opt = record { field = fd; offset = i; item = x }

  adds_met : (marks ≡ true → want ≡ 52 → eqb x.tag 52 ≡ true) → Adds marks want s (opt ∷ []) (met want (start fd) s i x)
  unfolding pieces end_to_end place_after used_by others_in
  adds_met h = go (eqb want x.tag) refl
    where
      set_is : marks ≡ true → want ≡ 52 → s.set ≡ cond (eqb x.tag 52) s.set (with_mark s.set x.tag)
      set_is e f = rw (h e f) refl

      go : (b : Bool) → eqb want x.tag ≡ b → Adds marks want s (opt ∷ []) (met want (start fd) s i x)
      go true e =
          record {
            start_is = rw e refl;
            whole_is = rw (e, append-nil x.body) refl;
            last_is = rw e refl;
            used_is = omega arith;
            count_is = λ _. omega arith;
            set_is = set_is;
          }
      go false e =
          record { start_is = rw e refl; whole_is = rw e (omega arith); last_is = rw e refl; used_is = omega arith; count_is = λ _. omega arith; set_is = set_is }

  adds_passed : eqb want x.tag ≡ false → eqb x.tag 52 ≡ false → Adds marks want s (opt ∷ []) (passed marks s x)
  unfolding pieces end_to_end place_after used_by others_in
  adds_passed e b =
      record {
        start_is = rw e refl;
        whole_is = rw e (omega arith);
        last_is = rw e refl;
        used_is = omega arith;
        count_is = λ m. rw m (omega arith);
        set_is = λ m f. rw (m, b) refl;
      }

-- ---- the field

-- the value of option 52 after a field
abbrev pub OverIs : Field → Run → List Opt → Run → Type 0
OverIs options s os r = r.kept.over ≡ over_from s.kept.over (items os)
OverIs file s os r = (r.kept.over ≡ s.kept.over) × No52 os
OverIs sname s os r = (r.kept.over ≡ s.kept.over) × No52 os

abbrev pub Judged : Bool → ℕ → Field → Run → Reading → Walk → Type 0
Judged marks want fd s (accepted os) k = (k.end ≡ 0) × Adds marks want s os k.run × OverIs fd s os k.run
Judged marks want fd s (refused n p) k = (k.end ≡ 0 → ⊥) × (k.end ≡ n) × (k.place ≡ p)

abbrev OverStep : Field → Run → Rec → Run → Type 0
OverStep options s x r = (rs : List Rec) → over_from r.kept.over rs ≡ over_from s.kept.over (x ∷ rs)
OverStep file s x r = (r.kept.over ≡ s.kept.over) × (eqb x.tag 52 ≡ false)
OverStep sname s x r = (r.kept.over ≡ s.kept.over) × (eqb x.tag 52 ≡ false)

over_then : (fd : Field) (s r t : Run) (o : Opt) (os : List Opt) → OverStep fd s o.item r → OverIs fd r os t → OverIs fd s (o ∷ os) t
unfolding items
over_then options s r t o os a b = b ∙ a (items os)
over_then file s r t o os a b = (b.0 ∙ a.0, (a.1, b.1))
over_then sname s r t o os a b = (b.0 ∙ a.0, (a.1, b.1))

judged_more : (marks : Bool) (want : ℕ) (fd : Field) (s r : Run) (o : Opt) (w : Reading) (k : Walk) → Adds marks want s (o ∷ []) r → OverStep fd s o.item r → Judged marks want fd r w k → Judged marks want fd s (more o w) k
judged_more marks want fd s r o (accepted os) k a b j = (j.0, adds_then a j.1, over_then fd s r k.run o os b j.2)
judged_more marks want fd s r o (refused n p) k a b j = j

-- an option other than 52 leaves the value
over_other : (fd : Field) (s r : Run) (x : Rec) → eqb x.tag 52 ≡ false → r.kept.over ≡ s.kept.over → OverStep fd s x r
unfolding overload
over_other options s r x b e = λ rs. rw (b, e) refl
over_other file s r x b e = (e, b)
over_other sname s r x b e = (e, b)

over_none_is : (fd : Field) (s : Run) → OverIs fd s [] s
unfolding items
over_none_is options s = over_none s.kept.over
over_none_is file s = (refl, tt)
over_none_is sname s = (refl, tt)

pub record Watching (w : List ℕ) (want : ℕ) : Type 0 where
  pub over_in : marked w 52 ≡ true
  pub want_in : marked w want ≡ true
  pub only : (c : ℕ) → c < 256 → marked w c ≡ true → (c ≡ 0 → ⊥) → (c ≡ 255 → ⊥) → (c ≡ 52 → ⊥) → c ≡ want

none_second : (seen : Bool) → cond seen false false ≡ false
none_second true = refl
none_second false = refl

module _ (w : List ℕ) (marks : Bool) (want : ℕ) (y : Watching w want) where
  abbrev Rest : Field → Parse → Type 0
  Rest fd p = (seen : Bool) (s : Run) → (is_options_value fd ≡ true → seen ≡ not (eqb s.kept.over 0)) → Judged marks want fd s (judge fd seen p) (walk_of w marks (is_options_value fd) want (start fd) s p)

  module _ (s : Run) (i : ℕ) (x : Rec) (p : Parse) (seen : Bool) where
    -- a second option 52, or the first
    first_52 : (u : Bool) → eqb s.kept.over 0 ≡ u → seen ≡ not u → eqb x.tag 52 ≡ true → right52 x.body ≡ true → Rest options p
        → Judged marks want options s (judge options seen (found i x p)) (walk_of w marks true want (start options) s (found i x p))
    unfolding judge walk_of overload
    first_52 false u e b r ih =
        let m : marked w x.tag ≡ true = ap (marked w) (eqb-true x.tag 52 b) ∙ y.over_in in
        rw (m, b, r, u, e) (λ z. omega arith, refl, refl)
    first_52 true u e b r ih =
        let m : marked w x.tag ≡ true = ap (marked w) (eqb-true x.tag 52 b) ∙ y.over_in in
        let v : eqb (get_or x.body 0 0) 0 ≡ false = right_value x.body r in
        let o : Opt = record { field = options; offset = i; item = x } in
        let t : Run = met want (start options) s i x in
        let k : Walk = walk_of w marks true want (start options) t p in
        let a : Adds marks want s (o ∷ []) t = adds_met marks want options s i x (λ _ _. b) in
        let q : OverStep options s x t = λ rs. rw (b, u, v) refl in
        let h : is_options_value options ≡ true → true ≡ not (eqb t.kept.over 0) = λ _. rw (b, u, v) refl in
        let j : Judged marks want options s (more o (judge options true p)) k = judged_more marks want options s t o (judge options true p) k a q (ih true t h) in
        rw (m, b, r, u, e) (rw (b, u) at j)

    wrong_52 : (fd : Field) → cond (is_options_value fd) (not (right52 x.body)) true ≡ true → eqb x.tag 52 ≡ true
        → Judged marks want fd s (judge fd seen (found i x p)) (walk_of w marks (is_options_value fd) want (start fd) s (found i x p))
    unfolding judge walk_of
    wrong_52 fd t b =
        let m : marked w x.tag ≡ true = ap (marked w) (eqb-true x.tag 52 b) ∙ y.over_in in
        rw (m, b, t) (λ z. omega arith, refl, refl)

    no_52 : (fd : Field) (m : Bool) → marked w x.tag ≡ m → eqb x.tag 52 ≡ false → x.tag < 256 → (x.tag ≡ 0 → ⊥) → (x.tag ≡ 255 → ⊥)
        → (is_options_value fd ≡ true → seen ≡ not (eqb s.kept.over 0)) → Rest fd p
        → Judged marks want fd s (judge fd seen (found i x p)) (walk_of w marks (is_options_value fd) want (start fd) s (found i x p))
    unfolding judge walk_of
    no_52 fd true m b l z e h ih =
        let o : Opt = record { field = fd; offset = i; item = x } in
        let t : Run = met want (start fd) s i x in
        let k : Walk = walk_of w marks (is_options_value fd) want (start fd) t p in
        let v : t.kept.over ≡ s.kept.over = rw b refl in
        let a : Adds marks want s (o ∷ []) t = adds_met marks want fd s i x (λ _ f. absurd (eqb-false x.tag 52 b (y.only x.tag l m z e (eqb-false x.tag 52 b) ∙ f))) in
        let g : is_options_value fd ≡ true → seen ≡ not (eqb t.kept.over 0) = λ q. h q ∙ ap (λ (n : ℕ). not (eqb n 0)) (sym v) in
        let j : Judged marks want fd s (more o (judge fd seen p)) k = judged_more marks want fd s t o (judge fd seen p) k a (over_other fd s t x b v) (ih seen t g) in
        rw (m, b, none_second seen) (rw b at j)
    no_52 fd false m b l z e h ih =
        let o : Opt = record { field = fd; offset = i; item = x } in
        let t : Run = passed marks s x in
        let k : Walk = walk_of w marks (is_options_value fd) want (start fd) t p in
        let a : Adds marks want s (o ∷ []) t = adds_passed marks want fd s i x (ne_eqb want x.tag (λ q. other_code w x.tag want m y.want_in (sym q))) b in
        let j : Judged marks want fd s (more o (judge fd seen p)) k = judged_more marks want fd s t o (judge fd seen p) k a (over_other fd s t x b refl) (ih seen t h) in
        rw (m, b, none_second seen) j

  found_judged : (fd : Field) (s : Run) (i : ℕ) (x : Rec) (p : Parse) (seen : Bool) → x.tag < 256 → (x.tag ≡ 0 → ⊥) → (x.tag ≡ 255 → ⊥)
      → (is_options_value fd ≡ true → seen ≡ not (eqb s.kept.over 0)) → Rest fd p
      → Judged marks want fd s (judge fd seen (found i x p)) (walk_of w marks (is_options_value fd) want (start fd) s (found i x p))
  found_judged fd s i x p seen l z e h ih = go (eqb x.tag 52) refl
    where
      of : (f : Field) → (is_options_value f ≡ true → seen ≡ not (eqb s.kept.over 0)) → Rest f p → (r : Bool) → right52 x.body ≡ r → eqb x.tag 52 ≡ true
          → Judged marks want f s (judge f seen (found i x p)) (walk_of w marks (is_options_value f) want (start f) s (found i x p))
      of options g i' true q b = first_52 s i x p seen (eqb s.kept.over 0) refl (g refl) b q i'
      of options g i' false q b = wrong_52 s i x p seen options (rw q refl) b
      of file g i' r q b = wrong_52 s i x p seen file refl b
      of sname g i' r q b = wrong_52 s i x p seen sname refl b

      go : (b : Bool) → eqb x.tag 52 ≡ b → Judged marks want fd s (judge fd seen (found i x p)) (walk_of w marks (is_options_value fd) want (start fd) s (found i x p))
      go true b = of fd h ih (right52 x.body) refl b
      go false b = no_52 s i x p seen fd (marked w x.tag) refl b l z e h ih

  -- a field of a message needs its END
  needs_end : (fd : Field) → eqb (start fd) 0 ≡ false
  needs_end options = refl
  needs_end file = refl
  needs_end sname = refl

  pub twin : (fd : Field) (p : Parse) → Codes p → (seen : Bool) (s : Run) → (is_options_value fd ≡ true → seen ≡ not (eqb s.kept.over 0))
      → Judged marks want fd s (judge fd seen p) (walk_of w marks (is_options_value fd) want (start fd) s p)
  unfolding judge walk_of
  twin fd ended c seen s h = (refl, adds_none marks want s, over_none_is fd s)
  twin fd (ran_out_value i) c seen s h = rw (needs_end fd) (λ e. omega arith, refl, refl)
  twin fd (beyond i) c seen s h = (λ e. omega arith, refl, refl)
  twin fd (found i x p) c seen s h = found_judged fd s i x p seen c.0 c.1 c.2 h (twin fd p c.3)
