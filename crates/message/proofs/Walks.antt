-- The walk of one field at an offset: one law for each way through it. Assumes nothing.
use mathlib.Core.Path.{◌≡◌, refl, sym, ap, ◌∙◌, subst}
use mathlib.Core.Bool.{Bool, true, false, cond, not}
use mathlib.Core.List.{List, [], ◌∷◌}
use Prim.Native.Nat.{ℕ, ◌+◌, ◌-◌, ◌≤◌, ◌<◌}
use native.Mathlib.Omega.{arith}
use native.Mathlib.Decide.{dec_lt, ℕ_discrete}
use lib.Dec.{eqb, leb, ltb}
use borrow.Author.Tests.{eq-eqb, ne_eqb, lt-ltb, le-ltb, le-leb, lt-leb, ltb-true, ltb-false}
use lib.ListN.{length, get_or, take, drop}
use Rattle.options.specs.Message.{Rec}
use Rattle.options.specs.Reading.{Parse, ended, ran_out_value, beyond, found, right52}
use Rattle.options.specs.CodeSet.{marked}
use Rattle.theorems.proofs.View.{clash}
use Rattle.wire.specs.Walk.{item_at}
use Rattle.wire.proofs.Laws.{rest, rest_none, rest_pad, rest_end, rest_last, rest_long, rest_found, body_length}
use Rattle.message.specs.Judging.{stop_number}
use Rattle.message.specs.declared.Kept.{Kept}
use Rattle.message.specs.declared.Stop.{Stop}
use Rattle.message.specs.Walk.{Ending, tallied, set_after, Run, Walk, over_stop_value, over_after_value, kept_after_value, met, passed, done, stop, walk_of, ended_at, stopped_at, out, out_of, walked_of, run_of, onward, Lasts, Passing, Passes, past_stop, past_set, last_of, Few, Walks}

-- ---- option 52

pub right_length : (d : List ℕ) → (length d ≡ 1 → ⊥) → right52 d ≡ false
right_length [] h = refl
right_length (v ∷ []) h = absurd (h refl)
right_length (v ∷ w ∷ r) h = refl

pub right_one : (d : List ℕ) → length d ≡ 1 → right52 d ≡ cond (eqb (get_or d 0 0) 0) false (leb (get_or d 0 0) 3)
right_one [] h = absurd (omega arith)
right_one (v ∷ []) h = refl
right_one (v ∷ w ∷ r) h = absurd (omega arith)

pub right_above : (d : List ℕ) → length d ≡ 1 → (get_or d 0 0 ≡ 0 → ⊥) → ltb 3 (get_or d 0 0) ≡ not (right52 d)
right_above d h z = rw (right_one d h, ne_eqb (get_or d 0 0) 0 z) (go (dec_lt 3 (get_or d 0 0)))
  where
    go : Dec (3 < get_or d 0 0) → ltb 3 (get_or d 0 0) ≡ not (leb (get_or d 0 0) 3)
    go (yes l) = rw (lt-ltb 3 (get_or d 0 0) l, lt-leb (get_or d 0 0) 3 l)
    go (no l) = let k : get_or d 0 0 ≤ 3 = omega arith in rw (le-ltb 3 (get_or d 0 0) k, le-leb (get_or d 0 0) 3 k)

pub no_data : (d : List ℕ) → length d ≡ 0 → 0 ≡ get_or d 0 0
no_data [] h = refl
no_data (v ∷ r) h = absurd (omega arith)

-- a code that is not watched is another than one that is
pub other_code : (w : List ℕ) (c d : ℕ) → marked w c ≡ false → marked w d ≡ true → c ≡ d → ⊥
other_code w c d u m e = let z : true ≡ false = sym m ∙ ap (marked w) (sym e) ∙ u in let y : ◌≡◌ {A = ℕ} 0 1 = cc in omega arith

-- ---- passing over

run_is : (s : Run) (set : List ℕ) (n k : ℕ) → s.set ≡ set → n ≡ 0 → k ≡ 0 → onward s n k set ≡ s
run_is s set n k e p q =
    let u : s.used + n ≡ s.used = omega arith in
    let v : s.count + k ≡ s.count = omega arith in
    rw (← e, u, v) refl

pub passing_begins : (w : List ℕ) (marks : Bool) (f : List ℕ) (from : ℕ) (set : List ℕ) → from ≤ length f → Passing w marks f from set from 0 set
passing_begins w marks f from set h =
    record {
      not_back = omega arith;
      at_in = h;
      few = omega arith;
      leads = λ main want base s e. ap (λ (r : Run). walk_of w marks main want base r (rest f from)) (sym (run_is s set (from - from) 0 e (omega arith) refl));
    }

walk_past : (w : List ℕ) (marks main : Bool) (want base : ℕ) (s : Run) (i : ℕ) (x : Rec) (p : Parse) → marked w x.tag ≡ false
    → walk_of w marks main want base s (found i x p) ≡ walk_of w marks main want base (passed marks s x) p
unfolding walk_of
walk_past w marks main want base s i x p m = rw m

pub tally_one : (marks : Bool) → tallied marks 1 ≤ 1
tally_one true = omega arith
tally_one false = omega arith

pub lasts_end : (f : List ℕ) (i : ℕ) → length f ≤ i + 1 → Lasts f i
lasts_end f i h = record { no_mark = λ l. absurd (omega arith); past = λ l. absurd (omega arith) }

module _ {w : List ℕ} {marks : Bool} {f : List ℕ} {from : ℕ} {set : List ℕ} {i count : ℕ} {set' : List ℕ} (y : Passing w marks f from set i count set') (zero_in : marked w 0 ≡ true) (end-in : marked w 255 ≡ true) where
  abbrev c : ℕ
  c = get_or f i 0

  abbrev n : ℕ
  n = get_or f (i + 1) 0

  pub passing_on : (h : i + 1 < length f) → marked w c ≡ false → {e : ℕ} → e ≡ i + 2 + n → e ≤ length f
      → {set'' : List ℕ} → set'' ≡ set_after marks set' c → {count' : ℕ} → count' ≡ count + tallied marks 1 → count' ≤ count + 1 → Passing w marks f from set e count' set''
  passing_on h m {e} q l {set''} a {count'} b k =
      record { not_back = omega (arith, y.not_back); at_in = l; few = omega (arith, y.few); leads = led }
    where
      h' : i < length f
      h' = omega arith

      is : rest f i ≡ found i (item_at c n f i) (rest f e)
      is = rest_found f i h' (other_code w c 0 m zero_in) (other_code w c 255 m end-in) h (omega (arith, q, l)) ∙ ap (λ (j : ℕ). found i (item_at c n f i) (rest f j)) (sym q)

      sum : (s : Run) → passed marks (onward s (i - from) count set') (item_at c n f i) ≡ onward s (e - from) count' set''
      sum s =
          let u : s.used + (i - from) + (2 + length (take n (drop (i + 2) f))) ≡ s.used + (e - from) = omega (arith, body_length f i n (omega (arith, q, l)), y.not_back, q) in
          let v : s.count + count + tallied marks 1 ≡ s.count + count' = omega (arith, b) in
          rw (u, v, a) refl

      led : (main : Bool) (want base : ℕ) (s : Run) → s.set ≡ set
          → walk_of w marks main want base s (rest f from) ≡ walk_of w marks main want base (onward s (e - from) count' set'') (rest f e)
      led main want base s o =
          y.leads main want base s o
          ∙ ap (walk_of w marks main want base (onward s (i - from) count set')) is
          ∙ walk_past w marks main want base (onward s (i - from) count set') i (item_at c n f i) (rest f e) m
          ∙ ap (λ (r : Run). walk_of w marks main want base r (rest f e)) (sum s)

  -- an option that runs past
  pub lasts_long : (h : i + 1 < length f) → marked w c ≡ false → length f < i + 2 + n → Lasts f i
  lasts_long h m l =
      let h' : i < length f = omega arith in
      let z = other_code w c 0 m zero_in in
      let e = other_code w c 255 m end-in in
      record { no_mark = λ _. (z, e); past = λ _. rest_long f i h' z e h l }

  -- an option that no other can follow
  pub passes_past : (h : i + 1 < length f) → marked w c ≡ false → {e : ℕ} → e ≡ i + 2 + n → length f ≤ e + 1
      → {r : Stop} → r ≡ past_stop marks f i e count → {set'' : List ℕ} → set'' ≡ past_set marks f e set' c → Passes w marks f from set r set''
  passes_past h m {e} q l {r} a {set''} b = rw (a, b) (go (ltb (length f) e) refl)
    where
      stops : {at count' : ℕ} {set''' : List ℕ} → Passing w marks f from set at count' set''' → Lasts f at
          → Passes w marks f from set (record { at = at; count = count'; watched = false }) set'''
      stops p z = record { passing = p; here = λ o. clash (cc); last = λ _. z }

      go : (t : Bool) → ltb (length f) e ≡ t → Passes w marks f from set (past_stop marks f i e count) (past_set marks f e set' c)
      go true o = rw o (stops y (lasts_long h m (omega (arith, ltb-true (length f) e o, q))))
      go false o = rw o (stops (passing_on h m q (ltb-false (length f) e o) refl refl (omega (arith, tally_one marks))) (lasts_end f e l))

out_no_over : (base : ℕ) (s : Run) (i : ℕ) → s.kept.over ≡ 0 → (out base s i).run.kept.over ≡ 0
out_no_over base s i z = go (eqb base 0)
  where
    go : (b : Bool) → (cond b (done s 0 0) (stop s 5 (base + i))).run.kept.over ≡ 0
    go true = z
    go false = refl

-- where 52 is not watched, none is met
pub walk_no_over : (w : List ℕ) (marks main : Bool) (want base : ℕ) → marked w 52 ≡ false → (p : Parse) (s : Run) → s.kept.over ≡ 0
    → (walk_of w marks main want base s p).run.kept.over ≡ 0
unfolding walk_of
walk_no_over w marks main want base h ended s z = z
walk_no_over w marks main want base h (ran_out_value i) s z = out_no_over base s i z
walk_no_over w marks main want base h (beyond i) s z = refl
walk_no_over w marks main want base h (found i x p) s z =
    go (marked w x.tag) refl (eqb (stop_number (over_stop_value main s.kept.over x.tag x.body)) 0)
    (walk_no_over w marks main want base h p (met want base s i x)) (walk_no_over w marks main want base h p (passed marks s x) z)
  where
    on : Walk
    on = walk_of w marks main want base (met want base s i x) p

    past : Walk
    past = walk_of w marks main want base (passed marks s x) p

    over : marked w x.tag ≡ true → over_after_value s.kept.over x.tag x.body ≡ 0
    over e = rw (ne_eqb x.tag 52 (λ q. other_code w 52 x.tag h e (sym q))) z

    go : (b : Bool) → marked w x.tag ≡ b → (c : Bool) → (over_after_value s.kept.over x.tag x.body ≡ 0 → on.run.kept.over ≡ 0) → past.run.kept.over ≡ 0
        → (cond b (cond c on (stop s (stop_number (over_stop_value main s.kept.over x.tag x.body)) (base + i))) past).run.kept.over ≡ 0
    go true e true f g = f (over e)
    go true e false f g = refl
    go false e c f g = g

-- ---- the end of a field

module _ (f : List ℕ) (i base used count : ℕ) (kept : Kept) where
  pub last_none : length f ≤ i → out_of base used count kept i ≡ last_of base used count kept (rest f i)
  last_none h = rw (rest_none f i h)

  module _ (h : i < length f) where
    pub last_end : get_or f i 0 ≡ 255 → ended_at 0 0 used count kept ≡ last_of base used count kept (rest f i)
    last_end e = rw (rest_end f i h e)

    pub last_pad : Lasts f i → get_or f i 0 ≡ 0 → out_of base used count kept (i + 1) ≡ last_of base used count kept (rest f i)
    last_pad y e = go (dec_lt (i + 1) (length f))
      where
        go : Dec (i + 1 < length f) → out_of base used count kept (i + 1) ≡ last_of base used count kept (rest f i)
        go (yes l) = absurd ((y.no_mark l).0 e)
        go (no l) = let k : length f ≤ i + 1 = omega arith in rw (rest_pad f i h e, rest_none f (i + 1) k)

    pub last_cut : Lasts f i → (get_or f i 0 ≡ 255 → ⊥) → (get_or f i 0 ≡ 0 → ⊥) → stopped_at 4 (base + i) ≡ last_of base used count kept (rest f i)
    last_cut y e z = go (dec_lt (i + 1) (length f))
      where
        go : Dec (i + 1 < length f) → stopped_at 4 (base + i) ≡ last_of base used count kept (rest f i)
        go (yes l) = rw (y.past l)
        go (no l) = let k : length f ≤ i + 1 = omega arith in rw (rest_last f i h z e k)

-- no option is left
abbrev pub NotFound : Parse → Type 0
NotFound ended = Unit {0}
NotFound (ran_out_value i) = Unit {0}
NotFound (beyond i) = Unit {0}
NotFound (found i x p) = ⊥

pub lasts_none : (f : List ℕ) (i : ℕ) → Lasts f i → NotFound (rest f i)
lasts_none f i y = go (dec_lt i (length f))
  where
    byte : i < length f → Dec (get_or f i 0 ≡ 255) → Dec (get_or f i 0 ≡ 0) → Dec (i + 1 < length f) → NotFound (rest f i)
    byte h (yes e) z l = rw (rest_end f i h e) tt
    byte h (no e) (yes z) (yes l) = absurd ((y.no_mark l).0 z)
    byte h (no e) (yes z) (no l) = let k : length f ≤ i + 1 = omega arith in rw (rest_pad f i h z, rest_none f (i + 1) k) tt
    byte h (no e) (no z) (yes l) = rw (y.past l) tt
    byte h (no e) (no z) (no l) = let k : length f ≤ i + 1 = omega arith in rw (rest_last f i h z e k) tt

    go : Dec (i < length f) → NotFound (rest f i)
    go (yes h) = byte h (ℕ_discrete (get_or f i 0) 255) (ℕ_discrete (get_or f i 0) 0) (dec_lt (i + 1) (length f))
    go (no h) = let k : length f ≤ i = omega arith in rw (rest_none f i k) tt

-- ---- the walk that has come to i

pub record Going (w : List ℕ) (marks main : Bool) (want base : ℕ) (f : List ℕ) (s : Ending) (set : List ℕ) (k : Kept) (count pads i : ℕ) (set' : List ℕ) : Type 0 where
  pub at_in : i ≤ length f
  pub pads_in : pads ≤ i
  pub few_whole : k.whole ≤ s.kept.whole + i
  pub few_count : count ≤ s.count + i
  pub same : walk_of w marks main want base (record { set = set'; kept = k; used = s.used + (i - pads); count = count }) (rest f i) ≡ walk_of w marks main want base (run_of set s) (rest f 0)

pub going_begins : (w : List ℕ) (marks main : Bool) (want base : ℕ) (f : List ℕ) (s : Ending) (set : List ℕ) → Going w marks main want base f s set s.kept s.count 0 0 set
going_begins w marks main want base f s set =
    let u : s.used + (0 - 0) ≡ s.used = omega arith in
    record { at_in = omega arith; pads_in = omega arith; few_whole = omega arith; few_count = omega arith; same = rw u refl }

module _ {w : List ℕ} {marks main : Bool} {want base : ℕ} {f : List ℕ} {s : Ending} {set : List ℕ} {k : Kept} {count pads i : ℕ} {set' : List ℕ} (y : Going w marks main want base f s set k count pads i set') where
  abbrev run : Run
  run = record { set = set'; kept = k; used = s.used + (i - pads); count = count }

  pub going_passes : (p : Stop) (set'' : List ℕ) → Passes w marks f i set' p set'' → Going w marks main want base f s set k (count + p.count) pads p.at set''
  going_passes p set'' q =
      let z = q.passing in
      let u : s.used + (i - pads) + (p.at - i) ≡ s.used + (p.at - pads) = omega (arith, y.pads_in, z.not_back) in
      let v : onward run (p.at - i) p.count set'' ≡ record { set = set''; kept = k; used = s.used + (p.at - pads); count = count + p.count } = rw u refl in
      record {
        at_in = z.at_in;
        pads_in = omega (arith, y.pads_in, z.not_back);
        few_whole = omega (arith, y.few_whole, z.not_back);
        few_count = omega (arith, y.few_count, z.few);
        same = ap (λ (r : Run). walk_of w marks main want base r (rest f p.at)) (sym v) ∙ sym (z.leads main want base run refl) ∙ y.same;
      }

  -- how a walk ends that has come to i
  ends : (k' : Walk) → walk_of w marks main want base run (rest f i) ≡ k' → (r : Ending) → r ≡ walked_of k' → k'.run.set ≡ set'
      → ((n : ℕ) → Few n s → Few (n + length f) (walked_of k')) → Walks w marks main want base f s set r set'
  ends k' q r e z few =
      record {
        is = e ∙ ap walked_of (sym q ∙ y.same);
        codes = sym z ∙ ap (λ (x : Walk). x.run.set) (sym q ∙ y.same);
        few = λ n h. subst (Few (n + length f)) (sym e) (few n h);
      }

  few_done : (a b n : ℕ) → Few n s → Few (n + length f) (walked_of (done run a b))
  few_done a b n h =
      record {
        whole = omega (arith, h.whole, y.few_whole, y.at_in);
        used = omega (arith, h.used, y.at_in);
        count = omega (arith, h.count, y.few_count, y.at_in);
      }

  few_stop : (a b n : ℕ) → Few n s → Few (n + length f) (walked_of (stop run a b))
  few_stop a b n h = record { whole = omega arith; used = omega arith; count = omega arith }

  walk_last : (p : Parse) → NotFound p → rest f i ≡ p → (r : Ending) → r ≡ last_of base (s.used + (i - pads)) count k p → Walks w marks main want base f s set r set'
  unfolding walk_of
  walk_last ended n q r e = ends (done run 0 0) (ap (walk_of w marks main want base run) q) r e refl (few_done 0 0)
  walk_last (ran_out_value j) n q r e = go (eqb base 0) (ap (walk_of w marks main want base run) q) e
    where
      go : (b : Bool) → walk_of w marks main want base run (rest f i) ≡ cond b (done run 0 0) (stop run 5 (base + j)) → r ≡ cond b (ended_at 0 0 (s.used + (i - pads)) count k) (stopped_at 5 (base + j)) → Walks w marks main want base f s set r set'
      go true u v = ends (done run 0 0) u r v refl (few_done 0 0)
      go false u v = ends (stop run 5 (base + j)) u r v refl (few_stop 5 (base + j))
  walk_last (beyond j) n q r e = ends (stop run 4 (base + j)) (ap (walk_of w marks main want base run) q) r e refl (few_stop 4 (base + j))
  walk_last (found j x p) n q r e = absurd n

  pub going_last : Lasts f i → (r : Ending) → r ≡ last_of base (s.used + (i - pads)) count k (rest f i) → Walks w marks main want base f s set r set'
  going_last z r e = walk_last (rest f i) (lasts_none f i z) refl r e

  module _ (h : i + 1 < length f) where
    h' : i < length f
    h' = omega arith

    abbrev code : ℕ
    code = get_or f i 0

    pub going_end : code ≡ 255 → (r : Ending) → r ≡ ended_at 0 0 (s.used + (i - pads)) count k → Walks w marks main want base f s set r set'
    unfolding walk_of
    going_end e r q = ends (done run 0 0) (ap (walk_of w marks main want base run) (rest_end f i h' e)) r q refl (few_done 0 0)

    pub going_pads : code ≡ 0 → (j : ℕ) → i + 1 ≤ j → j ≤ length f → rest f j ≡ rest f (i + 1) → Going w marks main want base f s set k count (pads + (j - i)) j set'
    going_pads e j a b q =
        let u : s.used + (j - (pads + (j - i))) ≡ s.used + (i - pads) = omega (arith, y.pads_in) in
        record {
          at_in = b;
          pads_in = omega (arith, y.pads_in);
          few_whole = omega (arith, y.few_whole);
          few_count = omega (arith, y.few_count);
          same = rw u (ap (walk_of w marks main want base run) (q ∙ sym (rest_pad f i h' e)) ∙ y.same);
        }

    module _ (z : code ≡ 0 → ⊥) (e : code ≡ 255 → ⊥) where
      abbrev size : ℕ
      size = get_or f (i + 1) 0

      pub going_long : length f < i + 2 + size → (r : Ending) → r ≡ stopped_at 4 (base + i) → Walks w marks main want base f s set r set'
      unfolding walk_of
      going_long l r q = ends (stop run 4 (base + i)) (ap (walk_of w marks main want base run) (rest_long f i h' z e h l)) r q refl (few_stop 4 (base + i))

      module _ (m : marked w code ≡ true) (t : ℕ) (q : t ≡ i + 2 + size) (l : t ≤ length f) where
        -- the data, as the part from i + 2 up to t
        abbrev pub body : List ℕ
        body = take (t - (i + 2)) (drop (i + 2) f)

        n_is : t - (i + 2) ≡ size
        n_is = omega (arith, q)

        long : i + 2 + size ≤ length f
        long = omega (arith, q, l)

        pub body_size : length body ≡ t - (i + 2)
        body_size = body_length f i (t - (i + 2)) (omega (arith, q, l))

        is : rest f i ≡ found i (record { tag = code; body = body }) (rest f t)
        is = rest_found f i h' z e h long ∙ rw (n_is, q) refl

        pub going_stop : (n : ℕ) → n ≡ stop_number (over_stop_value main k.over code body) → (n ≡ 0 → ⊥) → (r : Ending) → r ≡ stopped_at n (base + i) → Walks w marks main want base f s set r set'
        unfolding walk_of
        going_stop n a x r b = ends (stop run n (base + i)) (ap (walk_of w marks main want base run) is ∙ turn) r b refl (few_stop n (base + i))
          where
            turn : walk_of w marks main want base run (found i (record { tag = code; body = body }) (rest f t)) ≡ stop run n (base + i)
            turn = rw (m, ne_eqb (stop_number (over_stop_value main k.over code body)) 0 (λ o. x (a ∙ o)), a) refl

        kept_few : (k' : Kept) → k' ≡ kept_after_value want k code base i body → k'.whole ≤ s.kept.whole + t
        kept_few k' a = go (eqb want code) refl
          where
            go : (b : Bool) → eqb want code ≡ b → k'.whole ≤ s.kept.whole + t
            go true o =
                let u : k'.whole ≡ k.whole + length body = rw o at (ap (λ (x : Kept). x.whole) a) in
                omega (arith, u, y.few_whole, body_size, q)
            go false o =
                let u : k'.whole ≡ k.whole = rw o at (ap (λ (x : Kept). x.whole) a) in
                omega (arith, u, y.few_whole, q)

        pub going_on : stop_number (over_stop_value main k.over code body) ≡ 0 → (k' : Kept) → k' ≡ kept_after_value want k code base i body → Going w marks main want base f s set k' (count + 1) pads t set'
        unfolding walk_of
        going_on x k' b =
            record {
              at_in = l;
              pads_in = omega (arith, y.pads_in, q);
              few_whole = kept_few k' b;
              few_count = omega (arith, y.few_count, q);
              same = ap (λ (r : Run). walk_of w marks main want base r (rest f t)) (sym sum) ∙ sym (ap (walk_of w marks main want base run) is ∙ turn) ∙ y.same;
            }
          where
            turn : walk_of w marks main want base run (found i (record { tag = code; body = body }) (rest f t)) ≡ walk_of w marks main want base (met want base run i (record { tag = code; body = body })) (rest f t)
            turn = rw (m, eq-eqb (stop_number (over_stop_value main k.over code body)) 0 x) refl

            sum : met want base run i (record { tag = code; body = body }) ≡ record { set = set'; kept = k'; used = s.used + (t - pads); count = count + 1 }
            sum =
                let u : s.used + (i - pads) + (2 + length body) ≡ s.used + (t - pads) = omega (arith, body_size, q, y.pads_in) in
                rw (u, b) refl
