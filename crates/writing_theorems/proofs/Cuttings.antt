-- A plan fits exactly where it has a cutting: filling each field as far as it goes leaves no more than any cutting does. Assumes nothing.
use mathlib.Core.Path.{◌≡◌, refl, sym, ap, ◌∙◌, subst}
use mathlib.Core.List.{List, [], ◌∷◌, ◌++◌, append-nil}
use mathlib.Core.Bool.{Bool, true, false, cond}
use mathlib.Core.Logic.{◌⊎◌, inl, inr, ⊎_elim}
use Prim.Native.Nat.{ℕ, zero, suc, ◌+◌, ◌-◌, ◌≤◌, ◌<◌}
use native.Mathlib.Omega.{arith}
use lib.ListN.{length, drop, length-append}
use lib.Seq.{drop-append-add, drop-drop}
use lib.Dec.{leb, eqb}
use borrow.Author.Tests.{lt-ltb, le-leb, eqb-true, eqb-false}
use Rattle.options.specs.Message.{Rec}
use Rattle.options.specs.Reading.{either, file_in, sname_in}
use Rattle.options.specs.Writing.{size, option_bytes, fits, fits_if, with52, is_nil, past_options, past_file, past_sname, plan_fits}
use Rattle.options.specs.WriterClaims.{Takes, TakesIf, Holding, run_bytes, RunFits, RunFitsIf, Cutting, HoldingIffCutting}
use Rattle.theorems.proofs.View.{clash}
use Rattle.writing_theorems.proofs.SheetView.{rec}
use Rattle.writing_theorems.proofs.Plans.{uses, unused, holding, fits_of}

-- the bytes of a run, as they are written
run_bytes_lem : (rs : List Rec) → length (option_bytes rs) ≡ run_bytes rs
unfolding option_bytes
run_bytes_lem [] = refl
run_bytes_lem (r ∷ rs) = omega (arith, run_bytes_lem rs, length-append r.body (option_bytes rs))

-- ---- a cutting: the plan fits

-- xs is the end of ys
record End (xs ys : List Rec) : Type 0 where
  from : ℕ
  is : xs ≡ drop from ys

-- a run that fits is taken whole
takes_run : (n : ℕ) (a b : List Rec) → length (option_bytes a) < n → length a ≤ fits n (a ++ b)
unfolding option_bytes fits
takes_run n [] b h = omega arith
takes_run n (r ∷ a) b h =
    let l : length (option_bytes a) < n - size r = omega (arith, length-append r.body (option_bytes a)) in
    let s : size r < n = omega (arith, length-append r.body (option_bytes a)) in
    rw (lt-ltb (size r) n s) (omega (arith, takes_run (n - size r) a b l))

-- so what is left over is an end of what follows the run
past_run : (n : ℕ) (a b : List Rec) → length (option_bytes a) < n → End (drop (fits n (a ++ b)) (a ++ b)) b
past_run n a b h =
    let k : ℕ = fits n (a ++ b) - length a in
    let e : fits n (a ++ b) ≡ length a + k = omega (arith, takes_run n a b h) in
    record { from = k; is = ap (λ (i : ℕ). drop i (a ++ b)) e ∙ drop-append-add a b k }

-- the end of a run takes no more room
run_end : (k : ℕ) (a : List Rec) → length (option_bytes (drop k a)) ≤ length (option_bytes a)
unfolding option_bytes
run_end zero a = omega arith
run_end (suc k) [] = omega arith
run_end (suc k) (r ∷ a) = omega (arith, run_end k a, length-append r.body (option_bytes a))

split : (k : ℕ) (a b : List Rec) → (drop k (a ++ b) ≡ drop k a ++ b) ⊎ ((j : ℕ) × (drop k (a ++ b) ≡ drop j b))
split zero a b = inl refl
split (suc k) [] b = inr (suc k, refl)
split (suc k) (r ∷ a) b = split k a b

-- a field, after the fields before have left an end of `a ++ b`
field_leaves : (used : Bool) (n : ℕ) (a b xs : List Rec) → (used ≡ true → length (option_bytes a) < n) → (used ≡ false → a ≡ []) → End xs (a ++ b) → End (drop (fits_if used n xs) xs) b
field_leaves false n a b xs h z e = record { from = e.from; is = e.is ∙ ap (λ (l : List Rec). drop e.from (l ++ b)) (z refl) }
field_leaves true n a b xs h z e = ⊎_elim within (λ (w : (j : ℕ) × (drop e.from (a ++ b) ≡ drop j b)). past w.0 (e.is ∙ w.1)) (split e.from a b)
  where
    within : drop e.from (a ++ b) ≡ drop e.from a ++ b → End (drop (fits n xs) xs) b
    within w =
        let q : xs ≡ drop e.from a ++ b = e.is ∙ w in
        subst (λ (l : List Rec). End (drop (fits n l) l) b) (sym q) (past_run n (drop e.from a) b (omega (arith, h refl, run_end e.from a)))

    past : (j : ℕ) → xs ≡ drop j b → End (drop (fits n xs) xs) b
    past j q = record { from = j + fits n xs; is = ap (drop (fits n xs)) q ∙ drop-drop (fits n xs) j b }

none_left : (xs : List Rec) → End xs [] → is_nil xs ≡ true
none_left xs e = ap is_nil (e.is ∙ nothing e.from)
  where
    nothing : (k : ℕ) → drop {A = Rec} k [] ≡ []
    nothing zero = refl
    nothing (suc k) = refl

-- the two forms of "the plan uses the field"
module _ (a b p n : ℕ) (xs : List Rec) (f : RunFitsIf ((p ≡ a) ⊎ (p ≡ b)) n xs) where
  room : either (eqb p a) (eqb p b) ≡ true → length (option_bytes xs) < n
  room e = ⊎_elim (λ (y : ((p ≡ a) ⊎ (p ≡ b)) × RunFits n 0 xs). omega (arith, y.1, run_bytes_lem xs)) (λ (y : ((p ≡ a) ⊎ (p ≡ b) → ⊥) × (xs ≡ [])). absurd (y.0 (uses a b p e))) f

  empty : either (eqb p a) (eqb p b) ≡ false → xs ≡ []
  empty e = ⊎_elim (λ (y : ((p ≡ a) ⊎ (p ≡ b)) × RunFits n 0 xs). absurd (unused a b p e y.0)) (λ (y : ((p ≡ a) ⊎ (p ≡ b) → ⊥) × (xs ≡ [])). y.1) f

with52_append : (p : ℕ) (a b : List Rec) → with52 p (a ++ b) ≡ with52 p a ++ b
with52_append p a b = go (eqb p 0)
  where
    go : (x : Bool) → cond x (a ++ b) (rec 52 (p ∷ []) ∷ (a ++ b)) ≡ cond x a (rec 52 (p ∷ []) ∷ a) ++ b
    go true = refl
    go false = refl

-- 52 is an option of three bytes
with_52 : (x : Bool) (p n : ℕ) (a : List Rec) → eqb p 0 ≡ x → ((p ≡ 0) × RunFits n 0 a) ⊎ ((p ≡ 0 → ⊥) × RunFits n 3 a) → length (option_bytes (cond x a (rec 52 (p ∷ []) ∷ a))) < n
unfolding option_bytes
with_52 true p n a e (inl f) = omega (arith, f.1, run_bytes_lem a)
with_52 true p n a e (inr f) = absurd (f.0 (eqb-true p 0 e))
with_52 false p n a e (inl f) = absurd (eqb-false p 0 e f.0)
with_52 false p n a e (inr f) = omega (arith, f.1, run_bytes_lem a)

of_52 : (x : Bool) (p n : ℕ) (a : List Rec) → eqb p 0 ≡ x → length (option_bytes (cond x a (rec 52 (p ∷ []) ∷ a))) < n → ((p ≡ 0) × RunFits n 0 a) ⊎ ((p ≡ 0 → ⊥) × RunFits n 3 a)
unfolding option_bytes
of_52 true p n a e l = inl (eqb-true p 0 e, omega (arith, run_bytes_lem a))
of_52 false p n a e l = inr (eqb-false p 0 e, omega (arith, run_bytes_lem a))

-- 52 and END fit
head_fits : (x : Bool) (p n : ℕ) (a : List Rec) → length (option_bytes (cond x a (rec 52 (p ∷ []) ∷ a))) < n → leb (cond x 1 4) n ≡ true
unfolding option_bytes
head_fits true p n a h = le-leb 1 n (omega arith)
head_fits false p n a h = le-leb 4 n (omega arith)

cut_fits : (p n : ℕ) (ps : List Rec) → Cutting p n ps → plan_fits p n ps ≡ true
unfolding plan_fits past_sname past_file past_options
cut_fits p n ps c =
    let fit : length (option_bytes (with52 p c.when_in_options)) < n = with_52 (eqb p 0) p n c.when_in_options refl c.options_fit in
    let all : with52 p ps ≡ with52 p c.when_in_options ++ (c.when_in_file ++ c.when_in_sname) = ap (with52 p) c.in_order ∙ with52_append p c.when_in_options (c.when_in_file ++ c.when_in_sname) in
    let o : End (with52 p ps) (with52 p c.when_in_options ++ (c.when_in_file ++ c.when_in_sname)) = record { from = 0; is = all } in
    let f : End (past_options p n ps) (c.when_in_file ++ c.when_in_sname) = field_leaves true n (with52 p c.when_in_options) (c.when_in_file ++ c.when_in_sname) (with52 p ps) (λ e. fit) (λ e. clash (cc)) o in
    let s : End (past_file p n ps) c.when_in_sname = field_leaves (file_in p) 128 c.when_in_file c.when_in_sname (past_options p n ps) (room 1 3 p 128 c.when_in_file c.file_fit) (empty 1 3 p 128 c.when_in_file c.file_fit) f in
    let l : End (past_sname p n ps) [] = field_leaves (sname_in p) 64 c.when_in_sname [] (past_file p n ps) (room 2 3 p 64 c.when_in_sname c.sname_fit) (empty 2 3 p 64 c.when_in_sname c.sname_fit) (subst (End (past_file p n ps)) (sym (append-nil c.when_in_sname)) s) in
    rw (head_fits (eqb p 0) p n c.when_in_options fit) (none_left (past_sname p n ps) l)

-- ---- a plan that fits: a cutting

-- 52 is in options
options_run : (x : Bool) (p n : ℕ) (ps here rest : List Rec) → Takes n (cond x ps (rec 52 (p ∷ []) ∷ ps)) here rest → (x ≡ true) ⊎ (4 ≤ n)
    → (a : List Rec) × (here ≡ cond x a (rec 52 (p ∷ []) ∷ a)) × (ps ≡ a ++ rest)
unfolding option_bytes
options_run true p n ps here rest t h = (here, refl, t.in_order)
options_run false p n ps here rest t (inl h) = clash (cc)
options_run false p n ps [] rest t (inr h) = absurd (omega (arith, t.no_more (rec 52 (p ∷ [])) ps (sym t.in_order)))
options_run false p n ps (y ∷ a) rest t (inr h) = let e : rec 52 (p ∷ []) ∷ ps ≡ y ∷ (a ++ rest) = t.in_order in (a, cc, cc)

-- what a further field takes is a run that fits
run_if : {U : Type 0} (n : ℕ) (rs here rest : List Rec) → TakesIf U n rs here rest → (rs ≡ here ++ rest) × RunFitsIf U n here
run_if n rs here rest (inl t) = (t.1.in_order, inl (t.0, omega (arith, t.1.with_end, run_bytes_lem here)))
run_if n rs here rest (inr t) = (sym t.2 ∙ ap (λ (l : List Rec). l ++ rest) (sym t.1), inr (t.0, t.1))

pub cut_of : (p n : ℕ) (ps : List Rec) → Holding p n ps → Cutting p n ps
cut_of p n ps h =
    let o = options_run (eqb p 0) p n ps h.when_in_options h.when_past_options h.options_takes (start h.has_52) in
    let f = run_if 128 h.when_past_options h.when_in_file h.when_past_file h.file_takes in
    let s = run_if 64 h.when_past_file h.when_in_sname [] h.sname_takes in
    record {
      when_in_options = o.0;
      when_in_file = h.when_in_file;
      when_in_sname = h.when_in_sname;
      in_order = o.2 ∙ ap (λ (l : List Rec). o.0 ++ l) (f.0 ∙ ap (λ (l : List Rec). h.when_in_file ++ l) (s.0 ∙ append-nil h.when_in_sname));
      options_fit = of_52 (eqb p 0) p n o.0 refl (subst (λ (l : List Rec). length (option_bytes l) < n) o.1 h.options_takes.with_end);
      file_fit = f.1;
      sname_fit = s.1;
    }
  where
    start : (p ≡ 0) ⊎ (4 ≤ n) → (eqb p 0 ≡ true) ⊎ (4 ≤ n)
    start (inl e) = inl (rw e)
    start (inr l) = inr l

pub cut_held : (p n : ℕ) (ps : List Rec) → Cutting p n ps → Holding p n ps
cut_held p n ps c = holding p n ps (fits_of p n ps (cut_fits p n ps c))

pub holding_iff_cutting : HoldingIffCutting
holding_iff_cutting p n ps = (cut_of p n ps, cut_held p n ps)
