-- What the writer writes walks back as the routes given, and its refusals are those of the rows. Assumes nothing.
use mathlib.Core.Path.{◌≡◌, refl, sym, ap, ap₂, ◌∙◌, subst}
use mathlib.Core.Bool.{Bool, true, false}
use mathlib.Core.List.{List, [], ◌∷◌, ◌++◌, append_assoc}
use mathlib.Core.Option.{Option, none, some}
use Prim.Native.Nat.{ℕ, zero, suc, ◌+◌, ◌-◌, ◌*◌, ◌/◌, ◌%◌, ◌^◌, ◌≤◌, ◌<◌}
use native.Mathlib.Nat.{div-add-mod', mod-eq_of_lt}
use native.Mathlib.Omega.{arith}
use native.Mathlib.Decide.{dec_lt}
use lib.Pow.{pow_pos, mod-mod-pow}
use lib.ListN.{length, take, drop, length-append, length-drop}
use lib.Seq.{take_at, drop_at, take-append-le, length-take-le, drop-append_seam}
use borrow.Author.Tests.{lt-ltb, le-ltb, le-leb, eq-eqb}
use Rattle.options.specs.Kinds.{word32, first32, width_bytes, behind, routes_fault_value, routes, part, row_of, fault, value_fault_value, meaning, judged, kinds}
use Rattle.options.specs.KindClaims.{AllBytes, four_bytes}
use Rattle.options.specs.Answers.{given, declined, Filled, unfilled, filled_with}
use Rattle.options.specs.VendorClaims.{filled}
use Rattle.options.specs.RouteData.{BytesOf}
use Rattle.options.specs.Routes.{Route, cleared, route_in, next, route_step, is_faulty_value, faulty_from, first_faulty, one_route, route_bytes, write_routes}
use Rattle.options.specs.RouteClaims.{RightRoute, FirstFaulty, NoneFaulty, RouteSteps, no_more, one_more, NineEach, none_left, nine, RoutesAsData, no_routes, when_one_route, WritesRoutes, write_26, write_11, writes, RouteWriterIsCorrect, WalksBack, RoutesWalkBack}
use Rattle.theorems.proofs.RouteRow.{bytes_of, bytes_are, fault_next}
use Rattle.route_theorems.proofs.Steps.{step_end, step_next, steps_only}
use Rattle.route_theorems.proofs.Faulty.{Judged, is_right, is_short, is_wide, has_bits, one_judged, faulty_here, faulty_next, Verdict, all_right, first, verdict, only_first, none_first}

-- ---- Routes without fault

data Eight : List ℕ → Type 0 where
  eight : {a b c d e f g h : ℕ} {s : List ℕ} → Eight (a ∷ b ∷ c ∷ d ∷ e ∷ f ∷ g ∷ h ∷ s)

eight_of : (xs : List ℕ) → 8 ≤ length xs → Eight xs
eight_of (a ∷ b ∷ c ∷ d ∷ e ∷ f ∷ g ∷ h ∷ s) l = eight
eight_of [] l = absurd (omega arith)
eight_of (a ∷ []) l = absurd (omega arith)
eight_of (a ∷ b ∷ []) l = absurd (omega arith)
eight_of (a ∷ b ∷ c ∷ []) l = absurd (omega arith)
eight_of (a ∷ b ∷ c ∷ d ∷ []) l = absurd (omega arith)
eight_of (a ∷ b ∷ c ∷ d ∷ e ∷ []) l = absurd (omega arith)
eight_of (a ∷ b ∷ c ∷ d ∷ e ∷ f ∷ []) l = absurd (omega arith)
eight_of (a ∷ b ∷ c ∷ d ∷ e ∷ f ∷ g ∷ []) l = absurd (omega arith)

data Good : List ℕ → Type 0 where
  good_none : Good []
  good_one : {w a b c d e f g h : ℕ} {s : List ℕ} → w ≤ 32 → cleared w (word32 a b c d) ≡ word32 a b c d → Good s → Good (w ∷ a ∷ b ∷ c ∷ d ∷ e ∷ f ∷ g ∷ h ∷ s)

-- where it is known of what is left after one route
good_by : (n k : ℕ) (s : List ℕ) → ((t : List ℕ) → length t ≤ n → faulty_from (suc k) 0 t ≡ none → Good t) → length s ≤ suc n → faulty_from k 0 s ≡ none → Good s
good_by n k [] more l o = good_none
good_by n k (w ∷ xs) more l o = by (one_judged w xs)
  where
    clash : is_faulty_value w xs ≡ true → Good (w ∷ xs)
    clash f = let e = faulty_here k w xs f in let z : ◌≡◌ {A = ℕ} 0 1 = cc in absurd (omega arith)

    whole : (ys : List ℕ) → Eight ys → w ≤ 32 → cleared w (first32 ys) ≡ first32 ys → Good (drop 8 ys) → Good (w ∷ ys)
    whole ys eight h c g = good_one h c g

    by : Judged w xs → Good (w ∷ xs)
    by (is_right f g h c) = whole xs (eight_of xs g) h c (more (drop 8 xs) (simp length-drop (omega arith)) (sym (faulty_next k w xs f g) ∙ o))
    by (is_short f g) = clash f
    by (is_wide f h) = clash f
    by (has_bits f c) = clash f

-- with n bytes at most
good_of : (n k : ℕ) (s : List ℕ) → length s ≤ n → faulty_from k 0 s ≡ none → Good s
good_of zero k [] l o = good_none
good_of zero k (w ∷ xs) l o = absurd (omega arith)
good_of (suc n) k s l o = good_by n k s (λ t. good_of n (suc k) t) l o

abbrev routes_of : {s : List ℕ} → Good s → List Route
routes_of good_none = []
routes_of (good_one {w} {a} {b} {c} {d} {e} {f} {g} {h} l z r) =
    record { destination = four_bytes a b c d; width = w; router = four_bytes e f g h } ∷ routes_of r

nine_each : {s : List ℕ} (r : Good s) → NineEach s (routes_of r)
nine_each good_none = none_left
nine_each (good_one l z r) = nine (nine_each r)

-- ---- The destination

low_zero : (x w n : ℕ) → w ≤ 8 * n → n ≤ 4 → cleared w x ≡ x → x % 2 ^ (32 - 8 * n) ≡ 0
low_zero x w n h l c =
    let j : ℕ = 8 * n - w in
    let k : ℕ = 32 - 8 * n in
    let e : 32 - w ≡ j + k = omega arith in
    let z : x % 2 ^ (32 - w) ≡ 0 = (let y : cleared w x + x % 2 ^ (32 - w) ≡ x = div-add-mod' x (2 ^ (32 - w)) in omega (arith, c)) in
    let y : x % 2 ^ (j + k) ≡ 0 = rw e at z in
    sym (mod-mod-pow x j k) ∙ ap (λ (q : ℕ). q % 2 ^ k) y ∙ mod-eq_of_lt (pow_pos k)

-- the bytes that are left off are 0
left_off : (w a b c d : ℕ) (xs : List ℕ) → w ≤ 32 → a < 256 → b < 256 → c < 256 → d < 256 → cleared w (word32 a b c d) ≡ word32 a b c d
    → first32 (take (width_bytes w) (a ∷ b ∷ c ∷ d ∷ xs)) ≡ word32 a b c d
left_off w a b c d xs h ha hb hc hd z = by (width_bytes w) refl
  where
    low : (n : ℕ) → width_bytes w ≡ n → word32 a b c d % 2 ^ (32 - 8 * n) ≡ 0
    low n e = low_zero (word32 a b c d) w n (omega arith) (omega arith) z

    by : (n : ℕ) → width_bytes w ≡ n → first32 (take n (a ∷ b ∷ c ∷ d ∷ xs)) ≡ word32 a b c d
    by zero e = let y : word32 a b c d % 4294967296 ≡ 0 = low 0 e in omega arith
    by (suc zero) e = let y : word32 a b c d % 16777216 ≡ 0 = low 1 e in omega arith
    by (suc (suc zero)) e = let y : word32 a b c d % 65536 ≡ 0 = low 2 e in omega arith
    by (suc (suc (suc zero))) e = let y : word32 a b c d % 256 ≡ 0 = low 3 e in omega arith
    by (suc (suc (suc (suc zero)))) e = refl
    by (suc (suc (suc (suc (suc n))))) e = absurd (omega arith)

-- ---- One route, written

-- as it is found among bytes that follow it
route_back : (w a b c d e f g h : ℕ) (s rest : List ℕ) → w ≤ 32 → first32 (take (width_bytes w) (a ∷ b ∷ c ∷ d ∷ e ∷ f ∷ g ∷ h ∷ s)) ≡ word32 a b c d
    → cleared w (word32 a b c d) ≡ word32 a b c d
    → let xs : List ℕ = a ∷ b ∷ c ∷ d ∷ e ∷ f ∷ g ∷ h ∷ s in
    route_in w ((take (width_bytes w) xs ++ (e ∷ f ∷ g ∷ h ∷ [])) ++ rest) ≡ record { destination = four_bytes a b c d; width = w; router = four_bytes e f g h }
unfolding route_in
route_back w a b c d e f g h s rest l q z =
    let xs : List ℕ = a ∷ b ∷ c ∷ d ∷ e ∷ f ∷ g ∷ h ∷ s in
    let m : length (take (width_bytes w) xs) ≡ width_bytes w = length-take-le (width_bytes w) xs (omega arith) in
    let x : word32 a b c d ≡ four_bytes a b c d = omega arith in
    let y : word32 e f g h ≡ four_bytes e f g h = omega arith in
    rw (append_assoc (take (width_bytes w) xs) (e ∷ f ∷ g ∷ h ∷ []) rest, take_at (take (width_bytes w) xs) (e ∷ f ∷ g ∷ h ∷ rest) (width_bytes w) m, drop_at (take (width_bytes w) xs) (e ∷ f ∷ g ∷ h ∷ rest) (width_bytes w) m, q, z, x, y)

one_size : (w : ℕ) (xs by : List ℕ) → w ≤ 32 → 8 ≤ length xs → length by ≡ 4 → length (take (width_bytes w) xs ++ by) ≡ behind w
one_size w xs by l h n = omega (arith, length-append (take (width_bytes w) xs) by, length-take-le (width_bytes w) xs (omega arith))

-- ---- All

-- from the end of p on
back : {s : List ℕ} (r : Good s) → AllBytes s → (p : List ℕ) → RouteSteps (p ++ route_bytes 0 s) (length p) (routes_of r)
unfolding route_bytes
back good_none bytes p = no_more (step_end (p ++ []) (length p) (drop-append_seam p []))
back (good_one {w} {a} {b} {c} {d} {e} {f} {g} {h} {s} l z r) bytes p =
    let xs : List ℕ = a ∷ b ∷ c ∷ d ∷ e ∷ f ∷ g ∷ h ∷ s in
    let tail : List ℕ = take (width_bytes w) xs ++ (e ∷ f ∷ g ∷ h ∷ []) in
    let rest : List ℕ = route_bytes 0 s in
    let n : length tail ≡ behind w = one_size w xs (e ∷ f ∷ g ∷ h ∷ []) l (omega arith) refl in
    let m : behind w ≤ length (tail ++ rest) = omega (arith, length-append tail rest) in
    let q : first32 (take (width_bytes w) xs) ≡ word32 a b c d = left_off w a b c d (e ∷ f ∷ g ∷ h ∷ s) l bytes.1.0 bytes.1.1.0 bytes.1.1.1.0 bytes.1.1.1.1.0 z in
    let step = step_next (p ++ (w ∷ (tail ++ rest))) (length p) w (tail ++ rest) (drop-append_seam p (w ∷ (tail ++ rest))) l m in
    let same = route_back w a b c d e f g h s rest l q z in
    let more : RouteSteps ((p ++ (w ∷ tail)) ++ rest) (length (p ++ (w ∷ tail))) (routes_of r) = back r bytes.1.1.1.1.1.1.1.1.1 (p ++ (w ∷ tail)) in
    let at : length (p ++ (w ∷ tail)) ≡ length p + suc (behind w) = omega (arith, length-append p (w ∷ tail)) in
    one_more (step ∙ ap (λ (x : Route). next x (length p + suc (behind w))) same) (rw (at, append_assoc p (w ∷ tail) rest) at more)

-- the row's judgement of it
fine : {s : List ℕ} → Good s → routes_fault_value 0 (route_bytes 0 s) ≡ 0
unfolding route_bytes routes_fault_value
fine good_none = refl
fine (good_one {w} {a} {b} {c} {d} {e} {f} {g} {h} {s} l z r) =
    let xs : List ℕ = a ∷ b ∷ c ∷ d ∷ e ∷ f ∷ g ∷ h ∷ s in
    let tail : List ℕ = take (width_bytes w) xs ++ (e ∷ f ∷ g ∷ h ∷ []) in
    let rest : List ℕ = route_bytes 0 s in
    let n : length tail ≡ behind w = one_size w xs (e ∷ f ∷ g ∷ h ∷ []) l (omega arith) refl in
    let m : behind w ≤ length (tail ++ rest) = omega (arith, length-append tail rest) in
    fault_next w (tail ++ rest) l m ∙ rw (drop_at tail rest (behind w) n) (fine r)

long : {s : List ℕ} → Good s → 1 ≤ length s → 5 ≤ length (route_bytes 0 s)
unfolding route_bytes
long good_none h = absurd (omega arith)
long (good_one {w} {a} {b} {c} {d} {e} {f} {g} {h} {s} l z r) k =
    let xs : List ℕ = a ∷ b ∷ c ∷ d ∷ e ∷ f ∷ g ∷ h ∷ s in
    let tail : List ℕ = take (width_bytes w) xs ++ (e ∷ f ∷ g ∷ h ∷ []) in
    omega (arith, length-append tail (route_bytes 0 s), one_size w xs (e ∷ f ∷ g ∷ h ∷ []) l (omega arith) refl)

-- ---- There is one list of routes

abbrev nine_of : List ℕ → List Route
nine_of (w ∷ a ∷ b ∷ c ∷ d ∷ e ∷ f ∷ g ∷ h ∷ s) = record { destination = four_bytes a b c d; width = w; router = four_bytes e f g h } ∷ nine_of s
nine_of (w ∷ a ∷ b ∷ c ∷ d ∷ e ∷ f ∷ g ∷ []) = []
nine_of (w ∷ a ∷ b ∷ c ∷ d ∷ e ∷ f ∷ []) = []
nine_of (w ∷ a ∷ b ∷ c ∷ d ∷ e ∷ []) = []
nine_of (w ∷ a ∷ b ∷ c ∷ d ∷ []) = []
nine_of (w ∷ a ∷ b ∷ c ∷ []) = []
nine_of (w ∷ a ∷ b ∷ []) = []
nine_of (w ∷ a ∷ []) = []
nine_of (w ∷ []) = []
nine_of [] = []

nine_only : {s : List ℕ} {rs : List Route} → NineEach s rs → rs ≡ nine_of s
nine_only none_left = refl
nine_only (nine {w} {a} {b} {c} {d} {e} {f} {g} {h} n) =
    ap (λ (rs : List Route). record { destination = four_bytes a b c d; width = w; router = four_bytes e f g h } ∷ rs) (nine_only n)

-- ---- The routes as the option has them

four_of : (n a b c d : ℕ) (ys : List ℕ) → n ≤ 4 → take n (a ∷ b ∷ c ∷ d ∷ []) ≡ take n (a ∷ b ∷ c ∷ d ∷ ys)
four_of n a b c d ys h = sym (take-append-le n (a ∷ b ∷ c ∷ d ∷ []) ys h)

module _ (w a b c d e f g h n : ℕ) (s : List ℕ) (l : w ≤ 32) (x : BytesOf w n) where
  one_as_data : w ∷ (take n (a ∷ b ∷ c ∷ d ∷ []) ++ (e ∷ f ∷ g ∷ h ∷ route_bytes 0 s)) ≡ route_bytes 0 (w ∷ a ∷ b ∷ c ∷ d ∷ e ∷ f ∷ g ∷ h ∷ s)
  unfolding route_bytes
  one_as_data =
      let ys : List ℕ = a ∷ b ∷ c ∷ d ∷ e ∷ f ∷ g ∷ h ∷ s in
      let m : n ≡ width_bytes w = bytes_are w n x in
      let q : take n (a ∷ b ∷ c ∷ d ∷ []) ≡ take (width_bytes w) ys = four_of n a b c d (e ∷ f ∷ g ∷ h ∷ s) (omega arith) ∙ ap (λ (k : ℕ). take k ys) m in
      ap (λ (p : List ℕ). w ∷ (p ++ (e ∷ f ∷ g ∷ h ∷ route_bytes 0 s))) q
      ∙ ap (λ (p : List ℕ). w ∷ p) (sym (append_assoc (take (width_bytes w) ys) (e ∷ f ∷ g ∷ h ∷ []) (route_bytes 0 s)))

data_only : {s xs : List ℕ} → RoutesAsData s xs → xs ≡ route_bytes 0 s
unfolding route_bytes
data_only no_routes = refl
data_only (when_one_route {w} {a} {b} {c} {d} {e} {f} {g} {h} {n} {s} {xs} l x r) =
    ap (λ (ys : List ℕ). w ∷ (take n (a ∷ b ∷ c ∷ d ∷ []) ++ (e ∷ f ∷ g ∷ h ∷ ys))) (data_only r) ∙ one_as_data w a b c d e f g h n s l x

data_of : {s : List ℕ} → Good s → RoutesAsData s (route_bytes 0 s)
unfolding route_bytes
data_of good_none = no_routes
data_of (good_one {w} {a} {b} {c} {d} {e} {f} {g} {h} {s} l z r) =
    subst (RoutesAsData (w ∷ a ∷ b ∷ c ∷ d ∷ e ∷ f ∷ g ∷ h ∷ s)) (one_as_data w a b c d e f g h (width_bytes w) s l (bytes_of w)) (when_one_route l (bytes_of w) (data_of r))

-- ---- The writer

pub first_from_lem : (s : List ℕ) → first_faulty s ≡ none → faulty_from 0 0 s ≡ none
unfolding first_faulty
first_from_lem [] e = let z : ◌≡◌ {A = ℕ} 0 1 = cc in absurd (omega arith)
first_from_lem (w ∷ xs) e = e

good : (s : List ℕ) → first_faulty s ≡ none → Good s
good s e = good_of (length s) 0 s (omega arith) (first_from_lem s e)

pub writes_as : (s old : List ℕ) → first_faulty s ≡ none → write_routes s old ≡ filled_with (route_bytes 0 s) old
unfolding write_routes
writes_as s old e = rw e

pub refuses : (s old : List ℕ) (k : ℕ) → first_faulty s ≡ some k → write_routes s old ≡ unfilled 26 k old
unfolding write_routes
refuses s old k e = rw e

too_small : (xs old : List ℕ) → length old < length xs → filled_with xs old ≡ unfilled 11 (length old) old
too_small xs old h = rw (lt-ltb (length old) (length xs) h)

fits : (xs old : List ℕ) → length xs ≤ length old → filled_with xs old ≡ filled xs old
fits xs old h = rw (le-ltb (length old) (length xs) h)

module _ (s out : List ℕ) where
  by_room : first_faulty s ≡ none → NoneFaulty s → Dec (length out < length (route_bytes 0 s)) → WritesRoutes s out (write_routes s out)
  by_room e x (yes h) = rw (writes_as s out e, too_small (route_bytes 0 s) out h) (write_11 x (data_of (good s e)) h)
  by_room e x (no h) = rw (writes_as s out e, fits (route_bytes 0 s) out (omega arith)) (writes x (data_of (good s e)) (omega arith))

  right_answer : Verdict s → WritesRoutes s out (write_routes s out)
  right_answer (first {k} e f) = rw (refuses s out k e) (write_26 f)
  right_answer (all_right {m} e l a b) = by_room e (λ k. none_first s m k l a b) (dec_lt (length out) (length (route_bytes 0 s)))

  -- where no route is faulty
  unless_faulty_lem : NoneFaulty s → first_faulty s ≡ none
  unless_faulty_lem x = by (verdict s)
    where
      by : Verdict s → first_faulty s ≡ none
      by (first {k} e f) = absurd (x k f)
      by (all_right e l a b) = e

  of_26 : (k : ℕ) → FirstFaulty s k → write_routes s out ≡ unfilled 26 k out
  of_26 k f = by (verdict s)
    where
      by : Verdict s → write_routes s out ≡ unfilled 26 k out
      by (first {k = j} e g) = refuses s out j e ∙ ap (λ (i : ℕ). unfilled 26 i out) (only_first s j k g f)
      by (all_right {m} e l a b) = absurd (none_first s m k l a b f)

  no_other : (w : Filled) → WritesRoutes s out w → write_routes s out ≡ w
  no_other w (write_26 {k} f) = of_26 k f
  no_other w (write_11 {b} x r h) = writes_as s out (unless_faulty_lem x) ∙ too_small (route_bytes 0 s) out (rw (data_only r) at h)
  no_other w (writes {b} x r h) =
      let e : b ≡ route_bytes 0 s = data_only r in
      writes_as s out (unless_faulty_lem x) ∙ fits (route_bytes 0 s) out (rw e at h) ∙ ap (λ (y : List ℕ). filled y out) (sym e)

pub route_writer_is_correct : RouteWriterIsCorrect
route_writer_is_correct s out w = (λ e. subst (WritesRoutes s out) e (right_answer s out (verdict s)), no_other s out w)

-- ---- What is written walks back

keeps_row : (b : List ℕ) → 5 ≤ length b → routes_fault_value 0 b ≡ 0 → kinds.value 121 b ≡ part routes (length b)
unfolding row_of judged fault value_fault_value meaning
keeps_row b h f =
    let one : length b % 1 ≡ 0 = omega arith in
    rw (le-leb 5 (length b) h, eq-eqb (length b % 1) 0 one, f)

walks_back : (s : List ℕ) → AllBytes s → first_faulty s ≡ none → 1 ≤ length s → WalksBack s (route_bytes 0 s)
walks_back s bytes e h =
    let g = good s e in
    record {
      when_routes_given = λ rs. (
        λ x. subst (NineEach s) (steps_only (back g bytes []) x) (nine_each g),
        λ x. subst (RouteSteps (route_bytes 0 s) 0) (nine_only (nine_each g) ∙ sym (nine_only x)) (back g bytes []),
      );
      keeps_the_row = keeps_row (route_bytes 0 s) (long g h) (fine g);
    }

-- the bytes given at the start of a buffer
front : (xs old w : List ℕ) (n : ℕ) → filled xs old ≡ record { answer = given n; buffer = w } → xs ≡ take n w
front xs old w n e =
    let a : given (length xs) ≡ given n = ap (λ (x : Filled). x.answer) e in
    let q : length xs ≡ n = cc in
    let b : xs ++ drop (length xs) old ≡ w = ap (λ (x : Filled). x.buffer) e in
    sym (ap (take n) (sym b) ∙ take_at xs (drop (length xs) old) n q)

pub routes_walk_back : RoutesWalkBack
routes_walk_back s out n w bytes x = by (verdict s)
  where
    declines : {j k : ℕ} → unfilled j k out ≡ record { answer = given n; buffer = w } → ⊥
    declines {j} {k} e = let a : declined j k ≡ given n = ap (λ (y : Filled). y.answer) e in let z : ◌≡◌ {A = ℕ} 0 1 = cc in omega arith

    room : first_faulty s ≡ none → 1 ≤ length s → Dec (length out < length (route_bytes 0 s)) → WalksBack s (take n w)
    room e h (yes l) = absurd (declines (sym (writes_as s out e ∙ too_small (route_bytes 0 s) out l) ∙ x))
    room e h (no l) = subst (WalksBack s) (front (route_bytes 0 s) out w n (sym (writes_as s out e ∙ fits (route_bytes 0 s) out (omega arith)) ∙ x)) (walks_back s bytes e h)

    by : Verdict s → WalksBack s (take n w)
    by (first {k} e f) = absurd (declines (sym (refuses s out k e) ∙ x))
    by (all_right {m} e l a b) = room e (omega arith) (dec_lt (length out) (length (route_bytes 0 s)))
