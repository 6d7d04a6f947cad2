-- The parts of a buffer that a plan writes, one after the other. Assumes nothing.
use mathlib.Core.Path.{◌≡◌, refl, sym, ap, ap₂, ◌∙◌}
use mathlib.Core.List.{List, [], ◌∷◌, ◌++◌, append_assoc, append-nil}
use mathlib.Core.Bool.{Bool, true, false, cond}
use Prim.Native.Nat.{ℕ, ◌+◌, ◌-◌, ◌<◌, ◌≤◌}
use native.Mathlib.Omega.{arith}
use lib.ListN.{length, take, drop, set, length-drop, length-append, length-take, take-append-drop}
use lib.Seq.{take_at, drop_at, length-take-le, drop-drop}
use borrow.Rule.Slice.PartMut.{put_mid, mid_of}
use lib.Dec.{eqb}
use borrow.Author.Tests.{ne_eqb}
use Rattle.options.specs.Message.{cookie, Rec}
use Rattle.options.specs.Writing.{fits_if}
use Rattle.writer.specs.Fill.{filled, least_room}

-- a part is put back in its place
pub put_at : (a k : ℕ) (p x q ys : List ℕ) → length p ≡ a → length x ≡ k → put_mid a k (p ++ (x ++ q)) ys ≡ p ++ (ys ++ q)
put_at a k p x q ys lp lx =
    ap₂ (λ (l r : List ℕ). l ++ (ys ++ drop k r)) (take_at p (x ++ q) a lp) (drop_at p (x ++ q) a lp) ∙ ap (λ (l : List ℕ). p ++ (ys ++ l)) (drop_at x q k lx)

pub mid_at : (a k : ℕ) (p x q : List ℕ) → length p ≡ a → length x ≡ k → mid_of a k (p ++ (x ++ q)) ≡ x
mid_at a k p x q lp lx = ap (take k) (drop_at p (x ++ q) a lp) ∙ take_at x q k lx

-- the five parts
abbrev pub join5 : List ℕ → List ℕ → List ℕ → List ℕ → List ℕ → List ℕ
join5 h s f c o = h ++ (s ++ (f ++ (c ++ o)))

piece : (n k : ℕ) (m : List ℕ) → drop n m ≡ take k (drop n m) ++ drop (n + k) m
piece n k m = sym (take-append-drop k (drop n m)) ∙ ap (λ (l : List ℕ). take k (drop n m) ++ l) (drop-drop k n m)

pub cut5 : (m : List ℕ) → m ≡ join5 (take 44 m) (take 64 (drop 44 m)) (take 128 (drop 108 m)) (take 4 (drop 236 m)) (drop 240 m)
cut5 m =
    sym (take-append-drop 44 m)
    ∙ ap (λ (l : List ℕ). take 44 m ++ l)
    (piece 44 64 m
    ∙ ap (λ (l : List ℕ). take 64 (drop 44 m) ++ l) (piece 108 128 m ∙ ap (λ (l : List ℕ). take 128 (drop 108 m) ++ l) (piece 236 4 m)))

module _ (h s f c o : List ℕ) (lh : length h ≡ 44) (ls : length s ≡ 64) (lf : length f ≡ 128) (lc : length c ≡ 4) where
  file_at : (x : List ℕ) → (h ++ s) ++ (x ++ (c ++ o)) ≡ join5 h s x c o
  file_at x = simp append_assoc

  cookie_at : (x : List ℕ) → (h ++ (s ++ f)) ++ (x ++ o) ≡ join5 h s f x o
  cookie_at x = simp append_assoc

  options_at : (x : List ℕ) → (h ++ (s ++ (f ++ c))) ++ (x ++ []) ≡ join5 h s f c x
  options_at x = simp (append_assoc, append-nil)

  l2 : length (h ++ s) ≡ 108
  l2 = simp length-append (omega arith)

  l3 : length (h ++ (s ++ f)) ≡ 236
  l3 = simp length-append (omega arith)

  l4 : length (h ++ (s ++ (f ++ c))) ≡ 240
  l4 = simp length-append (omega arith)

  lo : length o ≡ length (join5 h s f c o) - 240
  lo = simp length-append (omega arith)

  pub put_sname : (ys : List ℕ) → put_mid 44 64 (join5 h s f c o) ys ≡ join5 h ys f c o
  put_sname ys = put_at 44 64 h s (f ++ (c ++ o)) ys lh ls

  pub mid_sname : mid_of 44 64 (join5 h s f c o) ≡ s
  mid_sname = mid_at 44 64 h s (f ++ (c ++ o)) lh ls

  pub put_file : (ys : List ℕ) → put_mid 108 128 (join5 h s f c o) ys ≡ join5 h s ys c o
  put_file ys = ap (λ (l : List ℕ). put_mid 108 128 l ys) (sym (file_at f)) ∙ put_at 108 128 (h ++ s) f (c ++ o) ys l2 lf ∙ file_at ys

  pub mid_file : mid_of 108 128 (join5 h s f c o) ≡ f
  mid_file = ap (mid_of 108 128) (sym (file_at f)) ∙ mid_at 108 128 (h ++ s) f (c ++ o) l2 lf

  pub put_cookie : (ys : List ℕ) → put_mid 236 4 (join5 h s f c o) ys ≡ join5 h s f ys o
  put_cookie ys = ap (λ (l : List ℕ). put_mid 236 4 l ys) (sym (cookie_at c)) ∙ put_at 236 4 (h ++ (s ++ f)) c o ys l3 lc ∙ cookie_at ys

  pub put_options : (ys : List ℕ) → put_mid 240 (length (join5 h s f c o) - 240) (join5 h s f c o) ys ≡ join5 h s f c ys
  put_options ys =
      ap (λ (l : List ℕ). put_mid 240 (length (join5 h s f c o) - 240) l ys) (sym (options_at o))
      ∙ put_at 240 (length (join5 h s f c o) - 240) (h ++ (s ++ (f ++ c))) o [] ys l4 lo
      ∙ options_at ys

  pub mid_options : mid_of 240 (length (join5 h s f c o) - 240) (join5 h s f c o) ≡ o
  mid_options =
      ap (mid_of 240 (length (join5 h s f c o) - 240)) (sym (options_at o)) ∙ mid_at 240 (length (join5 h s f c o) - 240) (h ++ (s ++ (f ++ c))) o [] l4 lo

-- the four parts, lent one after the other
module _ (m c o f s : List ℕ) where
  abbrev pub m1 : List ℕ
  m1 = put_mid 236 4 m c

  abbrev pub m2 : List ℕ
  m2 = put_mid 240 (length m1 - 240) m1 o

  abbrev pub m3 : List ℕ
  m3 = put_mid 108 128 m2 f

  abbrev pub m4 : List ℕ
  m4 = put_mid 44 64 m3 s

module _ (m c o f s : List ℕ) (hm : 240 ≤ length m) (lc : length c ≡ 4) where
  H : List ℕ
  H = take 44 m

  S : List ℕ
  S = take 64 (drop 44 m)

  F : List ℕ
  F = take 128 (drop 108 m)

  C : List ℕ
  C = take 4 (drop 236 m)

  l_h : length H ≡ 44
  unfolding H
  l_h = length-take-le 44 m (omega arith)

  l_s : length S ≡ 64
  unfolding S
  l_s = simp (length-take, length-drop) (omega arith)

  l_f : length F ≡ 128
  unfolding F
  l_f = simp (length-take, length-drop) (omega arith)

  l_c : length C ≡ 4
  unfolding C
  l_c = simp (length-take, length-drop) (omega arith)

  is1 : m1 m c o f s ≡ join5 H S F c (drop 240 m)
  unfolding H S F C
  is1 = ap (λ (l : List ℕ). put_mid 236 4 l c) (cut5 m) ∙ put_cookie H S F C (drop 240 m) l_h l_s l_f l_c c

  is2 : m2 m c o f s ≡ join5 H S F c o
  is2 = ap (λ (l : List ℕ). put_mid 240 (length l - 240) l o) is1 ∙ put_options H S F c (drop 240 m) l_h l_s l_f lc o

  is3 : m3 m c o f s ≡ join5 H S f c o
  is3 = ap (λ (l : List ℕ). put_mid 108 128 l f) is2 ∙ put_file H S F c o l_h l_s l_f lc f

  pub is4 : length f ≡ 128 → m4 m c o f s ≡ join5 (take 44 m) s f c o
  unfolding H
  is4 lf = ap (λ (l : List ℕ). put_mid 44 64 l s) is3 ∙ put_sname H S f c o l_h l_s lf lc s

  pub lent_options : mid_of 240 (length (m1 m c o f s) - 240) (m1 m c o f s) ≡ drop 240 m
  lent_options = ap (λ (l : List ℕ). mid_of 240 (length l - 240) l) is1 ∙ mid_options H S F c (drop 240 m) l_h l_s l_f lc

  pub lent_file : mid_of 108 128 (m2 m c o f s) ≡ take 128 (drop 108 m)
  unfolding F
  lent_file = ap (mid_of 108 128) is2 ∙ mid_file H S F c o l_h l_s l_f lc

  pub lent_sname : length f ≡ 128 → mid_of 44 64 (m3 m c o f s) ≡ take 64 (drop 44 m)
  unfolding S
  lent_sname lf = ap (mid_of 44 64) is3 ∙ mid_sname H S f c o l_h l_s lf lc

  pub file_long : length (mid_of 108 128 (m2 m c o f s)) ≡ 128
  unfolding F
  file_long = ap length lent_file ∙ l_f

  pub sname_long : length f ≡ 128 → length (mid_of 44 64 (m3 m c o f s)) ≡ 64
  unfolding S
  sname_long lf = ap length (lent_sname lf) ∙ l_s

-- ---- the cookie

pub four : (xs : List ℕ) → length xs ≡ 4 → set (set (set (set xs 0 99) 1 130) 2 83) 3 99 ≡ cookie
four [] e = absurd (omega arith)
four (a ∷ []) e = absurd (omega arith)
four (a ∷ b ∷ []) e = absurd (omega arith)
four (a ∷ b ∷ c ∷ []) e = absurd (omega arith)
four (a ∷ b ∷ c ∷ d ∷ []) e = refl
four (a ∷ b ∷ c ∷ d ∷ x ∷ xs) e = absurd (omega arith)

-- ---- The room of the options field

pub some_room : (p n : ℕ) → least_room p ≤ n → 0 < n
some_room p n h = go (eqb p 0) h
  where
    go : (b : Bool) → cond b 1 4 ≤ n → 0 < n
    go true q = omega arith
    go false q = omega arith

pub room_52 : (p n : ℕ) → least_room p ≤ n → (p ≡ 0 → ⊥) → 4 ≤ n
room_52 p n h z = rw (ne_eqb p 0 z) at h

-- ---- Equal for equal

pub field_eq : {z : List ℕ} {u v : Bool} {k l : ℕ} {x y : List ℕ} (rs : List Rec) → z ≡ cond u (filled k rs) x → u ≡ v → k ≡ l → x ≡ y → z ≡ cond v (filled l rs) y
field_eq rs q e d f = rw (← e, ← d, ← f) q

pub dropped : (u v : Bool) (k l : ℕ) (rs : List Rec) → u ≡ v → k ≡ l → drop (fits_if u k rs) rs ≡ drop (fits_if v l rs) rs
dropped u v k l rs e d = rw (e, d)

pub join5_eq : (h s f c o s' f' c' o' : List ℕ) → s ≡ s' → f ≡ f' → c ≡ c' → o ≡ o' → join5 h s f c o ≡ join5 h s' f' c' o'
join5_eq h s f c o s' f' c' o' a b d e = rw (a, b, d, e)
