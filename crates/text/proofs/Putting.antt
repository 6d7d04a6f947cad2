-- FOR CALLERS: texts put one after another; where there is room for all of it, all of a text is put. Assumes nothing.
use mathlib.Core.Path.{◌≡◌, refl, sym, ap, ◌∙◌}
use mathlib.Core.List.{List, [], ◌∷◌, ◌++◌}
use Prim.Native.Nat.{ℕ, zero, suc, ◌+◌, ◌-◌, ◌≤◌, ◌<◌}
use native.Mathlib.Omega.{arith}
use native.Mathlib.Decide.{dec_lt}
use lib.ListN.{length, take, drop, length-take}
use lib.Seq.{take_all, take-nil}
use Rattle.buffer.specs.Written.{Written, laid}
use Rattle.buffer.proofs.Writing.{laid_none, laid_length, written_none, written_as, written_more, written_front}
use Rattle.text.specs.Text.{fitting, Puts}

take_append : (n : ℕ) (xs ys : List ℕ) → take n (xs ++ ys) ≡ take n xs ++ take (n - length xs) ys
take_append n [] ys = let z : n ≡ n - 0 = omega arith in rw (take-nil {A = ℕ} n) (ap (λ (k : ℕ). take k ys) z)
take_append zero (x ∷ xs) ys = let z : 0 ≡ 0 - suc (length xs) = omega arith in ap (λ (k : ℕ). take k ys) z
take_append (suc n) (x ∷ xs) ys =
    let z : n - length xs ≡ suc n - suc (length xs) = omega arith in
    ap (λ (l : List ℕ). x ∷ l) (take_append n xs ys ∙ ap (λ (k : ℕ). take n xs ++ take k ys) z)

-- nothing is put where there is no room, or no text
pub puts_nowhere : (b : List ℕ) (at : ℕ) (xs : List ℕ) → length b ≤ at → Puts b at xs at b
puts_nowhere b at xs h = let z : length b - at ≡ 0 = omega arith in record { written = rw z (written_none b at) }

pub puts_none : (b : List ℕ) (at : ℕ) → Puts b at [] at b
puts_none b at = record { written = rw (take-nil {A = ℕ} (length b - at)) (written_none b at) }

module _ {b : List ℕ} {at : ℕ} {xs : List ℕ} {r : ℕ} {a : List ℕ} where
  -- where there is room, all of it is put
  pub puts_all : at + length xs ≤ length b → Written b at xs r a → Puts b at xs r a
  puts_all h w = record { written = rw (take_all (length b - at) xs (omega arith)) w }

  pub puts_as : {ys : List ℕ} → xs ≡ ys → Puts b at xs r a → Puts b at ys r a
  puts_as e p = rw (← e) p

  same_length : Puts b at xs r a → length a ≡ length b
  same_length p = ap length p.written.buffer ∙ go (dec_lt at (length b))
    where
      go : Dec (at < length b) → length (laid b at (fitting b at xs)) ≡ length b
      go (yes h) = laid_length b at (fitting b at xs) (omega (arith, length-take (length b - at) xs))
      go (no h) = let z : length b - at ≡ 0 = omega arith in rw z (ap length (laid_none b at))

  -- one after another
  pub puts_more : {ys : List ℕ} {s : ℕ} {c : List ℕ} → Puts b at xs r a → Puts a r ys s c → Puts b at (xs ++ ys) s c
  puts_more {ys} p q =
      let k : length a - r ≡ length b - at - length xs = omega (arith, same_length p, p.written.next, length-take (length b - at) xs) in
      record {
        written = written_as (ap (λ (j : ℕ). fitting b at xs ++ take j ys) k ∙ sym (take_append (length b - at) xs ys)) (written_more p.written q.written);
      }

-- at the front of a buffer that has room for it
pub puts_front : {b xs a : List ℕ} {r : ℕ} → length xs ≤ length b → Puts b 0 xs r a → (r ≡ length xs) × (a ≡ xs ++ drop (length xs) b)
puts_front {b} {xs} h p = written_front (written_as (take_all (length b - 0) xs (omega arith)) p.written)

-- ---- a text put part by part, in a loop

-- Of the text xs, which goes into b from `at` on, `left` is still to be put into a, from o on.
pub record Left (b : List ℕ) (at : ℕ) (xs a : List ℕ) (o : ℕ) (left : List ℕ) : Type 0 where
  pub same : length a ≡ length b
  pub whole : (r : ℕ) (c : List ℕ) → Puts a o left r c → Puts b at xs r c

pub left_all : (b : List ℕ) (at : ℕ) (xs : List ℕ) → Left b at xs b at xs
left_all b at xs = record { same = refl; whole = λ r c p. p }

module _ {b : List ℕ} {at : ℕ} {xs a : List ℕ} {o : ℕ} {left : List ℕ} (l : Left b at xs a o left) where
  pub left_more : (ys rest : List ℕ) {k : ℕ} {d : List ℕ} → left ≡ ys ++ rest → Puts a o ys k d → Left b at xs d k rest
  left_more ys rest e p = record { same = same_length p ∙ l.same; whole = λ r c q. l.whole r c (puts_as (sym e) (puts_more p q)) }

  pub left_none : left ≡ [] → Puts b at xs o a
  left_none e = l.whole o a (puts_as (sym e) (puts_none a o))
