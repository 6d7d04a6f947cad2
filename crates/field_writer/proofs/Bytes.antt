-- What a write leaves of the room. Assumes nothing.
use mathlib.Core.Path.{◌≡◌, refl, sym, ap, ◌∙◌}
use mathlib.Core.List.{List, [], ◌∷◌, ◌++◌}
use Prim.Native.Nat.{ℕ, suc, ◌+◌, ◌<◌, ◌≤◌}
use native.Mathlib.Omega.{arith}
use native.Mathlib.Decide.{dec_lt}
use lib.ListN.{length, drop, replicate}
use borrow.Author.Tests.{lt-ltb, le-ltb}
use Rattle.buffer.specs.Copy.{copied}
use Rattle.buffer.proofs.Copied.{copied_fits, copied_not}
use Rattle.field_writer.specs.Room.{with_option, end_and_zeros}

-- ---- An option at the start of the room

pub too_long : (room body : List ℕ) (code : ℕ) → 255 < length body → room ≡ with_option room code body
unfolding with_option
too_long room body code h = rw (lt-ltb 255 (length body) h)

module _ (room body : List ℕ) (code : ℕ) (l : length body ≤ 255) where
  pub too_large : length room < length body + 2 → room ≡ with_option room code body
  unfolding with_option
  too_large h = rw (le-ltb 255 (length body) l, lt-ltb (length room) (length body + 2) h)

  pub with_option_lem : length body + 2 ≤ length room → with_option room code body ≡ (code ∷ length body ∷ body) ++ drop (length body + 2) room
  unfolding with_option
  with_option_lem h = rw (le-ltb 255 (length body) l, le-ltb (length room) (length body + 2) h)

  pub option_copied : copied room (code ∷ length body ∷ body) ≡ with_option room code body
  option_copied = go (dec_lt (length room) (length body + 2))
    where
      n : length (code ∷ length body ∷ body) ≡ length body + 2
      n = omega arith

      go : Dec (length room < length body + 2) → copied room (code ∷ length body ∷ body) ≡ with_option room code body
      go (yes h) = copied_not room (code ∷ length body ∷ body) (omega (arith, n)) ∙ too_large h
      go (no h) = copied_fits room (code ∷ length body ∷ body) (omega (arith, n)) ∙ ap (λ (i : ℕ). (code ∷ length body ∷ body) ++ drop i room) n ∙ sym (with_option_lem (omega arith))

-- ---- END and zeros

pub some_end : (n : ℕ) (zeros : List ℕ) → zeros ≡ replicate n 0 → 255 ∷ zeros ≡ end_and_zeros (suc n)
unfolding end_and_zeros
some_end n zeros e = ap (λ (l : List ℕ). 255 ∷ l) e

pub no_end : (room : List ℕ) → length room ≡ 0 → room ≡ end_and_zeros (length room)
unfolding end_and_zeros
no_end [] h = refl
no_end (x ∷ room) h = absurd (omega arith)
