-- What a write leaves of a lent buffer, and of the buffer that it is a part of. Assumes nothing.
use mathlib.Core.Path.{◌≡◌, sym, ap, ◌∙◌}
use mathlib.Core.List.{List, ◌++◌}
use Prim.Native.Nat.{ℕ, ◌+◌, ◌-◌, ◌<◌, ◌≤◌}
use native.Mathlib.Omega.{arith}
use native.Mathlib.Decide.{dec_lt}
use lib.ListN.{length, drop}
use borrow.Author.Tests.{lt-ltb, le-ltb}
use borrow.Rule.Slice.PartMut.{put_mid, mid_of}
use Rattle.buffer.specs.Copy.{copied}
use Rattle.buffer.specs.Written.{laid}
use Rattle.buffer.proofs.Copied.{copied_fits, copied_not}
use Rattle.buffer.proofs.Writing.{laid_copied}
use Rattle.record_writer.specs.Room.{record_of, with_record}

pub too_long : (room body : List ℕ) (tag : ℕ) → 65535 < length body → room ≡ with_record room tag body
unfolding with_record
too_long room body tag h = rw (lt-ltb 65535 (length body) h)

module _ (room body : List ℕ) (tag : ℕ) (l : length body ≤ 65535) where
  pub too_large : length room < length body + 3 → room ≡ with_record room tag body
  unfolding with_record
  too_large h = rw (le-ltb 65535 (length body) l, lt-ltb (length room) (length body + 3) h)

  pub with_record_lem : length body + 3 ≤ length room → with_record room tag body ≡ record_of tag body ++ drop (length body + 3) room
  unfolding with_record
  with_record_lem h = rw (le-ltb 65535 (length body) l, le-ltb (length room) (length body + 3) h)

  pub record_copied : copied room (record_of tag body) ≡ with_record room tag body
  record_copied = go (dec_lt (length room) (length body + 3))
    where
      n : length (record_of tag body) ≡ length body + 3
      n = omega arith

      go : Dec (length room < length body + 3) → copied room (record_of tag body) ≡ with_record room tag body
      go (yes h) = copied_not room (record_of tag body) (omega (arith, n)) ∙ too_large h
      go (no h) = copied_fits room (record_of tag body) (omega (arith, n)) ∙ ap (λ (i : ℕ). record_of tag body ++ drop i room) n ∙ sym (with_record_lem (omega arith))

-- ---- FOR CALLERS: a record laid over a buffer, by lending just the part that it takes

pub laid_record : (b : List ℕ) (at e tag : ℕ) (body ys : List ℕ) → length body ≤ 65535 → e ≡ at + 3 + length body → e ≤ length b
    → ys ≡ with_record (mid_of at (e - at) b) tag body → put_mid at (e - at) b ys ≡ laid b at (record_of tag body)
laid_record b at e tag body ys l q h y =
    laid_copied b at e ys (record_of tag body) (omega arith) h (y ∙ sym (record_copied (mid_of at (e - at) b) body tag l))
