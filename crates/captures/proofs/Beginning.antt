-- "begun empty": zeros stand for the tally of no message. Assumes nothing.
use Rattle.std.proofs.Common.{◌≡◌, ℕ, zero, suc, ◌^◌, ◌<◌, get_or, replicate, refl, arith}
use Rattle.options.specs.Captures.{table, total, lease_span, tally_of}
use Rattle.captures.specs.Standing.{before_record, BegunEmpty}

zero_small : (n i : ℕ) → get_or (replicate {A = ℕ} n 0) i 0 < 2 ^ 64
zero_small n i = omega (arith, at_zero n i)
  where
    at_zero : (n i : ℕ) → ◌≡◌ {A = ℕ} (get_or (replicate n 0) i 0) 0
    at_zero zero i = refl
    at_zero (suc n) zero = refl
    at_zero (suc n) (suc i) = at_zero n i

pub begun_empty : BegunEmpty
unfolding tally_of table total lease_span
begun_empty message room =
    record {
      holds = record { began_is = refl; messages_is = refl; lease_is = refl; verdicts_are = refl; held_are = refl; bytes_are = refl };
      stage_is = before_record refl refl refl refl;
      room = room;
      lent = record { eight = refl; held_all = refl; bytes_all = refl };
      small = record { verdicts_small = λ i. zero_small 8 i; held_small = λ i. zero_small 256 i; bytes_small = λ i. zero_small 256 i };
    }
