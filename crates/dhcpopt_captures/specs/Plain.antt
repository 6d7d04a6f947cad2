-- WHERE READING IS, AS C HOLDS IT: its struct, member by member. What each member says of the file is told in Told. Assumes nothing.
use Rattle.std.specs.Prelude.{◌≡◌, cond, List, ℕ, eqb, replicate, Option, Some, None}
use Rattle.tally.specs.declared.Lease.{Lease}
use Rattle.captures.specs.declared.Progress.{Progress}
use Rattle.captures.specs.Standing.{Feeds}
use Rattle.dhcpopt_captures.specs.declared.PlainProgress.{PlainProgress}

-- as any struct is taken: any number but 0 in `leases` says that there is a lease time
abbrev pub progress_of_value : PlainProgress → Progress
progress_of_value p =
    record {
      began = p.began;
      stage = p.stage;
      high = p.high;
      size = p.size;
      read = p.read;
      messages = p.messages;
      lease = cond (eqb p.leases 0) None (Some (record { smallest = p.smallest; largest = p.largest }));
    }

-- and as it is given: `leases` is 0 or 1, and with 0 so are both times
abbrev pub leases_of : Option Lease → ℕ
leases_of None = 0
leases_of (Some l) = 1

abbrev pub smallest_of : Option Lease → ℕ
smallest_of None = 0
smallest_of (Some l) = l.smallest

abbrev pub largest_of : Option Lease → ℕ
largest_of None = 0
largest_of (Some l) = l.largest

abbrev pub plain_of : Progress → PlainProgress
plain_of p =
    record {
      began = p.began;
      messages = p.messages;
      size = p.size;
      read = p.read;
      stage = p.stage;
      leases = leases_of p.lease;
      smallest = smallest_of p.lease;
      largest = largest_of p.lease;
      high = p.high;
    }

-- [H5] "begun empty": the lent numbers become zeros, and every member is 0
pub record BeginsWith (p : PlainProgress) (verdicts held bytes : List ℕ) : Type 0 where
  pub verdicts_are : verdicts ≡ replicate 8 0
  pub held_are : held ≡ replicate 256 0
  pub bytes_are : bytes ≡ replicate 256 0
  pub zeros : p ≡ record { began = 0; messages = 0; size = 0; read = 0; stage = 0; leases = 0; smallest = 0; largest = 0; high = 0 }

-- [H5] the bytes `part` are taken, whatever struct and numbers were lent
pub record FeedsPlain (part : List ℕ) (p : PlainProgress) (message verdicts held bytes : List ℕ) (r : PlainProgress) (message' verdicts' held' bytes' : List ℕ) : Type 0 where
  pub feeds : Feeds part (progress_of_value p) message verdicts held bytes (progress_of_value r) message' verdicts' held' bytes'
  pub plain : r ≡ plain_of (progress_of_value r)
