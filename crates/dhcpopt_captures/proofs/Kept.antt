-- Nothing is lost of where reading is, as C holds it. Assumes nothing.
use mathlib.Core.Path.{◌≡◌, refl, sym, ap, ◌∙◌, subst}
use mathlib.Core.List.{List}
use mathlib.Core.Bool.{cond}
use Prim.Native.Nat.{ℕ}
use lib.Dec.{eqb}
use Rattle.std.specs.Prelude.{Option, Some, None}
use Rattle.tally.specs.declared.Lease.{Lease}
use Rattle.captures.specs.declared.Progress.{Progress}
use Rattle.captures.specs.Standing.{Feeds}
use Rattle.dhcpopt_captures.specs.declared.PlainProgress.{PlainProgress}
use Rattle.dhcpopt_captures.specs.Plain.{progress_of_value, leases_of, smallest_of, largest_of, plain_of, FeedsPlain}

abbrev with_lease : Progress → Option Lease → Progress
with_lease p l = record { began = p.began; stage = p.stage; high = p.high; size = p.size; read = p.read; messages = p.messages; lease = l }

pub plain_kept : (p : Progress) → progress_of_value (plain_of p) ≡ p
plain_kept p = ap (with_lease p) (by p.lease)
  where
    by : (l : Option Lease) → cond (eqb (leases_of l) 0) None (Some (record { smallest = smallest_of l; largest = largest_of l })) ≡ l
    by None = refl
    by (Some l) = refl

-- a call of feed
pub feeds_plain : (part : List ℕ) (p r : PlainProgress) (x q : Progress) (m v h b m' v' h' b' : List ℕ) → x ≡ progress_of_value p → r ≡ plain_of q → Feeds part x m v h b q m' v' h' b' → FeedsPlain part p m v h b r m' v' h' b'
feeds_plain part p r x q m v h b m' v' h' b' d e t =
    let k : progress_of_value r ≡ q = ap progress_of_value e ∙ plain_kept q in
    record {
      feeds = subst (λ (y : Progress). Feeds part (progress_of_value p) m v h b y m' v' h' b') (sym k) (subst (λ (y : Progress). Feeds part y m v h b q m' v' h' b') d t);
      plain = e ∙ ap plain_of (sym k);
    }
