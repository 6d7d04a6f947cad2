-- One message noted, from what a walk tells of it. Assumes nothing.
use Rattle.std.proofs.Common.{◌≡◌, ℕ, zero, suc, List, sym, refl, ap, ◌∙◌, subst, arith, ne_eqb}
use Rattle.std.proofs.Common.{Option, None}
use Rattle.options.specs.Message.{Opt}
use Rattle.options.specs.Reading.{Reading, accepted, refused, read_message}
use Rattle.options.specs.KindClaims.{AllBytes}
use Rattle.options.specs.Captures.{lease_time}
use Rattle.message.specs.declared.Scanned.{Scanned}
use Rattle.message.specs.Active.{active_options}
use Rattle.message.specs.Scan.{Scan, refused_at, told_of, scan_of}
use Rattle.message.proofs.Callers.{ScanAccepted, scan_refused, scan_accepted}
use Rattle.refusal.specs.declared.Rule.{Rule}
use Rattle.refusal.specs.declared.Rule.TheVariants.{MessageTooShort, MessageTooLong, BadCookie, OptionTruncated, NoEnd, BadOverload, Duplicate, BadLength, BadValue, BadCode, NoRoom, RecordTruncated, RecordTooLong, RouterBeforeMask, BadPermission, SheetTooLong, ItemTruncated, BadIndexCount, BadIndexEntry, BadGroup, TooDeep, NoWayBack, RelayNotLast, BadCapture, NoReply, BadRoute}
use Rattle.refusal.specs.Refused.{number_of}
use Rattle.records.specs.FieldRecords.{ActiveEnds}
use Rattle.records.proofs.AcceptedEnds.{active_ends}
use Rattle.tally.specs.Noted.{time_in_value, Raises, only_at, CountsOptions, verdict_count, Notes}
use Rattle.tally.proofs.Laws.{raises_none, raises_same}

-- the number of a verdict is raised, and no other
only_refused : (n p i : ℕ) → (n ≡ 0 → ⊥) → only_at n 1 i ≡ verdict_count (refused n p) i
only_refused n p zero h = rw (ne_eqb 0 n (λ e. h (sym e)))
only_refused n p (suc i) h = refl

only_accepted : (os : List Opt) (i : ℕ) → only_at 0 1 i ≡ verdict_count (accepted os) i
only_accepted os zero = refl
only_accepted os (suc i) = rw (ne_eqb (suc i) 0 (λ e. omega arith))

not_zero : (k : Rule) → number_of k ≡ 0 → ⊥
not_zero MessageTooShort z = omega arith
not_zero MessageTooLong z = omega arith
not_zero BadCookie z = omega arith
not_zero OptionTruncated z = omega arith
not_zero NoEnd z = omega arith
not_zero BadOverload z = omega arith
not_zero Duplicate z = omega arith
not_zero BadLength z = omega arith
not_zero BadValue z = omega arith
not_zero BadCode z = omega arith
not_zero NoRoom z = omega arith
not_zero RecordTruncated z = omega arith
not_zero RecordTooLong z = omega arith
not_zero RouterBeforeMask z = omega arith
not_zero BadPermission z = omega arith
not_zero SheetTooLong z = omega arith
not_zero ItemTruncated z = omega arith
not_zero BadIndexCount z = omega arith
not_zero BadIndexEntry z = omega arith
not_zero BadGroup z = omega arith
not_zero TooDeep z = omega arith
not_zero NoWayBack z = omega arith
not_zero RelayNotLast z = omega arith
not_zero BadCapture z = omega arith
not_zero NoReply z = omega arith
not_zero BadRoute z = omega arith

-- a message that is refused by a rule
pub notes_refused : (n p : ℕ) (v h b v' : List ℕ) → (n ≡ 0 → ⊥) → Raises (only_at n 1) v v' → Notes (refused n p) v h b None v' h b
notes_refused n p v h b v' z u =
    record {
      verdicts_raised = raises_same _ _ v v' (λ i. only_refused n p i z) u;
      held_raised = raises_none _ h (λ i. refl);
      bytes_raised = raises_none _ b (λ i. refl);
      time_is = refl;
    }

module _ (m : List ℕ) (v h b v' : List ℕ) where
  pub noted_refused : (k : Rule) (p : ℕ) → refused_at (number_of k) p ≡ scan_of 51 m → Raises (only_at (number_of k) 1) v v' → Notes (read_message m) v h b None v' h b
  noted_refused k p s u =
      let z : number_of k ≡ 0 → ⊥ = not_zero k in
      subst (λ (x : Reading). Notes x v h b None v' h b) (sym (scan_refused 51 m (refused_at (number_of k) p) s z)) (notes_refused (number_of k) p v h b v' z u)

  pub noted_accepted : (r : Scanned) → told_of r ≡ scan_of 51 m → AllBytes m → Raises (only_at 0 1) v v' → (h' b' : List ℕ) → CountsOptions (active_options r.over m) h h' b b' → (t : Option ℕ)
      → t ≡ time_in_value (lease_time (read_message m)) → Notes (read_message m) v h b t v' h' b'
  noted_accepted r s all u h' b' c t e =
      let os : List Opt = (scan_accepted 51 m (told_of r) all s refl).0 in
      let told : ScanAccepted 51 m (told_of r) os = (scan_accepted 51 m (told_of r) all s refl).1 in
      let counts : CountsOptions os h h' b b' = subst (λ (x : List Opt). CountsOptions x h h' b b') (sym told.options_are) c in
      subst (λ (x : Reading). Notes x v h b t v' h' b') (sym told.reads)
      (record {
        verdicts_raised = raises_same _ _ v v' (λ i. only_accepted os i) u;
        held_raised = counts.held_raised;
        bytes_raised = counts.bytes_raised;
        time_is = e ∙ ap (λ (x : Reading). time_in_value (lease_time x)) told.reads;
      })

-- every active field of an accepted message has its END
pub fields_end : (m : List ℕ) (r : Scanned) → told_of r ≡ scan_of 51 m → AllBytes m → ActiveEnds r.over m
fields_end m r s all =
    let x = scan_accepted 51 m (told_of r) all s refl in
    subst (λ (v : ℕ). ActiveEnds v m) (sym (ap (λ (w : Scan). w.over) x.1.is)) (active_ends m x.0 all x.1.reads)
