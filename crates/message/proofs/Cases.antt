-- What the code tells of a message or of items, case by case, and that nothing is lost. Assumes nothing.
use mathlib.Core.Path.{◌≡◌, refl, sym, ap, ◌∙◌, subst}
use mathlib.Core.Bool.{true, false}
use mathlib.Core.List.{List}
use Prim.Native.Nat.{ℕ, ◌≤◌}
use native.Mathlib.Omega.{arith}
use Rattle.std.specs.Prelude.{Result, Ok, Err, IfErr}
use Rattle.options.specs.Reading.{read_message, refused}
use Rattle.theorems.proofs.Numbers.{reading_numbers}
use Rattle.theorems.proofs.View.{clash}
use Rattle.refusal.specs.declared.Refusal.{Refusal}
use Rattle.refusal.specs.declared.Rule.{Rule}
use Rattle.refusal.specs.declared.Rule.TheVariants.{MessageTooShort, MessageTooLong, BadCookie, OptionTruncated, NoEnd, BadOverload, Duplicate, BadLength, BadValue, BadCode, NoRoom, RecordTruncated, RecordTooLong, RouterBeforeMask, BadPermission, SheetTooLong, ItemTruncated, BadIndexCount, BadIndexEntry, BadGroup, TooDeep, NoWayBack, RelayNotLast, BadCapture, NoReply, BadRoute}
use Rattle.refusal.specs.Refused.{number_of}
use Rattle.refusal.proofs.Rules.{same_refusal}
use Rattle.message.specs.declared.Scanned.{Scanned}
use Rattle.message.specs.Scan.{Scan, told_by, scan_of, survey_of, OfMessage, too_short, too_long, wrong_cookie, runs_past, no_end, wrong_52, second_52, ToldByCase, RefusedByCase}
use Rattle.message.specs.Items.{Measured, measured_by, MeasuredByCase}
use Rattle.message.proofs.Rules.{has_number}
use Rattle.message.proofs.Callers.{find_refused, codes_refused_by}

abbrev scanned_as : Scan → Scanned
scanned_as x = record { start = x.start; last = x.last; whole = x.whole; used = x.used; count = x.count; over = x.over }

same_told : (a b : Result Scanned Refusal) → told_by a ≡ told_by b → a ≡ b
same_told (Ok w) (Ok v) e = ap (λ (x : Scan). Ok (scanned_as x)) e
same_told (Ok w) (Err s) e = absurd (has_number s.rule (sym (ap (λ (x : Scan). x.number) e)))
same_told (Err r) (Ok v) e = absurd (has_number r.rule (ap (λ (x : Scan). x.number) e))
same_told (Err r) (Err s) e = ap Err (same_refusal r s (ap (λ (x : Scan). x.number) e) (ap (λ (x : Scan). x.place) e))

pub told_by_case : ToldByCase
told_by_case = (λ w. refl, λ r. refl, same_told)

-- the rules up to 7
of_message : (k : Rule) → number_of k ≤ 7 → OfMessage k (number_of k)
of_message MessageTooShort h = too_short
of_message MessageTooLong h = too_long
of_message BadCookie h = wrong_cookie
of_message OptionTruncated h = runs_past
of_message NoEnd h = no_end
of_message BadOverload h = wrong_52
of_message Duplicate h = second_52
of_message BadLength h = absurd (omega arith)
of_message BadValue h = absurd (omega arith)
of_message BadCode h = absurd (omega arith)
of_message NoRoom h = absurd (omega arith)
of_message RecordTruncated h = absurd (omega arith)
of_message RecordTooLong h = absurd (omega arith)
of_message RouterBeforeMask h = absurd (omega arith)
of_message BadPermission h = absurd (omega arith)
of_message SheetTooLong h = absurd (omega arith)
of_message ItemTruncated h = absurd (omega arith)
of_message BadIndexCount h = absurd (omega arith)
of_message BadIndexEntry h = absurd (omega arith)
of_message BadGroup h = absurd (omega arith)
of_message TooDeep h = absurd (omega arith)
of_message NoWayBack h = absurd (omega arith)
of_message RelayNotLast h = absurd (omega arith)
of_message BadCapture h = absurd (omega arith)
of_message NoReply h = absurd (omega arith)
of_message BadRoute h = absurd (omega arith)

refused_as : (m : List ℕ) (r : Refusal) (x : Scan) → told_by (Err r) ≡ x → read_message m ≡ refused (number_of r.rule) r.place → OfMessage r.rule x.number
refused_as m r x e h =
    subst (OfMessage r.rule) (ap (λ (y : Scan). y.number) e) (of_message r.rule (reading_numbers m (number_of r.rule) r.place h).1)

pub refused_by_case : RefusedByCase
refused_by_case m r = (
  λ want e. refused_as m r (scan_of want m) e (find_refused want m r e),
  λ w s. refused_as m r (survey_of m) s.is (codes_refused_by m r w s),
)

same_measured : (a b : Result ℕ Refusal) → IfErr a (λ r. r.rule ≡ ItemTruncated) → IfErr b (λ r. r.rule ≡ ItemTruncated) → measured_by a ≡ measured_by b → a ≡ b
same_measured (Ok n) (Ok k) h g e = ap (λ (x : Measured). Ok x.size) e
same_measured (Ok n) (Err s) h g e = clash (let p : false ≡ true = ap (λ (x : Measured). x.past) e in cc)
same_measured (Err r) (Ok k) h g e = clash (let p : true ≡ false = ap (λ (x : Measured). x.past) e in cc)
same_measured (Err r) (Err s) h g e = ap Err (same_refusal r s (ap number_of (h ∙ sym g)) (ap (λ (x : Measured). x.place) e))

pub measured_by_case : MeasuredByCase
measured_by_case = (λ n. refl, λ r. refl, same_measured)
