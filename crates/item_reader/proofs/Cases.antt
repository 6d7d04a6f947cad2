-- What the walk over sub-options gives, case by case, and that nothing is lost. Assumes nothing.
use mathlib.Core.Path.{◌≡◌, refl, sym, ap, ◌∙◌}
use mathlib.Core.Bool.{true, false}
use Rattle.std.specs.Prelude.{Option, Some, None, Result, Ok, Err, IfErr}
use Rattle.options.specs.Relay as asked
use Rattle.theorems.proofs.View.{clash}
use Rattle.refusal.specs.declared.Refusal.{Refusal}
use Rattle.refusal.specs.declared.Rule.TheVariants.{BadLength}
use Rattle.refusal.specs.Refused.{number_of}
use Rattle.refusal.proofs.Rules.{same_refusal}
use Rattle.item_reader.specs.declared.Id.{Id}
use Rattle.item_reader.specs.declared.Read.{Read}
use Rattle.item_reader.specs.Walked.{id_of, Walked, walked_by, WalkedByCase}

-- the code's id, and what it reads, had back
abbrev id_back : asked.Id → Option Id
id_back asked.absent = None
id_back (asked.named s n) = Some (record { start = s; length = n })

back : (o : Option Id) → id_back (id_of o) ≡ o
back None = refl
back (Some i) = refl

same_id : (o p : Option Id) → id_of o ≡ id_of p → o ≡ p
same_id o p e = sym (back o) ∙ ap id_back e ∙ back p

abbrev read_as : Walked → Read
read_as x = record { size = x.size; circuit = id_back x.circuit; remote = id_back x.remote }

read_back : (r : Read) → read_as (walked_by (Ok r)) ≡ r
read_back r = rw (back r.circuit, back r.remote)

same : (a b : Result Read Refusal) → IfErr a (λ e. e.rule ≡ BadLength) → IfErr b (λ e. e.rule ≡ BadLength) → walked_by a ≡ walked_by b → a ≡ b
same (Ok r) (Ok s) h g e = ap Ok (sym (read_back r) ∙ ap read_as e ∙ read_back s)
same (Ok r) (Err s) h g e = clash (let p : false ≡ true = ap (λ (x : Walked). x.past) e in cc)
same (Err r) (Ok s) h g e = clash (let p : true ≡ false = ap (λ (x : Walked). x.past) e in cc)
same (Err r) (Err s) h g e = ap Err (same_refusal r s (ap number_of (h ∙ sym g)) (ap (λ (x : Walked). x.place) e))

pub walked_by_case : WalkedByCase
walked_by_case = (refl, λ i. refl, λ r. refl, λ e. refl, same)
