-- Demand 2 of the calls that read. Assumes nothing.
use mathlib.Core.Path.{◌≡◌, refl, sym, ap, ◌∙◌}
use mathlib.Core.Bool.{Bool}
use mathlib.Core.List.{List, [], ◌∷◌}
use Prim.Native.Nat.{ℕ, zero, suc}
use native.Mathlib.Omega.{arith}
use lib.ListN.{length}
use Rattle.options.specs.Message.{Opt}
use Rattle.options.specs.Kinds.{kinds, broken, number, part}
use Rattle.options.specs.Answers.{Answer, Absent, Refused, Found, unknown, known, lookup, Extent, extent, data_of, AddressStep, Given, present, Present, verdict_of}
use Rattle.options.specs.AnswerClaims.{Steps, no_more, one_more}
use Rattle.options.specs.Index.{lookup_by}
use Rattle.theorems.proofs.Lookup.{lookup_is_correct, absent_iff_not_held}
use Rattle.theorems.proofs.Indexes.{answers_as_plain}
use Rattle.theorems.proofs.Parts.{data_is_the_options, no_data_else}
use Rattle.theorems.proofs.Copies.{copy_is_the_options}
use Rattle.theorems.proofs.CodesPresent.{present_right}
use Rattle.theorems.proofs.Addresses.{steps_give_the_addresses}
use Rattle.filled.specs.Plain.{plain_filled}
use Rattle.present.specs.Marked.{number_of, place_of}
use Rattle.dhcpopt_reader.specs.Plain.{plain_answer, plain_address}
use Rattle.dhcpopt_reader.proofs.Kept.{answer_by_case}
use Rattle.c_theorems.specs.Refusals as said
use Rattle.c_theorems.specs.Answers.{LookupForC, AbsentForC, IndexLookupForC, DataForC, CopyForC, PresentForC, StepsForC, AddressesForC}
use Rattle.c_theorems.specs.Answers as forC

pub lookup_for_c : LookupForC
lookup_for_c k0 k1 k2 k3 m c r h =
    let set : ℕ → Bool = said.known k0 k1 k2 k3 in
    let a : Answer = lookup kinds set m c in (
      (λ e. record { answer = a; is_right = (lookup_is_correct kinds set m c a h).0 refl; is_told = (answer_by_case a r).0 e }),
      (λ x. (answer_by_case x.answer r).1 x.is_told ∙ ap plain_answer (sym ((lookup_is_correct kinds set m c x.answer h).1 x.is_right))),
    )

pub index_lookup_for_c : IndexLookupForC
index_lookup_for_c k0 k1 k2 k3 m idx c r h b =
    let set : ℕ → Bool = said.known k0 k1 k2 k3 in
    rw (answers_as_plain kinds set m idx c h b) (lookup_for_c k0 k1 k2 k3 m c r h)

-- status 0
is_absent : (a : Answer) → (plain_answer a).status ≡ 0 → a ≡ Absent
is_absent Absent s = refl
is_absent (Refused k q) s = absurd (omega arith)
is_absent (Found g (unknown k)) s = absurd (omega arith)
is_absent (Found g (known (broken k))) s = absurd (omega arith)
is_absent (Found g (known (number k z))) s = absurd (omega arith)
is_absent (Found g (known (part k j))) s = absurd (omega arith)

pub absent_told : (a : Answer) → ((plain_answer a).status ≡ 0 → a ≡ Absent) × (a ≡ Absent → (plain_answer a).status ≡ 0)
absent_told a = (is_absent a, ap (λ (x : Answer). (plain_answer x).status))

pub absent_for_c : AbsentForC
absent_for_c k0 k1 k2 k3 m c r acc l u e =
    let set : ℕ → Bool = said.known k0 k1 k2 k3 in
    let held = absent_iff_not_held kinds set m c acc l u in
    rw e ((λ s. held.0 (is_absent (lookup kinds set m c) s)), (λ x. (absent_told (lookup kinds set m c)).1 (held.1 x)))

size_of : (s n : ℕ) → (extent s n).size ≡ n
size_of s zero = refl
size_of s (suc n) = refl

pub data_for_c : DataForC
data_for_c m c r e =
    rw e
    (record {
      own_bytes = λ o a x. let d = data_is_the_options m c o a x in (ap (λ (y : Extent). y.size) d.extent_is ∙ size_of _ (length o.item.body), d.own_bytes);
      else_none = λ h. rw (no_data_else m c h) (refl, refl);
    })

pub copy_for_c : CopyForC
copy_for_c m c d old r after a j l e =
    let x = (copy_is_the_options m c d old a j).fits l in
    rw (e.0, e.1) (ap plain_filled x.0, x.1, x.2)

pub present_for_c : PresentForC
present_for_c m r all a e =
    let x = present_right m all a in
    rw e
    (record {
      not_refused = (ap number_of x.is_passed, ap place_of x.is_passed);
      four_words = x.four_words;
      marks = x.marks;
      counts = x.counts_codes;
      lowest_least = x.lowest_least;
      lowest_held = x.lowest_held;
    })

steps : {d : List ℕ} {at : ℕ} {xs : List ℕ} → Steps d at xs → StepsForC d at xs
steps {at = at} (no_more e) = forC.no_more (ap (plain_address at) e)
steps {at = at} (one_more e s) = forC.one_more (ap (plain_address at) e) (steps s)

pub addresses_for_c : AddressesForC
addresses_for_c d = steps (steps_give_the_addresses d)
