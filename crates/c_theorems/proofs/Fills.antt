-- Demand 1 of the calls that fill a lent buffer. Assumes nothing.
use mathlib.Core.Path.{◌≡◌, refl, sym, ap, ap₂, ◌∙◌, subst}
use mathlib.Core.Bool.{Bool, true, false, cond}
use mathlib.Core.List.{List, ◌++◌}
use mathlib.Core.Logic.{◌↔◌}
use Prim.Native.Nat.{ℕ}
use lib.Dec.{ltb}
use lib.ListN.{length, drop}
use borrow.Author.Tests.{ltb-true}
use Rattle.options.specs.Reading.{Reading, accepted, refused, read_message}
use Rattle.options.specs.Answers.{Given, given, declined, Filled, filled_with, record_bytes, sheet_records, records_in, records, copy}
use Rattle.options.specs.GroupedFile.{FirstOf}
use Rattle.options.specs.Grouped.{choice, move, go_back}
use Rattle.options.specs.GroupedClaims.{ChoiceRow, MoveRow, BackRow}
use Rattle.options.specs.Vendor.{vendor_records_value, vendor_write_value}
use Rattle.options.specs.Index.{build}
use Rattle.theorems.proofs.View.{clash}
use Rattle.theorems.proofs.Reading.{refused_by_the_table}
use Rattle.theorems.proofs.Sheets as sheets
use Rattle.theorems.proofs.Copies.{copy_refused_by_the_table}
use Rattle.theorems.proofs.Indexes.{build_is_right}
use Rattle.vendor_theorems.proofs.Items.{vendor_reader_is_correct}
use Rattle.vendor_theorems.proofs.Writing.{vendor_writer_is_correct}
use Rattle.grouped_theorems.proofs.Calls.{choice_is_correct, back_is_correct}
use Rattle.grouped_theorems.proofs.Moving.{move_is_correct}
use Rattle.filled.specs.Plain.{plain_filled, Kept}
use Rattle.dhcpopt_reader.proofs.Kept.{records_kept, copy_kept, vendor_kept}
use Rattle.dhcpopt_index.proofs.Kept.{build_kept}
use Rattle.dhcpopt_writer.proofs.Laws as writes
use Rattle.dhcpopt_writer.proofs.Grouped.{choice_kept, move_kept, back_kept}
use Rattle.c_theorems.specs.Refusals.{FillRefused, RefusedOnlyBy, RecordsRow, of_message, too_small, RecordsRefusedForC, CopyRefusedForC, VendorRecordsRefusedForC, VendorWriteRefusedForC, BuildRefusedForC, ChooseRefusedForC, GroupRefusedForC, UngroupRefusedForC}

-- ---- Any such call

module _ (R : ℕ → ℕ → Type 0) (old : List ℕ) (w : Filled) (rows : (n p : ℕ) → (w ≡ record { answer = declined n p; buffer = old }) ↔ R n p) (kept : Kept w old) where
  refusal_is : (n p : ℕ) → w.answer ≡ declined n p → w ≡ record { answer = declined n p; buffer = old }
  refusal_is n p e = ap₂ (λ (g : Given) (b : List ℕ). record { answer = g; buffer = b }) e (kept n p e).1

  said_by : (n p : ℕ) → R n p → w.answer ≡ declined n p
  said_by n p x = ap (λ (y : Filled). y.answer) ((rows n p).1 x)

  by_answer : (g : Given) → w.answer ≡ g → FillRefused R old (plain_filled g) w.buffer
  by_answer (given k) e =
      record {
        by_rows = λ n p. ((λ s. absurd (s.0 (sym s.1))), (λ x. let z : given k ≡ declined n p = sym e ∙ said_by n p x in clash (cc)));
        as_it_was = λ h. absurd (h refl);
        else_no_place = λ h. refl;
      }
  by_answer (declined k q) e =
      record {
        by_rows = λ n p. (
          (λ s. (rows n p).0 (refusal_is n p (e ∙ ap₂ declined s.1 s.2))),
          (λ x. let z : declined k q ≡ declined n p = sym e ∙ said_by n p x in let i : k ≡ n = cc in let j : q ≡ p = cc in ((kept n p (said_by n p x)).0, i, j)),
        );
        as_it_was = λ h. (refl, (kept k q e).1);
        else_no_place = λ h. absurd ((kept k q e).0 h);
      }

  pub refused_only_by : RefusedOnlyBy R old w
  refused_only_by r after c = rw (c.0, c.1) (by_answer w.answer refl)

-- ---- Each of them

small : (xs old : List ℕ) (n p : ℕ) (t : Bool) → ltb (length old) (length xs) ≡ t
    → ◌≡◌ {A = Filled} (cond t (record { answer = declined 11 (length old); buffer = old }) (record { answer = given (length xs); buffer = xs ++ drop (length xs) old })) (record { answer = declined n p; buffer = old })
    → (t ≡ true) × (n ≡ 11) × (p ≡ length old)
small xs old n p true e z = let y : declined 11 (length old) ≡ declined n p = ap (λ (x : Filled). x.answer) z in (refl, cc, cc)
small xs old n p false e z = let y : given (length xs) ≡ declined n p = ap (λ (x : Filled). x.answer) z in clash (cc)

records_row : (m old : List ℕ) (n p : ℕ) (x : Reading) → read_message m ≡ x → records_in x old ≡ record { answer = declined n p; buffer = old } → RecordsRow m old n p
records_row m old n p (refused k q) e z =
    let y : declined k q ≡ declined n p = ap (λ (x : Filled). x.answer) z in
    let i : k ≡ n = cc in
    let j : q ≡ p = cc in
    of_message ((refused_by_the_table m n p).0 (e ∙ ap₂ refused i j))
records_row m old n p (accepted os) e z =
    let xs : List ℕ = record_bytes (sheet_records os) in
    let s = small xs old n p (ltb (length old) (length xs)) refl z in
    rw (s.1, s.2) (too_small (record { options = os; reads = e }) (ltb-true (length old) (length xs) s.0))

row_records : (m old : List ℕ) (n p : ℕ) → RecordsRow m old n p → records m old ≡ record { answer = declined n p; buffer = old }
unfolding records
row_records m old n p (of_message f) = sheets.records_refused m n p old f
row_records m old n p (too_small a l) =
    let xs : List ℕ = record_bytes (sheet_records a.options) in
    ap (λ (x : Reading). records_in x old) a.reads ∙ (sheets.lent_buffer xs old).too_small l

pub records_refused : RecordsRefusedForC
unfolding records
records_refused m old = refused_only_by (RecordsRow m old) old (records m old) (λ n p. (records_row m old n p (read_message m) refl, row_records m old n p)) (records_kept m old)

pub copy_refused : CopyRefusedForC
copy_refused m c old h = refused_only_by _ old (copy m c old) (λ n p. copy_refused_by_the_table m c old n p h) (copy_kept m c old)

pub vendor_records_refused : VendorRecordsRefusedForC
vendor_records_refused f old = refused_only_by _ old (vendor_records_value f old) (λ n p. vendor_reader_is_correct f old (record { answer = declined n p; buffer = old })) (vendor_kept f old)

pub vendor_write_refused : VendorWriteRefusedForC
vendor_write_refused s out all = refused_only_by _ out (vendor_write_value s out) (λ n p. vendor_writer_is_correct s out (record { answer = declined n p; buffer = out }) all) (writes.vendor_kept s out)

pub build_refused : BuildRefusedForC
build_refused m old = refused_only_by _ old (build m old) (λ n p. build_is_right m old (record { answer = declined n p; buffer = old })) (build_kept m old)

pub choose_refused : ChooseRefusedForC
choose_refused f class old all =
    refused_only_by (FirstOf (ChoiceRow f class old)) old (choice f class old)
    (λ n p. let right = choice_is_correct f class old (record { answer = declined n p; buffer = old }) all in ((λ e. (right.0 e).0), (λ x. right.1 (x, refl)))) (choice_kept f class old all)

pub group_refused : GroupRefusedForC
group_refused s old all =
    refused_only_by (FirstOf (MoveRow s old)) old (move s old)
    (λ n p. let right = move_is_correct s old (record { answer = declined n p; buffer = old }) all in ((λ e. (right.0 e).0), (λ x. right.1 (x, refl)))) (move_kept s old all)

pub ungroup_refused : UngroupRefusedForC
ungroup_refused f old all =
    refused_only_by (FirstOf (BackRow f old)) old (go_back f old)
    (λ n p. let right = back_is_correct f old (record { answer = declined n p; buffer = old }) all in ((λ e. (right.0 e).0), (λ x. right.1 (x, refl)))) (back_kept f old all)
