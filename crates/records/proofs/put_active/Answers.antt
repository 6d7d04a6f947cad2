-- `records::put_active` meets its contract. Assumes nothing.
use native.Mathlib.Omega.{arith}
use mathlib.Core.Path.{◌≡◌}
use mathlib.Core.Bool.{true}
use Prim.Native.Nat.{◌+◌}
use lib.ListN.{length}
use Rattle.options.specs.Message.{options, file, sname, bytes}
use Rattle.options.specs.Reading.{file_in, sname_in}
use Rattle.message.proofs.Laws.{take_rest}
use Rattle.buffer.specs.Written.{Written}
use Rattle.buffer.proofs.Writing.{written_more}
use Rattle.records.specs.FieldRecords.{field_records, active_records}
use Rattle.records.proofs.Laying.{parts_length}
use Rattle.records.proofs.put_active.Goals as goal

pub put_field-a-requires : goal.put_field-a-requires
put_field-a-requires c = rw (take_rest c.args.m.now 240) (c.requires.1.of_options, omega (arith, c.requires.2, (let room₁ : length (active_records c.args.v c.args.m.now) ≡ length (field_records true (bytes options c.args.m.now)) + length (field_records (file_in c.args.v) (bytes file c.args.m.now)) + length (field_records (sname_in c.args.v) (bytes sname c.args.m.now)) = parts_length (field_records true (bytes options c.args.m.now)) (field_records (file_in c.args.v) (bytes file c.args.m.now)) (field_records (sname_in c.args.v) (bytes sname c.args.m.now)) in room₁)))

pub put_if-b-requires : goal.put_if-b-requires
put_if-b-requires c = rw c.file_on.ensures (c.requires.1.of_file, omega (arith, c.requires.2, (let room₁ : length (active_records c.args.v c.args.m.now) ≡ length (field_records true (bytes options c.args.m.now)) + length (field_records (file_in c.args.v) (bytes file c.args.m.now)) + length (field_records (sname_in c.args.v) (bytes sname c.args.m.now)) = parts_length (field_records true (bytes options c.args.m.now)) (field_records (file_in c.args.v) (bytes file c.args.m.now)) (field_records (sname_in c.args.v) (bytes sname c.args.m.now)) in room₁), ((let first₁ : Written c.args.out.now 0 (field_records true (bytes options c.args.m.now)) c.put_field-a.result c.put_field-a.new.out = rw (take_rest c.args.m.now 240) at c.put_field-a.ensures in first₁)).next, c.put_field-a.auto.out))

pub put_if-requires : goal.put_if-requires
put_if-requires c = rw c.sname_on.ensures
    (c.requires.1.of_sname, omega (arith, c.requires.2, (let room₁ : length (active_records c.args.v c.args.m.now) ≡ length (field_records true (bytes options c.args.m.now)) + length (field_records (file_in c.args.v) (bytes file c.args.m.now)) + length (field_records (sname_in c.args.v) (bytes sname c.args.m.now)) = parts_length (field_records true (bytes options c.args.m.now)) (field_records (file_in c.args.v) (bytes file c.args.m.now)) (field_records (sname_in c.args.v) (bytes sname c.args.m.now)) in room₁), ((let first₁ : Written c.args.out.now 0 (field_records true (bytes options c.args.m.now)) c.put_field-a.result c.put_field-a.new.out = rw (take_rest c.args.m.now 240) at c.put_field-a.ensures in first₁)).next, c.put_field-a.auto.out, ((let second₁ : Written c.put_field-a.new.out c.put_field-a.result (field_records (file_in c.args.v) (bytes file c.args.m.now)) c.put_if-b.result c.put_if-b.new.out = rw c.file_on.ensures at c.put_if-b.ensures in second₁)).next, c.put_if-b.auto.out))

pub returns : goal.returns
returns c = written_more ((let first₁ : Written c.args.out.now 0 (field_records true (bytes options c.args.m.now)) c.put_field-a.result c.put_field-a.new.out = rw (take_rest c.args.m.now 240) at c.put_field-a.ensures in first₁)) (written_more ((let second₁ : Written c.put_field-a.new.out c.put_field-a.result (field_records (file_in c.args.v) (bytes file c.args.m.now)) c.put_if-b.result c.put_if-b.new.out = rw c.file_on.ensures at c.put_if-b.ensures in second₁)) (rw c.sname_on.ensures at c.put_if.ensures))
