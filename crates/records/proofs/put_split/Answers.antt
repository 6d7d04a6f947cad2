-- `records::put_split` meets its contract. Assumes nothing.
use native.Mathlib.Omega.{arith}
use mathlib.Core.Path.{◌≡◌, ap}
use mathlib.Core.List.{List}
use lib.ListN.{length}
use Rattle.options.specs.Message.{Rec}
use Rattle.options.specs.Answers.{record_bytes}
use Rattle.message.specs.Active.{active_options}
use Rattle.buffer.proofs.Writing.{written_as}
use Rattle.records.specs.JoinedRecords.{sheet_from, only52, sheet_by}
use Rattle.records.proofs.Table.{table_of, table_tells, sheet_by_table}
use Rattle.records.proofs.put_split.Goals as goal

pub put_codes-requires : goal.put_codes-requires
put_codes-requires c = let os = active_options c.args.over c.args.m.now in
    rw c.count_pieces.ensures (c.requires.0, table_tells os c.requires.1, omega (arith, c.requires.2, (let sized₁ : let os = active_options c.args.over c.args.m.now in length (record_bytes (sheet_by (table_of os) os)) ≡ length (record_bytes (sheet_from only52 os)) = ap (λ (l : List Rec). length (record_bytes l)) (sheet_by_table (active_options c.args.over c.args.m.now) c.requires.1) in sized₁)), omega (arith, c.requires.3, (let sized₁ : let os = active_options c.args.over c.args.m.now in length (record_bytes (sheet_by (table_of os) os)) ≡ length (record_bytes (sheet_from only52 os)) = ap (λ (l : List Rec). length (record_bytes l)) (sheet_by_table (active_options c.args.over c.args.m.now) c.requires.1) in sized₁)))

pub returns : goal.returns
returns c = let os = active_options c.args.over c.args.m.now in
    written_as (ap record_bytes (sheet_by_table os c.requires.1)) (rw c.count_pieces.ensures at c.put_codes.ensures)
