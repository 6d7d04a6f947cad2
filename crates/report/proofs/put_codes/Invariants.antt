-- `report::put_codes` meets its contract. Assumes nothing.
use Rattle.std.proofs.Common.{drop}
use Rattle.text.proofs.Putting.{Left}
use Rattle.options.specs.Captures.{code_lines}
use Rattle.report.proofs.put_codes.Given as goal

abbrev pub invariant-loop-code : goal.invariant-loop-code
invariant-loop-code l = Left l.initial.out l.at (code_lines 0 l.held l.bytes) l.out l.o (code_lines l.code (drop l.code l.held) (drop l.code l.bytes))
