-- `dhcpopt_index::value_fault` meets its contract: one of the rule's two parts. Assumes nothing.
use mathlib.Core.Path.{sym, ◌∙◌}
use native.Mathlib.Omega.{arith}
use Rattle.dhcpopt_index.proofs.Used.{short_list}
use Rattle.dhcpopt_index.proofs.value_fault.Goals as goal

pub returns-then-is_list : goal.returns-then-is_list
returns-then-is_list c = let l = sym c.is_list.ensures ∙ c.if-is_list.true in
    rw (short_list c.args.row (omega arith) c.requires.0 c.requires.1 l, l) at c.short_list_fault.ensures

pub returns : goal.returns
returns c = rw (sym c.is_list.ensures ∙ c.if-is_list.false) at c.number_fault.ensures
