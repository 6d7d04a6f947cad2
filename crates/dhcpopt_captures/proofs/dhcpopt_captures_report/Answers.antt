-- `dhcpopt_captures::dhcpopt_captures_report` meets its contract. Assumes nothing.
use Rattle.std.proofs.Common.{subst}
use Rattle.captures.specs.declared.Progress.{Progress}
use Rattle.report.specs.Printed.{Reports}
use Rattle.dhcpopt_captures.proofs.dhcpopt_captures_report.Goals as goal

pub returns-clause-text : goal.returns-clause-text
returns-clause-text c = subst (λ (y : Progress). Reports y c.args.verdicts.now c.args.held.now c.args.bytes.now c.args.out.now c.report.result c.report.new.out) c.into.ensures c.report.ensures.text
