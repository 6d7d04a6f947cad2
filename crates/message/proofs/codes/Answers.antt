-- `message::codes` meets its contract. Assumes nothing.
use mathlib.Core.Path.{refl}
use Rattle.message.specs.Scan.{told_of}
use Rattle.message.proofs.Twin.{all_bytes}
use Rattle.message.proofs.Rules.{has_number}
use Rattle.message.proofs.Surveys.{codes_refused, codes_with_52, codes_without_52}
use Rattle.message.proofs.codes.Goals as goal

pub returns-then-s-ne0 : goal.returns-then-s-ne0
returns-then-s-ne0 c = codes_with_52 c.args.m.now (all_bytes c.args.m.now (λ i. (c.type_inv.m i).fits)) (told_of c.in-Ok.s) c.scan.new.set c.in-Ok.ensures refl c.if-s-ne0.true c.mark.new.w c.mark.ensures.0

pub returns-else-s-ne0 : goal.returns-else-s-ne0
returns-else-s-ne0 c = codes_without_52 c.args.m.now (all_bytes c.args.m.now (λ i. (c.type_inv.m i).fits)) (told_of c.in-Ok.s) c.scan.new.set c.in-Ok.ensures refl c.if-s-ne0.false

pub returns-in-Err : goal.returns-in-Err
returns-in-Err c = codes_refused c.args.m.now (all_bytes c.args.m.now (λ i. (c.type_inv.m i).fits)) _ c.scan.new.set c.in-Err.ensures (has_number c.in-Err.refusal.rule)
