use mathlib.Core.Path.{ap₂, ◌∙◌}
use Rattle.dhcpopt_profile.specs.Judging.{before_by}
use Rattle.dhcpopt_profile.proofs.Entries.{order_no_router, order_no_mask, order_places}
use Rattle.dhcpopt_profile.proofs.out_of_order.Goals as goal

-- src/lib.rt:152:9
pub returns-then-router-eq0 : goal.returns-then-router-eq0
returns-then-router-eq0 c = order_no_router c.args.m.now c.args.index.now c.requires c.if-router-eq0.true

-- src/lib.rt:155:9
pub returns-then-mask-eq0 : goal.returns-then-mask-eq0
returns-then-mask-eq0 c = order_no_mask c.args.m.now c.args.index.now c.requires c.if-mask-eq0.true

-- src/lib.rt:158:9
pub returns-then-router : goal.returns-then-router
returns-then-router c = c.before-then-router.ensures ∙ ap₂ before_by c.look.ensures c.look-then-router.ensures

-- src/lib.rt:161:9
pub returns-then-mask : goal.returns-then-mask
returns-then-mask c = c.before-then-mask.ensures ∙ ap₂ before_by c.look-then-mask.ensures c.look-then-mask-2.ensures

-- src/lib.rt:145:1
pub returns : goal.returns
returns c = c.read_before.ensures ∙ order_places c.args.m.now c.args.index.now c.requires c.if-router-eq0.false c.if-mask-eq0.false c.if-router.false c.if-mask.false
