-- `captures::head` meets its contract. Assumes nothing.
use Rattle.std.proofs.Common.{◌≡◌, ℕ, ◌⊎◌, inl, inr, sym, ap, ◌∙◌, arith}
use Rattle.captures.specs.declared.Stage.{Stage}
use Rattle.captures.specs.declared.Stage.TheVariants.{Tag, Message}
use Rattle.captures.specs.Standing.{told_by, told_at}
use Rattle.captures.proofs.Stages.{takes_tag, takes_other, takes_high, takes_stopped, takes_low, takes_empty}
use Rattle.captures.proofs.head.Goals as goal

stage_told : {s t : Stage} → s ≡ t → (told_at s).stage ≡ (told_at t).stage
stage_told e = ap (λ (s : Stage). (told_at s).stage) e

high_told : {s t : Stage} → s ≡ t → (told_at s).high ≡ (told_at t).high
high_told e = ap (λ (s : Stage). (told_at s).high) e

-- neither after a tag nor after a high length byte
at_start : {s : Stage} → (s ≡ Tag) ⊎ ((n k : ℕ) × (s ≡ Message n k)) → (told_at s).stage ≡ 0
at_start (inl e) = stage_told e
at_start (inr (n, k, e)) = stage_told e

pub returns-then-size-eq0-clause-takes : goal.returns-then-size-eq0-clause-takes
returns-then-size-eq0-clause-takes c = λ l. takes_empty c.args.b (told_by c.args.p) _ _ _ _ (stage_told c.in-Low.is) (omega (arith, c.if-size-eq0.true, c.be16-size.ensures, high_told c.in-Low.is)) _ _ _ _ c.close.ensures.closes

pub returns-then-is_taken-clause-takes : goal.returns-then-is_taken-clause-takes
returns-then-is_taken-clause-takes c = λ l. rw c.at.ensures (takes_tag c.args.b (told_by c.args.p) _ _ _ _ (at_start c.in-Tag.is) l (sym c.is_taken.ensures ∙ c.if-is_taken.true))

pub returns-else-is_taken-clause-takes : goal.returns-else-is_taken-clause-takes
returns-else-is_taken-clause-takes c = λ l. rw c.at-else-is_taken.ensures (takes_other c.args.b (told_by c.args.p) _ _ _ _ (at_start c.in-Tag.is) l (sym c.is_taken.ensures ∙ c.if-is_taken.false))

pub returns-in-High-clause-takes : goal.returns-in-High-clause-takes
returns-in-High-clause-takes c = λ l. rw c.at-in-High.ensures (takes_high c.args.b (told_by c.args.p) _ _ _ _ (stage_told c.in-High.is))

pub returns-else-size-eq0-clause-takes : goal.returns-else-size-eq0-clause-takes
returns-else-size-eq0-clause-takes c = λ l. rw c.at-in-Low.ensures (takes_low c.args.b (told_by c.args.p) _ _ _ _ (stage_told c.in-Low.is) _ (omega (arith, c.be16-size.ensures, high_told c.in-Low.is)) c.if-size-eq0.false)

pub returns-in-Stopped-clause-takes : goal.returns-in-Stopped-clause-takes
returns-in-Stopped-clause-takes c = λ l. let e = stage_told c.in-Stopped.is in
    takes_stopped c.args.b (told_by c.args.p) _ _ _ _ (λ z. omega (arith, z, e)) (λ z. omega (arith, z, e)) (λ z. omega (arith, z, e))
