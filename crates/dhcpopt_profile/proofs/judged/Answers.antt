-- `dhcpopt_profile::judged` meets its contract. Assumes nothing.
use mathlib.Core.Path.{ap, sym, ◌∙◌}
use Prim.Native.Nat.{ℕ}
use Rattle.refusal.specs.declared.Refusal.{Refusal}
use Rattle.std.specs.Prelude.{Ok, Err}
use Rattle.dhcpopt_profile.specs.Judging.{bit_if}
use Rattle.dhcpopt_profile.specs.Plain.{plain_by}
use Rattle.dhcpopt_profile.proofs.Looks.{no_reply, rules_judged}
use Rattle.dhcpopt_profile.proofs.Entries.{all_bits}
use Rattle.dhcpopt_profile.proofs.judged.Goals as goal

pub returns-then-not-reply : goal.returns-then-not-reply
returns-then-not-reply c = λ b. ap (λ (r : Refusal). plain_by (Err r)) c.at.ensures ∙ no_reply _ _ b (sym c.reply.ensures ∙ c.if-not-reply.true)

pub returns : goal.returns
returns c = let m = c.args.m.now in
    let idx = c.args.index.now in
    λ b. ap (λ (n : ℕ). plain_by (Ok n))
    (all_bits m idx b _ _ _ c.unformed-formed.ensures.0 c.held-there.ensures.0 (c.bit-order.ensures.0 ∙ ap (λ x. bit_if x 128) c.out_of_order.ensures))
    ∙ rules_judged m idx b (sym c.reply.ensures ∙ c.if-not-reply.false)
