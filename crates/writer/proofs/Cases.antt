-- GivesByCase and WritesByCase, proved. Assumes nothing.
use mathlib.Core.Path.{◌≡◌, sym, ap, ◌∙◌}
use mathlib.Core.List.{List}
use Prim.Native.Nat.{ℕ}
use Rattle.options.specs.Writing as options
use Rattle.theorems.proofs.View.{clash}
use Rattle.refusal.specs.Refused.{number_of}
use Rattle.plan.specs.Answer.{Plan, Refused, single_of}
use Rattle.writer.specs.Writer.{Gives, GivesByCase, WritesByCase}

written : (s : List ℕ) (w : options.Wrote) (m after : List ℕ) (plan single : ℕ) → Gives s w m (Plan plan single) after → (w ≡ options.wrote plan after) × (single ≡ single_of s)
written s (options.wrote p b) m after plan single g =
    let e : Plan plan single ≡ Plan p (single_of s) = g.answer in
    let q : plan ≡ p = cc in
    let z : single ≡ single_of s = cc in
    (ap (λ (x : ℕ). options.wrote x b) (sym q) ∙ ap (options.wrote plan) (sym g.buffer), z)
written s (options.declined n p) m after plan single g = clash (let e : Plan plan single ≡ Refused n p = g.answer in cc)

refused : (s : List ℕ) (w : options.Wrote) (m after : List ℕ) (n p : ℕ) → Gives s w m (Refused n p) after → (w ≡ options.declined n p) × (after ≡ m)
refused s (options.wrote q b) m after n p g = clash (let e : Refused n p ≡ Plan q (single_of s) = g.answer in cc)
refused s (options.declined k q) m after n p g =
    let e : Refused n p ≡ Refused k q = g.answer in
    let i : n ≡ k = cc in
    let j : p ≡ q = cc in
    (rw (i, j), g.buffer)

pub gives_by_case : GivesByCase
gives_by_case s w m after = (
  (λ plan single. (
    written s w m after plan single,
    λ h. record { answer = rw (h.0, h.1); buffer = rw h.0 },
  )),
  (λ n p. (
    refused s w m after n p,
    λ h. record { answer = rw h.0; buffer = rw h.0 h.1 },
  )),
)

pub writes_by_case : WritesByCase
writes_by_case s w m after = (λ c. (gives_by_case s w m after).0 c.plan c.single, λ r. (gives_by_case s w m after).1 (number_of r.rule) r.place)
