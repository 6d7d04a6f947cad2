use mathlib.Core.Path.{◌≡◌, sym, ap, ◌∙◌}
use Prim.Native.Nat.{ℕ, ◌+◌}
use native.Mathlib.Omega.{arith}
use lib.ListN.{get_or}
use Rattle.dhcpopt_profile.specs.Judging.{formed_by, size_fits_value}
use Rattle.dhcpopt_profile.proofs.Entries.{One, when_in_one, formed_absent, formed_one}
use Rattle.dhcpopt_profile.proofs.well_formed.Goals as goal

-- src/lib.rt:69:9
pub returns-then-entry-eq0 : goal.returns-then-entry-eq0
returns-then-entry-eq0 c = formed_absent c.args.m.now c.args.index.now c.requires.0 c.args.code c.args.list c.requires.1 (sym ((let read₁ : get_or c.args.index.now c.wide.result 0 ≡ get_or c.args.index.now c.args.code 0 = ap (λ (k : ℕ). get_or c.args.index.now k 0) c.wide.ensures.0 in read₁)) ∙ c.if-entry-eq0.true)

-- src/lib.rt:72:9
pub returns-then-entry : goal.returns-then-entry
returns-then-entry c = c.formed.ensures ∙ ap formed_by c.look.ensures

-- src/lib.rt:74:23
pub overflow_cast-entry : goal.overflow_cast-entry
overflow_cast-entry c = record { fits = omega (arith, (c.shared_slice_known-3-1.given c.wide.result).fits) }

-- src/lib.rt:74:23
pub overflow_add-entry : goal.overflow_add-entry
overflow_add-entry c = omega (arith, (c.shared_slice_known-3-1.given c.wide.result).fits)

-- src/lib.rt:74:21
pub bounds-m-entry : goal.bounds-m-entry
bounds-m-entry c = omega (arith, ((let one₁ : One c.args.m.now c.requires.0.is_accepted.options c.args.code (get_or c.args.index.now c.args.code 0) = let y = c.requires.1 in when_in_one c.args.m.now c.args.index.now c.requires.0 c.args.code y.from_1 y.to_254 y.when_known (λ z. c.if-entry-eq0.false ((let read₁ : get_or c.args.index.now c.wide.result 0 ≡ get_or c.args.index.now c.args.code 0 = ap (λ (k : ℕ). get_or c.args.index.now k 0) c.wide.ensures.0 in read₁) ∙ z)) (λ z. c.if-entry.false ((let read₁ : get_or c.args.index.now c.wide.result 0 ≡ get_or c.args.index.now c.args.code 0 = ap (λ (k : ℕ). get_or c.args.index.now k 0) c.wide.ensures.0 in read₁) ∙ z)) in one₁)).within, (let read₁ : get_or c.args.index.now c.wide.result 0 ≡ get_or c.args.index.now c.args.code 0 = ap (λ (k : ℕ). get_or c.args.index.now k 0) c.wide.ensures.0 in read₁))

-- src/lib.rt:63:1
pub returns : goal.returns
returns c = c.size_fits.ensures ∙ ap (λ (k : ℕ). size_fits_value c.args.list (get_or c.args.m.now (k + 1) 0)) ((let read₁ : get_or c.args.index.now c.wide.result 0 ≡ get_or c.args.index.now c.args.code 0 = ap (λ (k : ℕ). get_or c.args.index.now k 0) c.wide.ensures.0 in read₁))
    ∙ formed_one c.args.m.now c.args.index.now c.requires.0 c.args.code c.args.list c.requires.1 ((let one₁ : One c.args.m.now c.requires.0.is_accepted.options c.args.code (get_or c.args.index.now c.args.code 0) = let y = c.requires.1 in when_in_one c.args.m.now c.args.index.now c.requires.0 c.args.code y.from_1 y.to_254 y.when_known (λ z. c.if-entry-eq0.false ((let read₁ : get_or c.args.index.now c.wide.result 0 ≡ get_or c.args.index.now c.args.code 0 = ap (λ (k : ℕ). get_or c.args.index.now k 0) c.wide.ensures.0 in read₁) ∙ z)) (λ z. c.if-entry.false ((let read₁ : get_or c.args.index.now c.wide.result 0 ≡ get_or c.args.index.now c.args.code 0 = ap (λ (k : ℕ). get_or c.args.index.now k 0) c.wide.ensures.0 in read₁) ∙ z)) in one₁))
