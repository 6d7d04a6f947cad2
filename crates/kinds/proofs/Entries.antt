-- A `match` on a byte: a test, computed over all bytes, holds in the last arm. Assumes nothing.
use mathlib.Core.Bool.{Bool, true, ◌&&◌, ◌||◌}
use mathlib.Core.Logic.{inl, inr}
use Prim.Native.Nat.{ℕ, zero, suc, ◌<◌}
use native.Mathlib.Omega.{arith}
use borrow.Author.Count.{below_more}
use lib.Dec.{T}
use mir.Facts.{and_yes, or_yes}
use mir.Syntax.{Body, skip, seq, assign, block, loop, cond, switch, exit, return, call, unreachable, call_v, lend_static, Arms, arm, default, no_default}
use mir.Val.{has_key}
use types.Run.{OneOf, hit}

-- the arms of the first `match` of a body that has no block or branch before it; none for any other body
abbrev or_else : Arms → Arms → Arms
or_else (arm ks b arms) rest = arm ks b arms
or_else (default b) rest = default b
or_else no_default rest = rest

abbrev pub arms_of : Body → Arms
arms_of (switch x arms) = arms
arms_of (seq a b) = or_else (arms_of a) (arms_of b)
arms_of skip = no_default
arms_of (assign p v) = no_default
arms_of (block a) = no_default
arms_of (loop a) = no_default
arms_of (cond x a b) = no_default
arms_of (exit n) = no_default
arms_of return = no_default
arms_of (call f xs p) = no_default
arms_of unreachable = no_default
arms_of (call_v a b c d) = no_default
arms_of (lend_static a b c) = no_default

-- ---- The last arm

-- c is a key of an arm, or passes the test
abbrev pub settled : (ℕ → Bool) → Arms → ℕ → Bool
settled test (arm ks b arms) c = has_key ks c || settled test arms c
settled test (default b) c = test c
settled test no_default c = test c

-- ---- A test of every number below n

abbrev pub all_below : (ℕ → Bool) → ℕ → Bool
all_below test zero = true
all_below test (suc n) = test n && all_below test n

pub all_below_lem : (test : ℕ → Bool) (n : ℕ) → T (all_below test n) → (c : ℕ) → c < n → T (test c)
all_below_lem test zero t c h = absurd (omega arith)
all_below_lem test (suc n) t c h =
    let p : T (test n) × T (all_below test n) = and_yes (test n) (all_below test n) t in
    below_more (λ k. T (test k)) n (all_below_lem test n p.1) p.0 c (omega arith)

-- what the last arm knows: beside N, that c is no key of an arm
abbrev pub Unlisted : Type 0 → Arms → ℕ → Type 0
Unlisted N (arm ks b arms) c = Unlisted (N × (OneOf ks c → ⊥)) arms c
Unlisted N (default b) c = N
Unlisted N no_default c = N

beside : (N : Type 0) (arms : Arms) (c : ℕ) → Unlisted N arms c → N
beside N (arm ks b arms) c u = (beside (N × (OneOf ks c → ⊥)) arms c u).0
beside N (default b) c u = u
beside N no_default c u = u

without : (test : ℕ → Bool) (N : Type 0) (arms : Arms) (c : ℕ) → T (settled test arms c) → Unlisted N arms c → T (test c)
without test N (arm ks b arms) c t u =
    elim (or_yes (has_key ks c) (settled test arms c) t) [
      | inl h ↦ absurd ((beside (N × (OneOf ks c → ⊥)) arms c u).1 (hit ks c h))
      | inr s ↦ without test (N × (OneOf ks c → ⊥)) arms c s u
    ]
without test N (default b) c t u = t
without test N no_default c t u = t

pub unlisted : (test : ℕ → Bool) (arms : Arms) (c : ℕ) → T (all_below (settled test arms) 256) → c < 256 → Unlisted (Unit {0}) arms c → T (test c)
unlisted test arms c t h u = without test (Unit {0}) arms c (all_below_lem (settled test arms) 256 t c h) u
