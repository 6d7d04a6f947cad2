-- One filling of the reading buffer after the other. Assumes nothing.
use Rattle.std.proofs.Common.{◌≡◌, ℕ, ◌+◌, ◌%◌, ◌^◌, ◌≤◌, List, [], ◌∷◌, ◌++◌, length, take, drop, replicate, sym, refl, ◌∙◌, subst, arith, length-append, length-take-le}
use Rattle.options.specs.KindClaims.{AllBytes}
use Rattle.options.specs.Captures.{begun, fed, report, report_so_far}
use Rattle.theorems.proofs.CodesPresent.{all_take}
use Rattle.captures_theorems.proofs.Reports.{all_append}
use Rattle.captures.specs.declared.Progress.{Progress}
use Rattle.captures.specs.Standing.{Stands, Feeds, none_read}
use Rattle.captures.proofs.Beginning.{begun_empty}
use Rattle.captures.proofs.States.{standing_is_tidy, fed_more}
use Rattle.report.specs.Printed.{Reports}
use Rattle.report.proofs.Whole.{file_is_reported}
use Rattle.report_captures.specs.Filled.{Filled, Printed}

pub filled_first : (p : Progress) (total : ℕ) (m v h b : List ℕ) → p ≡ none_read → total ≡ 0 → Filled m v h b total p m v h b
unfolding fed
filled_first p total m v h b e z room vs hs bs =
    ([], tt, z, subst (λ (x : List ℕ). Stands begun p m x h b) (sym vs) (subst (λ (x : List ℕ). Stands begun p m (replicate 8 0) x b) (sym hs) (subst (λ (x : List ℕ). Stands begun p m (replicate 8 0) (replicate 256 0) x) (sym bs) (subst (λ (q : Progress). Stands begun q m (replicate 8 0) (replicate 256 0) (replicate 256 0)) (sym e) (begun_empty m room)))))

pub filled_more : (m₀ v₀ h₀ b₀ : List ℕ) {total : ℕ} {p : Progress} {m v h b : List ℕ} {q : Progress} {m' v' h' b' : List ℕ} → Filled m₀ v₀ h₀ b₀ total p m v h b → (part : List ℕ) (n : ℕ) → AllBytes part
    → n ≤ length part → (next : ℕ) → next ≡ (total + n) % 2 ^ 64 → Feeds (take n part) p m v h b q m' v' h' b' → Filled m₀ v₀ h₀ b₀ next q m' v' h' b'
filled_more m₀ v₀ h₀ b₀ x part n all l next e t room vs hs bs =
    let y = x room vs hs bs in
    let f : List ℕ = y.0 in
    let k : length (f ++ take n part) ≡ length f + n = length-append f (take n part) ∙ (let z = length-take-le n part l in omega arith) in
    (f ++ take n part, all_append f (take n part) y.1 (all_take n part all), omega (arith, y.2, e, k), fed_more f (take n part) y.1 (all_take n part all) y.3 t)

-- a filling of no bytes
pub filled_end : (m₀ v₀ h₀ b₀ : List ℕ) {total : ℕ} {p : Progress} {m v h b : List ℕ} → Filled m₀ v₀ h₀ b₀ total p m v h b → (n next : ℕ) → n ≡ 0 → next ≡ (total + n) % 2 ^ 64
    → Filled m₀ v₀ h₀ b₀ next p m v h b
filled_end m₀ v₀ h₀ b₀ x n next z e room vs hs bs =
    let y = x room vs hs bs in
    (y.0, y.1, omega (arith, y.2, e, z), y.3)

-- the report of what was taken
pub printed : (m₀ v₀ h₀ b₀ : List ℕ) {total : ℕ} {p : Progress} {m v h b : List ℕ} → 1472 ≤ length m₀ → v₀ ≡ replicate 8 0 → h₀ ≡ replicate 256 0 → b₀ ≡ replicate 256 0
    → Filled m₀ v₀ h₀ b₀ total p m v h b → (old : List ℕ) (r : ℕ) (after : List ℕ) → r ≤ length after → Reports p v h b old r after → Printed total old r after
printed m₀ v₀ h₀ b₀ {p = p} {m = m} {v = v} {h = h} {b = b} room vs hs bs x old r after l t =
    let y = x room vs hs bs in
    let f : List ℕ = y.0 in
    let z = t (fed begun f) m (subst (λ (q : Progress). Stands (fed begun f) q m v h b) (sym (standing_is_tidy (fed begun f) p m v h b y.3)) y.3) in
    let e : report_so_far (fed begun f) ≡ report f = file_is_reported f in
    (f, y.1, y.2, subst (λ (xs : List ℕ). r ≡ length xs) e z.0, subst (λ (xs : List ℕ). after ≡ xs ++ drop (length xs) old) e z.1, l)
