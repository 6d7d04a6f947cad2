-- The call: a refusal, or what is judged through the index. Assumes nothing.
use mathlib.Core.Path.{◌≡◌, refl, sym, ap, ◌∙◌, subst}
use mathlib.Core.List.{List}
use Prim.Native.Nat.{ℕ}
use lib.ListN.{length}
use Rattle.options.specs.Refusals.{First}
use Rattle.options.specs.Answers.{given, declined, Filled}
use Rattle.options.specs.Index.{build}
use Rattle.options.specs.IndexClaims.{of_message, row_18, Builds, refused_head, refused_reader, builds, BuiltFrom}
use Rattle.options.specs.Profile as asked
use Rattle.theorems.proofs.View.{clash}
use Rattle.theorems.proofs.Reading.{refused_by_the_table}
use Rattle.theorems.proofs.Indexes.{build_is_right}
use Rattle.profile_theorems.proofs.Profiles.{is_profile}
use Rattle.std.specs.Prelude.{Result, Ok, Err}
use Rattle.refusal.specs.declared.Refusal.{Refusal}
use Rattle.refusal.specs.Refused.{number_of}
use Rattle.filled.specs.Fill.{Fills}
use Rattle.dhcpopt_profile.specs.Plain.{plain_profile, plain_by}
use Rattle.dhcpopt_profile.specs.Judging.{Judges}

-- what building came to
outcome : (m old : List ℕ) → Builds m old (build m old)
outcome m old = (build_is_right m old (build m old)).0 refl

refused_first : (m : List ℕ) (n p : ℕ) → First m n p → asked.profile m ≡ asked.declined n p
unfolding asked.profile
refused_first m n p f = ap asked.profile_in ((refused_by_the_table m n p).1 f)

same_declined : {a b c d : ℕ} → declined a b ≡ declined c d → (a ≡ c) × (b ≡ d)
same_declined e = (cc, cc)

refused_by : (m old : List ℕ) (n p : ℕ) {w : Filled} → length old ≡ 256 → Builds m old w → declined n p ≡ w.answer → asked.declined n p ≡ asked.profile m
refused_by m old n p l (refused_head (of_message {n = k} {p = q} h f)) e = let s = same_declined e in sym (refused_first m k q f ∙ ap (λ (x : ℕ). asked.declined x q) (sym s.0) ∙ ap (asked.declined n) (sym s.1))
refused_by m old n p l (refused_head (row_18 h f)) e = absurd (f l)
refused_by m old n p l (refused_reader {n = k} {p = q} h c f) e = let s = same_declined e in sym (refused_first m k q f ∙ ap (λ (x : ℕ). asked.declined x q) (sym s.0) ∙ ap (asked.declined n) (sym s.1))
refused_by m old n p l (builds c b) e = clash (cc)

built_by : (m old : List ℕ) (n : ℕ) {w : Filled} → Builds m old w → given n ≡ w.answer → BuiltFrom m w.buffer
built_by m old n (refused_head h) e = clash (cc)
built_by m old n (refused_reader h c f) e = clash (cc)
built_by m old n (builds c b) e = b

module _ (m old after : List ℕ) (l : length old ≡ 256) where
  pub profile_refused : (r : Refusal) → Fills (build m old) (Err r) after → plain_by (Err r) ≡ plain_profile (asked.profile m)
  profile_refused r f = ap plain_profile (refused_by m old (number_of r.rule) r.place l (outcome m old) f.answer)

  pub is_built : (n : ℕ) → Fills (build m old) (Ok n) after → BuiltFrom m after
  is_built n f = subst (BuiltFrom m) (sym f.buffer) (built_by m old n (outcome m old) f.answer)

  pub profile_built : BuiltFrom m after → (x : Result ℕ Refusal) → Judges m after x → plain_by x ≡ plain_profile (asked.profile m)
  profile_built b x j = j b ∙ ap plain_profile (sym (is_profile m b.is_accepted))
