-- The words that mark a list of codes. Assumes nothing.
use mathlib.Core.Path.{◌≡◌, refl, ap, ◌∙◌}
use mathlib.Core.Bool.{false}
use mathlib.Core.List.{List, [], ◌∷◌}
use Prim.Native.Nat.{ℕ, zero, suc, ◌/◌, ◌%◌, ◌^◌, ◌<◌}
use native.Mathlib.Omega.{arith}
use native.Mathlib.Decide.{ℕ_discrete}
use lib.Dec.{eqb}
use lib.ListN.{length, get_or, length-set}
use lib.Count.{ones}
use native.Mathlib.Nat.{zero-div}
use borrow.Author.Tests.{eq-eqb, ne_eqb}
use Rattle.options.specs.CodeSet.{marked, with_mark, count_of}
use Rattle.options.specs.Reading.{either, among}
use Rattle.codeset.specs.Codes.{Marks}
use Rattle.codeset.proofs.Words.{mark_same, mark_other, mark_ones}

pub marks_add : (w cs : List ℕ) (c : ℕ) → c < 256 → among c cs ≡ false → Marks w cs → Marks (with_mark w c) (c ∷ cs)
marks_add w cs c h e m =
    let k : length w ≡ 4 = m.four in
    let l : c / 64 < length w = omega arith in
    record {
      four = length-set w (c / 64) _ ∙ k;
      bits = λ d hd. by l d hd (ℕ_discrete d c);
      count = mark_ones w c l (m.bits c h ∙ e) ∙ ap suc m.count;
    }
  where
    by : c / 64 < length w → (d : ℕ) → d < 256 → Dec (d ≡ c) → marked (with_mark w c) d ≡ either (eqb d c) (among d cs)
    by l d hd (yes p) = rw (p, eq-eqb c c refl) (mark_same w c l)
    by l d hd (no p) = mark_other w c d l p ∙ rw (ne_eqb d c p) (m.bits d hd)

-- no code is marked in four zeros
abbrev zeros : List ℕ
zeros = 0 ∷ 0 ∷ 0 ∷ 0 ∷ []

zeros_at : (j : ℕ) → get_or zeros j 0 ≡ 0
zeros_at zero = refl
zeros_at (suc zero) = refl
zeros_at (suc (suc zero)) = refl
zeros_at (suc (suc (suc zero))) = refl
zeros_at (suc (suc (suc (suc j)))) = refl

pub marks_none : Marks (0 ∷ 0 ∷ 0 ∷ 0 ∷ []) []
unfolding count_of ones
marks_none = record { four = refl; bits = λ c h. rw (zeros_at (c / 64), zero-div (2 ^ (c % 64))); count = refl }
