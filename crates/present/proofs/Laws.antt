-- What a scan tells, with the set that it leaves, is the answer with the codes present. Assumes nothing.
use mathlib.Core.Path.{◌≡◌, refl, sym, ap}
use mathlib.Core.Bool.{true}
use mathlib.Core.List.{List}
use Prim.Native.Nat.{ℕ}
use lib.Count.{ones}
use Rattle.std.specs.Prelude.{Ok, Err}
use Rattle.options.specs.Reading.{Reading, accepted, refused, read_message}
use Rattle.options.specs.CodeSet.{count_of, lowest_of}
use Rattle.options.specs.Answers.{present_in, present}
use Rattle.refusal.specs.declared.Refusal.{Refusal}
use Rattle.message.specs.declared.Scanned.{Scanned}
use Rattle.message.specs.Scan.{Scan, scan_in, survey_of, told_of, told_by, Surveys}
use Rattle.message.proofs.Callers.{codes_refused_by}
use Rattle.present.specs.Marked.{Shown, codes_of, shown_by}

-- what is told by a scan, with the set
abbrev shown_with : Scan → List ℕ → Shown
shown_with r w = record { words = w; count = count_of w; lowest = lowest_of w 0; number = r.number; place = r.place }

shown_in : (x : Reading) → shown_with (scan_in true 52 x) (present_in x).words ≡ codes_of (present_in x)
unfolding count_of lowest_of ones
shown_in (refused n p) = refl
shown_in (accepted os) = refl

codes_are : (m : List ℕ) (r : Scan) (w : List ℕ) → Surveys m r w → shown_with r w ≡ codes_of (present m)
unfolding survey_of present
codes_are m r w s = rw (s.is, s.codes) (shown_in (read_message m))

-- the answer, from what the code tells
pub codes_shown : (m : List ℕ) (r : Scanned) (w : List ℕ) → Surveys m (told_by (Ok r)) w → shown_by (Ok (record { words = w; count = count_of w; lowest = lowest_of w 0 })) ≡ codes_of (present m)
codes_shown m r w s = codes_are m (told_of r) w s

pub refusal_shown : (m : List ℕ) (r : Refusal) (w : List ℕ) → Surveys m (told_by (Err r)) w → shown_by (Err r) ≡ codes_of (present m)
unfolding present
refusal_shown m r w s = ap (λ (x : Reading). codes_of (present_in x)) (sym (codes_refused_by m r w s))
