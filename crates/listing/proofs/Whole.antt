-- The listing of a message, from what a scan tells of it. Assumes nothing.
use mathlib.Core.Path.{◌≡◌, sym, ap, ap₂, ◌∙◌}
use mathlib.Core.List.{List, ◌++◌}
use Prim.Native.Nat.{ℕ, ◌≤◌}
use lib.ListN.{length}
use Rattle.std.specs.Prelude.{Err}
use Rattle.options.specs.Message.{Opt}
use Rattle.options.specs.Reading.{Reading, accepted, refused, read_message}
use Rattle.options.specs.Answers.{accepted_line, refused_line, lines_of, listing_in, listing}
use Rattle.options.specs.KindClaims.{AllBytes}
use Rattle.refusal.specs.declared.Refusal.{Refusal}
use Rattle.refusal.specs.Refused.{number_of}
use Rattle.message.specs.Scan.{Scan, told_by, Surveys}
use Rattle.message.specs.Active.{active_options}
use Rattle.message.proofs.Callers.{SurveyAccepted, codes_refused_by, survey_accepted}
use Rattle.listing.proofs.Room.{accepted_short}

listing_is : (m : List ℕ) (w : Reading) → read_message m ≡ w → listing m ≡ listing_in w
unfolding listing
listing_is m w e = ap listing_in e

pub listing_refused : (m : List ℕ) (r : Refusal) (w : List ℕ) → Surveys m (told_by (Err r)) w → refused_line (number_of r.rule) r.place ≡ listing m
listing_refused m r w h = sym (listing_is m (refused (number_of r.rule) r.place) (codes_refused_by m r w h))

-- an accepted message's, from the number of its options and the value of its option 52
module _ (m : List ℕ) (r : Scan) (w : List ℕ) (b : AllBytes m) (h : Surveys m r w) (e : r.number ≡ 0) where
  abbrev os : List Opt
  os = (survey_accepted m r b h.is e).0

  abbrev told : SurveyAccepted m r os
  told = (survey_accepted m r b h.is e).1

  counted : r.count ≡ length os
  counted = ap (λ (x : Scan). x.count) told.is

  pub listing_accepted : accepted_line r.count ++ lines_of (active_options r.over m) ≡ listing m
  listing_accepted =
      ap₂ (λ (n : ℕ) (l : List Opt). accepted_line n ++ lines_of l) counted (sym told.options_are) ∙ sym (listing_is m (accepted os) told.reads)

  pub has_room : length (accepted_line r.count ++ lines_of (active_options r.over m)) ≤ 16384
  has_room = rw (sym told.options_are) (accepted_short m (record { options = os; reads = told.reads }) r.count b)
