-- THE WALK OF ONE FIELD over a set of watched codes: the twin of `judge` that the code follows. An option whose code is not watched is passed over; what an end
-- means is the caller's. No public contract rests on this: crate message ties it to `read_message`. Assumes nothing.
use Rattle.std.specs.Prelude.{◌≡◌, Bool, true, false, cond, List, ℕ, ◌+◌, ◌-◌, ◌≤◌, ◌<◌, eqb, ltb, length, get_or, drop, Result, Ok, Err}
use Rattle.options.specs.Message.{Rec}
use Rattle.options.specs.Reading.{Parse, ended, ran_out_value, beyond, found, parse}
use Rattle.options.specs.CodeSet.{marked, with_mark}
use Rattle.refusal.specs.declared.Refusal.{Refusal}
use Rattle.refusal.specs.Refused as refused
use Rattle.message.specs.declared.Kept.{Kept}
use Rattle.message.specs.declared.Walked.{Walked}
use Rattle.message.specs.declared.Stop.{Stop}
use Rattle.message.specs.Judging.{stop_number}
pub use Rattle.message.specs.Judging.{over_stop_value, over_after_value}

-- what is done only where options are marked
abbrev pub tallied : Bool → ℕ → ℕ
tallied marks n = cond marks n 0

abbrev pub set_after : Bool → List ℕ → ℕ → List ℕ
set_after marks set c = cond marks (with_mark set c) set

-- what was met: the set of the codes passed over; what is kept of the watched ones; the bytes that all take; and how many were counted
pub record Run : Type 0 where
  pub set : List ℕ
  pub kept : Kept
  pub used : ℕ
  pub count : ℕ

-- what was met when the walk ended, the number of its refusal (0: none; 5: no more bytes, and END is needed; 4: an option runs past; 6: a wrong option 52; 7: a second one) and where
pub record Walk : Type 0 where
  pub run : Run
  pub end : ℕ
  pub place : ℕ

-- what is kept after a watched option whose code byte stands at the offset i of a field that begins at base: "Every answer names the first piece"
abbrev pub kept_after_value : ℕ → Kept → ℕ → ℕ → ℕ → List ℕ → Kept
kept_after_value want k c base i d =
    record {
      start = cond (eqb want c) (cond (eqb k.start 0) (base + i + 2) k.start) k.start;
      last = cond (eqb want c) (base + i) k.last;
      whole = cond (eqb want c) (k.whole + length d) k.whole;
      over = over_after_value k.over c d;
    }

-- "One option takes 2 bytes more than its data"
abbrev pub size_of : Rec → ℕ
size_of x = 2 + length x.body

abbrev pub met : ℕ → ℕ → Run → ℕ → Rec → Run
met want base s i x =
    record { set = s.set; kept = kept_after_value want s.kept x.tag base i x.body; used = s.used + size_of x; count = s.count + 1 }

abbrev pub passed : Bool → Run → Rec → Run
passed marks s x =
    record { set = set_after marks s.set x.tag; kept = s.kept; used = s.used + size_of x; count = s.count + tallied marks 1 }

abbrev pub nothing : Kept
nothing = record { start = 0; last = 0; whole = 0; over = 0 }

abbrev pub begun : List ℕ → Run
begun set = record { set = set; kept = nothing; used = 0; count = 0 }

abbrev pub done : Run → ℕ → ℕ → Walk
done s n p = record { run = s; end = n; place = p }

-- a refusal tells nothing of what was met before it
abbrev pub stop : Run → ℕ → ℕ → Walk
stop s n p = done (begun s.set) n p

-- the bytes run out: a message's field needs its END; bytes that begin at 0 are no message's, and "running out between items also ends" (request 05)
abbrev pub out : ℕ → Run → ℕ → Walk
out base s i = cond (eqb base 0) (done s 0 0) (stop s 5 (base + i))

-- in the options field or in another (main), of a field that begins at base
unfoldable pub walk_of : List ℕ → Bool → Bool → ℕ → ℕ → Run → Parse → Walk
walk_of w marks main want base s ended = done s 0 0
walk_of w marks main want base s (ran_out_value i) = out base s i
walk_of w marks main want base s (beyond i) = stop s 4 (base + i)
walk_of w marks main want base s (found i x rest) =
    let on : Walk = walk_of w marks main want base (met want base s i x) rest in
    let past : Walk = walk_of w marks main want base (passed marks s x) rest in
    let n : ℕ = stop_number (over_stop_value main s.kept.over x.tag x.body) in
    cond (marked w x.tag) (cond (eqb n 0) on (stop s n (base + i))) past

-- ---- what the code gives

-- what was met but the set, and how the walk ended
pub record Ending : Type 0 where
  pub kept : Kept
  pub used : ℕ
  pub count : ℕ
  pub place : ℕ
  pub end : ℕ

abbrev pub ended_at : ℕ → ℕ → ℕ → ℕ → Kept → Ending
ended_at end place used count kept = record { kept = kept; used = used; count = count; place = place; end = end }

abbrev pub stopped_at : ℕ → ℕ → Ending
stopped_at end place = ended_at end place 0 0 nothing

-- the same as the code gives it, case by case
abbrev pub ending_of : Result Walked Refusal → Ending
ending_of (Ok w) = ended_at 0 0 w.used w.count w.kept
ending_of (Err r) = stopped_at (refused.number_of r.rule) r.place

abbrev pub walked_of : Walk → Ending
walked_of k = ended_at k.end k.place k.run.used k.run.count k.run.kept

-- what a walk s has met, with its set of codes
abbrev pub run_of : List ℕ → Ending → Run
run_of set s = record { set = set; kept = s.kept; used = s.used; count = s.count }

-- what is met by the offset j, passing over all options from i on
abbrev pub onward : Run → ℕ → ℕ → List ℕ → Run
onward s n count set = record { set = set; kept = s.kept; used = s.used + n; count = s.count + count }

-- no option is found at i: only the last byte may stand there, or an option that runs past
pub record Lasts (f : List ℕ) (i : ℕ) : Type 0 where
  pub no_mark : i + 1 < length f → (get_or f i 0 ≡ 0 → ⊥) × (get_or f i 0 ≡ 255 → ⊥)
  pub past : i + 1 < length f → parse i 0 (drop i f) ≡ beyond i

-- where `pass` has come from the offset `from` on: what is left gives the same as the whole
pub record Passing (w : List ℕ) (marks : Bool) (f : List ℕ) (from : ℕ) (set : List ℕ) (i count : ℕ) (set' : List ℕ) : Type 0 where
  pub not_back : from ≤ i
  pub at_in : i ≤ length f
  pub few : count + from ≤ i
  pub leads : (main : Bool) (want base : ℕ) (s : Run) → s.set ≡ set
      → walk_of w marks main want base s (parse from 0 (drop from f)) ≡ walk_of w marks main want base (onward s (i - from) count set') (parse i 0 (drop i f))

pub record Passes (w : List ℕ) (marks : Bool) (f : List ℕ) (from : ℕ) (set : List ℕ) (r : Stop) (set' : List ℕ) : Type 0 where
  pub passing : Passing w marks f from set r.at r.count set'
  pub here : r.watched ≡ true → (r.at + 1 < length f) × (marked w (get_or f r.at 0) ≡ true)
  pub last : r.watched ≡ false → Lasts f r.at

-- where `pass` stops at an option from i up to e that no other can follow: at i, where it runs past the field; else it is passed over too
abbrev pub past_stop : Bool → List ℕ → ℕ → ℕ → ℕ → Stop
past_stop marks f i e count =
    cond (ltb (length f) e) (record { at = i; count = count; watched = false }) (record { at = e; count = count + tallied marks 1; watched = false })

abbrev pub past_set : Bool → List ℕ → ℕ → List ℕ → ℕ → List ℕ
past_set marks f e set c = cond (ltb (length f) e) set (set_after marks set c)

-- how a walk ends where no watched option is left
abbrev pub out_of : ℕ → ℕ → ℕ → Kept → ℕ → Ending
out_of base used count kept i = cond (eqb base 0) (ended_at 0 0 used count kept) (stopped_at 5 (base + i))

abbrev pub last_of : ℕ → ℕ → ℕ → Kept → Parse → Ending
last_of base used count kept ended = ended_at 0 0 used count kept
last_of base used count kept (ran_out_value i) = out_of base used count kept i
last_of base used count kept (beyond i) = stopped_at 4 (base + i)
last_of base used count kept (found i x rest) = stopped_at 0 0

-- what was met is not more than n
pub record Few (n : ℕ) (s : Ending) : Type 0 where
  pub whole : s.kept.whole ≤ n
  pub used : s.used ≤ n
  pub count : s.count ≤ n

-- r is the walk of f on top of s, and what is met with it is not more than n
pub record Walks (w : List ℕ) (marks main : Bool) (want base : ℕ) (f : List ℕ) (s : Ending) (set : List ℕ) (r : Ending) (set' : List ℕ) : Type 0 where
  pub is : r ≡ walked_of (walk_of w marks main want base (run_of set s) (parse 0 0 f))
  pub codes : set' ≡ (walk_of w marks main want base (run_of set s) (parse 0 0 f)).run.set
  pub few : (n : ℕ) → Few n s → Few (n + length f) r
