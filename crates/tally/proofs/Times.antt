-- The lease time of a message, by the bytes of its option 51. Assumes nothing.
use Rattle.std.proofs.Common.{◌≡◌, ℕ, ◌+◌, ◌-◌, ◌≤◌, Some, None, List, [], ◌∷◌, length, get_or, take, drop, pos, sym, refl, ap, ◌∙◌, ap₂, arith, get_or-take, eq-eqb, ne_eqb}
use mathlib.Core.Option.{none, some}
use Rattle.options.specs.Message.{Opt, end_to_end}
use Rattle.options.specs.Reading.{read_message, pieces}
use Rattle.options.specs.Kinds.{unsigned32, broken, number, kinds, row_of, fault, meaning, judged, first32}
use Rattle.options.specs.Answers.{shown, every_code, shown_number}
use Rattle.options.specs.KindClaims.{AllBytes}
use Rattle.options.specs.Captures.{lease_time}
use Rattle.message.specs.declared.Scanned.{Scanned}
use Rattle.message.specs.Scan.{Scan, told_of, scan_of, first_start}
use Rattle.message.proofs.Callers.{ScanAccepted, scan_accepted}
use Rattle.cursor.specs.Cursor.{first_position}
use Rattle.gather.specs.Joined.{joined_from}
use Rattle.lookup.specs.Found.{data_at, InPieces}
use Rattle.tally.specs.Noted.{time_in_value}
use Rattle.lookup.proofs.Laws.{last_short, least_met, whole_is, joined_is, one_met, one_copied, when_in_pieces}

-- 51 is a number where it has four bytes, and else broken
value_four : (d : List ℕ) → length d ≡ 4 → kinds.value 51 d ≡ number unsigned32 (pos (first32 d))
unfolding row_of judged fault meaning
value_four d e = rw (eq-eqb (length d) 4 e) refl

value_other : (d : List ℕ) → (length d ≡ 4 → ⊥) → kinds.value 51 d ≡ broken 8
unfolding row_of judged fault meaning
value_other d n = rw (ne_eqb (length d) 4 n) refl

shown_four : (ps : List Opt) → length (end_to_end ps) ≡ 4 → shown_number (shown kinds every_code 51 ps) ≡ some (first32 (end_to_end ps))
unfolding row_of end_to_end
shown_four [] e = absurd (omega arith)
shown_four (o ∷ ps) e = rw (value_four (end_to_end (o ∷ ps)) e) refl

shown_other : (ps : List Opt) → (length (end_to_end ps) ≡ 4 → ⊥) → shown_number (shown kinds every_code 51 ps) ≡ none
unfolding row_of end_to_end
shown_other [] n = refl
shown_other (o ∷ ps) n = rw (value_other (end_to_end (o ∷ ps)) n) refl

module _ (m : List ℕ) (r : Scan) (os : List Opt) (a : ScanAccepted 51 m r os) where
  pub no_lease_lem : (r.whole ≡ 4 → ⊥) → lease_time (read_message m) ≡ none
  no_lease_lem n = ap lease_time a.reads ∙ shown_other (pieces 51 os) (λ e. n (whole_is 51 m r os a ∙ e))

  pub lease_is : r.whole ≡ 4 → (d : List ℕ) → d ≡ end_to_end (pieces 51 os) → lease_time (read_message m) ≡ some (first32 d)
  lease_is e d q = ap lease_time a.reads ∙ shown_four (pieces 51 os) (sym (whole_is 51 m r os a) ∙ e) ∙ ap (λ (x : List ℕ). some (first32 x)) (sym q)

  -- there is one, so the walk has met it
  starts : r.whole ≡ 4 → r.start ≡ 0 → ⊥
  unfolding end_to_end
  starts e z = go (pieces 51 os) refl
    where
      go : (ps : List Opt) → pieces 51 os ≡ ps → ⊥
      go [] q = omega (arith, e, whole_is 51 m r os a ∙ ap (λ (ps : List Opt). length (end_to_end ps)) q)
      go (o ∷ ps) q = omega (arith, z, least_met o, ap (λ (x : Scan). x.start) a.is ∙ ap first_start q)

  -- in one piece
  pub lease_in_one : r.whole ≡ 4 → r.last + 2 ≡ r.start → lease_time (read_message m) ≡ some (first32 (take 4 (drop r.start m)))
  lease_in_one e h =
      lease_is e (take 4 (drop r.start m))
      (ap (λ (n : ℕ). take n (drop r.start m)) (sym e) ∙ one_copied m 51 (λ q. omega (arith, q)) (λ q. omega (arith, q)) r os a (starts e) h)

  pub one_within : r.whole ≡ 4 → r.last + 2 ≡ r.start → r.start + 4 ≤ length m
  one_within e h = omega (arith, e, (one_met 51 m r os a (starts e) h).within)

  -- in several
  pub lease_joined : r.whole ≡ 4 → lease_time (read_message m) ≡ some (first32 (joined_from r.over m first_position 51))
  lease_joined e = lease_is e (joined_from r.over m first_position 51) (joined_is 51 m r os a)

  pub joined_apart : r.whole ≡ 4 → (r.last + 2 ≡ r.start → ⊥) → InPieces m 51 r
  joined_apart e h = when_in_pieces 51 m r os a (starts e) h

-- ---- the same, by what the walk over an accepted message gives

module _ (m : List ℕ) (w : Scanned) (s : told_of w ≡ scan_of 51 m) (all : AllBytes m) where
  abbrev told : (os : List Opt) × ScanAccepted 51 m (told_of w) os
  told = scan_accepted 51 m (told_of w) all s refl

  pub no_time_in : (w.whole ≡ 4 → ⊥) → None ≡ time_in_value (lease_time (read_message m))
  no_time_in n = ap time_in_value (sym (no_lease_lem m (told_of w) told.0 told.1 n))

  pub last_early : w.last ≤ 1472
  last_early = last_short 51 m (told_of w) told.0 told.1

  pub pieces_apart : w.whole ≡ 4 → (w.last + 2 ≡ w.start → ⊥) → InPieces m 51 (told_of w)
  pieces_apart e h = joined_apart m (told_of w) told.0 told.1 e h

  pub time_joined : w.whole ≡ 4 → (n : ℕ) → n ≡ first32 (joined_from w.over m first_position 51) → Some n ≡ time_in_value (lease_time (read_message m))
  time_joined e n q = ap (λ (k : ℕ). Some k) q ∙ ap time_in_value (sym (lease_joined m (told_of w) told.0 told.1 e))

  pub start_within : w.whole ≡ 4 → w.last + 2 ≡ w.start → w.start + 4 ≤ length m
  start_within e h = one_within m (told_of w) told.0 told.1 e h

  pub time_in_one : w.whole ≡ 4 → w.last + 2 ≡ w.start → (n : ℕ) → n ≡ first32 (take (w.start + 4 - w.start) (drop w.start m)) → Some n ≡ time_in_value (lease_time (read_message m))
  time_in_one e h n q =
      let four : w.start + 4 - w.start ≡ 4 = omega arith in
      ap (λ (k : ℕ). Some k) (q ∙ ap (λ (k : ℕ). first32 (take k (drop w.start m))) four) ∙ ap time_in_value (sym (lease_in_one m (told_of w) told.0 told.1 e h))

-- the first four bytes are enough
pub first_four : (d : List ℕ) → first32 (take 4 d) ≡ first32 d
first_four d = rw (get_or-take 4 d 0 0 (omega arith), get_or-take 4 d 1 0 (omega arith), get_or-take 4 d 2 0 (omega arith), get_or-take 4 d 3 0 (omega arith)) refl

-- a piece by its place, of which the data begin at s
pub piece_is : (m : List ℕ) (s : ℕ) → 2 ≤ s → data_at m (s - 2) ≡ take (get_or m (s - 1) 0) (drop s m)
piece_is m s h =
    let a : s - 2 + 1 ≡ s - 1 = omega arith in
    let b : s - 2 + 2 ≡ s = omega arith in
    ap₂ (λ (j k : ℕ). take (get_or m j 0) (drop k m)) a b
