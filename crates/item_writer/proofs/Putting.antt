-- The items of a sheet as they are laid, a record at a time. Assumes nothing.
use mathlib.Core.Path.{◌≡◌, refl, sym, ap, ◌∙◌, subst}
use mathlib.Core.List.{List, ◌∷◌, ◌++◌}
use Prim.Native.Nat.{ℕ, ◌+◌, ◌-◌, ◌<◌, ◌≤◌}
use native.Mathlib.Omega.{arith}
use lib.ListN.{length, get_or, take, drop, length-append}
use borrow.Rule.Slice.PartMut.{put_mid, mid_of, mid_len}
use Rattle.options.specs.SheetWalk.{records_left, Whole}
use Rattle.options.specs.Writing.{option_bytes}
use Rattle.buffer.specs.Copy.{copied}
use Rattle.buffer.specs.Written.{laid, Written}
use Rattle.buffer.proofs.Copied.{copied_fits}
use Rattle.buffer.proofs.Writing.{written_none, written_more, laid_length, laid_copied}
use Rattle.field_writer.specs.Room.{with_option}
use Rattle.field_writer.proofs.Bytes.{with_option_lem}
use Rattle.writing_theorems.proofs.SheetView.{rec}
use Rattle.writing_theorems.proofs.SheetSteps.{size_at, record_here, none_left, Next, next_left}
use Rattle.item_writer.specs.Judge.{AllBrief}

-- an option laid over a buffer, by lending just the part that it takes
pub laid_option : (b : List ℕ) (at e code : ℕ) (body ys : List ℕ) → length body ≤ 255 → e ≡ at + 2 + length body → e ≤ length b
    → ys ≡ with_option (mid_of at (e - at) b) code body → put_mid at (e - at) b ys ≡ laid b at (code ∷ length body ∷ body)
laid_option b at e code body ys l q h y =
    let n : length (mid_of at (e - at) b) ≡ e - at = mid_len at e b h in
    let k : length body + 2 ≡ length (code ∷ length body ∷ body) = omega arith in
    let r : with_option (mid_of at (e - at) b) code body ≡ copied (mid_of at (e - at) b) (code ∷ length body ∷ body) =
    with_option_lem (mid_of at (e - at) b) body code l (omega arith) ∙ ap (λ (i : ℕ). (code ∷ length body ∷ body) ++ drop i (mid_of at (e - at) b)) k
    ∙ sym (copied_fits (mid_of at (e - at) b) (code ∷ length body ∷ body) (omega arith)) in
    laid_copied b at e ys (code ∷ length body ∷ body) (omega arith) h (y ∙ r)

-- with the items of the records from `at` on written at o in the buffer `now`, all are written at the start of `old`
pub record Putting (s old now : List ℕ) (o at : ℕ) : Type 0 where
  pub left : Whole s at
  pub brief : AllBrief (records_left s at)
  pub room : o + length (option_bytes (records_left s at)) ≤ length now
  pub same : length now ≡ length old
  pub whole : (r : ℕ) (last : List ℕ) → Written now o (option_bytes (records_left s at)) r last → Written old 0 (option_bytes (records_left s 0)) r last

pub putting_begins : (s old : List ℕ) → length (option_bytes (records_left s 0)) ≤ length old → AllBrief (records_left s 0) → Whole s 0 → Putting s old old 0 0
putting_begins s old h b w = record { left = w; brief = b; room = omega arith; same = refl; whole = λ r last p. p }

module _ {s old now : List ℕ} {o at : ℕ} (y : Putting s old now o at) where
  pub putting_ends : length s ≤ at → Written old 0 (option_bytes (records_left s 0)) o now
  unfolding option_bytes
  putting_ends h = y.whole o now (rw (none_left s at h) (written_none now o))

  -- a record, whose data are n bytes by the second byte of their length
  module _ (l : at < length s) where
    next : Next s at
    next = next_left s at y.left l

    brief_here : AllBrief (record_here s at ∷ records_left s (at + 3 + size_at s at))
    brief_here = subst AllBrief next.first y.brief

    pub head_in : at + 3 ≤ length s
    head_in = omega (arith, next.within)

    size_low : size_at s at ≡ get_or s (at + 2) 0
    size_low = omega (arith, next.body_long, brief_here.0)

    module _ (n : ℕ) (q : n ≡ get_or s (at + 2) 0) where
      size_is : size_at s at ≡ n
      size_is = size_low ∙ sym q

      -- the data, as the part from at + 3 up to at + 3 + n
      abbrev pub part : List ℕ
      part = take (at + 3 + n - (at + 3)) (drop (at + 3) s)

      part_is : part ≡ (record_here s at).body
      part_is = let k : at + 3 + n - (at + 3) ≡ size_at s at = omega (arith, size_is) in rw k

      pub within : at + 3 + n ≤ length s
      within = omega (arith, next.within, size_is)

      pub part_length : length part ≡ n
      part_length = ap length part_is ∙ next.body_long ∙ size_is

      pub part_brief : length part ≤ 255
      part_brief = omega (arith, ap length part_is, brief_here.0)

      first : records_left s at ≡ rec (get_or s at 0) part ∷ records_left s (at + 3 + n)
      first = next.first ∙ rw (part_is, size_is) refl

      from_here : option_bytes (records_left s at) ≡ (get_or s at 0 ∷ length part ∷ part) ++ option_bytes (records_left s (at + 3 + n))
      unfolding option_bytes
      from_here = ap option_bytes first

      pub item_room : o + 2 + n + length (option_bytes (records_left s (at + 3 + n))) ≤ length now
      item_room = omega (arith, y.room, part_length, ap length from_here, length-append (get_or s at 0 ∷ length part ∷ part) (option_bytes (records_left s (at + 3 + n))))

      pub putting_on : {later : List ℕ} → later ≡ laid now o (get_or s at 0 ∷ length part ∷ part) → Putting s old later (o + 2 + n) (at + 3 + n)
      putting_on {later} e =
          let p : Written now o (get_or s at 0 ∷ length part ∷ part) (o + 2 + n) later = record { next = omega (arith, part_length); buffer = e } in
          let l' : length later ≡ length now = ap length e ∙ laid_length now o (get_or s at 0 ∷ length part ∷ part) (omega (arith, item_room, part_length)) in
          record {
            left = subst (Whole s) (ap (λ (k : ℕ). at + 3 + k) size_is) next.whole;
            brief = subst (λ (k : ℕ). AllBrief (records_left s (at + 3 + k))) size_is brief_here.1;
            room = omega (arith, item_room, l');
            same = l' ∙ y.same;
            whole = λ r last x. y.whole r last (rw from_here (written_more p x));
          }
