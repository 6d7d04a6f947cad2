-- Bytes of a message kept in the buffer. Assumes nothing.
use Rattle.std.proofs.Common.{◌≡◌, ℕ, ◌+◌, ◌-◌, ◌<◌, ◌≤◌, List, ◌++◌, length, take, drop, sym, refl, ap, ◌∙◌, append_assoc, arith, length-append, length-take-le, take_all, take_at}
use Rattle.buffer.specs.Written.{laid}
use Rattle.buffer.proofs.Writing.{laid_length}
use Rattle.text.specs.Text.{fitting, Puts}
use Rattle.captures.specs.Standing.{Keeps}

-- a message for which there is no room
pub keeps_none : (size read : ℕ) (run old : List ℕ) → length old < size → Keeps size read run old old
keeps_none size read run old h = record { same_length = refl; kept = λ l. absurd (omega arith) }

pub keeps_all : (size read : ℕ) (run old new : List ℕ) (r : ℕ) → size ≤ length old → read + length run ≤ size → Puts old read run r new → Keeps size read run old new
keeps_all size read run old new r h k p =
    let e : fitting old read run ≡ run = take_all (length old - read) run (omega arith) in
    let is : new ≡ laid old read run = p.written.buffer ∙ ap (laid old read) e in
    let n : length (take read old) ≡ read = length-take-le read old (omega arith) in
    let m : length (take read old ++ run) ≡ read + length run = length-append (take read old) run ∙ (omega arith) in
    record {
      same_length = ap length is ∙ laid_length old read run (omega arith);
      kept = λ l.
          ap (take (read + length run)) (is ∙ sym (append_assoc (take read old) run (drop (read + length run) old)))
          ∙ take_at (take read old ++ run) (drop (read + length run) old) (read + length run) m;
    }
