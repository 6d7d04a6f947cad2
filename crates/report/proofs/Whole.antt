-- The report of what the numbers stand for. Assumes nothing.
use mathlib.Core.Path.{◌≡◌, refl, sym, ap, ap₂, ◌∙◌}
use mathlib.Core.Bool.{Bool, true, false, cond}
use mathlib.Core.List.{List, [], ◌∷◌, ◌++◌, append_assoc}
use Prim.Native.Nat.{ℕ, zero, suc, ◌+◌, ◌*◌, ◌≤◌, min}
use lib.Dec.{eqb, ltb}
use native.Mathlib.Omega.{arith}
use lib.ListN.{length, get_or, drop, length-append, take}
use borrow.Author.Tests.{eq-eqb, ne_eqb, lt-ltb, le-ltb}
use Rattle.options.specs.Answers.{accepted_word, accepted_line, refused_line}
use Rattle.options.specs.Captures.{Lease, no_lease, leases, Tally, Stage, ending_in, Ending, stopped_at, Run, messages_word, messages_line, refusals_lines, code_lines, lease_line, last_line, report_of, report, report_so_far}
use Rattle.captures_theorems.proofs.Runs.{run_is_the_file}
use Rattle.tally.specs.Noted.{lease_of, lease_in}
use Rattle.captures.specs.declared.Progress.{Progress}
use Rattle.captures.specs.Standing.{StageIs, before_record, after_tag, after_high, in_message, was_refused, tidied, Stands}
use Rattle.report.specs.Printed.{line_text, is_open_value, last_text, text_of, Reports, FileIsReported}
use Rattle.text.specs.Text.{fitting, Puts}
use Rattle.text.proofs.Putting.{puts_as, puts_more, puts_front}
use Rattle.report.proofs.Lines.{messages_one, accepted_one, messages_short, accepted_short, refusals_short, codes_short, lease_short, last_short}

open_stage : (p : Progress) → (p.stage ≡ 0 → ⊥) → is_open_value p ≡ true
open_stage p h = rw (ne_eqb p.stage 0 h)

-- how the file ends
last_is : (p : Progress) (message : List ℕ) {g : Stage} → StageIs p message g → (i : ℕ) → p.began ≡ i → last_text p ≡ last_line (ending_in g i)
last_is p message (before_record a u b c) i e = rw (eq-eqb p.stage 0 a, le-ltb p.read p.size (omega arith))
last_is p message (after_tag a u b c) i e = rw (open_stage p (λ z. omega arith), e)
last_is p message (after_high a h b c) i e = rw (open_stage p (λ z. omega arith), e)
last_is p message (in_message {left = n} {kept = k} a u b c d) i e = rw (eq-eqb p.stage 0 a, lt-ltb p.read p.size (omega (arith, b, c)), e)
last_is p message (was_refused a u b c) i e = rw (open_stage p (λ z. omega arith), e)

-- and with any Progress
tidy_open : (p : Progress) → is_open_value (tidied p) ≡ is_open_value p
tidy_open p = by (ltb p.read p.size) refl p.stage
  where
    by : (b : Bool) → ltb p.read p.size ≡ b → (g : ℕ)
        → cond (eqb (cond b 0 (min g 3)) 0) (ltb (cond b p.read 0) (cond b p.size 0)) true ≡ cond (eqb g 0) b true
    by true e zero = e
    by true e (suc g) = rw (ne_eqb (suc g) 0 (λ z. omega arith)) e
    by false e zero = refl
    by false e (suc g) = rw (ne_eqb (min (suc g) 3) 0 (λ z. omega arith), ne_eqb (suc g) 0 (λ z. omega arith))

module _ (p : Progress) (message v h b : List ℕ) (s : Run) (t : Stands s (tidied p) message v h b) where
  lease_told : lease_of p.lease ≡ s.tally.lease
  lease_told = sym (again (lease_of p.lease)) ∙ ap lease_of t.holds.lease_is ∙ again s.tally.lease
    where
      again : (y : Lease) → lease_of (lease_in y) ≡ y
      again no_lease = refl
      again (leases a z) = refl

  text_is : text_of p v h b ≡ report_so_far s
  unfolding text_of report_of
  text_is =
      let k = t.holds in
      ap₂ (λ (l r : List ℕ). l ++ r) (ap messages_line k.messages_is)
      (ap₂ (λ (l r : List ℕ). l ++ r) (ap (λ (y : List ℕ). accepted_line (get_or y 0 0)) k.verdicts_are)
      (ap₂ (λ (l r : List ℕ). l ++ r) (ap (λ (y : List ℕ). refusals_lines 1 (drop 1 y)) k.verdicts_are)
      (ap₂ (λ (l r : List ℕ). l ++ r) (ap₂ (λ (y z : List ℕ). code_lines 0 y z) k.held_are k.bytes_are)
      (ap₂ (λ (l r : List ℕ). l ++ r) (ap lease_line lease_told)
      (ap (λ (o : Bool). cond o (refused_line 24 p.began) []) (sym (tidy_open p)) ∙ last_is (tidied p) message t.stage_is s.began k.began_is)))))

pub file_is_reported : FileIsReported
unfolding report
file_is_reported f = let r = run_is_the_file f in ap₂ (λ (y : Tally) (e : Ending). report_of y e) r.tally r.ending

six : (a b c d e f : List ℕ) → length (a ++ (b ++ (c ++ (d ++ (e ++ f))))) ≡ length a + length b + length c + length d + length e + length f
six a b c d e f = simp length-append (omega arith)

last_text_short : (p : Progress) (o : Bool) → length (cond o (refused_line 24 p.began) []) ≤ 50
last_text_short p true = last_short (stopped_at p.began)
last_text_short p false = omega arith

rest_of_eight : (v : List ℕ) → length v ≡ 8 → length (drop 1 v) ≡ 7
rest_of_eight [] e = absurd (omega arith)
rest_of_eight (x ∷ v) e = omega arith

text_short : (p : Progress) (v h b : List ℕ) → length v ≡ 8 → length h ≡ 256 → length (text_of p v h b) ≤ 16384
unfolding text_of
text_short p v h b l k =
    let z = six (messages_line p.messages) (accepted_line (get_or v 0 0)) (refusals_lines 1 (drop 1 v)) (code_lines 0 h b) (lease_line (lease_of p.lease)) (last_text p) in
    small z (messages_short p.messages) (accepted_short (get_or v 0 0)) (refusals_short 1 (drop 1 v)) (codes_short 0 h b (omega arith)) (lease_short (lease_of p.lease)) (last_text_short p (is_open_value p)) (rest_of_eight v l) k
  where
    small : {n a b c d e f r h : ℕ} → n ≡ a + b + c + d + e + f → a ≤ 30 → b ≤ 30 → c ≤ 51 * r → d ≤ 51 * h → e ≤ 48 → f ≤ 50 → r ≡ 7 → h ≡ 256 → n ≤ 16384
    small p q u v w x y z k = omega arith

pub reports : (p : Progress) (v h b old : List ℕ) (r : ℕ) (after : List ℕ) → 16384 ≤ length old → Puts old 0 (text_of p v h b) r after → Reports p v h b old r after
reports p v h b old r after l q s message t =
    let z = text_is p message v h b s t in
    puts_front (omega (arith, text_short p v h b t.lent.eight t.lent.held_all, ap length z)) (puts_as z q)

-- line after line
pub whole_text : (p : Progress) (v h b : List ℕ) {old o1 o2 o3 o4 o5 o6 : List ℕ} {i1 i2 i3 i4 i5 i6 : ℕ} → Puts old 0 (line_text messages_word p.messages []) i1 o1 → Puts o1 i1 (line_text accepted_word (get_or v 0 0) []) i2 o2
    → Puts o2 i2 (refusals_lines 1 (drop 1 v)) i3 o3 → Puts o3 i3 (code_lines 0 h b) i4 o4 → Puts o4 i4 (lease_line (lease_of p.lease)) i5 o5 → Puts o5 i5 (last_text p) i6 o6
    → Puts old 0 (text_of p v h b) i6 o6
unfolding text_of
whole_text p v h b q1 q2 q3 q4 q5 q6 = puts_as made (puts_more (puts_more (puts_more (puts_more (puts_more q1 q2) q3) q4) q5) q6)
  where
    five : (a b c d e f : List ℕ) → ((((a ++ b) ++ c) ++ d) ++ e) ++ f ≡ a ++ (b ++ (c ++ (d ++ (e ++ f))))
    five a b c d e f = simp append_assoc

    made : ((((line_text messages_word p.messages [] ++ line_text accepted_word (get_or v 0 0) []) ++ refusals_lines 1 (drop 1 v)) ++ code_lines 0 h b) ++ lease_line (lease_of p.lease)) ++ last_text p
        ≡ messages_line p.messages ++ (accepted_line (get_or v 0 0) ++ (refusals_lines 1 (drop 1 v) ++ (code_lines 0 h b ++ (lease_line (lease_of p.lease) ++ last_text p))))
    made =
        five (line_text messages_word p.messages []) (line_text accepted_word (get_or v 0 0) []) (refusals_lines 1 (drop 1 v)) (code_lines 0 h b) (lease_line (lease_of p.lease)) (last_text p)
        ∙ ap₂ (λ (x y : List ℕ). x ++ (y ++ (refusals_lines 1 (drop 1 v) ++ (code_lines 0 h b ++ (lease_line (lease_of p.lease) ++ last_text p))))) (messages_one p.messages) (accepted_one (get_or v 0 0))

-- nothing is put past the buffer
pub puts_within : {old xs after : List ℕ} {r : ℕ} → Puts old 0 xs r after → r ≤ length after
puts_within {old} {xs} p =
    omega (arith, p.written.next, ap length p.written.buffer, length-append (take 0 old) (fitting old 0 xs ++ drop (0 + length (fitting old 0 xs)) old), length-append (fitting old 0 xs) (drop (0 + length (fitting old 0 xs)) old))
