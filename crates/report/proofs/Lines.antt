-- The report's text put together from its parts, and how long it is. Assumes nothing.
use mathlib.Core.Path.{◌≡◌, refl, sym, ap, ap₂, ◌∙◌}
use mathlib.Core.Bool.{Bool, true, false, cond, not}
use mathlib.Core.List.{List, [], ◌∷◌, ◌++◌, append_assoc}
use Prim.Native.Nat.{ℕ, suc, ◌+◌, ◌*◌, ◌≤◌, ◌<◌, min}
use native.Mathlib.Omega.{arith}
use lib.ListN.{length, get_or, drop, length-append, drop_of_length-le}
use lib.Seq.{drop-cons}
use lib.Dec.{eqb}
use Rattle.options.specs.Answers.{decimal, blank, newline, accepted_line, refused_line, accepted_word, refused_word}
use Rattle.options.specs.Captures.{Lease, no_lease, leases, refusals_word, lease_word, none_word, messages_word, messages_line, refusals_line, refusals_lines, code_word, code_line, code_lines, lease_line, last_line, Ending, at_end, stopped_at}
use Rattle.text.proofs.Digits.{digits_within, digits_below}
use Rattle.theorems.proofs.View.{clash}
use Rattle.captures.specs.declared.Progress.{Progress}
use Rattle.report.specs.Printed.{more_text, line_text, is_open_value, last_text}

-- ---- Lines made

pub line_made : (w : List ℕ) (n : ℕ) (ns : List ℕ) → (w ++ decimal n) ++ more_text ns ≡ line_text w n ns
line_made w n ns = append_assoc w (decimal n) (more_text ns)

pub more_next : (i : ℕ) (ns : List ℕ) → i < length ns → more_text (drop i ns) ≡ (blank ∷ decimal (get_or ns i 0)) ++ more_text (drop (i + 1) ns)
more_next i ns h =
    let z : suc i ≡ i + 1 = omega arith in
    ap more_text (drop-cons ns i 0 h) ∙ ap (λ (j : ℕ). blank ∷ (decimal (get_or ns i 0) ++ more_text (drop j ns))) z

pub more_none : (i : ℕ) (ns : List ℕ) → length ns ≤ i → newline ∷ [] ≡ more_text (drop i ns)
more_none i ns h = sym (ap more_text (drop_of_length-le ns {i = i} h))

pub refusal_two : (k n : ℕ) → line_text refusals_word k (n ∷ []) ≡ refusals_line k n
unfolding refusals_line
refusal_two k n = refl

pub code_made : (c n b : ℕ) → line_text code_word c (n ∷ b ∷ []) ≡ code_line c n b
unfolding code_line
code_made c n b = refl

pub messages_one : (n : ℕ) → line_text messages_word n [] ≡ messages_line n
unfolding messages_line
messages_one n = refl

pub accepted_one : (n : ℕ) → line_text accepted_word n [] ≡ accepted_line n
unfolding accepted_line
accepted_one n = refl

pub no_lease_line : lease_word ++ (none_word ++ (newline ∷ [])) ≡ lease_line no_lease
unfolding lease_line
no_lease_line = refl

pub lease_two : (s l : ℕ) → line_text lease_word s (l ∷ []) ≡ lease_line (leases s l)
unfolding lease_line
lease_two s l = refl

pub nothing_last : (p : Progress) (o : Bool) → o ≡ is_open_value p → o ≡ false → [] ≡ last_text p
nothing_last p true e h = clash (cc)
nothing_last p false e h = ap (λ (b : Bool). cond b (refused_line 24 p.began) []) e

pub refused_last : (p : Progress) (o : Bool) → o ≡ is_open_value p → o ≡ true → line_text refused_word 24 (p.began ∷ []) ≡ last_text p
unfolding refused_line
refused_last p true e h = ap (λ (b : Bool). cond b (refused_line 24 p.began) []) e
refused_last p false e h = clash (cc)

-- ---- Line after line

pub refusals_next : (k : ℕ) (v : List ℕ) → k < length v → refusals_lines k (drop k v) ≡ refusals_line k (get_or v k 0) ++ refusals_lines (k + 1) (drop (k + 1) v)
unfolding refusals_lines
refusals_next k v h =
    let z : suc k ≡ k + 1 = omega arith in
    ap (refusals_lines k) (drop-cons v k 0 h) ∙ ap (λ (j : ℕ). refusals_line k (get_or v k 0) ++ refusals_lines j (drop j v)) z

pub refusals_none : (k : ℕ) (v : List ℕ) → length v ≤ k → refusals_lines k (drop k v) ≡ []
unfolding refusals_lines
refusals_none k v h = ap (refusals_lines k) (drop_of_length-le v h)

-- the line of a code, if it is held
abbrev pub held_line : ℕ → ℕ → ℕ → List ℕ
held_line c n b = cond (eqb n 0) [] (code_line c n b)

pub codes_next : (c : ℕ) (h b : List ℕ) → c < length h → c < length b
    → code_lines c (drop c h) (drop c b) ≡ held_line c (get_or h c 0) (get_or b c 0) ++ code_lines (c + 1) (drop (c + 1) h) (drop (c + 1) b)
unfolding code_lines
codes_next c h b l m =
    let z : suc c ≡ c + 1 = omega arith in
    ap₂ (λ (x y : List ℕ). code_lines c x y) (drop-cons h c 0 l) (drop-cons b c 0 m)
    ∙ ap (λ (j : ℕ). cond (eqb (get_or h c 0) 0) (code_lines j (drop j h) (drop j b)) (code_line c (get_or h c 0) (get_or b c 0) ++ code_lines j (drop j h) (drop j b))) z
    ∙ go (eqb (get_or h c 0) 0)
  where
    rest : List ℕ
    rest = code_lines (c + 1) (drop (c + 1) h) (drop (c + 1) b)

    go : (t : Bool) → cond t rest (code_line c (get_or h c 0) (get_or b c 0) ++ rest) ≡ cond t [] (code_line c (get_or h c 0) (get_or b c 0)) ++ rest
    go true = refl
    go false = refl

no_bytes : (c : ℕ) (ns : List ℕ) → code_lines c ns [] ≡ []
unfolding code_lines
no_bytes c [] = refl
no_bytes c (n ∷ ns) = refl

pub codes_none : (c : ℕ) (h b : List ℕ) → min (length h) (length b) ≤ c → code_lines c (drop c h) (drop c b) ≡ []
unfolding code_lines
codes_none c h b l = by (native.Mathlib.Decide.dec_lt c (length h))
  where
    by : Dec (c < length h) → code_lines c (drop c h) (drop c b) ≡ []
    by (yes x) = ap (code_lines c (drop c h)) (drop_of_length-le b {i = c} (omega arith)) ∙ no_bytes c (drop c h)
    by (no x) = ap (λ (ns : List ℕ). code_lines c ns (drop c b)) (drop_of_length-le h {i = c} (omega (arith, x)))

-- ---- How long

pub messages_short : (n : ℕ) → length (messages_line n) ≤ 30
unfolding messages_line
messages_short n = simp length-append (omega (arith, digits_within 20 n))

pub accepted_short : (n : ℕ) → length (accepted_line n) ≤ 30
unfolding accepted_line
accepted_short n = simp length-append (omega (arith, digits_within 20 n))

refusal_short : (k n : ℕ) → length (refusals_line k n) ≤ 51
unfolding refusals_line
refusal_short k n = simp length-append (omega (arith, digits_within 20 k, digits_within 20 n))

pub refusals_short : (k : ℕ) (ns : List ℕ) → length (refusals_lines k ns) ≤ 51 * length ns
unfolding refusals_lines
refusals_short k [] = omega arith
refusals_short k (n ∷ ns) = rw length-append (omega (arith, refusal_short k n, refusals_short (suc k) ns))

code_short : (c n b : ℕ) → c < 1000 → length (code_line c n b) ≤ 51
unfolding code_line
code_short c n b h = simp length-append (omega (arith, digits_below 2 20 c (omega arith), digits_within 20 n, digits_within 20 b))

pub codes_short : (c : ℕ) (ns bs : List ℕ) → c + length ns ≤ 1000 → length (code_lines c ns bs) ≤ 51 * length ns
unfolding code_lines
codes_short c [] bs h = omega arith
codes_short c (n ∷ ns) [] h = omega arith
codes_short c (n ∷ ns) (b ∷ bs) h = go (eqb n 0) (codes_short (suc c) ns bs (omega arith))
  where
    go : (t : Bool) → length (code_lines (suc c) ns bs) ≤ 51 * length ns → length (cond t (code_lines (suc c) ns bs) (code_line c n b ++ code_lines (suc c) ns bs)) ≤ 51 * suc (length ns)
    go true l = omega arith
    go false l = rw length-append (omega (arith, code_short c n b (omega arith)))

pub lease_short : (l : Lease) → length (lease_line l) ≤ 48
unfolding lease_line
lease_short no_lease = omega arith
lease_short (leases s l) = simp length-append (omega (arith, digits_within 20 s, digits_within 20 l))

pub last_short : (e : Ending) → length (last_line e) ≤ 50
unfolding refused_line
last_short at_end = omega arith
last_short (stopped_at p) = simp length-append (omega (arith, digits_within 20 24, digits_within 20 p))
