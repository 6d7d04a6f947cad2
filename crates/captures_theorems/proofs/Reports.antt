-- The report's lines are those that request 11 asks for, in its order, and no others. Assumes nothing.
use mathlib.Core.Path.{◌≡◌, refl, sym, ap, ap₂, ◌∙◌, subst}
use mathlib.Core.List.{List, [], ◌∷◌, ◌++◌}
use mathlib.Core.Bool.{Bool, true, false, cond}
use mathlib.Core.Option.{Option, none, some}
use mathlib.Core.Logic.{inl, inr}
use Prim.Native.Nat.{ℕ, zero, suc, ◌+◌, ◌-◌, ◌^◌, ◌<◌}
use native.Mathlib.Omega.{arith}
use lib.IntN.{ℤ, pos, negsuc}
use lib.ListN.{length, get_or, drop, length-drop}
use lib.Seq.{drop-cons}
use lib.Dec.{eqb, ltb}
use borrow.Author.Tests.{eqb-true, eqb-false}
use Rattle.options.specs.Message.{Opt, bytes, Standing, In, OptionAt, end_to_end}
use Rattle.options.specs.Kinds.{Kind, address, addresses, pairs, flag, octet, number16, numbers16, unsigned32, signed32, text, opaque, relay, routes, Row, Value, number, kinds, row_of, first32, twos_complement, fault, unless, meaning, judged, judged_by}
use Rattle.options.specs.KindClaims.{AllBytes}
use Rattle.options.specs.Answers.{decimal, blank, newline, accepted_word, refused_word, accepted_line, refused_line, known, every_code}
use Rattle.options.specs.ReadingClaims.{ContentIs, when_known}
use Rattle.options.specs.Captures.{Stage, at_tag, at_high, at_low, inside, stopped, begun, fed, ending_in, Ending, at_end, stopped_at, Capture, capture_of, Lease, Tally, tally_of, messages_word, refusals_word, code_word, messages_line, refusals_line, refusals_lines, code_line, code_lines, lease_line, last_line, report_of, report}
use Rattle.options.specs.CaptureClaims.{Seen, LeaseTime, LeaseIs, lease_none, lease_from_to, TallyIs, Columns, last_column, and_further, LineIs, line_is, RefusalsFrom, refused_by, CodesFrom, is_held, not_held, LeaseLineIs, none_line, from_to_line, LastLineIs, nothing_last, refused_last, LinesAre, ReportIs, ReportIsCorrect}
use Rattle.options.specs.CaptureClaims.RefusalsFrom.{no_more as no-refusals}
use Rattle.options.specs.CaptureClaims.CodesFrom.{no_more as no_codes_lem}
use Rattle.theorems.proofs.View.{clash}
use Rattle.theorems.proofs.CodesPresent.{all_drop, all_field}
use Rattle.theorems.proofs.Decimals.{decimal_is_right, decimal_is_one}
use Rattle.writing_theorems.proofs.SheetView.{Lies}
use Rattle.captures_theorems.proofs.Files.{Captures, is_end, is_stop, is_more, captures, file_is, one_reading}
use Rattle.captures_theorems.proofs.Sums.{Small, small_tally}
use Rattle.captures_theorems.proofs.Tallies.{tally_is, one_tally}
use Rattle.captures_theorems.proofs.Runs.{few_messages, run_is_the_file, no_sum_wraps}

-- ---- Columns

abbrev Fits : ℕ → Type 0
Fits n = n < 10 ^ 20

one : (n : ℕ) → Fits n → Columns (n ∷ []) (decimal n ++ (newline ∷ []))
one n h = last_column (decimal_is_right n h)

two : (n k : ℕ) → Fits n → Fits k → Columns (n ∷ k ∷ []) (decimal n ++ (blank ∷ (decimal k ++ (newline ∷ []))))
two n k h l = and_further (decimal_is_right n h) (one k l)

one_columns : {ns xs ys : List ℕ} → Columns ns xs → Columns ns ys → xs ≡ ys
one_columns (last_column {n = n} {xs = xs} a) (last_column {xs = ys} b) = ap (λ (l : List ℕ). l ++ (newline ∷ [])) (decimal_is_one n xs ys a b)
one_columns (and_further {n = n} {xs = xs} a p) (and_further {xs = ys} b q) = ap₂ (λ (l r : List ℕ). l ++ (blank ∷ r)) (decimal_is_one n xs ys a b) (one_columns p q)

one_line : {word ns xs ys : List ℕ} → LineIs word ns xs → LineIs word ns ys → xs ≡ ys
one_line {word} (line_is a) (line_is b) = ap (λ (l : List ℕ). word ++ l) (one_columns a b)

-- ---- The lines of a tally

messages_line_lem : (n : ℕ) → Fits n → LineIs messages_word (n ∷ []) (messages_line n)
unfolding messages_line
messages_line_lem n h = line_is (one n h)

accepted_line_lem : (n : ℕ) → Fits n → LineIs accepted_word (n ∷ []) (accepted_line n)
unfolding accepted_line
accepted_line_lem n h = line_is (one n h)

refusals_line_lem : (k n : ℕ) → Fits k → Fits n → LineIs refusals_word (k ∷ n ∷ []) (refusals_line k n)
unfolding refusals_line
refusals_line_lem k n h l = line_is (two k n h l)

code_line_lem : (c n b : ℕ) → Fits c → Fits n → Fits b → LineIs code_word (c ∷ n ∷ b ∷ []) (code_line c n b)
unfolding code_line
code_line_lem c n b h l k = line_is (and_further (decimal_is_right c h) (two n b l k))

refused_line_lem : (n p : ℕ) → Fits n → Fits p → LineIs refused_word (n ∷ p ∷ []) (refused_line n p)
unfolding refused_line
refused_line_lem n p h l = line_is (two n p h l)

no_more_left : (n : ℕ) (xs : List ℕ) → length xs ≡ n → drop n xs ≡ []
no_more_left n xs e = none (drop n xs) (length-drop n xs ∙ (let z = e in omega arith))
  where
    none : (l : List ℕ) → length l ≡ 0 → l ≡ []
    none [] e = refl
    none (y ∷ l) e = absurd (omega arith)

module _ (x : Tally) (s : Small x) where
  refusals_from : length x.refusals ≡ 7 → (n i : ℕ) → i + n ≡ 7 → RefusalsFrom x (suc i) (refusals_lines (suc i) (drop i x.refusals))
  unfolding refusals_lines
  refusals_from l zero i e =
      let q : i ≡ 7 = omega arith in
      subst (λ (k : ℕ). RefusalsFrom x (suc k) (refusals_lines (suc k) (drop k x.refusals))) (sym q)
      (subst (λ (r : List ℕ). RefusalsFrom x 8 (refusals_lines 8 r)) (sym (no_more_left 7 x.refusals l)) no-refusals)
  refusals_from l (suc n) i e =
      let p : drop i x.refusals ≡ get_or x.refusals i 0 ∷ drop (suc i) x.refusals = drop-cons x.refusals i 0 (omega arith) in
      subst (λ (r : List ℕ). RefusalsFrom x (suc i) (refusals_lines (suc i) r)) (sym p) (refused_by (omega arith) line (rest (refusals_from l n (suc i) (omega arith))))
    where
      j : suc i - 1 ≡ i
      j = omega arith

      line : LineIs refusals_word (suc i ∷ get_or x.refusals (suc i - 1) 0 ∷ []) (refusals_line (suc i) (get_or x.refusals i 0))
      line = subst (λ (k : ℕ). LineIs refusals_word (suc i ∷ get_or x.refusals k 0 ∷ []) (refusals_line (suc i) (get_or x.refusals i 0))) (sym j) (refusals_line_lem (suc i) (get_or x.refusals i 0) (omega arith) (omega (arith, s.refusals i)))

      rest : RefusalsFrom x (suc (suc i)) (refusals_lines (suc (suc i)) (drop (suc i) x.refusals)) → RefusalsFrom x (suc i + 1) (refusals_lines (suc (suc i)) (drop (suc i) x.refusals))
      rest r = let z : suc (suc i) ≡ suc i + 1 = omega arith in subst (λ (k : ℕ). RefusalsFrom x k (refusals_lines (suc (suc i)) (drop (suc i) x.refusals))) z r

  codes_from : length x.held ≡ 256 → length x.bytes ≡ 256 → (n c : ℕ) → c + n ≡ 256 → CodesFrom x c (code_lines c (drop c x.held) (drop c x.bytes))
  unfolding code_lines
  codes_from h b zero c e =
      let q : c ≡ 256 = omega arith in
      subst (λ (i : ℕ). CodesFrom x i (code_lines i (drop i x.held) (drop i x.bytes))) (sym q)
      (subst (λ (l : List ℕ). CodesFrom x 256 (code_lines 256 l (drop 256 x.bytes))) (sym (no_more_left 256 x.held h)) no_codes_lem)
  codes_from h b (suc n) c e =
      let p : drop c x.held ≡ get_or x.held c 0 ∷ drop (suc c) x.held = drop-cons x.held c 0 (omega arith) in
      let q : drop c x.bytes ≡ get_or x.bytes c 0 ∷ drop (suc c) x.bytes = drop-cons x.bytes c 0 (omega arith) in
      rw (p, q) (go (eqb (get_or x.held c 0) 0) refl (codes_from h b n (suc c) (omega arith)))
    where
      rest : List ℕ
      rest = code_lines (suc c) (drop (suc c) x.held) (drop (suc c) x.bytes)

      j : suc c ≡ c + 1
      j = omega arith

      l : c < 256
      l = omega arith

      go : (t : Bool) → eqb (get_or x.held c 0) 0 ≡ t → CodesFrom x (suc c) rest → CodesFrom x c (cond t rest (code_line c (get_or x.held c 0) (get_or x.bytes c 0) ++ rest))
      go true u r = not_held l (eqb-true (get_or x.held c 0) 0 u) (subst (λ (i : ℕ). CodesFrom x i rest) j r)
      go false u r =
          is_held l (omega (arith, eqb-false (get_or x.held c 0) 0 u))
          (code_line_lem c (get_or x.held c 0) (get_or x.bytes c 0) (omega arith) (omega (arith, s.held c)) (omega (arith, s.bytes c))) (subst (λ (i : ℕ). CodesFrom x i rest) j r)

one_refusals : (x : Tally) {k : ℕ} {xs ys : List ℕ} → RefusalsFrom x k xs → RefusalsFrom x k ys → xs ≡ ys
one_refusals x no-refusals no-refusals = refl
one_refusals x no-refusals (refused_by h p r) = absurd (omega arith)
one_refusals x (refused_by h p r) no-refusals = absurd (omega arith)
one_refusals x (refused_by h p r) (refused_by h' p' r') = ap₂ (λ (a b : List ℕ). a ++ b) (one_line p p') (one_refusals x r r')

one_codes : (x : Tally) {c : ℕ} {xs ys : List ℕ} → CodesFrom x c xs → CodesFrom x c ys → xs ≡ ys
one_codes x no_codes_lem no_codes_lem = refl
one_codes x no_codes_lem (is_held h p l r) = absurd (omega arith)
one_codes x no_codes_lem (not_held h p r) = absurd (omega arith)
one_codes x (is_held h p l r) no_codes_lem = absurd (omega arith)
one_codes x (is_held h p l r) (is_held h' p' l' r') = ap₂ (λ (a b : List ℕ). a ++ b) (one_line l l') (one_codes x r r')
one_codes x (is_held h p l r) (not_held h' p' r') = absurd (omega arith)
one_codes x (not_held h p r) no_codes_lem = absurd (omega arith)
one_codes x (not_held h p r) (is_held h' p' l' r') = absurd (omega arith)
one_codes x (not_held h p r) (not_held h' p' r') = one_codes x r r'

one_lease_line : {w : Lease} {xs ys : List ℕ} → LeaseLineIs w xs → LeaseLineIs w ys → xs ≡ ys
one_lease_line none_line none_line = refl
one_lease_line (from_to_line a) (from_to_line b) = one_line a b

one_last : {e : Ending} {xs ys : List ℕ} → LastLineIs e xs → LastLineIs e ys → xs ≡ ys
one_last nothing_last nothing_last = refl
one_last (refused_last a) (refused_last b) = one_line a b

one_lines : (x : Tally) (e : Ending) (xs ys : List ℕ) → LinesAre x e xs → LinesAre x e ys → xs ≡ ys
one_lines x e xs ys a b =
    a.reads
    ∙ ap₂ (λ (l r : List ℕ). l ++ r) (one_line a.messages_is b.messages_is)
    (ap₂ (λ (l r : List ℕ). l ++ r) (one_line a.accepts_is b.accepts_is)
    (ap₂ (λ (l r : List ℕ). l ++ r) (one_refusals x a.refusals_are b.refusals_are)
    (ap₂ (λ (l r : List ℕ). l ++ r) (one_codes x a.codes_are b.codes_are) (ap₂ (λ (l r : List ℕ). l ++ r) (one_lease_line a.lease_is b.lease_is) (one_last a.last_is b.last_is)))))
    ∙ sym b.reads

-- ---- The lease time has at most ten digits: it is made of four bytes

byte_at : (xs : List ℕ) (i : ℕ) → AllBytes xs → get_or xs i 0 < 256
byte_at [] zero h = omega arith
byte_at [] (suc i) h = omega arith
byte_at (x ∷ xs) zero h = h.0
byte_at (x ∷ xs) (suc i) h = byte_at xs i h.1

all_left : (xs ys : List ℕ) → AllBytes (xs ++ ys) → AllBytes xs
all_left [] ys h = tt
all_left (x ∷ xs) ys h = (h.0, all_left xs ys h.1)

all_right : (xs ys : List ℕ) → AllBytes (xs ++ ys) → AllBytes ys
all_right [] ys h = h
all_right (x ∷ xs) ys h = all_right xs ys h.1

pub all_append : (xs ys : List ℕ) → AllBytes xs → AllBytes ys → AllBytes (xs ++ ys)
all_append [] ys h k = k
all_append (x ∷ xs) ys h k = (h.0, all_append xs ys h.1 k)

option_bytes_lem : {f : List ℕ} {i c : ℕ} {d : List ℕ} → AllBytes f → OptionAt f i c d → AllBytes d
option_bytes_lem {f} {i} {c} {d} h o = all_left d o.after (subst AllBytes o.reads (all_drop i f h)).1.1

joined_bytes : (m : List ℕ) → AllBytes m → (ps : List Opt) → ((o : Opt) → In o ps → Standing m o) → AllBytes (end_to_end ps)
unfolding end_to_end
joined_bytes m h [] f = tt
joined_bytes m h (o ∷ ps) f =
    all_append o.item.body (end_to_end ps) (option_bytes_lem (all_field o.field m h) (f o (inl refl)).stands.option) (joined_bytes m h ps (λ q i. f q (inr i)))

-- whatever kind it is of, a number that is not below 0 is made of four bytes at most
same_number : {a b : Kind} {x y : ℤ} → number a x ≡ number b y → x ≡ y
same_number e = cc

same_pos : {x y : ℕ} → pos x ≡ pos y → x ≡ y
same_pos e = cc

twos_below : (w n : ℕ) → w < 4294967296 → twos_complement w ≡ pos n → n < 4294967296
twos_below w n h e = go (ltb w 2147483648) e
  where
    go : (b : Bool) → cond b (pos w) (negsuc (4294967295 - w)) ≡ pos n → n < 4294967296
    go true z = omega (arith, same_pos z)
    go false z = clash (cc)

meaning_below : (j : Kind) (d : List ℕ) (k : Kind) (n : ℕ) → AllBytes d → meaning j d ≡ number k (pos n) → n < 4294967296
unfolding meaning
meaning_below address d k n b e = omega (arith, same_pos (same_number e), byte_at d 0 b, byte_at d 1 b, byte_at d 2 b, byte_at d 3 b)
meaning_below addresses d k n b e = clash (cc)
meaning_below pairs d k n b e = clash (cc)
meaning_below flag d k n b e = omega (arith, same_pos (same_number e), byte_at d 0 b)
meaning_below octet d k n b e = omega (arith, same_pos (same_number e), byte_at d 0 b)
meaning_below number16 d k n b e = omega (arith, same_pos (same_number e), byte_at d 0 b, byte_at d 1 b)
meaning_below numbers16 d k n b e = clash (cc)
meaning_below unsigned32 d k n b e = omega (arith, same_pos (same_number e), byte_at d 0 b, byte_at d 1 b, byte_at d 2 b, byte_at d 3 b)
meaning_below signed32 d k n b e = twos_below (first32 d) n (omega (arith, byte_at d 0 b, byte_at d 1 b, byte_at d 2 b, byte_at d 3 b)) (same_number e)
meaning_below text d k n b e = clash (cc)
meaning_below opaque d k n b e = clash (cc)
meaning_below relay d k n b e = clash (cc)
meaning_below routes d k n b e = clash (cc)

value_below : (r : Option Row) (d : List ℕ) (k : Kind) (n : ℕ) → AllBytes d → judged_by r d ≡ number k (pos n) → n < 4294967296
unfolding judged
value_below none d k n b e = clash (cc)
value_below (some r) d k n b e = go (fault r d) e
  where
    go : (f : ℕ) → unless f (meaning r.kind d) ≡ number k (pos n) → n < 4294967296
    go zero z = meaning_below r.kind d k n b z
    go (suc f) z = clash (cc)

content_below : (d : List ℕ) (k : Kind) (n : ℕ) → AllBytes d → ContentIs kinds every_code 51 d (known (number k (pos n))) → n < 4294967296
content_below d k n b c = value_below (row_of 51) d k n b (shown_value c)
  where
    shown_value : {v : Value} → ContentIs kinds every_code 51 d (known v) → kinds.value 51 d ≡ v
    shown_value (when_known e) = refl

lease_below : (m : List ℕ) (n : ℕ) → AllBytes m → LeaseTime m n → n < 4294967296
lease_below m n h x =
    let s = x.shows in
    let b : AllBytes (end_to_end (s.first ∷ s.others)) = joined_bytes m h (s.first ∷ s.others) (λ o i. ((s.are_pieces.lists o).0 i).0) in
    content_below (end_to_end (s.first ∷ s.others)) x.kind n b s.content_is

-- ---- The messages of a file of bytes

abbrev AllMessages : List (List ℕ) → Type 0
AllMessages [] = Unit {0}
AllMessages (m ∷ ms) = AllBytes m × AllMessages ms

seen_bytes : (ms : List (List ℕ)) → AllMessages ms → (m : List ℕ) → Seen m ms → AllBytes m
seen_bytes [] h m s = absurd s
seen_bytes (x ∷ ms) h m (inl e) = subst AllBytes (sym e) h.0
seen_bytes (x ∷ ms) h m (inr s) = seen_bytes ms h.1 m s

lies_bytes : {f : List ℕ} {i : ℕ} {m : List ℕ} → AllBytes f → Lies f i 1 m → AllBytes m
lies_bytes {f} {i} {m} b o =
    let z : AllBytes (1 ∷ o.high ∷ o.low ∷ (m ++ o.after)) = subst AllBytes o.reads (all_drop i f b) in
    all_left m o.after z.1.1.1

messages_bytes : {f : List ℕ} → AllBytes f → {i n : ℕ} {w : Capture} → Captures f i n w → AllMessages w.messages
messages_bytes b (is_end e) = tt
messages_bytes b (is_stop s) = tt
messages_bytes b (is_more a o s) = (lies_bytes b o, messages_bytes b s)

lease_line_is : (ms : List (List ℕ)) → AllMessages ms → {w : Lease} → LeaseIs ms w → LeaseLineIs w (lease_line w)
unfolding lease_line
lease_line_is ms h (lease_none f) = none_line
lease_line_is ms h (lease_from_to {s = low} {l = high} a b f) =
    from_to_line (line_is (two low high (omega (arith, lease_below a.0 low (seen_bytes ms h a.0 a.1) a.2)) (omega (arith, lease_below b.0 high (seen_bytes ms h b.0 b.1) b.2))))

last_line_is : (e : Ending) → ((p : ℕ) → e ≡ stopped_at p → Fits p) → LastLineIs e (last_line e)
last_line_is at_end h = nothing_last
last_line_is (stopped_at p) h = refused_last (refused_line_lem 24 p (omega arith) (h p refl))

-- ---- The report

stopped_began : (g : Stage) (i p : ℕ) → ending_in g i ≡ stopped_at p → p ≡ i
stopped_began at_tag i p e = clash (cc)
stopped_began at_high i p e = cc
stopped_began (at_low h) i p e = cc
stopped_began (inside n kept) i p e = cc
stopped_began stopped i p e = cc

module _ (f : List ℕ) (b : AllBytes f) where
  abbrev w : Capture
  w = capture_of f

  abbrev ms : List (List ℕ)
  ms = w.messages

  small : Small (tally_of ms)
  small = small_tally ms (omega (arith, few_messages (captures f) (omega arith)))

  place_fits : (p : ℕ) → w.ending ≡ stopped_at p → Fits p
  place_fits p e =
      let s = fed begun f in
      let z : p ≡ s.began = stopped_began s.stage s.began p ((run_is_the_file f).ending ∙ e) in
      omega (arith, z, (no_sum_wraps f b).place)

  report_lines : LinesAre (tally_of ms) w.ending (report f)
  unfolding report report_of
  report_lines =
      let t = tally_is ms in
      record {
        messages = messages_line (tally_of ms).messages;
        accepts = accepted_line (tally_of ms).accepts;
        refusals = refusals_lines 1 (tally_of ms).refusals;
        codes = code_lines 0 (tally_of ms).held (tally_of ms).bytes;
        lease = lease_line (tally_of ms).lease;
        last = last_line w.ending;
        reads = refl;
        messages_is = messages_line_lem (tally_of ms).messages (omega (arith, small.messages));
        accepts_is = accepted_line_lem (tally_of ms).accepts (omega (arith, small.accepts));
        refusals_are = refusals_from (tally_of ms) small t.seven 7 0 refl;
        codes_are = codes_from (tally_of ms) small t.held_all t.bytes_all 256 0 refl;
        lease_is = lease_line_is ms (messages_bytes b (captures f)) t.lease;
        last_is = last_line_is w.ending place_fits;
      }

  report_is : ReportIs f (report f)
  report_is = record { messages = ms; ending = w.ending; tally = tally_of ms; file_is = file_is f b; tally_is = tally_is ms; lines_are = report_lines }

  same_report : (xs : List ℕ) → ReportIs f xs → report f ≡ xs
  same_report xs r =
      let z = one_reading f (file_is f b) r.file_is in
      let t : tally_of ms ≡ r.tally = one_tally ms (tally_of ms) r.tally (tally_is ms) (subst (λ (l : List (List ℕ)). TallyIs l r.tally) (sym z.0) r.tally_is) in
      one_lines r.tally r.ending (report f) xs (subst (λ (x : Tally). LinesAre x r.ending (report f)) t (subst (λ (e : Ending). LinesAre (tally_of ms) e (report f)) z.1 report_lines)) r.lines_are

pub report_is_correct : ReportIsCorrect
report_is_correct f xs b = ((λ e. subst (ReportIs f) e (report_is f b)), same_report f b xs)
