-- Records split into pieces and read are the records again; a code's pieces are those of its record. Assumes nothing.
use mathlib.Core.Path.{◌≡◌, refl, sym, ap, ap₂, ◌∙◌, subst}
use mathlib.Core.List.{List, [], ◌∷◌, ◌++◌, append_assoc, append-nil}
use mathlib.Core.Bool.{Bool, true, false, cond}
use mathlib.Core.Logic.{inl, inr}
use Prim.Native.Nat.{ℕ, zero, suc, ◌+◌, ◌≤◌}
use native.Mathlib.Omega.{arith}
use lib.ListN.{length, take, drop, take-append-drop}
use lib.Dec.{eqb, ltb}
use borrow.Author.Tests.{eqb-true, eq-eqb, ne_eqb, le-ltb}
use Rattle.options.specs.Message.{Rec, Opt, end_to_end}
use Rattle.options.specs.Reading.{either, among, items, pieces}
use Rattle.options.specs.Answers.{Wholeness, in_one, in_pieces, wholeness_of, but52, further_data, joined_records}
use Rattle.options.specs.Writing.{with52, split_up, split_all}
use Rattle.options.specs.WriterClaims.{Has, all_data}
use Rattle.options.specs.WritingClaims.{wholeness_for}
use Rattle.theorems.proofs.View.{clash}
use Rattle.writing_theorems.proofs.SheetView.{rec}
use Rattle.writing_theorems.proofs.Written.{AllPlain}
use Rattle.writing_theorems.proofs.Splitting.{all_plain}

-- ---- split, and joined again

-- the pieces of one record give its data, and then the further pieces of what follows
further_split : (k c : ℕ) (d : List ℕ) (ts : List Rec) → further_data c (split_up k c d ++ ts) ≡ d ++ further_data c ts
unfolding further_data split_up
further_split zero c d ts = rw (eq-eqb c c refl)
further_split (suc k) c d ts = go (ltb 255 (length d)) (further_split k c (drop 255 d) ts)
  where
    go : (b : Bool) → further_data c (split_up k c (drop 255 d) ++ ts) ≡ drop 255 d ++ further_data c ts
        → further_data c (cond b (rec c (take 255 d) ∷ split_up k c (drop 255 d)) (rec c d ∷ []) ++ ts) ≡ d ++ further_data c ts
    go false ih = rw (eq-eqb c c refl)
    go true ih = rw (eq-eqb c c refl) (ap (λ (l : List ℕ). take 255 d ++ l) ih ∙ sym (append_assoc (take 255 d) (drop 255 d) (further_data c ts)) ∙ ap (λ (l : List ℕ). l ++ further_data c ts) (take-append-drop 255 d))

-- another code's pieces are passed over
further_other : (k x c : ℕ) (d : List ℕ) (ts : List Rec) → (x ≡ c → ⊥) → further_data x (split_up k c d ++ ts) ≡ further_data x ts
unfolding further_data split_up
further_other zero x c d ts n = rw (ne_eqb x c n)
further_other (suc k) x c d ts n = go (ltb 255 (length d)) (further_other k x c (drop 255 d) ts n)
  where
    go : (b : Bool) → further_data x (split_up k c (drop 255 d) ++ ts) ≡ further_data x ts
        → further_data x (cond b (rec c (take 255 d) ∷ split_up k c (drop 255 d)) (rec c d ∷ []) ++ ts) ≡ further_data x ts
    go false ih = rw (ne_eqb x c n)
    go true ih = rw (ne_eqb x c n) ih

-- pieces of a code met before give no record
joined_seen : (k c : ℕ) (d : List ℕ) (seen : List ℕ) (ts : List Rec) → among c seen ≡ true → ((s : List ℕ) → among c s ≡ true → joined_records (c ∷ s) ts ≡ joined_records s ts) → joined_records seen (split_up k c d ++ ts) ≡ joined_records seen ts
unfolding joined_records split_up
joined_seen zero c d seen ts e f = rw e (f seen e)
joined_seen (suc k) c d seen ts e f = go (ltb 255 (length d)) (λ s q. joined_seen k c (drop 255 d) s ts q f)
  where
    again : among c (c ∷ seen) ≡ true
    again = rw (eq-eqb c c refl)

    go : (b : Bool) → ((s : List ℕ) → among c s ≡ true → joined_records s (split_up k c (drop 255 d) ++ ts) ≡ joined_records s ts)
        → joined_records seen (cond b (rec c (take 255 d) ∷ split_up k c (drop 255 d)) (rec c d ∷ []) ++ ts) ≡ joined_records seen ts
    go false ih = rw e (f seen e)
    go true ih = rw e (ih (c ∷ seen) again ∙ f seen e)

-- of the codes met before only those that stand there count
joined_met : (s s' : List ℕ) (ts : List Rec) → ((r : Rec) → Has r ts → among r.tag s ≡ among r.tag s') → joined_records s ts ≡ joined_records s' ts
unfolding joined_records
joined_met s s' [] f = refl
joined_met s s' (r ∷ ts) f = rw (f r (inl refl), joined_met (r.tag ∷ s) (r.tag ∷ s') ts (λ q h. ap (either (eqb q.tag r.tag)) (f q (inr h)))) refl

met_twice : (c : ℕ) (s : List ℕ) → among c s ≡ true → (z : ℕ) → among z (c ∷ s) ≡ among z s
met_twice c s e z = go (eqb z c) refl
  where
    go : (b : Bool) → eqb z c ≡ b → either b (among z s) ≡ among z s
    go true q = sym (ap (λ (x : ℕ). among x s) (eqb-true z c q) ∙ e)
    go false q = refl

-- a record split into pieces is one record again
joined_split : (k c : ℕ) (d seen : List ℕ) (ts : List Rec) → among c seen ≡ false → joined_records seen (split_up k c d ++ ts) ≡ record { tag = c; body = d ++ further_data c ts } ∷ joined_records (c ∷ seen) ts
unfolding joined_records split_up
joined_split zero c d seen ts e = rw e
joined_split (suc k) c d seen ts e = go (ltb 255 (length d))
  where
    again : among c (c ∷ seen) ≡ true
    again = rw (eq-eqb c c refl)

    go : (b : Bool) → joined_records seen (cond b (rec c (take 255 d) ∷ split_up k c (drop 255 d)) (rec c d ∷ []) ++ ts) ≡ record { tag = c; body = d ++ further_data c ts } ∷ joined_records (c ∷ seen) ts
    go false = rw e
    go true =
        rw e
        (ap₂ (λ (l : List ℕ) (rs : List Rec). record { tag = c; body = take 255 d ++ l } ∷ rs) (further_split k c (drop 255 d) ts)
        (joined_seen k c (drop 255 d) (c ∷ seen) ts again (λ s q. joined_met (c ∷ s) s ts (λ r h. met_twice c s q r.tag)))
        ∙ ap (λ (l : List ℕ). record { tag = c; body = l } ∷ joined_records (c ∷ seen) ts)
        (sym (append_assoc (take 255 d) (drop 255 d) (further_data c ts)) ∙ ap (λ (l : List ℕ). l ++ further_data c ts) (take-append-drop 255 d)))

-- no tag stands twice, nor was met before
abbrev pub Fresh : List ℕ → List Rec → Type 0
Fresh seen [] = Unit {0}
Fresh seen (r ∷ rs) = (among r.tag seen ≡ false) × Fresh (r.tag ∷ seen) rs

not_again : (c : ℕ) (seen : List ℕ) (rs : List Rec) → among c seen ≡ true → Fresh seen rs → further_data c (split_all rs) ≡ []
unfolding split_all further_data
not_again c seen [] e f = refl
not_again c seen (r ∷ rs) e f =
    let n : c ≡ r.tag → ⊥ = λ q. let z : true ≡ false = sym e ∙ ap (λ (x : ℕ). among x seen) q ∙ f.0 in clash (cc) in
    let m : among c (r.tag ∷ seen) ≡ true = rw (ne_eqb c r.tag n) e in
    further_other (length r.body) c r.tag r.body (split_all rs) n ∙ not_again c (r.tag ∷ seen) rs m f.1

-- the records of a sheet, split into pieces and joined, are the sheet's
pub split_joined : (seen : List ℕ) (rs : List Rec) → Fresh seen rs → joined_records seen (split_all rs) ≡ rs
unfolding split_all joined_records
split_joined seen [] f = refl
split_joined seen (r ∷ rs) f =
    let n : among r.tag (r.tag ∷ seen) ≡ true = rw (eq-eqb r.tag r.tag refl) in
    joined_split (length r.body) r.tag r.body seen (split_all rs) f.0
    ∙ ap₂ (λ (l : List ℕ) (ts : List Rec). record { tag = r.tag; body = r.body ++ l } ∷ ts) (not_again r.tag (r.tag ∷ seen) rs n f.1) (split_joined (r.tag ∷ seen) rs f.1)
    ∙ ap (λ (l : List ℕ). record { tag = r.tag; body = l } ∷ rs) (append-nil r.body)

-- "every option but 52": the plan's own is no record
plain_has : (r : Rec) (ts : List Rec) → AllPlain ts → Has r ts → eqb r.tag 52 ≡ false
plain_has r [] p h = absurd h
plain_has r (x ∷ ts) p (inl e) = ap (λ (y : Rec). eqb y.tag 52) e ∙ p.0.no_52
plain_has r (x ∷ ts) p (inr h) = plain_has r ts p.1 h

but52_same : (rs : List Rec) → AllPlain rs → but52 rs ≡ rs
unfolding but52
but52_same [] d = refl
but52_same (r ∷ rs) d = rw d.0.no_52 (ap (λ (l : List Rec). r ∷ l) (but52_same rs d.1))

but52_plan : (p : ℕ) (ts : List Rec) → AllPlain ts → but52 (joined_records [] (with52 p ts)) ≡ but52 (joined_records [] ts)
unfolding but52 joined_records
but52_plan p ts d = go (eqb p 0)
  where
    go : (b : Bool) → but52 (joined_records [] (cond b ts (rec 52 (p ∷ []) ∷ ts))) ≡ but52 (joined_records [] ts)
    go true = refl
    go false = ap but52 (joined_met (52 ∷ []) [] ts (λ r h. rw (plain_has r ts d h)))

-- the records of a message in which a plan has put the pieces
pub records_back : (p : ℕ) (rs : List Rec) → AllPlain rs → Fresh [] rs → but52 (joined_records [] (with52 p (split_all rs))) ≡ rs
records_back p rs d f = but52_plan p (split_all rs) (all_plain rs d) ∙ ap but52 (split_joined [] rs f) ∙ but52_same rs d

-- ---- the pieces of a code

unfoldable pub with_code : ℕ → List Rec → List Rec
with_code c [] = []
with_code c (r ∷ rs) = cond (eqb c r.tag) (r ∷ with_code c rs) (with_code c rs)

pub pieces_items : (c : ℕ) (os : List Opt) → items (pieces c os) ≡ with_code c (items os)
unfolding items pieces with_code
pieces_items c [] = refl
pieces_items c (o ∷ os) = go (eqb c o.item.tag) (pieces_items c os)
  where
    go : (b : Bool) → items (pieces c os) ≡ with_code c (items os) → items (cond b (o ∷ pieces c os) (pieces c os)) ≡ cond b (o.item ∷ with_code c (items os)) (with_code c (items os))
    go true ih = ap (λ (l : List Rec). o.item ∷ l) ih
    go false ih = ih

of_split : (k c : ℕ) (d : List ℕ) (ts : List Rec) → with_code c (split_up k c d ++ ts) ≡ split_up k c d ++ with_code c ts
unfolding with_code split_up
of_split zero c d ts = rw (eq-eqb c c refl)
of_split (suc k) c d ts = go (ltb 255 (length d)) (of_split k c (drop 255 d) ts)
  where
    go : (b : Bool) → with_code c (split_up k c (drop 255 d) ++ ts) ≡ split_up k c (drop 255 d) ++ with_code c ts
        → with_code c (cond b (rec c (take 255 d) ∷ split_up k c (drop 255 d)) (rec c d ∷ []) ++ ts) ≡ cond b (rec c (take 255 d) ∷ split_up k c (drop 255 d)) (rec c d ∷ []) ++ with_code c ts
    go true ih = rw (eq-eqb c c refl) (ap (λ (l : List Rec). rec c (take 255 d) ∷ l) ih)
    go false ih = rw (eq-eqb c c refl)

of_other : (k x c : ℕ) (d : List ℕ) (ts : List Rec) → (x ≡ c → ⊥) → with_code x (split_up k c d ++ ts) ≡ with_code x ts
unfolding with_code split_up
of_other zero x c d ts n = rw (ne_eqb x c n)
of_other (suc k) x c d ts n = go (ltb 255 (length d)) (of_other k x c (drop 255 d) ts n)
  where
    go : (b : Bool) → with_code x (split_up k c (drop 255 d) ++ ts) ≡ with_code x ts → with_code x (cond b (rec c (take 255 d) ∷ split_up k c (drop 255 d)) (rec c d ∷ []) ++ ts) ≡ with_code x ts
    go true ih = rw (ne_eqb x c n) ih
    go false ih = rw (ne_eqb x c n)

-- none where no record has the code
pub of_none : (c : ℕ) (rs : List Rec) → ((d : List ℕ) → Has (rec c d) rs → ⊥) → with_code c (split_all rs) ≡ []
unfolding split_all with_code
of_none c [] f = refl
of_none c (r ∷ rs) f =
    of_other (length r.body) c r.tag r.body (split_all rs) (λ e. f r.body (inl (ap (λ (x : ℕ). rec x r.body) e))) ∙ of_none c rs (λ d h. f d (inr h))

-- a record's tag was not met before
has_fresh : (c : ℕ) (d seen : List ℕ) (rs : List Rec) → Fresh seen rs → Has (rec c d) rs → among c seen ≡ false
has_fresh c d seen [] f h = absurd h
has_fresh c d seen (r ∷ rs) f (inl e) = ap (λ (x : Rec). among x.tag seen) e ∙ f.0
has_fresh c d seen (r ∷ rs) f (inr h) = later (eqb c r.tag) (has_fresh c d (r.tag ∷ seen) rs f.1 h)
  where
    later : (b : Bool) → either b (among c seen) ≡ false → among c seen ≡ false
    later true e = clash (cc)
    later false e = e

not_met : (c : ℕ) (seen : List ℕ) → among c (c ∷ seen) ≡ false → ⊥
not_met c seen e = let q : among c (c ∷ seen) ≡ true = rw (eq-eqb c c refl) in clash (cc)

-- those of the one record that has it
pub of_record : (c : ℕ) (d seen : List ℕ) (rs : List Rec) → Fresh seen rs → Has (rec c d) rs → with_code c (split_all rs) ≡ split_up (length d) c d
unfolding split_all
of_record c d seen [] f h = absurd h
of_record c d seen (r ∷ rs) f (inl e) =
    ap (λ (x : Rec). with_code c (split_up (length x.body) x.tag x.body ++ split_all rs)) (sym e)
    ∙ of_split (length d) c d (split_all rs)
    ∙ ap (λ (l : List Rec). split_up (length d) c d ++ l)
    (of_none c rs (λ x h. not_met c seen (has_fresh c x (c ∷ seen) rs (subst (λ (y : Rec). Fresh (y.tag ∷ seen) rs) (sym e) f.1) h)))
    ∙ append-nil (split_up (length d) c d)
of_record c d seen (r ∷ rs) f (inr h) =
    of_other (length r.body) c r.tag r.body (split_all rs)
    (λ e. not_met c seen (has_fresh c d (c ∷ seen) rs (subst (λ (x : ℕ). Fresh (x ∷ seen) rs) (sym e) f.1) h))
    ∙ of_record c d (r.tag ∷ seen) rs f.1 h

pub of_plan : (c p : ℕ) (rs : List Rec) → (c ≡ 52 → ⊥) → with_code c (with52 p rs) ≡ with_code c rs
unfolding with_code
of_plan c p rs n = go (eqb p 0)
  where
    go : (b : Bool) → with_code c (cond b rs (rec 52 (p ∷ []) ∷ rs)) ≡ with_code c rs
    go true = refl
    go false = rw (ne_eqb c 52 n)

-- ---- their bytes, and what is said of them

pub end_items : (os : List Opt) → end_to_end os ≡ all_data (items os)
unfolding items end_to_end
end_items [] = refl
end_items (o ∷ os) = ap (λ (l : List ℕ). o.item.body ++ l) (end_items os)

pub split_data : (k c : ℕ) (d : List ℕ) → all_data (split_up k c d) ≡ d
unfolding split_up
split_data zero c d = append-nil d
split_data (suc k) c d = go (ltb 255 (length d)) (split_data k c (drop 255 d))
  where
    go : (b : Bool) → all_data (split_up k c (drop 255 d)) ≡ drop 255 d → all_data (cond b (rec c (take 255 d) ∷ split_up k c (drop 255 d)) (rec c d ∷ [])) ≡ d
    go true ih = ap (λ (l : List ℕ). take 255 d ++ l) ih ∙ take-append-drop 255 d
    go false ih = append-nil d

pub split_some : (k c : ℕ) (d : List ℕ) → split_up k c d ≡ [] → ⊥
unfolding split_up
split_some zero c d e = clash (cc)
split_some (suc k) c d e = go (ltb 255 (length d)) e
  where
    go : (b : Bool) → cond b (rec c (take 255 d) ∷ split_up k c (drop 255 d)) (rec c d ∷ []) ≡ [] → ⊥
    go true z = clash (cc)
    go false z = clash (cc)

abbrev whole_of : List Rec → Wholeness
whole_of [] = in_one
whole_of (r ∷ []) = in_one
whole_of (r ∷ q ∷ rs) = in_pieces (length (all_data (r ∷ q ∷ rs)))

whole_items : (os : List Opt) → wholeness_of os ≡ whole_of (items os)
unfolding items end_to_end
whole_items [] = refl
whole_items (o ∷ []) = refl
whole_items (o ∷ q ∷ os) = ap (λ (l : List ℕ). in_pieces (length (o.item.body ++ (q.item.body ++ l)))) (end_items os)

several : (r : Rec) (rs : List Rec) → (rs ≡ [] → ⊥) → whole_of (r ∷ rs) ≡ in_pieces (length (all_data (r ∷ rs)))
several r [] n = absurd (n refl)
several r (q ∷ rs) n = refl

whole_split : (k c : ℕ) (d : List ℕ) → length d ≤ k + 255 → whole_of (split_up k c d) ≡ wholeness_for d
unfolding split_up
whole_split zero c d h = rw (le-ltb 255 (length d) (omega arith))
whole_split (suc k) c d h = go (ltb 255 (length d))
  where
    go : (b : Bool) → whole_of (cond b (rec c (take 255 d) ∷ split_up k c (drop 255 d)) (rec c d ∷ [])) ≡ cond b (in_pieces (length d)) in_one
    go true =
        several (rec c (take 255 d)) (split_up k c (drop 255 d)) (split_some k c (drop 255 d))
        ∙ ap (λ (l : List ℕ). in_pieces (length l)) (ap (λ (l : List ℕ). take 255 d ++ l) (split_data k c (drop 255 d)) ∙ take-append-drop 255 d)
    go false = refl

pub whole_told : (c : ℕ) (d : List ℕ) (os : List Opt) → items os ≡ split_up (length d) c d → wholeness_of os ≡ wholeness_for d
whole_told c d os e = whole_items os ∙ ap whole_of e ∙ whole_split (length d) c d (omega arith)
