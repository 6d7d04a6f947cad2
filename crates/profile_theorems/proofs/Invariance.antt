-- The answer hangs on the pieces of 53 and of the codes named alone, by their codes and bytes. Assumes nothing.
use mathlib.Core.Path.{◌≡◌, refl, sym, ap, ap₂, ◌∙◌}
use mathlib.Core.List.{List, [], ◌∷◌, ◌++◌}
use mathlib.Core.Bool.{Bool, true, false, cond, not}
use mathlib.Core.Logic.{inl, inr}
use Prim.Native.Nat.{ℕ, ◌+◌, ◌*◌}
use lib.Dec.{eqb}
use borrow.Author.Tests.{eqb-true, eq-eqb}
use Rattle.options.specs.Message.{Rec, Opt, Earlier, In, Precedes, end_to_end}
use Rattle.options.specs.Reading.{either, among, items, pieces}
use Rattle.options.specs.Kinds.{broken, number, part, kinds}
use Rattle.options.specs.KindClaims.{OneOf}
use Rattle.options.specs.Answers.{Origin, Content, unknown, known, Found, origin_of, content_of, shown, every_code, shown_number}
use Rattle.options.specs.ReadingClaims.{IsAccepted}
use Rattle.options.specs.Profile.{any_piece, is_formed, is_type, out_of_order_value, ReplyRule, well_formed_value, missing, in_plan_order, reply_rules, breaks_rule, broken_set, yes_or, declined, profile_of, profile_in, profile}
use Rattle.options.specs.ProfileClaims.{named_codes, NamedPieces, NamedPiecesRight, SameNamedSameAnswer}
use Rattle.theorems.proofs.View.{clash}
use Rattle.theorems.proofs.Reading.{same_list_lem, not_both_earlier, is_correct}

-- ---- The options with one of the codes

kept : List ℕ → List Opt → List Opt
kept codes [] = []
kept codes (o ∷ os) = cond (among o.item.tag codes) (o ∷ kept codes os) (kept codes os)

-- a code among them is none of those that are left out
other : (codes : List ℕ) (c x : ℕ) → among c codes ≡ true → among x codes ≡ false → eqb c x ≡ false
other codes c x h n = go (eqb c x) refl
  where
    go : (b : Bool) → eqb c x ≡ b → b ≡ false
    go true q = let z : among c codes ≡ among x codes = ap (λ (y : ℕ). among y codes) (eqb-true c x q) in clash (cc)
    go false q = refl

module _ (codes : List ℕ) where
  pieces_kept : (c : ℕ) → among c codes ≡ true → (os : List Opt) → pieces c (kept codes os) ≡ pieces c os
  unfolding kept pieces
  pieces_kept c h [] = refl
  pieces_kept c h (o ∷ os) = go (among o.item.tag codes) refl (pieces_kept c h os)
    where
      go : (b : Bool) → among o.item.tag codes ≡ b → pieces c (kept codes os) ≡ pieces c os
          → pieces c (cond b (o ∷ kept codes os) (kept codes os)) ≡ cond (eqb c o.item.tag) (o ∷ pieces c os) (pieces c os)
      go true q ih = ap (λ (l : List Opt). cond (eqb c o.item.tag) (o ∷ l) l) ih
      go false q ih = rw (other codes c o.item.tag h q) ih

  order_kept : (a b : ℕ) → among a codes ≡ true → among b codes ≡ true → (os : List Opt) → out_of_order_value a b (kept codes os) ≡ out_of_order_value a b os
  unfolding kept out_of_order_value
  order_kept a b h k [] = refl
  order_kept a b h k (o ∷ os) = go (among o.item.tag codes) refl (order_kept a b h k os)
    where
      go : (s : Bool) → among o.item.tag codes ≡ s → out_of_order_value a b (kept codes os) ≡ out_of_order_value a b os
          → out_of_order_value a b (cond s (o ∷ kept codes os) (kept codes os)) ≡ cond (eqb a o.item.tag) false (cond (eqb b o.item.tag) (any_piece (pieces a os)) (out_of_order_value a b os))
      go true q ih = rw (pieces_kept a h os, ih)
      go false q ih = rw (other codes a o.item.tag h q, other codes b o.item.tag k q) ih

-- ---- Options with the same codes and bytes

first_same : {r q : Rec} {rs qs : List Rec} → r ∷ rs ≡ q ∷ qs → r ≡ q
first_same e = cc

rest_same : {r q : Rec} {rs qs : List Rec} → r ∷ rs ≡ q ∷ qs → rs ≡ qs
rest_same e = cc

pieces_alike : (c : ℕ) (xs ys : List Opt) → items xs ≡ items ys → items (pieces c xs) ≡ items (pieces c ys)
unfolding items pieces
pieces_alike c [] [] e = refl
pieces_alike c [] (y ∷ ys) e = clash (cc)
pieces_alike c (x ∷ xs) [] e = clash (cc)
pieces_alike c (x ∷ xs) (y ∷ ys) e = go (eqb c x.item.tag) (eqb c y.item.tag) same (pieces_alike c xs ys (rest_same e))
  where
    h : x.item ≡ y.item
    h = first_same e

    same : eqb c x.item.tag ≡ eqb c y.item.tag
    same = ap (λ (r : Rec). eqb c r.tag) h

    go : (a b : Bool) → a ≡ b → items (pieces c xs) ≡ items (pieces c ys) → items (cond a (x ∷ pieces c xs) (pieces c xs)) ≡ items (cond b (y ∷ pieces c ys) (pieces c ys))
    go true true q ih = ap₂ (λ (r : Rec) (rs : List Rec). r ∷ rs) h ih
    go true false q ih = clash (cc)
    go false true q ih = clash (cc)
    go false false q ih = ih

any_alike : (ps qs : List Opt) → items ps ≡ items qs → any_piece ps ≡ any_piece qs
unfolding items
any_alike [] [] e = refl
any_alike [] (q ∷ qs) e = clash (cc)
any_alike (p ∷ ps) [] e = clash (cc)
any_alike (p ∷ ps) (q ∷ qs) e = refl

joined_alike : (ps qs : List Opt) → items ps ≡ items qs → end_to_end ps ≡ end_to_end qs
unfolding items end_to_end
joined_alike [] [] e = refl
joined_alike [] (q ∷ qs) e = clash (cc)
joined_alike (p ∷ ps) [] e = clash (cc)
joined_alike (p ∷ ps) (q ∷ qs) e =
    ap₂ (λ (r : Rec) (l : List ℕ). r.body ++ l) (first_same e) (joined_alike ps qs (rest_same e))

-- what is answered differs in the origin alone
formed_content : (g h : Origin) (x : Content) → is_formed (Found g x) ≡ is_formed (Found h x)
formed_content g h (unknown n) = refl
formed_content g h (known (broken n)) = refl
formed_content g h (known (number k z)) = refl
formed_content g h (known (part k n)) = refl

number_content : (g h : Origin) (x : Content) → shown_number (Found g x) ≡ shown_number (Found h x)
number_content g h (unknown n) = refl
number_content g h (known (broken n)) = refl
number_content g h (known (number k (lib.IntN.pos z))) = refl
number_content g h (known (number k (lib.IntN.negsuc z))) = refl
number_content g h (known (part k n)) = refl

pub formed_alike : (c : ℕ) (ps qs : List Opt) → items ps ≡ items qs → is_formed (shown kinds every_code c ps) ≡ is_formed (shown kinds every_code c qs)
unfolding items
formed_alike c [] [] e = refl
formed_alike c [] (q ∷ qs) e = clash (cc)
formed_alike c (p ∷ ps) [] e = clash (cc)
formed_alike c (p ∷ ps) (q ∷ qs) e =
    formed_content (origin_of p ps) (origin_of q qs) (content_of kinds every_code c (end_to_end (p ∷ ps))) ∙ ap (λ (d : List ℕ). is_formed (Found (origin_of q qs) (content_of kinds every_code c d))) (joined_alike (p ∷ ps) (q ∷ qs) e)

number_alike : (c : ℕ) (ps qs : List Opt) → items ps ≡ items qs → shown_number (shown kinds every_code c ps) ≡ shown_number (shown kinds every_code c qs)
unfolding items
number_alike c [] [] e = refl
number_alike c [] (q ∷ qs) e = clash (cc)
number_alike c (p ∷ ps) [] e = clash (cc)
number_alike c (p ∷ ps) (q ∷ qs) e =
    number_content (origin_of p ps) (origin_of q qs) (content_of kinds every_code c (end_to_end (p ∷ ps))) ∙ ap (λ (d : List ℕ). shown_number (Found (origin_of q qs) (content_of kinds every_code c d))) (joined_alike (p ∷ ps) (q ∷ qs) e)

order_alike : (a b : ℕ) (xs ys : List Opt) → items xs ≡ items ys → out_of_order_value a b xs ≡ out_of_order_value a b ys
unfolding items out_of_order_value
order_alike a b [] [] e = refl
order_alike a b [] (y ∷ ys) e = clash (cc)
order_alike a b (x ∷ xs) [] e = clash (cc)
order_alike a b (x ∷ xs) (y ∷ ys) e =
    let t : items xs ≡ items ys = rest_same e in
    let h : x.item ≡ y.item = first_same e in
    ap (λ (r : Rec). cond (eqb a r.tag) false (cond (eqb b r.tag) (any_piece (pieces a xs)) (out_of_order_value a b xs))) h
    ∙ ap₂ (λ (s u : Bool). cond (eqb a y.item.tag) false (cond (eqb b y.item.tag) s u)) (any_alike (pieces a xs) (pieces a ys) (pieces_alike a xs ys t)) (order_alike a b xs ys t)

-- ---- The rules

-- the codes that a rule names are among these
abbrev Named : List ℕ → ReplyRule → Type 0
Named codes (well_formed_value c) = among c codes ≡ true
Named codes (missing c) = among c codes ≡ true
Named codes (in_plan_order a b) = (among a codes ≡ true) × (among b codes ≡ true)

abbrev AllNamed : List ℕ → List ReplyRule → Type 0
AllNamed codes [] = Unit {0}
AllNamed codes (r ∷ rs) = Named codes r × AllNamed codes rs

module _ (codes : List ℕ) (os : List Opt) where
  rule_kept : (r : ReplyRule) → Named codes r → breaks_rule (kept codes os) r ≡ breaks_rule os r
  rule_kept (well_formed_value c) h = ap (λ (l : List Opt). not (is_formed (shown kinds every_code c l))) (pieces_kept codes c h os)
  rule_kept (missing c) h = ap any_piece (pieces_kept codes c h os)
  rule_kept (in_plan_order a b) h = order_kept codes a b h.0 h.1 os

  set_kept : (rs : List ReplyRule) → AllNamed codes rs → broken_set (kept codes os) rs ≡ broken_set os rs
  unfolding broken_set
  set_kept [] h = refl
  set_kept (r ∷ rs) h = ap₂ (λ (b : Bool) (n : ℕ). cond b 1 0 + 2 * n) (rule_kept r h.0) (set_kept rs h.1)

module _ (xs ys : List Opt) (e : items xs ≡ items ys) where
  rule_alike : (r : ReplyRule) → breaks_rule xs r ≡ breaks_rule ys r
  rule_alike (well_formed_value c) = ap not (formed_alike c (pieces c xs) (pieces c ys) (pieces_alike c xs ys e))
  rule_alike (missing c) = any_alike (pieces c xs) (pieces c ys) (pieces_alike c xs ys e)
  rule_alike (in_plan_order a b) = order_alike a b xs ys e

  set_alike : (rs : List ReplyRule) → broken_set xs rs ≡ broken_set ys rs
  unfolding broken_set
  set_alike [] = refl
  set_alike (r ∷ rs) = ap₂ (λ (b : Bool) (n : ℕ). cond b 1 0 + 2 * n) (rule_alike r) (set_alike rs)

  profile_alike : profile_of xs ≡ profile_of ys
  unfolding profile_of
  profile_alike =
      ap₂ (λ (b : Bool) (n : ℕ). cond b (yes_or n) (declined 25 0)) (ap is_type (number_alike 53 (pieces 53 xs) (pieces 53 ys) (pieces_alike 53 xs ys e))) (set_alike reply_rules)

profile_kept : (os : List Opt) → profile_of (kept named_codes os) ≡ profile_of os
unfolding profile_of
profile_kept os =
    ap₂ (λ (b : Bool) (n : ℕ). cond b (yes_or n) (declined 25 0)) (ap (λ (l : List Opt). is_type (shown_number (shown kinds every_code 53 l))) (pieces_kept named_codes 53 refl os))
    (set_kept named_codes os reply_rules (refl, (refl, (refl, (refl, (refl, (refl, (refl, ((refl, refl), tt)))))))))

-- ---- The kept options are the named pieces

among_one : (c : ℕ) (codes : List ℕ) → among c codes ≡ true → OneOf c codes
among_one c [] e = clash (cc)
among_one c (x ∷ codes) e = go (eqb c x) refl e (among_one c codes)
  where
    go : (b : Bool) → eqb c x ≡ b → either b (among c codes) ≡ true → (among c codes ≡ true → OneOf c codes) → OneOf c (x ∷ codes)
    go true q z ih = inl (eqb-true c x q)
    go false q z ih = inr (ih z)

one_among : (c : ℕ) (codes : List ℕ) → OneOf c codes → among c codes ≡ true
one_among c [] h = absurd h
one_among c (x ∷ codes) (inl e) = rw (eq-eqb c x e)
one_among c (x ∷ codes) (inr h) = go (eqb c x) (one_among c codes h)
  where
    go : (b : Bool) → among c codes ≡ true → either b (among c codes) ≡ true
    go true q = refl
    go false q = q

from_kept : (codes : List ℕ) (os : List Opt) (o : Opt) → In o (kept codes os) → In o os × (among o.item.tag codes ≡ true)
unfolding kept
from_kept codes [] o h = absurd h
from_kept codes (x ∷ os) o h = go (among x.item.tag codes) refl h (from_kept codes os o)
  where
    go : (b : Bool) → among x.item.tag codes ≡ b → In o (cond b (x ∷ kept codes os) (kept codes os)) → (In o (kept codes os) → In o os × (among o.item.tag codes ≡ true)) → In o (x ∷ os) × (among o.item.tag codes ≡ true)
    go true q (inl z) ih = (inl z, ap (λ (y : Opt). among y.item.tag codes) z ∙ q)
    go true q (inr z) ih = (inr (ih z).0, (ih z).1)
    go false q z ih = (inr (ih z).0, (ih z).1)

to_kept : (codes : List ℕ) (os : List Opt) (o : Opt) → In o os → among o.item.tag codes ≡ true → In o (kept codes os)
unfolding kept
to_kept codes [] o h e = absurd h
to_kept codes (x ∷ os) o h e = go (among x.item.tag codes) refl h (to_kept codes os o)
  where
    go : (b : Bool) → among x.item.tag codes ≡ b → In o (x ∷ os) → (In o os → among o.item.tag codes ≡ true → In o (kept codes os)) → In o (cond b (x ∷ kept codes os) (kept codes os))
    go true q (inl z) ih = inl z
    go true q (inr z) ih = inr (ih z e)
    go false q (inl z) ih = let y : among o.item.tag codes ≡ among x.item.tag codes = ap (λ (y : Opt). among y.item.tag codes) z in clash (cc)
    go false q (inr z) ih = ih z e

kept_order : (codes : List ℕ) (os : List Opt) (o q : Opt) → Precedes o q (kept codes os) → Precedes o q os
unfolding kept
kept_order codes [] o q h = absurd h
kept_order codes (x ∷ os) o q h = go (among x.item.tag codes) h (kept_order codes os o q)
  where
    go : (b : Bool) → Precedes o q (cond b (x ∷ kept codes os) (kept codes os)) → (Precedes o q (kept codes os) → Precedes o q os) → Precedes o q (x ∷ os)
    go true (inl z) ih = inl (z.0, (from_kept codes os q z.1).0)
    go true (inr z) ih = inr (ih z)
    go false z ih = inr (ih z)

kept_named : (m : List ℕ) (a : IsAccepted m) → NamedPieces m (kept named_codes a.options)
kept_named m a =
    let c = is_correct m a.options a.reads in
    record {
      lists = λ o. (
        (λ h. let t = from_kept named_codes a.options o h in ((c.lists o).0 t.0, among_one o.item.tag named_codes t.1)),
        (λ s. to_kept named_codes a.options o ((c.lists o).1 s.0) (one_among o.item.tag named_codes s.1)),
      );
      in_order = λ o q h. c.in_order o q (kept_order named_codes a.options o q h);
    }

one_named : (m : List ℕ) (xs ys : List Opt) → NamedPieces m xs → NamedPieces m ys → xs ≡ ys
one_named m xs ys a b =
    same_list_lem xs ys (λ x h. (b.lists x).1 ((a.lists x).0 h)) (λ x h. (a.lists x).1 ((b.lists x).0 h))
    (λ x y h k. not_both_earlier x y (a.in_order x y h) (b.in_order y x k)) (λ x h. never x (a.in_order x x h)) (λ x h. never x (b.in_order x x h))
  where
    never : (x : Opt) → Earlier x x → ⊥
    never x e = not_both_earlier x x e e

by_named : (m : List ℕ) (a : IsAccepted m) (xs : List Opt) → NamedPieces m xs → profile m ≡ profile_of xs
unfolding profile
by_named m a xs n =
    ap profile_in a.reads ∙ sym (profile_kept a.options) ∙ ap profile_of (one_named m (kept named_codes a.options) xs (kept_named m a) n)

pub named_pieces_right : NamedPiecesRight
named_pieces_right m a = let n = kept_named m a in (kept named_codes a.options, (n, (λ ys h. one_named m (kept named_codes a.options) ys n h)))

pub same_named_same_answer : SameNamedSameAnswer
same_named_same_answer m m' xs ys a a' n n' q = by_named m a xs n ∙ profile_alike xs ys q ∙ sym (by_named m' a' ys n')
