-- The value of data, and what a lookup shows of a known code, are the table's: ValueByTheTable and LookupByTheTable, proved. Assumes nothing.
use mathlib.Core.Path.{◌≡◌, refl, sym, subst}
use mathlib.Core.List.{List, [], ◌∷◌, ◌++◌}
use mathlib.Core.Bool.{Bool, true}
use mathlib.Core.Logic.{inl, inr}
use Prim.Native.Nat.{ℕ}
use lib.ListN.{length, take, drop}
use Rattle.options.specs.Message.{Opt, data_start, In, Standing, PiecesOf, end_to_end}
use Rattle.options.specs.Kinds.{Kind, Value, kinds, unless, meaning, fault, judged}
use Rattle.options.specs.KindClaims.{LengthRule, ValueRule, AllBytes, TableSays, says_8, says_9, says_kind, ValueByTheTable}
use Rattle.options.specs.Answers.{Content, known}
use Rattle.options.specs.ReadingClaims.{ContentIs, is_unknown, when_known, Shows}
use Rattle.options.specs.AnswerClaims.{ShownByTheTable, LookupByTheTable}
use Rattle.theorems.proofs.View.{clash}
use Rattle.theorems.proofs.CodesPresent.{all_drop, all_take}
use Rattle.theorems.proofs.KindMeanings.{means}
use Rattle.theorems.proofs.KindTable.{known_codes}
use Rattle.theorems.proofs.KindRules.{Verdict, keeps, breaks_length, breaks_value_lem, Ruled, row_ruled}
use Rattle.theorems.proofs.Reading.{own_bytes}
use Rattle.theorems.proofs.Lookup.{shows_what_stands}

says : (k : Kind) (c : ℕ) (d : List ℕ) → AllBytes d → (n : ℕ) → Verdict (LengthRule k c d) (ValueRule k c d) n → TableSays k c d (unless n (meaning k d))
says k c d b n (keeps l v) = says_kind l v (means k c d b l)
says k c d b n (breaks_length l) = says_8 l
says k c d b n (breaks_value_lem l v) = says_9 l v

pub value_by_the_table : ValueByTheTable
unfolding judged
value_by_the_table c k d code b =
    let r = row_ruled k c d code in
    let e : kinds.value c d ≡ unless (fault r.row d) (meaning k d) = rw (r.found, r.kind) in
    subst (TableSays k c d) (sym e) (says k c d b (fault r.row d) r.verdict)

-- the joined bytes are bytes of the message
all_append : (xs ys : List ℕ) → AllBytes xs → AllBytes ys → AllBytes (xs ++ ys)
all_append [] ys a b = b
all_append (x ∷ xs) ys a b = (a.0, all_append xs ys a.1 b)

all_joined : (m : List ℕ) → AllBytes m → (ps : List Opt) → ((o : Opt) → In o ps → Standing m o) → AllBytes (end_to_end ps)
unfolding end_to_end
all_joined m b [] h = tt
all_joined m b (o ∷ ps) h =
    all_append o.item.body (end_to_end ps)
    (subst AllBytes (own_bytes m o (h o (inl refl))) (all_take (length o.item.body) (drop (data_start o) m) (all_drop (data_start o) m b)))
    (all_joined m b ps (λ q i. h q (inr i)))

pub lookup_by_the_table : LookupByTheTable
lookup_by_the_table set m c g v b e = go (known v) s.content_is refl
  where
    s : Shows kinds set m c g (known v)
    s = (shows_what_stands kinds set m c g (known v)).0 e

    d : List ℕ
    d = end_to_end (s.first ∷ s.others)

    go : (y : Content) → ContentIs kinds set c d y → y ≡ known v → ShownByTheTable set m c v
    go y (is_unknown k) z = clash (cc)
    go y (when_known k) z =
        let w : kinds.value c d ≡ v = cc in
        let q = (known_codes set c).0 k in
        record {
          is_set = q.0;
          kind = q.1.0;
          has_code = q.1.1;
          body = d;
          joined = record { first = s.first; others = s.others; are_pieces = s.are_pieces; joined = refl };
          says = subst (TableSays q.1.0 c d) w (value_by_the_table c q.1.0 d q.1.1 (all_joined m b (s.first ∷ s.others) (λ o i. ((s.are_pieces.lists o).0 i).0)));
        }
