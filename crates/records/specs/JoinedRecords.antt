-- The records of options, by what is kept of their codes: no public contract rests on this. Assumes nothing.
use Rattle.std.specs.Prelude.{◌≡◌, cond, List, [], ◌∷◌, ℕ, suc, ◌+◌, ◌*◌, ◌/◌, ◌%◌, ◌≤◌, ◌<◌, eqb, length, get_or, set}
use Rattle.options.specs.Message.{Rec, Opt, In, end_to_end}
use Rattle.options.specs.Reading.{pieces}
use Rattle.options.specs.CodeSet.{marked, with_mark, no_codes}
use Rattle.message.specs.Scan.{Scan}

-- every code is a byte
abbrev pub Small : List Opt → Type 0
Small os = (o : Opt) → In o os → o.item.tag < 256

-- a record, with its length in two bytes
abbrev pub long_record : ℕ → List ℕ → List ℕ
long_record c d = c ∷ length d / 256 ∷ length d % 256 ∷ d

-- what is laid of the code c with the joined bytes d, by a table that has 0 for a code without a record
abbrev pub first_record : List ℕ → ℕ → List ℕ → List ℕ
first_record t c d = cond (eqb (get_or t c 0) 0) [] (long_record c d)

-- the joined record of the first of some options
abbrev pub joined_record : Opt → List Opt → Rec
joined_record o os = record { tag = o.item.tag; body = end_to_end (pieces o.item.tag (o ∷ os)) }

-- by the set of the codes that have a record already
unfoldable pub sheet_from : List ℕ → List Opt → List Rec
unfolding pieces end_to_end
sheet_from w [] = []
sheet_from w (o ∷ os) = cond (marked w o.item.tag) (sheet_from w os) (joined_record o os ∷ sheet_from (with_mark w o.item.tag) os)

-- 52 is no record
abbrev pub only52 : List ℕ
only52 = with_mark no_codes 52

-- the number of a code's pieces after one more; 2 stands for every number from 2 on
abbrev pub one_more_value : ℕ → ℕ
one_more_value n = cond (eqb n 0) 1 2

-- a table of the codes, with the pieces of each counted
unfoldable pub counted : List ℕ → List Opt → List ℕ
counted t [] = t
counted t (o ∷ os) = counted (set t o.item.tag (one_more_value (get_or t o.item.tag 0))) os

-- the records by such a table, in which a code that has none, or has it already, has 0
unfoldable pub sheet_by : List ℕ → List Opt → List Rec
unfolding pieces end_to_end
sheet_by t [] = []
sheet_by t (o ∷ os) = cond (eqb (get_or t o.item.tag 0) 0) (sheet_by t os) (joined_record o os ∷ sheet_by (set t o.item.tag 0) os)

-- where the table has 1 for a code, that is a code, and stands once at most
pub record Tells (t : List ℕ) (os : List Opt) : Type 0 where
  pub bytes : length t ≡ 256
  pub no_pad : get_or t 0 0 ≡ 1 → ⊥
  pub no_end : get_or t 255 0 ≡ 1 → ⊥
  pub once : (c : ℕ) → c < 256 → get_or t c 0 ≡ 1 → length (pieces c os) ≤ 1

-- how many codes of the options are not in the set w
unfoldable pub fresh : List ℕ → List Opt → ℕ
fresh w [] = 0
fresh w (o ∷ os) = cond (marked w o.item.tag) (fresh w os) (suc (fresh (with_mark w o.item.tag) os))

-- 3 where option 52 was met, whose data then start at s
abbrev pub head52 : ℕ → ℕ
head52 s = cond (eqb s 0) 0 3

-- what the records take with what option 52 would take, and two bytes for each option: `codes` codes, by what is told of the message
abbrev pub needed : Scan → ℕ → ℕ
needed t codes = t.used + codes * 3

-- a buffer of n bytes, with the same
abbrev pub held : ℕ → Scan → ℕ
held n t = n + t.count * 2 + t.whole + head52 t.start
