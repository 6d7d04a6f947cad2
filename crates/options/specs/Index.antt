-- AN INDEX OF A MESSAGE (document 02, request 07; docs/RULES.md, I): how it is built, and a lookup through it. Assumes nothing.
use Rattle.std.specs.Prelude.{List, [], ◌∷◌, Bool, true, false, cond, ℕ, zero, suc, ◌+◌, ◌-◌, length, get_or, take, drop, eqb, ltb}
use Rattle.std.proofs.Math.Option.{Option, none, some}
use Rattle.options.specs.Message.{Field, options, file, sname, start, bytes, cookie, shortest, longest, Opt, place}
use Rattle.options.specs.Reading.{Reading, accepted, refused, cut, record_of, same, read_message, pieces}
use Rattle.options.specs.Kinds.{Table}
use Rattle.options.specs.Answers.{in_one, Answer, Absent, Refused, Found, content_of, no_code, lookup, given, Filled, unfilled}

-- ---- [I1] The index of a message

-- "256 lent 16-bit numbers"
abbrev pub entry_count : ℕ
entry_count = 256

-- [I1] "the place of code c's byte, 0 if absent, 65,535 if it comes in pieces": from the pieces of the code
abbrev pub entry_of : List Opt → ℕ
entry_of [] = 0
entry_of (o ∷ []) = place o
entry_of (o ∷ q ∷ os) = 65535

-- "entry c": the entries of n codes from c on
unfoldable pub entries_from : ℕ → ℕ → List Opt → List ℕ
unfolding pieces
entries_from c zero os = []
entries_from c (suc n) os = entry_of (pieces c os) ∷ entries_from (suc c) n os

-- "256 lent 16-bit numbers, entry c being ..", from the options of the message
unfoldable pub index_of : List Opt → List ℕ
unfolding entries_from
index_of os = entries_from 0 entry_count os

-- [I5] 1, 2, 3, and then "18 for an index not of 256 numbers, with their count"; else `next`
abbrev pub head_or : {A : Type 0} → (ℕ → ℕ → A) → List ℕ → List ℕ → A → A
head_or refuse m idx next =
    cond (ltb (length m) shortest) (refuse 1 (length m))
    (cond (ltb longest (length m)) (refuse 2 (length m))
    (cond (same (take 4 (drop 236 m)) cookie) (cond (eqb (length idx) entry_count) next (refuse 18 (length idx))) (refuse 3 236)))

-- the numbers; and as the other calls that fill a lent buffer do, how many bytes were given: 256 numbers of two (docs/DECISIONS.md)
abbrev pub built_in : Reading → List ℕ → Filled
built_in (refused n p) old = unfilled n p old
built_in (accepted os) old = record { answer = given 512; buffer = index_of os }

-- [I2, I5] "Building gives 1, 2, 3, 18, then the reader's": into the numbers `old`
unfoldable pub build : List ℕ → List ℕ → Filled
unfolding index_of read_message
build m old =
    let built : Filled = built_in (read_message m) old in
    head_or (λ n p. unfilled n p old) m old built

-- ---- [I4] An entry, as it is used: "only if it lies in one of the three fields, that byte is the code, and length and data lie in that field"

-- "it lies in one of the three fields": that of a message of n bytes which holds the place e ("sname (44 to 107), file (108 to 235) and .. options (240 to the end)")
abbrev pub field_at : ℕ → ℕ → Option Field
field_at n e =
    cond (ltb e 44) none
    (cond (ltb e 108) (some sname)
    (cond (ltb e 236) (some file)
    (cond (ltb e 240) none (cond (ltb e n) (some options) none))))

-- the option with the code c at the offset i of a field, whose bytes from there on are these
abbrev pub option_in : ℕ → Field → ℕ → List ℕ → Option Opt
option_in c fd i [] = none
option_in c fd i (b ∷ bs) = cond (eqb b c) (cond (cut bs) none (some (record { field = fd; offset = i; item = record_of b bs }))) none

-- the same at the place e, in the field that holds it
abbrev pub option_at : List ℕ → ℕ → ℕ → Option Field → Option Opt
option_at m c e none = none
option_at m c e (some fd) = option_in c fd (e - start fd) (drop (e - start fd) (bytes fd m))

-- the option that the entry e of the code c is used for; none where it is unusable
unfoldable pub used_entry : List ℕ → ℕ → ℕ → Option Opt
used_entry m c e = option_at m c e (field_at (length m) e)

-- what is answered of it, in one piece; [R19] "19 for an unusable entry, the entry being the place"
abbrev pub entry_answer : Table → (ℕ → Bool) → ℕ → ℕ → Option Opt → Answer
entry_answer t set c e none = Refused 19 e
entry_answer t set c e (some o) = Found (record { field = o.field; offset = o.offset; wholeness = in_one }) (content_of t set c o.item.body)

-- [I4] "0 says absent, 65,535 uses the plain walk, any other entry is used only if .."
unfoldable pub by_entry : Table → (ℕ → Bool) → List ℕ → ℕ → ℕ → Answer
unfolding used_entry lookup
by_entry t set m c e =
    let walked : Answer = lookup t set m c in
    cond (eqb e 0) Absent (cond (eqb e 65535) walked (entry_answer t set c e (used_entry m c e)))

-- [I3, I5] "18 .. after 10, 1, 2, 3": the lookup of c in m through the index idx
unfoldable pub lookup_by : Table → (ℕ → Bool) → List ℕ → List ℕ → ℕ → Answer
unfolding by_entry
lookup_by t set m idx c =
    let used : Answer = by_entry t set m c (get_or idx c 0) in
    cond (no_code c) (Refused 10 0) (head_or Refused m idx used)
