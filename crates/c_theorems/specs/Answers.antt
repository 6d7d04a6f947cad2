-- DEMAND 2 AT THE CALLS THAT C LINKS: "in an accepted message a code is absent exactly when no active field holds it before that field's END, and what is shown is the
-- option's own bytes or number". Of each call: r is the struct that its contract gives. Assumes nothing.
use Rattle.std.specs.Prelude.{◌≡◌, List, [], ◌∷◌, ◌++◌, Bool, true, ◌⊎◌, ◌↔◌, ℕ, ◌+◌, ◌≤◌, ◌<◌, length, take, drop}
use Rattle.options.specs.Message.{Opt, Holds, PiecesOf}
use Rattle.options.specs.Kinds.{kinds, addresses_of}
use Rattle.options.specs.KindClaims.{BitSet, AllBytes}
use Rattle.options.specs.CodeSet.{marked}
use Rattle.options.specs.Answers.{Answer, lookup, data_of, address_step, present, copy}
use Rattle.options.specs.ReadingClaims.{IsAccepted, CorrectAnswer}
use Rattle.options.specs.AnswerClaims.{JoinedBytes, CodesHeld}
use Rattle.options.specs.Index.{lookup_by}
use Rattle.options.specs.IndexClaims.{BuiltFrom}
use Rattle.options.specs.Reading.{items}
use Rattle.options.specs.Profile.{profile}
use Rattle.options.specs.ProfileClaims.{Reply, Breaks, NamedPieces}
use Rattle.filled.specs.Plain.{plain_filled}
use Rattle.filled.specs.declared.PlainFilled.{PlainFilled}
use Rattle.dhcpopt_reader.specs.Plain.{plain_answer, plain_extent, plain_address, plain_codes, ToldAs}
use Rattle.dhcpopt_reader.specs.declared.PlainAnswer.{PlainAnswer}
use Rattle.dhcpopt_reader.specs.declared.PlainExtent.{PlainExtent}
use Rattle.dhcpopt_reader.specs.declared.PlainCodes.{PlainCodes}
use Rattle.dhcpopt_profile.specs.Plain.{plain_profile}
use Rattle.dhcpopt_profile.specs.declared.PlainProfile.{PlainProfile}
use Rattle.c_theorems.specs.Refusals.{known}

-- the right answer, and its members as the papers number them
pub record ToldRight (set : ℕ → Bool) (m : List ℕ) (c : ℕ) (r : PlainAnswer) : Type 0 where
  pub answer : Answer
  pub is_right : CorrectAnswer kinds set m c answer
  pub is_told : ToldAs answer r

-- which struct is the right one: no other is
abbrev pub LookupForC : Type 0
LookupForC = (k0 k1 k2 k3 : ℕ) (m : List ℕ) (c : ℕ) (r : PlainAnswer) → c ≤ 255 → r ≡ plain_answer (lookup kinds (known k0 k1 k2 k3) m c) ↔ ToldRight (known k0 k1 k2 k3) m c r

-- status 0: "absent exactly when no active field holds it before that field's END"
abbrev pub AbsentForC : Type 0
AbsentForC =
    (k0 k1 k2 k3 : ℕ) (m : List ℕ) (c : ℕ) (r : PlainAnswer) → IsAccepted m → 1 ≤ c → c ≤ 254 → r ≡ plain_answer (lookup kinds (known k0 k1 k2 k3) m c)
    → r.status ≡ 0 ↔ (Holds m c → ⊥)

-- "Demands 2 and 3 are read of the plain lookup, and of this one where the index was built from the same bytes" (request 07)
abbrev pub IndexLookupForC : Type 0
IndexLookupForC =
    (k0 k1 k2 k3 : ℕ) (m idx : List ℕ) (c : ℕ) (r : PlainAnswer) → c ≤ 255 → BuiltFrom m idx
    → r ≡ plain_answer (lookup_by kinds (known k0 k1 k2 k3) m idx c) ↔ ToldRight (known k0 k1 k2 k3) m c r

-- "the part of the caller's message that holds all data bytes", of a code in one piece; 0 and 0 for every other
pub record DataToldRight (m : List ℕ) (c : ℕ) (r : PlainExtent) : Type 0 where
  pub own_bytes : (o : Opt) → IsAccepted m → PiecesOf m c (o ∷ []) → (r.length ≡ length o.item.body) × (take r.length (drop r.start m) ≡ o.item.body)
  pub else_none : ((o : Opt) → IsAccepted m → PiecesOf m c (o ∷ []) → ⊥) → (r.start ≡ 0) × (r.length ≡ 0)

abbrev pub DataForC : Type 0
DataForC = (m : List ℕ) (c : ℕ) (r : PlainExtent) → r ≡ plain_extent (data_of m c) → DataToldRight m c r

-- "copies the joined bytes into a lent buffer, bytes beyond them kept; .. it answers how many bytes it gave" (request 02)
abbrev pub CopyForC : Type 0
CopyForC =
    (m : List ℕ) (c : ℕ) (d old : List ℕ) (r : PlainFilled) (after : List ℕ) → IsAccepted m → JoinedBytes m c d → length d ≤ length old
    → (r ≡ plain_filled (copy m c old).answer) × (after ≡ (copy m c old).buffer)
    → (r ≡ record { refusal = 0; size = length d; place = 0 }) × (take (length d) after ≡ d) × (drop (length d) after ≡ drop (length d) old)

-- "four words marking the codes present (52 included), how many bits are set in them, and the lowest code, or 0 if none"
pub record PresentToldRight (m : List ℕ) (r : PlainCodes) : Type 0 where
  pub not_refused : (r.refusal ≡ 0) × (r.place ≡ 0)
  pub four_words : length r.words ≡ 4
  pub marks : (c : ℕ) → c < 256 → marked r.words c ≡ true ↔ Holds m c
  pub counts : CodesHeld m r.count
  pub lowest_least : (c : ℕ) → Holds m c → r.lowest ≤ c
  pub lowest_held : Holds m r.lowest ⊎ ((r.lowest ≡ 0) × ((c : ℕ) → Holds m c → ⊥))

abbrev pub PresentForC : Type 0
PresentForC = (m : List ℕ) (r : PlainCodes) → AllBytes m → IsAccepted m → r ≡ plain_codes (present m) → PresentToldRight m r

-- "each step gives the next address, .., and the reader moved on, or done": the steps from the place `at` on, each taken at the place that the one before gave
pub data StepsForC (d : List ℕ) : ℕ → List ℕ → Type 0 where
  no_more : {at : ℕ} → plain_address at (address_step d at) ≡ record { given = 0; address = 0; next = at } → StepsForC d at []
  one_more : {at after x : ℕ} {xs : List ℕ} → plain_address at (address_step d at) ≡ record { given = 1; address = x; next = after } → StepsForC d after xs → StepsForC d at (x ∷ xs)

-- they give the list's addresses, each once and in order (AddressesAreTheBytes says which)
abbrev pub AddressesForC : Type 0
AddressesForC = (d : List ℕ) → StepsForC d 0 (addresses_of d)

-- "The answer is yes, or the full set of rules broken" (request 13): of a reply, bit i of `broken` is set exactly where the rule of bit i is broken, and no other bit is
pub record ProfileToldRight (m : List ℕ) (r : PlainProfile) : Type 0 where
  pub not_refused : (r.refusal ≡ 0) × (r.place ≡ 0)
  pub eight_bits : r.broken < 256
  pub bits : (i : ℕ) → i < 8 → BitSet r.broken i ↔ Breaks m i

abbrev pub ProfileForC : Type 0
ProfileForC = (m : List ℕ) (r : PlainProfile) → IsAccepted m → Reply m → r ≡ plain_profile (profile m) ↔ ProfileToldRight m r

-- "Accepted messages whose pieces of 53 and the codes named have the same codes and bytes in the same reading order, whatever stands between, get the same answer or
-- refusal": every member
abbrev pub SameNamedForC : Type 0
SameNamedForC =
    (m m' : List ℕ) (xs ys : List Opt) (r r' : PlainProfile) → IsAccepted m → IsAccepted m' → NamedPieces m xs → NamedPieces m' ys → items xs ≡ items ys
    → r ≡ plain_profile (profile m) → r' ≡ plain_profile (profile m') → r ≡ r'
