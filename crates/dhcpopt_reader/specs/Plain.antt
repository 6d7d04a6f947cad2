-- THE ANSWERS AS PLAIN NUMBERS, FOR C: each case with its values. Every contract of this crate's calls rests on this file. Assumes nothing.
use Rattle.std.specs.Prelude.{◌≡◌, List, cond, ◌↔◌, ℕ, ◌+◌, ◌≤◌, eqb, ℤ, pos}
use Rattle.options.specs.Message.{Field, options, file, sname}
use Rattle.options.specs.Kinds.{Kind, address, addresses, pairs, flag, octet, number16, numbers16, unsigned32, signed32, text, opaque, relay, routes, broken, number, part}
use Rattle.options.specs.Answers as asked
use Rattle.options.specs.Vendor.{vendor_records_value}
use Rattle.filled.specs.Plain.{Kept}
use Rattle.ranges.specs.Rows.{number_of}
use Rattle.present.specs.Marked.{number_of as refusalOf, place_of, Shown}
use Rattle.dhcpopt_reader.specs.declared.PlainAnswer.{PlainAnswer}
use Rattle.dhcpopt_reader.specs.declared.PlainContent.{PlainContent}
use Rattle.dhcpopt_reader.specs.declared.PlainExtent.{PlainExtent}
use Rattle.dhcpopt_reader.specs.declared.PlainAddress.{PlainAddress}
use Rattle.dhcpopt_reader.specs.declared.PlainCodes.{PlainCodes}

-- ---- The lookup's answer

abbrev pub plain_number : ℕ → ℤ → PlainContent
plain_number k z = record { status = 3; kind = k; refusal = 0; number = z; length = 0 }

abbrev pub plain_part : ℕ → ℕ → ℕ → PlainContent
plain_part status k n = record { status = status; kind = k; refusal = 0; number = pos 0; length = n }

-- status 1 unknown, 3 a kind with its number, 4 a kind with its part, 5 broken; the kinds are numbered 1 to 13
abbrev pub plain_content : asked.Content → PlainContent
plain_content (asked.unknown n) = plain_part 1 0 n
plain_content (asked.known (broken n)) = record { status = 5; kind = 0; refusal = n; number = pos 0; length = 0 }
plain_content (asked.known (number k z)) = plain_number (number_of k) z
plain_content (asked.known (part k n)) = plain_part 4 (number_of k) n

-- "the field that holds its code byte (options, file, sname)" (request 01); 0 is none
abbrev pub field_number_value : Field → ℕ
field_number_value options = 1
field_number_value file = 2
field_number_value sname = 3

-- "where there are several pieces the answer also says so, with the whole joined length" (request 02)
abbrev pub plain_whole : asked.Wholeness → ℕ
plain_whole asked.in_one = 0
plain_whole (asked.in_pieces n) = n

abbrev pub plain_several : asked.Wholeness → ℕ
plain_several asked.in_one = 0
plain_several (asked.in_pieces n) = 1

-- an answer with its origin; of what is broken the place is its code byte's
abbrev pub plain_found : asked.Origin → PlainContent → PlainAnswer
plain_found g x =
    record {
      status = x.status;
      kind = x.kind;
      refusal = x.refusal;
      field = field_number_value g.field;
      number = x.number;
      place = cond (eqb x.status 5) (asked.code_place g) 0;
      offset = g.offset;
      start = asked.start_of g;
      length = x.length;
      whole = plain_whole g.wholeness;
      several = plain_several g.wholeness;
    }

-- status 0 absent, 2 refused
abbrev pub plain_refusal : ℕ → ℕ → ℕ → PlainAnswer
plain_refusal status n p =
    record { status = status; kind = 0; refusal = n; field = 0; number = pos 0; place = p; offset = 0; start = 0; length = 0; whole = 0; several = 0 }

abbrev pub plain_answer : asked.Answer → PlainAnswer
plain_answer asked.Absent = plain_refusal 0 0 0
plain_answer (asked.Refused n p) = plain_refusal 2 n p
plain_answer (asked.Found g x) = plain_found g (plain_content x)

-- an origin within 64 KiB, so that its start is a number of the machine; every lookup's is
abbrev pub Near : asked.Answer → Type 0
Near asked.Absent = Unit {0}
Near (asked.Refused n p) = Unit {0}
Near (asked.Found g x) = g.offset ≤ 65536

-- ---- The other answers

abbrev pub plain_extent : asked.Extent → PlainExtent
plain_extent e = record { start = e.start; length = e.size }

-- an address and the place after it; or no address, and the place as it was
abbrev pub plain_address : ℕ → asked.AddressStep → PlainAddress
plain_address at (asked.next a after) = record { given = 1; address = a; next = after }
plain_address at asked.done = record { given = 0; address = 0; next = at }

-- the codes present as numbers, and the same of the answer
abbrev pub plain_shown : Shown → PlainCodes
plain_shown x = record { words = x.words; count = x.count; lowest = x.lowest; refusal = x.number; place = x.place }

abbrev pub plain_codes : asked.Present → PlainCodes
plain_codes r =
    record { words = r.words; count = r.count; lowest = r.lowest; refusal = refusalOf r.verdict; place = place_of r.verdict }

-- ---- Case by case, in the papers' numbers: every member of every answer, 0 where the answer has none

-- "the field that holds its code byte (options, file, sname)" (request 01), by its number and its first byte
pub data FieldTold : Field → (number first : ℕ) → Type 0 where
  when_in_options : FieldTold options 1 240
  when_in_file : FieldTold file 2 108
  when_in_sname : FieldTold sname 3 44

-- "where there are several pieces the answer also says so, with the whole joined length" (request 02): the members several and whole
pub data PiecesTold : asked.Wholeness → (several whole : ℕ) → Type 0 where
  when_in_one : PiecesTold asked.in_one 0 0
  when_in_several : {n : ℕ} → PiecesTold (asked.in_pieces n) 1 n

-- the kinds in the order of document 01's table
pub data KindTold : Kind → (number : ℕ) → Type 0 where
  one_address : KindTold address 1
  address_list : KindTold addresses 2
  address_pairs : KindTold pairs 3
  flags : KindTold flag 4
  one_byte : KindTold octet 5
  of_16_bits : KindTold number16 6
  list_of_16_bits : KindTold numbers16 7
  unsigned_32_bits : KindTold unsigned32 8
  signed_32_bits : KindTold signed32 9
  texts : KindTold text 10
  opaques : KindTold opaque 11
  relays : KindTold relay 12
  route_lists : KindTold routes 13

-- the six statuses. `start` "always equals the field's first byte plus offset plus two, at length 0 too" (request 01)
pub data ToldAs : asked.Answer → PlainAnswer → Type 0 where
  absent : ToldAs asked.Absent (record { status = 0; kind = 0; refusal = 0; field = 0; number = pos 0; place = 0; offset = 0; start = 0; length = 0; whole = 0; several = 0 })
  refused : {n p : ℕ} → ToldAs (asked.Refused n p) (record { status = 2; kind = 0; refusal = n; field = 0; number = pos 0; place = p; offset = 0; start = 0; length = 0; whole = 0; several = 0 })
  unknown : {fd : Field} {x : asked.Wholeness} {f first several whole i n : ℕ} → FieldTold fd f first → PiecesTold x several whole
      → ToldAs (asked.Found (record { field = fd; offset = i; wholeness = x }) (asked.unknown n))
      (record { status = 1; kind = 0; refusal = 0; field = f; number = pos 0; place = 0; offset = i; start = first + i + 2; length = n; whole = whole; several = several })
  a_number : {fd : Field} {x : asked.Wholeness} {k : Kind} {f first several whole kind i : ℕ} {z : ℤ} → FieldTold fd f first → PiecesTold x several whole → KindTold k kind
      → ToldAs (asked.Found (record { field = fd; offset = i; wholeness = x }) (asked.known (number k z)))
      (record { status = 3; kind = kind; refusal = 0; field = f; number = z; place = 0; offset = i; start = first + i + 2; length = 0; whole = whole; several = several })
  a_part : {fd : Field} {x : asked.Wholeness} {k : Kind} {f first several whole kind i n : ℕ} → FieldTold fd f first → PiecesTold x several whole → KindTold k kind
      → ToldAs (asked.Found (record { field = fd; offset = i; wholeness = x }) (asked.known (part k n)))
      (record { status = 4; kind = kind; refusal = 0; field = f; number = pos 0; place = 0; offset = i; start = first + i + 2; length = n; whole = whole; several = several })
  -- 8 or 9, at the "code byte"
  when_is_broken : {fd : Field} {x : asked.Wholeness} {f first several whole i n : ℕ} → FieldTold fd f first → PiecesTold x several whole
      → ToldAs (asked.Found (record { field = fd; offset = i; wholeness = x }) (asked.known (broken n)))
      (record { status = 5; kind = 0; refusal = n; field = f; number = pos 0; place = first + i; offset = i; start = first + i + 2; length = 0; whole = whole; several = several })

-- what C gets of an answer is that, and no answer is told in another way
abbrev pub AnswerByCase : Type 0
AnswerByCase = (a : asked.Answer) (r : PlainAnswer) → r ≡ plain_answer a ↔ ToldAs a r

-- "there a part is a start and a length, 0 and 0 when it is empty"
abbrev pub ExtentByCase : Type 0
ExtentByCase = (s n : ℕ) → plain_extent (record { start = s; size = n }) ≡ record { start = s; length = n }

-- "each step gives the next address, .., and the reader moved on, or done": then none is given, the address is 0, and the place stays
abbrev pub AddressByCase : Type 0
AddressByCase =
    (at a after : ℕ) → (plain_address at (asked.next a after) ≡ record { given = 1; address = a; next = after }) × (plain_address at asked.done ≡ record { given = 0; address = 0; next = at })

-- the codes of a message that passed have refusal and place 0 and 0
abbrev pub CodesByCase : Type 0
CodesByCase =
    (words : List ℕ) (count lowest n p : ℕ)
    → (plain_codes (record { verdict = asked.passed; words = words; count = count; lowest = lowest }) ≡ record { words = words; count = count; lowest = lowest; refusal = 0; place = 0 })
    × (plain_codes (record { verdict = asked.refused_with n p; words = words; count = count; lowest = lowest }) ≡ record { words = words; count = count; lowest = lowest; refusal = n; place = p })

-- ---- The calls that fill a lent buffer: no refusal has number 0, and none changes a byte. Their struct is told case by case in crate filled (FilledByCase)

abbrev pub RecordsKept : Type 0
RecordsKept = (m old : List ℕ) → Kept (asked.records m old) old

abbrev pub CopyKept : Type 0
CopyKept = (m : List ℕ) (c : ℕ) (old : List ℕ) → Kept (asked.copy m c old) old

abbrev pub VendorKept : Type 0
VendorKept = (f old : List ℕ) → Kept (vendor_records_value f old) old
