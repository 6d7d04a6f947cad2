-- What C gets of each answer, case by case; and what a refusal leaves in a lent buffer. Assumes nothing.
use mathlib.Core.Path.{◌≡◌, refl, sym, subst}
use mathlib.Core.List.{List, [], ◌∷◌}
use Prim.Native.Nat.{ℕ}
use native.Mathlib.Omega.{arith}
use Rattle.options.specs.Message.{Field, options, file, sname, start, Opt, end_to_end}
use Rattle.options.specs.Kinds.{Kind, address, addresses, pairs, flag, octet, number16, numbers16, unsigned32, signed32, text, opaque, relay, routes, broken, number, part}
use Rattle.options.specs.Reading.{Reading, accepted, refused, read_message, pieces, parse}
use Rattle.options.specs.Vendor.{Items, listed, past, items_in, item_records, vendor_in, vendor_records_value}
use Rattle.options.specs.Answers as asked
use Rattle.filled.specs.Plain.{Kept}
use Rattle.filled.proofs.Kept.{declined_kept, either_kept, given_kept}
use Rattle.ranges.specs.Rows.{number_of}
use Rattle.present.proofs.Kept.{refused_by_a_number}
use Rattle.dhcpopt_reader.specs.declared.PlainAnswer.{PlainAnswer}
use Rattle.dhcpopt_reader.specs.Plain.{field_number_value, plain_whole, plain_several, plain_answer, FieldTold, PiecesTold, KindTold, ToldAs, AnswerByCase, ExtentByCase, AddressByCase, CodesByCase, RecordsKept, CopyKept, VendorKept}
use Rattle.dhcpopt_reader.specs.Plain as told

-- ---- The lookup's answer

field_told : (fd : Field) → FieldTold fd (field_number_value fd) (start fd)
field_told options = told.when_in_options
field_told file = told.when_in_file
field_told sname = told.when_in_sname

pieces_told : (x : asked.Wholeness) → PiecesTold x (plain_several x) (plain_whole x)
pieces_told asked.in_one = told.when_in_one
pieces_told (asked.in_pieces n) = told.when_in_several

kind_told : (k : Kind) → KindTold k (number_of k)
kind_told address = told.one_address
kind_told addresses = told.address_list
kind_told pairs = told.address_pairs
kind_told flag = told.flags
kind_told octet = told.one_byte
kind_told number16 = told.of_16_bits
kind_told numbers16 = told.list_of_16_bits
kind_told unsigned32 = told.unsigned_32_bits
kind_told signed32 = told.signed_32_bits
kind_told text = told.texts
kind_told opaque = told.opaques
kind_told relay = told.relays
kind_told routes = told.route_lists

is_told : (a : asked.Answer) → ToldAs a (plain_answer a)
is_told asked.Absent = told.absent
is_told (asked.Refused n p) = told.refused
is_told (asked.Found g (asked.unknown n)) = told.unknown (field_told g.field) (pieces_told g.wholeness)
is_told (asked.Found g (asked.known (broken n))) = told.when_is_broken (field_told g.field) (pieces_told g.wholeness)
is_told (asked.Found g (asked.known (number k z))) = told.a_number (field_told g.field) (pieces_told g.wholeness) (kind_told k)
is_told (asked.Found g (asked.known (part k n))) = told.a_part (field_told g.field) (pieces_told g.wholeness) (kind_told k)

-- and there is one way to tell it
field_one : {fd : Field} {f first : ℕ} → FieldTold fd f first → (f ≡ field_number_value fd) × (first ≡ start fd)
field_one told.when_in_options = (refl, refl)
field_one told.when_in_file = (refl, refl)
field_one told.when_in_sname = (refl, refl)

pieces_one : {x : asked.Wholeness} {several whole : ℕ} → PiecesTold x several whole → (several ≡ plain_several x) × (whole ≡ plain_whole x)
pieces_one told.when_in_one = (refl, refl)
pieces_one told.when_in_several = (refl, refl)

kind_one : {k : Kind} {n : ℕ} → KindTold k n → n ≡ number_of k
kind_one told.one_address = refl
kind_one told.address_list = refl
kind_one told.address_pairs = refl
kind_one told.flags = refl
kind_one told.one_byte = refl
kind_one told.of_16_bits = refl
kind_one told.list_of_16_bits = refl
kind_one told.unsigned_32_bits = refl
kind_one told.signed_32_bits = refl
kind_one told.texts = refl
kind_one told.opaques = refl
kind_one told.relays = refl
kind_one told.route_lists = refl

one_way : {a : asked.Answer} {r : PlainAnswer} → ToldAs a r → r ≡ plain_answer a
one_way told.absent = refl
one_way told.refused = refl
one_way (told.unknown x y) = rw ((field_one x).0, (field_one x).1, (pieces_one y).0, (pieces_one y).1)
one_way (told.a_number x y k) = rw ((field_one x).0, (field_one x).1, (pieces_one y).0, (pieces_one y).1, kind_one k)
one_way (told.a_part x y k) = rw ((field_one x).0, (field_one x).1, (pieces_one y).0, (pieces_one y).1, kind_one k)
one_way (told.when_is_broken x y) = rw ((field_one x).0, (field_one x).1, (pieces_one y).0, (pieces_one y).1)

pub answer_by_case : AnswerByCase
answer_by_case a r = ((λ e. subst (ToldAs a) (sym e) (is_told a)), one_way)

-- ---- The others

pub extent_by_case : ExtentByCase
extent_by_case s n = refl

pub address_by_case : AddressByCase
address_by_case at a after = (refl, refl)

pub codes_by_case : CodesByCase
codes_by_case words count lowest n p = (refl, refl)

-- ---- The calls that fill a lent buffer

records_in_lem : (m old : List ℕ) (w : Reading) → read_message m ≡ w → Kept (asked.records_in w old) old
records_in_lem m old (refused n p) e = declined_kept n p old (λ z. omega (arith, refused_by_a_number m n p e))
records_in_lem m old (accepted os) e = given_kept (asked.record_bytes (asked.sheet_records os)) old

pub records_kept : RecordsKept
unfolding asked.records
records_kept m old = records_in_lem m old (read_message m) refl

copy_of : (ps : List Opt) (old : List ℕ) → Kept (asked.copy_found ps old) old
copy_of [] old = declined_kept 11 0 old (λ z. omega arith)
copy_of (o ∷ os) old = given_kept (end_to_end (o ∷ os)) old

copy_in : (m old : List ℕ) (c : ℕ) (w : Reading) → read_message m ≡ w → Kept (asked.copy_in_value c w old) old
copy_in m old c (refused n p) e = declined_kept n p old (λ z. omega (arith, refused_by_a_number m n p e))
copy_in m old c (accepted os) e = copy_of (pieces c os) old

pub copy_kept : CopyKept
unfolding asked.copy
copy_kept m c old = either_kept (asked.no_code c) (asked.unfilled 10 0 old) (asked.copy_in_value c (read_message m) old) old (declined_kept 10 0 old (λ z. omega arith)) (copy_in m old c (read_message m) refl)

vendor_in_lem : (w : Items) (old : List ℕ) → Kept (vendor_in w old) old
vendor_in_lem (past i) old = declined_kept 17 i old (λ z. omega arith)
vendor_in_lem (listed xs) old = given_kept (asked.record_bytes (item_records xs)) old

pub vendor_kept : VendorKept
unfolding vendor_records_value
vendor_kept f old = vendor_in_lem (items_in (parse 0 0 f)) old
