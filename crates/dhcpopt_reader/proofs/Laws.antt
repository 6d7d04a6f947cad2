-- Answers of the calls as plain numbers. Assumes nothing.
use mathlib.Core.Path.{◌≡◌, sym, ap, ◌∙◌}
use mathlib.Core.Bool.{Bool, cond}
use mathlib.Core.List.{List}
use Prim.Native.Nat.{ℕ, ◌+◌, ◌-◌}
use native.Mathlib.Omega.{arith}
use lib.Dec.{eqb}
use lib.IntN.{ℤ}
use Rattle.options.specs.Message.{start, Opt}
use Rattle.options.specs.Kinds.{kinds}
use Rattle.options.specs.Answers as asked
use Rattle.options.specs.ReadingClaims.{Shows}
use Rattle.theorems.proofs.Fields.{option_in_lem}
use Rattle.theorems.proofs.Lookup.{shows_what_stands}
use Rattle.theorems.proofs.Pieces.{first_stands}
use Rattle.theorems.proofs.Lengths.{field_le, message_short}
use Rattle.dhcpopt_reader.specs.declared.PlainContent.{PlainContent}
use Rattle.dhcpopt_reader.specs.Plain.{field_number_value, plain_whole, plain_several, plain_found, Near}

-- ---- The lookup's answer

-- an origin and a content, number by number
pub found_is : (g : asked.Origin) (x y : PlainContent) (f b p n k : ℕ) (z : ℤ) → x ≡ y → f ≡ field_number_value g.field → b ≡ start g.field → p ≡ cond (eqb x.status 5) (b + g.offset + 2 - 2) 0
    → z ≡ x.number → n ≡ plain_whole g.wholeness → k ≡ plain_several g.wholeness
    → record {
      status = x.status;
      kind = x.kind;
      refusal = x.refusal;
      field = f;
      number = z;
      place = p;
      offset = g.offset;
      start = b + g.offset + 2;
      length = x.length;
      whole = n;
      several = k;
    }
    ≡ plain_found g y
found_is g x y f b p n k z xy ff bb pp zz nn kk =
    let e : start g.field + g.offset + 2 - 2 ≡ start g.field + g.offset = omega arith in
    rw (zz, pp, ff, bb, nn, kk, e) (ap (plain_found g) xy)

-- the lookup's origin is near
lookup_near : (set : ℕ → Bool) (m : List ℕ) (c : ℕ) (a : asked.Answer) → asked.lookup kinds set m c ≡ a → Near a
lookup_near set m c asked.Absent e = tt
lookup_near set m c (asked.Refused n p) e = tt
lookup_near set m c (asked.Found g x) e =
    let s : Shows kinds set m c g x = (shows_what_stands kinds set m c g x).0 e in
    let o : Opt = s.first in
    omega (arith, s.origin_is.offset_is, option_in_lem (first_stands s.are_pieces).stands.option, field_le o.field m, message_short m s.is_accepted)

pub answer_near : (set : ℕ → Bool) (m : List ℕ) (c : ℕ) (a : asked.Answer) → a ≡ asked.lookup kinds set m c → Near a
answer_near set m c a e = lookup_near set m c a (sym e)
