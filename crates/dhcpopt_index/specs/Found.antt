-- The field that holds a place, which the contract of `span_at` rests on; and what the functions below the calls are held to. Assumes nothing.
use Rattle.std.specs.Prelude.{cond, List, ℕ, ◌+◌, ◌-◌, eqb, ltb, leb, Option, Some, None}
use Rattle.options.specs.Kinds.{text, unless, ascii, broken, value_fault_value, meaning}
use Rattle.options.specs.Answers as asked
use Rattle.message.specs.Fields.{field_of}
use Rattle.message.specs.declared.Field.TheVariants.{Options, File, Sname}
use Rattle.dhcpopt_reader.specs.declared.PlainAnswer.{PlainAnswer}
use Rattle.dhcpopt_reader.specs.declared.PlainContent.{PlainContent}
use Rattle.dhcpopt_reader.specs.Plain.{field_number_value, plain_content, plain_part}
use Rattle.dhcpopt_index.specs.declared.Span.{Span}

-- what is answered of a text with the data d, if its length is right
abbrev pub text_content_value : List ℕ → asked.Content
text_content_value d = asked.known (unless (value_fault_value ascii d) (meaning text d))

-- what is answered of a part of n bytes of the kind k, which a fault may break
abbrev pub part_content : (fault k n : ℕ) → PlainContent
part_content fault k n = cond (eqb fault 0) (plain_part 4 k n) (plain_content (asked.known (broken fault)))

-- the field that holds the place e of a message of n bytes, where one does
abbrev pub span_at_value : ℕ → ℕ → Option Span
span_at_value n e =
    cond (leb 240 e) (Some (record { field = Options; base = 240; end = n }))
    (cond (ltb e 44) None
    (cond (ltb e 108) (Some (record { field = Sname; base = 44; end = 108 }))
    (cond (ltb e 236) (Some (record { field = File; base = 108; end = 236 })) None)))

-- an option in one piece, whose code byte is at the place p
abbrev pub found_at : Span → ℕ → PlainContent → PlainAnswer
found_at s p x =
    record {
      status = x.status;
      kind = x.kind;
      refusal = x.refusal;
      field = field_number_value (field_of s.field);
      number = x.number;
      place = cond (eqb x.status 5) p 0;
      offset = p - s.base;
      start = p + 2;
      length = x.length;
      whole = 0;
      several = 0;
    }
