-- What the code's names stand for, case by case. Assumes nothing.
use mathlib.Core.Path.{refl}
use Rattle.lookup.specs.Shown.{ContentByCase, OriginByCase, AnswerByCase, ExtentByCase}

pub content_by_case : ContentByCase
content_by_case =
    record {
      unknown = λ n. refl;
      broken = λ n. refl;
      one_address = λ n. refl;
      address_list = λ n. refl;
      address_pairs = λ n. refl;
      flag = λ n. refl;
      one_byte = λ n. refl;
      of_16_bits = λ n. refl;
      list_of_16_bits = λ n. refl;
      unsigned_32_bits = λ n. refl;
      signed_32_bits = λ z. refl;
      text = λ n. refl;
      opaque = λ n. refl;
      relay = λ n. refl;
      routes = λ n. refl;
    }

pub origin_by_case : OriginByCase
origin_by_case = record { when_in_options = λ i x. refl; when_in_file = λ i x. refl; when_in_sname = λ i x. refl; when_in_one = refl; when_in_pieces = λ n. refl }

pub answer_by_case : AnswerByCase
answer_by_case = record { absent = refl; refused = λ n p. refl; found = λ g x. refl }

pub extent_by_case : ExtentByCase
extent_by_case s n = refl
