-- `theorems::proved` meets its contract: each statement by its proof. Assumes nothing.
use Rattle.theorems.proofs.Fields.{nothing_after_end}
use Rattle.theorems.proofs.Reading.{refused_by_the_table, accepted_by_the_table, own_bytes, reading_is_correct}
use Rattle.theorems.proofs.Numbers.{reading_numbers, answer_numbers, index_numbers}
use Rattle.theorems.proofs.Lengths.{fields_in_order}
use Rattle.theorems.proofs.Lookup.{absent_iff_not_held, shows_what_stands, held_has_origin, origin_is_the_code_byte, verdict_is_the_number, lookup_refused_by_the_table, known_set_indifferent, lookup_is_correct}
use Rattle.theorems.proofs.Pieces.{pieces_right, one_pieces_of, held_iff_piece, joined_right, stands_once}
use Rattle.theorems.proofs.KindTable.{kinds_by_code, codes_without_row, known_codes, rows_retired}
use Rattle.theorems.proofs.Bits.{marked_right}
use Rattle.theorems.proofs.KindRules.{kinds_are_the_table, kinds_proper, signed_ends}
use Rattle.theorems.proofs.ByTable.{value_by_the_table, lookup_by_the_table}
use Rattle.theorems.proofs.Parts.{data_is_the_options, no_data_else, text_is_the_answers, no_text_else, text_is_the_options, no_text_of_broken, empty_part_is_zero, shown_bytes_are_the_options}
use Rattle.theorems.proofs.CodesPresent.{present_right, present_as_looked_up, present_refused}
use Rattle.theorems.proofs.Sheets.{records_right, records_refused, records_hold_the_options, records_in_reading_order, records_end_to_end, records_are_shorter, room_is_enough, lent_buffer}
use Rattle.theorems.proofs.Copies.{copy_is_the_options, copy_room_is_enough, copy_refused_by_the_table}
use Rattle.theorems.proofs.Longest.{options_are_short}
use Rattle.theorems.proofs.Decimals.{decimal_is_right, decimal_is_one}
use Rattle.theorems.proofs.Listings.{listing_is_correct}
use Rattle.theorems.proofs.Addresses.{steps_give_the_addresses, step_is_the_address, addresses_are_the_bytes}
use Rattle.theorems.proofs.Entries.{one_index, no_code_no_entry}
use Rattle.theorems.proofs.Indexes.{build_is_right, answers_as_plain, answers_by_the_words, indexed_lookup_is_correct}
use Rattle.theorems.proofs.Cases.{cases_hold}
use Rattle.theorems.proofs.IndexCases.{index_cases_hold}
use Rattle.theorems.proofs.proved.Goals as goal

pub returns : goal.returns
returns c = (
  nothing_after_end,
  refused_by_the_table,
  accepted_by_the_table,
  reading_numbers,
  fields_in_order,
  absent_iff_not_held,
  shows_what_stands,
  held_has_origin,
  origin_is_the_code_byte,
  own_bytes,
  pieces_right,
  one_pieces_of,
  held_iff_piece,
  joined_right,
  stands_once,
  verdict_is_the_number,
  lookup_refused_by_the_table,
  known_set_indifferent,
  lookup_is_correct,
  reading_is_correct,
  kinds_by_code,
  codes_without_row,
  marked_right,
  known_codes,
  rows_retired,
  kinds_are_the_table,
  value_by_the_table,
  kinds_proper,
  signed_ends,
  data_is_the_options,
  no_data_else,
  text_is_the_answers,
  no_text_else,
  text_is_the_options,
  no_text_of_broken,
  empty_part_is_zero,
  shown_bytes_are_the_options,
  present_right,
  present_as_looked_up,
  present_refused,
  records_right,
  records_refused,
  lookup_by_the_table,
  records_hold_the_options,
  records_in_reading_order,
  records_end_to_end,
  records_are_shorter,
  room_is_enough,
  lent_buffer,
  copy_is_the_options,
  copy_room_is_enough,
  options_are_short,
  copy_refused_by_the_table,
  answer_numbers,
  decimal_is_right,
  decimal_is_one,
  listing_is_correct,
  steps_give_the_addresses,
  step_is_the_address,
  addresses_are_the_bytes,
  one_index,
  no_code_no_entry,
  build_is_right,
  answers_as_plain,
  answers_by_the_words,
  index_numbers,
  indexed_lookup_is_correct,
  cases_hold,
  index_cases_hold,
)
