use Rattle.std.proofs.Common.{◌≡◌, ◌^◌, ◌<◌, ◌≤◌, length, drop}
use Rattle.std.specs.Str.{all_ascii_digits}
use Rattle.std.specs.Str.Parse.{digits_value, digits_value_after}
use Rattle.sd_entry_reader.proofs.words.few_digits_of.Given as goal

-- what is left decides, and gives the rest of the value
abbrev pub invariant-loop-byte : goal.invariant-loop-byte
invariant-loop-byte l = record {
  short : length l.word ≤ 9;
  digits : all_ascii_digits (drop l.byte-index l.word) ≡ all_ascii_digits l.word;
  rest : digits_value_after 10 l.value (drop l.byte-index l.word) ≡ digits_value 10 l.word;
  bound : l.value < 10 ^ l.byte-index;
}
