use Rattle.sd_text.proofs.NumberLemmas.{number_of-decimal, signed_of-decimal, signed_of-negative, is_word-decimal, is_line-decimal}
use Rattle.sd_text.proofs.laws.numbers_of_words.Goals as goal

pub returns : goal.returns
returns c = record {
  again = number_of-decimal;
  signed = signed_of-decimal;
  negative = signed_of-negative;
  word = is_word-decimal;
  line = is_line-decimal;
}
