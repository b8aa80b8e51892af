use Rattle.std.proofs.Common.{refl}
use Rattle.sd_text.specs.Words.{words_of}
use Rattle.sd_text.proofs.WordLemmas.{are_words, words_of-joined}
use Rattle.sd_text.proofs.laws.words_of_lines.Goals as goal

pub returns : goal.returns
unfolding words_of
returns c = record { words = are_words; again = words_of-joined; blank = λ rest. refl; comment = λ rest. refl }
