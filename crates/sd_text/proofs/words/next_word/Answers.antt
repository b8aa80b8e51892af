use Rattle.std.proofs.Common.{arith}
use Rattle.sd_text.proofs.WordLemmas.{words-from, words-from_none}
use Rattle.sd_text.proofs.words.next_word.Goals as goal

pub returns-then-start-end-clause-word : goal.returns-then-start-end-clause-word
returns-then-start-end-clause-word c =
    words-from c.args.line.now c.args.from c.blank_len.result c.word_len.result c.blank_len.ensures.len c.word_len.ensures.len (omega arith)

pub returns-else-start-end-clause-none : goal.returns-else-start-end-clause-none
returns-else-start-end-clause-none c =
    words-from_none c.args.line.now c.args.from c.blank_len.result c.word_len.result c.blank_len.ensures.len c.word_len.ensures.len (omega arith)
