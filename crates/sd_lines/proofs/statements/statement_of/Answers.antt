use Rattle.std.proofs.Common.{sym, ◌∙◌}
use Rattle.sd_text.specs.Words.{words_of}
use Rattle.sd_lines.proofs.WordLemmas.{declares, begins}
use Rattle.sd_lines.proofs.statements.statement_of.Goals as goal

pub returns-then-is_word : goal.returns-then-is_word
returns-then-is_word c =
    c.declare_line.ensures ∙ declares c.args.word.now (words_of c.args.rest.now) (sym c.is_word.ensures ∙ c.if-is_word.true)

pub returns-then-is_word-2 : goal.returns-then-is_word-2
returns-then-is_word-2 c =
    c.script_line.ensures ∙ begins c.args.word.now (words_of c.args.rest.now) (sym c.is_word-else-is_word.ensures ∙ c.if-is_word-2.true)
