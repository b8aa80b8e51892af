use Rattle.std.proofs.Common.{◌≡◌, length}
use Rattle.sd_text.specs.Words.{words_of}
use Rattle.sd_tasks.specs.Forms.{options_of}
use Rattle.sd_tasks.proofs.forms.has_options.Given as goal

abbrev pub invariant-loop-word : goal.invariant-loop-word
invariant-loop-word l = options_of (words_of l.rest) ≡ options_of (words_of l.line)

abbrev pub decreases-loop-word : goal.decreases-loop-word
decreases-loop-word l = length (words_of l.rest)
