use Rattle.std.proofs.Common.{◌≡◌, ◌++◌, length}
use Rattle.sd_text.specs.Words.{words_of}
use Rattle.sd_tasks.specs.Forms.{head_of, options_of}
use Rattle.sd_tasks.specs.Written.{spaced}
use Rattle.sd_tasks.proofs.forms.take_head.Given as goal

-- what was appended, and the head of what is left, are the head of the line
abbrev pub invariant-loop-word : goal.invariant-loop-word
invariant-loop-word l = record {
  head : l.head.items ++ spaced (head_of (words_of l.rest)) ≡ l.initial.head.items ++ spaced (head_of (words_of l.line));
  options : options_of (words_of l.rest) ≡ options_of (words_of l.line);
}

abbrev pub decreases-loop-word : goal.decreases-loop-word
decreases-loop-word l = length (words_of l.rest)
