use Rattle.std.proofs.Common.{◌≡◌, ◌-◌, ◌≤◌, ◌++◌, length, drop}
use Rattle.sd_text.specs.Words.{words_of}
use Rattle.sd_tasks.specs.Written.{spaced}
use Rattle.sd_tasks.proofs.written.put_spaced.Given as goal

-- what was appended, and the words that are left, are the whole
abbrev pub invariant-loop-start : goal.invariant-loop-start
invariant-loop-start l = record {
  inside : l.from ≤ length l.rest;
  words : l.text.items ++ spaced (words_of (drop l.from l.rest)) ≡ l.initial.text.items ++ spaced (words_of l.rest);
}

abbrev pub decreases-loop-start : goal.decreases-loop-start
decreases-loop-start l = length l.rest - l.from
